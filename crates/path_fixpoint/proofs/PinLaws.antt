-- The output pins of a circuit, instance by instance, and their roots.
use Rattle.std.proofs.Common.{◌≡◌, ℕ, ◌+◌, ◌<◌, ◌≤◌, ◌⊎◌, ◌++◌, ◌∷◌, [], ◌==◌, Bool, true, cond, List, length, map, take, drop, arith, ap, refl, sym, subst, ◌∙◌, inl, inr}
use Rattle.std.specs.Prelude.{flat_map}
use Rattle.std.proofs.lemmas.Bool.{eq-eqb}
use Rattle.std.proofs.lemmas.Grind.{flat_map-append}
use Rattle.std.proofs.lemmas.List.{length-append, length-take-le, map-append, take-append-drop, take_all}
use Rattle.std.proofs.lemmas.Option.{slice_get_within}
use Rattle.std.proofs.lemmas.List.Sums.{sum_by-append, sum_by-cons, sum_by-take-le}
use Rattle.vrt_model.proofs.Lists.{at_back, at_either, at_front, at_last, at_split, take_one}
use Rattle.vrt_model.proofs.Members.{all_among, among_any, among_flat_map, flat_map_among}
use Rattle.vrt_model.specs.Circuits.{IsDrive, IsNet, IsWhole}
use Rattle.vrt_model.specs.Levels.{source_level}
use Rattle.vrt_model.specs.Lists.{At, Among}
use Rattle.vrt_model.specs.Networks.{HasRanges}
use Rattle.vrt_model.specs.Path.{level_of_drive}
use Rattle.vrt_model.specs.State.{OutputPin}
use Rattle.vrt_model.specs.declared.circuit.Circuit.{Circuit}
use Rattle.vrt_model.specs.declared.ids.Net.{Net}
use Rattle.vrt_model.specs.declared.whole.Whole.{Whole}
use Rattle.vrt_model.specs.declared.whole.WholePin.{WholePin}
use Rattle.channel_parts.specs.declared.part.Part.{Part}
use Rattle.path_fixpoint.specs.Parts.{IsPlace, has_net, pins_at, pins_of}
use Rattle.path_fixpoint.specs.Sources.{HasDriveLevel, IsPinSource}
use Rattle.path_fixpoint.proofs.SourceLevels.{drive_ranges}

-- ---- instance by instance

abbrev pub outputs_of : List Whole → List WholePin
outputs_of wholes = flat_map (λ (w : Whole). w.outputs) wholes

abbrev pin_of : OutputPin → WholePin
pin_of out = out.pin

abbrev of_whole : Whole → WholePin → OutputPin
of_whole w p = record { whole = w; pin = p }

pins_alone : (w : Whole) (pins : List WholePin) → map pin_of (map (of_whole w) pins) ≡ pins
pins_alone w [] = refl
pins_alone w (p ∷ pins) = ap (λ (ps : List WholePin). p ∷ ps) (pins_alone w pins)

pins_are : (wholes : List Whole) → map pin_of (flat_map (λ (w : Whole). map (of_whole w) w.outputs) wholes) ≡ outputs_of wholes
pins_are [] = refl
pins_are (w ∷ wholes) =
    map-append pin_of (map (of_whole w) w.outputs) (flat_map (λ (x : Whole). map (of_whole x) x.outputs) wholes)
    ∙ ap (λ (ps : List WholePin). ps ++ map pin_of (flat_map (λ (x : Whole). map (of_whole x) x.outputs) wholes)) (pins_alone w w.outputs)
    ∙ ap (λ (ps : List WholePin). w.outputs ++ ps) (pins_are wholes)

pub pins_each : (c : Circuit) → pins_of c ≡ outputs_of c.wholes
pins_each c = pins_are c.wholes

-- the pins of the first instances
abbrev pub pins_before : Circuit → ℕ → List WholePin
pins_before c i = outputs_of (take i c.wholes)

pub before_more : (c : Circuit) (i : ℕ) (w : Whole) → At c.wholes i w → pins_before c (i + 1) ≡ pins_before c i ++ w.outputs
before_more c i w there =
    ap outputs_of (take_one c.wholes i w there) ∙ flat_map-append (λ (x : Whole). x.outputs) (take i c.wholes) (w ∷ []) ∙ ap (λ (ps : List WholePin). pins_before c i ++ ps) (alone w.outputs)
  where
    alone : (ps : List WholePin) → ps ++ [] ≡ ps
    alone [] = refl
    alone (p ∷ ps) = ap (λ (qs : List WholePin). p ∷ qs) (alone ps)

pub before_all : (c : Circuit) (i : ℕ) → length c.wholes ≤ i → pins_before c i ≡ pins_of c
before_all c i le = ap outputs_of (take_all i c.wholes le) ∙ sym (pins_each c)

before_rest : (c : Circuit) (i : ℕ) → pins_of c ≡ pins_before c i ++ outputs_of (drop i c.wholes)
before_rest c i =
    pins_each c ∙ ap outputs_of (sym (take-append-drop i c.wholes)) ∙ flat_map-append (λ (x : Whole). x.outputs) (take i c.wholes) (drop i c.wholes)

pub before_length : (c : Circuit) (i : ℕ) → length (pins_before c i) ≤ length (pins_of c)
before_length c i =
    let rest = outputs_of (drop i c.wholes) in
    omega (arith, ap (λ (ps : List WholePin). length ps) (before_rest c i), length-append (pins_before c i) rest)

-- the pins of the first instances, and of one more, are among all
pub before_in : (c : Circuit) (i : ℕ) (w : Whole) → At c.wholes i w → length (pins_before c i) + length w.outputs ≤ length (pins_of c)
before_in c i w there =
    omega (arith, before_length c (i + 1), ap (λ (ps : List WholePin). length ps) (before_more c i w there), length-append (pins_before c i) w.outputs)

-- the place of a pin of one instance among all
pub pin_place : (c : Circuit) (i : ℕ) (w : Whole) (at : ℕ) (pin : WholePin) → At c.wholes i w → At w.outputs at pin → At (pins_of c) (length (pins_before c i) + at) pin
pin_place c i w at pin there here =
    let k = length (pins_before c i) + at in
    let next : At (pins_before c (i + 1)) k pin = subst (λ (ps : List WholePin). At ps k pin) (sym (before_more c i w there)) (at_back (pins_before c i) w.outputs at pin here) in
    subst (λ (ps : List WholePin). At ps k pin) (sym (before_rest c (i + 1))) (at_front (pins_before c (i + 1)) (outputs_of (drop (i + 1) c.wholes)) k pin next)

-- ---- pins at the nets of a part

pub at_append : (part : Part) (xs ys : List WholePin) → pins_at part (xs ++ ys) ≡ pins_at part xs + pins_at part ys
at_append part xs ys = sum_by-append (λ (pin : WholePin). cond (has_net part pin.net.0) 1 0) xs ys

pub before_at : (c : Circuit) (part : Part) (i : ℕ) → pins_at part (pins_before c i) ≤ pins_at part (pins_of c)
before_at c part i =
    let rest = outputs_of (drop i c.wholes) in
    omega (arith, ap (λ (ps : List WholePin). pins_at part ps) (before_rest c i), at_append part (pins_before c i) rest)

pub has_place : (part : Part) (i n : ℕ) → IsPlace part i n → has_net part n ≡ true
has_place part i n p = among_any (λ (net : Net). net.0 == n) part.nets p.0 (i, p.1) (eq-eqb p.0.0 n p.2)

one_count : (part : Part) (pin : WholePin) → pins_at part (pin ∷ []) ≡ cond (has_net part pin.net.0) 1 0
one_count part pin =
    let none : pins_at part [] ≡ 0 = refl in
    omega (arith, sum_by-cons (λ (p : WholePin). cond (has_net part p.net.0) 1 0) pin [], none)

-- one more, at a net of the part
pub at_more : (part : Part) (xs : List WholePin) (pin : WholePin) (i : ℕ) → IsPlace part i pin.net.0 → pins_at part (xs ++ pin ∷ []) ≡ pins_at part xs + 1
at_more part xs pin i p =
    omega (arith, at_append part xs (pin ∷ []), one_count part pin, ap {B = ℕ} (λ (b : Bool). cond b 1 0) (has_place part i pin.net.0 p))

pub at_grows : (part : Part) (xs : List WholePin) (pin : WholePin) → pins_at part xs ≤ pins_at part (xs ++ pin ∷ [])
at_grows part xs pin = omega (arith, at_append part xs (pin ∷ []))

-- a circuit without whole instances has none
pub pins_none : (c : Circuit) → c.wholes ≡ [] → pins_of c ≡ []
pins_none c none = pins_each c ∙ ap (λ (ws : List Whole). outputs_of ws) none

pub taken_at : (part : Part) (xs : List WholePin) (i : ℕ) → pins_at part (take i xs) ≤ pins_at part xs
taken_at part xs i = sum_by-take-le (λ (pin : WholePin). cond (has_net part pin.net.0) 1 0) xs i

-- ---- which they are

pub pin_whole : (c : Circuit) (w : Whole) (pin : WholePin) → Among c.wholes w → Among w.outputs pin → Among (pins_of c) pin
pin_whole c w pin here there =
    subst (λ (ps : List WholePin). Among ps pin) (sym (pins_each c)) (flat_map_among (λ (x : Whole). x.outputs) c.wholes w pin here there)

pub whole_pin : (c : Circuit) (pin : WholePin) → Among (pins_of c) pin → (w : Whole) × Among c.wholes w × Among w.outputs pin
whole_pin c pin m = among_flat_map (λ (x : Whole). x.outputs) c.wholes pin (subst (λ (ps : List WholePin). Among ps pin) (pins_each c) m)

pub pin_ranges : (c : Circuit) (pin : WholePin) → HasRanges c → Among (pins_of c) pin → IsNet c pin.net × IsDrive c pin.drive
pin_ranges c pin in_range m =
    let from = whole_pin c pin m in
    let is = all_among (IsWhole c) c.wholes from.0 in_range.wholes from.1 in
    let fits = all_among (λ (p : WholePin). IsNet c p.net × (p.signal < length from.0.model.signals) × IsDrive c p.drive) from.0.outputs pin is.outputs from.2 in
    (fits.0, fits.2)

-- ---- their levels

pub pin_level : (c : Circuit) (pin : WholePin) → HasRanges c → Among (pins_of c) pin → HasDriveLevel (source_level c) pin
pin_level c pin in_range m = drive_ranges c pin.drive (pin_ranges c pin in_range m).1

-- ---- their roots

pub source_front : (source : ℕ) (xs ys : List WholePin) (first n at size : ℕ) → IsPinSource source xs first n at size → IsPinSource source (xs ++ ys) first n at size
source_front source xs ys first n at size s = (s.0, s.1, at_front xs ys s.0 s.1 s.2, s.3, s.4, s.5)

pub source_back : (source : ℕ) (xs ys : List WholePin) (first second n at size : ℕ) → second ≡ first + length xs → IsPinSource source ys second n at size → IsPinSource source (xs ++ ys) first n at size
source_back source xs ys first second n at size e s = (length xs + s.0, s.1, at_back xs ys s.0 s.1 s.2, s.3, (let is = s.4 in omega (arith, is, e)), s.5)

pub source_either : (source : ℕ) (xs ys : List WholePin) (first second n at size : ℕ) → second ≡ first + length xs → IsPinSource source (xs ++ ys) first n at size
    → IsPinSource source xs first n at size ⊎ IsPinSource source ys second n at size
source_either source xs ys first second n at size e s =
    elim (at_either xs ys s.0 s.1 s.2) [
      | inl front ↦ inl (s.0, s.1, front, s.3, s.4, s.5)
      | inr back ↦ inr (back.0, s.1, back.2, s.3, (let is = s.4 in let there = back.1 in omega (arith, is, there, e)), s.5)
    ]

-- the pins before a place, and the one there
module _ (source : ℕ) (pins : List WholePin) (i : ℕ) (pin : WholePin) (first n at size : ℕ) (there : At pins i pin) where
  before_is : length (take i pins) ≡ i
  before_is = length-take-le i pins (let inside = slice_get_within pins i pin there in omega (arith, inside))

  pub source_split : IsPinSource source (take i pins ++ pin ∷ []) first n at size → IsPinSource source (take i pins) first n at size ⊎ ((n ≡ pin.net.0) × (at ≡ first + i) × (size ≡ level_of_drive source pin.drive))
  source_split s =
      elim (at_split (take i pins) pin s.0 s.1 s.2) [
        | inl front ↦ inl (s.0, s.1, front, s.3, s.4, s.5)
        | inr last ↦
            let place = last.0 in
            let handle = s.4 in
            inr (
              sym s.3 ∙ ap (λ (p : WholePin). p.net.0) last.1,
              omega (arith, handle, place, before_is),
              sym s.5 ∙ ap (λ (p : WholePin). level_of_drive source p.drive) last.1,
            )
      ]

  pub source_last : n ≡ pin.net.0 → at ≡ first + i → size ≡ level_of_drive source pin.drive → IsPinSource source (take i pins ++ pin ∷ []) first n at size
  source_last net handle level = (length (take i pins), pin, at_last (take i pins) pin, sym net, omega (arith, handle, before_is), sym level)

-- a pin before a place is one of the list
pub taken_source : (source : ℕ) (pins : List WholePin) (i first n at size : ℕ) → IsPinSource source (take i pins) first n at size → IsPinSource source pins first n at size
taken_source source pins i first n at size s =
    (s.0, s.1, subst (λ (ps : List WholePin). At ps s.0 s.1) (take-append-drop i pins) (at_front (take i pins) (drop i pins) s.0 s.1 s.2), s.3, s.4, s.5)

pub before_source : (c : Circuit) (source i first n at size : ℕ) → IsPinSource source (pins_before c i) first n at size → IsPinSource source (pins_of c) first n at size
before_source c source i first n at size s =
    subst (λ (ps : List WholePin). IsPinSource source ps first n at size) (sym (before_rest c i)) (source_front source (pins_before c i) (outputs_of (drop i c.wholes)) first n at size s)
