-- The bits with which a replay begins are those that the nets show: given nets show their own bits, and all gates of the part
-- of a known net are known.
use Rattle.std.proofs.Common.{◌≡◌, ℕ, zero, suc, ◌+◌, ◌<◌, ◌≤◌, Bool, true, false, cond, List, [], ◌∷◌, None, Option, Some, length, slice_get, take, arith, ap, refl, sym, subst, ◌∙◌, inl, inr}
use Rattle.std.specs.Prelude.{filter, option_map, unwrap_or}
use Rattle.std.proofs.lemmas.Bool.{false≢true}
use Rattle.std.proofs.lemmas.Option.{none-some, slice_get_within}
use Rattle.known_nets.proofs.KnownShow.{fixed_not_plain, known_shows}
use Rattle.known_nets.proofs.WiredLaws.{flat_wired}
use Rattle.known_nets.proofs.NetKinds.{given_or_plain}
use Rattle.known_nets.specs.KnownTables.{IsKnownTable, known_at}
use Rattle.vrt_model.proofs.GatesGiven.{IsGiven}
use Rattle.vrt_model.proofs.GivenNets.{clear_from_source, source_strength}
use Rattle.vrt_model.proofs.Laws.{shows_from}
use Rattle.vrt_model.proofs.Members.{all_among, at_none}
use Rattle.vrt_model.proofs.Networks.{flat_outputs, flat_ranges, given_source, network_levels}
use Rattle.vrt_model.proofs.Ranked.{plain_not_given, together_first}
use Rattle.vrt_model.proofs.Scales.{least_below}
use Rattle.vrt_model.specs.Circuits.{IsFlat, IsHold}
use Rattle.vrt_model.specs.Known.{HasFixedBit, IsChannel, IsKnown, IsPlain, IsShut, IsTogether, fixed, itself, onward, settled}
use Rattle.vrt_model.specs.Levels.{source_level}
use Rattle.vrt_model.specs.Lists.{At, Among, bit_at}
use Rattle.vrt_model.specs.Networks.{HasLevels, IsSource}
use Rattle.vrt_model.specs.Path.{Hop, IsPath, IsRoot, Joins, Network, Root, end_of}
use Rattle.vrt_model.specs.Reading.{HasGivenBit, devices_of, is_given}
use Rattle.vrt_model.specs.Response.{IsClear, IsResponse, IsStrength, Reaches, Shows}
use Rattle.vrt_model.specs.State.{Setting, State, network_of}
use Rattle.vrt_model.specs.Variables.{is_input}
use Rattle.vrt_model.specs.declared.circuit.Circuit.{Circuit}
use Rattle.vrt_model.specs.declared.circuit.Device.{Device}
use Rattle.vrt_model.specs.declared.circuit.FlatNet.{FlatNet}
use Rattle.vrt_model.specs.declared.circuit.NetKind.{NetKind}
use Rattle.vrt_model.specs.declared.circuit.NetKind.TheVariants.{Supply, Clock, Input, Plain}
use Rattle.vrt_model.specs.declared.rules.Phase.{Phase}
use Rattle.vrt_model.specs.declared.whole.WholePin.{WholePin}
use Rattle.witness.proofs.SettleLaws.{within_known}
use Rattle.witness.specs.Replays.{HasSeen, IsBlocked, input_place, setting_of}
use Rattle.witness.specs.Settling.{Stands, is_input_at, start_of}
use Rattle.witness.specs.declared.seen.Seen.TheVariants.{Bit}

-- ---- places of inputs

abbrev tested : Option FlatNet → Bool
tested o = unwrap_or (option_map (λ (net : FlatNet). is_input net.kind) o) false

place_more : (nets : List FlatNet) (n : ℕ)
    → length (filter (λ (net : FlatNet). is_input net.kind) (take (suc n) nets)) ≡ cond (tested (slice_get nets n)) (length (filter (λ (net : FlatNet). is_input net.kind) (take n nets)) + 1) (length (filter (λ (net : FlatNet). is_input net.kind) (take n nets)))
place_more [] zero = refl
place_more [] (suc n) = refl
place_more (x ∷ xs) zero = pick (is_input x.kind)
  where
    pick : (b : Bool) → length (cond b (x ∷ []) []) ≡ cond b 1 0
    pick true = refl
    pick false = refl
place_more (x ∷ xs) (suc n) = pick (is_input x.kind) (tested (slice_get xs n)) (filter (λ (net : FlatNet). is_input net.kind) (take (suc n) xs)) (filter (λ (net : FlatNet). is_input net.kind) (take n xs)) (place_more xs n)
  where
    pick : (b t : Bool) (more here : List FlatNet) → length more ≡ cond t (length here + 1) (length here)
        → length (cond b (x ∷ more) more) ≡ cond t (length (cond b (x ∷ here) here) + 1) (length (cond b (x ∷ here) here))
    pick true true more here e = omega (arith, e)
    pick true false more here e = ap suc e
    pick false t more here e = e

pub input_place_more : (c : Circuit) (n : ℕ) → input_place c (n + 1) ≡ cond (is_input_at c n) (input_place c n + 1) (input_place c n)
input_place_more c n =
    let next : suc n ≡ n + 1 = omega arith in
    subst (λ (m : ℕ). input_place c m ≡ cond (is_input_at c n) (input_place c n + 1) (input_place c n)) next (place_more c.nets n)

-- ---- given nets show their bits

module _ (c : Circuit) (phase : Phase) (flat : IsFlat c) (setting : Setting) (which : Bool) (s : State) (n : ℕ) (g : IsGiven c n) where
  abbrev view : Network
  view = network_of c which setting.held s

  levels : HasLevels view
  levels = network_levels c which setting.held s (flat_ranges c flat)

  source : IsSource view n
  source = given_source c which setting.held s (flat_ranges c flat) n g.0 g.1 g.2

  no_output : (at : ℕ) (pin : WholePin) → At view.outputs at pin → ⊥
  no_output at pin e = at_none at pin (subst (λ ps. At ps at pin) (flat_outputs c which setting.held s flat.wholes) e)

  here : Reaches view n (s.reading n)
  here = (record { net = n; level = source_level c; value = s.reading n }, [], inl (g.0, g.1, g.2, refl, refl), source_strength view levels n source, refl, refl)

  own_value : (root : Root) → IsRoot view root → root.net ≡ n → IsStrength view root.net root.level → root.value ≡ s.reading n
  own_value root is e strong =
      let top : source_level c ≤ root.level = strong.0 (record { net = n; level = source_level c; value = s.reading n }) [] (inl (g.0, g.1, g.2, refl, refl)) (sym e) in
      elim is [
        | inl h ↦ h.4 ∙ ap s.reading e
        | inr other ↦ elim other [
          | inl h ↦ absurd (let same = h.4 in let le = (all_among (IsHold c) c.holds h.1 flat.holds (h.0, h.2)).size.1 in let below = least_below c in omega (arith, top, same, le, below))
          | inr o ↦ absurd (no_output o.0 o.1 o.2)
        ]
      ]

  only : (u : Bool) → Reaches view n u → u ≡ s.reading n
  only u (root, hops, p, clear, e, is) =
      let none : hops ≡ [] = clear_from_source view levels root hops p clear (subst (IsSource view) (sym e) source) in
      let path : IsPath view root [] = subst (IsPath view root) none p in
      let strong : IsClear view root [] = subst (IsClear view root) none clear in
      let ends : root.net ≡ n = subst (λ (hs : List Hop). end_of root hs ≡ n) none e in
      sym is ∙ own_value root path ends strong

  pub given_shows : IsResponse view n (Shows (s.reading n))
  given_shows = shows_from view n (s.reading n) here only

-- ---- all gates of the part of a known net are known

module _ (c : Circuit) (phase : Phase) where
  inside_all : (n m : ℕ) (inside reading : ℕ → Bool) → IsShut c phase inside reading → inside n ≡ true
      → ((k l : ℕ) (d : Device) → inside k ≡ true → Among (devices_of true c) d → Joins d k l → IsKnown c phase d.gate.0 (reading d.gate.0))
      → IsTogether c phase true n m → inside m ≡ true
  inside_all n m inside reading shut ins gates (itself p) = ins
  inside_all n m inside reading shut ins gates (onward {l = l} d t channel j p) =
      let before = inside_all n l inside reading shut ins gates t in
      elim (shut.joined l m d before channel.0 j (channel.1 (reading d.gate.0) (gates l m d before channel.0 j))) [
        | inl i ↦ i
        | inr f ↦ absurd (fixed_not_plain c phase m f.0 f.1 p)
      ]

  pub known_gates : (n : ℕ) (v : Bool) → IsKnown c phase n v → (m l : ℕ) (d : Device) → IsTogether c phase true n m → IsChannel c phase true d → Joins d m l
      → (b : Bool) × IsKnown c phase d.gate.0 b
  known_gates n v (fixed f) m l d t channel j = absurd (fixed_not_plain c phase n v f (together_first c phase true n m t))
  known_gates n v (settled inside reading held driven shut ins own gates shows) m l d t channel j =
      (reading d.gate.0, gates m l d (inside_all n m inside reading shut ins gates t) channel.0 j)

-- ---- the start stands

kind_of_fixed : (phase : Phase) (kind : NetKind) (v : Bool) → HasFixedBit phase kind v → is_input kind ≡ false
kind_of_fixed phase (Supply value) v h = refl
kind_of_fixed phase (Clock clock) v h = refl
kind_of_fixed phase Input v h = absurd h
kind_of_fixed phase Plain v h = absurd h

module _ (c : Circuit) (phase : Phase) (flat : IsFlat c) (held inputs : List Bool) (known : List (Option Bool)) (table : IsKnownTable c phase (known_at known)) where
  abbrev setting : Setting
  setting = setting_of c held inputs

  input_there : (n : ℕ) (net : FlatNet) → At c.nets n net → is_input_at c n ≡ is_input net.kind
  input_there n net e = ap (λ (o : Option FlatNet). tested o) e

  plain_no_input : (n : ℕ) → IsPlain c n → is_input_at c n ≡ false
  plain_no_input n p = input_there n p.0 p.1 ∙ ap is_input p.2

  known_no_input : (n : ℕ) (v : Bool) → IsKnown c phase n v → is_input_at c n ≡ false
  known_no_input n v (fixed f) = input_there n f.0 f.1 ∙ kind_of_fixed phase f.0.kind v f.2
  known_no_input n v (settled inside reading held driven shut ins own gates shows) = plain_no_input n (shut.plain n ins).0

  start_known : (n : ℕ) → is_input_at c n ≡ false → start_of c known inputs n ≡ known_at known n
  start_known n f = ap (λ (b : Bool). cond b (Some (bit_at inputs (input_place c n))) (known_at known n)) f

  start_has_known : (n : ℕ) (v : Bool) → IsKnown c phase n v → start_of c known inputs n ≡ Some v
  start_has_known n v k = start_known n (known_no_input n v k) ∙ (table n v).1 k

  start_has_given : (n : ℕ) (net : FlatNet) (v : Bool) → At c.nets n net → is_given net.kind ≡ true → HasGivenBit phase setting.inputs net.kind n v → start_of c known inputs n ≡ Some v
  start_has_given n net v at g h = by_kind net.kind refl h
    where
      by_kind : (kind : NetKind) → net.kind ≡ kind → HasGivenBit phase setting.inputs kind n v → start_of c known inputs n ≡ Some v
      by_kind (Supply value) e is = start_has_known n v (fixed (net, at, subst (λ (k : NetKind). HasFixedBit phase k v) (sym e) is))
      by_kind (Clock clock) e is = start_has_known n v (fixed (net, at, subst (λ (k : NetKind). HasFixedBit phase k v) (sym e) is))
      by_kind Input e is =
          ap (λ (b : Bool). cond b (Some (bit_at inputs (input_place c n))) (known_at known n)) (input_there n net at ∙ ap is_input e) ∙ ap Some (sym is)
      by_kind Plain e is = absurd (false≢true (sym (ap is_given e) ∙ g))

  -- a table with these bits
  module _ (bits : List (Option Bool)) (size : length bits ≡ length c.nets) (each : (n : ℕ) → n < length c.nets → slice_get bits n ≡ Some (start_of c known inputs n)) where
    at_start : (n : ℕ) → n < length c.nets → known_at bits n ≡ start_of c known inputs n
    at_start n lt = ap (λ (o : Option (Option Bool)). unwrap_or o None) (each n lt)

    inside_nets : (n : ℕ) (net : FlatNet) → At c.nets n net → n < length c.nets
    inside_nets n net e = slice_get_within c.nets n net e

    known_inside : (n : ℕ) (v : Bool) → IsKnown c phase n v → n < length c.nets
    known_inside n v (fixed f) = inside_nets n f.0 f.1
    known_inside n v (settled inside reading held driven shut ins own gates shows) = let p = (shut.plain n ins).0 in inside_nets n p.0 p.1

    has_known : (n : ℕ) (v : Bool) → IsKnown c phase n v → known_at bits n ≡ Some v
    has_known n v k = at_start n (known_inside n v k) ∙ start_has_known n v k

    given_seen : (n : ℕ) (v : Bool) → IsGiven c n → known_at bits n ≡ Some v → HasSeen c phase setting (known_at bits) true n (Bit v)
    given_seen n v g e = (
      λ b. plain_not_given c n (together_first c phase true n b.1.0 b.1.2) g,
      λ s is has. subst (λ (u : Bool). IsResponse (network_of c true setting.held s) n (Shows u)) (has n v e) (given_shows c phase flat setting true s n g),
    )

    known_open : (n : ℕ) (v : Bool) → IsKnown c phase n v → ¬ IsBlocked c phase (known_at bits) true n
    known_open n v k b =
        let gate = known_gates c phase n v k b.1.0 b.1.1 b.0 b.1.2 b.1.3 b.1.4 in
        none-some gate.0 (sym b.2 ∙ has_known b.0.gate.0 gate.0 gate.1)

    plain_seen : (n : ℕ) (v : Bool) → IsPlain c n → known_at bits n ≡ Some v → HasSeen c phase setting (known_at bits) true n (Bit v)
    plain_seen n v p e =
        let k : IsKnown c phase n v = (table n v).0 (sym (start_known n (plain_no_input n p)) ∙ (sym (at_start n (inside_nets n p.0 p.1)) ∙ e)) in
        (known_open n v k, λ s is has. known_shows c phase (flat_wired c flat) n v k setting.inputs setting.held s is.reading (λ d b a q. has d.gate.0 b (has_known d.gate.0 b q)))

    start_shown : (n : ℕ) (v : Bool) → known_at bits n ≡ Some v → HasSeen c phase setting (known_at bits) true n (Bit v)
    start_shown n v e =
        let inside = within_known bits n v e in
        elim (given_or_plain c n (omega (arith, inside, size))) [
          | inl g ↦ given_seen n v g e
          | inr p ↦ plain_seen n v p e
        ]

    pub start_stands : Stands c phase setting (known_at bits)
    start_stands = record {
      given = λ n net v at g h. at_start n (inside_nets n net at) ∙ start_has_given n net v at g h;
      known = has_known;
      shown = start_shown;
    }
