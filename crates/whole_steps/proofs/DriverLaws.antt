-- A table of the outputs of whole instances by net: one output more.
use Rattle.std.proofs.Common.{◌≡◌, ◌≢◌, ℕ, ◌+◌, ◌<◌, ◌≤◌, Bool, true, false, List, [], ◌∷◌, ◌++◌, Option, None, Some, length, map, take, arith, ap, refl, subst, sym, ◌∙◌, inl, inr}
use Rattle.std.specs.Prelude.{flat_map, sum_by}
use Rattle.std.proofs.lemmas.Bool.{cases_eq, cases_lt, false≢true}
use Rattle.std.proofs.lemmas.Grind.{flat_map-append}
use Rattle.std.proofs.lemmas.List.{length-append, length-map, length-take-le, map-append, take-take, take_all}
use Rattle.std.proofs.lemmas.List.Concat.{length-flat_map}
use Rattle.std.proofs.lemmas.List.Sums.{sum_by-take-le}
use Rattle.std.proofs.lemmas.Option.{slice_get_within}
use Rattle.vrt_model.proofs.Lists.{at_front, at_last, at_split, take_one}
use Rattle.vrt_model.specs.Lists.{At, Among, mark_at}
use Rattle.vrt_model.specs.Path.{Joins}
use Rattle.vrt_model.specs.State.{OutputPin, output_pins}
use Rattle.vrt_model.specs.declared.circuit.Circuit.{Circuit}
use Rattle.vrt_model.specs.declared.circuit.Device.{Device}
use Rattle.vrt_model.specs.declared.whole.Drive.TheVariants.{Soft}
use Rattle.vrt_model.specs.declared.whole.Whole.{Whole}
use Rattle.vrt_model.specs.declared.whole.WholePin.{WholePin}
use Rattle.whole_steps.specs.Tables.{AreMet, AreNoted, IsLast, IsOutput, driver_at, outputs_before, outputs_of}
use Rattle.whole_steps.specs.declared.table.OutputPlace.{OutputPlace}

-- ---- nets that channels meet

-- no channel meets a net that is not marked
pub met_apart : (c : Circuit) (met : List Bool) → AreMet c (length c.devices) met → (n : ℕ) → mark_at met n ≡ false → (d : Device) (m : ℕ) → Among c.devices d → ¬ Joins d m n
met_apart c met are n off d m among (inl ends) =
    false≢true (sym off ∙ ap (mark_at met) (sym ends.1) ∙ are.right among.0 d (slice_get_within c.devices among.0 d among.1) among.1)
met_apart c met are n off d m among (inr ends) =
    false≢true (sym off ∙ ap (mark_at met) (sym ends.0) ∙ are.left among.0 d (slice_get_within c.devices among.0 d among.1) among.1)

-- ---- outputs

-- what was the last before a number is so still with one more behind
module _ (c : Circuit) (pins : List OutputPin) (more : OutputPin) where
  abbrev all : List OutputPin
  all = pins ++ more ∷ []

  before_there : (bound at : ℕ) (out : OutputPin) → bound ≤ length pins → At all at out → at < bound → At pins at out
  before_there bound at out le e lt =
      elim (at_split pins more at out e) [
        | inl low ↦ low
        | inr last ↦ absurd (let is = last.0 in omega (arith, is, le, lt))
      ]

  output_more : (place : OutputPlace) (out : OutputPin) → place.number ≤ length pins → IsOutput c pins place out → IsOutput c all place out
  output_more place out le is = record {
    whole = is.whole;
    output = is.output;
    number = at_front pins (more ∷ []) place.number out is.number;
    from = is.from;
    free = λ e. (let f = is.free e in record {
      soft = f.soft;
      channels = f.channels;
      first = λ at other there lt. f.first at other (before_there place.number at other le there lt) lt;
    });
  }

  pub last_more : (n bound : ℕ) (o : Option OutputPlace) → bound ≤ length pins → IsLast c pins n bound o → IsLast c all n bound o
  last_more n bound None le none = λ at out e lt. none at out (before_there bound at out le e lt) lt
  last_more n bound (Some place) le last = (
    last.0,
    output_more place last.0 (let lt = last.2 in omega (arith, lt, le)) last.1,
    last.2,
    last.3,
    λ at other e above lt. last.4 at other (before_there bound at other le e lt) above lt,
  )

  -- and up to the next number, where that is at another net
  pub last_beside : (n : ℕ) (o : Option OutputPlace) → more.pin.net.0 ≢ n → IsLast c pins n (length pins) o → IsLast c all n (length pins + 1) o
  last_beside n None ne none = λ at out e lt. elim (at_split pins more at out e) [
    | inl low ↦ none at out low (slice_get_within pins at out low)
    | inr last ↦ (λ same. ne (ap (λ (x : OutputPin). x.pin.net.0) (sym last.1) ∙ same))
  ]
  last_beside n (Some place) ne last = (
    last.0,
    output_more place last.0 (let lt = last.2 in omega (arith, lt)) last.1,
    (let lt = last.2 in omega (arith, lt)),
    last.3,
    λ at other e above lt. elim (at_split pins more at other e) [
      | inl low ↦ last.4 at other low above (slice_get_within pins at other low)
      | inr end ↦ (λ same. ne (ap (λ (x : OutputPin). x.pin.net.0) (sym end.1) ∙ same))
    ],
  )

-- nothing before a number is at the net
last_none : (c : Circuit) (pins : List OutputPin) (n bound : ℕ) (o : Option OutputPlace) → o ≡ None → IsLast c pins n bound o → (at : ℕ) (out : OutputPin) → At pins at out → at < bound → out.pin.net.0 ≢ n
last_none c pins n bound o e last = subst (IsLast c pins n bound) e last

-- one output more
module _ (c : Circuit) (met : List Bool) (are_met : AreMet c (length c.devices) met) (pins : List OutputPin) (old new : List (Option OutputPlace)) (before : AreNoted c pins old)
    (place : OutputPlace) (more : OutputPin) (whole : At c.wholes place.whole more.whole) (output : At more.whole.outputs place.output more.pin)
    (number : length c.nets + place.number ≡ length old) (from : place.number ≡ length (outputs_before c place.whole) + place.output) (soft : place.free ≡ true → more.pin.drive ≡ Soft) (apart : place.free ≡ true → mark_at met more.pin.net.0 ≡ false)
    (first : place.free ≡ true → driver_at old more.pin.net.0 ≡ None) (inside : more.pin.net.0 < length c.nets)
    (len : length new ≡ length old + 1) (here : driver_at new more.pin.net.0 ≡ Some place) (last : driver_at new (length old) ≡ driver_at old more.pin.net.0)
    (others : (n : ℕ) → n < length old → n ≢ more.pin.net.0 → driver_at new n ≡ driver_at old n) where
  number_is : place.number ≡ length pins
  number_is = (let size = before.size in omega (arith, number, size))

  more_there : At (pins ++ more ∷ []) place.number more
  more_there = subst (λ (i : ℕ). At (pins ++ more ∷ []) i more) (sym number_is) (at_last pins more)

  is_output : IsOutput c (pins ++ more ∷ []) place more
  is_output = record {
    whole = whole;
    output = output;
    number = more_there;
    from = from;
    free = λ e. record {
      soft = soft e;
      channels = λ d n m. met_apart c met are_met more.pin.net.0 (apart e) d n m;
      first = λ at other there lt.
          last_none c (pins ++ more ∷ []) more.pin.net.0 (length pins) (driver_at old more.pin.net.0) (first e)
          (last_more c pins more more.pin.net.0 (length pins) (driver_at old more.pin.net.0) (omega arith) (before.are.last more.pin.net.0 inside)) at other there (omega (arith, lt, number_is));
    };
  }

  longer : length (pins ++ more ∷ []) ≡ length pins + 1
  longer = length-append pins (more ∷ [])

  at_net : IsLast c (pins ++ more ∷ []) more.pin.net.0 (length (pins ++ more ∷ [])) (Some place)
  at_net = (
    more,
    is_output,
    omega (arith, number_is, longer),
    refl,
    λ at other e above lt. absurd (omega (arith, number_is, longer, above, lt)),
  )

  pub noted_more : AreNoted c (pins ++ more ∷ []) new
  noted_more = record {
    size = (let size = before.size in omega (arith, size, len, longer));
    are = record {
      last = λ n lt. elim (cases_eq n more.pin.net.0) [
        | inl same ↦
            subst (λ (m : ℕ). IsLast c (pins ++ more ∷ []) m (length (pins ++ more ∷ [])) (driver_at new m)) (sym same)
            (subst (IsLast c (pins ++ more ∷ []) more.pin.net.0 (length (pins ++ more ∷ []))) (sym here) at_net)
        | inr ne ↦
            subst (IsLast c (pins ++ more ∷ []) n (length (pins ++ more ∷ []))) (sym (others n (let size = before.size in omega (arith, lt, size)) ne))
            (subst (λ (b : ℕ). IsLast c (pins ++ more ∷ []) n b (driver_at old n)) (sym longer)
            (last_beside c pins more n (driver_at old n) (λ same. ne (sym same)) (before.are.last n lt)))
      ];
      earlier = λ at out e. elim (at_split pins more at out e) [
        | inl low ↦
            let lt = slice_get_within pins at out low in
            let size = before.size in
            let beside : length c.nets + at ≢ more.pin.net.0 = λ same. absurd (omega (arith, same, inside)) in
            subst (IsLast c (pins ++ more ∷ []) out.pin.net.0 at) (sym (others (length c.nets + at) (omega (arith, lt, size)) beside))
            (last_more c pins more out.pin.net.0 at (driver_at old (length c.nets + at)) (omega (arith, lt)) (before.are.earlier at out low))
        | inr end ↦
            let size = before.size in
            let at_is = end.0 in
            let entry : driver_at new (length c.nets + at) ≡ driver_at old more.pin.net.0 = ap (driver_at new) (omega (arith, size, at_is)) ∙ last in
            let there : IsLast c (pins ++ more ∷ []) more.pin.net.0 (length pins) (driver_at old more.pin.net.0) =
            last_more c pins more more.pin.net.0 (length pins) (driver_at old more.pin.net.0) (omega arith) (before.are.last more.pin.net.0 inside) in
            subst (λ (x : OutputPin). IsLast c (pins ++ more ∷ []) x.pin.net.0 at (driver_at new (length c.nets + at))) (sym end.1)
            (subst (IsLast c (pins ++ more ∷ []) more.pin.net.0 at) (sym entry)
            (subst (λ (b : ℕ). IsLast c (pins ++ more ∷ []) more.pin.net.0 b (driver_at old more.pin.net.0)) (sym at_is) there))
      ];
    };
  }

-- ---- instance by instance

abbrev pin_of : Whole → WholePin → OutputPin
pin_of w p = record { whole = w; pin = p }

-- the outputs of an instance before a place
abbrev pub outputs_to : Circuit → ℕ → Whole → ℕ → List OutputPin
outputs_to c number w output = outputs_before c number ++ map (λ (p : WholePin). let pin : OutputPin = record { whole = w; pin = p } in pin) (take output w.outputs)

nothing_behind : (xs : List OutputPin) → xs ++ [] ≡ xs
nothing_behind [] = refl
nothing_behind (x ∷ xs) = ap (λ (ys : List OutputPin). x ∷ ys) (nothing_behind xs)

joined_twice : (xs ys zs : List OutputPin) → xs ++ (ys ++ zs) ≡ (xs ++ ys) ++ zs
joined_twice [] ys zs = refl
joined_twice (x ∷ xs) ys zs = ap (λ (ws : List OutputPin). x ∷ ws) (joined_twice xs ys zs)

pub none_to : (c : Circuit) (number : ℕ) (w : Whole) → outputs_to c number w 0 ≡ outputs_before c number
none_to c number w = nothing_behind (outputs_before c number)

pub one_to : (c : Circuit) (number : ℕ) (w : Whole) (output : ℕ) (pin : WholePin) → At w.outputs output pin → outputs_to c number w (output + 1) ≡ outputs_to c number w output ++ (record { whole = w; pin = pin }) ∷ []
one_to c number w output pin here =
    ap (λ (ps : List WholePin). outputs_before c number ++ map (λ (p : WholePin). let one : OutputPin = record { whole = w; pin = p } in one) ps) (take_one w.outputs output pin here)
    ∙ ap (λ (os : List OutputPin). outputs_before c number ++ os) (map-append (λ (p : WholePin). let one : OutputPin = record { whole = w; pin = p } in one) (take output w.outputs) (pin ∷ []))
    ∙ joined_twice (outputs_before c number) (map (λ (p : WholePin). let one : OutputPin = record { whole = w; pin = p } in one) (take output w.outputs)) ((record { whole = w; pin = pin }) ∷ [])

pub all_to : (c : Circuit) (number : ℕ) (w : Whole) (output : ℕ) → At c.wholes number w → length w.outputs ≤ output → outputs_to c number w output ≡ outputs_before c (number + 1)
all_to c number w output here le =
    ap (λ (ps : List WholePin). outputs_before c number ++ map (λ (p : WholePin). let one : OutputPin = record { whole = w; pin = p } in one) ps) (take_all output w.outputs le)
    ∙ ap (λ (os : List OutputPin). outputs_before c number ++ os) (sym (nothing_behind (outputs_of w)))
    ∙ sym (flat_map-append outputs_of (take number c.wholes) (w ∷ []))
    ∙ ap (λ (ws : List Whole). flat_map outputs_of ws) (sym (take_one c.wholes number w here))

pub all_outputs : (c : Circuit) (number : ℕ) → length c.wholes ≤ number → outputs_before c number ≡ output_pins c
all_outputs c number le = ap (λ (ws : List Whole). flat_map outputs_of ws) (take_all number c.wholes le)

-- ---- how many they are

pub to_length : (c : Circuit) (number : ℕ) (w : Whole) (output : ℕ) → output ≤ length w.outputs → length (outputs_to c number w output) ≡ length (outputs_before c number) + output
to_length c number w output le =
    let f : WholePin → OutputPin = λ p. pin_of w p in
    let sizes = length-append (outputs_before c number) (map f (take output w.outputs)) in
    let mapped = length-map (take output w.outputs) f in
    let taken = length-take-le output w.outputs le in
    omega (arith, sizes, mapped, taken)

-- those of an instance come before those of each later one
before_grows : (c : Circuit) (i j : ℕ) → i ≤ j → length (outputs_before c i) ≤ length (outputs_before c j)
before_grows c i j le =
    let count : Whole → ℕ = λ w. length (outputs_of w) in
    let left = length-flat_map outputs_of (take i c.wholes) in
    let right = length-flat_map outputs_of (take j c.wholes) in
    let less : sum_by count (take i c.wholes) ≤ sum_by count (take j c.wholes) =
    subst (λ (ws : List Whole). sum_by count ws ≤ sum_by count (take j c.wholes)) (take-take i j c.wholes le) (sum_by-take-le count (take j c.wholes) i) in
    omega (arith, left, right, less)

-- so of two outputs the earlier one is not of a later instance
pub earlier_whole : (c : Circuit) (pins : List OutputPin) (a b : OutputPlace) (x y : OutputPin) → IsOutput c pins a x → IsOutput c pins b y → a.number < b.number → a.whole ≤ b.whole
earlier_whole c pins a b x y is_a is_b lt = elim (cases_lt b.whole a.whole) [
  | inr le ↦ le
  | inl later ↦
      let w : Whole = y.whole in
      let next = ap (λ (os : List OutputPin). length os) (all_to c b.whole w (length w.outputs) is_b.whole (omega arith)) in
      let size = to_length c b.whole w (length w.outputs) (omega arith) in
      let grows = before_grows c (b.whole + 1) a.whole (omega (arith, later)) in
      let inside = slice_get_within w.outputs b.output y.pin is_b.output in
      let from_a = is_a.from in
      let from_b = is_b.from in
      absurd (omega (arith, lt, next, size, grows, inside, from_a, from_b))
]
