-- Where a step begins, the variables of the phase give the setting: rising inputs have their arrival bits.
use Rattle.std.proofs.Common.{◌≡◌, ℕ, zero, suc, ◌+◌, ◌<◌, ◌≤◌, ◌||◌, ◌++◌, ◌⊎◌, Bool, true, false, cond, List, [], ◌∷◌, Option, Some, None, ap, ap₂, arith, drop, eqb, length, map, refl, sym, take, ◌∙◌, inl, inr}
use Rattle.std.specs.Prelude.{filter, filter_map, slice_index_or}
use Rattle.std.specs.List.{cons_option, enumerate_from}
use Rattle.std.proofs.lemmas.Bool.{cases_eq, cases_lt, eq-eqb, eqb-true, false_from_ne_true, or_left, or_right}
use Rattle.std.proofs.lemmas.List.{get_or_past}
use Rattle.std.proofs.lemmas.Option.{get_or_from_slice_get, slice_get_within}
use Rattle.arrival_laws.specs.Orders.{Nets}
use Rattle.bdd_ops.specs.Ops.{bits_of}
use Rattle.circuit_faults.specs.Faults.{IsSettingAt}
use Rattle.domino_order.specs.StepSettings.{begun, begun_at, begun_bit, begun_from, risen_at, start_at}
use Rattle.domino_order.specs.StepWords.{AreInputs}
use Rattle.phase_open.proofs.Sources.{input_below, input_variable, sources_many, variable_more}
use Rattle.phase_open.specs.Given.{input_count, variable_at}
use Rattle.vrt_model.specs.Comparison.{Comparison}
use Rattle.vrt_model.specs.Elements.{element_names}
use Rattle.vrt_model.specs.Held.{bit_of, group_bit_at, held_by, held_in, is_element, is_group, member_of, setting_of, sources_of}
use Rattle.vrt_model.specs.Lists.{At, has_number}
use Rattle.vrt_model.specs.Variables.{entered_bit, is_free, is_input, places, variables_of}
use Rattle.vrt_model.specs.declared.circuit.Circuit.{Circuit}
use Rattle.vrt_model.specs.declared.circuit.FlatNet.{FlatNet}
use Rattle.vrt_model.specs.declared.circuit.NetKind.{NetKind}
use Rattle.vrt_model.specs.declared.circuit.NetKind.TheVariants.{Input as InputNet}
use Rattle.vrt_model.specs.declared.groups.Group.{Group as HoldGroup}
use Rattle.vrt_model.specs.declared.groups.Source.{Source}
use Rattle.vrt_model.specs.declared.groups.Source.TheVariants.{Input, Element, Group}
use Rattle.vrt_model.specs.declared.ids.Net.{Net}

-- ---- the variables of inputs

abbrev is_input_net : FlatNet → Bool
is_input_net net = is_input net.kind

first_few : (nets : List FlatNet) (m n : ℕ) → m ≤ n → length (filter is_input_net (take m nets)) ≤ length (filter is_input_net (take n nets))
first_few [] zero n le = omega arith
first_few [] (suc m) zero le = absurd (omega (arith, le))
first_few [] (suc m) (suc n) le = omega arith
first_few (x ∷ nets) zero n le = omega arith
first_few (x ∷ nets) (suc m) zero le = absurd (omega (arith, le))
first_few (x ∷ nets) (suc m) (suc n) le = by_first (is_input x.kind) (first_few nets m n (omega (arith, le)))
  where
    by_first : (own : Bool) → length (filter is_input_net (take m nets)) ≤ length (filter is_input_net (take n nets))
        → length (cond own (x ∷ filter is_input_net (take m nets)) (filter is_input_net (take m nets))) ≤ length (cond own (x ∷ filter is_input_net (take n nets)) (filter is_input_net (take n nets)))
    by_first true le = omega (arith, le)
    by_first false le = le

-- an input net
pub record IsInputNet (c : Circuit) (n : ℕ) : Type 0 where
  pub net : FlatNet
  pub there : At c.nets n net
  pub kind : net.kind ≡ InputNet

module _ (c : Circuit) where
  kind_here : (n : ℕ) (is : IsInputNet c n) → (slice_index_or c.nets n is.net).kind ≡ InputNet
  kind_here n is = ap (λ (x : FlatNet). x.kind) (get_or_from_slice_get c.nets n is.net is.net is.there) ∙ is.kind

  below : (n : ℕ) (is : IsInputNet c n) → n < length c.nets
  below n is = slice_get_within c.nets n is.net is.there

  pub variable_below : (n : ℕ) → IsInputNet c n → variable_at c n < input_count c
  variable_below n is = input_below c n is.net (below n is) (kind_here n is)

  -- inputs that come later have later variables
  later : (m n : ℕ) → IsInputNet c m → m < n → variable_at c m < variable_at c n
  later m n is lt =
      let more : variable_at c (m + 1) ≡ variable_at c m + 1 =
      variable_more c m is.net (below m is) ∙ ap {B = ℕ} (λ (x : NetKind). variable_at c m + cond (is_input x) 1 0) (kind_here m is) in
      let few : variable_at c (m + 1) ≤ variable_at c n = first_few c.nets (m + 1) n (omega (arith, lt)) in omega (arith, more, few)

  -- each input has a variable of its own
  pub same_variable : (m n : ℕ) → IsInputNet c m → IsInputNet c n → eqb (variable_at c m) (variable_at c n) ≡ eqb m n
  same_variable m n left right = elim (cases_eq m n) [
    | inl same ↦ eq-eqb (variable_at c m) (variable_at c n) (ap (variable_at c) same) ∙ sym (eq-eqb m n same)
    | inr other ↦
        false_from_ne_true (eqb (variable_at c m) (variable_at c n)) (λ e.
        let same = eqb-true (variable_at c m) (variable_at c n) e in
        elim (cases_lt m n) [
          | inl lt ↦ (let less = later m n left lt in absurd (omega (arith, less, same)))
          | inr ge ↦ (let less = later n m right (omega (arith, ge, other)) in absurd (omega (arith, less, same)))
        ])
        ∙ sym (false_from_ne_true (eqb m n) (λ e. other (eqb-true m n e)))
  ]

-- ---- bits where a step begins

begun_nth : (c : Circuit) (nets : List ℕ) (risen : Nets) (first : ℕ) (bits : List Bool) (i : ℕ) → i < length bits
    → slice_index_or (begun_from c nets risen first bits) i false ≡ begun_bit c nets risen (first + i) (slice_index_or bits i false)
begun_nth c nets risen first [] i lt = absurd (omega (arith, lt))
begun_nth c nets risen first (bit ∷ bits) zero lt = ap (λ (x : ℕ). begun_bit c nets risen x bit) (omega arith)
begun_nth c nets risen first (bit ∷ bits) (suc i) lt =
    begun_nth c nets risen (suc first) bits i (omega (arith, lt)) ∙ ap (λ (x : ℕ). begun_bit c nets risen x (slice_index_or bits i false)) (omega arith)

begun_len : (c : Circuit) (nets : List ℕ) (risen : Nets) (first : ℕ) (bits : List Bool) → length (begun_from c nets risen first bits) ≡ length bits
begun_len c nets risen first [] = refl
begun_len c nets risen first (bit ∷ bits) = ap suc (begun_len c nets risen (suc first) bits)

-- a variable that is none of rising nets keeps its bit, another one has what its net has
pub begun_cases : (c : Circuit) (nets : List ℕ) (risen : Nets) (i : ℕ) (bit : Bool)
    → ((has_number (map (variable_at c) nets) i ≡ false) × (begun_bit c nets risen i bit ≡ bit))
    ⊎ ((m : ℕ) × (has_number nets m ≡ true) × (variable_at c m ≡ i) × (begun_bit c nets risen i bit ≡ risen m))
begun_cases c [] risen i bit = inl (refl, refl)
begun_cases c (net ∷ nets) risen i bit = by_test (eqb (variable_at c net) i) refl (begun_cases c nets risen i bit)
  where
    rest : Bool
    rest = begun_bit c nets risen i bit

    by_test : (t : Bool) → eqb (variable_at c net) i ≡ t
        → ((has_number (map (variable_at c) nets) i ≡ false) × (begun_bit c nets risen i bit ≡ bit))
        ⊎ ((m : ℕ) × (has_number nets m ≡ true) × (variable_at c m ≡ i) × (begun_bit c nets risen i bit ≡ risen m))
        → ((has_number (map (variable_at c) (net ∷ nets)) i ≡ false) × (begun_bit c (net ∷ nets) risen i bit ≡ bit))
        ⊎ ((m : ℕ) × (has_number (net ∷ nets) m ≡ true) × (variable_at c m ≡ i) × (begun_bit c (net ∷ nets) risen i bit ≡ risen m))
    by_test true e below =
        inr (net, or_left (eqb net net) (has_number nets net) (eq-eqb net net refl), eqb-true (variable_at c net) i e, ap (λ (t : Bool). cond t (risen net) rest) e)
    by_test false e below =
        let here : begun_bit c (net ∷ nets) risen i bit ≡ rest = ap (λ (t : Bool). cond t (risen net) rest) e in
        elim below [
          | inl none ↦ inl (ap (λ (t : Bool). t || has_number (map (variable_at c) nets) i) e ∙ none.0, here ∙ none.1)
          | inr some ↦ inr (some.0, or_right (eqb net some.0) (has_number nets some.0) some.1, some.2, here ∙ some.3)
        ]

-- the variable of an input has its arrival bit if it is listed
begun_input : (c : Circuit) (nets : List ℕ) (risen : Nets) (n : ℕ) (bit : Bool) → ((m : ℕ) → has_number nets m ≡ true → IsInputNet c m) → IsInputNet c n
    → begun_bit c nets risen (variable_at c n) bit ≡ cond (has_number nets n) (risen n) bit
begun_input c [] risen n bit inputs is = refl
begun_input c (net ∷ nets) risen n bit inputs is =
    ap (λ (t : Bool). cond t (risen net) (begun_bit c nets risen (variable_at c n) bit))
    (same_variable c net n (inputs net (or_left (eqb net net) (has_number nets net) (eq-eqb net net refl))) is)
    ∙ by_test (eqb net n) refl (begun_input c nets risen n bit (λ m e. inputs m (or_right (eqb net m) (has_number nets m) e)) is)
  where
    by_test : (t : Bool) → eqb net n ≡ t → begun_bit c nets risen (variable_at c n) bit ≡ cond (has_number nets n) (risen n) bit
        → cond t (risen net) (begun_bit c nets risen (variable_at c n) bit) ≡ cond (t || has_number nets n) (risen n) bit
    by_test true e rest = ap risen (eqb-true net n e)
    by_test false e rest = rest

-- ---- the other variables

-- a variable from a number on that is behind all those of the nets keeps its bit
begun_behind : (c : Circuit) (nets : List ℕ) (risen : Nets) (most i : ℕ) (bit : Bool) → ((m : ℕ) → has_number nets m ≡ true → variable_at c m < most) → most ≤ i → begun_bit c nets risen i bit ≡ bit
begun_behind c [] risen most i bit low le = refl
begun_behind c (net ∷ nets) risen most i bit low le =
    let lt = low net (or_left (eqb net net) (has_number nets net) (eq-eqb net net refl)) in
    let other : eqb (variable_at c net) i ≡ false = false_from_ne_true (eqb (variable_at c net) i) (λ e. (let same = eqb-true (variable_at c net) i e in omega (arith, same, lt, le))) in
    ap (λ (t : Bool). cond t (risen net) (begun_bit c nets risen i bit)) other
    ∙ begun_behind c nets risen most i bit (λ m e. low m (or_right (eqb net m) (has_number nets m) e)) le

begun_same : (c : Circuit) (nets : List ℕ) (risen : Nets) (most first : ℕ) (bits : List Bool) → ((m : ℕ) → has_number nets m ≡ true → variable_at c m < most) → most ≤ first
    → begun_from c nets risen first bits ≡ bits
begun_same c nets risen most first [] low le = refl
begun_same c nets risen most first (bit ∷ bits) low le =
    ap₂ (λ (b : Bool) (bs : List Bool). b ∷ bs) (begun_behind c nets risen most first bit low le) (begun_same c nets risen most (suc first) bits low (omega (arith, le)))

begun_drop : (c : Circuit) (nets : List ℕ) (risen : Nets) (most first n : ℕ) (bits : List Bool) → ((m : ℕ) → has_number nets m ≡ true → variable_at c m < most) → most ≤ first + n
    → drop n (begun_from c nets risen first bits) ≡ drop n bits
begun_drop c nets risen most first zero bits low le = begun_same c nets risen most first bits low (omega (arith, le))
begun_drop c nets risen most first (suc n) [] low le = refl
begun_drop c nets risen most first (suc n) (bit ∷ bits) low le = begun_drop c nets risen most (suc first) n bits low (omega (arith, le))

abbrev input_net : ℕ → Source
input_net n = let net : Net = record { 0 = n } in Input net

abbrev inputs_from : ℕ → List FlatNet → List Source
inputs_from first nets =
    filter_map (λ (p : ℕ × FlatNet). cond (is_input p.1.kind) (let net : Net = record { 0 = p.0 } in Some (Input net)) None) (enumerate_from first nets)

abbrev with_first : Bool → ℕ → List FlatNet → List Source
with_first own first nets = cons_option (cond own (let net : Net = record { 0 = first } in Some (Input net)) None) (inputs_from (first + 1) nets)

none_picked : (is : Source → Bool) (sources : List Source) → bit_of is sources [] ≡ false
none_picked is [] = refl
none_picked is (s ∷ sources) = refl

-- a test that no input passes looks only at the bits behind them
behind_inputs : (is : Source → Bool) → ((n : ℕ) → is (input_net n) ≡ false) → (elements groups : List Source) (first : ℕ) (nets : List FlatNet) (bits : List Bool)
    → bit_of is (inputs_from first nets ++ elements ++ groups) bits ≡ bit_of is (elements ++ groups) (drop (length (filter is_input_net nets)) bits)
behind_inputs is none elements groups first [] bits = refl
behind_inputs is none elements groups first (x ∷ nets) bits = by_first (is_input x.kind) bits (behind_inputs is none elements groups (first + 1) nets)
  where
    by_first : (own : Bool) (bs : List Bool)
        → ((cs : List Bool) → bit_of is (inputs_from (first + 1) nets ++ elements ++ groups) cs ≡ bit_of is (elements ++ groups) (drop (length (filter is_input_net nets)) cs))
        → bit_of is (with_first own first nets ++ elements ++ groups) bs ≡ bit_of is (elements ++ groups) (drop (length (cond own (x ∷ filter is_input_net nets) (filter is_input_net nets))) bs)
    by_first true [] below = sym (none_picked is (elements ++ groups))
    by_first true (b ∷ bs) below =
        ap (λ (t : Bool). cond t b (bit_of is (inputs_from (first + 1) nets ++ elements ++ groups) bs)) (none first) ∙ below bs
    by_first false bs below = below bs

-- ---- the setting

module _ (k : Comparison) (phase : ℕ) (nets : List ℕ) (inputs : AreInputs k.circuit nets) (bits : List Bool) where
  abbrev c : Circuit
  c = k.circuit

  abbrev sources : List Source
  sources = sources_of k phase

  abbrev count : ℕ
  count = length sources

  abbrev end : List Bool
  end = take count bits

  abbrev risen : Nets
  risen = risen_at k phase nets bits

  pub input_nets : (m : ℕ) → has_number nets m ≡ true → IsInputNet c m
  input_nets m e = (let net = inputs m e in record { net = net.0; there = net.1; kind = net.2 })

  low : (m : ℕ) → has_number nets m ≡ true → variable_at c m < input_count c
  low m e = variable_below c m (input_nets m e)

  pub variable_few : (m : ℕ) → IsInputNet c m → variable_at c m < count
  variable_few m is = (let lt = variable_below c m is in let many = sources_many k phase in omega (arith, lt, many))

  -- the bits that no input has
  same_else : (is : Source → Bool) → ((n : ℕ) → is (input_net n) ≡ false) → bit_of is sources (begun k phase nets bits) ≡ bit_of is sources end
  unfolding variables_of
  same_else is none =
      let elements : List Source = map (λ (e : ℕ). Element e) (places 0 (element_names k.model)) in
      let free : List Source = filter_map (λ (p : ℕ × HoldGroup). cond (is_free c phase p.1) (Some (Group p.0)) None) (enumerate_from 0 k.groups) in
      behind_inputs is none elements free 0 c.nets (begun k phase nets bits)
      ∙ ap (bit_of is (elements ++ free)) (begun_drop c nets risen (input_count c) 0 (input_count c) end low (omega arith))
      ∙ sym (behind_inputs is none elements free 0 c.nets end)

  same_group : (number : ℕ) (element : Option ℕ) (entered : Option Bool) → group_bit_at sources (begun k phase nets bits) number element entered ≡ group_bit_at sources end number element entered
  same_group number (Some element) entered = same_else (is_element element) (λ n. refl)
  same_group number None (Some value) = refl
  same_group number None None = same_else (is_group number) (λ n. refl)

  same_held : (number : ℕ) (groups : List HoldGroup) (hold : ℕ) → held_in c phase sources (begun k phase nets bits) number groups hold ≡ held_in c phase sources end number groups hold
  same_held number [] hold = refl
  same_held number (group ∷ groups) hold =
      ap₂ {C = Bool} (λ (bit rest : Bool). held_by (member_of hold group) bit rest) (same_group number group.element (entered_bit c phase group)) (same_held (suc number) groups hold)

  -- an input has the bit of its variable
  pub input_is : (m : ℕ) (xs : List Bool) → IsInputNet c m → (setting_of k phase xs).inputs m ≡ bits_of xs (variable_at c m)
  unfolding setting_of
  input_is m xs is = input_variable k phase xs m is.net is.there is.kind

  module _ (len : length end ≡ count) where
    -- the bit of a variable where the step begins
    pub begun_is : (i : ℕ) → i < count → begun_at k phase nets bits i ≡ begun_bit c nets risen i (bits_of end i)
    begun_is i lt =
        begun_nth c nets risen 0 end i (omega (arith, lt, len)) ∙ ap (λ (x : ℕ). begun_bit c nets risen x (bits_of end i)) (omega arith)

    pub begun_past : (i : ℕ) → count ≤ i → begun_at k phase nets bits i ≡ false
    begun_past i le =
        let same = begun_len c nets risen 0 end in
        get_or_past (begun k phase nets bits) i false (omega (arith, same, len, le))

    -- an input where the step begins
    pub begun_net : (m : ℕ) → IsInputNet c m → begun_at k phase nets bits (variable_at c m) ≡ cond (has_number nets m) (risen m) (bits_of end (variable_at c m))
    begun_net m is = begun_is (variable_at c m) (variable_few m is) ∙ begun_input c nets risen m (bits_of end (variable_at c m)) input_nets is

    -- the variables give the setting
    pub begun_setting : (root : ℕ → Bool) → IsSettingAt c root (setting_of k phase (begun k phase nets bits)) → IsSettingAt c root (start_at k phase nets bits)
    unfolding setting_of
    begun_setting root given = record {
      inputs = λ m net e kind.
          let is : IsInputNet c m = record { net = net; there = e; kind = kind } in
          sym
          (input_is m (begun k phase nets bits) is ∙ begun_net m is
          ∙ ap (λ (b : Bool). cond (has_number nets m) (risen m) b) (sym (input_is m end is)))
          ∙ given.inputs m net e kind;
      held = λ at hold e plain. sym (same_held 0 k.groups at) ∙ given.held at hold e plain;
    }
