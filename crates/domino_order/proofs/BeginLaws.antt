-- Steps by where they begin: each one below a bound begins where a run looks, and from where some begin that fail the bits of one are made.
use Rattle.std.proofs.Common.{◌≡◌, ℕ, ◌+◌, ◌<◌, ◌++◌, ◌&&◌, Bool, true, false, cond, List, [], Option, Some, None, ap, arith, drop, length, map, refl, subst, sym, take, ◌∙◌, inl, inr}
use Rattle.std.specs.List.{range_with_len}
use Rattle.std.proofs.Math.Path.{fun_ext}
use Rattle.std.proofs.Math.Seq.{drop-append_seam, take-append_seam}
use Rattle.std.proofs.lemmas.Bool.{and_from, and_parts, cases_Bool, cases_lt, false≢true, or_cases, or_left, or_right}
use Rattle.std.proofs.lemmas.List.{get_or_past, length-map, length-drop, length-take-le, take-append-drop}
use Rattle.std.proofs.lemmas.List.FromFn.{length-range_with_len}
use Rattle.arrival_laws.specs.Orders.{Nets}
use Rattle.bdd_core.proofs.Meaning.{meaning_zero}
use Rattle.bdd_core.specs.Diagram.{Function, Valuation, meaning}
use Rattle.bdd_core.specs.Store.{Diagrams, function_of}
use Rattle.bdd_core.specs.declared.handle.H.{H}
use Rattle.bdd_ops.specs.Ops.{bits_of}
use Rattle.domino_order.proofs.BegunLaws.{IsInputNet, begun_cases, begun_is, begun_net, begun_past, input_is, input_nets}
use Rattle.domino_order.proofs.BitLists.{arrived_listed, arrived_map, arrived_once, bits_from, compares_less, compares_same, from_bits, has_map, less_back, less_front, less_parts, map_listed, map_twice, same_compares}
use Rattle.domino_order.proofs.StepGives.{arrivals_is, arrivals_len, bits_len, end_is}
use Rattle.domino_order.specs.Beginnings.{beside_bound, beside_of, ends_below, near_of, reached_of}
use Rattle.domino_order.specs.Runs.{EndIs, IsAsked, IsBound, RunGives, first_bits, is_below, is_end, of_asked}
use Rattle.domino_order.specs.StepBits.{FailsAt, IsStepAt, arrived}
use Rattle.domino_order.specs.StepSettings.{begun, begun_at, begun_bit, risen_at}
use Rattle.domino_order.specs.declared.found.NetFound.TheVariants.{Fails}
use Rattle.domino_order.specs.declared.prepared.Asked.{Asked}
use Rattle.phase_open.specs.Given.{variable_at}
use Rattle.phase_terms.specs.Found.{met}
use Rattle.step_roots.proofs.MovedLaws.{moved_from, moved_to}
use Rattle.step_roots.specs.Bits.{compares}
use Rattle.step_roots.specs.Moved.{Moves, moved_of}
use Rattle.vrt_model.specs.Comparison.{Comparison}
use Rattle.vrt_model.specs.Held.{setting_of, sources_of}
use Rattle.vrt_model.specs.Lists.{has_number}
use Rattle.vrt_model.specs.Variables.{is_less}
use Rattle.vrt_model.specs.declared.circuit.Circuit.{Circuit}
use Rattle.vrt_model.specs.declared.groups.Valuation.{Valuation as Found}

-- ---- valuations that move into one another

-- where variables that are moved to 1 lead to a valuation, moved to 0 they lead back
pub moves_back : (xs : List ℕ) (u w : Valuation) → Moves xs true u w → Moves xs false w u
moves_back xs u w moves i = elim (moves i) [
  | inl same ↦ inl (sym same)
  | inr moved ↦ elim (cases_Bool (u i)) [ inl e ↦ inl (moved.1 ∙ sym e) | inr e ↦ inr (moved.0, e) ]
]

pub moves_on : (xs : List ℕ) (u w : Valuation) → Moves xs false w u → Moves xs true u w
moves_on xs u w moves i = elim (moves i) [
  | inl same ↦ inl (sym same)
  | inr moved ↦ elim (cases_Bool (w i)) [ inl e ↦ inr (moved.0, e) | inr e ↦ inl (moved.1 ∙ sym e) ]
]

-- a valuation in place of another one that has the same first bits, where both lists have no more
moves_same : (xs : List ℕ) (bit : Bool) (n : ℕ) (us ws : List Bool) (w : Valuation) → length us ≡ n → length ws ≡ n → ((i : ℕ) → i < n → w i ≡ bits_of ws i) → Moves xs bit (bits_of us) w
    → Moves xs bit (bits_of us) (bits_of ws)
moves_same xs bit n us ws w ulen wlen same moves i = elim (cases_lt i n) [
  | inl lt ↦ elim (moves i) [ inl is ↦ inl (is ∙ same i lt) | inr moved ↦ inr (moved.0, sym (same i lt) ∙ moved.1) ]
  | inr ge ↦ inl (get_or_past us i false (omega (arith, ulen, ge)) ∙ sym (get_or_past ws i false (omega (arith, wlen, ge))))
]

module _ (s : Asked) (is : IsAsked s) (n : ℕ) (listed : has_number s.rising.nets.now n ≡ true) where
  abbrev k : Comparison
  k = of_asked s

  abbrev c : Circuit
  c = k.circuit

  abbrev phase : ℕ
  phase = s.rising.phase

  abbrev nets : List ℕ
  nets = s.rising.nets.now

  abbrev count : ℕ
  count = length (sources_of k phase)

  abbrev order : List ℕ
  order = s.order.now

  abbrev arrivals : List ℕ
  arrivals = s.arrivals.now

  pub order_len : length order ≡ count
  order_len = ap (λ (xs : List ℕ). length xs) is.order ∙ length-range_with_len 0 count

  pub arrivals_many : length arrivals ≡ length nets
  arrivals_many = ap (λ (xs : List ℕ). length xs) is.arrivals ∙ length-map nets (variable_at c)

  net_is : IsInputNet c n
  net_is = input_nets k phase nets is.rising.inputs [] n listed

  -- the variables in their order have the bits of a list
  order_bits : (xs : List Bool) → length xs ≡ count → map (bits_of xs) order ≡ xs
  order_bits xs len =
      ap (λ (ys : List ℕ). map (bits_of xs) ys) (is.order ∙ ap (λ (m : ℕ). range_with_len 0 m) (sym len))
      ∙ bits_from (bits_of xs) 0 xs (λ i lt. (let same : 0 + i ≡ i = omega arith in ap (bits_of xs) same))

  bits_order : (v : Valuation) (xs : List Bool) → length xs ≡ count → map v order ≡ xs → (i : ℕ) → i < count → v i ≡ bits_of xs i
  bits_order v xs len e i lt =
      let same : i ≡ 0 + i = omega arith in
      ap v same
      ∙ from_bits v 0 xs (ap (λ (ys : List ℕ). map v ys) (ap (λ (m : ℕ). range_with_len 0 m) len ∙ sym is.order) ∙ e) i (omega (arith, lt, len))

  -- the bits of the arrivals where a step begins
  arrival_bits : (v : Valuation) → map v arrivals ≡ map (λ m. v (variable_at c m)) nets
  arrival_bits v = ap (λ (ys : List ℕ). map v ys) is.arrivals ∙ map_twice v (variable_at c) nets

  has_variable : (m : ℕ) → has_number nets m ≡ true → has_number arrivals (variable_at c m) ≡ true
  has_variable m there = subst (λ (ys : List ℕ). has_number ys (variable_at c m) ≡ true) (sym is.arrivals) (has_map (variable_at c) nets m there)

  module _ (bound : Option Found) (ends : Function) (ends_are : (xs : List Bool) → ends (bits_of xs) ≡ is_end s n bound xs) where
    -- ---- each step begins there

    module _ (bits : List Bool) (at : IsStepAt k phase nets n bits) where
      abbrev end : List Bool
      end = take count bits

      abbrev risen : Nets
      risen = risen_at k phase nets bits

      abbrev u : Valuation
      u = begun_at k phase nets bits

      end_len : length end ≡ count
      end_len = ap (λ (xs : List Bool). length xs) (end_is k phase nets n bits at) ∙ at.meets.valuation

      pub not_risen : (setting_of k phase (begun k phase nets bits)).inputs n ≡ false
      not_risen =
          input_is k phase nets is.rising.inputs bits n (begun k phase nets bits) net_is ∙ begun_net k phase nets is.rising.inputs bits end_len n net_is
          ∙ ap (λ (t : Bool). cond t (risen n) (bits_of end (variable_at c n))) listed
          ∙ ap (λ (xs : List Bool). arrived nets xs n) (arrivals_is k phase nets n bits at) ∙ at.step.next

      -- an input that has risen is 1 at the end
      risen_high : (m : ℕ) → has_number nets m ≡ true → risen m ≡ true → bits_of end (variable_at c m) ≡ true
      risen_high m there up =
          let rises = at.step.before m (ap (λ (xs : List Bool). arrived nets xs m) (sym (arrivals_is k phase nets n bits at)) ∙ up) in
          sym (input_is k phase nets is.rising.inputs bits m end (input_nets k phase nets is.rising.inputs bits m there))
          ∙ ap (λ (xs : List Bool). (setting_of k phase xs).inputs m) (end_is k phase nets n bits at) ∙ rises.1

      pub moves_to_end : Moves arrivals true u (bits_of end)
      moves_to_end i = elim (cases_lt i count) [
        | inl lt ↦
            let here = begun_is k phase nets is.rising.inputs bits end_len i lt in
            elim (begun_cases c nets risen i (bits_of end i)) [
              | inl none ↦ inl (here ∙ none.1)
              | inr some ↦ elim (cases_Bool (risen some.0)) [
                | inl up ↦ inl (here ∙ some.3 ∙ up ∙ sym (ap (bits_of end) (sym some.2) ∙ risen_high some.0 some.1 up))
                | inr down ↦ elim (cases_Bool (bits_of end i)) [
                  | inl high ↦ inr (subst (λ (x : ℕ). has_number arrivals x ≡ true) some.2 (has_variable some.0 some.1), high)
                  | inr low ↦ inl (here ∙ some.3 ∙ down ∙ sym low)
                ]
              ]
            ]
        | inr ge ↦ inl (begun_past k phase nets is.rising.inputs bits end_len i ge ∙ sym (get_or_past end i false (let len = end_len in omega (arith, len, ge))))
      ]

      end_high : ends_below order bound (bits_of end) ≡ true → ends (bits_of end) ≡ true
      end_high below =
          let to : at.end ≡ end = sym (end_is k phase nets n bits at) in
          ends_are end
          ∙ and_from (met k phase end && (setting_of k phase end).inputs n) (ends_below order bound (bits_of end))
          (and_from (met k phase end) ((setting_of k phase end).inputs n) (ap (λ (xs : List Bool). met k phase xs) (sym to) ∙ at.meets.constraints)
          (ap (λ (xs : List Bool). (setting_of k phase xs).inputs n) (sym to) ∙ at.step.rises.1)) below

      -- the arrivals are the last bits
      last_bits : map u arrivals ≡ drop count bits
      last_bits =
          arrival_bits u
          ∙ map_listed (λ m. u (variable_at c m)) risen nets
          (λ m there.
          begun_net k phase nets is.rising.inputs bits end_len m (input_nets k phase nets is.rising.inputs bits m there)
          ∙ ap (λ (t : Bool). cond t (risen m) (bits_of end (variable_at c m))) there)
          ∙ arrived_once nets (drop count bits) is.once (arrivals_len k phase nets n bits at)

  pub all_begin : (bound : Option Found) (ends : Function) → ((xs : List Bool) → ends (bits_of xs) ≡ is_end s n bound xs) → IsBound k phase nets n bound → (bits : List Bool) → IsStepAt k phase nets n bits
      → is_below bound bits ≡ true → reached_of order arrivals bound ends (begun_at k phase nets bits) ≡ true
  all_begin None ends ends_are bounded bits at below =
      let u = begun_at k phase nets bits in
      or_left (moved_of arrivals true ends u) false
      (moved_from arrivals true ends u (bits_of (take count bits)) (moves_to_end None ends ends_are bits at) (end_high None ends ends_are bits at refl))
  all_begin (Some b) ends ends_are bounded bits at below =
      let u = begun_at k phase nets bits in
      let end : List Bool = take count bits in
      let xs : List Bool = drop count bits in
      let len : length end ≡ count = end_len (Some b) ends ends_are bits at in
      let many : length xs ≡ length nets = arrivals_len k phase nets n bits at in
      let size : length b.bits ≡ count + length nets = bits_len k phase nets n b.bits bounded.at in
      let few : length order ≡ count = order_len in
      let first : List Bool = take (length order) b.bits in
      let first_len : length first ≡ length order = length-take-le (length order) b.bits (omega (arith, size, few)) in
      let cut : take (length end) b.bits ≡ first = (let same : length end ≡ length order = omega (arith, len, few) in ap (λ (m : ℕ). take m b.bits) same) in
      let behind : drop (length end) b.bits ≡ drop (length order) b.bits = (let same : length end ≡ length order = omega (arith, len, few) in ap (λ (m : ℕ). drop m b.bits) same) in
      elim
      (less_parts end xs b.bits (omega (arith, size, len, many)) (ap (λ (ys : List Bool). is_less ys b.bits) (take-append-drop count bits) ∙ below)) [
        | inl less ↦
            or_left (moved_of arrivals true ends u) (beside_of order arrivals b.bits u)
            (moved_from arrivals true ends u (bits_of end) (moves_to_end (Some b) ends ends_are bits at)
            (end_high (Some b) ends ends_are bits at
            (compares_less order first (bits_of end) first_len ∙ ap (λ (ys : List Bool). is_less ys first) (order_bits end len) ∙ ap (is_less end) (sym cut) ∙ less)))
        | inr same ↦
            or_right (moved_of arrivals true ends u) (beside_of order arrivals b.bits u)
            (and_from (moved_of arrivals true (compares false order first) u) (compares true arrivals (drop (length order) b.bits) u)
            (moved_from arrivals true (compares false order first) u (bits_of end) (moves_to_end (Some b) ends ends_are bits at)
            (subst (λ (ys : List Bool). compares false order ys (bits_of end) ≡ true) (order_bits end len ∙ same.0 ∙ cut) (same_compares order (bits_of end))))
            (compares_less arrivals (drop (length order) b.bits) u
            (let dropped = length-drop (length order) b.bits in let all = arrivals_many in omega (arith, dropped, all, size, few))
            ∙ ap (λ (ys : List Bool). is_less ys (drop (length order) b.bits)) (last_bits (Some b) ends ends_are bits at) ∙ ap (is_less xs) (sym behind) ∙ same.1))
      ]

  -- ---- the bits of a step that begins so

  module _ (us xs : List Bool) (ulen : length us ≡ count) (xlen : length xs ≡ count) (low : (setting_of k phase us).inputs n ≡ false) (moves : Moves arrivals true (bits_of us) (bits_of xs))
      (meets : met k phase xs ≡ true) (high : (setting_of k phase xs).inputs n ≡ true) where
    abbrev ys : List Bool
    ys = map (bits_of us) arrivals

    abbrev made : List Bool
    made = xs ++ ys

    has_arrived : (m : ℕ) → has_number nets m ≡ true → arrived nets ys m ≡ bits_of us (variable_at c m)
    has_arrived m there = ap (λ (bs : List Bool). arrived nets bs m) (arrival_bits (bits_of us)) ∙ arrived_map (λ x. bits_of us (variable_at c x)) nets m there

    input_here : (m : ℕ) (bs : List Bool) → has_number nets m ≡ true → (setting_of k phase bs).inputs m ≡ bits_of bs (variable_at c m)
    input_here m bs there = input_is k phase nets is.rising.inputs [] m bs (input_nets k phase nets is.rising.inputs [] m there)

    pub made_step : IsStepAt k phase nets n made
    made_step = record {
      end = xs;
      arrivals = ys;
      is = refl;
      meets = record { valuation = xlen; constraints = meets };
      all = length-map arrivals (bits_of us) ∙ arrivals_many;
      step = record {
        before = λ m up.
            let there = arrived_listed nets ys m up in
            let risen : bits_of us (variable_at c m) ≡ true = sym (has_arrived m there) ∙ up in (
              there,
              input_here m xs there ∙ elim (moves (variable_at c m)) [ inl same ↦ sym same ∙ risen | inr moved ↦ moved.1 ],
            );
        rises = (listed, high);
        next = has_arrived n listed ∙ sym (input_here n us listed) ∙ low;
      };
    }

    first_part : take count made ≡ xs
    first_part = ap (λ (m : ℕ). take m made) (sym xlen) ∙ take-append_seam xs ys

    last_part : drop count made ≡ ys
    last_part = ap (λ (m : ℕ). drop m made) (sym xlen) ∙ drop-append_seam xs ys

    pub made_begun : begun_at k phase nets made ≡ bits_of us
    made_begun = fun_ext (λ i. elim (cases_lt i count) [
      | inl lt ↦
          let len : length (take count made) ≡ count = ap (λ (bs : List Bool). length bs) first_part ∙ xlen in
          begun_is k phase nets is.rising.inputs made len i lt
          ∙ ap (λ (bs : List Bool). begun_bit c nets (risen_at k phase nets made) i (bits_of bs i)) first_part
          ∙ elim (begun_cases c nets (risen_at k phase nets made) i (bits_of xs i)) [
            | inl none ↦ none.1 ∙ elim (moves i) [
              | inl same ↦ sym same
              | inr moved ↦ absurd (false≢true (sym none.0 ∙ subst (λ (zs : List ℕ). has_number zs i ≡ true) is.arrivals moved.0))
            ]
            | inr some ↦
                some.3 ∙ ap (λ (bs : List Bool). arrived nets bs some.0) last_part ∙ has_arrived some.0 some.1 ∙ ap (bits_of us) some.2
          ]
      | inr ge ↦
          let len : length (take count made) ≡ count = ap (λ (bs : List Bool). length bs) first_part ∙ xlen in
          begun_past k phase nets is.rising.inputs made len i ge ∙ sym (get_or_past us i false (omega (arith, ulen, ge)))
    ])

  -- ---- an end for where a step begins

  module _ (ends : Function) (us : List Bool) (ulen : length us ≡ count) (low : (setting_of k phase us).inputs n ≡ false)
      (fails : (bits : List Bool) → IsStepAt k phase nets n bits → begun_at k phase nets bits ≡ bits_of us → FailsAt k phase nets n bits) (budget : ℕ) where
    fails_made : (xs : List Bool) → length xs ≡ count → Moves arrivals true (bits_of us) (bits_of xs) → met k phase xs ≡ true → (setting_of k phase xs).inputs n ≡ true
        → FailsAt k phase nets n (xs ++ map (bits_of us) arrivals)
    fails_made xs xlen moves meets high =
        fails (xs ++ map (bits_of us) arrivals) (made_step us xs ulen xlen low moves meets high) (made_begun us xs ulen xlen low moves meets high)

    -- one of the ends
    near_moves : (xs : List Bool) → length xs ≡ count → moved_of arrivals false (compares false order us) (bits_of xs) ≡ true → Moves arrivals true (bits_of us) (bits_of xs)
    near_moves xs xlen e =
        let to = moved_to arrivals false (compares false order us) (bits_of xs) e in
        let few : length order ≡ count = order_len in
        let same = bits_order to.0 us ulen (compares_same order us to.0 (omega (arith, ulen, few)) to.2) in
        moves_on arrivals (bits_of us) (bits_of xs) (moves_same arrivals false count xs us to.0 xlen ulen same to.1)

    end_gives : (bound : Option Found) → IsBound k phase nets n bound → ((xs : List Bool) → ends (bits_of xs) ≡ is_end s n bound xs) → (xs : List Bool) → length xs ≡ count
        → near_of order arrivals us ends (bits_of xs) ≡ true → RunGives s n bound budget (Fails (record { bits = xs ++ map (bits_of us) arrivals }))
    end_gives bound bounded ends_are xs xlen e =
        let parts = and_parts (ends (bits_of xs)) (moved_of arrivals false (compares false order us) (bits_of xs)) e in
        let outer = and_parts (met k phase xs && (setting_of k phase xs).inputs n) (ends_below order bound (bits_of xs)) (sym (ends_are xs) ∙ parts.0) in
        let inner = and_parts (met k phase xs) ((setting_of k phase xs).inputs n) outer.0 in
        (fails_made xs xlen (near_moves xs xlen parts.1) inner.0 inner.1, below_by bound bounded outer.1)
      where
        below_by : (o : Option Found) → IsBound k phase nets n o → ends_below order o (bits_of xs) ≡ true → is_below o (xs ++ map (bits_of us) arrivals) ≡ true
        below_by None bounded e = refl
        below_by (Some b) bounded e =
            let size : length b.bits ≡ count + length nets = bits_len k phase nets n b.bits bounded.at in
            let few : length order ≡ count = order_len in
            let first_len : length (take (length order) b.bits) ≡ length order = length-take-le (length order) b.bits (omega (arith, size, few)) in
            let same : length order ≡ length xs = omega (arith, few, xlen) in
            less_front xs (map (bits_of us) arrivals) b.bits
            (ap (λ (m : ℕ). is_less xs (take m b.bits)) (sym same) ∙ ap (λ (zs : List Bool). is_less zs (take (length order) b.bits)) (sym (order_bits xs xlen))
            ∙ sym (compares_less order (take (length order) b.bits) (bits_of xs) first_len) ∙ e)

    -- beside the bound, where there is no other end
    beside_gives : (bound : Option Found) → IsBound k phase nets n bound → reached_of order arrivals bound ends (bits_of us) ≡ true → ((w : Valuation) → near_of order arrivals us ends w ≡ false)
        → (xs : List Bool) → xs ≡ first_bits (length order) bound → RunGives s n bound budget (Fails (record { bits = xs ++ map (bits_of us) arrivals }))
    beside_gives bound bounded reached none xs first =
        elim (or_cases (moved_of arrivals true ends (bits_of us)) (beside_bound order arrivals bound (bits_of us)) reached) [
          | inl one ↦
              let to = moved_to arrivals true ends (bits_of us) one in
              let same : compares false order us (bits_of us) ≡ true =
              subst (λ (zs : List Bool). compares false order zs (bits_of us) ≡ true) (order_bits us ulen) (same_compares order (bits_of us)) in
              absurd (
              false≢true
              (sym (none to.0)
              ∙ and_from (ends to.0) (moved_of arrivals false (compares false order us) to.0) to.2
              (moved_from arrivals false (compares false order us) to.0 (bits_of us) (moves_back arrivals (bits_of us) to.0 to.1) same))
              )
          | inr beside ↦ by_bound bound bounded beside first
        ]
      where
        by_bound : (o : Option Found) → IsBound k phase nets n o → beside_bound order arrivals o (bits_of us) ≡ true → xs ≡ first_bits (length order) o
            → RunGives s n o budget (Fails (record { bits = xs ++ map (bits_of us) arrivals }))
        by_bound None bounded e first = absurd (false≢true e)
        by_bound (Some b) bounded e first =
            let at = bounded.at in
            let few : length order ≡ count = order_len in
            let size : length b.bits ≡ count + length nets = bits_len k phase nets n b.bits at in
            let start : List Bool = take (length order) b.bits in
            let start_len : length start ≡ length order = length-take-le (length order) b.bits (omega (arith, size, few)) in
            let xlen : length xs ≡ count = ap (λ (zs : List Bool). length zs) first ∙ start_len ∙ few in
            let xs_end : xs ≡ at.end = first ∙ ap (λ (m : ℕ). take m b.bits) few ∙ end_is k phase nets n b.bits at in
            let parts = and_parts (moved_of arrivals true (compares false order start) (bits_of us)) (compares true arrivals (drop (length order) b.bits) (bits_of us)) e in
            let to = moved_to arrivals true (compares false order start) (bits_of us) parts.0 in
            let same : (i : ℕ) → i < count → to.0 i ≡ bits_of xs i =
            bits_order to.0 xs xlen (compares_same order start to.0 start_len to.2 ∙ sym first) in
            let moves = moves_same arrivals true count us xs to.0 ulen xlen same to.1 in
            let meets : met k phase xs ≡ true = ap (λ (zs : List Bool). met k phase zs) xs_end ∙ at.meets.constraints in
            let high : (setting_of k phase xs).inputs n ≡ true = ap (λ (zs : List Bool). (setting_of k phase zs).inputs n) xs_end ∙ at.step.rises.1 in
            let dropped = length-drop (length order) b.bits in
            let all : length arrivals ≡ length nets = arrivals_many in
            let less : is_less (map (bits_of us) arrivals) (drop (length order) b.bits) ≡ true =
            sym (compares_less arrivals (drop (length order) b.bits) (bits_of us) (omega (arith, dropped, all, size, few))) ∙ parts.1 in (
              fails_made xs xlen moves meets high,
              ap (λ (zs : List Bool). is_less (zs ++ map (bits_of us) arrivals) b.bits) first
                  ∙ less_back (length order) (map (bits_of us) arrivals) b.bits (omega (arith, size, few)) less,
            )

    -- either way
    pub found_gives : (bound : Option Found) → IsBound k phase nets n bound → ((xs : List Bool) → ends (bits_of xs) ≡ is_end s n bound xs) → reached_of order arrivals bound ends (bits_of us) ≡ true → (near : H) (d : Diagrams)
        → ((w : Valuation) → function_of d near w ≡ near_of order arrivals us ends w) → d.vars ≡ count → (xs : List Bool) → EndIs d near (length order) bound xs
        → RunGives s n bound budget (Fails (record { bits = xs ++ map (bits_of us) arrivals }))
    found_gives bound bounded ends_are reached near d near_is vars xs (inl there) =
        end_gives bound bounded ends_are xs (there.1 ∙ vars) (sym (near_is (bits_of xs)) ∙ there.0)
    found_gives bound bounded ends_are reached near d near_is vars xs (inr none) =
        beside_gives bound bounded reached (λ w. sym (near_is w) ∙ ap (λ (h : ℕ). meaning d.nodes h w) none.0 ∙ meaning_zero d.nodes w) xs none.1
