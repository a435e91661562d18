-- The lines of an instance's cell hold exactly where its constraints are not broken.
use Rattle.std.proofs.Common.{◌≡◌, ℕ, zero, suc, ◌<◌, ◌≤◌, ◌&&◌, ◌||◌, Bool, true, false, cond, not, List, [], ◌∷◌, length, get_or, Option, Some, None, arith, ap, ap₂, refl, sym, subst, ◌∙◌, inl, inr}
use Rattle.std.specs.Prelude.{◌↔◌, bytes_eq, find, nat_lt, option_and_then, option_map, slice_get}
use Rattle.std.specs.List.{list_all, position_or_len}
use Rattle.std.proofs.lemmas.Bool.{and_parts, false≢true, ltb-false, true≢false, and_cases}
use Rattle.std.proofs.lemmas.List.Quantifiers.{position-Some}
use Rattle.std.proofs.lemmas.List.Sums.{fails_before_first}
use Rattle.std.proofs.lemmas.Option.{get_or_from_slice_get, none-some, same_Some, slice_get-get_or, slice_get_within, cond_some}
use Rattle.std.proofs.lemmas.Slice.Eq.{bytes_eq-Decides}
use Rattle.node_pool.specs.declared.region.Span.{Span}
use Rattle.bdd_core.specs.Diagram.{Valuation, meaning}
use Rattle.bdd_core.specs.Store.{Diagrams}
use Rattle.vrt_model.proofs.Lists.{among_filter_map, at_there, filter_map_among}
use Rattle.vrt_model.proofs.Members.{among_later, among_left, among_right, any_among, find_among, find_none}
use Rattle.vrt_model.specs.CellRules.{clock_of_port, is_for}
use Rattle.vrt_model.specs.Comparison.{cell_at, phase_at}
use Rattle.vrt_model.specs.Expressions.{both, names_in, negated, value_by, value_of}
use Rattle.vrt_model.specs.Faults.{BreaksAssume, BreaksClock, BreaksConstraint, port_bit}
use Rattle.vrt_model.specs.Inputs.{AllApart}
use Rattle.vrt_model.specs.Lists.{Among, At, differ, has_name, place_of}
use Rattle.vrt_model.specs.Reading.{clock_bit}
use Rattle.vrt_model.specs.declared.circuit.FlatInstance.{FlatInstance}
use Rattle.vrt_model.specs.declared.design.Design.{Design}
use Rattle.vrt_model.specs.declared.ids.Net.{Net}
use Rattle.vrt_model.specs.declared.rules.AssumeRule.{AssumeRule}
use Rattle.vrt_model.specs.declared.rules.ClockRef.{ClockRef}
use Rattle.vrt_model.specs.declared.rules.ClockportRule.{ClockportRule}
use Rattle.vrt_model.specs.declared.rules.Expr.{Expr}
use Rattle.vrt_model.specs.declared.rules.Expr.TheVariants.{Port, Not', And', Xor', Or'}
use Rattle.vrt_model.specs.declared.rules.Rules.{Rules}
use Rattle.constraints.specs.Evaluated.{value_in}
use Rattle.constraints.specs.Handles.{handle_tied, net_at, word_of}
use Rattle.constraints.specs.Obliged.{AreNamed, HasPortBits, all_hold, assume_holds, clock_holds, obliged_at, phase_bits}

-- ---- names

same_names : (a b : List ℕ) → bytes_eq a b ≡ true → a ≡ b
same_names a b e = (bytes_eq-Decides a b).0 e

pub names_same : (a b : List ℕ) → a ≡ b → bytes_eq a b ≡ true
names_same a b e = (bytes_eq-Decides a b).1 e

-- a name that is there has a place
some_place : (names : List (List ℕ)) (name : List ℕ) → has_name names name ≡ true → place_of names name ≡ None → ⊥
some_place names name there none = by_test (nat_lt (position_or_len (bytes_eq name) names) (length names)) refl none
  where
    by_test : (b : Bool) → nat_lt (position_or_len (bytes_eq name) names) (length names) ≡ b → cond b (Some (position_or_len (bytes_eq name) names)) None ≡ None → ⊥
    by_test true e q = none-some _ (sym q)
    by_test false e q =
        let past : length names ≤ position_or_len (bytes_eq name) names = ltb-false (position_or_len (bytes_eq name) names) (length names) e in
        let h = any_among (bytes_eq name) names there in
        let i : ℕ = h.1.0 in
        let low : i < length names = slice_get_within names i h.0 h.1.1 in
        let not_it : bytes_eq name (get_or names i []) ≡ false = fails_before_first (bytes_eq name) names i [] (omega (arith, past, low)) in
        let item : get_or names i [] ≡ h.0 = get_or_from_slice_get names i h.0 [] h.1.1 in
        true≢false (sym h.2 ∙ sym (ap (bytes_eq name) item) ∙ not_it)

-- the name at its place
pub at_place : (names : List (List ℕ)) (name : List ℕ) (at : ℕ) → place_of names name ≡ Some at → (at < length names) × At names at name
at_place names name at e =
    let h = position-Some (bytes_eq name) names at [] e in
    (h.0, slice_get-get_or names at [] h.0 ∙ ap Some (sym (same_names name (get_or names at []) h.1)))

-- ---- the value by the bits of a solution

joined : (op : Bool → Bool → Bool) (x y : Option Bool) (a b : Bool) → x ≡ Some a → y ≡ Some b → both op x y ≡ Some (op a b)
joined op x y a b e f = ap₂ (λ (p q : Option Bool). both op p q) e f

value_known : (bits : List ℕ → Option Bool) (f : List ℕ → Bool) (e : Expr) → ((name : List ℕ) → Among (names_in e) name → bits name ≡ Some (f name)) → value_by bits e ≡ Some (value_of f e)
value_known bits f (Port name) known = known name (zero, refl)
value_known bits f (Not' p e) known = ap negated (value_known bits f e known)
value_known bits f (And' p e q g) known =
    joined ◌&&◌ (value_by bits e) (value_by bits g) (value_of f e) (value_of f g) (value_known bits f e (λ n m. known n (among_left (names_in e) (names_in g) n m)))
    (value_known bits f g (λ n m. known n (among_right (names_in e) (names_in g) n m)))
value_known bits f (Xor' p e q g) known =
    joined differ (value_by bits e) (value_by bits g) (value_of f e) (value_of f g) (value_known bits f e (λ n m. known n (among_left (names_in e) (names_in g) n m)))
    (value_known bits f g (λ n m. known n (among_right (names_in e) (names_in g) n m)))
value_known bits f (Or' p e q g) known =
    joined ◌||◌ (value_by bits e) (value_by bits g) (value_of f e) (value_of f g) (value_known bits f e (λ n m. known n (among_left (names_in e) (names_in g) n m)))
    (value_known bits f g (λ n m. known n (among_right (names_in e) (names_in g) n m)))

-- ---- lists of tests

some_fails : {X : Type 0} (test : X → Bool) (xs : List X) → list_all test xs ≡ false → (x : X) × Among xs x × (test x ≡ false)
some_fails test [] e = absurd (true≢false e)
some_fails {X} test (x ∷ xs) e = by_test (test x) refl e (some_fails test xs)
  where
    by_test : (b : Bool) → test x ≡ b → (b && list_all test xs) ≡ false → (list_all test xs ≡ false → (y : X) × Among xs y × (test y ≡ false)) → (y : X) × Among (x ∷ xs) y × (test y ≡ false)
    by_test true t e rest = let h = rest e in (h.0, among_later x xs h.0 h.1, h.2)
    by_test false t e rest = (x, (zero, refl), t)

fails_all : {X : Type 0} (test : X → Bool) (xs : List X) (x : X) → Among xs x → test x ≡ false → list_all test xs ≡ false
fails_all test [] x m t = absurd (none-some x m.1)
fails_all {X} test (y ∷ ys) x (zero, e) t = ap (λ (b : Bool). b && list_all test ys) (subst (λ (z : X). test z ≡ false) (sym (same_Some y x e)) t)
fails_all test (y ∷ ys) x (suc i, e) t = last (test y) (fails_all test ys x (i, e) t)
  where
    last : (b : Bool) → list_all test ys ≡ false → (b && list_all test ys) ≡ false
    last true e = e
    last false e = refl

cond_false : (b x : Bool) → cond b x true ≡ false → (b ≡ true) × (x ≡ false)
cond_false true x e = (refl, e)
cond_false false x e = absurd (true≢false e)

cond_true : (b x : Bool) → b ≡ true → x ≡ false → cond b x true ≡ false
cond_true b x e f = ap (λ (t : Bool). cond t x true) e ∙ f

-- ---- bits

not_differ : (a b : Bool) → not (differ a b) ≡ false → b ≡ not a
not_differ true true e = absurd (true≢false e)
not_differ true false e = refl
not_differ false true e = refl
not_differ false false e = absurd (true≢false e)

differs_not : (a b : Bool) → b ≡ not a → not (differ a b) ≡ false
differs_not true true e = absurd (true≢false e)
differs_not true false e = refl
differs_not false true e = refl
differs_not false false e = absurd (false≢true e)

-- ---- an instance

module _ (design : Design) (rules : Rules) (i : FlatInstance) (phase : ℕ) (d : Diagrams) (values : Span) (v : Valuation) (a : ℕ → Option Bool)
    (apart : AllApart bytes_eq (cell_at design i.cell).ports) (key : AllApart (λ (x y : ClockportRule). bytes_eq x.cell y.cell && bytes_eq x.port y.port) rules.clockports)
    (named : AreNamed rules (cell_at design i.cell)) (count : length i.ports ≡ length (cell_at design i.cell).ports) (known : HasPortBits d values i.ports v a) where
  abbrev ports : List (List ℕ)
  ports = (cell_at design i.cell).ports

  abbrev cell : List ℕ
  cell = (cell_at design i.cell).name

  abbrev handle : List ℕ → ℕ
  handle = handle_tied d.words ports i.ports values

  abbrev bit : List ℕ → Bool
  bit name = meaning d.nodes (handle name) v

  by_net : (o : Option Net) → (o ≡ None → ⊥) → ((net : Net) → o ≡ Some net → Among i.ports net)
      → option_and_then (λ (net : Net). a net.0) o ≡ Some (meaning d.nodes (word_of d.words values (option_map (λ (net : Net). net.0) o)) v)
  by_net None some there = absurd (some refl)
  by_net (Some net) some there = known net (there net refl)

  by_place : (o : Option ℕ) → (o ≡ None → ⊥) → ((at : ℕ) → o ≡ Some at → at < length i.ports)
      → option_and_then (λ (net : Net). a net.0) (option_and_then (λ (at : ℕ). slice_get i.ports at) o) ≡ Some (meaning d.nodes (word_of d.words values (option_and_then (net_at i.ports) o)) v)
  by_place None some low = absurd (some refl)
  by_place (Some at) some low = by_net (slice_get i.ports at) (λ e. no_net at (low at refl) e) (λ net e. (at, e))
    where
      no_net : (at : ℕ) → at < length i.ports → slice_get i.ports at ≡ None → ⊥
      no_net at lt e = let there = at_there i.ports at lt in none-some there.0 (sym e ∙ there.1)

  -- the bit of a port is that of its handle
  port_known : (name : List ℕ) → has_name ports name ≡ true → port_bit design a i name ≡ Some (bit name)
  port_known name there = by_place (place_of ports name) (some_place ports name there) (λ at e. let h = at_place ports name at e in let low = h.0 in omega (arith, low, count))

  -- ---- assumptions

  assume_broken : all_hold (assume_holds d handle cell phase) rules.assumes v ≡ false → BreaksAssume design rules phase a i
  assume_broken e =
      let h = some_fails (λ (r : AssumeRule). assume_holds d handle cell phase r v) rules.assumes e in
      let r : AssumeRule = h.0 in
      let asked = cond_false (bytes_eq r.cell cell && is_for r.phase phase) (value_in d handle r.expression v) h.2 in
      let ours = (and_parts (bytes_eq r.cell cell) (is_for r.phase phase) asked.0).0 in (
        r.expression,
        filter_map_among (λ (x : AssumeRule). cond (bytes_eq x.cell cell && is_for x.phase phase) (Some x.expression) None) rules.assumes h.1.0 r r.expression h.1.1
            (ap (λ (t : Bool). cond t (Some r.expression) None) asked.0),
        value_known (port_bit design a i) bit r.expression (λ name m. port_known name (named.assumes r h.1 ours name m)) ∙ ap Some asked.1,
      )

  broken_assume : BreaksAssume design rules phase a i → all_hold (assume_holds d handle cell phase) rules.assumes v ≡ false
  broken_assume h =
      let from = among_filter_map (λ (x : AssumeRule). cond (bytes_eq x.cell cell && is_for x.phase phase) (Some x.expression) None) rules.assumes h.0 h.1 in
      let r : AssumeRule = from.0 in
      let asked = cond_some (bytes_eq r.cell cell && is_for r.phase phase) r.expression h.0 from.2 in
      let ours = (and_parts (bytes_eq r.cell cell) (is_for r.phase phase) asked.0).0 in
      let value : value_by (port_bit design a i) r.expression ≡ Some false = ap (value_by (port_bit design a i)) asked.1 ∙ h.2 in
      let is = value_known (port_bit design a i) bit r.expression (λ name m. port_known name (named.assumes r from.1 ours name m)) in
      fails_all (λ (x : AssumeRule). assume_holds d handle cell phase x v) rules.assumes r from.1
      (cond_true (bytes_eq r.cell cell && is_for r.phase phase) (value_in d handle r.expression v) asked.0 (same_Some (value_in d handle r.expression v) false (sym is ∙ value)))

  -- ---- clocks

  abbrev clock_of : ClockRef → Bool
  clock_of clock = clock_bit (phase_at rules phase) clock

  abbrev is_rule : List ℕ → ClockportRule → Bool
  is_rule name r = bytes_eq r.cell cell && bytes_eq r.port name

  -- the line of a port is the only one
  rule_found : (r : ClockportRule) → Among rules.clockports r → bytes_eq r.cell cell ≡ true → clock_of_port rules cell r.port ≡ Some r.clock
  rule_found r m ours = by_found (find (is_rule r.port) rules.clockports) refl
    where
      itself : is_rule r.port r ≡ true
      itself = ap₂ (λ (x y : Bool). x && y) ours (names_same r.port r.port refl)

      by_found : (o : Option ClockportRule) → find (is_rule r.port) rules.clockports ≡ o → option_map (λ (x : ClockportRule). x.clock) o ≡ Some r.clock
      by_found None e = absurd (true≢false (sym itself ∙ find_none (is_rule r.port) rules.clockports r e m))
      by_found (Some q) e =
          let h = find_among (is_rule r.port) rules.clockports q e in
          let parts = and_parts (bytes_eq q.cell cell) (bytes_eq q.port r.port) h.1 in
          let cells : q.cell ≡ r.cell = same_names q.cell cell parts.0 ∙ sym (same_names r.cell cell ours) in
          let same : (bytes_eq q.cell r.cell && bytes_eq q.port r.port) ≡ true = ap₂ (λ (x y : Bool). x && y) (names_same q.cell r.cell cells) parts.1 in
          let place : h.0.0 ≡ m.0 = key h.0.0 m.0 q r h.0.1 m.1 same in
          let item : q ≡ r = same_Some q r (sym h.0.1 ∙ ap (slice_get rules.clockports) place ∙ m.1) in
          ap (λ (x : ClockportRule). Some x.clock) item

  clock_broken : all_hold (clock_holds d handle cell (phase_bits rules phase)) rules.clockports v ≡ false → BreaksClock design rules phase a i
  clock_broken e =
      let h = some_fails (λ (r : ClockportRule). clock_holds d handle cell (phase_bits rules phase) r v) rules.clockports e in
      let r : ClockportRule = h.0 in
      let ours = cond_false (bytes_eq r.cell cell) (not (differ (clock_of r.clock) (bit r.port))) h.2 in
      let other : bit r.port ≡ not (clock_of r.clock) = not_differ (clock_of r.clock) (bit r.port) ours.1 in
      let there = named.clocks r h.1 ours.0 in
      from_place r h.1 ours.0 other (place_of ports r.port) refl (port_known r.port there) (some_place ports r.port there)
    where
      from_net : (r : ClockportRule) → Among rules.clockports r → bytes_eq r.cell cell ≡ true → bit r.port ≡ not (clock_of r.clock) → (at : ℕ) → place_of ports r.port ≡ Some at
          → (o : Option Net) → slice_get i.ports at ≡ o → option_and_then (λ (net : Net). a net.0) o ≡ Some (bit r.port) → BreaksClock design rules phase a i
      from_net r m ours other at e None there is = absurd (none-some (bit r.port) is)
      from_net r m ours other at e (Some net) there is =
          let here : a net.0 ≡ Some (bit r.port) = is in (at, r.port, net, r.clock, (at_place ports r.port at e).1, there, rule_found r m ours, here ∙ ap Some other)

      from_place : (r : ClockportRule) → Among rules.clockports r → bytes_eq r.cell cell ≡ true → bit r.port ≡ not (clock_of r.clock) → (o : Option ℕ) → place_of ports r.port ≡ o
          → option_and_then (λ (net : Net). a net.0) (option_and_then (λ (at : ℕ). slice_get i.ports at) (place_of ports r.port)) ≡ Some (bit r.port)
          → (place_of ports r.port ≡ None → ⊥) → BreaksClock design rules phase a i
      from_place r m ours other None e is some = absurd (some e)
      from_place r m ours other (Some at) e is some =
          from_net r m ours other at e (slice_get i.ports at) refl
          (ap (λ (o : Option ℕ). option_and_then (λ (net : Net). a net.0) (option_and_then (λ (k : ℕ). slice_get i.ports k) o)) (sym e) ∙ is)

  broken_clock : BreaksClock design rules phase a i → all_hold (clock_holds d handle cell (phase_bits rules phase)) rules.clockports v ≡ false
  broken_clock h = by_found (find (is_rule h.1) rules.clockports) refl h.6
    where
      by_found : (o : Option ClockportRule) → find (is_rule h.1) rules.clockports ≡ o → option_map (λ (x : ClockportRule). x.clock) o ≡ Some h.3
          → all_hold (clock_holds d handle cell (phase_bits rules phase)) rules.clockports v ≡ false
      by_found None e is = absurd (none-some h.3 is)
      by_found (Some r) e is =
          let found = find_among (is_rule h.1) rules.clockports r e in
          let parts = and_parts (bytes_eq r.cell cell) (bytes_eq r.port h.1) found.1 in
          let port : r.port ≡ h.1 = same_names r.port h.1 parts.1 in
          let clock : r.clock ≡ h.3 = same_Some r.clock h.3 is in
          let there : has_name ports h.1 ≡ true = subst (λ (n : List ℕ). has_name ports n ≡ true) port (named.clocks r found.0 parts.0) in
          let shown : Some (bit h.1) ≡ Some (not (clock_of h.3)) = sym (port_known h.1 there) ∙ by_port there ∙ h.7 in
          let other : bit r.port ≡ not (clock_of r.clock) = ap bit port ∙ same_Some (bit h.1) (not (clock_of h.3)) shown ∙ ap (λ (x : ClockRef). not (clock_of x)) (sym clock) in
          fails_all (λ (x : ClockportRule). clock_holds d handle cell (phase_bits rules phase) x v) rules.clockports r found.0
          (cond_true (bytes_eq r.cell cell) (not (differ (clock_of r.clock) (bit r.port))) parts.0 (differs_not (clock_of r.clock) (bit r.port) other))
        where
          -- the place of the port is the one that was given
          by_port : has_name ports h.1 ≡ true → port_bit design a i h.1 ≡ a h.2.0
          by_port there = from_place (place_of ports h.1) refl (some_place ports h.1 there)
            where
              from_place : (o : Option ℕ) → place_of ports h.1 ≡ o → (place_of ports h.1 ≡ None → ⊥) → option_and_then (λ (net : Net). a net.0) (option_and_then (λ (k : ℕ). slice_get i.ports k) o) ≡ a h.2.0
              from_place None e some = absurd (some e)
              from_place (Some at) e some =
                  let place : at ≡ h.0 = apart at h.0 h.1 h.1 (at_place ports h.1 at e).1 h.4 (names_same h.1 h.1 refl) in
                  ap (λ (k : ℕ). option_and_then (λ (net : Net). a net.0) (slice_get i.ports k)) place ∙ ap (λ (o : Option Net). option_and_then (λ (net : Net). a net.0) o) h.5

  -- the lines do not all hold exactly where a constraint is broken
  pub breaks : (obliged_at d design rules i phase values v ≡ false) ↔ BreaksConstraint design rules phase a i
  breaks = (
    λ e. elim (and_cases (all_hold (assume_holds d handle cell phase) rules.assumes v) (all_hold (clock_holds d handle cell (phase_bits rules phase)) rules.clockports v) e) [
      | inl one ↦ inl (assume_broken one)
      | inr two ↦ inr (clock_broken two)
    ],
    λ h. elim h [
      | inl one ↦ ap (λ (x : Bool). x && all_hold (clock_holds d handle cell (phase_bits rules phase)) rules.clockports v) (broken_assume one)
      | inr two ↦ last (all_hold (assume_holds d handle cell phase) rules.assumes v) (broken_clock two)
    ],
  )
    where
      last : (x : Bool) → all_hold (clock_holds d handle cell (phase_bits rules phase)) rules.clockports v ≡ false
          → (x && all_hold (clock_holds d handle cell (phase_bits rules phase)) rules.clockports v) ≡ false
      last true e = e
      last false e = refl
