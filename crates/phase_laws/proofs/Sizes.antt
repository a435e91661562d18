-- How many holds, elements, and operations on instances there are at most.
use Rattle.std.proofs.Common.{◌≡◌, ℕ, ◌+◌, ◌*◌, ◌<◌, ◌≤◌, ◌&&◌, ◌||◌, Bool, true, false, cond, List, [], ◌∷◌, Option, Some, None, length, arith, ap, refl, sym, subst, ◌∙◌, inl, inr}
use Rattle.std.specs.Prelude.{bytes_eq, filter, filter_map, option_map, slice_get, sum_by, unwrap_or}
use Rattle.std.specs.List.{list_any}
use Rattle.std.proofs.lemmas.Bool.{cases_Bool, or_cases}
use Rattle.std.proofs.lemmas.List.{length-append}
use Rattle.std.proofs.lemmas.List.Sums.{sum_by-cons, sum_by-take-le}
use Rattle.std.proofs.lemmas.Option.{slice_get_within}
use Rattle.bdd_core.proofs.Pigeon.{pigeon}
use Rattle.circuit_faults.proofs.CountLaws.{sum_next}
use Rattle.circuit_faults.specs.Operations.{constraint_operations}
use Rattle.circuit_faults.specs.Steps.{InPhase}
use Rattle.constraints.specs.Cared.{assumed_size}
use Rattle.constraints.specs.Evaluated.{expression_size}
use Rattle.constraints.specs.Obliged.{has_lines, is_asked, size_of}
use Rattle.vrt_model.proofs.Filtered.{among_kept}
use Rattle.vrt_model.proofs.Lists.{at_there, filter_map_among}
use Rattle.vrt_model.proofs.Members.{all_among, any_among}
use Rattle.vrt_model.specs.Budget.{assume_size, clockport_count}
use Rattle.vrt_model.specs.CellRules.{assumed, is_for}
use Rattle.vrt_model.specs.Circuits.{IsCircuit, IsHold}
use Rattle.vrt_model.specs.Comparison.{cell_at}
use Rattle.vrt_model.specs.Expressions.{names_in, operators_in}
use Rattle.vrt_model.specs.Lists.{At, Among}
use Rattle.vrt_model.specs.declared.circuit.Circuit.{Circuit}
use Rattle.vrt_model.specs.declared.circuit.FlatInstance.{FlatInstance}
use Rattle.vrt_model.specs.declared.circuit.Hold.{Hold}
use Rattle.vrt_model.specs.declared.ids.Net.{Net}
use Rattle.vrt_model.specs.declared.rules.AssumeRule.{AssumeRule}
use Rattle.vrt_model.specs.declared.rules.ClockportRule.{ClockportRule}
use Rattle.vrt_model.specs.declared.rules.Expr.{Expr}
use Rattle.vrt_model.specs.declared.rules.Expr.TheVariants.{Port, Not', And', Xor', Or'}
use Rattle.vrt_model.specs.declared.rules.Rules.{Rules}

-- ---- holds

module _ (c : Circuit) (is : IsCircuit c) where
  -- the net of the hold at a place
  abbrev net_at : ℕ → ℕ
  net_at i = unwrap_or (option_map (λ (h : Hold). h.net.0) (slice_get c.holds i)) 0

  net_is : (i : ℕ) (h : Hold) → At c.holds i h → net_at i ≡ h.net.0
  net_is i h e = ap (λ (o : Option Hold). unwrap_or (option_map (λ (x : Hold). x.net.0) o) 0) e

  -- no net has two holds
  pub holds_few : length c.holds ≤ length c.nets
  holds_few =
      pigeon (length c.nets) (length c.holds) net_at
      (λ i lt.
      let h = at_there c.holds i lt in
      let net = (all_among (IsHold c) c.holds h.0 is.holds (i, h.1)).net in
      subst (λ (n : ℕ). n < length c.nets) (sym (net_is i h.0 h.1)) net)
      (λ i j lti ltj same.
      let g = at_there c.holds i lti in
      let h = at_there c.holds j ltj in
      is.one_hold i j g.0 h.0 g.1 h.1
      (ap (λ (n : ℕ). let net : Net = record { 0 = n } in net) (sym (net_is i g.0 g.1) ∙ same ∙ net_is j h.0 h.1)))

-- ---- the lines of a cell

some_name : (e : Expr) → 1 ≤ length (names_in e)
some_name (Port name) = omega arith
some_name (Not' p e) = some_name e
some_name (And' p e q f) = let left = some_name e in let both = length-append (names_in e) (names_in f) in omega (arith, left, both)
some_name (Xor' p e q f) = let left = some_name e in let both = length-append (names_in e) (names_in f) in omega (arith, left, both)
some_name (Or' p e q f) = let left = some_name e in let both = length-append (names_in e) (names_in f) in omega (arith, left, both)

some_size : (e : Expr) → 1 ≤ expression_size e
some_size e = let some = some_name e in omega (arith, some)

-- an item is within the sum
item_within : {X : Type 0} (f : X → ℕ) (xs : List X) (x : X) → Among xs x → f x ≤ sum_by f xs
item_within f xs x m =
    let next = sum_next f xs m.0 x m.1 in
    let whole = sum_by-take-le f xs (m.0 + 1) in
    omega (arith, next, whole)

module _ (cell : List ℕ) (phase : ℕ) where
  pick : AssumeRule → Option Expr
  pick r = cond (bytes_eq r.cell cell && is_for r.phase phase) (Some r.expression) None

  abbrev rule_size : AssumeRule → ℕ
  rule_size r = operators_in r.expression + length (names_in r.expression)

  abbrev is_of_cell : AssumeRule → Bool
  is_of_cell r = bytes_eq r.cell cell

  abbrev asked : List AssumeRule → ℕ
  asked rules = sum_by expression_size (filter_map pick rules)

  abbrev sized : List AssumeRule → ℕ
  sized rules = sum_by rule_size (filter is_of_cell rules)

  -- what is assumed in a phase is among what is assumed in any
  asked_few : (rules : List AssumeRule) → asked rules ≤ sized rules
  unfolding pick
  asked_few [] = omega arith
  asked_few (rule ∷ rules) = by_test (asked_few rules) (is_of_cell rule) (is_for rule.phase phase) refl refl
    where
      by_test : asked rules ≤ sized rules → (a b : Bool) → is_of_cell rule ≡ a → is_for rule.phase phase ≡ b → asked (rule ∷ rules) ≤ sized (rule ∷ rules)
      by_test rest false b e f =
          let head : filter_map pick (rule ∷ rules) ≡ filter_map pick rules = rw e refl in
          let kept : filter is_of_cell (rule ∷ rules) ≡ filter is_of_cell rules = rw e refl in
          let left = ap (sum_by expression_size) head in
          let right = ap (sum_by rule_size) kept in
          omega (arith, left, right, rest)
      by_test rest true false e f =
          let head : filter_map pick (rule ∷ rules) ≡ filter_map pick rules = rw (e, f) refl in
          let kept : filter is_of_cell (rule ∷ rules) ≡ rule ∷ filter is_of_cell rules = rw e refl in
          let left = ap (sum_by expression_size) head in
          let right = ap (sum_by rule_size) kept ∙ sum_by-cons rule_size rule (filter is_of_cell rules) in
          omega (arith, left, right, rest)
      by_test rest true true e f =
          let head : filter_map pick (rule ∷ rules) ≡ rule.expression ∷ filter_map pick rules = rw (e, f) refl in
          let kept : filter is_of_cell (rule ∷ rules) ≡ rule ∷ filter is_of_cell rules = rw e refl in
          let left = ap (sum_by expression_size) head ∙ sum_by-cons expression_size rule.expression (filter_map pick rules) in
          let right = ap (sum_by rule_size) kept ∙ sum_by-cons rule_size rule (filter is_of_cell rules) in
          omega (arith, left, right, rest)

pub assumed_few : (rules : Rules) (cell : List ℕ) (phase : ℕ) → assumed_size rules cell phase ≤ assume_size rules cell
unfolding pick
assumed_few rules cell phase = asked_few cell phase rules.assumes

-- where a cell has a line for the phase, its size is not 0
module _ (rules : Rules) (cell : List ℕ) (phase : ℕ) where
  by_assume : list_any (is_asked cell phase) rules.assumes ≡ true → 1 ≤ size_of rules cell phase
  by_assume e =
      let r = any_among (is_asked cell phase) rules.assumes e in
      let m : Among (assumed rules cell phase) r.0.expression =
      filter_map_among (λ (x : AssumeRule). cond (bytes_eq x.cell cell && is_for x.phase phase) (Some x.expression) None) rules.assumes r.1.0 r.0 r.0.expression r.1.1
      (ap {B = Option Expr} (λ (b : Bool). cond b (Some r.0.expression) None) r.2) in
      let within = item_within expression_size (assumed rules cell phase) r.0.expression m in
      let some = some_size r.0.expression in
      omega (arith, within, some)

  by_clock : list_any (λ (r : ClockportRule). bytes_eq r.cell cell) rules.clockports ≡ true → 1 ≤ size_of rules cell phase
  by_clock e =
      let r = any_among (λ (x : ClockportRule). bytes_eq x.cell cell) rules.clockports e in
      let m = among_kept (λ (x : ClockportRule). bytes_eq x.cell cell) rules.clockports r.0 r.1 r.2 in
      let within = slice_get_within (filter (λ (x : ClockportRule). bytes_eq x.cell cell) rules.clockports) m.0 r.0 m.1 in
      omega (arith, within)

  lines_size : (list_any (is_asked cell phase) rules.assumes || list_any (λ (r : ClockportRule). bytes_eq r.cell cell) rules.clockports) ≡ true → 1 ≤ size_of rules cell phase
  lines_size e =
      elim (or_cases (list_any (is_asked cell phase) rules.assumes) (list_any (λ (r : ClockportRule). bytes_eq r.cell cell) rules.clockports) e) [
        | inl a ↦ by_assume a
        | inr b ↦ by_clock b
      ]

-- ---- instances

module _ (w : InPhase) where
  -- the size of the lines of an instance's cell
  abbrev pub lines_of : FlatInstance → ℕ
  lines_of i = let name = (cell_at w.design i.cell).name in assume_size w.rules name + clockport_count w.rules name

  instance_few : (i : FlatInstance) → constraint_operations w i ≤ 22 * lines_of i
  instance_few i =
      let name = (cell_at w.design i.cell).name in
      let few = assumed_few w.rules name w.phase in
      elim (cases_Bool (has_lines w.design w.rules w.phase i)) [
        | inl e ↦
            let cost : constraint_operations w i ≡ 20 * size_of w.rules name w.phase + 2 = ap (λ (b : Bool). cond b (20 * size_of w.rules name w.phase + 2) 0) e in
            let some = lines_size w.rules name w.phase e in
            omega (arith, cost, some, few)
        | inr e ↦ (let cost : constraint_operations w i ≡ 0 = ap (λ (b : Bool). cond b (20 * size_of w.rules name w.phase + 2) 0) e in omega (arith, cost))
      ]

  pub instances_few : (xs : List FlatInstance) → sum_by (constraint_operations w) xs ≤ 22 * sum_by lines_of xs
  instances_few [] = omega arith
  instances_few (i ∷ xs) =
      let rest = instances_few xs in
      let own = instance_few i in
      let left = sum_by-cons (constraint_operations w) i xs in
      let right = sum_by-cons lines_of i xs in
      omega (arith, rest, own, left, right)
