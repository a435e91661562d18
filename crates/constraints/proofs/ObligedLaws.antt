-- The lines of a cell as tests: what they read, what stays, and how many operations they take.
use Rattle.std.proofs.Common.{◌≡◌, ℕ, ◌+◌, ◌*◌, ◌≤◌, ◌&&◌, Bool, true, false, cond, not, List, [], ◌∷◌, length, length-append, Result, Some, None, Option, arith, ap, refl, ◌∙◌}
use Rattle.std.specs.Prelude.{bytes_eq, filter, filter_map, sum_by}
use Rattle.std.specs.List.{list_all}
use Rattle.std.proofs.lemmas.List.Sums.{sum_by-cons}
use mathlib.Core.Path.{fun_ext}
use Rattle.bdd_core.specs.Diagram.{Function, IsSame, IsWithin}
use Rattle.bdd_core.specs.Store.{Diagrams, Gives}
use Rattle.bdd_core.specs.declared.handle.H.{H}
use Rattle.bdd_core.specs.declared.handle.Spent.{Spent}
use Rattle.vrt_model.specs.CellRules.{is_for}
use Rattle.vrt_model.specs.Expressions.{names_in, operators_in}
use Rattle.vrt_model.specs.Lists.{differ}
use Rattle.vrt_model.specs.declared.rules.AssumeRule.{AssumeRule}
use Rattle.vrt_model.specs.declared.rules.ClockportRule.{ClockportRule}
use Rattle.vrt_model.specs.declared.rules.Expr.{Expr}
use Rattle.vrt_model.specs.declared.rules.Expr.TheVariants.{Port, Not', And', Xor', Or'}
use Rattle.vrt_model.specs.declared.rules.Rules.{Rules}
use Rattle.constraints.proofs.EvaluateLaws.{value_after, value_within}
use Rattle.constraints.specs.Evaluated.{AreLive, AreWithin, expression_size}
use Rattle.constraints.specs.Handles.{clock_in}
use Rattle.constraints.specs.Obliged.{all_hold, assume_holds, assume_operations, clock_holds, clock_operations, is_asked, size_of}

-- ---- what stays

module _ (a b : Diagrams) (f : Function) (r : Result H Spent) (g : Gives a b f r) (handle : List ℕ → ℕ) (live : AreLive a handle) (cell : List ℕ) where
  pub assume_after : (phase : ℕ) (rule : AssumeRule) → IsSame (assume_holds b handle cell phase rule) (assume_holds a handle cell phase rule)
  assume_after phase rule v = ap (λ (x : Bool). cond (is_asked cell phase rule) x true) (value_after a b f r g handle live rule.expression v)

  pub clock_after : (bits : List Bool) (rule : ClockportRule) → IsSame (clock_holds b handle cell bits rule) (clock_holds a handle cell bits rule)
  clock_after bits rule v =
      ap (λ (x : Bool). cond (bytes_eq rule.cell cell) (not (differ (clock_in bits rule.clock) x)) true) (g.adds.kept (handle rule.port) (live rule.port) v)

  pub clocks_after : (bits : List Bool) (rules : List ClockportRule) → IsSame (all_hold (clock_holds b handle cell bits) rules) (all_hold (clock_holds a handle cell bits) rules)
  clocks_after bits rules v = ap (λ (test : ClockportRule → Bool). list_all test rules) (fun_ext (λ rule. clock_after bits rule v))

-- ---- what is read

module _ (u : ℕ) (d : Diagrams) (handle : List ℕ → ℕ) (reads : AreWithin u d handle) (cell : List ℕ) where
  pub assume_within : (phase : ℕ) (rule : AssumeRule) → IsWithin u (assume_holds d handle cell phase rule)
  assume_within phase rule v w same = ap (λ (x : Bool). cond (is_asked cell phase rule) x true) (value_within u d handle rule.expression reads v w same)

  pub assumes_within : (phase : ℕ) (rules : List AssumeRule) → IsWithin u (all_hold (assume_holds d handle cell phase) rules)
  assumes_within phase rules v w same = ap (λ (test : AssumeRule → Bool). list_all test rules) (fun_ext (λ rule. assume_within phase rule v w same))

  pub clock_within : (bits : List Bool) (rule : ClockportRule) → IsWithin u (clock_holds d handle cell bits rule)
  clock_within bits rule v w same = ap (λ (x : Bool). cond (bytes_eq rule.cell cell) (not (differ (clock_in bits rule.clock) x)) true) (reads rule.port v w same)

-- ---- how many operations

some_name : (e : Expr) → 1 ≤ length (names_in e)
some_name (Port name) = omega arith
some_name (Not' p e) = some_name e
some_name (And' p e q f) = let left = some_name e in let both = length-append (names_in e) (names_in f) in omega (arith, left, both)
some_name (Xor' p e q f) = let left = some_name e in let both = length-append (names_in e) (names_in f) in omega (arith, left, both)
some_name (Or' p e q f) = let left = some_name e in let both = length-append (names_in e) (names_in f) in omega (arith, left, both)

pub assumes_few : (cell : List ℕ) (phase : ℕ) (rules : List AssumeRule)
    → sum_by (assume_operations cell phase) rules ≤ 2 * sum_by expression_size (filter_map (λ (r : AssumeRule). cond (bytes_eq r.cell cell && is_for r.phase phase) (Some r.expression) None) rules)
assumes_few cell phase [] = omega arith
assumes_few cell phase (rule ∷ rules) = by_test (assumes_few cell phase rules) (is_asked cell phase rule) refl
  where
    pick : AssumeRule → Option Expr
    pick r = cond (bytes_eq r.cell cell && is_for r.phase phase) (Some r.expression) None

    by_test : sum_by (assume_operations cell phase) rules ≤ 2 * sum_by expression_size (filter_map pick rules) → (t : Bool) → is_asked cell phase rule ≡ t → sum_by (assume_operations cell phase) (rule ∷ rules) ≤ 2 * sum_by expression_size (filter_map pick (rule ∷ rules))
    by_test rest true e =
        let cost : assume_operations cell phase rule ≡ 2 * operators_in rule.expression + 1 = ap (λ (x : Bool). cond x (2 * operators_in rule.expression + 1) 0) e in
        let head : filter_map pick (rule ∷ rules) ≡ rule.expression ∷ filter_map pick rules = rw e refl in
        let left = sum_by-cons (assume_operations cell phase) rule rules in
        let right = ap (sum_by expression_size) head ∙ sum_by-cons expression_size rule.expression (filter_map pick rules) in
        let name = some_name rule.expression in
        omega (arith, cost, left, right, name, rest)
    by_test rest false e =
        let cost : assume_operations cell phase rule ≡ 0 = ap (λ (x : Bool). cond x (2 * operators_in rule.expression + 1) 0) e in
        let head : filter_map pick (rule ∷ rules) ≡ filter_map pick rules = rw e refl in
        let left = sum_by-cons (assume_operations cell phase) rule rules in
        let right = ap (sum_by expression_size) head in
        omega (arith, cost, left, right, rest)

clocks_few : (cell : List ℕ) (rules : List ClockportRule) → sum_by (clock_operations cell) rules ≤ length (filter (λ (r : ClockportRule). bytes_eq r.cell cell) rules)
clocks_few cell [] = omega arith
clocks_few cell (rule ∷ rules) = by_test (clocks_few cell rules) (bytes_eq rule.cell cell) refl
  where
    by_test : sum_by (clock_operations cell) rules ≤ length (filter (λ (r : ClockportRule). bytes_eq r.cell cell) rules) → (t : Bool) → bytes_eq rule.cell cell ≡ t → sum_by (clock_operations cell) (rule ∷ rules) ≤ length (filter (λ (r : ClockportRule). bytes_eq r.cell cell) (rule ∷ rules))
    by_test rest true e =
        let left = sum_by-cons (clock_operations cell) rule rules in
        let cost : clock_operations cell rule ≡ 1 = ap (λ (x : Bool). cond x 1 0) e in
        let head : filter (λ (r : ClockportRule). bytes_eq r.cell cell) (rule ∷ rules) ≡ rule ∷ filter (λ (r : ClockportRule). bytes_eq r.cell cell) rules = rw e refl in
        let right = ap (λ (rs : List ClockportRule). length rs) head in
        omega (arith, left, cost, right, rest)
    by_test rest false e =
        let left = sum_by-cons (clock_operations cell) rule rules in
        let cost : clock_operations cell rule ≡ 0 = ap (λ (x : Bool). cond x 1 0) e in
        let head : filter (λ (r : ClockportRule). bytes_eq r.cell cell) (rule ∷ rules) ≡ filter (λ (r : ClockportRule). bytes_eq r.cell cell) rules = rw e refl in
        let right = ap (λ (rs : List ClockportRule). length rs) head in
        omega (arith, left, cost, right, rest)

pub assumes_most : (rules : Rules) (cell : List ℕ) (phase : ℕ) → sum_by (assume_operations cell phase) rules.assumes ≤ 20 * size_of rules cell phase
assumes_most rules cell phase = let few = assumes_few cell phase rules.assumes in omega (arith, few)

pub tests_most : (rules : Rules) (cell : List ℕ) (phase : ℕ)
    → sum_by (assume_operations cell phase) rules.assumes + sum_by (clock_operations cell) rules.clockports ≤ 20 * size_of rules cell phase
tests_most rules cell phase =
    let few = assumes_few cell phase rules.assumes in
    let clocks = clocks_few cell rules.clockports in
    omega (arith, few, clocks)
