-- Where the constraints of an instance's cell hold.
use Rattle.std.specs.Prelude.{◌≡◌, ℕ, ◌+◌, ◌*◌, Bool, true, cond, not, ◌&&◌, ◌||◌, List, Option, Some, Result, Ok, bytes_eq, is_some, sum_by}
use Rattle.std.specs.List.{list_all, list_any}
use Rattle.node_pool.specs.declared.region.Span.{Span}
use Rattle.bdd_core.specs.Diagram.{Function, IsWithin, Valuation, meaning}
use Rattle.bdd_core.specs.Store.{Diagrams, Gives}
use Rattle.bdd_core.specs.Words.{shows}
use Rattle.bdd_core.specs.declared.handle.H.{H}
use Rattle.bdd_core.specs.declared.handle.Spent.{Spent}
use Rattle.bdd_ops.specs.Counting.{Counts, IsCounted}
use Rattle.vrt_model.specs.Budget.{clockport_count}
use Rattle.vrt_model.specs.CellRules.{assumed, clock_of_port, is_for}
use Rattle.vrt_model.specs.Comparison.{cell_at, phase_at}
use Rattle.vrt_model.specs.Expressions.{names_in, operators_in}
use Rattle.vrt_model.specs.Lists.{Among, differ, has_name}
use Rattle.vrt_model.specs.Places.{named_nets_from}
use Rattle.vrt_model.specs.declared.design.Cell.{Cell}
use Rattle.vrt_model.specs.declared.design.Design.{Design}
use Rattle.vrt_model.specs.declared.circuit.FlatInstance.{FlatInstance}
use Rattle.vrt_model.specs.declared.ids.Net.{Net}
use Rattle.vrt_model.specs.declared.rules.AssumeRule.{AssumeRule}
use Rattle.vrt_model.specs.declared.rules.ClockportRule.{ClockportRule}
use Rattle.vrt_model.specs.declared.rules.Expr.{Expr}
use Rattle.vrt_model.specs.declared.rules.Rules.{Rules}
use Rattle.constraints.specs.Evaluated.{AreWithin, expression_size, value_in}
use Rattle.constraints.specs.Handles.{clock_in, handle_tied}

-- ---- what holds

-- an `assume` line is for a cell in a phase
abbrev pub is_asked : List ℕ → ℕ → AssumeRule → Bool
is_asked cell phase r = bytes_eq r.cell cell && is_for r.phase phase

-- an `assume` line is true, if it is for the cell and the phase
abbrev pub assume_holds : Diagrams → (List ℕ → ℕ) → List ℕ → ℕ → AssumeRule → Function
assume_holds d handle cell phase r = λ v. cond (is_asked cell phase r) (value_in d handle r.expression v) true

-- the port of a `clockport` line has its clock's bit, if the line is for the cell
abbrev pub clock_holds : Diagrams → (List ℕ → ℕ) → List ℕ → List Bool → ClockportRule → Function
clock_holds d handle cell bits r = λ v. cond (bytes_eq r.cell cell) (not (differ (clock_in bits r.clock) (meaning d.nodes (handle r.port) v))) true

abbrev pub all_hold : {X : Type 0} → (X → Function) → List X → Function
all_hold test xs = λ v. list_all (λ x. test x v) xs

-- the bits of the clocks in a phase
abbrev pub phase_bits : Rules → ℕ → List Bool
phase_bits rules phase = (phase_at rules phase).bits

-- all lines of a cell hold, where each port has a handle
abbrev pub obliged : Diagrams → (List ℕ → ℕ) → Rules → List ℕ → ℕ → Function
obliged d handle rules cell phase =
    λ v. all_hold (assume_holds d handle cell phase) rules.assumes v && all_hold (clock_holds d handle cell (phase_bits rules phase)) rules.clockports v

-- all lines of the cell of an instance hold, where each net has a handle
abbrev pub obliged_at : Diagrams → Design → Rules → FlatInstance → ℕ → Span → Function
obliged_at d design rules i phase values =
    obliged d (handle_tied d.words (cell_at design i.cell).ports i.ports values) rules (cell_at design i.cell).name phase

-- the lines of a cell name ports of it
pub record AreNamed (rules : Rules) (cell : Cell) : Type 0 where
  pub assumes : (r : AssumeRule) → Among rules.assumes r → bytes_eq r.cell cell.name ≡ true → (name : List ℕ) → Among (names_in r.expression) name → has_name cell.ports name ≡ true
  pub clocks : (r : ClockportRule) → Among rules.clockports r → bytes_eq r.cell cell.name ≡ true → has_name cell.ports r.port ≡ true

-- the nets of the ports have the bits of their handles at a valuation
abbrev pub HasPortBits : Diagrams → Span → List Net → Valuation → (ℕ → Option Bool) → Type 0
HasPortBits d values ports v a = (net : Net) → Among ports net → a net.0 ≡ Some (shows d values net.0 v)

-- ---- named ports

-- an `assume` line is for a cell in a phase and names a port
abbrev pub is_named_by : List ℕ → ℕ → List ℕ → AssumeRule → Bool
is_named_by cell phase name r = is_asked cell phase r && has_name (names_in r.expression) name

-- an `assume` line of a cell for the phase names the port, or a `clockport` line
abbrev pub is_named_in : Rules → List ℕ → ℕ → List ℕ → Bool
is_named_in rules cell phase name =
    list_any (λ (e : Expr). has_name (names_in e) name) (assumed rules cell phase) || is_some (clock_of_port rules cell name)

-- so of the cell of an instance
abbrev pub is_named_port : Design → Rules → ℕ → FlatInstance → List ℕ → Bool
is_named_port design rules phase i name = is_named_in rules (cell_at design i.cell).name phase name

-- the cell of an instance has an `assume` line for the phase or a `clockport` line
abbrev pub has_lines : Design → Rules → ℕ → FlatInstance → Bool
has_lines design rules phase i =
    list_any (is_asked (cell_at design i.cell).name phase) rules.assumes || list_any (λ (r : ClockportRule). bytes_eq r.cell (cell_at design i.cell).name) rules.clockports

-- the nets of the named ports of an instance
abbrev pub nets_named : Design → Rules → ℕ → FlatInstance → List ℕ
nets_named design rules phase i = named_nets_from (is_named_port design rules phase i) (cell_at design i.cell).ports i.ports

-- ---- operations

abbrev pub assume_operations : List ℕ → ℕ → AssumeRule → ℕ
assume_operations cell phase r = cond (is_asked cell phase r) (2 * operators_in r.expression + 1) 0

abbrev pub clock_operations : List ℕ → ClockportRule → ℕ
clock_operations cell r = cond (bytes_eq r.cell cell) 1 0

-- the operators and names of the lines for the cell and the phase, clock ports among them
abbrev pub size_of : Rules → List ℕ → ℕ → ℕ
size_of rules cell phase = sum_by expression_size (assumed rules cell phase) + clockport_count rules cell

abbrev pub obligation_size : Design → Rules → FlatInstance → ℕ → ℕ
obligation_size design rules i phase = size_of rules (cell_at design i.cell).name phase

-- ---- steps

-- a function, where besides a test holds
pub record AddsTest (handle : List ℕ → ℕ) (operations : ℕ) (start test : Function) (old new : Diagrams) (result : Result H Spent) : Type 0 where
  pub gives : Gives old new (λ v. start v && test v) result
  pub counts : (u : ℕ) → AreWithin u old handle → IsWithin u start → Counts u operations old new result

-- the tests of a list so far, and those that are left
pub record IsSoFar {X : Type 0} (test : X → Function) (operations : X → ℕ) (handle : List ℕ → ℕ) (start : Function) (xs rest : List X) (first now : Diagrams) (all : H) : Type 0 where
  pub so_far : Function
  pub gives : Gives first now so_far (Ok all)
  pub same : (v : Valuation) → (so_far v && all_hold test rest v) ≡ (start v && all_hold test xs v)
  pub done : ℕ
  pub sum : done + sum_by operations rest ≡ sum_by operations xs
  pub counted : (u : ℕ) → AreWithin u first handle → IsWithin u start → IsCounted u done first now
  pub within : (u : ℕ) → AreWithin u first handle → IsWithin u start → IsWithin u so_far
