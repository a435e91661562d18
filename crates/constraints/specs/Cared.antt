-- Which valuations meet the constraints of a phase, as a function of the variables.
use Rattle.std.specs.Prelude.{◌≡◌, ℕ, suc, ◌≤◌, Bool, true, ◌&&◌, List, [], ◌∷◌, length, sum_by, Result}
use Rattle.std.specs.List.{list_all}
use Rattle.node_pool.specs.declared.region.Span.{Span}
use Rattle.bdd_core.specs.Diagram.{Function, IsWithin, Valuation}
use Rattle.bdd_core.specs.Store.{Diagrams, Gives}
use Rattle.bdd_core.specs.Words.{shows}
use Rattle.bdd_core.specs.declared.handle.H.{H}
use Rattle.bdd_core.specs.declared.handle.Spent.{Spent}
use Rattle.bdd_ops.specs.Counting.{Counts}
use Rattle.hold_keep.specs.Rooted.{bits_at}
use Rattle.vrt_model.specs.CellRules.{assumed}
use Rattle.vrt_model.specs.Constraints.{is_entered, meets_assumes, meets_enters}
use Rattle.vrt_model.specs.Held.{bit_of, group_bit, held_bit, is_input_of}
use Rattle.vrt_model.specs.Lists.{At, differ}
use Rattle.vrt_model.specs.Variables.{enter_of}
use Rattle.vrt_model.specs.declared.circuit.Circuit.{Circuit}
use Rattle.vrt_model.specs.declared.circuit.FlatNet.{FlatNet}
use Rattle.vrt_model.specs.declared.circuit.NetKind.TheVariants.{Input}
use Rattle.vrt_model.specs.declared.design.Design.{Design}
use Rattle.vrt_model.specs.declared.groups.Group.{Group as HoldGroup}
use Rattle.vrt_model.specs.declared.groups.Member.{Member}
use Rattle.vrt_model.specs.declared.groups.Source.{Source}
use Rattle.vrt_model.specs.declared.rules.Rules.{Rules}
use Rattle.constraints.specs.Evaluated.{expression_size}

-- ---- what meets

-- the bits of the variables meet the constraints of a phase: what is assumed of the inputs, and the values with which holds enter
abbrev pub meets_by : Design → Rules → ℕ → Circuit → List HoldGroup → List Source → ℕ → List Bool → Bool
meets_by design rules cell c groups sources phase bits =
    meets_assumes design rules cell c phase (λ n. bit_of (is_input_of n) sources bits) && meets_enters c phase (λ hold. held_bit c groups phase sources bits hold)

-- the word of each input has the handle of its variable
abbrev pub HasInputs : Circuit → List Source → Diagrams → Span → Type 0
HasInputs c sources d roots =
    (n : ℕ) (net : FlatNet) → At c.nets n net → net.kind ≡ Input → (v : Valuation) → shows d roots n v ≡ bit_of (is_input_of n) sources (bits_at sources v)

-- the operators and names of what a cell assumes in a phase
abbrev pub assumed_size : Rules → List ℕ → ℕ → ℕ
assumed_size rules cell phase = sum_by expression_size (assumed rules cell phase)

-- ---- holds by their groups

-- a member has the value with which it enters
abbrev pub member_meets : Circuit → ℕ → List Source → List Bool → ℕ → HoldGroup → Member → Bool
member_meets c phase sources bits number group m = is_entered (enter_of c phase m.hold) (differ m.inverted (group_bit c phase sources bits number group))

abbrev pub members_meet : Circuit → ℕ → List Source → List Bool → ℕ → HoldGroup → List Member → Bool
members_meet c phase sources bits number group members = list_all (λ (m : Member). member_meets c phase sources bits number group m) members

abbrev pub groups_meet : Circuit → ℕ → List Source → List Bool → ℕ → List HoldGroup → Bool
groups_meet c phase sources bits number [] = true
groups_meet c phase sources bits number (group ∷ groups) =
    members_meet c phase sources bits number group group.members && groups_meet c phase sources bits (suc number) groups

-- ---- steps

-- a function, where besides a test of the variables' bits holds
pub record AddsHeld (sources : List Source) (operations : ℕ) (start : Function) (test : List Bool → Bool) (old new : Diagrams) (result : Result H Spent) : Type 0 where
  pub gives : Gives old new (λ v. start v && test (bits_at sources v)) result
  pub counts : (u : ℕ) → length sources ≤ u → IsWithin u start → Counts u operations old new result
