-- A model evaluated by diagrams: the bits of its one assignment, at every valuation of the variables.
use Rattle.std.specs.Prelude.{◌≡◌, ℕ, ◌+◌, ◌<◌, Bool, cond, List, length, Option, Some}
use Rattle.bdd_core.specs.Diagram.{Valuation}
use Rattle.bdd_core.specs.Store.{Diagrams, IsSpan}
use Rattle.bdd_core.specs.Words.{IsApart, IsFilled, shows, word_at}
use Rattle.blif_eval.specs.OneAssignment.{AreSame, IsAssigned}
use Rattle.blif_eval.specs.Drivers.{node_count}
use Rattle.blif_eval.specs.Plans.{IsPlan, entry_of}
use Rattle.blif_eval.specs.declared.driver_table.Driver.{Driver}
use Rattle.blif_eval.specs.declared.plan.ModelPlan.{ModelPlan}
use Rattle.node_pool.specs.declared.region.Span.{Span}
use Rattle.vrt_model.specs.Assignment.{Assignment}
use Rattle.vrt_model.specs.Elements.{element_names}
use Rattle.vrt_model.specs.declared.flat_model.FlatModel.{FlatModel}

-- live handles for the signals and one more for the default clock, and for the elements; and, apart from them, a word
-- for each signal and then for each element
pub record HasModelSpans (flat : FlatModel) (inputs held out : Span) (d : Diagrams) : Type 0 where
  pub inputs_span : IsSpan d inputs
  pub inputs_len : inputs.len ≡ length flat.signals + 1
  pub inputs_live : IsFilled d inputs
  pub held_span : IsSpan d held
  pub held_len : held.len ≡ length (element_names flat)
  pub held_live : IsFilled d held
  pub out_span : IsSpan d out
  pub out_len : out.len ≡ node_count flat
  pub inputs_apart : IsApart inputs out
  pub held_apart : IsApart held out

-- each known bit stands at its place as that constant: the places 0 and 1 are the two ends
abbrev pub AreConstants : List (Option Bool) → Span → Diagrams → Type 0
AreConstants known inputs d = (s : ℕ) (b : Bool) → entry_of known s ≡ Some b → word_at d inputs s ≡ cond b 1 0

-- a plan of the model for some known bits that stand in `inputs` as constants
abbrev pub IsPlannedFor : FlatModel → ModelPlan → Span → Diagrams → Type 0
IsPlannedFor flat plan inputs d = (known : List (Option Bool)) × IsPlan flat known plan × AreConstants known inputs d

-- these are the steps of such a plan, and what gives each number its bit; the known bits are asked of the handles in `inputs` alone
abbrev pub AreSteps : FlatModel → List Driver → List ℕ → Span → Diagrams → Type 0
AreSteps flat drivers steps inputs d =
    (known : List (Option Bool)) × IsPlan flat known (record { steps = steps; drivers = drivers })
    × ((s : ℕ) (b : Bool) → s < inputs.len → entry_of known s ≡ Some b → word_at d inputs s ≡ cond b 1 0)

-- at a valuation: the bits in `out`, the signals first and then the elements
abbrev pub assignment_at : Diagrams → FlatModel → Span → Valuation → Assignment
assignment_at d flat out v = record {
  signal = λ s. shows d out s v;
  next = λ e. shows d out (length flat.signals + e) v;
}

-- at a valuation: an assignment with the bits of `inputs` at the inputs and clocks, the bit behind them as that of the
-- default clock, and the bits of `held` at the elements
abbrev pub IsAssignedAt : Diagrams → FlatModel → Span → Span → Valuation → Assignment → Type 0
IsAssignedAt d flat inputs held v g = IsAssigned flat (shows d inputs (length flat.signals) v) (λ e. shows d held e v) (λ s. shows d inputs s v) g

-- at a valuation: the bits in `out` are an assignment for those that `inputs` and `held` had, and each other is the same
pub record IsEvaluated (flat : FlatModel) (inputs held out : Span) (old new : Diagrams) (v : Valuation) : Type 0 where
  pub assigned : IsAssignedAt old flat inputs held v (assignment_at new flat out v)
  pub only : (g : Assignment) → IsAssignedAt old flat inputs held v g → AreSame flat g (assignment_at new flat out v)
