-- Models without latches, as those of cells that may be left whole have: each signal follows from the inputs from which covers lead to it.
use Rattle.std.specs.Prelude.{◌≡◌, ℕ, ◌<◌, ◌⊎◌, Bool, List, [], length}
use Rattle.vrt_model.specs.Assignment.{Assignment, IsAssignment, Surroundings, Tied}
use Rattle.vrt_model.specs.Lists.{Among}
use Rattle.vrt_model.specs.Unsupported.{IsAcyclic}
use Rattle.vrt_model.specs.WholeInstances.{CoverArc, IsChain}
use Rattle.vrt_model.specs.declared.flat_model.Cover.{Cover}
use Rattle.vrt_model.specs.declared.flat_model.FlatModel.{FlatModel}
use Rattle.vrt_model.specs.declared.pairing.ClockedSignal.{ClockedSignal}

-- the signal carries a clock, has the bit of a net, or is the output of a cover
abbrev pub IsClocked : List ClockedSignal → ℕ → Type 0
IsClocked clocked s = (c : ClockedSignal) × Among clocked c × (c.signal ≡ s)

abbrev pub IsTied : List Tied → ℕ → Type 0
IsTied tied s = (t : Tied) × Among tied t × (t.signal ≡ s)

abbrev pub IsCovered : FlatModel → ℕ → Type 0
IsCovered flat s = (cover : Cover) × Among flat.covers cover × (cover.output ≡ s)

-- a model without latches and cycles, each signal of which has one driver: a clock, a net, or a cover
pub record IsLogicModel (flat : FlatModel) (clocked : List ClockedSignal) (tied : List Tied) : Type 0 where
  pub latches : flat.latches ≡ []
  pub acyclic : IsAcyclic (CoverArc flat)
  pub outputs : (cover : Cover) → Among flat.covers cover → cover.output < length flat.signals
  pub inputs : (cover : Cover) (s : ℕ) → Among flat.covers cover → Among cover.inputs s → s < length flat.signals
  pub driven : (s : ℕ) → s < length flat.signals → IsClocked clocked s ⊎ (IsTied tied s ⊎ IsCovered flat s)
  pub one_cover : (a b : Cover) → Among flat.covers a → Among flat.covers b → a.output ≡ b.output → a ≡ b
  pub one_clock : (a b : ClockedSignal) → Among clocked a → Among clocked b → a.signal ≡ b.signal → a.clock ≡ b.clock
  pub one_tie : (a b : Tied) → Among tied a → Among tied b → a.signal ≡ b.signal → a.net ≡ b.net
  pub clocks_apart : (s : ℕ) → IsClocked clocked s → ¬ (IsTied tied s ⊎ IsCovered flat s)
  pub ties_apart : (s : ℕ) → IsTied tied s → ¬ IsCovered flat s

-- The law: such a model has an assignment in any surroundings.
abbrev pub LogicHasAssignments : Type 0
LogicHasAssignments =
    (flat : FlatModel) (around : Surroundings) → IsLogicModel flat around.clocked around.tied → (g : Assignment) × IsAssignment flat around g

-- a signal is another, or covers lead from it to that one
abbrev pub LeadsTo : FlatModel → ℕ → ℕ → Type 0
LeadsTo flat from to = (from ≡ to) ⊎ IsChain (CoverArc flat) from to

-- The law: a signal has the same bit in two assignments where the nets of the signals from which covers lead to it have the same bits.
abbrev pub SignalsFollowCovers : Type 0
SignalsFollowCovers =
    (flat : FlatModel) (around : Surroundings) (nets : ℕ → Bool) (g h : Assignment) (s : ℕ)
    → IsLogicModel flat around.clocked around.tied
    → IsAssignment flat around g → IsAssignment flat (record around { nets = nets }) h → s < length flat.signals
    → ((t : Tied) → Among around.tied t → LeadsTo flat t.signal s → around.nets t.net ≡ nets t.net)
    → g.signal s ≡ h.signal s
