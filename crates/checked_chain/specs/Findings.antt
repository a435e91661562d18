-- What is said of a fault in a circuit of a chain, and of the same place in the flat circuit.
use Rattle.std.specs.Prelude.{◌≡◌, List}
use Rattle.checked_chain.specs.Holds.{IsOfChain}
use Rattle.vrt_model.specs.Assignment.{Assignment}
use Rattle.vrt_model.specs.Checked.{with_circuit}
use Rattle.vrt_model.specs.CheckedVerdicts.{IsSamePlace}
use Rattle.vrt_model.specs.Comparison.{Comparison}
use Rattle.vrt_model.specs.Cut.{Cut}
use Rattle.vrt_model.specs.Faults.{Assigns, IsPrintedWith, Solves}
use Rattle.vrt_model.specs.Held.{setting_of}
use Rattle.vrt_model.specs.Places.{Finding}
use Rattle.vrt_model.specs.Reading.{Partial}
use Rattle.vrt_model.specs.Verdicts.{Describes}
use Rattle.vrt_model.specs.declared.blif.Blif.{Blif}
use Rattle.vrt_model.specs.declared.circuit.Circuit.{Circuit}
use Rattle.vrt_model.specs.declared.verdict.FaultAt.{FaultAt}
use Rattle.vrt_model.specs.declared.whole.CellFacts.{CellFacts}

-- two findings are of one kind, at one place and at one valuation
pub record IsSameFinding (cut : Cut) (flat f : Finding) : Type 0 where
  pub phase : flat.phase ≡ f.phase
  pub kind : flat.kind ≡ f.kind
  pub bits : flat.bits ≡ f.bits
  pub place : IsSamePlace cut f.kind flat.at f.at

-- the fault has the values with which the finding is printed
abbrev pub HasPrintedValues : Comparison → Finding → FaultAt → Type 0
HasPrintedValues k f fault =
    (a : Partial) (g : Assignment)
    → Solves k f.phase (setting_of k f.phase f.bits) a → Assigns k f.phase (setting_of k f.phase f.bits) g
    → IsPrintedWith k f.phase (setting_of k f.phase f.bits) a g f.kind f.at fault.circuit fault.wanted

-- The law: what describes a finding there describes the same finding of the flat circuit, where it has the values of that one.
abbrev pub DescriptionsMove : Type 0
DescriptionsMove =
    (k : Comparison) (blif : Blif) (facts : List CellFacts) (cut : Cut) (c : Circuit) → IsOfChain k blif facts cut c
    → (fault : FaultAt) (flat f : Finding) → IsSameFinding cut flat f → HasPrintedValues k flat fault
    → Describes (with_circuit k c) fault f → Describes k fault flat
