-- A verdict of the checked circuit of a cell is one of the cell.
use Rattle.std.specs.Prelude.{ℕ, ◌+◌, ◌≤◌, List, length, sum_by}
use Rattle.checked_chain.specs.Holds.{IsOfChain}
use Rattle.substitution_laws.specs.Agreement.{IsCheckedByFacts}
use Rattle.vrt_model.specs.Budget.{constraints_size, enough_nodes, model_size, work, work_of}
use Rattle.vrt_model.specs.Checked.{with_circuit}
use Rattle.vrt_model.specs.CheckedVerdicts.{HasCheckedVerdict}
use Rattle.vrt_model.specs.Comparison.{Comparison}
use Rattle.vrt_model.specs.Cut.{Cut}
use Rattle.vrt_model.specs.Verdicts.{HasVerdict}
use Rattle.vrt_model.specs.declared.blif.Blif.{Blif}
use Rattle.vrt_model.specs.declared.circuit.Circuit.{Circuit}
use Rattle.vrt_model.specs.declared.verdict.Verdict.{Verdict}
use Rattle.vrt_model.specs.declared.whole.CellFacts.{CellFacts}
use Rattle.vrt_model.specs.declared.whole.Whole.{Whole}

-- The law: a budget that is always enough for the flat circuit is enough for each circuit of its chain.
abbrev pub ChainNeedsNoMore : Type 0
ChainNeedsNoMore =
    (k : Comparison) (blif : Blif) (facts : List CellFacts) (cut : Cut) (c : Circuit) (phase : ℕ)
    → IsOfChain k blif facts cut c → enough_nodes (with_circuit k c) blif phase ≤ enough_nodes k blif phase

-- The law: a phase of such a circuit has no more work than one of the flat circuit, by the devices of the flat circuit and the models of its
-- whole instances.
abbrev pub ChainHasNoMoreWork : Type 0
ChainHasNoMoreWork =
    (k : Comparison) (blif : Blif) (facts : List CellFacts) (cut : Cut) (c : Circuit)
    → IsOfChain k blif facts cut c
    → work (length c.nets) (length k.circuit.devices) (model_size k.model + sum_by (λ (w : Whole). model_size w.model) c.wholes) (constraints_size (with_circuit k c)) ≤ work_of k blif

-- The law: what the checked circuit is found to be, the cell is: equal, vacuous in a phase, or too large for the budget, with each phase
-- before it equal; and its first fault is the cell's, at the same place and with the same words.
abbrev pub CheckedVerdictsHold : Type 0
CheckedVerdictsHold =
    (k : Comparison) (cut : Cut) (blif : Blif) (facts : List CellFacts) (c : Circuit) (budget : ℕ) (verdict : Verdict)
    → IsCheckedByFacts k cut blif facts c
    → HasVerdict (with_circuit k c) blif budget verdict → HasCheckedVerdict k blif facts budget verdict
