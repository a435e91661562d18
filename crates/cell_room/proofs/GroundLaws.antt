-- In what is flattened of a cell instances may be tried, once nothing stands in the way of its phases.
use Rattle.std.proofs.Common.{ℕ, [], List, length, Option, ap, subst, ◌∙◌}
use Rattle.std.specs.Prelude.{unwrap_or}
use Rattle.std.proofs.lemmas.Option.{slice_get_within}
use Rattle.cell_room.specs.Compared.{AreInputs, IsFlattened, comparison}
use Rattle.cell_room.specs.Works.{IsPlanned}
use Rattle.cell_room.specs.Flat.{Flattened}
use Rattle.checked_cells.proofs.PlacesAlone.{ties_same}
use Rattle.checked_cells.specs.Given.{AreTrueFacts}
use Rattle.vrt_model.specs.Checked.{top_of}
use Rattle.vrt_model.specs.Comparison.{Comparison}
use Rattle.vrt_model.specs.Known.{HasArc}
use Rattle.vrt_model.specs.Lists.{At}
use Rattle.vrt_model.specs.Unsupported.{AcyclicBefore, IsAcyclic, top_before}
use Rattle.vrt_model.specs.declared.blif.Blif.{Blif}
use Rattle.vrt_model.specs.declared.design.Design.{Design}
use Rattle.vrt_model.specs.declared.rules.Phase.{Phase}
use Rattle.vrt_model.specs.declared.rules.Rules.{Rules}
use Rattle.vrt_model.specs.declared.whole.CellFacts.{CellFacts}
use Rattle.substitute.specs.Candidates.{IsGround}

-- the arcs of the circuit have no cycle in any phase
in_phase : (k : Comparison) → AcyclicBefore k (length k.rules.phases) → (i : ℕ) (phase : Phase) → At k.rules.phases i phase → IsAcyclic (HasArc k.circuit phase)
in_phase k free i phase at =
    subst (λ (x : Phase). IsAcyclic (HasArc k.circuit x)) (ap (λ (o : Option Phase). unwrap_or o (record { line = 0; name = []; bits = [] })) at)
    (free i (slice_get_within k.rules.phases i phase at)).0

-- the ground on which instances of the cell are tried, by true facts
pub ground_of : (design : Design) (blif : Blif) (rules : Rules) (cell m : ℕ) (f : Flattened) → AreInputs design blif rules cell → IsFlattened design blif rules cell m f
    → (facts : List CellFacts) → AreTrueFacts design blif rules facts → IsPlanned (comparison design rules cell f) → IsGround (top_of (comparison design rules cell f)) blif facts f.circuit
ground_of design blif rules cell m f inputs is facts true_facts planned = record {
  netlist = record {
    design = inputs.netlist;
    ordered = inputs.ordered;
    there = inputs.there;
    ties = ties_same (top_before design rules cell) f.pairing.ports ∙ is.structured.ties;
  };
  read = record { names = inputs.names; models = inputs.models; valid = inputs.valid };
  told = true_facts.told;
  formed = is.circuit;
  acyclic = in_phase (comparison design rules cell f) planned.acyclic;
}
