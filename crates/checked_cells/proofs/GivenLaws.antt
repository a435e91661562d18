-- What a checked circuit is made of.
use Rattle.std.proofs.Common.{◌≡◌, ℕ, ◌<◌, length, refl, ap, sym, subst, ◌∙◌}
use Rattle.checked_cells.proofs.PlacesAlone.{ties_same}
use Rattle.checked_cells.specs.Given.{CheckedCellsAreByFacts}
use Rattle.formed_cells.proofs.FormedLaws.{supported_cells_are_formed}
use Rattle.formed_cells.proofs.SupportedLaws.{supported_is_free}
use Rattle.formed_cells.specs.Formed.{AreRead}
use Rattle.replaced_instances.specs.Steps.{IsSoundNetlist}
use Rattle.vrt_model.specs.Checked.{top_of}
use Rattle.vrt_model.specs.Circuits.{IsCircuit}
use Rattle.vrt_model.specs.Comparison.{Comparison, phase_at}
use Rattle.vrt_model.specs.Facts.{IsTrueOf}
use Rattle.vrt_model.specs.FlatCircuit.{flat_circuit_of}
use Rattle.vrt_model.specs.Known.{HasArc}
use Rattle.vrt_model.specs.Lists.{At}
use Rattle.vrt_model.specs.Unrolled.{Top}
use Rattle.vrt_model.specs.Unsupported.{IsAcyclic, comparison_of, top_before}
use Rattle.vrt_model.specs.declared.whole.CellFacts.{CellFacts}

pub checked_cells_are_by_facts : CheckedCellsAreByFacts
checked_cells_are_by_facts design blif rules cell m facts cut c given supported facts_are top checked =
    let k : Comparison = comparison_of design blif rules cell m in
    let back : top_of k ≡ cut.top = sym top in
    let free = supported_is_free design blif rules cell m supported in
    let sound : IsSoundNetlist (top_of k) = record {
      design = given.netlist;
      ordered = given.ordered;
      there = given.there;
      ties = ties_same (top_before design rules cell) k.pairing.ports ∙ free.structured.ties;
    } in
    record {
      choice = record {
        netlist = subst IsSoundNetlist back sound;
        read = subst (λ (u : Top). AreRead blif u.rules) back given.read;
        told = subst (λ (u : Top). (n : ℕ) (f : CellFacts) → At facts n f → IsTrueOf u.design blif u.rules n f) back facts_are.told;
        tried = checked.chosen;
      };
      top = top;
      flat = ap flat_circuit_of back;
      groups = refl;
      formed = subst (λ (u : Top). IsCircuit (flat_circuit_of u)) back (supported_cells_are_formed design blif rules cell m given.read supported).circuit;
      acyclic =
          subst (λ (u : Top). (phase : ℕ) → phase < length u.rules.phases → IsAcyclic (HasArc (flat_circuit_of u) (phase_at u.rules phase))) back
          (λ phase lt. (supported.acyclic phase lt).0);
      circuit = checked.circuit;
    }
