-- The comparison of a supported cell is well formed.
use Rattle.std.proofs.Common.{ℕ, ◌<◌, refl, subst, sym, ◌∙◌}
use Rattle.std.specs.Prelude.{length}
use Rattle.blif_flat.proofs.NetworkLaws.{flat_good}
use Rattle.flatten.proofs.CircuitLaws.{made}
use Rattle.formed_cells.proofs.SupportedLaws.{IsFree, supported_is_free}
use Rattle.formed_cells.specs.Formed.{AreRead, HasPairedSignals, IsFormed, IsModelInput, SupportedCellsAreFormed}
use Rattle.paired_ports.proofs.PortSignals.{clocked_apart, clocked_there, input_paired, one_clock, one_net, output_apart, output_there, outputs_apart, port_of, tied_back}
use Rattle.paired_ports.proofs.RoleLaws.{IsFreePairing, free_pairing, has_roles}
use Rattle.vrt_model.proofs.Members.{all_among}
use Rattle.vrt_model.specs.Comparison.{Comparison, cell_at}
use Rattle.vrt_model.specs.FlatModels.{IsFlatModel}
use Rattle.vrt_model.specs.Unsupported.{comparison_of}
use Rattle.vrt_model.specs.declared.blif.Blif.{Blif}
use Rattle.vrt_model.specs.declared.design.Design.{Design}
use Rattle.vrt_model.specs.declared.rules.Rules.{Rules}

-- the ports of a comparison with a free pairing pair with the signals of a well-formed model
pub paired_signals : (k : Comparison) → IsFreePairing k.model k.rules (cell_at k.design k.cell) k.pairing → IsFlatModel k.model → HasPairedSignals k
paired_signals k paired model = record {
  all = input_paired k paired;
  clocked = λ s c. subst (IsModelInput k) c.2 (clocked_there k paired c.0 c.1);
  tied = λ s t. subst (IsModelInput k) t.2 (tied_back k paired t.0 t.1).input.there;
  apart = λ s c t. clocked_apart k paired c.0 t.0 c.1 t.1 (c.2 ∙ sym t.2);
  one_clock = one_clock k paired;
  one_net = one_net k paired;
  one_port = outputs_apart k paired;
  outputs = λ place port s is.
      (let there = (output_there k paired place port s (port_of k paired place port is.0) is.1).there in
      (all_among (λ (n : ℕ). n < length k.model.signals) k.model.outputs s model.outputs there, output_apart k paired s there));
}

-- so is a comparison in the way of which nothing stands
pub free_is_formed : (design : Design) (blif : Blif) (rules : Rules) (cell m : ℕ) → AreRead blif rules → IsFree design blif rules cell m
    → IsFormed (comparison_of design blif rules cell m)
free_is_formed design blif rules cell m read free =
    let k : Comparison = comparison_of design blif rules cell m in
    let paired : IsFreePairing k.model rules (cell_at design cell) k.pairing = free_pairing design cell m k.model rules k.pairing free.pairable refl in
    let model : IsFlatModel k.model = flat_good blif m read.names read.models free.small in
    record {
      circuit = (made design rules cell k.pairing k.circuit read.valid free.structured refl).formed;
      model = model;
      roles = has_roles k.model rules (cell_at design cell) k.pairing paired read.valid;
      signals = paired_signals k paired model;
    }

pub supported_cells_are_formed : SupportedCellsAreFormed
supported_cells_are_formed design blif rules cell m read supported =
    free_is_formed design blif rules cell m read (supported_is_free design blif rules cell m supported)
