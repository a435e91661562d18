-- Where nothing is in the way, the pairing is free, and each port and each input is paired.
use Rattle.std.proofs.Common.{ℕ, refl}
use Rattle.paired_ports.proofs.CarriedClocks.{input_given}
use Rattle.paired_ports.proofs.FreePorts.{AreFree, are_free, one_port}
use Rattle.paired_ports.proofs.RoleLaws.{free_pairing, has_roles}
use Rattle.paired_ports.specs.Pairable.{ArePairable, InputsAreGiven, PortsHaveRoles, PortsPairApart}
use Rattle.vrt_model.specs.Comparison.{cell_at}
use Rattle.vrt_model.specs.PairedPorts.{pairing_of}
use Rattle.vrt_model.specs.declared.design.Design.{Design}
use Rattle.vrt_model.specs.declared.flat_model.FlatModel.{FlatModel}
use Rattle.vrt_model.specs.declared.rules.Rules.{Rules}

free : (design : Design) (cell : ℕ) (flat : FlatModel) (rules : Rules) → ArePairable design cell flat rules → AreFree flat rules (cell_at design cell)
free design cell flat rules is = are_free design cell flat rules is.ports is.outputs

pub ports_pair_apart : PortsPairApart
ports_pair_apart design cell flat rules i j p q s is a b e g = one_port flat rules (cell_at design cell) (free design cell flat rules is) i j p q s a b e g

pub inputs_are_given : InputsAreGiven
inputs_are_given design cell flat rules s is a = input_given flat rules (cell_at design cell) (free design cell flat rules is) s a

pub ports_have_roles : PortsHaveRoles
ports_have_roles design cell m flat rules valid is =
    has_roles flat rules (cell_at design cell) (pairing_of design cell m flat rules) (free_pairing design cell m flat rules (pairing_of design cell m flat rules) is refl) valid
