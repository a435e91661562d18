use Rattle.std.proofs.Common.{Some, ap, sym, ◌∙◌}
use Rattle.std.specs.Prelude.{option_map}
use Rattle.vrt_model.proofs.Members.{all_among}
use Rattle.vrt_model.specs.Circuits.{IsHold}
use Rattle.vrt_model.specs.Comparison.{net_name}
use Rattle.vrt_model.specs.declared.circuit.Hold.{Hold}
use Rattle.cell_writer.proofs.causes.held_net.Goals as goal

pub name_of-requires : goal.name_of-requires
name_of-requires c = (all_among (IsHold c.args.circuit.now) c.args.circuit.now.holds c.in-Some.hold.now c.requires.holds (0, sym c.in-Some.ensures)).net

pub returns-in-Some : goal.returns-in-Some
returns-in-Some c = ap Some c.name_of.ensures ∙ ap (option_map (λ (h : Hold). net_name c.args.circuit.now h.net.0)) c.in-Some.ensures
