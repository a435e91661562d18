use Rattle.std.proofs.Common.{◌<◌, List, length, subst, sym}
use Rattle.std.specs.Prelude.{All}
use Rattle.phase_ports.proofs.WishLaws.{wishes_within}
use Rattle.phase_wishes.specs.declared.wishes.Wish.{Wish}
use Rattle.vrt_model.specs.Comparison.{cell_at}
use Rattle.phase_ports.proofs.observed.observed_nets.Goals as goal

pub marked_nets-requires-clause-outputs : goal.marked_nets-requires-clause-outputs
marked_nets-requires-clause-outputs c =
    subst (λ (ws : List Wish). All (λ (w : Wish). w.net.0 < length c.args.circuit.now.nets) ws) (sym c.as_slice.ensures)
    (wishes_within c.args.rules.now (cell_at c.args.design.now c.args.cell) c.args.circuit.now c.in_ok-outputs.outputs c.in_ok-outputs.ensures.at_ports c.requires.ports)
