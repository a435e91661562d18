use Rattle.std.proofs.Common.{ℕ, subst}
use Rattle.known_nets.proofs.PlaceLaws.{placed_adds}
use Rattle.known_nets.specs.Placed.{Adds, IsArc}
use Rattle.known_nets.proofs.placing.lead.Goals as goal

pub returns : goal.returns
returns c =
    subst (λ (n : ℕ). Adds (IsArc n c.args.to) c.args.graph.now.items c.place.new.groups.items) c.in_ok-number.ensures
    (placed_adds c.in_ok-number.number c.args.to c.args.graph.now.items c.place.new.groups.items c.in_ok-place.ensures)
