use Rattle.std.proofs.Common.{ℕ, subst}
use Rattle.channel_parts.proofs.ListLaws.{sorted_nets}
use Rattle.channel_parts.specs.Listings.{ArePairs}
use Rattle.channel_parts.proofs.listing.in_order.Goals as goal

pub returns-in-Ok : goal.returns-in-Ok
returns-in-Ok c =
    let circuit = c.args.circuit.now in
    let ranks = c.args.ranks.now in
    let least = c.args.least.now in
    sorted_nets circuit ranks least c.in_ok-pairs.pairs.items c.sort.new.self.items
    (subst (λ (bound : ℕ). ArePairs circuit ranks least bound c.in_ok-pairs.pairs.items) c.requires.least c.in_ok-pairs.ensures)
    c.sort.ensures.permutation c.in-Ok.ensures.sorted
