use Rattle.std.proofs.Common.{◌≡◌, ℕ, length, arith, subst, sym}
use Rattle.channel_parts.proofs.ListLaws.{pairs_none}
use Rattle.channel_parts.specs.Listings.{ArePairs}
use Rattle.channel_parts.proofs.listing.plain_pairs.Goals as goal

pub loop-net-init : goal.loop-net-init
loop-net-init c =
    let circuit = c.args.circuit.now in
    let ranks = c.args.ranks.now in
    let least = c.args.least.now in
    subst (ArePairs circuit ranks least 0) (sym c.new-pairs.ensures.items) (pairs_none circuit ranks least)

pub loop-net-preserved : goal.loop-net-preserved
loop-net-preserved c = c.in_ok-add.ensures c.loop-net.invariant

pub returns : goal.returns
returns c =
    let all : c.loop-net.net ≡ length c.args.least.now = omega (arith, c.loop-net-test.false, c.loop-net.auto.net-end) in
    subst (λ (n : ℕ). ArePairs c.args.circuit.now c.args.ranks.now c.args.least.now n c.loop-net.pairs.items) all c.loop-net.invariant
