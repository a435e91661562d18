use Rattle.std.proofs.Common.{subst}
use Rattle.domino_order.proofs.SearchLaws.{net_gives, rank_falls}
use Rattle.domino_order.specs.Runs.{RunGives, of_asked}
use Rattle.domino_order.specs.declared.found.NetFound.{NetFound}
use Rattle.domino_order.proofs.search.search_net.Goals as goal

pub returns-in-Holds-clause-gives : goal.returns-in-Holds-clause-gives
returns-in-Holds-clause-gives c =
    let s = c.args.asked in
    let budget = c.leave_all.new.store.budget in
    net_gives s c.args.net c.args.store.now.budget c.runs.last c.found_of.result c.found_of.ensures c.runs.invariant.bound
    (subst (λ (f : NetFound). RunGives s c.args.net c.runs.last budget f) c.in-Holds.is c.in_ok-run.ensures.gives)

pub runs-smaller : goal.runs-smaller
runs-smaller c =
    let s = c.args.asked in
    let budget = c.leave_all.new.store.budget in
    let found = subst (λ (f : NetFound). RunGives s c.args.net c.runs.last budget f) c.in-Fails.is c.in_ok-run.ensures.gives in
    rank_falls (of_asked s) s.rising.phase s.rising.nets.now c.args.net c.runs.last c.in-Fails.bits.bits c.runs.invariant.bound found.0 found.1
