use Rattle.std.proofs.Common.{ℕ, List, arith, subst, ◌∙◌}
use Rattle.known_nets.proofs.SpreadLaws.{goes_end, goes_first, goes_on}
use Rattle.vrt_model.specs.Lists.{At}
use Rattle.known_nets.proofs.spread.spread_from.Goals as goal

pub on-init : goal.on-init
on-init c = goes_first c.args.over.spread c.args.over.circuit.now c.args.over.known.now c.args.over.levels.now c.args.amounts.now.table.items c.args.amounts.now.met.items c.requires.plain

pub pass_on-requires-clause-plain : goal.pass_on-requires-clause-plain
pass_on-requires-clause-plain c =
    c.on.invariant.plain c.net_at-net.result (c.on.at, subst (λ (l : List ℕ). At l c.on.at c.net_at-net.result) c.as_slice.ensures.value c.net_at-net.ensures)

pub pass_on-requires-clause-size : goal.pass_on-requires-clause-size
pass_on-requires-clause-size c = c.on.invariant.size ∙ c.requires.size

pub on-preserved : goal.on-preserved
on-preserved c =
    let net = c.net_at-net.result in
    let here : At c.on.amounts.met.items c.on.at net = subst (λ (l : List ℕ). At l c.on.at net) c.as_slice.ensures.value c.net_at-net.ensures in
    let first = c.args.amounts.now in
    let old = c.on.amounts in
    let new = c.pass_on.new.amounts in
    goes_on c.args.over.spread c.args.over.circuit.now c.args.over.known.now c.args.over.levels.now c.on.at net first.table.items old.table.items new.table.items
    first.met.items old.met.items new.met.items here c.on.invariant c.in_ok-pass_on.ensures.gone c.in_ok-pass_on.ensures.passed

pub on-smaller : goal.on-smaller
on-smaller c =
    let growth = c.in_ok-pass_on.ensures.gone.growth in
    omega (arith, growth.room, growth.longer, c.on-test.true, c.len.ensures)

pub returns : goal.returns
returns c =
    let first = c.args.amounts.now in
    let last = c.on.amounts in
    record {
      size = c.on.invariant.size;
      plain = c.on.invariant.plain;
      stays = c.on.invariant.stays;
      raised = c.on.invariant.raised;
      listed = c.on.invariant.some;
      grown = c.on.invariant.grown;
      arrived = c.on.invariant.arrived;
      closed = goes_end c.args.over.spread c.args.over.circuit.now c.args.over.known.now c.args.over.levels.now c.on.at first.table.items last.table.items first.met.items last.met.items c.on.invariant (omega (arith, c.on-test.false, c.len.ensures));
    }
