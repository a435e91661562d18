use Rattle.std.proofs.Common.{◌-◌, Ok, Err, length, arith}
use Rattle.hold_keep.proofs.RewriteLaws.{groups_all, groups_next, groups_refused}
use Rattle.hold_keep.proofs.roots.write_groups.Goals as goal

pub back-preserved : goal.back-preserved
back-preserved c =
    let roots = c.args.roots in
    let test = c.back-test.true in
    let most = c.back.invariant.most in
    record {
      most = omega (arith, most);
      far = groups_next roots.circuit.now roots.words (length roots.sources.now) roots.phase roots.sources.now c.args.groups.now c.back.at (c.back.at - 1) c.index-groups-at.result c.index-groups-at.result
          c.args.store.now c.back.store c.write_group.new.store tt (Ok tt) (omega (arith, test)) (omega (arith, test, most)) c.index-groups-at.is c.back.invariant.far c.in-Ok.ensures;
    }

pub returns-in-Err : goal.returns-in-Err
returns-in-Err c =
    let roots = c.args.roots in
    let test = c.back-test.true in
    let most = c.back.invariant.most in
    groups_refused roots.circuit.now roots.words roots.phase roots.sources.now c.args.groups.now (c.back.at - 1) c.args.store.now c.write_group.new.store c.in-Err.spent
    (groups_next roots.circuit.now roots.words (length roots.sources.now) roots.phase roots.sources.now c.args.groups.now c.back.at (c.back.at - 1) c.index-groups-at.result c.index-groups-at.result
    c.args.store.now c.back.store c.write_group.new.store tt (Err c.in-Err.spent) (omega (arith, test)) (omega (arith, test, most)) c.index-groups-at.is c.back.invariant.far c.in-Err.ensures)

pub returns : goal.returns
returns c =
    groups_all c.args.roots.circuit.now c.args.roots.words c.args.roots.phase c.args.roots.sources.now c.args.groups.now c.back.at c.args.store.now c.back.store tt
    (let past = c.back-test.false in omega (arith, past)) c.back.invariant.far
