use Rattle.std.proofs.Common.{◌-◌, Ok, Err, arith}
use Rattle.bdd_core.specs.Store.{function_of}
use Rattle.constraints.proofs.CareLaws.{groups_all, groups_next, groups_refused}
use Rattle.constraints.proofs.care_set.add_groups.Goals as goal

pub back-preserved : goal.back-preserved
back-preserved c =
    let e = c.args.entering in
    let test = c.back-test.true in
    let most = c.back.invariant.most in
    record {
      most = omega (arith, most);
      far = groups_next e.sources.now e.circuit.now e.phase c.args.groups.now c.back.at (c.back.at - 1) c.index-groups-at.result c.index-groups-at.result (function_of c.args.store.now c.args.start)
          c.args.store.now c.back.store c.add_members.new.store c.back.all (Ok c.in-Ok.all) (omega (arith, test)) (omega (arith, test, most)) c.index-groups-at.is c.back.invariant.far c.in-Ok.ensures;
    }

pub returns-in-Err : goal.returns-in-Err
returns-in-Err c =
    let e = c.args.entering in
    let test = c.back-test.true in
    let most = c.back.invariant.most in
    groups_refused e.sources.now e.circuit.now e.phase c.args.groups.now (c.back.at - 1) (function_of c.args.store.now c.args.start) c.args.store.now c.add_members.new.store c.in-Err.spent
    (groups_next e.sources.now e.circuit.now e.phase c.args.groups.now c.back.at (c.back.at - 1) c.index-groups-at.result c.index-groups-at.result (function_of c.args.store.now c.args.start)
    c.args.store.now c.back.store c.add_members.new.store c.back.all (Err c.in-Err.spent) (omega (arith, test)) (omega (arith, test, most)) c.index-groups-at.is c.back.invariant.far c.in-Err.ensures)

pub returns : goal.returns
returns c =
    let e = c.args.entering in
    groups_all e.sources.now e.circuit.now e.phase c.args.groups.now c.back.at (function_of c.args.store.now c.args.start) c.args.store.now c.back.store (Ok c.back.all)
    (let past = c.back-test.false in omega (arith, past)) c.back.invariant.far
