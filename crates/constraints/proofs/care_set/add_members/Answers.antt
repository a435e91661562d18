use Rattle.std.proofs.Common.{◌*◌, ◌-◌, List, Ok, Err, false, get_or, length, arith, refl, subst}
use Rattle.bdd_core.specs.Store.{function_of}
use Rattle.vrt_model.specs.declared.groups.Member.{Member}
use Rattle.constraints.proofs.CareLaws.{members_all, members_next, members_refused}
use Rattle.constraints.specs.Cared.{AddsHeld, members_meet}
use Rattle.constraints.proofs.care_set.add_members.Goals as goal

pub back-preserved : goal.back-preserved
back-preserved c =
    let e = c.args.entering in
    let test = c.back-test.true in
    let most = c.back.invariant.most in
    let none : Member = record { hold = 0; inverted = false } in
    record {
      most = omega (arith, most);
      far = members_next e.sources.now e.circuit.now e.phase c.args.number c.args.group.now c.as_slice-members.result.now c.back.at (c.back.at - 1) (get_or c.as_slice-members.result.now (c.back.at - 1) none) none
          (function_of c.args.store.now c.args.start) c.args.store.now c.back.store c.add_entered.new.store c.back.all (Ok c.in-Ok.all) (omega (arith, test)) (omega (arith, test, most)) refl
          c.back.invariant.far c.in-Ok.ensures;
    }

pub returns-in-Err : goal.returns-in-Err
returns-in-Err c =
    let e = c.args.entering in
    let test = c.back-test.true in
    let most = c.back.invariant.most in
    let none : Member = record { hold = 0; inverted = false } in
    subst
    (λ (ms : List Member). AddsHeld e.sources.now (3 * length ms) (function_of c.args.store.now c.args.start) (λ bits. members_meet e.circuit.now e.phase e.sources.now bits c.args.number c.args.group.now ms)
    c.args.store.now c.add_entered.new.store (Err c.in-Err.spent)) c.as_slice-members.ensures
    (members_refused e.sources.now e.circuit.now e.phase c.args.number c.args.group.now c.as_slice-members.result.now (c.back.at - 1) (function_of c.args.store.now c.args.start) c.args.store.now
    c.add_entered.new.store c.in-Err.spent
    (members_next e.sources.now e.circuit.now e.phase c.args.number c.args.group.now c.as_slice-members.result.now c.back.at (c.back.at - 1) (get_or c.as_slice-members.result.now (c.back.at - 1) none) none
    (function_of c.args.store.now c.args.start) c.args.store.now c.back.store c.add_entered.new.store c.back.all (Err c.in-Err.spent) (omega (arith, test)) (omega (arith, test, most)) refl
    c.back.invariant.far c.in-Err.ensures))

pub returns : goal.returns
returns c =
    let e = c.args.entering in
    subst
    (λ (ms : List Member). AddsHeld e.sources.now (3 * length ms) (function_of c.args.store.now c.args.start) (λ bits. members_meet e.circuit.now e.phase e.sources.now bits c.args.number c.args.group.now ms)
    c.args.store.now c.back.store (Ok c.back.all)) c.as_slice-members.ensures
    (members_all e.sources.now e.circuit.now e.phase c.args.number c.args.group.now c.as_slice-members.result.now c.back.at (function_of c.args.store.now c.args.start) c.args.store.now c.back.store (Ok c.back.all)
    (let past = c.back-test.false in omega (arith, past)) c.back.invariant.far)
