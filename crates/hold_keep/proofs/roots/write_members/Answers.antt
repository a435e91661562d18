use Rattle.std.proofs.Common.{◌-◌, Ok, Err, false, drop, get_or, length, arith, refl}
use Rattle.bdd_core.specs.Store.{function_of}
use Rattle.vrt_model.specs.declared.groups.Member.{Member}
use Rattle.hold_keep.proofs.RewriteLaws.{holds_then, members_all, members_next, reads_after, rewrites_err}
use Rattle.hold_keep.specs.Rooted.{with_holds}
use Rattle.hold_keep.proofs.roots.write_members.Goals as goal

pub back-preserved : goal.back-preserved
back-preserved c =
    let circuit = c.args.circuit.now in
    let words = c.args.words in
    let members = c.args.members.now in
    let test = c.back-test.true in
    let most = c.back.invariant.most in
    let none : Member = record { hold = 0; inverted = false } in
    record {
      most = omega (arith, most);
      writes = holds_then circuit words c.args.store.now c.back.store c.write_member.new.store c.back.invariant.writes c.in-Ok.ensures.writes;
      far = λ vars reads.
          members_next circuit words vars members c.back.at (c.back.at - 1) (get_or members (c.back.at - 1) none) none c.args.store.now c.back.store c.write_member.new.store c.args.bit tt
          (omega (arith, test)) (omega (arith, test, most)) refl c.requires.bit (c.back.invariant.far vars reads) (Ok tt)
          (c.in-Ok.ensures.held vars (reads_after circuit words c.args.store.now c.back.store c.args.bit vars c.back.invariant.writes c.requires.bit reads));
    }

pub returns-in-Err : goal.returns-in-Err
returns-in-Err c vars reads =
    let circuit = c.args.circuit.now in
    let words = c.args.words in
    let members = c.args.members.now in
    let test = c.back-test.true in
    let most = c.back.invariant.most in
    let none : Member = record { hold = 0; inverted = false } in
    let f = function_of c.args.store.now c.args.bit in
    rewrites_err circuit words vars (length members - (c.back.at - 1)) (length members) (with_holds (drop (c.back.at - 1) members) f) (with_holds members f) c.args.store.now c.write_member.new.store c.in-Err.spent
    (members_next circuit words vars members c.back.at (c.back.at - 1) (get_or members (c.back.at - 1) none) none c.args.store.now c.back.store c.write_member.new.store c.args.bit tt (omega (arith, test))
    (omega (arith, test, most)) refl c.requires.bit (c.back.invariant.far vars reads) (Err c.in-Err.spent)
    (c.in-Err.ensures.held vars (reads_after circuit words c.args.store.now c.back.store c.args.bit vars c.back.invariant.writes c.requires.bit reads)))
    (omega arith)

pub returns : goal.returns
returns c vars reads =
    members_all c.args.circuit.now c.args.words vars c.args.members.now c.back.at (function_of c.args.store.now c.args.bit) c.args.store.now c.back.store (Ok tt)
    (let past = c.back-test.false in omega (arith, past)) (c.back.invariant.far vars reads)
