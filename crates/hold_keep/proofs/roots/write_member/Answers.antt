use Rattle.std.proofs.Common.{Err, arith, sym}
use Rattle.bdd_core.specs.Store.{function_of}
use Rattle.vrt_model.specs.Lists.{differ}
use Rattle.hold_keep.proofs.BitLaws.{wider}
use Rattle.hold_keep.proofs.RewriteLaws.{holds_given, member_frame, member_written, rewrites_refused}
use Rattle.hold_keep.specs.Rooted.{with_hold}
use Rattle.hold_keep.proofs.roots.write_member.Goals as goal

pub returns-in-Err-clause-held : goal.returns-in-Err-clause-held
returns-in-Err-clause-held c vars reads =
    let f = function_of c.args.store.now c.args.bit in
    rewrites_refused c.args.circuit.now c.args.words vars 1 1 (λ v. differ c.args.member.inverted (f v)) (with_hold c.args.member f) c.args.store.now c.held_bit.new.store c.in-Err.spent
    c.sound.ensures.sound c.in-Err.ensures.gives (λ u most. c.in-Err.ensures.counts u (wider f vars u most reads)) (omega arith)

pub returns-clause-held : goal.returns-clause-held
returns-clause-held c vars reads =
    let f = function_of c.args.store.now c.args.bit in
    member_written c.args.circuit.now c.args.words vars c.args.store.now c.held_bit.new.store c.write.new.self c.args.member c.in-Some.hold.now c.args.bit c.in-Ok.held tt (sym c.in-Some.ensures)
    c.requires.own c.requires.span c.sound.ensures.sound c.in-Ok.ensures.gives (λ u most. c.in-Ok.ensures.counts u (wider f vars u most reads)) c.write.ensures

pub returns-in-Err-clause-writes : goal.returns-in-Err-clause-writes
returns-in-Err-clause-writes c = holds_given c.args.circuit.now c.args.words c.args.store.now c.held_bit.new.store _ (Err c.in-Err.spent) c.sound.ensures.sound c.in-Err.ensures.gives

pub returns-clause-writes : goal.returns-clause-writes
returns-clause-writes c =
    member_frame c.args.circuit.now c.args.words c.args.store.now c.held_bit.new.store c.write.new.self c.args.member c.in-Some.hold.now c.in-Ok.held _ (sym c.in-Some.ensures) c.requires.own c.requires.span
    c.sound.ensures.sound c.in-Ok.ensures.gives c.write.ensures
