use Rattle.std.proofs.Common.{sym, ◌∙◌}
use Rattle.constraints.proofs.CareLaws.{bit_refused, held_refused_at, member_added, member_free}
use Rattle.constraints.proofs.care_set.add_entered.Goals as goal

pub returns-in_default : goal.returns-in_default
returns-in_default c =
    let e = c.args.entering in
    member_free e.sources.now e.circuit.now e.phase c.args.number c.args.group.now c.args.member c.args.store.now c.args.all (sym c.enter_of.ensures ∙ c.in_default.is) c.sound.ensures.sound
    c.sound.ensures.within c.requires.all

pub returns-in-Err : goal.returns-in-Err
returns-in-Err c =
    let e = c.args.entering in
    bit_refused e.sources.now e.circuit.now e.phase c.args.number c.args.group.now c.args.member c.entered_bit-entered.result c.entered_bit-entered.ensures c.args.store.now c.group_bit.new.store c.args.all
    c.requires.all c.in-Err.spent c.in-Err.ensures.gives c.in-Err.ensures.counts

pub returns-in-Err-held_bit : goal.returns-in-Err-held_bit
returns-in-Err-held_bit c =
    let e = c.args.entering in
    held_refused_at e.sources.now e.circuit.now e.phase c.args.number c.args.group.now c.args.member c.entered_bit-entered.result c.entered_bit-entered.ensures c.args.store.now c.group_bit.new.store c.args.all
    c.requires.all c.in-Ok.bit c.in-Ok.ensures.gives c.in-Ok.ensures.counts c.held_bit.new.store c.in-Err-held_bit.spent c.in-Err-held_bit.ensures.gives c.in-Err-held_bit.ensures.counts

pub returns : goal.returns
returns c =
    let e = c.args.entering in
    member_added e.sources.now e.circuit.now e.phase c.args.number c.args.group.now c.args.member c.entered_bit-entered.result c.entered_bit-entered.ensures c.args.store.now c.group_bit.new.store c.args.all
    c.requires.all c.in-Ok.bit c.in-Ok.ensures.gives c.in-Ok.ensures.counts c.held_bit.new.store c.add_bit.new.store c.in-Ok-held_bit.held c.in-Some.value c.add_bit.result
    (sym c.in-Some.is ∙ c.enter_of.ensures) c.in-Ok-held_bit.ensures.gives c.in-Ok-held_bit.ensures.counts c.add_bit.ensures.gives c.add_bit.ensures.counts
