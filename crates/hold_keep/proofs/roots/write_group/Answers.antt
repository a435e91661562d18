use Rattle.std.proofs.Common.{◌∙◌, sym}
use Rattle.hold_keep.proofs.RewriteLaws.{group_refused, group_written}
use Rattle.hold_keep.proofs.roots.write_group.Goals as goal

pub returns-in-Err : goal.returns-in-Err
returns-in-Err c =
    group_refused c.args.roots.circuit.now c.args.roots.words c.args.roots.phase c.args.roots.sources.now c.args.number c.args.group.now c.entered_bit-entered.result c.entered_bit-entered.ensures
    c.args.store.now c.group_bit.new.store (sym c.is_empty.ensures ∙ c.if-is_empty.false) c.sound.ensures.sound c.in-Err.spent c.in-Err.ensures.gives c.in-Err.ensures.counts

pub returns : goal.returns
returns c =
    group_written c.args.roots.circuit.now c.args.roots.words c.args.roots.phase c.args.roots.sources.now c.args.number c.args.group.now c.entered_bit-entered.result c.entered_bit-entered.ensures
    c.args.store.now c.group_bit.new.store (sym c.is_empty.ensures ∙ c.if-is_empty.false) c.sound.ensures.sound c.write_members.new.store c.in-Ok.bit c.as_slice-members.result.now
    c.write_members.result c.as_slice-members.ensures c.in-Ok.ensures.gives c.in-Ok.ensures.counts c.write_members.ensures
