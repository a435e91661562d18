use Rattle.std.proofs.Common.{ap, inl, inr}
use Rattle.plain_paths.proofs.Rounds.{pass_attained}
use Rattle.plain_paths.specs.declared.channels.Channel.{Channel}
use Rattle.plain_paths.proofs.strengths.pass_both.Goals as goal

pub returns-clause-attained : goal.returns-clause-attained
returns-clause-attained c w d on same a =
    let ch = c.args.channel.now in
    let left = ap (λ (x : Channel). x.left) same in
    let right = ap (λ (x : Channel). x.right) same in
    let level = ap (λ (x : Channel). x.level) same in
    pass_attained w d ch.right ch.left ch.level c.pass_level-forth.new.table c.pass_level-back.new.table on (inr (left, right)) level c.pass_level-back.ensures.attained
    (pass_attained w d ch.left ch.right ch.level c.args.table.now c.pass_level-forth.new.table on (inl (left, right)) level c.pass_level-forth.ensures.attained a)
