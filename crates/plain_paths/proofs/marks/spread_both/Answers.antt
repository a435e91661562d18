use Rattle.std.proofs.Common.{ap, inl, inr}
use Rattle.std.proofs.lemmas.Bool.{eqb-true}
use Rattle.plain_paths.proofs.Spreads.{spread_marked}
use Rattle.plain_paths.specs.declared.channels.Channel.{Channel}
use Rattle.plain_paths.proofs.marks.spread_both.Goals as goal

pub returns-clause-marked : goal.returns-clause-marked
returns-clause-marked c w v d on same m =
    let ch = c.args.channel.now in
    let s = c.args.strengths.now in
    let left = ap (λ (x : Channel). x.left) same in
    let right = ap (λ (x : Channel). x.right) same in
    let level = ap (λ (x : Channel). x.level) same in
    spread_marked w s v d ch.right ch.left ch.level c.spread-forth.new.marks c.spread-back.new.marks on (inr (left, right)) level _
    (λ e. let h = eqb-true _ _ e in cc (c.min-2.ensures, h)) c.spread-back.ensures.only
    (spread_marked w s v d ch.left ch.right ch.level c.args.marks.now c.spread-forth.new.marks on (inl (left, right)) level _
    (λ e. let h = eqb-true _ _ e in cc (c.min.ensures, h)) c.spread-forth.ensures.only m)
