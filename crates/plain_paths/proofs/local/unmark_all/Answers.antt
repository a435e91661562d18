use Rattle.std.proofs.Common.{ℕ, arith, get_or, subst, below_more}
use Rattle.std.proofs.lemmas.Option.{get_or_from_slice_get, slice_get_within}
use Rattle.plain_paths.specs.Local.{IsFit}
use Rattle.plain_paths.specs.declared.channels.Channel.{Channel}
use Rattle.vrt_model.specs.Lists.{At}
use Rattle.plain_paths.proofs.local.unmark_all.Goals as goal

pub loop-channel-preserved : goal.loop-channel-preserved
loop-channel-preserved c =
    let channels = c.args.channels.now in
    let levels = c.args.levels.now in
    let s = c.args.strengths.now in
    let at = c.loop-channel.channel-index in
    let u = c.unmark_both.new.marks in
    let blank : Channel = record { left = 0; right = 0; level = 0 } in
    let Fit : Channel → Type 0 = λ ch. IsFit levels s u ch.left × IsFit levels s u ch.right in
    let P : ℕ → Type 0 = λ k. (ch : Channel) → At channels k ch → Fit ch in
    let here : Fit (get_or channels at blank) = (c.unmark_both.ensures.left, c.unmark_both.ensures.right) in
    record {
      only = λ n e. c.loop-channel.invariant.only n (c.unmark_both.ensures.only n e);
      kept = λ n e same. c.unmark_both.ensures.kept n (c.loop-channel.invariant.kept n e same) same;
      fits = below_more P at
          (λ k lt ch e. (let before = c.loop-channel.invariant.fits k lt ch e in (λ m. before.0 (c.unmark_both.ensures.only ch.left m), λ m. before.1 (c.unmark_both.ensures.only ch.right m))))
          (λ ch e. subst Fit (get_or_from_slice_get channels at ch blank e) here);
    }

pub returns-clause-fits : goal.returns-clause-fits
returns-clause-fits c ch m =
    let inside = slice_get_within c.args.channels.now m.0 ch m.1 in
    c.loop-channel.invariant.fits m.0 (omega (arith, inside)) ch m.1
