use Rattle.std.proofs.Common.{ℕ, arith, get_or, subst, ◌∙◌, below_more}
use Rattle.std.proofs.lemmas.Bool.{or_parts}
use Rattle.std.proofs.lemmas.Option.{get_or_from_slice_get, slice_get-get_or, slice_get_within}
use Rattle.plain_paths.specs.Marks.{MarksPass}
use Rattle.plain_paths.specs.declared.channels.Channel.{Channel}
use Rattle.vrt_model.specs.Lists.{At}
use Rattle.plain_paths.proofs.marks.spread_round.Goals as goal

pub loop-channel-preserved : goal.loop-channel-preserved
loop-channel-preserved c =
    let channels = c.args.channels.now in
    let s = c.args.strengths.now in
    let at = c.loop-channel.channel-index in
    let u = c.spread_both-grew.new.marks in
    let blank : Channel = record { left = 0; right = 0; level = 0 } in
    let P : ℕ → Type 0 = λ k. (ch : Channel) → At channels k ch → MarksPass s ch c.args.marks.now u in
    let here : MarksPass s (get_or channels at blank) c.args.marks.now u =
    λ m n j f t. c.spread_both-grew.ensures.spread m n j f (c.loop-channel.invariant.grown m t) in
    record {
      grown = λ n e. c.spread_both-grew.ensures.grown n (c.loop-channel.invariant.grown n e);
      spread = below_more P at
          (λ k lt ch e m n j f t. c.spread_both-grew.ensures.grown n (c.loop-channel.invariant.spread k lt ch e m n j f t))
          (λ ch e. subst (λ (x : Channel). MarksPass s x c.args.marks.now u) (get_or_from_slice_get channels at ch blank e) here);
      marked = λ w v has a. (let d = has.each (get_or channels at blank) (at, slice_get-get_or channels at blank c.loop-channel-test.true) in
          c.spread_both-grew.ensures.marked w v d.0 d.1 d.2 (c.loop-channel.invariant.marked w v has a));
      same = λ e. let h = or_parts _ _ e in c.spread_both-grew.ensures.same h.1 ∙ c.loop-channel.invariant.same h.0;
    }

pub returns-clause-spread : goal.returns-clause-spread
returns-clause-spread c ch m =
    let inside = slice_get_within c.args.channels.now m.0 ch m.1 in
    c.loop-channel.invariant.spread m.0 (omega (arith, inside)) ch m.1
