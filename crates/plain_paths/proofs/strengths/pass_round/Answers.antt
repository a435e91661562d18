use Rattle.std.proofs.Common.{ℕ, arith, get_or, subst, ◌∙◌, below_more}
use Rattle.std.proofs.lemmas.Bool.{or_parts}
use Rattle.std.proofs.lemmas.Option.{get_or_from_slice_get, slice_get-get_or, slice_get_within}
use Rattle.plain_paths.specs.Tables.{HasPassed}
use Rattle.plain_paths.specs.declared.channels.Channel.{Channel}
use Rattle.vrt_model.specs.Lists.{At}
use Rattle.plain_paths.proofs.strengths.pass_round.Goals as goal

pub loop-channel-preserved : goal.loop-channel-preserved
loop-channel-preserved c =
    let channels = c.args.channels.now in
    let at = c.loop-channel.channel-index in
    let u = c.pass_both-grew.new.table in
    let blank : Channel = record { left = 0; right = 0; level = 0 } in
    let P : ℕ → Type 0 = λ k. (ch : Channel) → At channels k ch → HasPassed ch c.args.table.now u in
    let here : HasPassed (get_or channels at blank) c.args.table.now u =
    λ m n j. omega (arith, c.loop-channel.invariant.grown m, c.pass_both-grew.ensures.passed m n j) in
    record {
      grown = λ n. omega (arith, c.loop-channel.invariant.grown n, c.pass_both-grew.ensures.grown n);
      passed = below_more P at
          (λ k lt ch e m n j. omega (arith, c.loop-channel.invariant.passed k lt ch e m n j, c.pass_both-grew.ensures.grown n))
          (λ ch e. subst (λ (x : Channel). HasPassed x c.args.table.now u) (get_or_from_slice_get channels at ch blank e) here);
      attained = λ w has a. (let d = has.each (get_or channels at blank) (at, slice_get-get_or channels at blank c.loop-channel-test.true) in
          c.pass_both-grew.ensures.attained w d.0 d.1 d.2 (c.loop-channel.invariant.attained w has a));
      same = λ e. let h = or_parts _ _ e in c.pass_both-grew.ensures.same h.1 ∙ c.loop-channel.invariant.same h.0;
    }

pub returns-clause-passed : goal.returns-clause-passed
returns-clause-passed c ch m =
    let inside = slice_get_within c.args.channels.now m.0 ch m.1 in
    c.loop-channel.invariant.passed m.0 (omega (arith, inside)) ch m.1
