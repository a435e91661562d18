use Rattle.std.proofs.Common.{◌≡◌, ap, arith, ◌∙◌}
use Rattle.vrt_model.specs.Levels.{level_counts}
use Rattle.whole_circuits.specs.Counts.{bears_below}
use Rattle.whole_circuits.proofs.counts.bears_all.Goals as goal

pub returns : goal.returns
returns c =
    let end : c.loop-level.level ≡ level_counts = omega (arith, c.loop-level-test.false, c.loop-level.auto.level-end) in
    c.loop-level.invariant ∙ ap (bears_below c.args.counts.now c.args.drive c.args.net) end
