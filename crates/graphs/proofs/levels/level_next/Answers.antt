use Rattle.std.proofs.Common.{◌≡◌, length, arith, ap, ◌∙◌}
use Rattle.graphs.specs.Levels.{without_level}
use Rattle.graphs.proofs.levels.level_next.Goals as goal

pub on-smaller : goal.on-smaller
on-smaller c =
    let same : length c.level_waiter.new.queue ≡ length c.on.queue = ap length (c.in_ok-settled.ensures.same c.if-settled.false) in
    omega (arith, same, c.on-test.true)

pub on-preserved : goal.on-preserved
on-preserved c = record {
  so_far = c.in_ok-settled.ensures.so_far;
  placing = c.in_ok-settled.ensures.placing;
  same = c.in_ok-settled.ensures.no_more c.if-settled.false ∙ c.on.invariant.same;
}

pub returns-then-settled-clause-fewer : goal.returns-then-settled-clause-fewer
returns-then-settled-clause-fewer c t =
    let less = c.in_ok-settled.ensures.fewer c.if-settled.true in
    let same : without_level c.on.levels.items ≡ without_level c.args.levels.now.items = ap without_level c.on.invariant.same in
    omega (arith, less, same)
