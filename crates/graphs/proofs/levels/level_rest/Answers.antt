use Rattle.graphs.proofs.LevelLaws.{last_look}
use Rattle.graphs.proofs.levels.level_rest.Goals as goal

pub turns-smaller : goal.turns-smaller
turns-smaller c = c.in_ok-settled.ensures.fewer c.if-not-settled.false

pub returns-then-not-settled-clause-size : goal.returns-then-not-settled-clause-size
returns-then-not-settled-clause-size c = c.in_ok-settled.ensures.so_far.size

pub returns-then-not-settled-clause-levels : goal.returns-then-not-settled-clause-levels
returns-then-not-settled-clause-levels c = c.in_ok-settled.ensures.so_far.so_far

pub returns-then-not-settled-clause-stuck : goal.returns-then-not-settled-clause-stuck
returns-then-not-settled-clause-stuck c =
    last_look c.args.sources.now c.level_next.new.levels.items c.level_next.new.waiting.items c.level_next.new.queue c.level_next.new.at c.in_ok-settled.ensures.so_far (c.in_ok-settled.ensures.all c.if-not-settled.true)
