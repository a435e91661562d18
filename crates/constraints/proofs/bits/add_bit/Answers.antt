use Rattle.constraints.proofs.BitLaws.{one_counts, one_gives, zero_counts, zero_gives}
use Rattle.constraints.proofs.bits.add_bit.Goals as goal

pub returns-then-wanted-clause-gives : goal.returns-then-wanted-clause-gives
returns-then-wanted-clause-gives c = one_gives c.args.store.now c.ite.new.self c.args.bit c.args.all c.args.wanted c.ite.result c.if-wanted.true c.ite.ensures.makes

pub returns-then-wanted-clause-counts : goal.returns-then-wanted-clause-counts
returns-then-wanted-clause-counts c u bit all = one_counts c.args.store.now c.ite.new.self c.args.bit c.args.all c.args.wanted c.ite.result u c.sound.ensures.sound.ends bit all c.ite.ensures.makes

pub returns-else-wanted-clause-gives : goal.returns-else-wanted-clause-gives
returns-else-wanted-clause-gives c =
    zero_gives c.args.store.now c.ite-else-wanted.new.self c.args.bit c.args.all c.args.wanted c.ite-else-wanted.result c.if-wanted.false c.ite-else-wanted.ensures.makes

pub returns-else-wanted-clause-counts : goal.returns-else-wanted-clause-counts
returns-else-wanted-clause-counts c u bit all =
    zero_counts c.args.store.now c.ite-else-wanted.new.self c.args.bit c.args.all c.args.wanted c.ite-else-wanted.result u c.sound.ensures.sound.ends bit all c.ite-else-wanted.ensures.makes
