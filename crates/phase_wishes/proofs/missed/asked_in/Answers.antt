use Rattle.phase_wishes.proofs.MissedLaws.{asked_counts, asked_means}
use Rattle.phase_wishes.proofs.missed.asked_in.Goals as goal

pub returns-in-Some-clause-means : goal.returns-in-Some-clause-means
returns-in-Some-clause-means c =
    asked_means c.args.store.now c.ite.new.self c.args.care c.args.bits c.args.free c.in-Some.bit c.read.result c.ite.result c.in-Some.is c.read.ensures c.ite.ensures.makes

pub returns-in-Some-clause-counts : goal.returns-in-Some-clause-counts
returns-in-Some-clause-counts c u care bits =
    asked_counts c.args.store.now c.ite.new.self c.args.care c.args.bits c.args.free c.in-Some.bit c.read.result c.ite.result c.in-Some.is c.read.ensures c.ite.ensures.makes
    u c.sound.ensures.sound.ends c.requires.inside care bits
