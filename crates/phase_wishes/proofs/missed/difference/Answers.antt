use Rattle.std.proofs.Common.{Err, arith}
use Rattle.bdd_ops.proofs.CountingLaws.{counts_made, counts_more}
use Rattle.bdd_core.specs.Diagram.{choice}
use Rattle.bdd_core.specs.Store.{function_of}
use Rattle.phase_wishes.proofs.MissedLaws.{apart_within, difference_counts}
use Rattle.phase_wishes.proofs.missed.difference.Goals as goal

pub returns-in-Err-clause-counts : goal.returns-in-Err-clause-counts
returns-in-Err-clause-counts c u care net wanted =
    let old = c.args.store.now in
    let new = c.ite.new.self in
    counts_more u 1 2 old new (Err c.in-Err.spent) (omega arith)
    (counts_made u old new c.sound.ensures.sound.ends (choice (function_of old c.args.net) (function_of old c.args.both.other) (function_of old c.args.both.wanted)) (Err c.in-Err.spent) c.in-Err.ensures.makes
    (apart_within u old new new c.args.care c.args.net c.args.both c.requires.other c.sound.ensures.sound.ends net wanted))

pub returns-clause-counts : goal.returns-clause-counts
returns-clause-counts c u care net wanted =
    difference_counts u c.args.store.now c.ite.new.self c.and.new.store c.args.care c.args.net c.args.both c.requires.other c.sound.ensures.sound.ends c.in-Ok.apart c.and.result
    c.requires.live.0 c.in-Ok.ensures.makes c.and.ensures.makes care net wanted
