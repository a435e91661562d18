use Rattle.std.proofs.Common.{Err, Ok, arith, subst, sym}
use Rattle.std.proofs.lemmas.List.{get_or_read}
use Rattle.bdd_core.specs.Store.{IsLive, function_of}
use Rattle.bdd_core.specs.declared.handle.H.{H}
use Rattle.bdd_ops.proofs.CountingLaws.{counts_err, counts_made, counts_more, counts_value}
use Rattle.bdd_ops.specs.Ops.{and_of}
use Rattle.output_joins.proofs.JoinLaws.{both_within, two_counts}
use Rattle.output_joins.proofs.join.join_output.Goals as goal

pub returns-in-Err-clause-counts : goal.returns-in-Err-clause-counts
returns-in-Err-clause-counts c u made used =
    let old = c.args.store.now in
    let new = c.and.new.store in
    let sound = c.sound.ensures.sound in
    counts_err u 2 old new c.in-Err.spent
    (counts_more u 1 2 old new (Err c.in-Err.spent) (omega arith)
    (counts_made u old new sound.ends (and_of (function_of old c.args.care) (function_of old c.args.gate)) (Err c.in-Err.spent) c.in-Err.ensures.makes
    (both_within u made old c.args.care c.args.gate used sound c.requires.care c.requires.gate)))

pub returns-in-Ok-or-clause-counts : goal.returns-in-Ok-or-clause-counts
returns-in-Ok-or-clause-counts c u made used =
    let old = c.args.store.now in
    let before = get_or_read c.args.functions.now.items c.args.signal _ c.requires.within c.index-before.ensures (record { 0 = 0 }) in
    counts_value u 2 old c.or.new.store c.in-Ok-or.all _
    (two_counts u made old c.and.new.store c.or.new.store c.args.care c.args.gate c.in-Ok.here c.index-before.result.now (Ok c.in-Ok-or.all) used c.sound.ensures.sound
    c.requires.care c.requires.gate (subst (λ (h : H). IsLive old h) (sym before) (c.requires.functions c.args.signal c.requires.within)) c.in-Ok.ensures.makes c.in-Ok-or.ensures.makes)

pub returns-in-Err-or-clause-counts : goal.returns-in-Err-or-clause-counts
returns-in-Err-or-clause-counts c u made used =
    let old = c.args.store.now in
    let before = get_or_read c.args.functions.now.items c.args.signal _ c.requires.within c.index-before.ensures (record { 0 = 0 }) in
    counts_err u 2 old c.or.new.store c.in-Err-or.spent
    (two_counts u made old c.and.new.store c.or.new.store c.args.care c.args.gate c.in-Ok.here c.index-before.result.now (Err c.in-Err-or.spent) used c.sound.ensures.sound
    c.requires.care c.requires.gate (subst (λ (h : H). IsLive old h) (sym before) (c.requires.functions c.args.signal c.requires.within)) c.in-Ok.ensures.makes c.in-Err-or.ensures.makes)
