use Rattle.std.proofs.Common.{◌+◌, ◌*◌, Err, length, arith}
use Rattle.std.proofs.lemmas.Option.{slice_get_within}
use Rattle.bdd_core.proofs.Frames.{adds_none, nodes_then}
use Rattle.bdd_core.specs.Store.{function_of}
use Rattle.bdd_ops.proofs.CountingLaws.{counted_more, counted_none, counted_then, counts_err, counts_more, counts_ok, counts_then}
use Rattle.bdd_ops.proofs.WithinLaws.{within_same}
use Rattle.phase_wishes.proofs.MissedLaws.{bits_added, compared_first, met_here, met_more, missed_here, within_added}
use Rattle.phase_wishes.specs.Missed.{IsWithinBits}
use Rattle.vrt_model.proofs.Members.{all_among}
use Rattle.phase_wishes.proofs.fault.first_missed.Goals as goal

pub loop-i-init : goal.loop-i-init
loop-i-init c = record {
  adds = adds_none c.args.store.now c.sound.ensures.sound c.sound.ensures.within;
  met = λ k wish lt here. absurd (omega (arith, lt));
  counted = λ u care bits. counted_none u c.args.store.now;
}

pub check_wish-requires-clause-care : goal.check_wish-requires-clause-care
check_wish-requires-clause-care c = omega (arith, c.requires.care, c.loop-i.invariant.adds.longer)

pub check_wish-requires-clause-bits : goal.check_wish-requires-clause-bits
check_wish-requires-clause-bits c = bits_added c.args.bits c.args.store.now c.loop-i.store c.loop-i.invariant.adds c.requires.bits

pub check_wish-requires-clause-net : goal.check_wish-requires-clause-net
check_wish-requires-clause-net c = (all_among (IsWithinBits c.args.bits) c.args.wishes.now c.wish_at.result c.requires.wishes (c.loop-i.i, c.wish_at.ensures)).0

pub check_wish-requires-clause-inside : goal.check_wish-requires-clause-inside
check_wish-requires-clause-inside c = (all_among (IsWithinBits c.args.bits) c.args.wishes.now c.wish_at.result c.requires.wishes (c.loop-i.i, c.wish_at.ensures)).1

pub check_wish-requires-clause-free : goal.check_wish-requires-clause-free
check_wish-requires-clause-free c = (all_among (IsWithinBits c.args.bits) c.args.wishes.now c.wish_at.result c.requires.wishes (c.loop-i.i, c.wish_at.ensures)).2

pub returns-in-Err-clause-adds : goal.returns-in-Err-clause-adds
returns-in-Err-clause-adds c = nodes_then c.args.store.now c.loop-i.store c.check_wish.new.store c.loop-i.invariant.adds c.in-Err.ensures.adds

pub returns-in-Err-clause-counts : goal.returns-in-Err-clause-counts
returns-in-Err-clause-counts c u care bits =
    let i = c.loop-i.i in
    let first = c.args.store.now in
    let old = c.loop-i.store in
    let new = c.check_wish.new.store in
    let adds = c.loop-i.invariant.adds in
    let one = c.in-Err.ensures.counts u (within_same u (function_of first c.args.care) (function_of old c.args.care) (adds.kept c.args.care.0 c.requires.care) care)
    (within_added u c.args.bits first old adds c.requires.bits bits) in
    counts_more u (4 * i + 4) (4 * length c.args.wishes.now) first new (Err c.in-Err.spent) (omega (arith, c.loop-i-test.true))
    (counts_then u (4 * i) 4 first old new (Err c.in-Err.spent) (c.loop-i.invariant.counted u care bits) (counts_err u 4 old new c.in-Err.spent one))

pub returns-then-is_somewhere-clause-adds : goal.returns-then-is_somewhere-clause-adds
returns-then-is_somewhere-clause-adds c = nodes_then c.args.store.now c.loop-i.store c.check_wish.new.store c.loop-i.invariant.adds c.in-Ok.ensures.adds

pub returns-then-is_somewhere-clause-gives : goal.returns-then-is_somewhere-clause-gives
returns-then-is_somewhere-clause-gives c =
    let first = c.args.store.now in
    let new = c.check_wish.new.store in
    let wish = c.wish_at.result in
    let inside = all_among (IsWithinBits c.args.bits) c.args.wishes.now wish c.requires.wishes (c.loop-i.i, c.wish_at.ensures) in
    let is = compared_first first c.loop-i.store c.loop-i.invariant.adds c.args.bits c.requires.bits new c.args.care wish c.in-Ok.fault c.requires.care inside c.in-Ok.ensures.compared in
    missed_here c.args.wishes.now c.args.care c.args.bits first new c.loop-i.i wish c.in-Ok.fault c.wish_at.ensures is (c.is_somewhere.ensures.somewhere c.if-is_somewhere.true) c.loop-i.invariant.met

pub returns-then-is_somewhere-clause-counts : goal.returns-then-is_somewhere-clause-counts
returns-then-is_somewhere-clause-counts c u care bits =
    let i = c.loop-i.i in
    let first = c.args.store.now in
    let old = c.loop-i.store in
    let new = c.check_wish.new.store in
    let adds = c.loop-i.invariant.adds in
    let one = c.in-Ok.ensures.counts u (within_same u (function_of first c.args.care) (function_of old c.args.care) (adds.kept c.args.care.0 c.requires.care) care)
    (within_added u c.args.bits first old adds c.requires.bits bits) in
    counts_ok u (4 * length c.args.wishes.now) first new _
    (counted_more u (4 * i + 4) (4 * length c.args.wishes.now) first new (omega (arith, c.loop-i-test.true))
    (counted_then u (4 * i) 4 first old new (c.loop-i.invariant.counted u care bits) one.added))

pub loop-i-preserved : goal.loop-i-preserved
loop-i-preserved c =
    let i = c.loop-i.i in
    let first = c.args.store.now in
    let old = c.loop-i.store in
    let new = c.check_wish.new.store in
    let adds = c.loop-i.invariant.adds in
    let wish = c.wish_at.result in
    let inside = all_among (IsWithinBits c.args.bits) c.args.wishes.now wish c.requires.wishes (i, c.wish_at.ensures) in
    let is = compared_first first old adds c.args.bits c.requires.bits new c.args.care wish c.in-Ok.fault c.requires.care inside c.in-Ok.ensures.compared in
    record {
      adds = nodes_then first old new adds c.in-Ok.ensures.adds;
      met = met_more c.args.wishes.now c.args.care c.args.bits first new i wish c.wish_at.ensures
          (met_here c.args.wishes.now c.args.care c.args.bits first new wish c.in-Ok.fault is (c.is_somewhere.ensures.nowhere c.if-is_somewhere.false)) c.loop-i.invariant.met;
      counted = λ u care bits.
          let one = c.in-Ok.ensures.counts u (within_same u (function_of first c.args.care) (function_of old c.args.care) (adds.kept c.args.care.0 c.requires.care) care)
          (within_added u c.args.bits first old adds c.requires.bits bits) in
          counted_more u (4 * i + 4) (4 * (i + 1)) first new (omega arith) (counted_then u (4 * i) 4 first old new (c.loop-i.invariant.counted u care bits) one.added);
    }

pub returns-clause-gives : goal.returns-clause-gives
returns-clause-gives c i wish here =
    c.loop-i.invariant.met i wish (omega (arith, slice_get_within c.args.wishes.now i wish here, c.loop-i-test.false)) here

pub returns-clause-counts : goal.returns-clause-counts
returns-clause-counts c u care bits =
    counts_ok u (4 * length c.args.wishes.now) c.args.store.now c.loop-i.store _
    (counted_more u (4 * c.loop-i.i) (4 * length c.args.wishes.now) c.args.store.now c.loop-i.store (omega (arith, c.loop-i.auto.i-end))
    (c.loop-i.invariant.counted u care bits))
