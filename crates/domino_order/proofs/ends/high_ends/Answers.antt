use Rattle.std.proofs.Common.{arith}
use Rattle.bdd_core.specs.Store.{IsLive, function_of}
use Rattle.bdd_core.specs.declared.handle.H.{H}
use Rattle.bdd_ops.proofs.CountingLaws.{counts_made}
use Rattle.bdd_ops.proofs.WithinLaws.{within_and}
use Rattle.domino_order.proofs.EndLaws.{high_gives}
use Rattle.step_roots.proofs.CareCounts.{all_within}
use Rattle.domino_order.proofs.ends.high_ends.Goals as goal

pub returns-clause-gives : goal.returns-clause-gives
returns-clause-gives c =
    let high : H = record { 0 = c.read.result } in
    high_gives c.args.store.now c.and.new.store c.args.net c.args.care high c.args.given c.and.result c.read.ensures c.and.ensures.makes

pub returns-clause-counts : goal.returns-clause-counts
returns-clause-counts c =
    let old = c.args.store.now in
    let sound = c.sound.ensures.sound in
    let high : H = record { 0 = c.read.result } in
    let there : IsLive old high = (let read = c.read.ensures in let live = c.requires.given.1 c.args.net c.requires.given.2 in omega (arith, read, live)) in
    counts_made old.vars old c.and.new.store sound.ends _ c.and.result c.and.ensures.makes
    (within_and old.vars (function_of old c.args.care) (function_of old high) (all_within old c.args.care sound c.requires.care) (all_within old high sound there))
