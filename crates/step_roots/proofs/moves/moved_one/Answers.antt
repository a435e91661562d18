use Rattle.std.proofs.Common.{arith}
use Rattle.bdd_core.specs.Store.{IsLive, function_of}
use Rattle.bdd_ops.proofs.WithinLaws.{within_fixed, within_or}
use Rattle.step_roots.proofs.CareCounts.{all_within, later_within, one_more, one_refused}
use Rattle.step_roots.proofs.MovedLaws.{moves_one}
use Rattle.step_roots.proofs.moves.moved_one.Goals as goal

pub returns-in-Err-clause-counts : goal.returns-in-Err-clause-counts
returns-in-Err-clause-counts c =
    let old = c.args.store.now in
    let sound = c.sound.ensures.sound in
    one_refused old c.restrict.new.store 2 _ c.in-Err.spent sound.ends (omega arith)
    (within_fixed old.vars (function_of old c.args.f) c.args.variable c.args.bit (all_within old c.args.f sound c.requires.f)) c.in-Err.ensures.makes

pub returns-clause-gives : goal.returns-clause-gives
returns-clause-gives c =
    moves_one c.args.store.now c.restrict.new.store c.or.new.store c.args.variable c.args.bit c.args.f c.in-Ok.there c.or.result c.requires.f c.in-Ok.ensures.makes c.or.ensures.makes

pub returns-clause-counts : goal.returns-clause-counts
returns-clause-counts c =
    let old = c.args.store.now in
    let mid = c.restrict.new.store in
    let sound = c.sound.ensures.sound in
    let adds = c.in-Ok.ensures.makes.adds in
    let live : IsLive mid c.args.f = (let live = c.requires.f in let longer = adds.longer in omega (arith, live, longer)) in
    one_more old mid c.or.new.store _ _ c.in-Ok.there c.or.result old.words sound.ends adds
    (within_fixed old.vars (function_of old c.args.f) c.args.variable c.args.bit (all_within old c.args.f sound c.requires.f))
    (within_or old.vars (function_of mid c.args.f) (function_of mid c.in-Ok.there) (later_within old mid old.words adds c.args.f live)
    (later_within old mid old.words adds c.in-Ok.there c.in-Ok.ensures.makes.ok.live)) c.in-Ok.ensures.makes c.or.ensures.makes
