use Rattle.std.proofs.Common.{Err, arith}
use Rattle.bdd_core.proofs.Results.{if_ok_more}
use Rattle.bdd_core.specs.Diagram.{Function}
use Rattle.bdd_core.specs.Store.{function_of}
use Rattle.bdd_ops.proofs.CountingLaws.{counts_made, counts_more}
use Rattle.bdd_ops.proofs.WithinLaws.{within_and}
use Rattle.bdd_ops.specs.Ops.{and_of}
use Rattle.circuit_faults.proofs.CountLaws.{counts_fight}
use Rattle.bdd_core.proofs.Frames.{nodes_then}
use Rattle.circuit_faults.proofs.NetLaws.{fight_made}
use Rattle.circuit_faults.proofs.net.fighting.Goals as goal

pub returns-in-Err-clause-adds : goal.returns-in-Err-clause-adds
returns-in-Err-clause-adds c = c.in-Err.ensures.makes.adds

pub returns-clause-adds : goal.returns-clause-adds
returns-clause-adds c =
    nodes_then c.args.store.now c.and.new.store c.and-2.new.store c.in-Ok.ensures.makes.adds c.and-2.ensures.makes.adds

pub returns-clause-is : goal.returns-clause-is
returns-clause-is c =
    if_ok_more _ _ c.and-2.result
    (λ h m. fight_made c.args.store.now c.and.new.store c.and-2.new.store c.args.care c.args.zero c.args.one c.in-Ok.ensures.makes.adds
    c.requires.0 c.in-Ok.both h c.in-Ok.ensures.makes.ok m)
    c.and-2.ensures.makes.ok

pub returns-in-Err-clause-counts : goal.returns-in-Err-clause-counts
returns-in-Err-clause-counts c u care zero one =
    let old = c.args.store.now in
    let f : Function = and_of (function_of old c.args.zero) (function_of old c.args.one) in
    counts_more u 1 2 old c.and.new.store (Err c.in-Err.spent) (omega arith)
    (counts_made u old c.and.new.store c.sound.ensures.sound.ends f (Err c.in-Err.spent) c.in-Err.ensures.makes (within_and u (function_of old c.args.zero) (function_of old c.args.one) zero one))

pub returns-clause-counts : goal.returns-clause-counts
returns-clause-counts c u care zero one =
    let old = c.args.store.now in
    let f : Function = and_of (function_of old c.args.zero) (function_of old c.args.one) in
    counts_fight u old c.and.new.store c.and-2.new.store c.args.care f c.in-Ok.both c.and-2.result c.sound.ensures.sound.ends c.requires.0 care c.in-Ok.ensures.makes
    (within_and u (function_of old c.args.zero) (function_of old c.args.one) zero one) c.and-2.ensures.makes
