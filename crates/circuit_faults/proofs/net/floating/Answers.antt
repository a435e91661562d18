use Rattle.std.proofs.Common.{Err, arith}
use Rattle.bdd_core.proofs.Results.{if_ok_more}
use Rattle.bdd_core.specs.Diagram.{Function}
use Rattle.bdd_core.specs.Store.{function_of}
use Rattle.bdd_ops.proofs.CountingLaws.{counts_made, counts_more}
use Rattle.bdd_ops.proofs.WithinLaws.{within_or}
use Rattle.bdd_ops.specs.Ops.{or_of}
use Rattle.circuit_faults.proofs.CountLaws.{counts_float}
use Rattle.bdd_core.proofs.Frames.{nodes_then}
use Rattle.circuit_faults.proofs.NetLaws.{float_made}
use Rattle.circuit_faults.proofs.net.floating.Goals as goal

pub returns-in-Err-clause-adds : goal.returns-in-Err-clause-adds
returns-in-Err-clause-adds c = c.in-Err.ensures.makes.adds

pub returns-clause-adds : goal.returns-clause-adds
returns-clause-adds c =
    nodes_then c.args.store.now c.or.new.store c.ite.new.self c.in-Ok.ensures.makes.adds c.ite.ensures.makes.adds

pub returns-clause-is : goal.returns-clause-is
returns-clause-is c =
    if_ok_more _ _ c.ite.result
    (λ h m. float_made c.args.store.now c.or.new.store c.ite.new.self c.args.care c.args.zero c.args.one c.in-Ok.ensures.makes.adds
    c.requires.0 c.in-Ok.any h c.in-Ok.ensures.makes.ok m)
    c.ite.ensures.makes.ok

pub returns-in-Err-clause-counts : goal.returns-in-Err-clause-counts
returns-in-Err-clause-counts c u care zero one =
    let old = c.args.store.now in
    let f : Function = or_of (function_of old c.args.zero) (function_of old c.args.one) in
    counts_more u 1 2 old c.or.new.store (Err c.in-Err.spent) (omega arith)
    (counts_made u old c.or.new.store c.sound.ensures.sound.ends f (Err c.in-Err.spent) c.in-Err.ensures.makes (within_or u (function_of old c.args.zero) (function_of old c.args.one) zero one))

pub returns-clause-counts : goal.returns-clause-counts
returns-clause-counts c u care zero one =
    let old = c.args.store.now in
    let f : Function = or_of (function_of old c.args.zero) (function_of old c.args.one) in
    counts_float u old c.or.new.store c.ite.new.self c.args.care f c.in-Ok.any c.ite.result c.sound.ensures.sound.ends c.requires.0 care c.in-Ok.ensures.makes
    (within_or u (function_of old c.args.zero) (function_of old c.args.one) zero one) c.ite.ensures.makes
