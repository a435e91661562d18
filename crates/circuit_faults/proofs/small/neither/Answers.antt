use Rattle.std.proofs.Common.{Bool, Err, Ok, arith, ap, ◌∙◌}
use Rattle.std.specs.Prelude.{not}
use Rattle.bdd_core.proofs.Frames.{nodes_then}
use Rattle.bdd_core.proofs.Results.{if_ok_more}
use Rattle.bdd_core.specs.Diagram.{Function}
use Rattle.bdd_core.specs.Store.{function_of}
use Rattle.bdd_ops.proofs.CountingLaws.{counts_made, counts_more, counts_then}
use Rattle.bdd_ops.proofs.WithinLaws.{within_not, within_or, within_same}
use Rattle.bdd_ops.specs.Ops.{not_of, or_of}
use Rattle.circuit_faults.proofs.small.neither.Goals as goal

pub returns-clause-adds : goal.returns-clause-adds
returns-clause-adds c = nodes_then c.args.store.now c.or.new.store c.not.new.store c.in-Ok.ensures.makes.adds c.not.ensures.makes.adds

pub returns-clause-is : goal.returns-clause-is
returns-clause-is c =
    if_ok_more _ _ c.not.result
    (λ h m. record { live = m.live; same = λ v. m.same v ∙ ap (λ (b : Bool). not b) (c.in-Ok.ensures.makes.ok.same v) })
    c.not.ensures.makes.ok

pub returns-in-Err-clause-counts : goal.returns-in-Err-clause-counts
returns-in-Err-clause-counts c u zero one =
    let old = c.args.store.now in
    let f : Function = or_of (function_of old c.args.zero) (function_of old c.args.one) in
    counts_more u 1 2 old c.or.new.store (Err c.in-Err.spent) (omega arith)
    (counts_made u old c.or.new.store c.sound.ensures.sound.ends f (Err c.in-Err.spent) c.in-Err.ensures.makes (within_or u (function_of old c.args.zero) (function_of old c.args.one) zero one))

pub returns-clause-counts : goal.returns-clause-counts
returns-clause-counts c u zero one =
    let old = c.args.store.now in
    let mid = c.or.new.store in
    let f : Function = or_of (function_of old c.args.zero) (function_of old c.args.one) in
    let reads = within_or u (function_of old c.args.zero) (function_of old c.args.one) zero one in
    let first = counts_made u old mid c.sound.ensures.sound.ends f (Ok c.in-Ok.any) c.in-Ok.ensures.makes reads in
    let ends = c.sound.ensures.sound.ends in
    let longer = c.in-Ok.ensures.makes.adds.longer in
    counts_then u 1 1 old mid c.not.new.store c.not.result first.added
    (counts_made u mid c.not.new.store (omega (arith, ends, longer)) (not_of (function_of mid c.in-Ok.any)) c.not.result c.not.ensures.makes
    (within_not u (function_of mid c.in-Ok.any) (within_same u f (function_of mid c.in-Ok.any) c.in-Ok.ensures.makes.ok.same reads)))
