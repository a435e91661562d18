use Rattle.std.proofs.Common.{Err, arith}
use Rattle.bdd_core.specs.Diagram.{Function}
use Rattle.bdd_core.specs.Store.{function_of}
use Rattle.bdd_ops.proofs.CountingLaws.{counts_both, counts_made, counts_more, counts_then}
use Rattle.bdd_ops.proofs.WithinLaws.{within_and, within_not, within_same, within_xor}
use Rattle.bdd_ops.specs.Ops.{not_of, xor_of}
use Rattle.circuit_faults.proofs.CountLaws.{kept_within}
use Rattle.setting_faults.proofs.differences.difference.Goals as goal

pub returns-in-Err-clause-counts : goal.returns-in-Err-clause-counts
returns-in-Err-clause-counts c u care left right =
    let old = c.args.store.now in
    let f : Function = function_of old c.args.left in
    let g : Function = function_of old c.args.right in
    counts_more u 2 3 old c.xor.new.store (Err c.in-Err.spent) (omega arith)
    (counts_both u old c.xor.new.store c.sound.ensures.sound.ends (not_of g) (xor_of f g) (Err c.in-Err.spent) c.in-Err.ensures.makes (within_not u g right) (within_xor u f g left right)
    (c.in-Err.ensures.exact.few u (within_not u g right) (within_xor u f g left right)) (c.in-Err.ensures.exact.early u (within_not u g right) (within_xor u f g left right)))

pub returns-clause-counts : goal.returns-clause-counts
returns-clause-counts c u care left right =
    let old = c.args.store.now in
    let mid = c.xor.new.store in
    let f : Function = function_of old c.args.left in
    let g : Function = function_of old c.args.right in
    let adds = c.in-Ok.ensures.makes.adds in
    let first = counts_both u old mid c.sound.ensures.sound.ends (not_of g) (xor_of f g) _ c.in-Ok.ensures.makes (within_not u g right) (within_xor u f g left right)
    (c.in-Ok.ensures.exact.few u (within_not u g right) (within_xor u f g left right)) (c.in-Ok.ensures.exact.early u (within_not u g right) (within_xor u f g left right)) in
    let either = c.in-Ok.ensures.makes.ok in
    counts_then u 2 1 old mid c.and.new.store c.and.result first.added
    (counts_made u mid c.and.new.store (let two = c.sound.ensures.sound.ends in omega (arith, two, adds.longer)) _ c.and.result c.and.ensures.makes
    (within_and u (function_of mid c.args.care) (function_of mid c.in-Ok.either) (kept_within u old mid c.args.care adds c.requires.0 care)
    (within_same u (xor_of f g) (function_of mid c.in-Ok.either) either.same (within_xor u f g left right))))
