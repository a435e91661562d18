use Rattle.std.proofs.Common.{◌≤◌, length, arith, subst, sym}
use Rattle.bdd_core.specs.Diagram.{bit_of}
use Rattle.bdd_core.specs.Store.{IsLive, function_of}
use Rattle.bdd_core.specs.declared.handle.H.{H}
use Rattle.bdd_ops.proofs.WithinLaws.{within_bit, within_choice}
use Rattle.step_roots.proofs.CareCounts.{later_within, one_more, one_refused}
use Rattle.step_roots.proofs.ComparedLaws.{compared_high, compared_low, constant_live}
use Rattle.step_roots.proofs.below.compared_bit.Goals as goal

pub returns-in-Err-clause-counts : goal.returns-in-Err-clause-counts
returns-in-Err-clause-counts c =
    let old = c.args.store.now in
    one_refused old c.bit.new.self 2 (bit_of c.args.variable) c.in-Err.spent c.sound.ensures.sound.ends (omega arith) (within_bit old.vars c.args.variable c.requires.variable) c.in-Err.ensures.makes

pub returns-then-bit-clause-gives : goal.returns-then-bit-clause-gives
returns-then-bit-clause-gives c =
    compared_high c.args.lesser c.args.store.now c.bit.new.self c.ite.new.self c.args.variable c.args.bit c.args.rest c.in-Ok.test c.ite.result c.constant.result c.constant.ensures c.if-bit.true
    c.requires.rest c.in-Ok.ensures.makes c.ite.ensures.makes

pub returns-then-bit-clause-counts : goal.returns-then-bit-clause-counts
returns-then-bit-clause-counts c =
    let old = c.args.store.now in
    let mid = c.bit.new.self in
    let adds = c.in-Ok.ensures.makes.adds in
    let two : 2 ≤ length mid.nodes = (let ends = c.sound.ensures.sound.ends in let longer = adds.longer in omega (arith, ends, longer)) in
    let other : H = c.constant.result in
    let there : IsLive mid other = subst (IsLive mid) (sym c.constant.ensures) (constant_live mid c.args.lesser two) in
    let rest : IsLive mid c.args.rest = (let live = c.requires.rest in let longer = adds.longer in omega (arith, live, longer)) in
    one_more old mid c.ite.new.self (bit_of c.args.variable) _ c.in-Ok.test c.ite.result old.words c.sound.ensures.sound.ends adds (within_bit old.vars c.args.variable c.requires.variable)
    (within_choice old.vars (function_of mid c.in-Ok.test) (function_of mid c.args.rest) (function_of mid other) (later_within old mid old.words adds c.in-Ok.test c.in-Ok.ensures.makes.ok.live)
    (later_within old mid old.words adds c.args.rest rest) (later_within old mid old.words adds other there)) c.in-Ok.ensures.makes c.ite.ensures.makes

pub returns-else-bit-clause-gives : goal.returns-else-bit-clause-gives
returns-else-bit-clause-gives c =
    compared_low c.args.lesser c.args.store.now c.bit.new.self c.ite-else-bit.new.self c.args.variable c.args.bit c.args.rest c.in-Ok.test c.ite-else-bit.result c.if-bit.false c.requires.rest
    c.in-Ok.ensures.makes c.ite-else-bit.ensures.makes

pub returns-else-bit-clause-counts : goal.returns-else-bit-clause-counts
returns-else-bit-clause-counts c =
    let old = c.args.store.now in
    let mid = c.bit.new.self in
    let adds = c.in-Ok.ensures.makes.adds in
    let two : 2 ≤ length mid.nodes = (let ends = c.sound.ensures.sound.ends in let longer = adds.longer in omega (arith, ends, longer)) in
    let zero : H = record { 0 = 0 } in
    let rest : IsLive mid c.args.rest = (let live = c.requires.rest in let longer = adds.longer in omega (arith, live, longer)) in
    one_more old mid c.ite-else-bit.new.self (bit_of c.args.variable) _ c.in-Ok.test c.ite-else-bit.result old.words c.sound.ensures.sound.ends adds (within_bit old.vars c.args.variable c.requires.variable)
    (within_choice old.vars (function_of mid c.in-Ok.test) (function_of mid zero) (function_of mid c.args.rest) (later_within old mid old.words adds c.in-Ok.test c.in-Ok.ensures.makes.ok.live)
    (later_within old mid old.words adds zero (omega (arith, two))) (later_within old mid old.words adds c.args.rest rest)) c.in-Ok.ensures.makes c.ite-else-bit.ensures.makes
