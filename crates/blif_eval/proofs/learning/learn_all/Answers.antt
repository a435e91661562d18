use Rattle.std.proofs.Common.{ℕ, get_or, arith}
use Rattle.std.proofs.lemmas.Option.{slice_get-get_or}
use Rattle.blif_eval.proofs.LearningLaws.{learning_end, learning_next, learning_start}
use Rattle.vrt_model.specs.Lists.{At}
use Rattle.blif_eval.proofs.learning.learn_all.Goals as goal

pub loop-number-init : goal.loop-number-init
loop-number-init c = learning_start c.args.flat.now c.requires.model c.args.bits.now.items c.args.steps.now c.requires.steps c.requires.size

pub driver_at-requires : goal.driver_at-requires
driver_at-requires c =
    let at = c.loop-number.number-index in
    let low = c.requires.steps.below (get_or c.args.steps.now at 0) (at, slice_get-get_or c.args.steps.now at 0 c.loop-number-test.true) in
    let size = c.requires.drivers.size in
    omega (arith, low, size)

pub loop-number-preserved : goal.loop-number-preserved
loop-number-preserved c =
    let flat = c.args.flat.now in
    let steps = c.args.steps.now in
    let at = c.loop-number.number-index in
    let number : ℕ = get_or steps at 0 in
    let there : At steps at number = slice_get-get_or steps at 0 c.loop-number-test.true in
    learning_next flat c.requires.model c.args.bits.now.items steps c.requires.steps c.args.drivers.now c.requires.drivers at number there c.driver_at.result c.driver_at.ensures
    c.loop-number.bits.items c.learn_by.new.bits.items c.loop-number.invariant c.learn_by.ensures

pub returns : goal.returns
returns c =
    learning_end c.args.flat.now c.requires.model c.args.bits.now.items c.args.steps.now c.requires.steps c.loop-number.number-index c.loop-number.bits.items
    (let end = c.loop-number-test.false in omega (arith, end)) c.loop-number.invariant
