use Rattle.std.proofs.Common.{◌≡◌, ◌<◌, arith, subst, ◌∙◌, inl, inr}
use Rattle.bdd_core.specs.Words.{word_at}
use Rattle.part_functions.specs.Inner.{HasHandle}
use Rattle.part_functions.specs.declared.few.PartFunctions.{PartFunctions}
use Rattle.vrt_model.specs.declared.circuit.Device.{Device}
use Rattle.part_functions.proofs.GatherLaws.{device_in, gathered_all, gathered_more, gathered_none}
use Rattle.part_functions.proofs.suits.gathered.Goals as goal

pub loop-place-init : goal.loop-place-init
loop-place-init c =
    gathered_none c.args.circuit.now c.args.part.now c.args.gates c.args.roots c.args.store.now c.none-functions.result c.none-functions.ensures.0 c.none-functions.ensures.1

pub returns : goal.returns
returns c =
    gathered_all c.args.circuit.now c.args.part.now c.args.gates c.args.roots c.args.store.now c.loop-place.functions c.loop-place.place
    (let end = c.loop-place-test.false in let size = c.len-place-end.ensures in omega (arith, end, size))
    (let end = c.loop-place.auto.place-end in let size = c.len-place-end.ensures in omega (arith, end, size)) c.loop-place.invariant

pub loop-place-preserved : goal.loop-place-preserved
loop-place-preserved c =
    let circuit = c.args.circuit.now in
    let part = c.args.part.now in
    let gates = c.args.gates in
    let roots = c.args.roots in
    let d = c.args.store.now in
    let dev : Device = c.device_at-device.result.now in
    let here = c.device_at-device.ensures in
    let net = (device_in circuit part c.loop-place.place dev c.requires.circuit here).gate in
    let long = c.requires.gates.1 in
    let inside : dev.gate.0 < gates.len = omega (arith, net, long) in
    let more : PartFunctions = c.in-Some.more in
    let word : c.read.result ≡ word_at d gates dev.gate.0 = c.read.ensures in
    gathered_more circuit part gates roots d c.loop-place.functions more c.loop-place.place dev c.loop-place.invariant here inside
    (c.is_fixed_end.ensures c.if-not-is_fixed_end.false, c.is_fixed_end-in-loop-place.ensures c.if-not-is_fixed_end-2.false)
    c.in-Some.ensures.list c.in-Some.ensures.count c.in-Some.ensures.kept (subst (HasHandle more) word c.in-Some.ensures.has)
    (λ x. elim (c.in-Some.ensures.only x) [ inl same ↦ inl same | inr new ↦ inr (new ∙ word) ])
