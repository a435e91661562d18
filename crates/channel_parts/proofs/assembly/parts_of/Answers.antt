use Rattle.std.proofs.Common.{ℕ, ◌<◌, List, get_or, length, take, arith, subst, sym}
use Rattle.std.specs.Prelude.{filter}
use Rattle.std.proofs.lemmas.List.{take_all}
use Rattle.std.proofs.lemmas.Option.{slice_get-get_or}
use Rattle.channel_parts.specs.Groups.{AreMade, is_head}
use Rattle.vrt_model.proofs.Lists.{take_one}
use Rattle.channel_parts.proofs.assembly.parts_of.Goals as goal

pub add_part-requires-clause-nets : goal.add_part-requires-clause-nets
add_part-requires-clause-nets c =
    let order = c.args.order.now in
    let i = c.loop-pair.pair-index in
    c.requires.nets i (get_or order i ((0, 0), 0)) (slice_get-get_or order i ((0, 0), 0) c.loop-pair-test.true)

pub add_part-requires-clause-devices : goal.add_part-requires-clause-devices
add_part-requires-clause-devices c =
    let order = c.args.order.now in
    let i = c.loop-pair.pair-index in
    let inside : (get_or order i ((0, 0), 0)).1 < length c.args.nets.now = c.requires.nets i (get_or order i ((0, 0), 0)) (slice_get-get_or order i ((0, 0), 0) c.loop-pair-test.true) in
    omega (arith, inside, c.requires.devices)

pub loop-pair-preserved : goal.loop-pair-preserved
loop-pair-preserved c =
    let order = c.args.order.now in
    let i = c.loop-pair.pair-index in
    subst (λ (some : List ((ℕ × ℕ) × ℕ)). AreMade c.args.nets.now c.args.devices.now (filter is_head some) c.add_part.new.list)
    (sym (take_one order i (get_or order i ((0, 0), 0)) (slice_get-get_or order i ((0, 0), 0) c.loop-pair-test.true)))
    (c.in_ok-add_part.ensures (take i order) c.loop-pair.invariant)

pub returns : goal.returns
returns c =
    let order = c.args.order.now in
    let i = c.loop-pair.pair-index in
    subst (λ (all : List ((ℕ × ℕ) × ℕ)). AreMade c.args.nets.now c.args.devices.now (filter is_head all) c.loop-pair.list) (take_all i order (omega (arith, c.loop-pair-test.false))) c.loop-pair.invariant
