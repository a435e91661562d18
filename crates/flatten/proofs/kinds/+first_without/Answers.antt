use Rattle.std.proofs.Common.{◌-◌, ap, sym, ◌∙◌, arith}
use Rattle.flatten.proofs.WalkLaws.{found_here, found_own, inner_cards, none_here, none_left, number_named}
use Rattle.flatten.specs.Walks.{first_card, has_no_kind}
use Rattle.vrt_model.specs.Unrolled.{cell_named}
use Rattle.vrt_model.specs.declared.design.InstanceCard.{InstanceCard}
use Rattle.flatten.proofs.kinds.+first_without.Goals as goal

pub returns-in-Some : goal.returns-in-Some
returns-in-Some t c =
    found_own (has_no_kind c.args.models.now) c.args.design.now c.args.cell c.in_ok-found.found.now c.args.depth c.as_slice.result.now c.in-Some.card.now c.in_ok-found.ensures c.as_slice.ensures c.in-Some.ensures

pub returns-in-Some-first_without : goal.returns-in-Some-first_without
returns-in-Some-first_without t c =
    found_here (λ (i : InstanceCard). first_card (has_no_kind c.args.models.now) c.args.design.now (c.args.depth - 1) (cell_named c.args.design.now i.cell)) c.as_slice-card-items.result.now c.loop-card.card-index c.card-item.result
    c.in-Some-first_without.first.now (omega arith) c.card-item.is
    (sym (c.in-Some-first_without.ensures ∙ ap (first_card (has_no_kind c.args.models.now) c.args.design.now (c.args.depth - 1))
    (number_named c.args.design.now c.args.cells.now c.cell_number-number.result c.as_bytes.result.now c.card-item.result.cell c.cell_number-number.ensures c.as_bytes.ensures c.requires))) c.loop-card.invariant
    ∙ inner_cards (has_no_kind c.args.models.now) c.args.design.now c.args.cell c.in_ok-found.found.now c.args.depth (c.args.depth - 1) c.as_slice.result.now c.as_slice-card-items.result.now c.in_ok-found.ensures c.as_slice.ensures
    c.in_default.ensures c.as_slice-card-items.ensures (omega (arith, c.if-depth-eq0.false))

pub loop-card-preserved : goal.loop-card-preserved
loop-card-preserved t c =
    none_here (λ (i : InstanceCard). first_card (has_no_kind c.args.models.now) c.args.design.now (c.args.depth - 1) (cell_named c.args.design.now i.cell)) c.as_slice-card-items.result.now c.loop-card.card-index c.card-item.result
    (omega arith) c.card-item.is
    (sym (c.in_default-first_without.ensures ∙ ap (first_card (has_no_kind c.args.models.now) c.args.design.now (c.args.depth - 1))
    (number_named c.args.design.now c.args.cells.now c.cell_number-number.result c.as_bytes.result.now c.card-item.result.cell c.cell_number-number.ensures c.as_bytes.ensures c.requires))) c.loop-card.invariant

pub returns : goal.returns
returns t c =
    none_left (λ (i : InstanceCard). first_card (has_no_kind c.args.models.now) c.args.design.now (c.args.depth - 1) (cell_named c.args.design.now i.cell)) c.as_slice-card-items.result.now c.loop-card.card-index
    (omega (arith, c.loop-card-test.false)) c.loop-card.invariant
    ∙ inner_cards (has_no_kind c.args.models.now) c.args.design.now c.args.cell c.in_ok-found.found.now c.args.depth (c.args.depth - 1) c.as_slice.result.now c.as_slice-card-items.result.now c.in_ok-found.ensures c.as_slice.ensures
    c.in_default.ensures c.as_slice-card-items.ensures (omega (arith, c.if-depth-eq0.false))
