use Rattle.std.proofs.Common.{◌-◌, cond, Bool, None, Some, ap, refl, sym, ◌∙◌, arith}
use Rattle.flatten.proofs.WalkLaws.{inner_ties, no_cards, none_left, not_here, some_here, spot_is, tied_here}
use Rattle.rule_index.specs.Tables.{supply_in}
use Rattle.flatten.specs.Walks.{first_tie, spot_in}
use Rattle.vrt_model.specs.declared.design.InstanceCard.{InstanceCard}
use Rattle.flatten.proofs.ties.+first_from.Goals as goal

pub returns-then-is_some : goal.returns-then-is_some
returns-then-is_some t c =
    let supply = supply_in c.args.supplies.now in
    let below = c.args.depth - 1 in
    some_here (λ (i : InstanceCard). first_tie c.args.design.now supply below (spot_in c.args.design.now supply c.args.at.now i)) c.as_slice-card-items.result.now c.loop-card.card-index c.card-item.result
    c.in_ok-found.found c.is_some.result (omega arith) c.card-item.is
    (c.in_ok-found.ensures ∙ ap (first_tie c.args.design.now supply below)
    (c.in_ok-inner.ensures ∙ spot_is c.args.design.now c.args.cells.now supply 0 c.in-Some.cell.now c.in_ok-ports.ports c.args.at.now c.card-item.result c.requires.netlist c.requires.numbered c.in-Some.ensures c.in_ok-ports.ensures))
    c.is_some.ensures c.if-is_some.true c.loop-card.invariant
    ∙ inner_ties c.args.design.now supply c.args.depth below c.args.at.now c.in-Some.cell.now c.as_slice-card-items.result.now c.in-Some.ensures
    (tied_here c.args.design.now supply 0 c.args.at.now c.in-Some.cell.now c.as_slice.result.now c.as_slice-2.result.now c.ties_apart.result c.in-Some.ensures c.as_slice.ensures c.as_slice-2.ensures c.ties_apart.ensures
    ∙ ap (λ (b : Bool). cond b (Some c.args.at.now.path) None) c.if-ties_apart.false)
    c.as_slice-card-items.ensures (omega (arith, c.if-depth-eq0.false))

pub loop-card-preserved : goal.loop-card-preserved
loop-card-preserved t c =
    let supply = supply_in c.args.supplies.now in
    let below = c.args.depth - 1 in
    not_here (λ (i : InstanceCard). first_tie c.args.design.now supply below (spot_in c.args.design.now supply c.args.at.now i)) c.as_slice-card-items.result.now c.loop-card.card-index c.card-item.result
    c.in_ok-found.found c.is_some.result (omega arith) c.card-item.is
    (c.in_ok-found.ensures ∙ ap (first_tie c.args.design.now supply below)
    (c.in_ok-inner.ensures ∙ spot_is c.args.design.now c.args.cells.now supply 0 c.in-Some.cell.now c.in_ok-ports.ports c.args.at.now c.card-item.result c.requires.netlist c.requires.numbered c.in-Some.ensures c.in_ok-ports.ensures))
    c.is_some.ensures c.if-is_some.false c.loop-card.invariant

pub returns : goal.returns
returns t c =
    let supply = supply_in c.args.supplies.now in
    let below = c.args.depth - 1 in
    none_left (λ (i : InstanceCard). first_tie c.args.design.now supply below (spot_in c.args.design.now supply c.args.at.now i)) c.as_slice-card-items.result.now c.loop-card.card-index
    (omega (arith, c.loop-card-test.false)) c.loop-card.invariant
    ∙ inner_ties c.args.design.now supply c.args.depth below c.args.at.now c.in-Some.cell.now c.as_slice-card-items.result.now c.in-Some.ensures
    (tied_here c.args.design.now supply 0 c.args.at.now c.in-Some.cell.now c.as_slice.result.now c.as_slice-2.result.now c.ties_apart.result c.in-Some.ensures c.as_slice.ensures c.as_slice-2.ensures c.ties_apart.ensures
    ∙ ap (λ (b : Bool). cond b (Some c.args.at.now.path) None) c.if-ties_apart.false)
    c.as_slice-card-items.ensures (omega (arith, c.if-depth-eq0.false))

pub returns-then-is_empty : goal.returns-then-is_empty
returns-then-is_empty t c =
    let supply = supply_in c.args.supplies.now in
    let below = c.args.depth - 1 in
    no_cards (λ (i : InstanceCard). first_tie c.args.design.now supply below (spot_in c.args.design.now supply c.args.at.now i)) c.in-Some.cell.now.instances (sym c.is_empty.ensures ∙ c.if-is_empty.true)
    ∙ inner_ties c.args.design.now supply c.args.depth below c.args.at.now c.in-Some.cell.now c.in-Some.cell.now.instances c.in-Some.ensures
    (tied_here c.args.design.now supply 0 c.args.at.now c.in-Some.cell.now c.as_slice.result.now c.as_slice-2.result.now c.ties_apart.result c.in-Some.ensures c.as_slice.ensures c.as_slice-2.ensures c.ties_apart.ensures
    ∙ ap (λ (b : Bool). cond b (Some c.args.at.now.path) None) c.if-ties_apart.false)
    refl (omega (arith, c.if-depth-eq0.false))
