use Rattle.std.proofs.Common.{◌≡◌, List, ◌-◌, ◌+◌, arith, subst, sym, ◌∙◌}
use Rattle.std.proofs.lemmas.Bool.{eqb-true}
use Rattle.flat_sizes.proofs.StandLaws.{IsStoodDown, stood_down, stood_empty, stood_first, stood_last}
use Rattle.flat_sizes.specs.Totals.{AddsStands, IsDirectlyIn}
use Rattle.flat_sizes.specs.declared.stands.Stand.{Stand}
use Rattle.vrt_model.proofs.Lists.{no_items}
use Rattle.flat_sizes.proofs.stands.all_levels.Goals as goal

pub loop-round-init : goal.loop-round-init
loop-round-init c =
    subst (λ (all : List Stand). IsStoodDown c.args.design.now 32 c.args.first.items all c.args.first.items) (sym c.new-all.ensures.items) (stood_first c.args.design.now c.args.first.items)

pub loop-round-preserved : goal.loop-round-preserved
loop-round-preserved c =
    stood_down c.args.design.now c.args.first.items (32 - c.loop-round._round) (32 - (c.loop-round._round + 1)) c.loop-round.all.items c.add_all.new.stands.items c.loop-round.level.items
    c.in_ok-next.next.items (omega arith)
    (subst (λ (level : List Stand). IsDirectlyIn c.args.design.now level c.in_ok-next.next.items) c.as_slice.ensures.value c.in_ok-next.ensures)
    (subst (λ (more : List Stand). AddsStands more c.loop-round.all.items c.add_all.new.stands.items) c.as_slice-in-loop-round.ensures.value c.in_ok-add_all.ensures)
    c.loop-round.invariant

pub returns-then-is_empty : goal.returns-then-is_empty
returns-then-is_empty c =
    let none : c.loop-round.level.len ≡ 0 = eqb-true c.loop-round.level.len 0 (sym c.is_empty.ensures ∙ c.if-is_empty.true) in
    let size = c.loop-round.level.ok.0 in
    stood_empty c.args.design.now c.args.first.items (32 - c.loop-round._round) c.loop-round.all.items c.loop-round.level.items (no_items c.loop-round.level.items (omega (arith, none, size))) c.loop-round.invariant

pub returns : goal.returns
returns c =
    stood_last c.args.design.now c.args.first.items (32 - c.loop-round._round) c.loop-round.all.items c.loop-round.level.items (omega (arith, c.loop-round-test.false)) c.loop-round.invariant
