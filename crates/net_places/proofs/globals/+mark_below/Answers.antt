use Rattle.std.proofs.Common.{◌≡◌, ◌-◌, flat_map, suc, subst, sym, ℕ, List, arith}
use Rattle.net_places.proofs.GlobalLaws.{cards_alone, cards_first, ended, more, nothing_there}
use Rattle.net_places.specs.Globals.{HasMarked, IsMarking, nets_below}
use Rattle.net_tables.specs.declared.types.InstanceNets.{InstanceNets}
use Rattle.net_places.proofs.globals.+mark_below.Goals as goal
use Rattle.vrt_model.proofs.Lists.{no_items}

pub returns-in_default : goal.returns-in_default
returns-in_default t c = nothing_there c.args.tables.now c.args.depth c.args.cell c.args.marks.now.items (sym c.in_default.ensures)

pub returns-then-depth-eq0 : goal.returns-then-depth-eq0
returns-then-depth-eq0 t c =
    let none : 0 ≡ c.args.depth = omega (arith, c.if-depth-eq0.true) in
    subst (λ (d : ℕ). HasMarked (nets_below c.args.tables.now d c.args.cell) c.args.marks.now.items c.mark_cards.new.marks.items) none
    (cards_alone c.args.tables.now c.args.cell c.in-Some.nets.now c.args.marks.now.items c.mark_cards.new.marks.items (sym c.in-Some.ensures) c.mark_cards.ensures)

pub instances-init : goal.instances-init
instances-init t c =
    subst (λ (left : List InstanceNets). IsMarking (nets_below c.args.tables.now (suc (c.args.depth - 1)) c.args.cell) c.args.marks.now.items c.mark_cards.new.marks.items (flat_map (λ (i : InstanceNets). nets_below c.args.tables.now (c.args.depth - 1) i.cell) left))
    (sym c.as_slice-left.ensures)
    (cards_first c.args.tables.now (c.args.depth - 1) c.args.cell c.in-Some.nets.now c.args.marks.now.items c.mark_cards.new.marks.items (sym c.in-Some.ensures) c.mark_cards.ensures)

pub instances-preserved : goal.instances-preserved
instances-preserved t c =
    more (nets_below c.args.tables.now (suc (c.args.depth - 1)) c.args.cell) (λ (i : InstanceNets). nets_below c.args.tables.now (c.args.depth - 1) i.cell) c.in-Some-split_first.instance.now
    c.instances.left.now c.in-Some-split_first.behind.now c.args.marks.now.items c.instances.marks.items c.mark_below.new.marks.items c.in-Some-split_first.ensures.cases.0 c.instances.invariant c.mark_below.ensures

pub returns : goal.returns
returns t c =
    let depth : suc (c.args.depth - 1) ≡ c.args.depth = omega (arith, c.if-depth-eq0.false) in
    subst (λ (d : ℕ). HasMarked (nets_below c.args.tables.now d c.args.cell) c.args.marks.now.items c.instances.marks.items) depth
    (ended (nets_below c.args.tables.now (suc (c.args.depth - 1)) c.args.cell) (λ (i : InstanceNets). nets_below c.args.tables.now (c.args.depth - 1) i.cell) c.instances.left.now c.args.marks.now.items
    c.instances.marks.items (no_items _ c.in_default-split_first.ensures.cases) c.instances.invariant)
