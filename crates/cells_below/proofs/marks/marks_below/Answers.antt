use Rattle.std.proofs.Common.{ℕ, ◌∙◌, ap, arith, false, length, refl, replicate, sym}
use Rattle.nesting.proofs.ReachedLaws.{goes_down, goes_first, goes_on}
use Rattle.nesting.specs.Reached.{AreUnder}
use Rattle.place_paths.proofs.CellNames.{inner_inside}
use Rattle.vrt_model.specs.Hierarchy.{cells_in}
use Rattle.cells_below.proofs.marks.marks_below.Goals as goal

pub loop-at-init : goal.loop-at-init
loop-at-init c =
    let there = c.requires.there in
    let under : AreUnder (cells_in c.args.design.now) (length c.args.design.now.cells) = inner_inside c.args.design.now (omega (arith, there)) in
    goes_first (cells_in c.args.design.now) (length c.args.design.now.cells) under c.args.top c.in_ok-marks.marks.items c.meet_inner.new.marks.items c.new-met.result c.meet_inner.new.met
    (cells_in c.args.design.now c.args.top) (c.in_ok-marks.ensures ∙ ap (λ (k : ℕ). replicate k false) c.len.ensures) c.new-met.ensures refl c.in_ok-meet_inner.ensures

pub returns-in_default : goal.returns-in_default
returns-in_default c =
    let there = c.requires.there in
    let under : AreUnder (cells_in c.args.design.now) (length c.args.design.now.cells) = inner_inside c.args.design.now (omega (arith, there)) in
    goes_down (cells_in c.args.design.now) (length c.args.design.now.cells) under c.args.top c.loop-at.at c.loop-at.marks.items c.loop-at.met (sym c.in_default.ensures) c.loop-at.invariant

pub loop-at-preserved : goal.loop-at-preserved
loop-at-preserved c =
    let there = c.requires.there in
    let under : AreUnder (cells_in c.args.design.now) (length c.args.design.now.cells) = inner_inside c.args.design.now (omega (arith, there)) in
    goes_on (cells_in c.args.design.now) (length c.args.design.now.cells) under c.args.top c.loop-at.at c.in-Some.number c.loop-at.marks.items c.meet_inner-in-loop-at.new.marks.items c.loop-at.met
    c.meet_inner-in-loop-at.new.met (cells_in c.args.design.now c.in-Some.number) (sym c.in-Some.ensures) refl c.loop-at.invariant c.in_ok-meet_inner-2.ensures
