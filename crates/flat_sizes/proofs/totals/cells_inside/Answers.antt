use Rattle.std.proofs.Common.{arith, ◌≡◌, ◌-◌, ◌+◌, ℕ, List, true, subst, sym, ◌∙◌}
use Rattle.std.specs.Prelude.{◌==◌}
use Rattle.std.specs.List.{list_all}
use Rattle.flat_sizes.proofs.TotalLaws.{counted_down, counted_empty, counted_first, counted_last, zeros_none}
use Rattle.flat_sizes.proofs.totals.cells_inside.Goals as goal

pub loop-round-init : goal.loop-round-init
loop-round-init c = counted_first c.args.design.now 4096 c.args.cell c.no_cells-all.result c.no_cells-level.result c.no_cells-all.ensures c.no_cells-level.ensures (omega (arith, c.requires.few, c.requires.there))

pub loop-round-preserved : goal.loop-round-preserved
loop-round-preserved c =
    counted_down c.args.design.now c.args.cell (32 - c.loop-round.round) (32 - (c.loop-round.round + 1)) c.loop-round.all _ c.loop-round.level c.no_cells-next.result _
    (omega arith) (zeros_none 4096 c.no_cells-next.result c.no_cells-next.ensures) c.add_level.ensures.next c.add_level.ensures.all c.loop-round.invariant

pub returns-then-is_empty : goal.returns-then-is_empty
returns-then-is_empty c =
    counted_empty c.args.design.now c.args.cell (32 - c.loop-round.round) c.loop-round.all c.loop-round.level
    (subst (λ (counts : List ℕ). list_all (λ (count : ℕ). count == 0) counts ≡ true) c.as_slice.ensures (sym c.is_empty.ensures ∙ c.if-is_empty.true)) c.loop-round.invariant

pub returns : goal.returns
returns c = counted_last c.args.design.now c.args.cell (32 - c.loop-round.round) c.loop-round.all c.loop-round.level (omega (arith, c.loop-round-test.false)) c.loop-round.invariant
