use Rattle.std.proofs.Common.{List, ℕ, ap, arith, get_or, length, subst, sym}
use Rattle.verity_run.specs.Known.{IsKnown}
use Rattle.verity_run.proofs.ArrivalLaws.{found_all, found_more, found_none}
use Rattle.verity_run.proofs.CellLaws.{number_there}
use Rattle.verity_run.proofs.KnownLaws.{nothing_is_known}
use Rattle.verity_run.proofs.arrivals.judge_all.Goals as goal

pub loop-number-init : goal.loop-number-init
loop-number-init c =
    let i = c.args.ready.now.inputs in (
      found_none i.design i.blif i.rules c.args.budget c.args.cell _ _ c.requires.known c.requires.none,
      subst (IsKnown i.design i.blif i.rules) (sym c.requires.known) (nothing_is_known i.design i.blif i.rules),
      c.requires.kept,
    )

pub compare_cell-requires-clause-number : goal.compare_cell-requires-clause-number
compare_cell-requires-clause-number c =
    let i = c.loop-number.number-index in
    number_there c.args.ready.now.inputs.design c.args.ready.now.cells i _ (omega (arith, ap length c.as_slice-number-items.ensures)) (ap (λ (xs : List ℕ). get_or xs i 0) c.as_slice-number-items.ensures) c.requires.ready.there

pub loop-number-preserved : goal.loop-number-preserved
loop-number-preserved c =
    let i = c.args.ready.now.inputs in
    let at = c.loop-number.number-index in (
      found_more i.design i.blif i.rules c.args.budget c.args.cell c.args.ready.now.cells at _ _ _ c.in_ok-judged.judged _ _ (omega (arith, ap length c.as_slice-number-items.ensures))
          (ap (λ (xs : List ℕ). get_or xs at 0) c.as_slice-number-items.ensures) c.loop-number.invariant.0 c.in_ok-judged.ensures.judged c.in_ok-judged.ensures.line c.in_ok-judged.ensures.made c.keep.ensures,
      c.compare_cell.ensures.known,
      c.in_ok-judged.ensures.kept,
    )

pub returns : goal.returns
returns c =
    let i = c.args.ready.now.inputs in
    found_all i.design i.blif i.rules c.args.budget c.args.cell c.args.ready.now.cells c.loop-number.number-index _ _ (omega (arith, ap length c.as_slice-number-items.ensures)) c.loop-number.invariant.0
