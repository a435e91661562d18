use Rattle.std.proofs.Common.{ℕ, List, subst}
use Rattle.std.specs.Prelude.{IfOk}
use Rattle.domino_order.specs.Arrivals.{ArrivalTells}
use Rattle.phase_terms.specs.Ready.{comparison_in}
use Rattle.vrt_model.specs.declared.blif.Blif.{Blif}
use Rattle.domino_order.proofs.monotone.monotone_with.Goals as goal

pub returns : goal.returns
returns c = record {
  tells =
      subst (λ (xs : List ℕ). IfOk c.monotone_few.result (λ a. (blif : Blif) → ArrivalTells (comparison_in c.args.compared) blif c.args.budget c.args.phase xs a)) c.as_slice.ensures
      c.monotone_few.ensures.tells;
}
