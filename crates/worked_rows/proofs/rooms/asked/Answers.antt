-- The rules stay.
use Rattle.std.proofs.Common.{◌<◌, ap, length, subst, sym}
use Rattle.cell_compare.specs.Workspace.{View}
use Rattle.vrt_model.specs.declared.rules.Rules.{Rules}
use Rattle.worked_rows.proofs.rooms.asked.Goals as goal

pub loop-again-preserved : goal.loop-again-preserved
loop-again-preserved c =
    subst (λ (r : Rules). c.args.phase < length r.phases) (sym (ap (λ (w : View). w.rules) c.check_phase-answer.ensures.rest)) c.loop-again.invariant
