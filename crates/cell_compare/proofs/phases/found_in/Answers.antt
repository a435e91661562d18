-- A fault by names stops the search.
use Rattle.std.proofs.Common.{subst}
use Rattle.cell_compare.specs.Workspace.{View, compared_in}
use Rattle.vrt_model.specs.Places.{Finding, IsFirstInPhase}
use Rattle.vrt_model.specs.Verdicts.{Describes}
use Rattle.cell_compare.proofs.phases.found_in.Goals as goal

pub returns-in_ok-told-in-Fault-clause-tells : goal.returns-in_ok-told-in-Fault-clause-tells
returns-in_ok-told-in-Fault-clause-tells c =
    let last = c.check_phase.ensures.last in
    let named = c.in_ok-told-in-Fault.ensures (record { phase = c.args.phase; answer = c.check_phase.result; bits = last.0 }) last.1 in
    (named.0, subst (λ (w : View). (f : Finding) × Describes (compared_in w) c.in_ok-told-in-Fault.told f × IsFirstInPhase (compared_in w) f) c.check_phase.ensures.rest named.1)
