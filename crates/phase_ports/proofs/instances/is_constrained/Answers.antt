use Rattle.std.proofs.Common.{ℕ, Bool, List, not, ◌||◌, length, ap, ap₂, ◌∙◌}
use Rattle.std.specs.Prelude.{◌==◌}
use Rattle.phase_ports.proofs.ConstrainedLaws.{some_listed}
use Rattle.vrt_model.specs.declared.rules.AssumeRule.{AssumeRule}
use Rattle.vrt_model.specs.declared.rules.ClockportRule.{ClockportRule}
use Rattle.phase_ports.proofs.instances.is_constrained.Goals as goal

pub returns : goal.returns
returns c rules are =
    let ports = c.args.index.now.lines.ports in
    let some : List ℕ → Bool = λ places. not (length places == 0) in
    c.either.ensures
    ∙ ap₂ (λ (a b : Bool). a || b)
    (ap not c.is_empty-assumed.ensures ∙ ap some c.places.ensures
    ∙ some_listed (λ (r : AssumeRule). r.cell) rules.assumes ports.assumes c.args.cell.now are.lines_are.ports.assumes)
    (ap not c.is_empty-clocked.ensures ∙ ap some c.places-2.ensures
    ∙ some_listed (λ (r : ClockportRule). r.cell) rules.clockports ports.clockports c.args.cell.now are.lines_are.ports.clockports)
