use Rattle.std.proofs.Common.{ap, sym, ◌∙◌}
use Rattle.bdd_core.proofs.Meaning.{meaning_one, meaning_zero}
use Rattle.phase_wishes.specs.Missed.{source_at}
use Rattle.phase_wishes.specs.declared.wishes.Wanted.{Wanted}
use Rattle.phase_wishes.proofs.missed.source.Goals as goal

pub returns-in-Constant-true-clause-same : goal.returns-in-Constant-true-clause-same
returns-in-Constant-true-clause-same c v =
    meaning_one c.args.store.now.nodes v ∙ sym c.in-Constant-true.field-0-test ∙ sym (ap (λ (w : Wanted). source_at c.args.store.now c.args.bits w v) c.in-Constant-true.is)

pub returns-in-Constant-false-clause-same : goal.returns-in-Constant-false-clause-same
returns-in-Constant-false-clause-same c v =
    meaning_zero c.args.store.now.nodes v ∙ sym c.in-Constant-false.field-0-test ∙ sym (ap (λ (w : Wanted). source_at c.args.store.now c.args.bits w v) c.in-Constant-false.is)
