use Rattle.std.proofs.Common.{sym, subst, ◌∙◌}
use Rattle.std.proofs.lemmas.Result.{IfOk-weaker}
use Rattle.whole_circuits.specs.Insides.{IsCutAt}
use Rattle.substitute.proofs.WholeLaws.{tried_by}
use Rattle.substitute.specs.Chosen.{cut_of}
use Rattle.substitute.proofs.with_tables.circuit_of.Goals as goal

pub returns : goal.returns
returns c =
    IfOk-weaker c.circuit_by.result _ _
    (λ circuit gives asked t blif facts are all.
    gives (cut_of t c.args.chosen.now.whole.items) blif facts
    (tried_by asked t blif facts c.args.tables are c.args.chosen.now all c.in_ok-marks.marks (c.in_ok-marks.ensures.same ∙ c.as_slice.ensures.value)
    (λ cut is. c.in_ok-marks.ensures.are cut (subst (IsCutAt cut c.args.tables.unrolled.now) (sym c.as_slice.ensures.value) is)))) c.circuit_by.ensures
