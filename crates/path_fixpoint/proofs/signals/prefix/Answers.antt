use Rattle.std.proofs.Common.{sym, ◌∙◌, arith}
use Rattle.std.proofs.lemmas.Bool.{false≢true}
use Rattle.bdd_core.proofs.Meaning.{meaning_zero}
use Rattle.bdd_ops.proofs.WithinLaws.{within_zero}
use Rattle.path_fixpoint.proofs.signals.prefix.Goals as goal

pub returns-clause-is : goal.returns-clause-is
returns-clause-is c v = (λ e. absurd (false≢true (sym (meaning_zero c.args.store.now.nodes v) ∙ e)), λ h. absurd (omega (arith, h.0, c.if-level-device.false)))

pub returns-clause-few : goal.returns-clause-few
returns-clause-few c u all = within_zero u c.args.store.now
