use Rattle.std.proofs.Common.{sym, ◌∙◌}
use Rattle.std.proofs.lemmas.Bool.{not-true, not_from_false}
use Rattle.circuit_faults.proofs.RootlessLaws.{rootless, rootless_free}
use Rattle.circuit_faults.proofs.undriven.is_rootless.Goals as goal

pub returns-in-None : goal.returns-in-None
returns-in-None c = (
  λ free.
      rootless c.args.circuit.now c.args.net.0 c.args.wholes.drivers.now c.requires (sym c.is_plain.ensures ∙ c.if-not-is_plain.false) (sym c.driver_of.ensures ∙ c.in-None.is)
      (sym c.has_hold.ensures ∙ not-true c.has_hold.result free),
  λ is. not_from_false c.has_hold.result (c.has_hold.ensures ∙ rootless_free c.args.circuit.now c.args.net.0 is),
)
