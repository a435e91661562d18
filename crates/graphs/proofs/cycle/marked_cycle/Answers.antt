use Rattle.std.proofs.Common.{sym, ◌∙◌}
use Rattle.std.proofs.lemmas.Bool.{false≢true}
use Rattle.graphs.proofs.cycle.marked_cycle.Goals as goal

pub returns-then-not-is_marked-clause-none : goal.returns-then-not-is_marked-clause-none
returns-then-not-is_marked-clause-none c e others cycle =
    false≢true (sym c.if-not-is_marked.true ∙ c.is_marked.ensures ∙ c.requires.marks c.args.first others cycle)
