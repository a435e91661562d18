use Rattle.std.proofs.Common.{◌∙◌}
use Rattle.prepared_tables.proofs.by_name.ModelNames.named.Goals as goal

pub returns : goal.returns
returns c = λ models are. c.first.ensures ∙ are.exact.first c.args.name.now
