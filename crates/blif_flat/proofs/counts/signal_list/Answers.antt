use Rattle.std.proofs.Common.{◌∙◌}
use Rattle.blif_flat.proofs.OnceLaws.{signals_once}
use Rattle.blif_flat.proofs.counts.signal_list.Goals as goal

pub returns : goal.returns
returns c = c.in_ok-list.ensures ∙ c.in_ok-names.ensures ∙ signals_once c.args.model.now
