use Rattle.std.proofs.Common.{sym, ◌∙◌}
use Rattle.model_writer.proofs.LengthLaws.{clocks_length}
use Rattle.model_writer.proofs.counts.clocks_length.Goals as goal

pub returns : goal.returns
returns c = c.in_ok-count.ensures ∙ sym (clocks_length c.args.clocks.now _ _ c.in-Some.ensures.cases.0)
