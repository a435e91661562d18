use Rattle.line_laws.proofs.LineLaws.{first_is}
use Rattle.line_laws.proofs.earliest_is_first.Goals as goal

pub returns : goal.returns
returns c = first_is
