use Rattle.substitution_laws.proofs.WholeRanges.{cuts_have_ranges}
use Rattle.substitution_laws.proofs.wholes.cuts_have_ranges.Goals as goal

pub returns : goal.returns
returns c = cuts_have_ranges
