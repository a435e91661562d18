use Rattle.substitution_laws.proofs.WholeRanges.{circuits_have_ranges}
use Rattle.substitution_laws.proofs.wholes.circuits_have_ranges.Goals as goal

pub returns : goal.returns
returns c = circuits_have_ranges
