use Rattle.replaced_cells.proofs.ObservedFaults.{observed_bits_show_faults}
use Rattle.replaced_cells.proofs.faults.observed_bits_show_faults.Goals as goal

pub returns : goal.returns
returns c = observed_bits_show_faults
