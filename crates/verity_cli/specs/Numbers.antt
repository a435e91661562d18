-- The numbers of the statuses.
use Rattle.std.specs.Prelude.{ℕ}
use Rattle.verity_run.specs.declared.status.Status.{Status}
use Rattle.verity_run.specs.declared.status.Status.TheVariants.{AllEqual, SomeFault, Usage, InputRefused, Undecided, ReadFault, WriteFault, NoMemory}

abbrev pub number_of : Status → ℕ
number_of AllEqual = 0
number_of SomeFault = 1
number_of Usage = 2
number_of InputRefused = 3
number_of Undecided = 4
number_of ReadFault = 5
number_of WriteFault = 6
number_of NoMemory = 7
