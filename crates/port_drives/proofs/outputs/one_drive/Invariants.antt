use Rattle.std.proofs.Common.{◌≡◌, length}
use Rattle.std.specs.Prelude.{filter}
use Rattle.port_drives.specs.Outputs.{is_at, one_drive, only_of}
use Rattle.port_drives.proofs.outputs.one_drive.Given as goal

-- what was found, with the outputs that are left
abbrev pub invariant-outputs : goal.invariant-outputs
invariant-outputs l = only_of l.found (filter (is_at l.net.0) l.rest) ≡ one_drive l.fn.told l.fn.net.0

abbrev pub decreases-outputs : goal.decreases-outputs
decreases-outputs l = length l.rest
