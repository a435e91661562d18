use Rattle.std.proofs.Common.{◌≡◌, false, drop}
use Rattle.model_writer.proofs.Backslash.{ends_from}
use Rattle.model_writer.proofs.refused.ends_with_backslash.Given as goal

-- the bytes that are left, behind the last that was met
abbrev pub invariant-loop-byte : goal.invariant-loop-byte
invariant-loop-byte l = ends_from l.ends (drop l.byte-index l.name) ≡ ends_from false l.name
