use Rattle.std.proofs.Common.{◌≡◌, drop}
use Rattle.vrt_model.specs.Held.{held_in}
use Rattle.mode_lines.proofs.bits.held_bit.Given as goal

-- no group so far has the hold
abbrev pub invariant-loop-number : goal.invariant-loop-number
invariant-loop-number l =
    held_in l.at.circuit.now l.at.phase l.at.sources.now l.bits l.number (drop l.number l.at.groups.now) l.hold ≡ held_in l.at.circuit.now l.at.phase l.at.sources.now l.bits 0 l.at.groups.now l.hold
