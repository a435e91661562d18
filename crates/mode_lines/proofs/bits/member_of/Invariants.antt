use Rattle.std.proofs.Common.{◌≡◌, drop}
use Rattle.std.specs.Prelude.{find, ◌==◌}
use Rattle.vrt_model.specs.declared.groups.Member.{Member}
use Rattle.mode_lines.proofs.bits.member_of.Given as goal

-- none so far
abbrev pub invariant-loop-member : goal.invariant-loop-member
invariant-loop-member l = find (λ (m : Member). m.hold == l.hold) (drop l.member-index l.group.members) ≡ find (λ (m : Member). m.hold == l.hold) l.group.members
