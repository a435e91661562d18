use Rattle.std.proofs.Common.{◌≡◌, drop, map}
use Rattle.text_lines.specs.Faults.{first_of}
use Rattle.blif_checks.specs.Subs.{sub_fault}
use Rattle.blif_checks.proofs.subs.judge_subs.Given as goal

-- no sub-model so far has a fault
abbrev pub invariant-loop-sub : goal.invariant-loop-sub
invariant-loop-sub l = first_of (map (sub_fault l.blif) (drop l.sub-index l.subs)) ≡ first_of (map (sub_fault l.blif) l.subs)
