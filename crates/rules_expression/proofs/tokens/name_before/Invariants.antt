use Rattle.std.proofs.Common.{◌≡◌, ◌≤◌, ◌++◌, ◌-◌, length, drop, take}
use Rattle.text_lines.specs.Groups.{up_to}
use Rattle.rules_expression.specs.Pieces.{ends_name}
use Rattle.rules_expression.proofs.tokens.name_before.Given as goal

-- no end so far
abbrev pub invariant-bytes : goal.invariant-bytes
invariant-bytes l = (l.at ≤ length l.text) × (take l.at l.text ++ up_to ends_name (drop l.at l.text) ≡ up_to ends_name l.text)

abbrev pub decreases-bytes : goal.decreases-bytes
decreases-bytes l = length l.text - l.at
