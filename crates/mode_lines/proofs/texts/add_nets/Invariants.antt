use Rattle.std.proofs.Common.{◌≡◌, ◌++◌, length}
use Rattle.mode_lines.specs.Lines.{net_lines}
use Rattle.mode_lines.proofs.texts.add_nets.Given as goal

-- the lines so far, and those of the nets that are left
abbrev pub invariant-nets : goal.invariant-nets
invariant-nets l = l.lines ++ net_lines l.nets_left l.bare_left l.kept_left ≡ l.fn.lines ++ net_lines l.fn.nets l.fn.bare l.fn.kept

abbrev pub decreases-nets : goal.decreases-nets
decreases-nets l = length l.nets_left
