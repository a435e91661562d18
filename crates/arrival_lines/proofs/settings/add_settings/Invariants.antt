use Rattle.std.proofs.Common.{◌≡◌, ◌++◌, length}
use Rattle.arrival_lines.specs.Settings.{settings_behind}
use Rattle.arrival_lines.proofs.settings.add_settings.Given as goal

-- the text so far, and what is left
abbrev pub invariant-variables : goal.invariant-variables
invariant-variables l = l.text ++ settings_behind l.names_left l.bits_left ≡ l.fn.text ++ settings_behind l.fn.names l.fn.bits

abbrev pub decreases-variables : goal.decreases-variables
decreases-variables l = length l.names_left
