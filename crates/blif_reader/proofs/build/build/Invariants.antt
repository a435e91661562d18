use Rattle.std.proofs.Common.{◌≡◌, ◌≤◌, ◌++◌, ◌-◌, length, drop, map}
use Rattle.text_lines.specs.Groups.{groups}
use Rattle.blif_reader.specs.Models.{begins_model, ends_model, model_of}
use Rattle.blif_reader.proofs.build.build.Given as goal

-- the models so far, and those of the rest
abbrev pub invariant-cards : goal.invariant-cards
invariant-cards l =
    (l.at ≤ length l.cards)
    × (l.models ++ map model_of (groups begins_model ends_model (drop l.at l.cards)) ≡ map model_of (groups begins_model ends_model l.cards))

abbrev pub decreases-cards : goal.decreases-cards
decreases-cards l = length l.cards - l.at
