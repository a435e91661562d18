use Rattle.std.proofs.Common.{◌≡◌, ◌≤◌, ◌++◌, ◌-◌, length, drop, take}
use Rattle.blif_reader.specs.Models.{network_cards, own_cards}
use Rattle.blif_reader.proofs.build.cut_network.Given as goal

-- no network so far
abbrev pub invariant-cards : goal.invariant-cards
invariant-cards l =
    (l.at ≤ length l.body) × (take l.at l.body ++ own_cards (drop l.at l.body) ≡ own_cards l.body) × (network_cards (drop l.at l.body) ≡ network_cards l.body)

abbrev pub decreases-cards : goal.decreases-cards
decreases-cards l = length l.body - l.at
