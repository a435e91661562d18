use Rattle.std.proofs.Common.{◌≡◌, map, take}
use Rattle.rule_index.specs.Tables.{supply_in}
use Rattle.flatten.specs.Walks.{tied_supply}
use Rattle.flatten.proofs.ties.tied_values.Given as goal

-- the nets so far
abbrev pub invariant-loop-net : goal.invariant-loop-net
invariant-loop-net l = l.tied ≡ map (tied_supply (supply_in l.supplies) l.ports l.values) (take l.net-index l.nets)
