-- The nets that cards name, how many names there are, and the names that are no nets of a cell's own.
use Rattle.std.specs.Prelude.{ℕ, ◌+◌, List, [], ◌∷◌, ◌++◌, Bool, not, cond, ◌&&◌, codes, flat_map, map}
use Rattle.names.specs.Names.{with_names}
use Rattle.vrt_model.specs.Lists.{has_name}
use Rattle.vrt_model.specs.declared.design.Cell.{Cell}
use Rattle.vrt_model.specs.declared.design.Design.{Design}
use Rattle.vrt_model.specs.declared.design.DeviceCard.{DeviceCard}
use Rattle.vrt_model.specs.declared.design.InstanceCard.{InstanceCard}
use Rattle.vrt_model.specs.declared.rules.Rules.{Rules}
use Rattle.vrt_model.specs.declared.rules.SupplyRule.{SupplyRule}

-- the nets that the card of a device names, in order
abbrev pub card_nets : DeviceCard → List (List ℕ)
card_nets card = card.drain ∷ card.gate ∷ card.source ∷ []

-- those that are tied to instances
abbrev pub tied : List InstanceCard → List (List ℕ)
tied instances = flat_map (λ (i : InstanceCard). i.nets) instances

-- those that the cards of devices and instances name
abbrev pub mentioned : List DeviceCard → List InstanceCard → List (List ℕ)
mentioned devices instances = flat_map card_nets devices ++ tied instances

-- how many names pass a test, each counted where it stands last
abbrev pub last_count : (List ℕ → Bool) → List (List ℕ) → ℕ
last_count test [] = 0
last_count test (x ∷ xs) = cond (test x && not (has_name xs x)) 1 0 + last_count test xs

-- `0` and the supplies that rules declare, the ports of a cell, and the global nets: each once
abbrev pub not_own : Design → Rules → Cell → List (List ℕ)
not_own design rules cell =
    with_names (with_names (with_names (codes "0" ∷ []) (map (λ (r : SupplyRule). r.net) rules.supplies)) cell.ports) design.globals
