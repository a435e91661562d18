-- The nets of each cell that a rule declares to keep their charge.
use Rattle.std.specs.Prelude.{◌≡◌, ◌<◌, ℕ, List, [], Bool, false, ◌&&◌, ◌==◌, length, get_or, set, position, bytes_eq, None, Some}
use Rattle.std.specs.List.{list_any}
use Rattle.vrt_model.specs.Lists.{has_name}
use Rattle.names.specs.Names.{with_name}
use Rattle.vrt_model.specs.declared.rules.HoldRule.{HoldRule}

-- whether a name is that of the cell of a number
abbrev pub is_numbered : List (List ℕ) → ℕ → List ℕ → Bool
is_numbered cells n name = elim (position (bytes_eq name) cells) [ None ↦ false | Some k ↦ k == n ]

-- the sets with the net of one rule more
abbrev pub HasHeld : List (List ℕ) → HoldRule → List (List (List ℕ)) → List (List (List ℕ)) → Type 0
HasHeld cells rule sets sets' = sets' ≡ elim (position (bytes_eq rule.cell) cells) [ None ↦ sets | Some k ↦ set sets k (with_name (get_or sets k []) rule.net) ]

-- for each cell, by its number, the nets that rules name
pub record AreHeld (cells : List (List ℕ)) (rules : List HoldRule) (sets : List (List (List ℕ))) : Type 0 where
  pub count : length sets ≡ length cells
  pub each :
      (n : ℕ) (net : List ℕ) → n < length sets
      → has_name (get_or sets n []) net ≡ list_any (λ (r : HoldRule). is_numbered cells n r.cell && bytes_eq r.net net) rules
