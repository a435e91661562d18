-- The keepers of a cell, while their names are gathered.
use Rattle.std.proofs.Common.{◌≡◌, ◌||◌, ℕ, List, Bool, true, false, Option, Some, refl, ap, ◌∙◌}
use Rattle.std.specs.Prelude.{bytes_eq, option_map, slice_get, unwrap_or}
use Rattle.vrt_model.specs.Lists.{has_name}
use Rattle.names.specs.Names.{with_name}
use Rattle.names.proofs.NameLaws.{bytes_eq-sym, with_front}
use Rattle.flat_devices.specs.DeviceTables.{kept_at}
use Rattle.vrt_model.specs.declared.rules.KeeperRule.{KeeperRule}

or_swap : (p q : Bool) → (p || q) ≡ (q || p)
or_swap true true = refl
or_swap true false = refl
or_swap false true = refl
or_swap false false = refl

-- the keeper of the rule at a place more
pub keeper_added : (rules : List KeeperRule) (place : ℕ) (rule : KeeperRule) (names new : List (List ℕ)) (name other : List ℕ) → Some rule ≡ slice_get rules place → new ≡ with_name names name → name ≡ rule.device
    → has_name new other ≡ (has_name names other || kept_at rules other place)
keeper_added rules place rule names new name other there e is =
    ap (λ (ns : List (List ℕ)). has_name ns other) (e ∙ ap (with_name names) is) ∙ with_front names rule.device other
    ∙ or_swap (bytes_eq other rule.device) (has_name names other)
    ∙ ap (λ (b : Bool). has_name names other || b) (bytes_eq-sym other rule.device)
    ∙ ap (λ (o : Option KeeperRule). has_name names other || unwrap_or (option_map (λ (r : KeeperRule). bytes_eq r.device other) o) false) there
