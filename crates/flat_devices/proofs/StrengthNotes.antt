-- The levels of the transistors of a cell, while they are noted by the places of their rules.
use Rattle.std.proofs.Common.{◌≡◌, ◌<◌, ◌≤◌, ◌+◌, ◌∷◌, ◌&&◌, [], ℕ, List, Bool, true, false, cond, map, filter, length, get_or, drop, Option, Some, None, refl, ap, ap₂, sym, ◌∙◌}
use Rattle.std.specs.Prelude.{bytes_eq, find, option_and_then, option_map, slice_get}
use Rattle.std.specs.List.{list_any}
use Rattle.std.specs.Option.{option_or}
use Rattle.std.proofs.lemmas.List.{drop_all, drop_more}
use Rattle.std.proofs.lemmas.Option.{same_Some}
use Rattle.rule_index.proofs.FirstNotes.{or_none}
use Rattle.rule_index.proofs.PlacedLaws.{any_placed}
use Rattle.rule_index.specs.Firsts.{value_in}
use Rattle.rule_index.specs.Lines.{AreDeviceLines, places_in}
use Rattle.rule_index.specs.declared.lines.DeviceLines.{DeviceLines}
use Rattle.flat_devices.specs.DeviceTables.{AreDevices, declared_level, first_some, kept_at, level_at, level_if}
use Rattle.flat_devices.specs.declared.device_tables.DeviceTable.{DeviceTable}
use Rattle.vrt_model.specs.Levels.{usual_level}
use Rattle.vrt_model.specs.Lists.{has_name}
use Rattle.vrt_model.specs.declared.rules.KeeperRule.{KeeperRule}
use Rattle.vrt_model.specs.declared.rules.Rules.{Rules}
use Rattle.vrt_model.specs.declared.rules.StrengthRule.{StrengthRule}

-- ---- one rule

-- the rule at a place is noted
pub level_noted : (rules : List StrengthRule) (place : ℕ) (rule : StrengthRule) (name other : List ℕ) (old new : Option ℕ) → Some rule ≡ slice_get rules place → name ≡ rule.device
    → new ≡ option_or old (cond (bytes_eq name other) (Some rule.level) None) → new ≡ option_or old (level_at rules other place)
level_noted rules place rule name other old new there is e =
    e ∙ ap (λ (n : List ℕ). option_or old (cond (bytes_eq n other) (Some rule.level) None)) is
    ∙ ap (λ (o : Option StrengthRule). option_or old (option_and_then (level_if other) o)) there

-- there is none at the place
pub level_kept : (rules : List StrengthRule) (place : ℕ) (other : List ℕ) (old : Option ℕ) → None ≡ slice_get rules place → old ≡ option_or old (level_at rules other place)
level_kept rules place other old none =
    sym (or_none old) ∙ ap (λ (o : Option StrengthRule). option_or old (option_and_then (level_if other) o)) none

-- ---- all places

-- one place more: what is noted, and else what the rest says, is what all say
pub noted_place : (level : List ℕ → ℕ → Option ℕ) (places : List ℕ) (i : ℕ) (old new all : List ℕ → Option ℕ) → i < length places
    → ((n : List ℕ) → new n ≡ option_or (old n) (level n (get_or places i 0)))
    → ((n : List ℕ) → option_or (old n) (first_some (level n) (drop i places)) ≡ all n)
    → (n : List ℕ) → option_or (new n) (first_some (level n) (drop (i + 1) places)) ≡ all n
noted_place level places i old new all lt e so_far n =
    ap (λ (o : Option ℕ). option_or o (first_some (level n) (drop (i + 1) places))) (e n)
    ∙ turn (old n) (level n (get_or places i 0)) (first_some (level n) (drop (i + 1) places))
    ∙ ap (λ (ps : List ℕ). option_or (old n) (first_some (level n) ps)) (sym (drop_more places i 0 lt))
    ∙ so_far n where
      turn : (a b c : Option ℕ) → option_or (option_or a b) c ≡ option_or a (option_or b c)
      turn None b c = refl
      turn (Some x) b c = refl

-- no place is left
pub noted_places : (level : List ℕ → ℕ → Option ℕ) (places : List ℕ) (i : ℕ) (now all : List ℕ → Option ℕ) → length places ≤ i
    → ((n : List ℕ) → option_or (now n) (first_some (level n) (drop i places)) ≡ all n) → (n : List ℕ) → now n ≡ all n
noted_places level places i now all past so_far n =
    sym (or_none (now n)) ∙ sym (ap (λ (ps : List ℕ). option_or (now n) (first_some (level n) ps)) (drop_all i places past)) ∙ so_far n

-- ---- the rules of a cell

-- the first of the rules at places is the first of these rules
firsts_at : (f : ℕ → Option StrengthRule) (h : StrengthRule → Option ℕ) (places : List ℕ) (own : List StrengthRule) → map f places ≡ map Some own
    → first_some (λ (p : ℕ). option_and_then h (f p)) places ≡ first_some h own
firsts_at f h [] [] e = refl
firsts_at f h [] (r ∷ own) e = cc
firsts_at f h (p ∷ places) [] e = cc
firsts_at f h (p ∷ places) (r ∷ own) e =
    let here : f p ≡ Some r = same_Some (f p) (Some r) (ap (λ (os : List (Option StrengthRule)). slice_get os 0) e) in
    ap₂ (λ (o : Option StrengthRule) (x : Option ℕ). option_or (option_and_then h o) x) here
    (firsts_at f h places own (ap (λ (os : List (Option StrengthRule)). drop 1 os) e))

-- the first rule of the cell that is of the device
firsts_of : (cell device : List ℕ) (rules : List StrengthRule) → first_some (level_if device) (filter (λ (r : StrengthRule). bytes_eq r.cell cell) rules) ≡ declared_level rules cell device
firsts_of cell device [] = refl
firsts_of cell device (r ∷ rules) = by_cell (bytes_eq r.cell cell) (firsts_of cell device rules) where
  own : List StrengthRule
  own = filter (λ (q : StrengthRule). bytes_eq q.cell cell) rules

  rest : Option StrengthRule
  rest = find (λ (q : StrengthRule). bytes_eq q.cell cell && bytes_eq q.device device) rules

  by_device : (b : Bool) → first_some (level_if device) own ≡ option_map (λ (q : StrengthRule). q.level) rest
      → option_or (cond b (Some r.level) None) (first_some (level_if device) own) ≡ option_map (λ (q : StrengthRule). q.level) (cond b (Some r) rest)
  by_device true e = refl
  by_device false e = e

  by_cell : (b : Bool) → first_some (level_if device) own ≡ option_map (λ (q : StrengthRule). q.level) rest
      → first_some (level_if device) (cond b (r ∷ own) own) ≡ option_map (λ (q : StrengthRule). q.level) (cond (b && bytes_eq r.device device) (Some r) rest)
  by_cell true e = by_device (bytes_eq r.device device) e
  by_cell false e = e

-- the table of the devices of a cell
pub devices_noted : (rules : Rules) (lines : DeviceLines) (cell : List ℕ) (strong kept : List ℕ) (table : DeviceTable) → AreDeviceLines rules lines → table.usual ≡ usual_level rules
    → strong ≡ places_in lines.strengths cell → kept ≡ places_in lines.keepers cell
    → ((device : List ℕ) → value_in table.strengths device ≡ first_some (level_at rules.strengths device) strong)
    → ((device : List ℕ) → has_name table.keepers device ≡ list_any (kept_at rules.keepers device) kept) → AreDevices rules cell table
devices_noted rules lines cell strong kept table are usual s k by_strength by_keeper = record {
  usual_is = usual;
  strengths_are = λ device.
      by_strength device ∙ ap (first_some (level_at rules.strengths device)) s
      ∙ firsts_at (slice_get rules.strengths) (level_if device) (places_in lines.strengths cell) (filter (λ (r : StrengthRule). bytes_eq r.cell cell) rules.strengths) (are.strengths cell)
      ∙ firsts_of cell device rules.strengths;
  keepers_are = λ device.
      by_keeper device ∙ ap (list_any (kept_at rules.keepers device)) k
      ∙ any_placed (λ (r : KeeperRule). r.cell) (λ (r : KeeperRule). bytes_eq r.device device) rules.keepers (places_in lines.keepers cell) cell (are.keepers cell);
}
