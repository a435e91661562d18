-- Levels and sizes of lines are in their ranges.
use Rattle.std.proofs.Common.{◌≡◌, ◌∷◌, ◌≤◌, ◌<◌, ◌+◌, ◌-◌, ◌==◌, ◌&&◌, ◌||◌, nat_le, not, [], ℕ, List, Bool, true, false, cond, map, Option, Some, None, option_map, codes, bytes_eq, refl, arith, inl, inr}
use Rattle.std.specs.List.{list_all}
use Rattle.std.proofs.lemmas.Bool.{and_parts, leb-true}
use Rattle.text_lines.specs.Bytes.{lowered}
use Rattle.vrt_model.specs.Levels.{IsDeviceLevelAt, IsHoldSizeAt, IsScale, fine_scale, least_at, source_at, usual_scale}
use Rattle.vrt_model.specs.Lists.{is_empty}
use Rattle.rules_lines.specs.Lines.{assume_entry, clock_entry, clocked_entry, clockport_entry, defaultclock_entry, device_by, device_entry, enter_entry, entry_by, entry_of, has_equals, hold_entry, keeper_entry, match_by, match_entry, observe_entry, pair_entry, phase_entry, port_entry, scale_entry, strength_entry, supply_entry}
use Rattle.rules_lines.specs.Words.{bit_of, cut_first, digit_in, fine_level, kind_of, level_of, size_of, usual_level, usual_size}
use Rattle.rules_lines.specs.declared.entry.ByScale.{ByScale}
use Rattle.rules_lines.specs.declared.entry.Entry.{Entry}
use Rattle.rules_lines.specs.declared.entry.Entry.TheVariants.{ScaleLine, SupplyLine, DeviceLine, StrengthLine, HoldLine}
use Rattle.vrt_model.specs.declared.design.Kind.{Kind}

abbrev pub InRange : ℕ → ℕ → Option ℕ → Type 0
InRange least greatest None = Unit {0}
InRange least greatest (Some n) = (least ≤ n) × (n ≤ greatest)

-- a number that is there is of this kind
abbrev pub IfThere : (ℕ → Type 0) → Option ℕ → Type 0
IfThere Is None = Unit {0}
IfThere Is (Some n) = Is n

-- a level and a size at both scales
abbrev pub IsLevelByScale : ByScale → Type 0
IsLevelByScale level = IfThere (IsDeviceLevelAt usual_scale) level.eight × IfThere (IsDeviceLevelAt fine_scale) level.sixteen

abbrev pub IsSizeByScale : ByScale → Type 0
IsSizeByScale size = IfThere (IsHoldSizeAt usual_scale) size.eight × IfThere (IsHoldSizeAt fine_scale) size.sixteen

abbrev pub Ranged : Entry → Type 0
Ranged (ScaleLine scale) = IsScale scale
Ranged (DeviceLine model kind level) = IsLevelByScale level
Ranged (StrengthLine cell device level) = IsLevelByScale level
Ranged (HoldLine cell net size) = IsSizeByScale size
Ranged entry = Unit {0}

abbrev pub Said : Option Entry → Type 0
Said None = Unit {0}
Said (Some entry) = Ranged entry

digit_range : (least greatest b : ℕ) → InRange least greatest (cond (nat_le (48 + least) b && nat_le b (48 + greatest)) (Some (b - 48)) None)
digit_range least greatest b = by_test (nat_le (48 + least) b && nat_le b (48 + greatest)) refl where
  by_test : (t : Bool) → (nat_le (48 + least) b && nat_le b (48 + greatest)) ≡ t → InRange least greatest (cond t (Some (b - 48)) None)
  by_test false e = tt
  by_test true e =
      let both = and_parts (nat_le (48 + least) b) (nat_le b (48 + greatest)) e in
      let low : 48 + least ≤ b = leb-true (48 + least) b both.0 in
      let high : b ≤ 48 + greatest = leb-true b (48 + greatest) both.1 in
      (omega (arith, low), omega (arith, high))

in_range : (least greatest : ℕ) (word : List ℕ) → InRange least greatest (digit_in least greatest word)
in_range least greatest [] = tt
in_range least greatest (b ∷ []) = digit_range least greatest b
in_range least greatest (b ∷ c ∷ bs) = tt

in_wider : (low high least greatest : ℕ) (o : Option ℕ) → least ≤ low → high ≤ greatest → InRange low high o → InRange least greatest o
in_wider low high least greatest None l h r = tt
in_wider low high least greatest (Some n) l h r = let from = r.0 in let to = r.1 in (omega (arith, l, from), omega (arith, h, to))

fine_range : (word : List ℕ) → InRange 6 14 (fine_level word)
fine_range [] = tt
fine_range (b ∷ []) = in_wider 6 9 6 14 (digit_in 6 9 (b ∷ [])) (omega arith) (omega arith) (in_range 6 9 (b ∷ []))
fine_range (b ∷ c ∷ d ∷ bs) = tt
fine_range (b ∷ c ∷ []) = by_test (b == 49) (digit_in 0 4 (c ∷ [])) (in_range 0 4 (c ∷ [])) where
  by_test : (t : Bool) (o : Option ℕ) → InRange 0 4 o → InRange 6 14 (cond t (option_map (λ n. 10 + n) o) None)
  by_test false o r = tt
  by_test true None r = tt
  by_test true (Some n) r = let to = r.1 in (omega arith, omega (arith, to))

-- numbers of a range within that of a scale
level_there : (scale least greatest : ℕ) (o : Option ℕ) → least_at scale ≤ least → greatest < source_at scale → InRange least greatest o → IfThere (IsDeviceLevelAt scale) o
level_there scale least greatest None low high range = tt
level_there scale least greatest (Some n) low high range = let from = range.0 in let to = range.1 in (omega (arith, low, from), omega (arith, high, to))

size_there : (scale greatest : ℕ) (o : Option ℕ) → greatest < least_at scale → InRange 1 greatest o → IfThere (IsHoldSizeAt scale) o
size_there scale greatest None high range = tt
size_there scale greatest (Some n) high range = (range.0, (let to = range.1 in omega (arith, high, to)))

level_range : (word : List ℕ) → IsLevelByScale (level_of word)
level_range word = (
  level_there usual_scale 4 7 (digit_in 4 7 word) (omega arith) (omega arith) (in_range 4 7 word),
  level_there fine_scale 6 14 (fine_level word) (omega arith) (omega arith) (fine_range word),
)

usual_level_range : IsLevelByScale usual_level
usual_level_range = ((omega arith, omega arith), (omega arith, omega arith))

size_range : (word : List ℕ) → IsSizeByScale (size_of word)
size_range word = (
  size_there usual_scale 3 (digit_in 1 3 word) (omega arith) (in_range 1 3 word),
  size_there fine_scale 5 (digit_in 1 5 word) (omega arith) (in_range 1 5 word),
)

usual_size_range : IsSizeByScale usual_size
usual_size_range = ((omega arith, omega arith), (omega arith, omega arith))

either : (b : Bool) (x y : Option Entry) → Said x → Said y → Said (cond b x y)
either true x y p q = p
either false x y p q = q

says_scale : (words : List (List ℕ)) → Said (scale_entry words)
says_scale (word ∷ []) = by_tests (bytes_eq word (codes "8")) (bytes_eq word (codes "16")) where
  by_tests : (a b : Bool) → Said (option_map ScaleLine (cond a (Some usual_scale) (cond b (Some fine_scale) None)))
  by_tests true b = inl refl
  by_tests false true = inr refl
  by_tests false false = tt
says_scale words = tt

says_nets : (nets : List (List ℕ)) (o : Option Bool) → Said (option_map (λ v. SupplyLine v nets) o)
says_nets nets None = tt
says_nets nets (Some v) = tt

says_supply : (words : List (List ℕ)) → Said (supply_entry words)
says_supply [] = tt
says_supply (value ∷ nets) = either (is_empty nets) None _ tt (says_nets (map lowered nets) (bit_of value))

says_device_by : (model : List ℕ) (kind : Option Kind) (level : ByScale) → IsLevelByScale level → Said (device_by model kind level)
says_device_by model None level r = tt
says_device_by model (Some kind) level r = r

says_device : (words : List (List ℕ)) → Said (device_entry words)
says_device (model ∷ kind ∷ []) = says_device_by model (kind_of kind) usual_level usual_level_range
says_device (model ∷ kind ∷ level ∷ []) = says_device_by model (kind_of kind) (level_of level) (level_range level)
says_device words = tt

says_strength : (words : List (List ℕ)) → Said (strength_entry words)
says_strength (cell ∷ device ∷ level ∷ []) = level_range level
says_strength words = tt

says_clock : (words : List (List ℕ)) → Said (clock_entry words)
says_clock words = either (is_empty words) None _ tt tt

says_phase : (words : List (List ℕ)) → Said (phase_entry words)
says_phase [] = tt
says_phase (name ∷ bits) = either (is_empty bits || not (list_all has_equals bits)) None _ tt tt

says_clockport : (words : List (List ℕ)) → Said (clockport_entry words)
says_clockport (cell ∷ port ∷ clock ∷ []) = tt
says_clockport words = tt

says_defaultclock : (words : List (List ℕ)) → Said (defaultclock_entry words)
says_defaultclock (clock ∷ []) = tt
says_defaultclock words = tt

says_pair : (words : List (List ℕ)) → Said (pair_entry words)
says_pair (cell ∷ model ∷ []) = tt
says_pair words = tt

says_port : (words : List (List ℕ)) → Said (port_entry words)
says_port (cell ∷ port ∷ signal ∷ []) = tt
says_port words = tt

says_hold : (words : List (List ℕ)) → Said (hold_entry words)
says_hold (cell ∷ net ∷ []) = usual_size_range
says_hold (cell ∷ net ∷ size ∷ []) = size_range size
says_hold words = tt

says_keeper : (words : List (List ℕ)) → Said (keeper_entry words)
says_keeper [] = tt
says_keeper (cell ∷ devices) = either (is_empty devices) None _ tt tt

says_match_by : (cell place : List ℕ) (cut : Option (List ℕ × List ℕ)) (latch : List ℕ) → Ranged (match_by cell place cut latch)
says_match_by cell place None latch = tt
says_match_by cell place (Some cut) latch = tt

says_match : (words : List (List ℕ)) → Said (match_entry words)
says_match (cell ∷ place ∷ latch ∷ []) = says_match_by cell place (cut_first 58 place) latch
says_match words = tt

says_enter : (words : List (List ℕ)) → Said (enter_entry words)
says_enter (cell ∷ phase ∷ net ∷ bit ∷ []) = tt
says_enter words = tt

says_observe : (words : List (List ℕ)) → Said (observe_entry words)
says_observe (cell ∷ port ∷ phases) = either (is_empty phases) None _ tt tt
says_observe words = tt

says_assume : (words : List (List ℕ)) → Said (assume_entry words)
says_assume (cell ∷ phase ∷ words) = either (is_empty words) None _ tt tt
says_assume words = tt

says_clocked : (word : List ℕ) (rest : List (List ℕ)) → Said (clocked_entry word rest)
says_clocked word rest =
    either (bytes_eq word (codes "clock")) _ _ (says_clock rest)
    (either (bytes_eq word (codes "phase")) _ _ (says_phase rest)
    (either (bytes_eq word (codes "clockport")) _ _ (says_clockport rest)
    (either (bytes_eq word (codes "defaultclock")) _ _ (says_defaultclock rest)
    (either (bytes_eq word (codes "enter")) _ _ (says_enter rest)
    (either (bytes_eq word (codes "observe")) _ _ (says_observe rest)
    (either (bytes_eq word (codes "assume")) _ None (says_assume rest) tt))))))

says_by : (word : List ℕ) (rest : List (List ℕ)) → Said (entry_by word rest)
says_by word rest =
    either (bytes_eq word (codes "scale")) _ _ (says_scale rest)
    (either (bytes_eq word (codes "supply")) _ _ (says_supply rest)
    (either (bytes_eq word (codes "device")) _ _ (says_device rest)
    (either (bytes_eq word (codes "strength")) _ _ (says_strength rest)
    (either (bytes_eq word (codes "pair")) _ _ (says_pair rest)
    (either (bytes_eq word (codes "port")) _ _ (says_port rest)
    (either (bytes_eq word (codes "hold")) _ _ (says_hold rest)
    (either (bytes_eq word (codes "keeper")) _ _ (says_keeper rest)
    (either (bytes_eq word (codes "match")) _ _ (says_match rest) (says_clocked word rest)))))))))

-- each line
pub says_of : (words : List (List ℕ)) → Said (entry_of words)
unfolding entry_of
says_of [] = tt
says_of (word ∷ rest) = says_by word rest
