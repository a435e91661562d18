-- Counts of channels by levels, and the drives that bear them.
use Rattle.std.proofs.Common.{◌≡◌, ℕ, zero, suc, ◌+◌, ◌*◌, ◌<◌, ◌==◌, ◌||◌, Bool, true, false, List, [], ◌∷◌, length, arith, ap, refl, subst, sym, ◌∙◌, inl, inr}
use Rattle.std.specs.List.{list_all, slice_index}
use Rattle.std.proofs.lemmas.Bool.{and_from, and_parts, eq-eqb, eqb-true, false≢true, or_cases, or_left, or_right, cases_lt}
use Rattle.std.proofs.lemmas.Bool.Decides.{nat_tests}
use Rattle.vrt_model.proofs.Scales.{source_most}
use Rattle.vrt_model.specs.Levels.{IsDeviceLevel, level_counts}
use Rattle.whole_circuits.specs.Counts.{AreCounts, HaveLevels, bears, bears_all, bears_at, channels_of, is_of, bears_below}
use Rattle.vrt_model.proofs.Filtered.{among_kept, filter_among}
use Rattle.vrt_model.proofs.Members.{among_later, at_none}
use Rattle.vrt_model.proofs.Tables.{all_at}
use Rattle.vrt_model.proofs.Tests.{same_tests}
use Rattle.vrt_model.specs.Lists.{Among, is_empty}
use Rattle.vrt_model.specs.WholeInstances.{channels_at}
use Rattle.vrt_model.specs.declared.circuit.Circuit.{Circuit}
use Rattle.vrt_model.specs.declared.circuit.Device.{Device}
use Rattle.vrt_model.specs.declared.whole.Drive.{Drive}

-- ---- tests of lists

pub all_from : {X : Type 0} (test : X → Bool) (xs : List X) → ((x : X) → Among xs x → test x ≡ true) → list_all test xs ≡ true
all_from test [] h = refl
all_from test (x ∷ xs) h = and_from (test x) (list_all test xs) (h x (0, refl)) (all_from test xs (λ y m. h y (among_later x xs y m)))

-- an empty list has no item
pub none_there : {X : Type 0} (xs : List X) → is_empty xs ≡ (length xs == 0)
none_there [] = let zero_is : true ≡ (0 == 0) = grind (arith, nat_tests) in zero_is
none_there (x ∷ xs) = let more : false ≡ (suc (length xs) == 0) = grind (arith, nat_tests) in more

-- no item passes where none is to
pub none_borne : {X : Type 0} (xs : List X) → list_all (λ (x : X). false) xs ≡ is_empty xs
none_borne [] = refl
none_borne (x ∷ xs) = refl

pub some_there : {X : Type 0} (xs : List X) (x : X) → Among xs x → (length xs == 0) ≡ false
some_there [] x m = absurd (at_none m.0 x m.1)
some_there (y ∷ xs) x m = let more : (suc (length xs) == 0) ≡ false = grind (arith, nat_tests) in more

-- ---- drives

-- a level of a device is that of one of the counts
is_counted : (c : Circuit) (level : ℕ) → IsDeviceLevel c level → level < level_counts
is_counted c level range = let high = range.1 in let most = source_most c in omega (arith, high, most)

module _ (c : Circuit) (devices : List Device) (count : ℕ) (counts : List ℕ) (levels : HaveLevels c devices) (are : AreCounts count devices counts) (drive : Drive) (n : ℕ) (within : n < count) where
  abbrev at_net : Device → Bool
  at_net d = (d.left.0 == n) || (d.right.0 == n)

  abbrev borne : Device → Bool
  borne d = bears drive d.level

  abbrev Passes : ℕ → Type 0
  Passes k = bears_at counts drive n k ≡ true

  -- the counts below a level
  each : (top : ℕ) → bears_below counts drive n top ≡ true → (k : ℕ) → k < top → Passes k
  each zero e k lt = absurd (omega (arith, lt))
  each (suc top) e k lt =
      let both = and_parts (bears_below counts drive n top) (bears_at counts drive n top) e in
      elim (cases_lt k top) [
        | inl less ↦ each top both.0 k less
        | inr more ↦ (let same : top ≡ k = omega (arith, lt, more) in subst Passes same both.1)
      ]

  together : (top : ℕ) → ((k : ℕ) → k < top → Passes k) → bears_below counts drive n top ≡ true
  together zero pass = refl
  together (suc top) pass =
      and_from (bears_below counts drive n top) (bears_at counts drive n top) (together top (λ k lt. pass k (omega (arith, lt)))) (pass top (omega arith))

  -- a device there has its level counted
  to_device : ((k : ℕ) → k < level_counts → Passes k) → (d : Device) → Among (channels_at devices n) d → borne d ≡ true
  to_device pass d m =
      elim (or_cases (slice_index counts (level_counts * n + d.level) == 0) (bears drive d.level) (pass d.level low)) [
        | inl none ↦ absurd (false≢true (sym (ap (λ (x : ℕ). x == 0) (are n d.level within low) ∙ some_there (channels_of d.level devices n) d listed) ∙ none))
        | inr is ↦ is
      ]
    where
      from : Among devices d × (at_net d ≡ true)
      from = filter_among at_net devices d m

      low : d.level < level_counts
      low = is_counted c d.level (levels d from.0)

      listed : Among (channels_of d.level devices n) d
      listed = among_kept (is_of d.level n) devices d from.0 (and_from (at_net d) (d.level == d.level) from.1 (eq-eqb d.level d.level refl))

  -- a count has a device, or is 0
  to_count : list_all borne (channels_at devices n) ≡ true → (k : ℕ) → k < level_counts → Passes k
  to_count all k lt = by_list (channels_of k devices n) refl
    where
      by_list : (ds : List Device) → channels_of k devices n ≡ ds → Passes k
      by_list [] e =
          let zero_is : (0 == 0) ≡ true = grind (arith, nat_tests) in
          or_left (slice_index counts (level_counts * n + k) == 0) (bears drive k) (ap (λ (x : ℕ). x == 0) (are n k within lt ∙ ap (λ (ds : List Device). length ds) e) ∙ zero_is)
      by_list (d ∷ ds) e =
          let listed : Among (channels_of k devices n) d = subst (λ (xs : List Device). Among xs d) (sym e) (0, refl) in
          let from = filter_among (is_of k n) devices d listed in
          let both = and_parts (at_net d) (d.level == k) from.1 in
          or_right (slice_index counts (level_counts * n + k) == 0) (bears drive k)
          (subst (λ (level : ℕ). bears drive level ≡ true) (eqb-true d.level k both.1) (all_at borne (channels_at devices n) d all (among_kept at_net devices d from.0 both.0)))

  pub bears_is : bears_all counts drive n ≡ list_all borne (channels_at devices n)
  bears_is =
      same_tests (bears_all counts drive n) (list_all borne (channels_at devices n)) (λ e. all_from borne (channels_at devices n) (to_device (each level_counts e))) (λ e. together level_counts (to_count e))
