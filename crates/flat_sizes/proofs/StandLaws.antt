-- Lists of the cells that stand in a cell, each so often.
use Rattle.std.proofs.Common.{◌≡◌, ◌<◌, ◌≤◌, ◌+◌, ◌*◌, ◌∷◌, [], ℕ, zero, suc, List, Option, length, get_or, drop, IsPermutation, refl, ap, ap₂, sym, ◌∙◌, arith}
use Rattle.std.specs.Prelude.{slice_set, unwrap_or}
use Rattle.std.proofs.Math.Nat.{mul-add, mul-zero}
use Rattle.std.proofs.lemmas.List.{drop_all}
use Rattle.std.proofs.lemmas.List.Sorted.{sum_by-IsPermutation}
use Rattle.std.proofs.lemmas.List.Sums.{sum_by-cons, sum_by-drop_more}
use Rattle.flat_sizes.proofs.Tallies.{Adding, IsDown, IsTally, Tally, card_added, card_step, four, later, level_done, level_down, level_last, more_there, none_more}
use Rattle.flat_sizes.specs.Totals.{Adds, AddsAll, AddsOne, AddsStands, AreInside, AreNumbered, CountAlike, DescendsFrom, IsDirectlyIn, below, inside, over, stood, within}
use Rattle.flat_sizes.specs.declared.stands.Stand.{Stand}
use Rattle.rule_index.specs.Firsts.{value_in}
use Rattle.name_tables.specs.declared.firsts.FirstValues.{FirstValues}
use Rattle.vrt_model.specs.Unsupported.{carried}
use Rattle.vrt_model.specs.declared.design.Design.{Design}
use Rattle.vrt_model.specs.declared.design.InstanceCard.{InstanceCard}

-- what a stand counts
abbrev share : (ℕ → ℕ) → Stand → ℕ
share weight s = s.count * weight s.cell

stood_more : (weight : ℕ → ℕ) (s : Stand) (stands : List Stand) → stood weight (s ∷ stands) ≡ s.count * weight s.cell + stood weight stands
stood_more weight s stands = sum_by-cons (share weight) s stands

stood_sum : (f g : ℕ → ℕ) (stands : List Stand) → stood (λ k. f k + g k) stands ≡ stood f stands + stood g stands
stood_sum f g [] = refl
stood_sum f g (s ∷ stands) =
    stood_more (λ k. f k + g k) s stands ∙ ap₂ ◌+◌ (mul-add s.count (f s.cell) (g s.cell)) (stood_sum f g stands)
    ∙ four (s.count * f s.cell) (s.count * g s.cell) (stood f stands) (stood g stands)
    ∙ sym (ap₂ ◌+◌ (stood_more f s stands) (stood_more g s stands))

stood_none : (stands : List Stand) → stood (λ k. 0) stands ≡ 0
stood_none [] = refl
stood_none (s ∷ stands) = stood_more (λ k. 0) s stands ∙ none_more _ _ (mul-zero s.count) (stood_none stands)

abbrev pub tally_of : List Stand → Tally
tally_of stands weight = stood weight stands

pub is_tally : (stands : List Stand) → IsTally (tally_of stands)
is_tally stands = record { sum = λ f g. stood_sum f g stands; none = stood_none stands }

-- ---- one more

-- one that is there stands so often more
pub grown : (stands : List Stand) (at k count new : ℕ) (d : Stand) → at < length stands → (get_or stands at d).cell ≡ k → new ≡ carried ((get_or stands at d).count + count)
    → AddsOne k count stands (slice_set stands at (record { cell = k; count = new }))
grown [] at k count new d lt same e weight = absurd (omega (arith, lt))
grown (s ∷ stands) zero k count new d lt same e weight =
    ap carried (stood_more weight (record { cell = k; count = new }) stands) ∙ more_there s.count count new (weight k) (stood weight stands) e
    ∙ ap (λ (n : ℕ). carried (n + count * weight k)) (ap (λ (cell : ℕ). s.count * weight cell + stood weight stands) (sym same) ∙ sym (stood_more weight s stands))
grown (s ∷ stands) (suc at) k count new d lt same e weight =
    ap carried (stood_more weight s (slice_set stands at (record { cell = k; count = new })))
    ∙ later (s.count * weight s.cell) (stood weight (slice_set stands at (record { cell = k; count = new }))) (stood weight stands) (count * weight k)
    (grown stands at k count new d (omega (arith, lt)) same e weight)
    ∙ ap (λ (n : ℕ). carried (n + count * weight k)) (sym (stood_more weight s stands))

end_step : (a b t : ℕ) → b ≡ 0 → carried (a + b) ≡ carried t → carried a ≡ carried t
end_step a b t e f = omega (arith, e, f)

-- ---- the cells of instances

pub card_stands : (design : Design) (cells : FirstValues ℕ) → AreNumbered design cells
    → (cards : List InstanceCard) (count i cell : ℕ) (card : InstanceCard) (first old new : List Stand) → i < length cards → card ≡ get_or cards i card → cell ≡ unwrap_or (value_in cells card.cell) 0
    → AddsOne cell count old new → Adding design cards count (tally_of first) (tally_of old) (drop i cards) → Adding design cards count (tally_of first) (tally_of new) (drop (i + 1) cards)
card_stands design cells numbered cards count i cell card first old new lt is number adds =
    card_added design cards count i card (tally_of first) (tally_of old) (tally_of new) lt is
    (λ weight. adds weight ∙ ap (λ (k : ℕ). carried (stood weight old + count * weight k)) (number ∙ ap (λ (o : Option ℕ). unwrap_or o 0) (numbered card.cell)))

pub cards_stand : (design : Design) (cards : List InstanceCard) (count i : ℕ) (old now : List Stand) → length cards ≤ i → Adding design cards count (tally_of old) (tally_of now) (drop i cards)
    → Adds design cards count old now
cards_stand design cards count i old now end so_far weight =
    end_step (stood weight now) (count * over design weight (drop i cards)) _
    (ap (λ (left : List InstanceCard). count * over design weight left) (drop_all i cards end) ∙ mul-zero count) (so_far weight)

-- ---- one after the other

-- what is added, with what the stands that are left add, is what all add; `counted` says what a stand adds, by what each cell counts
abbrev pub AddingEach : ((ℕ → ℕ) → ℕ → ℕ) → List Stand → List Stand → List Stand → List Stand → Type 0
AddingEach counted stands old now left = (weight : ℕ → ℕ) → carried (stood weight now + stood (counted weight) left) ≡ carried (stood weight old + stood (counted weight) stands)

pub each_added : (counted : (ℕ → ℕ) → ℕ → ℕ) (stands : List Stand) (i : ℕ) (s d : Stand) (first old new : List Stand) → i < length stands → s ≡ get_or stands i d
    → ((weight : ℕ → ℕ) → carried (stood weight new) ≡ carried (stood weight old + s.count * counted weight s.cell))
    → AddingEach counted stands first old (drop i stands) → AddingEach counted stands first new (drop (i + 1) stands)
each_added counted stands i s d first old new lt is adds so_far weight =
    let n : stood (counted weight) (drop i stands) ≡ s.count * counted weight s.cell + stood (counted weight) (drop (i + 1) stands) =
    sum_by-drop_more (share (counted weight)) stands i d lt ∙ ap (λ (x : Stand). share (counted weight) x + stood (counted weight) (drop (i + 1) stands)) (sym is) in
    card_step (stood weight old) (stood weight new) (stood (counted weight) (drop i stands)) (s.count * counted weight s.cell) (stood (counted weight) (drop (i + 1) stands)) _ (adds weight) n (so_far weight)

pub each_done : (counted : (ℕ → ℕ) → ℕ → ℕ) (stands : List Stand) (i : ℕ) (old now : List Stand) → length stands ≤ i → AddingEach counted stands old now (drop i stands)
    → (weight : ℕ → ℕ) → carried (stood weight now) ≡ carried (stood weight old + stood (counted weight) stands)
each_done counted stands i old now end so_far weight =
    end_step (stood weight now) (stood (counted weight) (drop i stands)) _ (ap (stood (counted weight)) (drop_all i stands end)) (so_far weight)

-- ---- each cell once

nothing_yet : (n : ℕ) → 0 + n ≡ n
nothing_yet n = omega arith

pub merged_are : (stands sorted once : List Stand) → IsPermutation stands sorted → AddsStands sorted [] once → CountAlike stands once
merged_are stands sorted once moved added weight =
    added weight ∙ ap carried (nothing_yet (stood weight sorted)) ∙ ap carried (sum_by-IsPermutation (share weight) stands sorted moved)

pub directly_in : (design : Design) (level added next : List Stand) → AddsAll design level [] added → CountAlike added next → IsDirectlyIn design level next
directly_in design level added next adds same weight = same weight ∙ adds weight ∙ ap carried (nothing_yet (stood (below design weight) level))

-- ---- level by level

-- what is added so far, with what stands in a level at most so deep, is what stands in the first
abbrev pub IsStoodDown : Design → ℕ → List Stand → List Stand → List Stand → Type 0
IsStoodDown design depth first all level = IsDown design depth (λ weight. stood (inside design weight) first) (tally_of all) (tally_of level)

pub stood_first : (design : Design) (first : List Stand) → IsStoodDown design 32 first [] first
unfolding inside
stood_first design first weight = ap carried (nothing_yet (stood (within design weight 32) first))

with_level : (a b n l : ℕ) → carried a ≡ carried (b + n) → carried n ≡ carried l → carried a ≡ carried (b + l)
with_level a b n l e f = omega (arith, e, f)

pub stood_down : (design : Design) (first : List Stand) (depth below_it : ℕ) (all new level next : List Stand) → depth ≡ suc below_it → IsDirectlyIn design level next → AddsStands next all new
    → IsStoodDown design depth first all level → IsStoodDown design below_it first new next
stood_down design first depth d all new level next e directly adds =
    level_down design depth d (λ weight. stood (inside design weight) first) (tally_of all) (tally_of new) (tally_of level) (tally_of next) e (is_tally next) directly
    (λ weight. with_level (stood weight new) (stood weight all) (stood weight next) (stood (below design weight) level) (adds weight) (directly weight))

pub stood_last : (design : Design) (first : List Stand) (depth : ℕ) (all level : List Stand) → depth ≡ 0 → IsStoodDown design depth first all level → DescendsFrom design first all
stood_last design first depth all level e = level_last design depth (λ weight. stood (inside design weight) first) (tally_of all) (tally_of level) (is_tally level) e

pub stood_empty : (design : Design) (first : List Stand) (depth : ℕ) (all level : List Stand) → level ≡ [] → IsStoodDown design depth first all level → DescendsFrom design first all
stood_empty design first depth all level e =
    level_done design depth (λ weight. stood (inside design weight) first) (tally_of all) (tally_of level) (λ weight. ap (stood (within design weight depth)) e)

one_step : (a b l x : ℕ) → carried a ≡ carried b → carried b ≡ carried l → carried l ≡ carried (0 + 1 * x) → carried a ≡ carried x
one_step a b l x e f g = omega (arith, e, f, g)

-- what stands in a cell that stands once
pub stands_are : (design : Design) (k : ℕ) (first all stands : List Stand) → AddsOne k 1 [] first → DescendsFrom design first all → CountAlike all stands → AreInside design k stands
stands_are design k first all stands one descends same weight =
    one_step (stood weight stands) (stood weight all) (stood (inside design weight) first) (inside design weight k) (same weight) (descends weight) (one (inside design weight))

-- ---- sums

abbrev pub Summing : (ℕ → ℕ) → List Stand → ℕ → ℕ → Type 0
Summing weight stands sum i = carried (sum + stood weight (drop i stands)) ≡ carried (stood weight stands)

sum_step : (sum new n p q t : ℕ) → new ≡ carried (sum + carried p) → n ≡ p + q → carried (sum + n) ≡ carried t → carried (new + q) ≡ carried t
sum_step sum new n p q t e f g = omega (arith, e, f, g)

pub one_summed : (weight : ℕ → ℕ) (stands : List Stand) (i : ℕ) (s d : Stand) (sum more new : ℕ) → i < length stands → s ≡ get_or stands i d → more ≡ carried (s.count * weight s.cell)
    → new ≡ carried (sum + more) → Summing weight stands sum i → Summing weight stands new (i + 1)
one_summed weight stands i s d sum more new lt is e f so_far =
    sum_step sum new (stood weight (drop i stands)) (s.count * weight s.cell) (stood weight (drop (i + 1) stands)) (stood weight stands) (f ∙ ap (λ (m : ℕ). carried (sum + m)) e)
    (sum_by-drop_more (share weight) stands i d lt ∙ ap (λ (x : Stand). share weight x + stood weight (drop (i + 1) stands)) (sym is)) so_far

pub all_summed : (weight : ℕ → ℕ) (stands : List Stand) (i sum : ℕ) → length stands ≤ i → sum ≤ 18446744073709551615 → Summing weight stands sum i → sum ≡ carried (stood weight stands)
all_summed weight stands i sum end few so_far =
    let z : stood weight (drop i stands) ≡ 0 = ap (stood weight) (drop_all i stands end) in
    let is : carried (sum + stood weight (drop i stands)) ≡ carried (stood weight stands) = so_far in omega (arith, z, few, is)
