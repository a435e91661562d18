-- A search down from a cell: the cells that stand directly in one, and those that are kept.
use Rattle.std.proofs.Common.{◌≡◌, ◌<◌, ◌+◌, ◌∷◌, inl, inr, [], ℕ, List, Bool, true, false, map, take, length, get_or, Result, Ok, Err, refl, ap, ap₂, sym, ◌∙◌, subst, arith, unwrap_or}
use Rattle.std.specs.Prelude.{◌↔◌, ◌||◌, ◌==◌, filter, IfOk}
use Rattle.std.proofs.lemmas.Bool.Decides.{nat_tests}
use Rattle.std.proofs.lemmas.List.{map_more}
use Rattle.vrt_model.specs.Comparison.{cell_at}
use Rattle.vrt_model.specs.Hierarchy.{cells_in}
use Rattle.vrt_model.specs.Lists.{mark_at}
use Rattle.vrt_model.specs.Unrolled.{cell_named}
use Rattle.vrt_model.specs.declared.design.Design.{Design}
use Rattle.vrt_model.specs.declared.design.InstanceCard.{InstanceCard}
use Rattle.rule_index.specs.declared.index.RuleIndex.{RuleIndex}
use Rattle.cells_below.specs.Below.{AreBelow, AreNumbered, IsBelow}
use Rattle.cells_below.specs.Met.{keeps, number_in, numbers_on}
use Rattle.nesting.proofs.ReachedLaws.{met_more}
use Rattle.nesting.specs.Reached.{AreWithin, HasMet}

-- ---- cards

-- the cell of one card more
pub met_turn : (index : RuleIndex) (a b c : List Bool) (p q r : List ℕ) (cards : List InstanceCard) (i number : ℕ) (card : InstanceCard) → i < length cards → card ≡ get_or cards i card
    → HasMet a b p q (numbers_on index (take i cards)) → number ≡ number_in index card.cell → HasMet b c q r (number ∷ [])
    → HasMet a c p r (numbers_on index (take (i + 1) cards))
met_turn index a b c p q r cards i number card lt is first same second =
    let f : InstanceCard → ℕ = λ (x : InstanceCard). number_in index x.cell in
    let one : number ≡ f (get_or cards i card) = same ∙ ap f is in
    subst (HasMet a c p r) (sym (map_more f cards i card lt))
    (met_more a b c p q r (map f (take i cards)) (f (get_or cards i card) ∷ []) first (subst (λ k. HasMet b c q r (k ∷ [])) one second))

-- ---- the cells that stand directly in one

number_is : (design : Design) (index : RuleIndex) (name : List ℕ) → AreNumbered design index → number_in index name ≡ cell_named design name
number_is design index name are = ap (λ o. unwrap_or o 0) (are name)

pub numbers_are : (design : Design) (index : RuleIndex) (cards : List InstanceCard) → AreNumbered design index
    → numbers_on index cards ≡ map (λ (i : InstanceCard). cell_named design i.cell) cards
numbers_are design index [] are = refl
numbers_are design index (i ∷ cards) are = ap₂ ◌∷◌ (number_is design index i.cell are) (numbers_are design index cards are)

pub inner_met : (design : Design) (index : RuleIndex) (cards : List InstanceCard) (number : ℕ) (a b : List Bool) (p q : List ℕ) → AreNumbered design index → cards ≡ (cell_at design number).instances
    → HasMet a b p q (numbers_on index cards) → HasMet a b p q (cells_in design number)
inner_met design index cards number a b p q are is met =
    subst (HasMet a b p q) (numbers_are design index cards are ∙ ap (map (λ (i : InstanceCard). cell_named design i.cell)) is) met

-- ---- those that are kept

eq_is : (a b : ℕ) → (a == b) ≡ true → a ≡ b
eq_is a b e = grind (arith, nat_tests)

is_eq : (a b : ℕ) → a ≡ b → (a == b) ≡ true
is_eq a b e = grind (arith, nat_tests)

pub keeps_are : (design : Design) (top : ℕ) (marks given : List Bool) → given ≡ marks → AreWithin (cells_in design) top marks
    → (n : ℕ) → (keeps top given n ≡ true) ↔ IsBelow design top n
keeps_are design top marks given same are n =
    subst (λ (xs : List Bool). (keeps top xs n ≡ true) ↔ IsBelow design top n) (sym same) (by_test (n == top) refl (mark_at marks n) refl) where
      by_test : (p : Bool) → (n == top) ≡ p → (q : Bool) → mark_at marks n ≡ q → ((p || q) ≡ true) ↔ IsBelow design top n
      by_test true pe q qe = (λ e. inl (eq_is n top pe), λ b. refl)
      by_test false pe true qe = (λ e. inr ((are n).0 qe), λ b. refl)
      by_test false pe false qe = (λ e. cc, λ b. absurd (neither b)) where
        neither : IsBelow design top n → ⊥
        neither (inl same) = let no : false ≡ true = sym pe ∙ is_eq n top same in cc
        neither (inr w) = let no : false ≡ true = sym qe ∙ (are n).1 w in cc

pub below_are : {E : Type 0} (design : Design) (top : ℕ) (marks given : List Bool) (order : List ℕ) (r : Result (List ℕ) E) → given ≡ marks
    → AreWithin (cells_in design) top marks → IfOk r (λ cells. cells ≡ filter (keeps top given) order) → IfOk r (AreBelow design top order)
below_are design top marks given order (Ok cells) same are e = record { keeps = keeps top given; kept = keeps_are design top marks given same are; are = e }
below_are design top marks given order (Err none) same are e = tt
