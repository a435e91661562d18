-- Nets that rules declare to keep their charge, rule by rule.
use Rattle.std.proofs.Common.{◌≡◌, ◌<◌, ◌+◌, ◌++◌, ◌∷◌, ◌&&◌, ◌||◌, [], ℕ, zero, suc, Bool, true, false, List, length, take, get_or, set, replicate, Option, Some, None, refl, ap, ap₂, sym, ◌∙◌, subst, arith}
use Rattle.std.specs.Prelude.{◌==◌, ◌≢◌, bytes_eq, position}
use Rattle.std.specs.List.{list_any}
use Rattle.std.proofs.lemmas.Bool.Decides.{nat_tests}
use Rattle.std.proofs.lemmas.List.{get_or-set_other, get_or-set_same, length-set, take_more}
use Rattle.std.proofs.lemmas.List.Folds.{list_any-append}
use Rattle.std.proofs.lemmas.List.Quantifiers.{position-Some}
use Rattle.std.proofs.lemmas.Slice.Eq.{bytes_eq-Decides}
use Rattle.vrt_model.proofs.Tests.{bytes_eq-sym, or_swap}
use Rattle.vrt_model.specs.Lists.{has_name}
use Rattle.names.specs.Names.{with_name}
use Rattle.vrt_model.specs.declared.rules.HoldRule.{HoldRule}
use Rattle.names.proofs.NameLaws.{with_front}
use Rattle.hierarchy.specs.Held.{AreHeld, HasHeld, is_numbered}
use Rattle.vrt_model.proofs.Lists.{any_same}

abbrev no_set : List (List ℕ)
no_set = []

count_none : (count : ℕ) → length (replicate count no_set) ≡ count
count_none zero = refl
count_none (suc count) = ap suc (count_none count)

none_at : (count n : ℕ) (net : List ℕ) → has_name (get_or (replicate count []) n []) net ≡ false
none_at zero n net = refl
none_at (suc count) zero net = refl
none_at (suc count) (suc n) net = none_at count n net

-- no rule yet
pub none_held : (cells : List (List ℕ)) (sets : List (List (List ℕ))) → sets ≡ replicate (length cells) [] → AreHeld cells [] sets
none_held cells sets e = record {
  count = ap length e ∙ count_none (length cells);
  each = λ n net lt. ap (λ (ss : List (List (List ℕ))). has_name (get_or ss n []) net) e ∙ none_at (length cells) n net;
}

or_false : (p : Bool) → p ≡ (p || (false || false))
or_false true = refl
or_false false = refl

-- one rule more
pub one_held : (cells : List (List ℕ)) (rules : List HoldRule) (rule : HoldRule) (sets sets' : List (List (List ℕ))) → AreHeld cells rules sets → HasHeld cells rule sets sets' → AreHeld cells (rules ++ rule ∷ []) sets'
one_held cells rules rule sets sets' are has = by_place (position (bytes_eq rule.cell) cells) refl where
  Step : Option ℕ → List (List (List ℕ))
  Step o = elim o [ None ↦ sets | Some k ↦ set sets k (with_name (get_or sets k []) rule.net) ]

  Test : Option ℕ → ℕ → Bool
  Test o n = elim o [ None ↦ false | Some k ↦ k == n ]

  more : (n : ℕ) (net : List ℕ) (o : Option ℕ) → position (bytes_eq rule.cell) cells ≡ o
      → list_any (λ (r : HoldRule). is_numbered cells n r.cell && bytes_eq r.net net) (rules ++ rule ∷ [])
      ≡ (list_any (λ (r : HoldRule). is_numbered cells n r.cell && bytes_eq r.net net) rules || ((Test o n && bytes_eq rule.net net) || false))
  more n net o e =
      list_any-append (λ (r : HoldRule). is_numbered cells n r.cell && bytes_eq r.net net) rules (rule ∷ [])
      ∙ ap (λ o. list_any (λ (r : HoldRule). is_numbered cells n r.cell && bytes_eq r.net net) rules || ((Test o n && bytes_eq rule.net net) || false)) e

  at_place : (k n : ℕ) (net : List ℕ) (t : Bool) → (k == n) ≡ t → n < length sets
      → has_name (get_or (set sets k (with_name (get_or sets k []) rule.net)) n []) net
      ≡ (list_any (λ (r : HoldRule). is_numbered cells n r.cell && bytes_eq r.net net) rules || ((t && bytes_eq rule.net net) || false))
  at_place k n net true e lt =
      let same : k ≡ n = grind (arith, nat_tests) in
      ap (λ j. has_name (get_or (set sets j (with_name (get_or sets j []) rule.net)) n []) net) same
      ∙ ap (λ ns. has_name ns net) (get_or-set_same sets n (with_name (get_or sets n []) rule.net) [] lt)
      ∙ with_front (get_or sets n []) rule.net net
      ∙ ap₂ (λ p q. p || q) (bytes_eq-sym net rule.net) (are.each n net lt)
      ∙ sym (or_swap (list_any (λ (r : HoldRule). is_numbered cells n r.cell && bytes_eq r.net net) rules) (bytes_eq rule.net net))
  at_place k n net false e lt =
      let other : n ≢ k = grind (arith, nat_tests) in
      ap (λ ns. has_name ns net) (get_or-set_other sets k n (with_name (get_or sets k []) rule.net) [] other) ∙ are.each n net lt
      ∙ or_false (list_any (λ (r : HoldRule). is_numbered cells n r.cell && bytes_eq r.net net) rules)

  by_place : (o : Option ℕ) → position (bytes_eq rule.cell) cells ≡ o → AreHeld cells (rules ++ rule ∷ []) sets'
  by_place None e =
      let same : sets' ≡ sets = has ∙ ap Step e in
      record {
        count = ap length same ∙ are.count;
        each = λ n net lt.
            ap (λ (ss : List (List (List ℕ))). has_name (get_or ss n []) net) same ∙ are.each n net (omega (arith, lt, ap length same))
            ∙ or_false (list_any (λ (r : HoldRule). is_numbered cells n r.cell && bytes_eq r.net net) rules) ∙ sym (more n net None e);
      }
  by_place (Some k) e =
      let same : sets' ≡ set sets k (with_name (get_or sets k []) rule.net) = has ∙ ap Step e in
      let size : length sets' ≡ length sets = ap length same ∙ length-set sets k (with_name (get_or sets k []) rule.net) in
      record {
        count = size ∙ are.count;
        each = λ n net lt.
            ap (λ (ss : List (List (List ℕ))). has_name (get_or ss n []) net) same
            ∙ at_place k n net (k == n) refl (omega (arith, lt, size)) ∙ sym (more n net (Some k) e);
      }

pub turn_held : (cells : List (List ℕ)) (rules : List HoldRule) (i : ℕ) (rule : HoldRule) (sets sets' : List (List (List ℕ))) → i < length rules → rule ≡ get_or rules i rule
    → AreHeld cells (take i rules) sets → HasHeld cells rule sets sets' → AreHeld cells (take (i + 1) rules) sets'
turn_held cells rules i rule sets sets' lt is are has =
    subst (λ rs. AreHeld cells rs sets') (sym (take_more rules i rule lt ∙ ap (λ r. take i rules ++ r ∷ []) (sym is))) (one_held cells (take i rules) rule sets sets' are has)

-- ---- the set of a cell that is there

numbered : (cells : List (List ℕ)) (n : ℕ) (cell name : List ℕ) → position (bytes_eq cell) cells ≡ Some n → is_numbered cells n name ≡ bytes_eq name cell
numbered cells n cell name e = by_name (bytes_eq name cell) refl where
  Test : Option ℕ → Bool
  Test o = elim o [ None ↦ false | Some k ↦ k == n ]

  same_place : (k : ℕ) → position (bytes_eq name) cells ≡ Some k → (t : Bool) → (k == n) ≡ t → bytes_eq name cell ≡ false → t ≡ false
  same_place k f false g other = refl
  same_place k f true g other =
      let same : k ≡ n = grind (arith, nat_tests) in
      let one : bytes_eq name (get_or cells k []) ≡ true = (position-Some (bytes_eq name) cells k [] f).1 in
      let two : bytes_eq cell (get_or cells n []) ≡ true = (position-Some (bytes_eq cell) cells n [] e).1 in
      let is : name ≡ cell = (bytes_eq-Decides name (get_or cells k [])).0 one ∙ ap (λ j. get_or cells j []) same ∙ sym ((bytes_eq-Decides cell (get_or cells n [])).0 two) in
      sym ((bytes_eq-Decides name cell).1 is) ∙ other

  by_place : (o : Option ℕ) → position (bytes_eq name) cells ≡ o → bytes_eq name cell ≡ false → Test o ≡ false
  by_place None f other = refl
  by_place (Some k) f other = same_place k f (k == n) refl other

  at_itself : (n == n) ≡ true
  at_itself = grind (arith, nat_tests)

  by_name : (b : Bool) → bytes_eq name cell ≡ b → is_numbered cells n name ≡ bytes_eq name cell
  by_name true f = ap (λ m. Test (position (bytes_eq m) cells)) ((bytes_eq-Decides name cell).0 f) ∙ ap Test e ∙ at_itself ∙ sym f
  by_name false f = by_place (position (bytes_eq name) cells) refl f ∙ sym f

pub held_in : (cells : List (List ℕ)) (rules : List HoldRule) (sets : List (List (List ℕ))) (n : ℕ) (cell net : List ℕ) → AreHeld cells rules sets → position (bytes_eq cell) cells ≡ Some n → n < length sets
    → has_name (get_or sets n []) net ≡ list_any (λ (r : HoldRule). bytes_eq r.cell cell && bytes_eq r.net net) rules
held_in cells rules sets n cell net are e lt =
    are.each n net lt
    ∙ any_same (λ (r : HoldRule). is_numbered cells n r.cell && bytes_eq r.net net) (λ (r : HoldRule). bytes_eq r.cell cell && bytes_eq r.net net)
    (λ r. ap (λ b. b && bytes_eq r.net net) (numbered cells n cell r.cell e)) rules
