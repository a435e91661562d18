-- The earliest of several things, each on a line.
use Rattle.std.proofs.Common.{◌≡◌, ◌∷◌, ◌++◌, [], ℕ, ◌≤◌, ◌||◌, List, Bool, true, false, not, cond, nat_lt, length, drop, Option, Some, None, refl, sym, ap, ap₂, ◌∙◌, arith, subst}
use Rattle.std.specs.Prelude.{find, filter_map}
use Rattle.std.specs.List.{list_any}
use Rattle.std.proofs.lemmas.Bool.Decides.{nat_tests}
use Rattle.std.proofs.lemmas.List.{drop_all}
use Rattle.names.proofs.FilterLaws.{find_same}
use Rattle.line_laws.specs.Lines.{earlier, earliest, none_before}

module _ {X : Type 0} (line : X → ℕ) where
  -- ---- the earlier of two

  -- of three it is no matter which two are compared first
  pub earlier_joined : (a b c : Option X) → earlier line (earlier line a b) c ≡ earlier line a (earlier line b c)
  earlier_joined None b c = refl
  earlier_joined (Some a) None c = refl
  earlier_joined (Some a) (Some b) None = by_test (nat_lt (line b) (line a)) where
    by_test : (t : Bool) → earlier line (cond t (Some b) (Some a)) None ≡ cond t (Some b) (Some a)
    by_test true = refl
    by_test false = refl
  earlier_joined (Some a) (Some b) (Some c) = by_tests (nat_lt (line b) (line a)) (nat_lt (line c) (line b)) (nat_lt (line c) (line a)) refl refl refl where
    by_tests : (ba cb ca : Bool) → nat_lt (line b) (line a) ≡ ba → nat_lt (line c) (line b) ≡ cb → nat_lt (line c) (line a) ≡ ca
        → earlier line (cond ba (Some b) (Some a)) (Some c) ≡ earlier line (Some a) (cond cb (Some c) (Some b))
    by_tests true true true p q r = ap (λ t. cond t (Some c) (Some b)) q ∙ sym (ap (λ t. cond t (Some c) (Some a)) r)
    by_tests true true false p q r = absurd (grind (arith, nat_tests))
    by_tests true false t p q r = ap (λ t. cond t (Some c) (Some b)) q ∙ sym (ap (λ t. cond t (Some b) (Some a)) p)
    by_tests false true t p q r = refl
    by_tests false false true p q r = absurd (grind (arith, nat_tests))
    by_tests false false false p q r = ap (λ t. cond t (Some c) (Some a)) r ∙ sym (ap (λ t. cond t (Some b) (Some a)) p)

  pub earlier_alone : (a : Option X) → earlier line a None ≡ a
  earlier_alone None = refl
  earlier_alone (Some a) = refl

  pub earliest_joined : (xs ys : List X) → earliest line (xs ++ ys) ≡ earlier line (earliest line xs) (earliest line ys)
  earliest_joined [] ys = refl
  earliest_joined (x ∷ xs) ys = ap (earlier line (Some x)) (earliest_joined xs ys) ∙ sym (earlier_joined (Some x) (earliest line xs) (earliest line ys))

  -- ---- a loop over rules

  -- no rule is left
  pub all_looked : {R : Type 0} (f : R → Option X) (i : ℕ) (xs : List R) (found : Option X) → length xs ≤ i
      → earlier line found (earliest line (filter_map f (drop i xs))) ≡ earliest line (filter_map f xs) → found ≡ earliest line (filter_map f xs)
  all_looked f i xs found past e =
      sym (earlier_alone found) ∙ sym (ap (λ ys. earlier line found (earliest line (filter_map f ys))) (drop_all i xs past)) ∙ e

  -- ---- the first by its line

  -- one, if it is there, is not on an earlier line than this
  abbrev not_before : Option X → ℕ → Bool
  not_before None at = true
  not_before (Some m) at = not (nat_lt (line m) at)

  by_earliest : (ms : List X) (at : ℕ) → none_before line ms at ≡ not_before (earliest line ms) at
  by_earliest [] at = refl
  by_earliest (m ∷ ms) at = turn (earliest line ms) (list_any (λ (other : X). nat_lt (line other) at) ms) (by_earliest ms at) where
    turn : (o : Option X) (rest : Bool) → not rest ≡ not_before o at → not (nat_lt (line m) at || rest) ≡ not_before (earlier line (Some m) o) at
    turn None true e = cc
    turn None false e = by_test (nat_lt (line m) at) where
      by_test : (t : Bool) → not (t || false) ≡ not t
      by_test true = refl
      by_test false = refl
    turn (Some o) rest e = by_tests (nat_lt (line m) at) (nat_lt (line o) (line m)) (nat_lt (line o) at) rest refl refl refl e where
      by_tests : (ml om ol rest : Bool) → nat_lt (line m) at ≡ ml → nat_lt (line o) (line m) ≡ om → nat_lt (line o) at ≡ ol → not rest ≡ not ol
          → not (ml || rest) ≡ not_before (cond om (Some o) (Some m)) at
      by_tests true true true rest p q r e = ap not (sym r)
      by_tests true true false rest p q r e = absurd (grind (arith, nat_tests))
      by_tests true false ol rest p q r e = ap not (sym p)
      by_tests false true ol rest p q r e = e ∙ ap not (sym r)
      by_tests false false true rest p q r e = absurd (grind (arith, nat_tests))
      by_tests false false false rest p q r e = e ∙ ap not (sym p)

  -- one, if it is not on a later line than this
  abbrev within : ℕ → Option X → Option X
  within limit None = None
  within limit (Some m) = cond (nat_lt limit (line m)) None (Some m)

  -- the first on no later line, where none is on an earlier one
  found_within : (limit : ℕ) (ms : List X) → not_before (earliest line ms) limit ≡ true
      → find (λ (m : X). not (nat_lt limit (line m))) ms ≡ within limit (earliest line ms)
  found_within limit [] e = refl
  found_within limit (m ∷ ms) e = turn (earliest line ms) (find (λ (m : X). not (nat_lt limit (line m))) ms) e (found_within limit ms) where
    alone : (t : Bool) (rest : Option X) → rest ≡ None → cond (not t) (Some m) rest ≡ cond t None (Some m)
    alone true rest e = e
    alone false rest e = refl

    by_tests : (b : X) (rest : Option X) (bm lm lb bl : Bool) → nat_lt (line b) (line m) ≡ bm → nat_lt limit (line m) ≡ lm → nat_lt limit (line b) ≡ lb → nat_lt (line b) limit ≡ bl
        → not_before (cond bm (Some b) (Some m)) limit ≡ true
        → (not bl ≡ true → rest ≡ cond lb None (Some b))
        → cond (not lm) (Some m) rest ≡ within limit (cond bm (Some b) (Some m))
    by_tests b rest true true lb true p q r s e found = let h : not true ≡ true = ap not (sym s) ∙ e in cc
    by_tests b rest true true lb false p q r s e found = found refl ∙ ap (λ t. cond t None (Some b)) (sym r)
    by_tests b rest true false lb true p q r s e found = let h : not true ≡ true = ap not (sym s) ∙ e in cc
    by_tests b rest true false lb false p q r s e found = absurd (grind (arith, nat_tests))
    by_tests b rest false true true true p q r s e found = absurd (grind (arith, nat_tests))
    by_tests b rest false true true false p q r s e found = found refl ∙ ap (λ t. cond t None (Some m)) (sym q)
    by_tests b rest false true false bl p q r s e found = absurd (grind (arith, nat_tests))
    by_tests b rest false false lb bl p q r s e found = ap (λ t. cond t None (Some m)) (sym q)

    turn : (o : Option X) (rest : Option X) → not_before (earlier line (Some m) o) limit ≡ true
        → (not_before o limit ≡ true → rest ≡ within limit o)
        → cond (not (nat_lt limit (line m))) (Some m) rest ≡ within limit (earlier line (Some m) o)
    turn None rest e found = alone (nat_lt limit (line m)) rest (found refl)
    turn (Some b) rest e found =
        by_tests b rest (nat_lt (line b) (line m)) (nat_lt limit (line m)) (nat_lt limit (line b)) (nat_lt (line b) limit) refl refl refl refl e found

  not_less : (n : ℕ) → nat_lt n n ≡ false
  not_less n = grind (arith, nat_tests)

  nothing : (ms : List X) → earliest line ms ≡ None → ms ≡ []
  nothing [] e = refl
  nothing (m ∷ ms) e = by_rest (earliest line ms) e where
    by_test : (t : Bool) (b : X) → cond t (Some b) (Some m) ≡ None → (m ∷ ms) ≡ []
    by_test true b e = cc
    by_test false b e = cc

    by_rest : (o : Option X) → earlier line (Some m) o ≡ None → (m ∷ ms) ≡ []
    by_rest None e = cc
    by_rest (Some b) e = by_test (nat_lt (line b) (line m)) b e

  -- the first before whose line no other stands is the earliest
  pub first_is : (ms : List X) → find (λ (m : X). none_before line ms (line m)) ms ≡ earliest line ms
  first_is ms = by_earliest_of (earliest line ms) refl where
    by_earliest_of : (o : Option X) → earliest line ms ≡ o
        → find (λ (m : X). none_before line ms (line m)) ms ≡ earliest line ms
    by_earliest_of None e =
        let P : List X → Type 0 = λ xs. find (λ (m : X). none_before line xs (line m)) xs ≡ earliest line xs in
        subst P (sym (nothing ms e)) refl
    by_earliest_of (Some b) e =
        find_same _ (λ (m : X). not (nat_lt (line b) (line m))) (λ x. by_earliest ms (line x) ∙ ap (λ o. not_before o (line x)) e) ms
        ∙ found_within (line b) ms (ap (λ o. not_before o (line b)) e ∙ ap not (not_less (line b)))
        ∙ ap (within (line b)) e ∙ ap (λ t. cond t None (Some b)) (not_less (line b)) ∙ sym e

  -- ---- several lists

  -- two lists behind one another
  pub one_joined : (first found all : Option X) (a b : List X) → first ≡ earliest line a → found ≡ earliest line b → all ≡ earlier line first found → all ≡ earliest line (a ++ b)
  one_joined first found all a b p q e = e ∙ ap₂ (earlier line) p q ∙ sym (earliest_joined a b)
