-- A search down from one.
use Rattle.std.proofs.Common.{◌≡◌, ◌<◌, ◌≤◌, ◌+◌, ◌++◌, ◌∷◌, inl, inr, [], ℕ, zero, suc, List, Bool, true, false, take, length, get_or, replicate, None, ap, sym, ◌∙◌, subst, arith}
use Rattle.std.specs.Prelude.{slice_get}
use Rattle.std.proofs.lemmas.Bool.{cases_eq, false≢true}
use Rattle.std.proofs.lemmas.List.{length-replicate, take_more}
use Rattle.std.proofs.lemmas.Option.{slice_get_within}
use Rattle.vrt_model.proofs.Lists.{none_marked, one_at}
use Rattle.vrt_model.proofs.Members.{among_either, among_left, among_right, at_none}
use Rattle.vrt_model.specs.Lists.{At, Among, mark_at}
use Rattle.vrt_model.specs.Nesting.{IsWithin, directly, further}
use Rattle.nesting.specs.Reached.{AreUnder, AreWithin, GoesDown, HasMet}

-- ---- numbers are met

pub met_more : (a b c : List Bool) (p q r xs ys : List ℕ) → HasMet a b p q xs → HasMet b c q r ys → HasMet a c p r (xs ++ ys)
met_more a b c p q r xs ys first second = record {
  size = second.size ∙ first.size;
  longer = omega (arith, first.longer, second.longer);
  stays = λ n e. second.stays n (first.stays n e);
  marked = λ n among lt. elim (among_either xs ys n among) [
    | inl x ↦ second.stays n (first.marked n x lt)
    | inr y ↦ second.marked n y (let size = first.size in omega (arith, size, lt))
  ];
  fresh = λ n e. elim (second.fresh n e) [
    | inl old ↦ elim (first.fresh n old) [
      | inl older ↦ inl older
      | inr new ↦ inr (among_left xs ys n new.0, (new.1.0, new.1.1, second.front new.1.0 n new.1.2))
    ]
    | inr new ↦ inr (among_right xs ys n new.0, (new.1.0, omega (arith, first.longer, new.1.1), new.1.2))
  ];
  front = λ i n e. second.front i n (first.front i n e);
  behind = λ i n e. elim (second.behind i n e) [
    | inl old ↦ elim (first.behind i n old) [ inl older ↦ inl older | inr new ↦ inr (among_left xs ys n new) ]
    | inr new ↦ inr (among_right xs ys n new)
  ];
}

-- one number more
pub met_turn : (a b c : List Bool) (p q r xs : List ℕ) (i : ℕ) → i < length xs → HasMet a b p q (take i xs) → HasMet b c q r (get_or xs i 0 ∷ []) → HasMet a c p r (take (i + 1) xs)
met_turn a b c p q r xs i lt first second =
    subst (HasMet a c p r) (sym (take_more xs i 0 lt)) (met_more a b c p q r (take i xs) (get_or xs i 0 ∷ []) first second)

-- ---- the search

-- what stands directly in one that stands in another stands in that one
pub deeper : (children : ℕ → List ℕ) (k m top : ℕ) → Among (children m) k → IsWithin children m top → IsWithin children k top
deeper children k m top a (directly b) = further b (directly a)
deeper children k m top a (further {l} b w) = further b (deeper children k m l a w)

past : (met : List ℕ) (at i n : ℕ) → slice_get met at ≡ None → at ≤ i → At met i n → ⊥
past [] at i n end le e = at_none i n e
past (x ∷ met) zero i n end le e = cc
past (x ∷ met) (suc at) zero n end le e = absurd (omega (arith, le))
past (x ∷ met) (suc at) (suc i) n end le e = past met at i n end (omega (arith, le)) e

-- where those in each that is marked are marked, all are that stand in one in which they are
all_marked : (children : ℕ → List ℕ) (marks : List Bool) → ((m : ℕ) → mark_at marks m ≡ true → (n : ℕ) → Among (children m) n → mark_at marks n ≡ true)
    → (m : ℕ) → ((k : ℕ) → Among (children m) k → mark_at marks k ≡ true) → (n : ℕ) → IsWithin children n m → mark_at marks n ≡ true
all_marked children marks shut m below n (directly a) = below n a
all_marked children marks shut m below n (further {l} a w) = all_marked children marks shut l (shut l (below l a)) n w

module _ (children : ℕ → List ℕ) (count : ℕ) (under : AreUnder children count) (top : ℕ) where
  -- those that stand directly in it are met first
  pub goes_first : (blank marks : List Bool) (none met numbers : List ℕ) → blank ≡ replicate count false → none ≡ [] → numbers ≡ children top → HasMet blank marks none met numbers
      → GoesDown children count top 0 marks met
  goes_first blank marks none met numbers b n same has = record {
    size = has.size ∙ blank_size;
    within = λ k e. elim (has.fresh k e) [ inl old ↦ absurd (unmarked k old) | inr new ↦ is_in k new.0 ];
    listed = λ i k e. elim (has.behind i k e) [ inl old ↦ absurd (unmet i k old) | inr new ↦ is_in k new ];
    first = λ k among. has.marked k (subst (λ (xs : List ℕ). Among xs k) (sym same) among) (let lt = under top k among in omega (arith, blank_size, lt));
    done = λ m e. elim (has.fresh m e) [ inl old ↦ absurd (unmarked m old) | inr new ↦ inl (new.1.0, omega arith, new.1.2) ];
  }
    where
      blank_size : length blank ≡ count
      blank_size = ap (λ (xs : List Bool). length xs) b ∙ length-replicate count false

      unmarked : (k : ℕ) → mark_at blank k ≡ true → ⊥
      unmarked k e = false≢true (sym (none_marked count k) ∙ ap (λ (xs : List Bool). mark_at xs k) (sym b) ∙ e)

      unmet : (i k : ℕ) → At none i k → ⊥
      unmet i k e = at_none i k (subst (λ (xs : List ℕ). At xs i k) n e)

      is_in : (k : ℕ) → Among numbers k → IsWithin children k top
      is_in k among = directly (subst (λ (xs : List ℕ). Among xs k) same among)

  -- and then those that stand directly in what was met at a place
  pub goes_on : (at number : ℕ) (marks marks' : List Bool) (met met' numbers : List ℕ) → At met at number → numbers ≡ children number → GoesDown children count top at marks met
      → HasMet marks marks' met met' numbers → GoesDown children count top (at + 1) marks' met'
  goes_on at number marks marks' met met' numbers here same down has = record {
    size = has.size ∙ down.size;
    within = λ k e. elim (has.fresh k e) [ inl old ↦ down.within k old | inr new ↦ below k new.0 ];
    listed = λ i k e. elim (has.behind i k e) [ inl old ↦ down.listed i k old | inr new ↦ below k new ];
    first = λ k among. has.stays k (down.first k among);
    done = λ m e. elim (has.fresh m e) [
      | inl old ↦ elim (down.done m old) [
        | inl waits ↦ elim (cases_eq waits.0 at) [
          | inl last ↦ inr (all_of m (one_at met at m number (subst (λ (i : ℕ). At met i m) last waits.2) here))
          | inr other ↦ inl (waits.0, omega (arith, waits.1, other), has.front waits.0 m waits.2)
        ]
        | inr all ↦ inr (λ k among. has.stays k (all k among))
      ]
      | inr new ↦ inl (new.1.0, (let far = slice_get_within met at number here in omega (arith, far, new.1.1)), new.1.2)
    ];
  }
    where
      below : (k : ℕ) → Among numbers k → IsWithin children k top
      below k among = deeper children k number top (subst (λ (xs : List ℕ). Among xs k) same among) (down.listed at number here)

      all_of : (m : ℕ) → m ≡ number → (k : ℕ) → Among (children m) k → mark_at marks' k ≡ true
      all_of m is k among =
          let lt = under m k among in
          let size = down.size in
          has.marked k (subst (λ (xs : List ℕ). Among xs k) (ap children is ∙ sym same) among) (omega (arith, size, lt))

  -- at the end what is marked is what stands in it
  pub goes_down : (at : ℕ) (marks : List Bool) (met : List ℕ) → slice_get met at ≡ None → GoesDown children count top at marks met → AreWithin children top marks
  goes_down at marks met end down n = (down.within n, λ w. all_marked children marks shut top down.first n w)
    where
      shut : (m : ℕ) → mark_at marks m ≡ true → (k : ℕ) → Among (children m) k → mark_at marks k ≡ true
      shut m e = elim (down.done m e) [ inl waits ↦ absurd (past met at waits.0 m end waits.1 waits.2) | inr all ↦ all ]
