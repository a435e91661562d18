-- A search: one step after another.
use Rattle.std.proofs.Common.{Global, Vec, ◌≡◌, ℕ, ◌⊎◌, Bool, true, false, List, [], ◌∷◌, ◌++◌, Option, inl, inr, subst, sym, ◌∙◌}
use Rattle.std.proofs.lemmas.Bool.{false≢true}
use Rattle.vrt_model.proofs.Lists.{at_split}
use Rattle.known_nets.specs.Conduction.{is_plain_at}
use Rattle.known_nets.specs.Searches.{HasLearned, HasLookedAround, IsReady, IsSearch}
use Rattle.known_nets.specs.Waits.{waits}
use Rattle.known_nets.specs.declared.known.Search.{Search}
use Rattle.vrt_model.specs.Lists.{mark_at, At, Among}
use Rattle.vrt_model.specs.declared.circuit.Circuit.{Circuit}

pub learned_none : (c : Circuit) (known : List (Option Bool)) → HasLearned c known known
learned_none c known = record { grown = λ n v e. e; known = λ phase has are. are }

pub learned_then : (c : Circuit) (old mid new : List (Option Bool)) → HasLearned c old mid → HasLearned c mid new → HasLearned c old new
learned_then c old mid new one two = record {
  grown = λ n v e. two.grown n v (one.grown n v e);
  known = λ phase has are. two.known phase (λ n v f. one.grown n v (has n v f)) (one.known phase has are);
}

-- ---- a net is taken from the list

-- what was on the list is on it still, but for the last
pub popped : (before after : List ℕ) (net n : ℕ) → before ≡ after ++ net ∷ [] → Among before n → Among after n ⊎ (n ≡ net)
popped before after net n is m =
    elim (at_split after net m.0 n (subst (λ (l : List ℕ). At l m.0 n) is m.1)) [ inl earlier ↦ inl (m.0, earlier) | inr last ↦ inr last.1 ]

-- where a net that does not wait is taken from the list
pub ready_without : (c : Circuit) (old new : Search) (net : ℕ) → old.waiting.list.items ≡ new.waiting.list.items ++ net ∷ [] → new.waiting.marks ≡ old.waiting.marks
    → (waits new.waiting net ≡ false) ⊎ (is_plain_at c net ≡ false) → IsSearch c new → IsReady c old → IsReady c new
ready_without c old new net is marks none search ready = record {
  search = search;
  plain = λ n e. ready.plain n (before n e);
  listed = λ n e.
      elim (popped old.waiting.list.items new.waiting.list.items net n is (ready.listed n (before n e))) [
        | inl m ↦ m
        | inr same ↦
            let waiting : waits new.waiting net ≡ true = subst (λ (k : ℕ). waits new.waiting k ≡ true) same e in
            absurd (elim none [ inl f ↦ false≢true (sym f ∙ waiting) | inr f ↦ false≢true (sym f ∙ ready.plain net (before net waiting)) ])
      ];
} where
  before : (n : ℕ) → waits new.waiting n ≡ true → waits old.waiting n ≡ true
  before n e = subst (λ (m : Vec Bool Global). mark_at m.items n ≡ true) marks e

-- where a net is taken from the list and its region looked at
pub ready_after : (c : Circuit) (more : Bool) (old mid new : Search) (net : ℕ) → old.waiting.list.items ≡ mid.waiting.list.items ++ net ∷ [] → mid.waiting.marks ≡ old.waiting.marks
    → IsReady c old → HasLookedAround c net more mid new → IsReady c new
ready_after c more old mid new net is marks ready looked = record {
  search = looked.search;
  plain = λ n e. elim (looked.plain n e) [ inl o ↦ ready.plain n (before n o) | inr p ↦ p ];
  listed = λ n e. elim (looked.waiting n e) [
    | inr m ↦ m
    | inl o ↦ elim (popped old.waiting.list.items mid.waiting.list.items net n is (ready.listed n (before n o.0))) [ inl m ↦ looked.stays n m | inr same ↦ absurd (o.1 same) ]
  ];
} where
  before : (n : ℕ) → waits mid.waiting n ≡ true → waits old.waiting n ≡ true
  before n e = subst (λ (m : Vec Bool Global). mark_at m.items n ≡ true) marks e
