-- Boolean operations as choices, and two diagrams that are made one after the other.
use Rattle.std.proofs.Common.{◌≡◌, ℕ, ◌+◌, ◌-◌, ◌*◌, ◌^◌, ◌<◌, ◌≤◌, Bool, true, false, cond, not, ◌&&◌, ◌||◌, Result, Ok, Err, refl, ap, ◌∙◌, ◌⊎◌, ◌++◌, inl, inr, length, arith, append_assoc}
use Rattle.std.proofs.lemmas.Bool.{cases_lt}
use Rattle.bdd_core.specs.declared.handle.H.{H}
use Rattle.bdd_core.specs.declared.handle.Spent.{Spent}
use Rattle.bdd_core.specs.Diagram.{Function, IsSame, IsSubfunction, IsWithin, MissesMoreOf, meaning, top}
use Rattle.bdd_core.specs.Store.{Diagrams, Means, IsSpent, Makes}
use Rattle.bdd_core.proofs.Frames.{handle_stays, nodes_then}
use Rattle.bdd_core.proofs.Growth.{sub_same, sub_trans}
use Rattle.bdd_core.proofs.Exact.{sub_there, spent_misses_of, ok_misses_none_of}
use Rattle.bdd_core.proofs.Bound.{grows_at_most, tests_within}
use Rattle.bdd_core.proofs.Results.{if_ok_more, if_err_more}
use Rattle.bdd_ops.specs.Ops.{MakesBoth, IsExactBoth}

pub and_choice : (a b : Bool) → cond a b false ≡ (a && b)
and_choice true b = refl
and_choice false b = refl

pub or_choice : (a b : Bool) → cond a true b ≡ (a || b)
or_choice true b = refl
or_choice false b = refl

pub not_choice : (a : Bool) → cond a false true ≡ not a
not_choice true = refl
not_choice false = refl

pub implies_choice : (a b : Bool) → cond a b true ≡ (not a || b)
implies_choice true b = refl
implies_choice false b = refl

-- two steps, the first of which made what the second takes
pub made_both : (old mid new : Diagrams) (first f : Function) (n : H) (r : Result H Spent) → Makes old mid first (Ok n) → Makes mid new f r → MakesBoth old new first f r
made_both old mid new first f n r a b = record {
  adds = nodes_then old mid new a.adds b.adds;
  canonical = b.canonical;
  more = a.grows.more ++ b.grows.more;
  is = b.grows.is ∙ ap (λ ns. ns ++ b.grows.more) a.grows.is ∙ append_assoc old.nodes a.grows.more b.grows.more;
  added = λ i from below. elim (cases_lt i (length mid.nodes)) [
    | inl low ↦ inl (sub_trans (meaning new.nodes i) (meaning mid.nodes i) first
        (sub_same (meaning new.nodes i) (meaning mid.nodes i) (b.adds.kept i low)) (a.grows.added i from low))
    | inr high ↦ inr (b.grows.added i high below)
  ];
  ok = b.ok;
  both = if_ok_more (λ x. Means new x f) (λ _. (m : H) × Means new m first) r
      (λ _ _. (n, record { live = omega (arith, a.ok.live, b.adds.longer); same = λ v. b.adds.kept n.0 a.ok.live v ∙ a.ok.same v })) b.ok;
  spent = if_err_more (IsSpent new f) (λ s. IsSpent new first s ⊎ IsSpent new f s) r (λ s x. inr x) b.spent;
}

-- the first step spent the budget
pub spent_first : (old new : Diagrams) (first f : Function) (s : Spent) → Makes old new first (Err s) → MakesBoth old new first f (Err s)
spent_first old new first f s a = record {
  adds = a.adds;
  canonical = a.canonical;
  more = a.grows.more;
  is = a.grows.is;
  added = λ i from below. inl (a.grows.added i from below);
  ok = tt;
  both = tt;
  spent = inl a.spent;
}

-- the refusal of two steps comes exactly by the count of the nodes that are missing
module _ (old new : Diagrams) (first f : Function) (two : 2 ≤ length old.nodes) where
  tests_early : (r : Result H Spent) → MakesBoth old new first f r → (u : ℕ) → IsWithin u first → IsWithin u f → (i : ℕ) → length old.nodes ≤ i → i < length new.nodes → top new.nodes i < u
  tests_early r m u reads reads' i from below = elim (m.added i from below) [
    | inl sub ↦ tests_within new.vars new.nodes m.adds.sound i (omega (arith, two, from)) below u first reads sub
    | inr sub ↦ tests_within new.vars new.nodes m.adds.sound i (omega (arith, two, from)) below u f reads' sub
  ]

  pub exact_both : (r : Result H Spent) → ((u : ℕ) → IsWithin u first → IsWithin u f → length new.nodes ≤ length old.nodes + 2 * (2 ^ u - 1)) → MakesBoth old new first f r → IsExactBoth old new first f r
  exact_both (Ok r) few m =
      let IsOf : Function → Type 0 = λ g. IsSubfunction g first ⊎ IsSubfunction g f in
      let budget : new.budget ≡ old.budget = ap (λ d. d.budget) m.adds.rest in
      let has : (g : Function) → IsOf g → (j : ℕ) × (j < length new.nodes) × IsSame (meaning new.nodes j) g = λ g of. elim of [
        | inl sub ↦ sub_there new.vars new.nodes m.both.0.0 g first m.adds.sound m.both.1.live m.both.1.same sub
        | inr sub ↦ sub_there new.vars new.nodes r.0 g f m.adds.sound m.ok.live m.ok.same sub
      ] in
      record {
        refused = ((λ e. cc), (λ missing. absurd (ok_misses_none_of new.vars old.nodes new.nodes IsOf old.budget m.adds.sound m.adds.longer m.adds.kept has (omega (arith, m.adds.within, budget)) missing)));
        whole = ((λ g sub. has g (inl sub)), (λ g sub. has g (inr sub)));
        kept = handle_stays old new old.words m.adds;
        few = few;
        early = tests_early (Ok r) m;
      }
  exact_both (Err s) few m =
      let IsOf : Function → Type 0 = λ g. IsSubfunction g first ⊎ IsSubfunction g f in
      let budget : new.budget ≡ old.budget = ap (λ d. d.budget) m.adds.rest in
      let missing : MissesMoreOf old.nodes IsOf (old.budget - length old.nodes) = elim m.spent [
        | inl x ↦ spent_misses_of new.vars old.nodes new.nodes IsOf old.budget m.adds.sound m.adds.longer m.adds.kept m.added (x.full ∙ budget) x.lacks.sub (inl x.lacks.of) x.lacks.absent
        | inr x ↦ spent_misses_of new.vars old.nodes new.nodes IsOf old.budget m.adds.sound m.adds.longer m.adds.kept m.added (x.full ∙ budget) x.lacks.sub (inr x.lacks.of) x.lacks.absent
      ] in
      record {
        refused = ((λ _. missing), (λ _. refl));
        whole = tt;
        kept = handle_stays old new old.words m.adds;
        few = few;
        early = tests_early (Err s) m;
      }

-- each of two steps adds fewer than 2 ^ u nodes
pub few_both : (old mid new : Diagrams) (first f : Function) (n : H) (r : Result H Spent) → 2 ≤ length old.nodes → Makes old mid first (Ok n) → Makes mid new f r →
    (u : ℕ) → IsWithin u first → IsWithin u f → length new.nodes ≤ length old.nodes + 2 * (2 ^ u - 1)
few_both old mid new first f n r two a b u reads reads' =
    omega (
      arith,
      grows_at_most mid.vars u old.nodes mid.nodes first a.adds.sound two reads a.grows,
      grows_at_most new.vars u mid.nodes new.nodes f b.adds.sound (omega (arith, two, a.adds.longer)) reads' b.grows,
    )

pub few_first : (old new : Diagrams) (first f : Function) (s : Spent) → 2 ≤ length old.nodes → Makes old new first (Err s) →
    (u : ℕ) → IsWithin u first → IsWithin u f → length new.nodes ≤ length old.nodes + 2 * (2 ^ u - 1)
few_first old new first f s two a u reads _ = omega (arith, grows_at_most new.vars u old.nodes new.nodes first a.adds.sound two reads a.grows)
