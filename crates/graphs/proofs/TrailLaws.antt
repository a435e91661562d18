-- A search back over arcs, and the cycle that it finds.
use Rattle.std.proofs.Common.{◌≡◌, ℕ, zero, suc, ◌<◌, ◌≤◌, ◌+◌, ◌⊎◌, ◌++◌, ◌∷◌, [], List, length, get_or, set, replicate, take, Option, None, Some, arith, ap, subst, sym, refl, ◌∙◌, inl, inr, length-append}
use Rattle.std.specs.Prelude.{slice_get, IfSome}
use Rattle.std.proofs.lemmas.Bool.{cases_eq, cases_lt}
use Rattle.std.proofs.lemmas.List.{get_or-set_same, get_or-set_other, take_more, length-set}
use Rattle.std.proofs.lemmas.Option.{none-some, slice_get_within}
use Rattle.vrt_model.proofs.Lists.{at_front, at_last, at_split, one_at}
use Rattle.graphs.proofs.Walks.{walk_further}
use Rattle.graphs.specs.Graphs.{ArcIn, AreInside, sources_at}
use Rattle.graphs.specs.Trails.{AreDone, AreFalling, HasMet, IsAround, IsTrail, IsWay, LeadOn, LeadsOn, count_met, place_at}
use Rattle.graphs.specs.declared.trail.Met.{Met}
use Rattle.vrt_model.proofs.Members.{among_either, at_none}
use Rattle.vrt_model.specs.Known.{IsCycle, IsFirstCycle, IsWalk}
use Rattle.vrt_model.specs.Lists.{At, Among}

-- ---- places

few_met : (places : List ℕ) → count_met places ≤ length places
few_met [] = omega arith
few_met (zero ∷ places) = let rest : count_met places ≤ length places = few_met places in omega (arith, rest)
few_met (suc k ∷ places) = let rest : count_met places ≤ length places = few_met places in omega (arith, rest)

one_more : (places : List ℕ) (i k : ℕ) → i < length places → get_or places i 0 ≡ 0 → count_met (set places i (suc k)) ≡ suc (count_met places)
one_more [] i k lt new = absurd (omega (arith, lt))
one_more (zero ∷ places) zero k lt new = refl
one_more (suc p ∷ places) zero k lt new = absurd (omega (arith, new))
one_more (zero ∷ places) (suc i) k lt new = one_more places i k (omega (arith, lt)) new
one_more (suc p ∷ places) (suc i) k lt new = ap suc (one_more places i k (omega (arith, lt)) new)

more_at : (places : List ℕ) (i k : ℕ) → i < length places → get_or places i 0 ≡ 0 → 0 < k → count_met (set places i k) ≡ suc (count_met places)
more_at places i zero lt new some = absurd (omega (arith, some))
more_at places i (suc k) lt new some = one_more places i k lt new

leads_front : (sources : List (List ℕ)) (met more : List Met) (k : ℕ) (e : Met) → LeadsOn sources met k e → LeadsOn sources (met ++ more) k e
leads_front sources met more k e l = record { next = l.next; at = at_front met more e.next l.next l.at; before = l.before; arc = l.arc }

-- ---- one number is met

pub met_before : (places : List ℕ) (met : List Met) (node next : ℕ) → (node < length places → 0 < place_at places node) → HasMet places places met met (node ∷ []) next
met_before places met node next known = record {
  size = refl;
  grows = omega arith;
  kept = λ n lt. refl;
  found = λ n a lt. only n a.0 a.1 lt;
  before = λ k e at. at;
  trail = λ sources first e at arcs t. t;
} where
  only : (n i : ℕ) → At (node ∷ []) i n → n < length places → 0 < place_at places n
  only n zero e lt = let same : node ≡ n = one_at (node ∷ []) 0 node n refl e in subst (λ k. 0 < place_at places k) same (known (subst (λ k. k < length places) (sym same) lt))
  only n (suc i) e lt = absurd (none-some n e)

pub met_now : (places : List ℕ) (met met' : List Met) (entry : Met) → entry.node < length places → place_at places entry.node ≡ 0 → entry.next < length met
    → met' ≡ met ++ entry ∷ [] → HasMet places (set places entry.node (length met)) met met' (entry.node ∷ []) entry.next
met_now places met met' entry lt new less is =
    subst (λ (xs : List Met). HasMet places (set places entry.node (length met)) met xs (entry.node ∷ []) entry.next) (sym is) added
  where
    node : ℕ
    node = entry.node

    some : 0 < length met
    some = omega (arith, less)

    here : place_at (set places entry.node (length met)) entry.node ≡ length met
    here = get_or-set_same places entry.node (length met) 0 lt

    longer : length (met ++ entry ∷ []) ≡ suc (length met)
    longer = let sum = length-append met (entry ∷ []) in omega (arith, sum)

    other_place : (n : ℕ) → (n ≡ entry.node → ⊥) → place_at (set places entry.node (length met)) n ≡ place_at places n
    other_place n other = get_or-set_other places entry.node n (length met) 0 other

    keeps : (n : ℕ) → 0 < place_at places n → place_at (set places entry.node (length met)) n ≡ place_at places n
    keeps n old = elim (cases_eq n entry.node) [
      | inl same ↦ (let zero_there : place_at places n ≡ 0 = ap (place_at places) same ∙ new in absurd (omega (arith, zero_there, old)))
      | inr other ↦ other_place n other
    ]

    only : (n i : ℕ) → At (entry.node ∷ []) i n → 0 < place_at (set places entry.node (length met)) n
    only n zero e =
        let same : entry.node ≡ n = one_at (entry.node ∷ []) 0 entry.node n refl e in
        subst (λ k. 0 < place_at (set places entry.node (length met)) k) same (omega (arith, here, some))
    only n (suc i) e = absurd (none-some n e)

    starts : (sources : List (List ℕ)) (first : ℕ) → IsTrail sources first places met → (e : Met) → At met 0 e ⊎ ((0 ≡ length met) × (e ≡ entry)) → e.node ≡ first
    starts sources first t e (inl at) = t.start e at
    starts sources first t e (inr p) = let none = p.0 in absurd (omega (arith, none, some))

    enters : (sources : List (List ℕ)) (first : ℕ) → IsTrail sources first places met → (n : ℕ) → 0 < place_at (set places entry.node (length met)) n
        → (e : Met) × At (met ++ entry ∷ []) (place_at (set places entry.node (length met)) n) e × (e.node ≡ n)
    enters sources first t n there = elim (cases_eq n entry.node) [
      | inl same ↦ (
        entry,
        subst (λ k. At (met ++ entry ∷ []) k entry) (sym (ap (place_at (set places entry.node (length met))) same ∙ here)) (at_last met entry),
        sym same,
      )
      | inr other ↦
          let old = other_place n other in
          let q = t.entry n (omega (arith, there, old)) in
          (q.0, subst (λ k. At (met ++ entry ∷ []) k q.0) (sym old) (at_front met (entry ∷ []) (place_at places n) q.0 q.1), q.2)
    ]

    leads : (sources : List (List ℕ)) (first : ℕ) (to : Met) → At met entry.next to → ArcIn sources entry.node to.node → IsTrail sources first places met
        → (k : ℕ) (e : Met) → At met (suc k) e ⊎ ((suc k ≡ length met) × (e ≡ entry)) → LeadsOn sources (met ++ entry ∷ []) k e
    leads sources first to at arc t k e (inl old) = leads_front sources met (entry ∷ []) k e (t.arcs k e old)
    leads sources first to at arc t k e (inr p) =
        let place = p.0 in
        let last : LeadsOn sources (met ++ entry ∷ []) k entry =
        record { next = to; at = at_front met (entry ∷ []) entry.next to at; before = omega (arith, place, less); arc = arc } in
        subst (λ x. LeadsOn sources (met ++ entry ∷ []) k x) (sym p.1) last

    added : HasMet places (set places entry.node (length met)) met (met ++ entry ∷ []) (entry.node ∷ []) entry.next
    added = record {
      size = length-set places entry.node (length met);
      grows = omega (arith, longer);
      kept = keeps;
      found = λ n a l. only n a.0 a.1;
      before = λ k e at. at_front met (entry ∷ []) k e at;
      trail = λ sources first to at arcs t. record {
        size = length-set places entry.node (length met) ∙ t.size;
        count = ap suc (more_at places entry.node (length met) lt new some) ∙ ap suc t.count ∙ sym longer;
        start = λ e a. starts sources first t e (at_split met entry 0 e a);
        entry = λ n there. enters sources first t n there;
        arcs = λ k e a. leads sources first to at (arcs entry.node (0, refl)) t k e (at_split met entry (suc k) e a);
      };
    }

-- ---- numbers are met

pub met_none : (places : List ℕ) (met : List Met) (next : ℕ) → HasMet places places met met [] next
met_none places met next = record {
  size = refl;
  grows = omega arith;
  kept = λ n lt. refl;
  found = λ n a lt. absurd (at_none a.0 n a.1);
  before = λ k e at. at;
  trail = λ sources first e at arcs t. t;
}

behind : (xs ys : List ℕ) (n : ℕ) → Among ys n → Among (xs ++ ys) n
behind [] ys n m = m
behind (x ∷ xs) ys n m = let rest = behind xs ys n m in (suc rest.0, rest.1)

pub met_more : (a b c : List ℕ) (p q r : List Met) (xs ys : List ℕ) (next : ℕ) → HasMet a b p q xs next → HasMet b c q r ys next → HasMet a c p r (xs ++ ys) next
met_more a b c p q r xs ys next first second = record {
  size = second.size ∙ first.size;
  grows = let one = first.grows in let two = second.grows in omega (arith, one, two);
  kept = λ n lt. second.kept n (still n lt) ∙ first.kept n lt;
  found = λ n m lt. elim (among_either xs ys n m) [
    | inl x ↦ (let there = first.found n x lt in let same = second.kept n there in omega (arith, there, same))
    | inr y ↦ second.found n y (let size = first.size in omega (arith, lt, size))
  ];
  before = λ k e at. second.before k e (first.before k e at);
  trail = λ sources top e at arcs t.
      second.trail sources top e (first.before next e at) (λ n m. arcs n (behind xs ys n m))
      (first.trail sources top e at (λ n m. arcs n (m.0, at_front xs ys m.0 n m.1)) t);
} where
  still : (n : ℕ) → 0 < place_at a n → 0 < place_at b n
  still n lt = let same = first.kept n lt in omega (arith, lt, same)

pub met_turn : (a b c : List ℕ) (p q r : List Met) (numbers : List ℕ) (i next : ℕ) → i < length numbers → HasMet a b p q (take i numbers) next
    → HasMet b c q r (get_or numbers i 0 ∷ []) next → HasMet a c p r (take (i + 1) numbers) next
met_turn a b c p q r numbers i next lt first second =
    subst (λ (xs : List ℕ). HasMet a c p r xs next) (sym (take_more numbers i 0 lt)) (met_more a b c p q r (take i numbers) (get_or numbers i 0 ∷ []) next first second)

-- ---- the search

-- the trail so far, of whose entries those before a place are done
pub record GoesBack (sources : List (List ℕ)) (first at : ℕ) (places : List ℕ) (met : List Met) : Type 0 where
  pub trail : IsTrail sources first places met
  pub done : AreDone sources at places met
  pub most : at ≤ length met

pub met_few : (sources : List (List ℕ)) (first : ℕ) (places : List ℕ) (met : List Met) → IsTrail sources first places met → length met ≤ suc (length sources)
met_few sources first places met t = let few = few_met places in let size = t.size in let count = t.count in omega (arith, few, size, count)

abbrev empty : ℕ → List ℕ
empty k = replicate k 0

no_count : (k : ℕ) → count_met (empty k) ≡ 0
no_count zero = refl
no_count (suc k) = no_count k

nowhere : (k n : ℕ) → place_at (empty k) n ≡ 0
nowhere zero n = refl
nowhere (suc k) zero = refl
nowhere (suc k) (suc n) = nowhere k n

many : (k : ℕ) → length (empty k) ≡ k
many zero = refl
many (suc k) = ap suc (many k)

pub goes_first : (sources : List (List ℕ)) (first : ℕ) (places : List ℕ) (met : List Met) (entry : Met) → places ≡ replicate (length sources) 0 → met ≡ entry ∷ []
    → entry.node ≡ first → GoesBack sources first 0 places met
goes_first sources first places met entry none is node =
    subst (λ (xs : List ℕ). GoesBack sources first 0 xs met) (sym none) (subst (λ (xs : List Met). GoesBack sources first 0 (replicate (length sources) 0) xs) (sym is) begun)
  where
    begun : GoesBack sources first 0 (replicate (length sources) 0) (entry ∷ [])
    begun = record {
      trail = record {
        size = many (length sources);
        count = ap suc (no_count (length sources));
        start = λ e at. subst (λ (x : Met). x.node ≡ first) (one_at (entry ∷ []) 0 entry e refl at) node;
        entry = λ n there. let none = nowhere (length sources) n in absurd (omega (arith, none, there));
        arcs = λ k e at. absurd (none-some e at);
      };
      done = λ k e less at n arc. absurd (omega (arith, less));
      most = omega arith;
    }

-- what is before the end is there
no_end : (xs : List Met) (i : ℕ) → i < length xs → slice_get xs i ≡ None → ⊥
no_end [] i lt e = omega (arith, lt)
no_end (x ∷ xs) zero lt e = none-some x (sym e)
no_end (x ∷ xs) (suc i) lt e = no_end xs i (omega (arith, lt)) e

pub goes_on : (sources : List (List ℕ)) (first at : ℕ) (entry : Met) (places places' : List ℕ) (met met' : List Met) (numbers : List ℕ) → AreInside sources → At met at entry
    → numbers ≡ sources_at sources entry.node → GoesBack sources first at places met → HasMet places places' met met' numbers at → GoesBack sources first (at + 1) places' met'
goes_on sources first at entry places places' met met' numbers inside there are goes step = record {
  trail = step.trail sources first entry there (λ n m. subst (λ (xs : List ℕ). Among xs n) are m) goes.trail;
  done = λ k e less here n arc. elim (cases_lt k at) [
    | inl before ↦
        let old : At met k e = earlier k e before here in
        let was = goes.done k e before old n arc in
        let same = step.kept n was in
        omega (arith, was, same)
    | inr late ↦
        let same : k ≡ at = omega (arith, less, late) in
        let is : entry ≡ e = one_at met' at entry e (step.before at entry there) (subst (λ i. At met' i e) same here) in
        let size = goes.trail.size in
        let low = inside n e.node arc in
        step.found n (subst (λ (xs : List ℕ). Among xs n) (sym are) (subst (λ (x : Met). ArcIn sources n x.node) (sym is) arc)) (omega (arith, size, low))
  ];
  most = let within = slice_get_within met at entry there in let grows = step.grows in omega (arith, within, grows);
} where
  earlier : (k : ℕ) (e : Met) → k < at → At met' k e → At met k e
  earlier k e before here = by_get (slice_get met k) refl
    where
      by_get : (o : Option Met) → slice_get met k ≡ o → At met k e
      by_get None none = let within = slice_get_within met at entry there in absurd (no_end met k (omega (arith, before, within)) none)
      by_get (Some x) some = some ∙ ap Some (one_at met' k x e (step.before k x some) here)

-- ---- no cycle begins with a number that was not met

pub none_around : (sources : List (List ℕ)) (first : ℕ) (places : List ℕ) (met : List Met) → IsTrail sources first places met → AreDone sources (length met) places met
    → place_at places first ≡ 0 → (others : List ℕ) → ¬ IsCycle (ArcIn sources) (first ∷ others)
none_around sources first places met t done none others cycle =
    let last = first_source cycle.0 cycle.2 in
    let there = back others first cycle.0 cycle.1 last in
    omega (arith, there, none)
  where
    -- what leads to the first was met
    first_source : (n : ℕ) → ArcIn sources n first → 0 < place_at places n
    first_source n arc =
        let count = t.count in
        let begin = first_entry met (omega (arith, count)) in
        done 0 begin.0 (omega (arith, count)) begin.1 n (subst (λ x. ArcIn sources n x) (sym (t.start begin.0 begin.1)) arc)
      where
        first_entry : (xs : List Met) → 0 < length xs → (e : Met) × At xs 0 e
        first_entry [] lt = absurd (omega (arith, lt))
        first_entry (x ∷ xs) lt = (x, refl)

    source_met : (n m : ℕ) → ArcIn sources n m → 0 < place_at places m → 0 < place_at places n
    source_met n m arc there =
        let q = t.entry m there in
        done (place_at places m) q.0 (slice_get_within met (place_at places m) q.0 q.1) q.1 n (subst (λ x. ArcIn sources n x) (sym q.2) arc)

    back : (nodes : List ℕ) (n last : ℕ) → IsWalk (ArcIn sources) n nodes last → 0 < place_at places last → 0 < place_at places n
    back [] n last e there = subst (λ x. 0 < place_at places x) (sym e) there
    back (m ∷ nodes) n last walk there = source_met n m walk.0 (back nodes m last walk.1 there)

-- ---- the way of a cycle

pub way_step : (sources : List (List ℕ)) (met : List Met) (place at : ℕ) (nodes : List ℕ) (e : Met) → LeadOn sources met → 0 < at → IsWay sources met place at nodes → At met at e
    → IsWay sources met place e.next (nodes ++ e.node ∷ [])
way_step sources met place zero nodes e leads some way at = absurd (omega (arith, some))
way_step sources met place (suc k) [] e leads some way at =
    let on = leads k e at in (
      (e, subst (λ i. At met i e) (sym way) at, refl),
      record { last = e.node; walk = refl; end = on.next; at = on.at; arc = on.arc },
    )
way_step sources met place (suc k) (node ∷ rest) e leads some way at =
    let on = leads k e at in
    let is : way.1.end ≡ e = one_at met (suc k) way.1.end e way.1.at at in (
      way.0,
      record {
        last = e.node;
        walk = walk_further (ArcIn sources) rest node way.1.last e.node way.1.walk (subst (λ (x : Met). ArcIn sources way.1.last x.node) is way.1.arc);
        end = on.next;
        at = on.at;
        arc = on.arc;
      },
    )

-- ---- the least number on any cycle

pub first_of_all : (sources : List (List ℕ)) (first : ℕ) (nodes : List ℕ) → ((m : ℕ) → m < first → (others : List ℕ) → ¬ IsCycle (ArcIn sources) (m ∷ others))
    → IsAround (ArcIn sources) first nodes → IsFirstCycle (ArcIn sources) nodes
first_of_all sources first nodes none around =
    subst (λ (xs : List ℕ). IsFirstCycle (ArcIn sources) xs) (sym around.0.1) (
      subst (λ (xs : List ℕ). IsCycle (ArcIn sources) xs) around.0.1 around.1,
      λ m others cycle. elim (cases_lt m first) [ inl lt ↦ absurd (none m lt others cycle) | inr le ↦ le ],
    )

-- where no cycle begins with a number of the graph there is none
pub none_at_all : (sources : List (List ℕ)) → ((m : ℕ) → m < length sources → (others : List ℕ) → ¬ IsCycle (ArcIn sources) (m ∷ others)) → (nodes : List ℕ)
    → ¬ IsCycle (ArcIn sources) nodes
none_at_all sources none [] cycle = cycle
none_at_all sources none (n ∷ nodes) cycle = elim (cases_lt n (length sources)) [
  | inl lt ↦ none n lt nodes cycle
  | inr le ↦ no_source sources n le cycle.0 cycle.2
] where
  no_source : (sources : List (List ℕ)) (n : ℕ) → length sources ≤ n → (m : ℕ) → ¬ ArcIn sources m n
  no_source [] n le m arc = none-some m arc.1
  no_source (s ∷ sources) zero le m arc = omega (arith, le)
  no_source (s ∷ sources) (suc n) le m arc = no_source sources n (omega (arith, le)) m arc

pub falls : (sources : List (List ℕ)) (first : ℕ) (places : List ℕ) (met : List Met) → IsTrail sources first places met → AreFalling met
falls sources first places met t k e at = (t.arcs k e at).before

pub falls_below : (met : List Met) (at : ℕ) (e : Met) → AreFalling met → 0 < at → At met at e → e.next < at
falls_below met zero e falling some here = absurd (omega (arith, some))
falls_below met (suc k) e falling some here = let low = falling k e here in omega (arith, low)

pub some_first : (sources : List (List ℕ)) (first : ℕ) (o : Option (List ℕ)) → ((m : ℕ) → m < first → (others : List ℕ) → ¬ IsCycle (ArcIn sources) (m ∷ others))
    → IfSome o (λ nodes. IsAround (ArcIn sources) first nodes) → IfSome o (λ nodes. IsFirstCycle (ArcIn sources) nodes)
some_first sources first None none around = tt
some_first sources first (Some nodes) none around = first_of_all sources first nodes none around

pub none_next : (sources : List (List ℕ)) (first : ℕ) → ((m : ℕ) → m < first → (others : List ℕ) → ¬ IsCycle (ArcIn sources) (m ∷ others))
    → ((others : List ℕ) → ¬ IsCycle (ArcIn sources) (first ∷ others)) → (m : ℕ) → m < first + 1 → (others : List ℕ) → ¬ IsCycle (ArcIn sources) (m ∷ others)
none_next sources first none here m lt others cycle = elim (cases_lt m first) [
  | inl less ↦ none m less others cycle
  | inr le ↦ (let same : m ≡ first = omega (arith, lt, le) in here others (subst (λ k. IsCycle (ArcIn sources) (k ∷ others)) same cycle))
]
