-- A spread: what one step does, what two do, and what holds when the list of nets to be looked at has come to its end.
use Rattle.std.proofs.Common.{◌≡◌, ℕ, ◌<◌, ◌≤◌, ◌+◌, ◌++◌, ◌∷◌, ◌⊎◌, inl, inr, [], List, Bool, true, false, length, set, arith, ap, subst, sym, refl, ◌∙◌}
use Rattle.std.specs.Prelude.{None, Option, Some, not, option_map, slice_index, unwrap_or, ◌-◌}
use Rattle.std.proofs.lemmas.Bool.{cases_eq, cases_lt, false≢true}
use Rattle.std.proofs.lemmas.List.{get_or-set_other, get_or-set_same, get_or_past, length-append, length-set}
use Rattle.std.proofs.lemmas.List.Sums.{sum_by-set}
use Rattle.std.proofs.lemmas.Option.{slice_get-get_or, slice_get_past, slice_get_within}
use Rattle.vrt_model.proofs.Laws.{turned}
use Rattle.vrt_model.proofs.Lists.{at_front, at_last, at_split, one_at}
use Rattle.graphs.specs.Graphs.{sources_at}
use Rattle.known_nets.proofs.PlaceLaws.{below_or_at}
use Rattle.known_nets.specs.Conduction.{conduction_of, is_plain_at, is_plain_kind}
use Rattle.known_nets.specs.Incidence.{HasEnds, IsOtherEnd}
use Rattle.known_nets.specs.Spreads.{ArePlain, HasArrived, HasCrossed, HasGone, HasGrown, HasPassedAll, HasPassedFirst, HasPassedOver, IsZero, IsEndOver, IsKnownOn, IsListedFrom, IsPassedOn, IsRaised, before, given, given_amount, onward, passed}
use Rattle.known_nets.specs.declared.spread.Spread.{Spread}
use Rattle.vrt_model.specs.Lists.{At, Among}
use Rattle.vrt_model.specs.Path.{Joins}
use Rattle.vrt_model.specs.declared.circuit.Circuit.{Circuit}
use Rattle.vrt_model.specs.declared.circuit.Device.{Device}
use Rattle.vrt_model.specs.declared.circuit.FlatNet.{FlatNet}

-- ---- lists

-- a plain net is one of the nets
pub plain_within : (c : Circuit) (n : ℕ) → is_plain_at c n ≡ true → n < length c.nets
plain_within c n plain = elim (cases_lt n (length c.nets)) [
  | inl lt ↦ lt
  | inr ge ↦ absurd (false≢true (ap (λ (o : Option FlatNet). unwrap_or (option_map (λ (net : FlatNet). is_plain_kind net.kind) o) false) (sym (slice_get_past c.nets n ge)) ∙ plain))
]

-- a device that is known to conduct, and what it has at its other end
pub end_is : (known : List (Option Bool)) (d : Device) (n : ℕ) (o : Option ℕ) → d.keeper ≡ false → conduction_of known d ≡ Some true → IsOtherEnd d n o → IsEndOver known d n o
end_is known d n None bare on is = λ m b o j. is m j
end_is known d n (Some end) bare on is = (ap not bare, on, is.0, is.1)

-- ---- growth

pub grown_none : (t met : List ℕ) → HasGrown t t met met
grown_none t met = record {
  size = refl;
  grown = λ n. omega arith;
  longer = omega arith;
  stays = λ i n e. e;
  listed = λ n. inl refl;
  some = λ i n le e. (let lt = slice_get_within met i n e in absurd (omega arith));
  room = omega arith;
}

pub grown_then : (r s t p q l : List ℕ) → HasGrown r s p q → HasGrown s t q l → HasGrown r t p l
grown_then r s t p q l first second = record {
  size = second.size ∙ first.size;
  grown = λ n. let a = first.grown n in let b = second.grown n in omega (arith, a, b);
  longer = omega (arith, first.longer, second.longer);
  stays = λ i n e. second.stays i n (first.stays i n e);
  listed = λ n. either n (first.listed n) (second.listed n);
  some = λ i n le e. amount i n le e (cases_lt i (length q));
  room = omega (arith, first.room, second.room);
} where
  either : (n : ℕ) → (slice_index s n ≡ slice_index r n) ⊎ IsListedFrom (length p) q n → (slice_index t n ≡ slice_index s n) ⊎ IsListedFrom (length q) l n
      → (slice_index t n ≡ slice_index r n) ⊎ IsListedFrom (length p) l n
  either n a (inr b) = inr (b.0, (let le = b.1 in omega (arith, le, first.longer)), b.2)
  either n (inl a) (inl b) = inl (b ∙ a)
  either n (inr a) (inl b) = inr (a.0, a.1, second.stays a.0 n a.2)

  amount : (i n : ℕ) → length p ≤ i → At l i n → (i < length q) ⊎ (length q ≤ i) → 0 < slice_index t n
  amount i n le e (inr ge) = second.some i n ge e
  amount i n le e (inl lt) =
      let old = slice_get-get_or q i 0 lt in
      let same : slice_index q i ≡ n = one_at l i (slice_index q i) n (second.stays i (slice_index q i) old) e in
      let has = first.some i n le (subst (At q i) same old) in
      let more = second.grown n in
      omega (arith, has, more)

-- ---- a net is raised

pub raised_none : (net a : ℕ) (t met : List ℕ) → (net < length t → a ≤ slice_index t net) → IsRaised net a t t met met
raised_none net a t met enough = record {
  growth = grown_none t met;
  only = λ i n le e. (let lt = slice_get_within met i n e in absurd (omega arith));
  is = λ n. inl refl;
  reached = enough;
}

pub raised_one : (net a : ℕ) (t met : List ℕ) → net < length t → slice_index t net < a → a ≤ 255 → IsRaised net a t (set t net a) met (met ++ net ∷ [])
raised_one net a t met lt less most = record {
  growth = record {
    size = length-set t net a;
    grown = λ n. grows n (cases_eq n net);
    longer = (let e = length-append met (net ∷ []) in omega (arith, e));
    stays = λ i n e. at_front met (net ∷ []) i n e;
    listed = λ n. lists n (cases_eq n net);
    some = λ i n le e. subst (λ (x : ℕ). 0 < slice_index (set t net a) x) (sym (last i n le (at_split met net i n e))) (omega (arith, here, less));
    room = (let e = length-append met (net ∷ []) in let s = sum_by-set (λ (x : ℕ). 255 - x) t net a 0 lt in omega (arith, e, s));
  };
  only = λ i n le e. last i n le (at_split met net i n e);
  is = λ n. at_one n (cases_eq n net);
  reached = λ l. (omega (arith, here));
} where
  here : slice_index (set t net a) net ≡ a
  here = get_or-set_same t net a 0 lt

  there : (n : ℕ) → n ≡ net → slice_index (set t net a) n ≡ a
  there n e = ap (slice_index (set t net a)) e ∙ here

  other : (n : ℕ) → (n ≡ net → ⊥) → slice_index (set t net a) n ≡ slice_index t n
  other n ne = get_or-set_other t net n a 0 ne

  grows : (n : ℕ) → (n ≡ net) ⊎ (n ≡ net → ⊥) → slice_index t n ≤ slice_index (set t net a) n
  grows n (inl e) = let old = ap (slice_index t) e in let new = there n e in omega (arith, old, new, less)
  grows n (inr ne) = let same = other n ne in omega (arith, same)

  lists : (n : ℕ) → (n ≡ net) ⊎ (n ≡ net → ⊥) → (slice_index (set t net a) n ≡ slice_index t n) ⊎ IsListedFrom (length met) (met ++ net ∷ []) n
  lists n (inl e) = inr (length met, omega arith, subst (At (met ++ net ∷ []) (length met)) (sym e) (at_last met net))
  lists n (inr ne) = inl (other n ne)

  at_one : (n : ℕ) → (n ≡ net) ⊎ (n ≡ net → ⊥) → (slice_index (set t net a) n ≡ slice_index t n) ⊎ ((n ≡ net) × (slice_index (set t net a) n ≡ a))
  at_one n (inl e) = inr (e, there n e)
  at_one n (inr ne) = inl (other n ne)

  last : (i n : ℕ) → length met ≤ i → At met i n ⊎ ((i ≡ length met) × (n ≡ net)) → n ≡ net
  last i n le (inl e) = let lt = slice_get_within met i n e in absurd (omega arith)
  last i n le (inr e) = e.1

-- ---- what passes over devices

module _ (spread : Spread) (c : Circuit) (known : List (Option Bool)) (levels : List ℕ) where
  crossed_later : (t t' : List ℕ) (amount m n : ℕ) (d : Device) → ((k : ℕ) → slice_index t k ≤ slice_index t' k) → HasCrossed spread c known levels t amount m d n
      → HasCrossed spread c known levels t' amount m d n
  crossed_later t t' amount m n d grown has = record {
    forth = λ plain. let a = has.forth plain in let b = grown n in omega (arith, a, b);
    back = λ other. let a = has.back other in let b = grown m in omega (arith, a, b);
  }

  -- one device more
  pub more_passed : (t t' numbers : List ℕ) (amount m i k : ℕ) → ((j : ℕ) → slice_index t j ≤ slice_index t' j) → At numbers i k
      → HasPassedFirst spread c known levels t amount m numbers i
      → ((d : Device) → At c.devices k d → HasPassedOver spread c known levels t' amount m d)
      → HasPassedFirst spread c known levels t' amount m numbers (i + 1)
  more_passed t t' numbers amount m i k grown here so_far over j l d lt at there n on joins = elim (below_or_at i j lt) [
    | inl earlier ↦ crossed_later t t' amount m n d grown (so_far j l d earlier at there n on joins)
    | inr last ↦
        let same : l ≡ k = one_at numbers i l k (subst (λ (x : ℕ). At numbers x l) last at) here in
        over d (subst (λ (x : ℕ). At c.devices x d) same there) n on joins
  ]

  -- all devices at a net
  pub all_passed : (t : List ℕ) (ends : List (List ℕ)) (amount m : ℕ) → HasEnds c (length c.devices) ends → m < length ends
      → HasPassedFirst spread c known levels t amount m (sources_at ends m) (length (sources_at ends m)) → HasPassedAll spread c known levels t amount m
  all_passed t ends amount m has inside first d n on joins =
      let there = on.there in
      let arc = has there.0 d (slice_get_within c.devices there.0 d there.1) there.1 n m (turned d m n joins) inside in
      first arc.0 there.0 d (slice_get_within (sources_at ends m) arc.0 there.0 arc.1) arc.1 there.1 n on joins

  -- ---- amounts come

  pub gone_none : (amount m : ℕ) (t met : List ℕ) → HasGone spread c known levels amount m t t met met
  gone_none amount m t met = record {
    growth = grown_none t met;
    plain = λ i n le e. (let lt = slice_get_within met i n e in absurd (omega arith));
    arrived = λ base own all. all;
  }

  pub gone_then : (amount m : ℕ) (r s t p q l : List ℕ) → HasGone spread c known levels amount m r s p q → HasGone spread c known levels amount m s t q l
      → HasGone spread c known levels amount m r t p l
  gone_then amount m r s t p q l first second = record {
    growth = grown_then r s t p q l first.growth second.growth;
    plain = λ i n le e. which i n le e (cases_lt i (length q));
    arrived = λ base own all. second.arrived base own (first.arrived base own all);
  } where
    which : (i n : ℕ) → length p ≤ i → At l i n → (i < length q) ⊎ (length q ≤ i) → is_plain_at c n ≡ true
    which i n le e (inr ge) = second.plain i n ge e
    which i n le e (inl lt) =
        let old = slice_get-get_or q i 0 lt in
        let same : slice_index q i ≡ n = one_at l i (slice_index q i) n (second.growth.stays i (slice_index q i) old) e in
        first.plain i n le (subst (At q i) same old)

  by_raise : (amount m to a : ℕ) (old new p q : List ℕ) → is_plain_at c to ≡ true
      → ((base : List ℕ) → HasArrived spread c known levels base m amount → HasArrived spread c known levels base to a)
      → IsRaised to a old new p q → HasGone spread c known levels amount m old new p q
  by_raise amount m to a old new p q plain comes raised = record {
    growth = raised.growth;
    plain = λ i n le e. subst (λ (x : ℕ). is_plain_at c x ≡ true) (sym (raised.only i n le e)) plain;
    arrived = λ base own all n. which base own all n (raised.is n);
  } where
    which : (base : List ℕ) → HasArrived spread c known levels base m amount → ((n : ℕ) → HasArrived spread c known levels base n (slice_index old n))
        → (n : ℕ) → (slice_index new n ≡ slice_index old n) ⊎ ((n ≡ to) × (slice_index new n ≡ a)) → HasArrived spread c known levels base n (slice_index new n)
    which base own all n (inl same) = subst (HasArrived spread c known levels base n) (sym same) (all n)
    which base own all n (inr is) =
        subst (HasArrived spread c known levels base n) (sym is.1) (subst (λ (x : ℕ). HasArrived spread c known levels base x a) (sym is.0) (comes base own))

  -- from a plain net to a plain net
  pub gone_forth : (amount m n a : ℕ) (d : Device) (old new p q : List ℕ) → IsKnownOn c known d → Joins d m n → is_plain_at c m ≡ true → is_plain_at c n ≡ true
      → a ≡ passed spread c levels amount m d n → IsRaised n a old new p q → HasGone spread c known levels amount m old new p q
  gone_forth amount m n a d old new p q on joins from to is raised =
      by_raise amount m n a old new p q to (λ base own. subst (HasArrived spread c known levels base n) (sym is) (onward d own on joins from to)) raised

  -- from a given net
  pub gone_back : (amount m n g a : ℕ) (d : Device) (old new p q : List ℕ) → IsKnownOn c known d → Joins d m n → is_plain_at c m ≡ true → is_plain_at c n ≡ false
      → g ≡ given_amount spread c known n → a ≡ passed spread c levels g n d m → IsRaised m a old new p q → HasGone spread c known levels amount m old new p q
  gone_back amount m n g a d old new p q on joins to from amount_is is raised =
      by_raise amount m m a old new p q to
      (λ base own. subst (HasArrived spread c known levels base m) (sym (is ∙ ap (λ (x : ℕ). passed spread c levels x n d m) amount_is)) (given n d on (turned d m n joins) from to)) raised

  pub crossed_forth : (amount m n a : ℕ) (d : Device) (old new p q : List ℕ) → length old ≡ length c.nets → is_plain_at c n ≡ true
      → a ≡ passed spread c levels amount m d n → IsRaised n a old new p q → HasCrossed spread c known levels new amount m d n
  crossed_forth amount m n a d old new p q size plain is raised = record {
    forth = λ e. subst (λ (x : ℕ). x ≤ slice_index new n) is (raised.reached (let lt = plain_within c n plain in omega (arith, lt, size)));
    back = λ e. absurd (false≢true (sym e ∙ plain));
  }

  pub crossed_back : (amount m n g a : ℕ) (d : Device) (old new p q : List ℕ) → length old ≡ length c.nets → is_plain_at c m ≡ true → is_plain_at c n ≡ false
      → g ≡ given_amount spread c known n → a ≡ passed spread c levels g n d m → IsRaised m a old new p q → HasCrossed spread c known levels new amount m d n
  crossed_back amount m n g a d old new p q size plain other amount_is is raised = record {
    forth = λ e. absurd (false≢true (sym other ∙ e));
    back = λ e.
        subst (λ (x : ℕ). x ≤ slice_index new m) (is ∙ ap (λ (x : ℕ). passed spread c levels x n d m) amount_is)
        (raised.reached (let lt = plain_within c m plain in omega (arith, lt, size)));
  }

  -- ---- the list of nets

  -- what has come so far, and which nets are still to be looked at
  pub record GoesOn (at : ℕ) (old new before after : List ℕ) : Type 0 where
    pub size : length new ≡ length old
    pub plain : ArePlain c after
    pub stays : (n : ℕ) → Among before n → Among after n
    pub raised : (n : ℕ) → (slice_index new n ≡ slice_index old n) ⊎ Among after n
    pub grown : (n : ℕ) → slice_index old n ≤ slice_index new n
    pub some : (n : ℕ) → Among after n → (0 < slice_index new n) ⊎ Among before n
    pub arrived : (n : ℕ) → HasArrived spread c known levels old n (slice_index new n)
    pub closed : (n : ℕ) → Among after n → IsPassedOn spread c known levels new n ⊎ IsListedFrom at after n

  pub goes_first : (t met : List ℕ) → ArePlain c met → GoesOn 0 t t met met
  goes_first t met plain = record {
    size = refl;
    plain = plain;
    stays = λ n a. a;
    raised = λ n. inl refl;
    grown = λ n. omega arith;
    some = λ n a. inr a;
    arrived = λ n. before;
    closed = λ n a. inr (a.0, omega arith, a.1);
  }

  pub goes_on : (at net : ℕ) (old t t' first met met' : List ℕ) → At met at net → GoesOn at old t first met → HasGone spread c known levels (slice_index t net) net t t' met met'
      → HasPassedAll spread c known levels t' (slice_index t net) net → GoesOn (at + 1) old t' first met'
  goes_on at net old t t' first met met' here so_far gone passed_here = record {
    size = gone.growth.size ∙ so_far.size;
    plain = λ n a. elim (which a.0 n a.1) [ inl e ↦ so_far.plain n (a.0, e) | inr ge ↦ gone.plain a.0 n ge a.1 ];
    stays = λ n a. still n (so_far.stays n a);
    raised = λ n. elim (gone.growth.listed n) [
      | inl same ↦ elim (so_far.raised n) [ inl s ↦ inl (same ∙ s) | inr a ↦ inr (still n a) ]
      | inr l ↦ inr (l.0, l.2)
    ];
    grown = λ n. (let a = so_far.grown n in let b = gone.growth.grown n in omega (arith, a, b));
    some = λ n a. elim (which a.0 n a.1) [
      | inr ge ↦ inl (gone.growth.some a.0 n ge a.1)
      | inl e ↦ elim (so_far.some n (a.0, e)) [ inr b ↦ inr b | inl has ↦ inl (let more = gone.growth.grown n in omega (arith, has, more)) ]
    ];
    arrived = λ n. gone.arrived old (so_far.arrived net) so_far.arrived n;
    closed = λ n a. close n a (gone.growth.listed n);
  } where
    inside : at < length met
    inside = slice_get_within met at net here

    still : (n : ℕ) → Among met n → Among met' n
    still n a = (a.0, gone.growth.stays a.0 n a.1)

    which : (i n : ℕ) → At met' i n → At met i n ⊎ (length met ≤ i)
    which i n e = elim (cases_lt i (length met)) [
      | inl lt ↦
          let was : At met i (slice_index met i) = slice_get-get_or met i 0 lt in
          let same : slice_index met i ≡ n = one_at met' i (slice_index met i) n (gone.growth.stays i (slice_index met i) was) e in
          inl (subst (At met i) same was)
      | inr ge ↦ inr ge
    ]

    -- what had passed before
    keeps : (n : ℕ) → slice_index t' n ≡ slice_index t n → IsPassedOn spread c known levels t n → IsPassedOn spread c known levels t' n
    keeps n same has d k on joins =
        subst (λ (x : ℕ). HasCrossed spread c known levels t' x n d k) (sym same) (crossed_later t t' (slice_index t n) n k d gone.growth.grown (has d k on joins))

    -- what passes now
    now : (n : ℕ) → net ≡ n → slice_index t' n ≡ slice_index t n → IsPassedOn spread c known levels t' n
    now n is same =
        subst (λ (x : ℕ). HasPassedAll spread c known levels t' x n) (sym same) (subst (λ (x : ℕ). HasPassedAll spread c known levels t' (slice_index t x) x) is passed_here)

    later : (n i : ℕ) → length met ≤ i → At met' i n → IsListedFrom (at + 1) met' n
    later n i ge e = (i, omega (arith, ge, inside), e)

    close : (n : ℕ) → Among met' n → (slice_index t' n ≡ slice_index t n) ⊎ IsListedFrom (length met) met' n → IsPassedOn spread c known levels t' n ⊎ IsListedFrom (at + 1) met' n
    close n a (inr l) = inr (later n l.0 l.1 l.2)
    close n a (inl same) = elim (which a.0 n a.1) [
      | inr ge ↦ inr (later n a.0 ge a.1)
      | inl e ↦ elim (so_far.closed n (a.0, e)) [
        | inl has ↦ inl (keeps n same has)
        | inr l ↦ elim (cases_eq l.0 at) [
          | inl last ↦ inl (now n (one_at met at net n here (subst (λ (x : ℕ). At met x n) last l.2)) same)
          | inr ne ↦ inr (l.0, (let le = l.1 in omega arith), gone.growth.stays l.0 n l.2)
        ]
      ]
    ]

  -- at the end of the list
  pub goes_end : (at : ℕ) (old new first met : List ℕ) → GoesOn at old new first met → length met ≤ at → (n : ℕ) → Among met n → IsPassedOn spread c known levels new n
  goes_end at old new first met so_far end n a = elim (so_far.closed n a) [
    | inl has ↦ has
    | inr l ↦ (let le = l.1 in let lt = slice_get_within met l.0 n l.2 in absurd (omega arith))
  ]

-- ---- amounts are set back

-- the nets behind the first of a list are still to be zeroed
abbrev pub IsZeroBut : List ℕ → List ℕ → ℕ → Type 0
IsZeroBut table nets at = (n : ℕ) → (slice_index table n ≡ 0) ⊎ IsListedFrom at nets n

pub listed_first : (table nets : List ℕ) → ((n : ℕ) → (slice_index table n ≡ 0) ⊎ Among nets n) → IsZeroBut table nets 0
listed_first table nets listed n = elim (listed n) [ inl e ↦ inl e | inr m ↦ inr (m.0, omega arith, m.1) ]

pub zeroed : (table nets : List ℕ) (at net : ℕ) → At nets at net → IsZeroBut table nets at → IsZeroBut (set table net 0) nets (at + 1)
zeroed table nets at net here but n = which (but n)
  where
    none : slice_index (set table net 0) net ≡ 0
    none = elim (cases_lt net (length table)) [
      | inl lt ↦ get_or-set_same table net 0 0 lt
      | inr ge ↦ get_or_past (set table net 0) net 0 (let e = length-set table net 0 in omega (arith, e, ge))
    ]

    which : (slice_index table n ≡ 0) ⊎ IsListedFrom at nets n → (slice_index (set table net 0) n ≡ 0) ⊎ IsListedFrom (at + 1) nets n
    which (inl e) = elim (cases_eq n net) [
      | inl is ↦ inl (ap (slice_index (set table net 0)) is ∙ none)
      | inr ne ↦ inl (get_or-set_other table net n 0 0 ne ∙ e)
    ]
    which (inr l) = elim (cases_eq l.0 at) [
      | inl last ↦ inl (ap (slice_index (set table net 0)) (one_at nets at n net (subst (λ (x : ℕ). At nets x n) last l.2) here) ∙ none)
      | inr ne ↦ inr (l.0, (let le = l.1 in omega arith), l.2)
    ]

pub zero_at_end : (table nets : List ℕ) (at : ℕ) → length nets ≤ at → IsZeroBut table nets at → IsZero table
zero_at_end table nets at end but n = elim (but n) [
  | inl e ↦ e
  | inr l ↦ (let le = l.1 in let lt = slice_get_within nets l.0 n l.2 in absurd (omega arith))
]
