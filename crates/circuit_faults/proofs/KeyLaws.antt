-- The ranks of nets, and the keys of parts and instances as they are listed.
use Rattle.std.proofs.Common.{◌≡◌, ℕ, zero, suc, ◌+◌, ◌<◌, ◌≤◌, ◌⊎◌, ◌&&◌, Bool, true, false, cond, List, [], ◌∷◌, ◌++◌, Option, Some, None, get_or, length, replicate, arith, ap, append_assoc, refl, subst, sym, ◌∙◌, inl, inr}
use Rattle.std.specs.Prelude.{◌==◌, option_map, slice_get, slice_index, unwrap_or}
use Rattle.std.specs.List.{IsDistinct}
use Rattle.std.proofs.lemmas.Bool.{and_parts, cases_eq, eqb-true}
use Rattle.std.proofs.lemmas.List.{append-nil}
use Rattle.std.proofs.lemmas.Map.Keys.{IsDistinct-from_apart}
use Rattle.std.proofs.lemmas.Option.{none-some, same_Some, slice_get-get_or, slice_get_within}
use Rattle.channel_parts.specs.PartLists.{net_numbers}
use Rattle.channel_parts.specs.declared.part.Part.{Part}
use Rattle.circuit_faults.proofs.CircuitLaws.{inside_or_not}
use Rattle.circuit_faults.proofs.WholeParts.{inside_number, number_inside}
use Rattle.circuit_faults.specs.Keys.{AreNetRanks, IsNoted, all_keys, instance_key, instance_keys, key_of, part_keys, part_rank}
use Rattle.constraints.specs.Obliged.{has_lines, nets_named}
use Rattle.vrt_model.proofs.Lists.{at_split, at_there}
use Rattle.vrt_model.proofs.Members.{among_either, among_left, among_right, at_none}
use Rattle.vrt_model.specs.Lists.{At, Among}
use Rattle.vrt_model.specs.Places.{greatest_rank}
use Rattle.vrt_model.specs.declared.circuit.Circuit.{Circuit}
use Rattle.vrt_model.specs.declared.circuit.FlatInstance.{FlatInstance}
use Rattle.vrt_model.specs.declared.design.Design.{Design}
use Rattle.vrt_model.specs.declared.rules.Rules.{Rules}

-- ---- ranks of nets

zero_at : (count n : ℕ) → slice_index (replicate count 0) n ≡ 0
zero_at zero n = refl
zero_at (suc count) zero = refl
zero_at (suc count) (suc n) = zero_at count n

pub ranks_none : (parts : List Part) (count : ℕ) → AreNetRanks parts 0 (replicate count 0)
ranks_none parts count = record {
  inside = λ rank ranked j part n lt e m. absurd (omega (arith, lt));
  outside = λ n none. zero_at count n;
}

-- whether a number is among those of a part's nets
net_or_not : (part : Part) (n : ℕ) → Among (net_numbers part.nets) n ⊎ (¬ Among (net_numbers part.nets) n)
net_or_not part n = elim (inside_or_not part n) [ inl i ↦ inl (inside_number part n i) | inr none ↦ inr (λ m. none (number_inside part n m)) ]

pub ranks_more : (parts : List Part) (k : ℕ) (part : Part) → At parts k part → (old new : List ℕ) → AreNetRanks parts k old → IsNoted part old new → AreNetRanks parts (k + 1) new
ranks_more parts k part there old new are noted = record {
  inside = λ rank ranked j p n lt e m. elim (net_or_not part n) [
    | inl here ↦ noted.inside n here ∙ ranked part n (k, there) here
    | inr none ↦ elim (cases_eq j k) [
      | inl same ↦ absurd (none (subst (λ (q : Part). Among (net_numbers q.nets) n) (same_Some p part (sym e ∙ ap (slice_get parts) same ∙ there)) m))
      | inr ne ↦ noted.outside n none ∙ are.inside rank ranked j p n (omega (arith, lt, ne)) e m
    ]
  ];
  outside = λ n none. noted.outside n (none k part (omega arith) there) ∙ are.outside n (λ j p lt. none j p (omega (arith, lt)));
}

-- ---- keys

abbrev pub Key : Type 0
Key = (ℕ × ℕ) × ℕ

-- by kind, and of one kind by number
abbrev pub IsLower : Key → Key → Type 0
IsLower x y = (x.0.1 < y.0.1) ⊎ ((x.0.1 ≡ y.0.1) × (x.1 < y.1))

abbrev pub AreRising : List Key → Type 0
AreRising keys = (i j : ℕ) (x y : Key) → At keys i x → At keys j y → i < j → IsLower x y

rising_none : AreRising []
rising_none i j x y a b lt = absurd (none-some x a)

rising_last : (keys : List Key) (last : Key) → AreRising keys → ((x : Key) → Among keys x → IsLower x last) → AreRising (keys ++ last ∷ [])
rising_last keys last rising below i j x y a b lt =
    elim (at_split keys last j y b) [
      | inl q ↦ elim (at_split keys last i x a) [
        | inl p ↦ rising i j x y p q lt
        | inr p ↦ absurd (let within = slice_get_within keys j y q in let is = p.0 in omega (arith, within, is, lt))
      ]
      | inr q ↦ elim (at_split keys last i x a) [
        | inl p ↦ subst (IsLower x) (sym q.1) (below x (i, p))
        | inr p ↦ absurd (let one = p.0 in let two = q.0 in omega (arith, one, two, lt))
      ]
    ]

only_one : (x y : Key) → Among (x ∷ []) y → x ≡ y
only_one x y (zero, e) = same_Some x y e
only_one x y (suc i, e) = absurd (none-some y e)

-- two keys with the same kind and number
abbrev pub same_key : Key → Key → Bool
same_key x y = (x.0.1 == y.0.1) && (x.1 == y.1)

pub lower_apart : (x y : Key) → IsLower x y → same_key x y ≡ false
lower_apart x y lower = by_test (same_key x y) refl
  where
    by_test : (b : Bool) → same_key x y ≡ b → b ≡ false
    by_test false e = refl
    by_test true e =
        let parts = and_parts (x.0.1 == y.0.1) (x.1 == y.1) e in
        let kinds = eqb-true x.0.1 y.0.1 parts.0 in
        let numbers = eqb-true x.1 y.1 parts.1 in
        absurd (elim lower [ inl lt ↦ omega (arith, lt, kinds) | inr h ↦ (let lt = h.1 in omega (arith, lt, numbers)) ])

pub rising_distinct : (keys : List Key) → AreRising keys → IsDistinct same_key keys
rising_distinct keys rising =
    IsDistinct-from_apart same_key keys
    (λ i j d lt within.
    lower_apart (get_or keys i d) (get_or keys j d)
    (rising i j (get_or keys i d) (get_or keys j d) (slice_get-get_or keys i d (omega (arith, lt, within))) (slice_get-get_or keys j d within) lt))

module _ (design : Design) (rules : Rules) (c : Circuit) (phase : ℕ) (parts : List Part) (ranks : List ℕ) where
  -- the rank of an instance
  abbrev pub instance_rank : FlatInstance → ℕ
  instance_rank i = greatest_rank (slice_index ranks) (nets_named design rules phase i)

  abbrev pub IsPartKey : Key → Type 0
  IsPartKey x = (x.0.1 ≡ 0) × ((p : Part) × At parts x.1 p × (x.0.0 ≡ p.rank))

  abbrev pub IsInstanceKey : Key → Type 0
  IsInstanceKey x = (x.0.1 ≡ 1) × ((i : FlatInstance) × At c.instances x.1 i × (x.0.0 ≡ instance_rank i))

  -- ---- those of parts

  rank_is : (n : ℕ) (p : Part) → At parts n p → part_rank parts n ≡ p.rank
  rank_is n p e = ap (λ (o : Option Part). unwrap_or (option_map (λ (x : Part). x.rank) o) 0) e

  part_from : (n : ℕ) → n ≤ length parts → (x : Key) → Among (part_keys parts n) x → IsPartKey x × (x.1 < n)
  part_from zero le x m = absurd (at_none m.0 x m.1)
  part_from (suc n) le x m =
      let p = at_there parts n (omega (arith, le)) in
      elim (among_either (part_keys parts n) (((part_rank parts n, 0), n) ∷ []) x m) [
        | inl before ↦ (let is = part_from n (omega (arith, le)) x before in (is.0, (let lt = is.1 in omega (arith, lt))))
        | inr here ↦ subst (λ (y : Key). IsPartKey y × (y.1 < suc n)) (only_one ((part_rank parts n, 0), n) x here) ((refl, (p.0, p.1, rank_is n p.0 p.1)), omega arith)
      ]

  parts_rise : (n : ℕ) → n ≤ length parts → AreRising (part_keys parts n)
  parts_rise zero le = rising_none
  parts_rise (suc n) le =
      rising_last (part_keys parts n) ((part_rank parts n, 0), n) (parts_rise n (omega (arith, le)))
      (λ x m. (let is = part_from n (omega (arith, le)) x m in inr (is.0.0, is.1)))

  part_there : (n j : ℕ) (p : Part) → j < n → At parts j p → Among (part_keys parts n) ((p.rank, 0), j)
  part_there zero j p lt e = absurd (omega (arith, lt))
  part_there (suc n) j p lt e =
      elim (cases_eq j n) [
        | inl same ↦ among_right (part_keys parts n) (((part_rank parts n, 0), n) ∷ []) ((p.rank, 0), j) (0, here same)
        | inr ne ↦ among_left (part_keys parts n) (((part_rank parts n, 0), n) ∷ []) ((p.rank, 0), j) (part_there n j p (omega (arith, lt, ne)) e)
      ]
    where
      made : ℕ → ℕ → Option Key
      made rank number = Some ((rank, 0), number)

      here : j ≡ n → made (part_rank parts n) n ≡ made p.rank j
      here same = ap (λ (r : ℕ). made r n) (rank_is n p (subst (λ (k : ℕ). At parts k p) same e)) ∙ ap (made p.rank) (sym same)

  -- ---- and behind them those of instances

  abbrev keys_upto : ℕ → List Key
  keys_upto n = part_keys parts (length parts) ++ instance_keys design rules c phase ranks n

  abbrev IsKey : ℕ → Key → Type 0
  IsKey n x = IsPartKey x ⊎ (IsInstanceKey x × (x.1 < n))

  -- so far, and what the keys so far are
  record AreLaid (n : ℕ) : Type 0 where
    rising : AreRising (keys_upto n)
    each : (x : Key) → Among (keys_upto n) x → IsKey n x

  -- the key of an instance, if it has one
  extra_from : (n : ℕ) (x : Key) → Among (instance_key design rules c phase ranks n) x → IsInstanceKey x × (x.1 ≡ n)
  extra_from n x m = by_option (slice_get c.instances n) refl m
    where
      by_test : (i : FlatInstance) → At c.instances n i → (b : Bool) → Among (cond b (((instance_rank i, 1), n) ∷ []) []) x → IsInstanceKey x × (x.1 ≡ n)
      by_test i e true m = subst (λ (y : Key). IsInstanceKey y × (y.1 ≡ n)) (only_one ((instance_rank i, 1), n) x m) ((refl, (i, e, refl)), refl)
      by_test i e false m = absurd (at_none m.0 x m.1)

      by_option : (o : Option FlatInstance) → slice_get c.instances n ≡ o → Among (key_of design rules phase ranks n o) x → IsInstanceKey x × (x.1 ≡ n)
      by_option None e m = absurd (at_none m.0 x m.1)
      by_option (Some i) e m = by_test i e (has_lines design rules phase i) m

  extra_shape : (n : ℕ) → (instance_key design rules c phase ranks n ≡ []) ⊎ ((k : Key) × (instance_key design rules c phase ranks n ≡ k ∷ []))
  extra_shape n = by_option (slice_get c.instances n)
    where
      by_test : (k : Key) (b : Bool) → (cond b (k ∷ []) [] ≡ []) ⊎ ((x : Key) × (cond b (k ∷ []) [] ≡ x ∷ []))
      by_test k true = inr (k, refl)
      by_test k false = inl refl

      by_option : (o : Option FlatInstance) → (key_of design rules phase ranks n o ≡ []) ⊎ ((k : Key) × (key_of design rules phase ranks n o ≡ k ∷ []))
      by_option None = inl refl
      by_option (Some i) = by_test ((instance_rank i, 1), n) (has_lines design rules phase i)

  lower_than : (n : ℕ) (x last : Key) → IsKey n x → IsInstanceKey last → last.1 ≡ n → IsLower x last
  lower_than n x last (inl part) is at = inl (let zero_is = part.0 in let one = is.0 in omega (arith, zero_is, one))
  lower_than n x last (inr h) is at = inr ((let kind = h.0.0 in let one = is.0 in omega (arith, kind, one)), (let lt = h.1 in omega (arith, lt, at)))

  laid_more : (n : ℕ) → AreLaid n → AreLaid (suc n)
  laid_more n are = record {
    rising = subst AreRising same (elim (extra_shape n) [
      | inl none ↦ subst AreRising (sym (append-nil (keys_upto n)) ∙ ap (λ (extra : List Key). keys_upto n ++ extra) (sym none)) are.rising
      | inr one ↦
          let last : Key = one.0 in
          let is = extra_from n last (subst (λ (extra : List Key). Among extra last) (sym one.1) (0, refl)) in
          subst (λ (extra : List Key). AreRising (keys_upto n ++ extra)) (sym one.1)
          (rising_last (keys_upto n) last are.rising (λ x m. lower_than n x last (are.each x m) is.0 is.1))
    ]);
    each = λ x m. elim (among_either (keys_upto n) (instance_key design rules c phase ranks n) x (subst (λ (keys : List Key). Among keys x) (sym same) m)) [
      | inl before ↦ elim (are.each x before) [ inl part ↦ inl part | inr h ↦ inr (h.0, (let lt = h.1 in omega (arith, lt))) ]
      | inr here ↦ (let is = extra_from n x here in inr (is.0, (let at = is.1 in omega (arith, at))))
    ];
  }
    where
      same : keys_upto n ++ instance_key design rules c phase ranks n ≡ keys_upto (suc n)
      same = append_assoc (part_keys parts (length parts)) (instance_keys design rules c phase ranks n) (instance_key design rules c phase ranks n)

  laid : (n : ℕ) → AreLaid n
  laid zero = record {
    rising = subst AreRising (sym (append-nil (part_keys parts (length parts)))) (parts_rise (length parts) (omega arith));
    each = λ x m. inl (part_from (length parts) (omega arith) x (subst (λ (keys : List Key). Among keys x) (append-nil (part_keys parts (length parts))) m)).0;
  }
  laid (suc n) = laid_more n (laid n)

  instance_there : (n at : ℕ) (i : FlatInstance) → at < n → At c.instances at i → has_lines design rules phase i ≡ true → Among (instance_keys design rules c phase ranks n) ((instance_rank i, 1), at)
  instance_there zero at i lt e has = absurd (omega (arith, lt))
  instance_there (suc n) at i lt e has =
      elim (cases_eq at n) [
        | inl same ↦ among_right (instance_keys design rules c phase ranks n) (instance_key design rules c phase ranks n) ((instance_rank i, 1), at)
            (subst (λ (k : ℕ). Among {X = Key} (instance_key design rules c phase ranks k) ((instance_rank i, 1), at)) same own)
        | inr ne ↦ among_left (instance_keys design rules c phase ranks n) (instance_key design rules c phase ranks n) ((instance_rank i, 1), at) (instance_there n at i (omega (arith, lt, ne)) e has)
      ]
    where
      own : Among (instance_key design rules c phase ranks at) ((instance_rank i, 1), at)
      own =
          subst (λ (o : Option FlatInstance). Among {X = Key} (key_of design rules phase ranks at o) ((instance_rank i, 1), at)) (sym e)
          (subst (λ (b : Bool). Among {X = Key} (cond b (((instance_rank i, 1), at) ∷ []) []) ((instance_rank i, 1), at)) (sym has) (0, refl))

  -- ---- all keys

  pub keys_rise : AreRising (all_keys design rules c phase parts ranks)
  keys_rise = (laid (length c.instances)).rising

  pub keys_each : (x : Key) → Among (all_keys design rules c phase parts ranks) x → IsPartKey x ⊎ IsInstanceKey x
  keys_each x m = elim ((laid (length c.instances)).each x m) [ inl part ↦ inl part | inr h ↦ inr h.0 ]

  pub part_key_there : (j : ℕ) (p : Part) → At parts j p → Among (all_keys design rules c phase parts ranks) ((p.rank, 0), j)
  part_key_there j p e =
      among_left (part_keys parts (length parts)) (instance_keys design rules c phase ranks (length c.instances)) ((p.rank, 0), j)
      (part_there (length parts) j p (slice_get_within parts j p e) e)

  pub instance_key_there : (at : ℕ) (i : FlatInstance) → At c.instances at i → has_lines design rules phase i ≡ true → Among (all_keys design rules c phase parts ranks) ((instance_rank i, 1), at)
  instance_key_there at i e has =
      among_right (part_keys parts (length parts)) (instance_keys design rules c phase ranks (length c.instances)) ((instance_rank i, 1), at)
      (instance_there (length c.instances) at i (slice_get_within c.instances at i e) e has)
