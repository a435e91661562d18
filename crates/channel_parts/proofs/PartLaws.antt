-- Parts that are made of groups, by the least nets of parts in their order, are the parts of the circuit in their order.
use Rattle.std.proofs.Common.{◌≡◌, ℕ, zero, suc, ◌<◌, ◌≤◌, ◌⊎◌, Bool, true, false, cond, List, [], ◌∷◌, ◌++◌, length, None, Option, Some, get_or, replicate, slice_index, arith, ap, subst, sym, refl, ◌∙◌, inl, inr}
use Rattle.std.specs.Prelude.{◌↔◌, ◌&&◌, filter, option_map, slice_get, unwrap_or}
use Rattle.std.specs.List.{IsDistinct, AllByRecursion}
use Rattle.std.specs.List.Sorted.{IsSorted}
use Rattle.std.specs.Ordering.{is_lt, nat_cmp, ordering_then}
use Rattle.std.specs.Cmp.{nat_cmp_is}
use Rattle.std.specs.declared.cmp.Ordering.{Ordering}
use Rattle.std.specs.declared.cmp.Ordering.TheVariants.{Less, Equal, Greater}
use Rattle.std.proofs.lemmas.Bool.{and_from, and_parts, cases_Bool, cases_lt, cond-false, cond-true, eq-eqb, eqb-true, false≢true}
use Rattle.std.proofs.lemmas.Cmp.{nat_cmp_total, on_total, then_total}
use Rattle.std.proofs.Math.Path.{fun_ext}
use Rattle.std.proofs.lemmas.List.{append-nil, get_or-replicate, get_or_past, length-append, length-replicate}
use Rattle.std.proofs.lemmas.List.Elements.{filter-append}
use Rattle.std.proofs.lemmas.List.MinMax.{ranks_by}
use Rattle.std.proofs.lemmas.List.Sorted.{sorted_far}
use Rattle.std.proofs.lemmas.Option.{get_or_from_slice_get, none-some, same_Some, slice_get_within}
use Rattle.channel_parts.proofs.ArcLaws.{rank_arc_moves}
use Rattle.channel_parts.proofs.Labels.{channel_may, may_channel, together_further}
use Rattle.channel_parts.proofs.RankLaws.{together_back}
use Rattle.channel_parts.specs.Groups.{AreGroups, AreMade, IsMade, device_owner, device_owner_at, is_head, net_owner}
use Rattle.channel_parts.specs.Labels.{IsLeastTogether, may_conduct}
use Rattle.channel_parts.specs.Listings.{AreInOrder, order_cmp, same_net}
use Rattle.channel_parts.specs.PartLists.{AreParts, IsBefore, IsPartOf, IsRising, device_numbers, least_of, net_numbers}
use Rattle.channel_parts.specs.declared.part.Part.{Part}
use Rattle.known_nets.proofs.NetKinds.{is_plain_is, plain_is}
use Rattle.known_nets.specs.Conduction.{conduction_of, is_plain_at}
use Rattle.known_nets.specs.KnownTables.{IsKnownTable, known_at}
use Rattle.vrt_model.proofs.Filtered.{among_kept, device_among, filter_among}
use Rattle.vrt_model.proofs.Lists.{at_front, at_last, at_split, at_there}
use Rattle.vrt_model.proofs.Ranked.{together_first, together_plain}
use Rattle.vrt_model.specs.Known.{IsInPart, IsPlain, IsRanking, IsTogether, itself, onward}
use Rattle.vrt_model.specs.Lists.{At, Among}
use Rattle.vrt_model.specs.Reading.{is_in}
use Rattle.vrt_model.specs.declared.circuit.Circuit.{Circuit}
use Rattle.vrt_model.specs.declared.circuit.Device.{Device}
use Rattle.vrt_model.specs.declared.rules.Phase.{Phase}

-- ---- the least nets stand in the order of parts

-- a filter keeps the order
later_kept : {X : Type 0} (test : X → Bool) (xs : List X) (i j : ℕ) (x y : X) → At (filter test xs) i x → At (filter test xs) j y → i < j
    → (k : ℕ) × (l : ℕ) × At xs k x × At xs l y × (k < l)
later_kept test [] i j x y p q lt = absurd (none-some x p)
later_kept {X} test (z ∷ zs) i j x y p q lt = pick (λ k l a b less. later_kept test zs k l x y a b less) (test z) i j p q lt
  where
    later : (k : ℕ) × (l : ℕ) × At zs k x × At zs l y × (k < l) → (k : ℕ) × (l : ℕ) × At (z ∷ zs) k x × At (z ∷ zs) l y × (k < l)
    later h = (let less = h.4 in (suc h.0, suc h.1, h.2, h.3, omega (arith, less)))

    pick : ((k l : ℕ) → At (filter test zs) k x → At (filter test zs) l y → k < l → (n : ℕ) × (m : ℕ) × At zs n x × At zs m y × (n < m))
        → (b : Bool) (k l : ℕ) → At (cond b (z ∷ filter test zs) (filter test zs)) k x → At (cond b (z ∷ filter test zs) (filter test zs)) l y → k < l
        → (n : ℕ) × (m : ℕ) × At (z ∷ zs) n x × At (z ∷ zs) m y × (n < m)
    pick below true k zero a b less = absurd (omega (arith, less))
    pick below true zero (suc l) a b less = (let there = (filter_among test zs y (l, b)).0 in (zero, suc there.0, a, there.1, omega arith))
    pick below true (suc k) (suc l) a b less = later (below k l a b (omega (arith, less)))
    pick below false k l a b less = later (below k l a b less)

all_recursion : {X : Type 0} (P : X → Type 0) (xs : List X) (y : X) → AllByRecursion P xs → Among xs y → P y
all_recursion P [] y all m = absurd (none-some y m.1)
all_recursion P (x ∷ xs) y all (zero, e) = subst P (same_Some x y e) all.0
all_recursion P (x ∷ xs) y all (suc i, e) = all_recursion P xs y all.1 (i, e)

distinct_at : (xs : List ((ℕ × ℕ) × ℕ)) → IsDistinct same_net xs → (i j : ℕ) (x y : (ℕ × ℕ) × ℕ) → At xs i x → At xs j y → i < j → same_net x y ≡ false
unfolding IsDistinct
distinct_at [] d i j x y p q lt = absurd (none-some x p)
distinct_at (z ∷ zs) d i zero x y p q lt = absurd (omega (arith, lt))
distinct_at (z ∷ zs) d zero (suc j) x y p q lt =
    all_recursion (λ (t : (ℕ × ℕ) × ℕ). same_net x t ≡ false) zs y (subst (λ (s : (ℕ × ℕ) × ℕ). AllByRecursion (λ (t : (ℕ × ℕ) × ℕ). same_net s t ≡ false) zs) (same_Some z x p) d.0) (j, q)
distinct_at (z ∷ zs) d (suc i) (suc j) x y p q lt = distinct_at zs d.1 i j x y p q (omega (arith, lt))

pub sorted_at : (xs : List ((ℕ × ℕ) × ℕ)) → IsSorted order_cmp xs → (i j : ℕ) (x y : (ℕ × ℕ) × ℕ) → At xs i x → At xs j y → i ≤ j → is_lt (order_cmp y x) ≡ false
sorted_at xs sorted i j x y p q le =
    let far = sorted_far (λ (a b : (ℕ × ℕ) × ℕ). is_lt (order_cmp a b))
    (ranks_by (then_total (then_total (on_total (λ (t : (ℕ × ℕ) × ℕ). t.0.0) nat_cmp_total) (on_total (λ (t : (ℕ × ℕ) × ℕ). t.0.1) nat_cmp_total)) (on_total (λ (t : (ℕ × ℕ) × ℕ). t.1) nat_cmp_total)) (λ (t : (ℕ × ℕ) × ℕ). t))
    xs sorted i j ((0, 0), 0) le (slice_get_within xs j y q) in
    subst (λ (b : (ℕ × ℕ) × ℕ). is_lt (order_cmp b x) ≡ false) (get_or_from_slice_get xs j y ((0, 0), 0) q)
    (subst (λ (a : (ℕ × ℕ) × ℕ). is_lt (order_cmp (get_or xs j ((0, 0), 0)) a) ≡ false) (get_or_from_slice_get xs i x ((0, 0), 0) p) far)

pub then_then : (a b c : Ordering) → ordering_then (ordering_then a b) c ≡ ordering_then a (ordering_then b c)
then_then Less b c = refl
then_then Equal b c = refl
then_then Greater b c = refl

-- what does not come before by a number and a further order
pub not_before : (a b : ℕ) (o : Ordering) → is_lt (ordering_then (nat_cmp a b) o) ≡ false → (b < a) ⊎ ((a ≡ b) × (is_lt o ≡ false))
not_before a b o e =
    elim (cases_lt a b) [
      | inl lt ↦ absurd (false≢true (sym e ∙ sym (ap (λ (r : Ordering). is_lt (ordering_then r o)) (nat_cmp_is a b Less lt))))
      | inr ge ↦
          elim (cases_lt b a) [
            | inl gt ↦ inl gt
            | inr le ↦ (let same : a ≡ b = omega (arith, ge, le) in inr (same, ap (λ (r : Ordering). is_lt (ordering_then r o)) (nat_cmp_is a b Equal same) ∙ e))
          ]
    ]

-- of two least nets in the order, the first has a lower rank, or the same rank and a lesser number
head_before : (x y : (ℕ × ℕ) × ℕ) → is_head x ≡ true → is_head y ≡ true → same_net x y ≡ false → is_lt (order_cmp y x) ≡ false
    → (x.0.0 < y.0.0) ⊎ ((x.0.0 ≡ y.0.0) × (x.1 < y.1))
head_before x y hx hy apart after =
    let own_x : x.0.1 ≡ x.1 = eqb-true x.0.1 x.1 hx in
    let own_y : y.0.1 ≡ y.1 = eqb-true y.0.1 y.1 hy in
    let by_rank = not_before y.0.0 x.0.0 (ordering_then (nat_cmp y.0.1 x.0.1) (nat_cmp y.1 x.1))
    (sym (ap is_lt (then_then (nat_cmp y.0.0 x.0.0) (nat_cmp y.0.1 x.0.1) (nat_cmp y.1 x.1))) ∙ after) in
    elim by_rank [
      | inl lower ↦ inl lower
      | inr even ↦
          elim (not_before y.0.1 x.0.1 (nat_cmp y.1 x.1) even.1) [
            | inl less ↦ inr (sym even.0, omega (arith, less, own_x, own_y))
            | inr tie ↦ (let both = tie.0 in absurd (false≢true (sym apart ∙ eq-eqb x.1 y.1 (omega (arith, both, own_x, own_y)))))
          ]
    ]

heads_rise : (c : Circuit) (ranks least : List ℕ) (nets : List ((ℕ × ℕ) × ℕ)) → AreInOrder c ranks least nets → (i j : ℕ) (x y : (ℕ × ℕ) × ℕ) → At (filter is_head nets) i x → At (filter is_head nets) j y → i < j
    → (x.0.0 < y.0.0) ⊎ ((x.0.0 ≡ y.0.0) × (x.1 < y.1))
heads_rise c ranks least nets order i j x y p q lt =
    let found = later_kept is_head nets i j x y p q lt in
    let less = found.4 in
    head_before x y (filter_among is_head nets x (i, p)).1 (filter_among is_head nets y (j, q)).1
    (distinct_at nets order.distinct found.0 found.1 x y found.2 found.3 found.4)
    (sorted_at nets order.sorted found.0 found.1 x y found.2 found.3 (omega (arith, less)))

-- what is in the order is a net of the circuit
pub pair_inside : (c : Circuit) (ranks least : List ℕ) (order : List ((ℕ × ℕ) × ℕ)) → AreInOrder c ranks least order → (i : ℕ) (pair : (ℕ × ℕ) × ℕ) → At order i pair → pair.1 < length c.nets
pair_inside c ranks least order are i pair at =
    let plain = (are.each pair (i, at)).0 in
    slice_get_within c.nets pair.1 plain.0 plain.1

-- ---- a part more

made_last : (nets devices : List (List ℕ)) (heads : List ((ℕ × ℕ) × ℕ)) (list : List Part) (head : (ℕ × ℕ) × ℕ) (part : Part) → AreMade nets devices heads list → IsMade nets devices head part
    → AreMade nets devices (heads ++ head ∷ []) (list ++ part ∷ [])
made_last nets devices heads list head part are made = record {
  count = let count = are.count in let left = length-append list (part ∷ []) in let right = length-append heads (head ∷ []) in omega (arith, count, left, right);
  each = λ i p at. elim (at_split list part i p at) [
    | inl before ↦ (let from = are.each i p before in (from.0, at_front heads (head ∷ []) i from.0 from.1, from.2))
    | inr last ↦ (
      head,
      subst (λ (k : ℕ). At (heads ++ head ∷ []) k head) (sym (last.0 ∙ are.count)) (at_last heads head),
      subst (IsMade nets devices head) (sym last.1) made,
    )
  ];
}

-- the next in the order is a least net
pub made_head : (nets devices : List (List ℕ)) (order : List ((ℕ × ℕ) × ℕ)) (list : List Part) (head : (ℕ × ℕ) × ℕ) (part : Part) → is_head head ≡ true
    → AreMade nets devices (filter is_head order) list → IsMade nets devices head part → AreMade nets devices (filter is_head (order ++ head ∷ [])) (list ++ part ∷ [])
made_head nets devices order list head part is are made =
    let heads = filter is_head order in
    let more : filter is_head (order ++ head ∷ []) ≡ heads ++ head ∷ [] = filter-append is_head order (head ∷ []) ∙ ap (λ (b : Bool). heads ++ cond b (head ∷ []) []) is in
    subst (λ (hs : List ((ℕ × ℕ) × ℕ)). AreMade nets devices hs (list ++ part ∷ [])) (sym more) (made_last nets devices heads list head part are made)

-- and one that is not
pub made_other : (nets devices : List (List ℕ)) (order : List ((ℕ × ℕ) × ℕ)) (list : List Part) (pair : (ℕ × ℕ) × ℕ) → is_head pair ≡ false
    → AreMade nets devices (filter is_head order) list → AreMade nets devices (filter is_head (order ++ pair ∷ [])) list
made_other nets devices order list pair is are =
    let heads = filter is_head order in
    let same : filter is_head (order ++ pair ∷ []) ≡ heads = filter-append is_head order (pair ∷ []) ∙ (ap (λ (b : Bool). heads ++ cond b (pair ∷ []) []) is ∙ append-nil heads) in
    subst (λ (hs : List ((ℕ × ℕ) × ℕ)). AreMade nets devices hs list) (sym same) are

-- ---- ranks are the same all over a part

rank_not_above : (c : Circuit) (phase : Phase) (rank : ℕ → ℕ) → IsRanking c phase rank → (n m : ℕ) → IsTogether c phase true n m → rank n ≤ rank m
rank_not_above c phase rank ranks n m t =
    elim (ranks.reached n (together_first c phase true n m t)) [
      | inl one ↦
          elim (ranks.reached m (together_plain c phase true n m t)) [
            | inl also ↦ omega (arith, one, also)
            | inr from ↦ (let up = from.2 in omega (arith, one, up))
          ]
      | inr from ↦ (let up = from.2 in let above = ranks.above from.0 m (rank_arc_moves c phase n m t from.0 from.1) in omega (arith, up, above))
    ]

pub ranks_even : (c : Circuit) (phase : Phase) (rank : ℕ → ℕ) → IsRanking c phase rank → (n m : ℕ) → IsTogether c phase true n m → rank n ≡ rank m
ranks_even c phase rank ranks n m t =
    let le = rank_not_above c phase rank ranks n m t in
    let ge = rank_not_above c phase rank ranks m n (together_back c phase true n m t) in
    omega (arith, le, ge)

-- ranks of 0 everywhere
pub zero_ranks : (count : ℕ) → slice_index (replicate count 0) ≡ (λ n. 0)
zero_ranks count = fun_ext zero_rank
  where
    zero_rank : (n : ℕ) → slice_index (replicate count 0) n ≡ 0
    zero_rank n =
        elim (cases_lt n count) [
          | inl lt ↦ get_or-replicate count n 0 0 lt
          | inr ge ↦ (let len = length-replicate {A = ℕ} count 0 in get_or_past (replicate count 0) n 0 (omega (arith, len, ge)))
        ]

-- ---- the first of a rising list

first_least : (xs : List ℕ) (m : ℕ) → IsRising xs → Among xs m → ((x : ℕ) → Among xs x → m ≤ x) → At xs 0 m
first_least xs m up (zero, e) low = e
first_least xs m up (suc i, e) low =
    let inside = slice_get_within xs (suc i) m e in
    let first = at_there xs 0 (omega (arith, inside)) in
    let less = up 0 (suc i) first.0 m first.1 e (omega arith) in
    let above = low first.0 (0, first.1) in
    absurd (omega (arith, less, above))

-- ---- one part

pub owner_plain : (c : Circuit) (least : List ℕ) (n m : ℕ) → net_owner c least n ≡ Some m → IsPlain c n × (slice_index least n ≡ m)
owner_plain c least n m e = pick (is_plain_at c n) refl e
  where
    pick : (b : Bool) → is_plain_at c n ≡ b → cond b (Some (slice_index least n)) None ≡ Some m → IsPlain c n × (slice_index least n ≡ m)
    pick true p e = (plain_is c n p, same_Some (slice_index least n) m e)
    pick false p e = absurd (none-some m e)

pub plain_owner : (c : Circuit) (least : List ℕ) (n m : ℕ) → IsPlain c n → slice_index least n ≡ m → net_owner c least n ≡ Some m
plain_owner c least n m p e = cond-true (is_plain_at c n) (Some (slice_index least n)) None (is_plain_is c n p) ∙ ap Some e

module _ (c : Circuit) (phase : Phase) (known : List (Option Bool)) (least : List ℕ) (bare : Bool) (table : IsKnownTable c phase (known_at known))
    (are : (n : ℕ) → IsPlain c n → IsLeastTogether c phase bare n (slice_index least n)) where
  pub same_least_net : (n m : ℕ) → IsTogether c phase bare n m → slice_index least n ≡ slice_index least m
  same_least_net n m t =
      let pn = together_first c phase bare n m t in
      let pm = together_plain c phase bare n m t in
      let le = (are n pn).lowest (slice_index least m) (together_further c phase bare n m (slice_index least m) t (are m pm).together) in
      let ge = (are m pm).lowest (slice_index least n) (together_further c phase bare m n (slice_index least n) (together_back c phase bare n m t) (are n pn).together) in
      omega (arith, le, ge)

  -- the nets that a least net owns are those of its part
  owned_together : (m n : ℕ) → net_owner c least n ≡ Some m → IsTogether c phase bare m n
  owned_together m n e =
      let own = owner_plain c least n m e in
      subst (λ (x : ℕ). IsTogether c phase bare x n) own.1 (together_back c phase bare n (slice_index least n) (are n own.0).together)

  together_owned : (m n : ℕ) → slice_index least m ≡ m → IsTogether c phase bare m n → net_owner c least n ≡ Some m
  together_owned m n own t = plain_owner c least n m (together_plain c phase bare m n t) (sym (same_least_net m n t) ∙ own)

  -- so are the devices
  pub device_inside : (m : ℕ) (d : Device) → Among c.devices d → device_owner c known least bare d ≡ Some m → IsInPart c phase bare m d
  device_inside m d there e = pick (is_in bare d && may_conduct (conduction_of known d)) refl (is_plain_at c d.left.0) e
    where
      pick : (b : Bool) → (is_in bare d && may_conduct (conduction_of known d)) ≡ b → (left : Bool)
          → cond b (cond left (net_owner c least d.left.0) (net_owner c least d.right.0)) None ≡ Some m → IsInPart c phase bare m d
      pick true may true e =
          let both = and_parts (is_in bare d) (may_conduct (conduction_of known d)) may in
          (d.left.0, d.right.0, owned_together m d.left.0 e, may_channel c phase known bare d table there both.0 both.1, inl (refl, refl))
      pick true may false e =
          let both = and_parts (is_in bare d) (may_conduct (conduction_of known d)) may in
          (d.right.0, d.left.0, owned_together m d.right.0 e, may_channel c phase known bare d table there both.0 both.1, inr (refl, refl))
      pick false may left e = absurd (none-some m e)

  pub inside_device : (m : ℕ) (d : Device) → slice_index least m ≡ m → IsInPart c phase bare m d → device_owner c known least bare d ≡ Some m
  inside_device m d own inside =
      let channel = inside.3 in
      let may = and_from (is_in bare d) (may_conduct (conduction_of known d)) (device_among bare c d channel.0).1 (channel_may c phase known bare d table channel) in
      cond-true (is_in bare d && may_conduct (conduction_of known d)) (cond (is_plain_at c d.left.0) (net_owner c least d.left.0) (net_owner c least d.right.0)) None may
      ∙ elim (cases_Bool (is_plain_at c d.left.0)) [
        | inl plain ↦ cond-true (is_plain_at c d.left.0) (net_owner c least d.left.0) (net_owner c least d.right.0) plain ∙ at_left (plain_is c d.left.0 plain) inside.4
        | inr given ↦ cond-false (is_plain_at c d.left.0) (net_owner c least d.left.0) (net_owner c least d.right.0) given ∙ at_right given inside.4
      ]
    where
      at_left : IsPlain c d.left.0 → ((d.left.0 ≡ inside.0) × (d.right.0 ≡ inside.1)) ⊎ ((d.left.0 ≡ inside.1) × (d.right.0 ≡ inside.0)) → net_owner c least d.left.0 ≡ Some m
      at_left p (inl j) = together_owned m d.left.0 own (subst (IsTogether c phase bare m) (sym j.0) inside.2)
      at_left p (inr j) = together_owned m d.left.0 own (onward d inside.2 inside.3 (inr (refl, j.1)) p)

      at_right : is_plain_at c d.left.0 ≡ false → ((d.left.0 ≡ inside.0) × (d.right.0 ≡ inside.1)) ⊎ ((d.left.0 ≡ inside.1) × (d.right.0 ≡ inside.0)) → net_owner c least d.right.0 ≡ Some m
      at_right f (inl j) = absurd (false≢true (sym f ∙ is_plain_is c d.left.0 (subst (IsPlain c) (sym j.0) (together_plain c phase bare m inside.0 inside.2))))
      at_right f (inr j) = together_owned m d.right.0 own (subst (IsTogether c phase bare m) (sym j.1) inside.2)

  owner_by : (k : ℕ) (d : Device) → At c.devices k d → device_owner_at c known least bare k ≡ device_owner c known least bare d
  owner_by k d at = ap (λ (o : Option Device). unwrap_or (option_map (device_owner c known least bare) o) None) at

  by_owner : (k m : ℕ) → device_owner_at c known least bare k ≡ Some m → (d : Device) × At c.devices k d × (device_owner c known least bare d ≡ Some m)
  by_owner k m e = pick (slice_get c.devices k) refl e
    where
      pick : (o : Option Device) → slice_get c.devices k ≡ o → unwrap_or (option_map (device_owner c known least bare) o) None ≡ Some m
          → (d : Device) × At c.devices k d × (device_owner c known least bare d ≡ Some m)
      pick None at e = absurd (none-some m e)
      pick (Some d) at e = (d, at, e)

  module _ (ranks : List ℕ) (len : length least ≡ length c.nets) (even : (n m : ℕ) → IsTogether c phase bare n m → slice_index ranks n ≡ slice_index ranks m)
      (nets devices : List (List ℕ)) (net_groups : AreGroups (net_owner c least) (length least) nets)
      (device_groups : AreGroups (device_owner_at c known least bare) (length c.devices) devices) where
    -- the nets of the group of a least net
    part_nets : (m : ℕ) (group : List ℕ) → slice_index least m ≡ m → At nets m group → (n : ℕ) → Among group n ↔ IsTogether c phase bare m n
    part_nets m group own at n = (
      λ a. owned_together m n (((net_groups m group at).own n).0 a).1,
      λ t.
          let p = together_plain c phase bare m n t in
          let inside = slice_get_within c.nets n p.0 p.1 in
          ((net_groups m group at).own n).1 (omega (arith, inside, len), together_owned m n own t),
    )

    part_devices : (m : ℕ) (group : List ℕ) → slice_index least m ≡ m → At devices m group → (k : ℕ) → Among group k ↔ ((d : Device) × At c.devices k d × IsInPart c phase bare m d)
    part_devices m group own at k = (
      λ a.
          let found = by_owner k m (((device_groups m group at).own k).0 a).1 in
          (found.0, found.1, device_inside m found.0 (k, found.1) found.2),
      λ h. ((device_groups m group at).own k).1 (slice_get_within c.devices k h.0 h.1, owner_by k h.0 h.1 ∙ inside_device m h.0 own h.2),
    )

    -- its first is the least net itself
    part_first : (m : ℕ) (group : List ℕ) → IsPlain c m → slice_index least m ≡ m → At nets m group → At group 0 m
    part_first m group p own at =
        first_least group m (net_groups m group at).rising ((part_nets m group own at m).1 (itself p))
        (λ x a. let low = (are m p).lowest x ((part_nets m group own at x).0 a) in omega (arith, low, own))

    made_least : (head : (ℕ × ℕ) × ℕ) (part : Part) → IsPlain c head.1 → slice_index least head.1 ≡ head.1 → IsMade nets devices head part → least_of part ≡ head.1
    made_least head part p own made =
        get_or_from_slice_get (net_numbers part.nets) 0 head.1 0 (part_first head.1 (net_numbers part.nets) p own made.joined)

    made_part : (head : (ℕ × ℕ) × ℕ) (part : Part) → IsPlain c head.1 → slice_index least head.1 ≡ head.1 → head.0.0 ≡ slice_index ranks head.1 → IsMade nets devices head part
        → IsPartOf c phase bare (slice_index ranks) part
    made_part head part p own ranked made =
        let first = part_first head.1 (net_numbers part.nets) p own made.joined in
        let same : head.1 ≡ least_of part = sym (made_least head part p own made) in
        record {
          first = first ∙ ap Some same;
          nets = subst (λ (m : ℕ). (n : ℕ) → Among (net_numbers part.nets) n ↔ IsTogether c phase bare m n) same (part_nets head.1 (net_numbers part.nets) own made.joined);
          net_order = (net_groups head.1 (net_numbers part.nets) made.joined).rising;
          devices = subst (λ (m : ℕ). (k : ℕ) → Among (device_numbers part.devices) k ↔ ((d : Device) × At c.devices k d × IsInPart c phase bare m d)) same
              (part_devices head.1 (device_numbers part.devices) own made.joining);
          device_order = (device_groups head.1 (device_numbers part.devices) made.joining).rising;
          ranked = λ n a. made.ranked ∙ (ranked ∙ even head.1 n ((part_nets head.1 (net_numbers part.nets) own made.joined n).0 a));
        }

    module _ (order : List ((ℕ × ℕ) × ℕ)) (list : List Part) (in_order : AreInOrder c ranks least order) (made : AreMade nets devices (filter is_head order) list) where
      head_own : (head : (ℕ × ℕ) × ℕ) → Among (filter is_head order) head → IsPlain c head.1 × (slice_index least head.1 ≡ head.1) × (head.0.0 ≡ slice_index ranks head.1)
      head_own head m =
          let kept = filter_among is_head order head m in
          let own = in_order.each head kept.0 in
          (own.0, sym (ap (λ (k : ℕ × ℕ). k.1) own.1) ∙ eqb-true head.0.1 head.1 kept.1, ap (λ (k : ℕ × ℕ). k.0) own.1)

      part_each : (part : Part) → Among list part → IsPartOf c phase bare (slice_index ranks) part
      part_each part m =
          let from = made.each m.0 part m.1 in
          let own = head_own from.0 (m.0, from.1) in
          made_part from.0 part own.0 own.1 own.2 from.2

      part_all : (n : ℕ) → IsPlain c n → (part : Part) × Among list part × Among (net_numbers part.nets) n
      part_all n p =
          let m = slice_index least n in
          let t = (are n p).together in
          let pm = together_plain c phase bare n m t in
          let own : slice_index least m ≡ m = sym (same_least_net n m t) in
          let head : (ℕ × ℕ) × ℕ = ((slice_index ranks m, slice_index least m), m) in
          let kept = among_kept is_head order head (in_order.all m pm) (eq-eqb (slice_index least m) m own) in
          let inside = slice_get_within (filter is_head order) kept.0 head kept.1 in
          let count = made.count in
          let there = at_there list kept.0 (omega (arith, inside, count)) in
          let from = made.each kept.0 there.0 there.1 in
          let same : from.0 ≡ head = same_Some from.0 head (sym from.1 ∙ kept.1) in
          let here : At nets m (net_numbers there.0.nets) = subst (λ (h : (ℕ × ℕ) × ℕ). At nets h.1 (net_numbers there.0.nets)) same from.2.joined in
          (there.0, (kept.0, there.1), (part_nets m (net_numbers there.0.nets) own here n).1 (together_back c phase bare n m t))

      part_sorted : (i j : ℕ) (p q : Part) → At list i p → At list j q → i < j → IsBefore p q
      part_sorted i j p q a b lt =
          let left = made.each i p a in
          let right = made.each j q b in
          let own = head_own left.0 (i, left.1) in
          let other = head_own right.0 (j, right.1) in
          let p_rank = left.2.ranked in
          let q_rank = right.2.ranked in
          let p_least = made_least left.0 p own.0 own.1 left.2 in
          let q_least = made_least right.0 q other.0 other.1 right.2 in
          elim (heads_rise c ranks least order in_order i j left.0 right.0 left.1 right.1 lt) [
            | inl lower ↦ inl (omega (arith, lower, p_rank, q_rank))
            | inr tie ↦ (let ranks_same = tie.0 in let less = tie.1 in inr (omega (arith, ranks_same, p_rank, q_rank), omega (arith, less, p_least, q_least)))
          ]

      -- all parts in their order
      pub parts_made : (bits : List (Option Bool)) → bits ≡ known → length known ≡ length c.nets → AreParts c phase bare (slice_index ranks) (record { known = bits; list = list })
      parts_made bits same count = record {
        count = ap length same ∙ count;
        known = subst (λ (t : List (Option Bool)). IsKnownTable c phase (known_at t)) (sym same) table;
        each = part_each;
        all = part_all;
        sorted = part_sorted;
      }
