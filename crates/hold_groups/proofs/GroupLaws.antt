-- Each hold of a well-formed circuit stands at exactly one place of the groups.
use Rattle.std.proofs.Common.{◌≡◌, ℕ, zero, suc, ◌+◌, ◌++◌, ◌∷◌, [], Bool, true, false, cond, List, Some, None, length, set, get_or, length-append, append_assoc, append-nil, option_map, arith, ap, refl, sym, subst, ◌∙◌}
use Rattle.std.specs.Prelude.{slice_get, sum_by}
use Rattle.std.specs.List.{cons_option, list_any}
use Rattle.std.proofs.lemmas.Bool.{false≢true}
use Rattle.std.proofs.lemmas.List.Sums.{sum_by-append, sum_by-set}
use Rattle.std.proofs.lemmas.Option.{get_or_from_slice_get, none-some, same_Some, slice_get-map, slice_get_within}
use Rattle.vrt_model.proofs.Lists.{at_map, at_there}
use Rattle.vrt_model.proofs.Members.{among_any, among_later, any_among}
use Rattle.vrt_model.specs.Circuits.{IsCircuit}
use Rattle.vrt_model.specs.Groups.{Placed, holds_by_net, leaders, same_end}
use Rattle.vrt_model.specs.Lists.{Among, At}
use Rattle.vrt_model.specs.declared.circuit.Circuit.{Circuit}
use Rattle.vrt_model.specs.declared.circuit.Hold.{Hold}
use Rattle.vrt_model.specs.declared.circuit.HoldEnd.{HoldEnd}
use Rattle.vrt_model.specs.declared.groups.Group.{Group}
use Rattle.vrt_model.specs.declared.groups.Member.{Member}
use Rattle.hold_groups.proofs.KeyLaws.{same_ends, same_itself}
use Rattle.hold_groups.proofs.LeaderLaws.{AreApart, among_leaders, begun, joined, leaders_apart, same, turned}
use Rattle.hold_groups.proofs.NetOrder.{mark}
use Rattle.hold_groups.proofs.PlacedLaws.{AreRising, above, holds_among, holds_count, holds_rise, same_place}
use Rattle.hold_groups.specs.Grouped.{AreGroups, IsMemberAt, group_in, groups_in, member_of, members_in, new_group, with_member}

-- ---- lists

-- ---- members

-- a member is a hold with the end
member_from : (hs : List Placed) (end : HoldEnd) (m : ℕ) (a : Member) → At (members_in hs end) m a
    → (x : Placed) × Among hs x × (same_end x.hold.end end ≡ true) × (a ≡ member_of x)
member_from [] end m a e = absurd (none-some a e)
member_from (h ∷ hs) end m a e = by_test (same_end h.hold.end end) refl m e (λ k. member_from hs end k a)
  where
    by_test : (b : Bool) → same_end h.hold.end end ≡ b → (m : ℕ) → At (cons_option (cond b (Some (member_of h)) None) (members_in hs end)) m a
        → ((k : ℕ) → At (members_in hs end) k a → (x : Placed) × Among hs x × (same_end x.hold.end end ≡ true) × (a ≡ member_of x))
        → (x : Placed) × Among (h ∷ hs) x × (same_end x.hold.end end ≡ true) × (a ≡ member_of x)
    by_test true t zero e rest = (h, (0, refl), t, sym (same_Some (member_of h) a e))
    by_test true t (suc m) e rest = let found = rest m e in (found.0, among_later h hs found.0 found.1, found.2, found.3)
    by_test false t m e rest = let found = rest m e in (found.0, among_later h hs found.0 found.1, found.2, found.3)

-- a hold with the end is a member
member_at : (hs : List Placed) (end : HoldEnd) (x : Placed) → Among hs x → same_end x.hold.end end ≡ true → Among (members_in hs end) (member_of x)
member_at [] end x m t = absurd (none-some x m.1)
member_at (h ∷ hs) end x (zero, e) t =
    (0, ap (λ (b : Bool). slice_get (cons_option (cond b (Some (member_of h)) None) (members_in hs end)) 0) (ap (λ (p : Placed). same_end p.hold.end end) (same_Some h x e) ∙ t) ∙ ap (λ (p : Placed). Some (member_of p)) (same_Some h x e))
member_at (h ∷ hs) end x (suc i, e) t = by_test (same_end h.hold.end end) (member_at hs end x (i, e) t)
  where
    by_test : (b : Bool) → Among (members_in hs end) (member_of x) → Among (cons_option (cond b (Some (member_of h)) None) (members_in hs end)) (member_of x)
    by_test true m = (suc m.0, m.1)
    by_test false m = m

-- ---- leaders

leaders_once : (xs : List Placed) (g h : ℕ) (a b : Placed) → AreApart xs → At xs g a → At xs h b → same a b ≡ true → g ≡ h
leaders_once [] g h a b apart p q t = absurd (none-some a p)
leaders_once (x ∷ xs) zero zero a b apart p q t = refl
leaders_once (x ∷ xs) zero (suc h) a b apart p q t =
    absurd (false≢true (sym apart.0 ∙ among_any (same x) xs b (h, q) (ap (λ (y : Placed). same y b) (same_Some x a p) ∙ t)))
leaders_once (x ∷ xs) (suc g) zero a b apart p q t =
    absurd (false≢true (sym apart.0 ∙ among_any (same x) xs a (g, p) (ap (λ (y : Placed). same y a) (same_Some x b q) ∙ turned a.hold.end b.hold.end t)))
leaders_once (x ∷ xs) (suc g) (suc h) a b apart p q t = ap suc (leaders_once xs g h a b apart.1 p q t)

module _ (c : Circuit) (circuit : IsCircuit c) where
  -- a hold is one member alone
  members_once : (k : ℕ) (hs : List Placed) → AreRising k hs → ((h : Placed) → Among hs h → Among (holds_by_net c) h) → (end : HoldEnd) (m n : ℕ) (a b : Member)
      → At (members_in hs end) m a → At (members_in hs end) n b → a.hold ≡ b.hold → m ≡ n
  members_once k [] r inside end m n a b p q e = absurd (none-some a p)
  members_once k (h ∷ hs) r inside end m n a b p q e =
      by_test (same_end h.hold.end end) m n p q (λ i j. members_once (suc h.hold.net.0) hs r.1 (λ x t. inside x (among_later h hs x t)) end i j a b)
    where
      apart : (i : ℕ) (u v : Member) → member_of h ≡ u → At (members_in hs end) i v → u.hold ≡ v.hold → ⊥
      apart i u v is at same_hold =
          let y = member_from hs end i v at in
          let place : h.place ≡ y.0.place = ap (λ (w : Member). w.hold) is ∙ same_hold ∙ ap (λ (w : Member). w.hold) y.3 in
          let one : h.hold ≡ y.0.hold = same_place c circuit h y.0 (inside h (0, refl)) (inside y.0 (among_later h hs y.0 y.1)) place in
          let net : h.hold.net.0 ≡ y.0.hold.net.0 = ap (λ (w : Hold). w.net.0) one in
          let high = above (suc h.hold.net.0) hs y.0 r.1 y.1 in
          absurd (omega (arith, high, net))

      by_test : (t : Bool) (m n : ℕ) → At (cons_option (cond t (Some (member_of h)) None) (members_in hs end)) m a → At (cons_option (cond t (Some (member_of h)) None) (members_in hs end)) n b
          → ((i j : ℕ) → At (members_in hs end) i a → At (members_in hs end) j b → a.hold ≡ b.hold → i ≡ j) → m ≡ n
      by_test true zero zero p q rest = refl
      by_test true zero (suc n) p q rest = absurd (apart n a b (same_Some (member_of h) a p) q e)
      by_test true (suc m) zero p q rest = absurd (apart m b a (same_Some (member_of h) b q) p (sym e))
      by_test true (suc m) (suc n) p q rest = ap suc (rest m n p q e)
      by_test false m n p q rest = rest m n p q e

module _ (elements : List (List ℕ)) where
  abbrev group_by : List Placed → Placed → Group
  group_by hs x = group_in elements hs x.hold.end

  abbrev size : Group → ℕ
  size g = length g.members

  sum_more : (done : List Placed) (h : Placed) → sum_by size (groups_in elements (done ++ h ∷ [])) ≡ sum_by size (groups_in elements done) + 1
  sum_more done h = by_test (list_any (same h) (leaders done)) refl
    where
      by_test : (b : Bool) → list_any (same h) (leaders done) ≡ b → sum_by size (groups_in elements (done ++ h ∷ [])) ≡ sum_by size (groups_in elements done) + 1
      by_test true e =
          let found = any_among (same h) (leaders done) e in
          let n = found.1.0 in
          let group : Group = group_by done found.0 in
          let there : At (groups_in elements done) n group = slice_get-map (group_by done) (leaders done) n ∙ ap (option_map (group_by done)) found.1.1 in
          let whole = sum_by-set size (groups_in elements done) n (with_member group (member_of h)) group (slice_get_within (groups_in elements done) n group there) in
          let here : size (get_or (groups_in elements done) n group) ≡ size group = ap size (get_or_from_slice_get (groups_in elements done) n group group there) in
          let len = length-append group.members (member_of h ∷ []) in
          let is : sum_by size (groups_in elements (done ++ h ∷ [])) ≡ sum_by size (set (groups_in elements done) n (with_member group (member_of h))) = ap (sum_by size) (joined elements h done n found.0 found.1.1 found.2) in
          omega (arith, whole, here, len, is)
      by_test false e =
          let is : sum_by size (groups_in elements (done ++ h ∷ [])) ≡ sum_by size (groups_in elements done ++ new_group elements (member_of h) h.hold.end ∷ []) = ap (sum_by size) (begun elements h done e) in
          let sum = sum_by-append size (groups_in elements done) (new_group elements (member_of h) h.hold.end ∷ []) in
          omega (arith, is, sum)

  sum_all : (rest done : List Placed) → sum_by size (groups_in elements (done ++ rest)) ≡ sum_by size (groups_in elements done) + length rest
  sum_all [] done = ap (λ (hs : List Placed). sum_by size (groups_in elements hs)) (append-nil done) ∙ omega arith
  sum_all (h ∷ rest) done =
      let split : sum_by size (groups_in elements (done ++ h ∷ rest)) ≡ sum_by size (groups_in elements ((done ++ h ∷ []) ++ rest)) = ap (λ (hs : List Placed). sum_by size (groups_in elements hs)) (sym (append_assoc done (h ∷ []) rest)) in
      let later = sum_all rest (done ++ h ∷ []) in
      let one = sum_more done h in
      omega (arith, split, later, one)

  -- what a place of a hold says
  record Stands (c : Circuit) (g m hold : ℕ) : Type 0 where
    pub lead : Placed
    pub there : At (leaders (holds_by_net c)) g lead
    pub one : Placed
    pub among : Among (holds_by_net c) one
    pub end : one.hold.end ≡ lead.hold.end
    pub member : Member
    pub at : At (members_in (holds_by_net c) lead.hold.end) m member
    pub is : member.hold ≡ hold
    pub place : one.place ≡ hold

  stands : (c : Circuit) (g m hold : ℕ) → IsMemberAt (groups_in elements (holds_by_net c)) g m hold → Stands c g m hold
  stands c g m hold is =
      let found = at_map (group_by (holds_by_net c)) (leaders (holds_by_net c)) g is.group is.there in
      let at : At (members_in (holds_by_net c) found.0.hold.end) m is.member = subst (λ (group : Group). At group.members m is.member) (sym found.2) is.joined in
      let one = member_from (holds_by_net c) found.0.hold.end m is.member at in
      record {
        lead = found.0;
        there = found.1;
        one = one.0;
        among = one.1;
        end = same_ends one.0.hold.end found.0.hold.end one.2;
        member = is.member;
        at = at;
        is = is.is;
        place = sym (ap (λ (w : Member). w.hold) one.3) ∙ is.is;
      }

  pub are_groups : (c : Circuit) → IsCircuit c → AreGroups c (groups_in elements (holds_by_net c))
  are_groups c circuit = record {
    some = λ hold lt.
        let h = at_there c.holds hold lt in
        let x : Placed = mark (hold, h.0) in
        let among = holds_among c circuit hold h.0 h.1 in
        let lead = any_among (same x) (leaders (holds_by_net c)) (among_leaders x (holds_by_net c) ∙ among_any (same x) (holds_by_net c) x among (same_itself x.hold.end)) in
        let member = member_at (holds_by_net c) lead.0.hold.end x among lead.2 in (
          lead.1.0,
          member.0,
          record {
            group = group_by (holds_by_net c) lead.0;
            member = member_of x;
            there = slice_get-map (group_by (holds_by_net c)) (leaders (holds_by_net c)) lead.1.0 ∙ ap (option_map (group_by (holds_by_net c))) lead.1.1;
            joined = member.1;
            is = refl;
          },
        );
    once = λ g h m n hold p q.
        let a = stands c g m hold p in
        let b = stands c h n hold q in
        let holds : a.one.hold ≡ b.one.hold = same_place c circuit a.one b.one a.among b.among (a.place ∙ sym b.place) in
        let ends : a.lead.hold.end ≡ b.lead.hold.end = sym a.end ∙ ap (λ (x : Hold). x.end) holds ∙ b.end in
        let both : same a.lead b.lead ≡ true = ap (λ (end : HoldEnd). same_end a.lead.hold.end end) (sym ends) ∙ same_itself a.lead.hold.end in (
          leaders_once (leaders (holds_by_net c)) g h a.lead b.lead (leaders_apart (holds_by_net c)) a.there b.there both,
          members_once c circuit 0 (holds_by_net c) (holds_rise c) (λ x i. i) b.lead.hold.end m n a.member b.member
              (subst (λ (end : HoldEnd). At (members_in (holds_by_net c) end) m a.member) ends a.at) b.at (a.is ∙ sym b.is),
        );
    count =
        let sum = sum_all (holds_by_net c) [] in
        let few = holds_count c circuit in
        omega (arith, sum, few);
  }
