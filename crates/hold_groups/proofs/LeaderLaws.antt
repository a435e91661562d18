-- One hold more: its end stands among those of the others, or is a new one.
use Rattle.std.proofs.Common.{◌≡◌, ℕ, zero, suc, ◌++◌, ◌∷◌, ◌||◌, [], Bool, true, false, cond, List, Some, None, map, set, append-nil, ap, ap₂, refl, sym, subst, ◌∙◌}
use Rattle.std.specs.Prelude.{filter}
use Rattle.std.specs.List.{cons_option, list_any}
use Rattle.std.proofs.lemmas.Bool.{false≢true}
use Rattle.std.proofs.lemmas.List.{map-append}
use Rattle.std.proofs.lemmas.List.Elements.{filter-append, filter_map-append}
use Rattle.std.proofs.lemmas.Map.Views.{any-filter_same}
use Rattle.std.proofs.lemmas.Option.{same_Some, none-some}
use Rattle.vrt_model.proofs.Members.{among_any}
use Rattle.vrt_model.specs.Groups.{Placed, leaders, same_end}
use Rattle.vrt_model.specs.Lists.{At}
use Rattle.vrt_model.specs.declared.circuit.HoldEnd.{HoldEnd}
use Rattle.vrt_model.specs.declared.groups.Group.{Group}
use Rattle.vrt_model.specs.declared.groups.Member.{Member}
use Rattle.hold_groups.proofs.KeyLaws.{same_ends, same_itself}
use Rattle.hold_groups.specs.Grouped.{element_in, group_in, groups_in, member_of, members_in, new_group, with_member}

abbrev pub same : Placed → Placed → Bool
same h other = same_end h.hold.end other.hold.end

pub turned : (a b : HoldEnd) → same_end a b ≡ true → same_end b a ≡ true
turned a b e = subst (λ (x : HoldEnd). same_end x a ≡ true) (same_ends a b e) (same_itself a)

turned_false : (a b : HoldEnd) → same_end a b ≡ false → same_end b a ≡ false
turned_false a b e = by_test (same_end b a) refl
  where
    by_test : (t : Bool) → same_end b a ≡ t → t ≡ false
    by_test true h = absurd (false≢true (sym e ∙ turned b a h))
    by_test false h = refl

-- ---- no two leaders have one end

abbrev pub AreApart : List Placed → Type 0
AreApart [] = Unit {0}
AreApart (x ∷ xs) = (list_any (same x) xs ≡ false) × AreApart xs

none_left : {X : Type 0} (p : X → Bool) (xs : List X) → list_any p (filter (λ (x : X). cond (p x) false true) xs) ≡ false
none_left p [] = refl
none_left {X} p (x ∷ xs) = by_test (p x) refl (none_left p xs)
  where
    by_test : (b : Bool) → p x ≡ b → list_any p (filter (λ (x : X). cond (p x) false true) xs) ≡ false
        → list_any p (cond (cond b false true) (x ∷ filter (λ (x : X). cond (p x) false true) xs) (filter (λ (x : X). cond (p x) false true) xs)) ≡ false
    by_test true e rest = rest
    by_test false e rest = ap (λ (t : Bool). t || list_any p (filter (λ (x : X). cond (p x) false true) xs)) e ∙ rest

none_kept : {X : Type 0} (q p : X → Bool) (xs : List X) → list_any q xs ≡ false → list_any q (filter p xs) ≡ false
none_kept q p [] e = refl
none_kept {X} q p (x ∷ xs) e = by_tests (p x) (q x) refl (none_kept q p xs) e
  where
    by_tests : (a b : Bool) → q x ≡ b → (list_any q xs ≡ false → list_any q (filter p xs) ≡ false) → (b || list_any q xs) ≡ false → list_any q (cond a (x ∷ filter p xs) (filter p xs)) ≡ false
    by_tests a true h rest e = absurd (false≢true (sym e))
    by_tests true false h rest e = ap (λ (t : Bool). t || list_any q (filter p xs)) h ∙ rest e
    by_tests false false h rest e = rest e

apart_kept : (p : Placed → Bool) (xs : List Placed) → AreApart xs → AreApart (filter p xs)
apart_kept p [] apart = tt
apart_kept p (x ∷ xs) apart = by_test (p x) (apart_kept p xs apart.1)
  where
    by_test : (b : Bool) → AreApart (filter p xs) → AreApart (cond b (x ∷ filter p xs) (filter p xs))
    by_test true rest = (none_kept (same x) p xs apart.0, rest)
    by_test false rest = rest

pub leaders_apart : (hs : List Placed) → AreApart (leaders hs)
leaders_apart [] = tt
leaders_apart (h ∷ hs) = (none_left (same h) (leaders hs), apart_kept (λ (other : Placed). cond (same h other) false true) (leaders hs) (leaders_apart hs))

-- ---- those with another end

abbrev pub others : Placed → List Placed → List Placed
others d hs = filter (λ (other : Placed). cond (same d other) false true) hs

gone : (d h : Placed) (hs : List Placed) → same d h ≡ true → others d (hs ++ h ∷ []) ≡ others d hs
gone d h hs e = filter-append (λ (other : Placed). cond (same d other) false true) hs (h ∷ []) ∙ ap (λ (b : Bool). others d hs ++ cond (cond b false true) (h ∷ []) []) e ∙ append-nil (others d hs)

stays : (d h : Placed) (hs : List Placed) → same d h ≡ false → others d (hs ++ h ∷ []) ≡ others d hs ++ h ∷ []
stays d h hs e = filter-append (λ (other : Placed). cond (same d other) false true) hs (h ∷ []) ∙ ap (λ (b : Bool). others d hs ++ cond (cond b false true) (h ∷ []) []) e

other_ends : (h d : Placed) → same h d ≡ false → (hs : List Placed) → list_any (same h) (others d hs) ≡ list_any (same h) hs
other_ends h d e hs = any-filter_same (same h) (λ (other : Placed). cond (same d other) false true) true kept hs
  where
    kept : (k : Placed) → same h k ≡ true → cond (same d k) false true ≡ true
    kept k t =
        ap (λ (x : Bool). cond x false true)
        (subst (λ (end : HoldEnd). same_end d.hold.end end ≡ false) (same_ends h.hold.end k.hold.end t) (turned_false h.hold.end d.hold.end e))

-- an end stands among the leaders where it stands among the holds
pub among_leaders : (h : Placed) (hs : List Placed) → list_any (same h) (leaders hs) ≡ list_any (same h) hs
among_leaders h [] = refl
among_leaders h (d ∷ ds) = by_test (same h d) refl (among_leaders h ds)
  where
    by_test : (b : Bool) → same h d ≡ b → list_any (same h) (leaders ds) ≡ list_any (same h) ds → (b || list_any (same h) (others d (leaders ds))) ≡ (b || list_any (same h) ds)
    by_test true e rest = refl
    by_test false e rest = other_ends h d e (leaders ds) ∙ rest

-- ---- leaders of one hold more

one_more : (h d : Placed) (hs : List Placed) (t s : Bool) → list_any (same h) hs ≡ t → same h d ≡ s
    → (d ∷ others d (cond t hs (hs ++ h ∷ []))) ≡ cond (s || list_any (same h) (others d hs)) (d ∷ others d hs) ((d ∷ others d hs) ++ h ∷ [])
one_more h d hs true true e f = refl
one_more h d hs false true e f = ap (λ (xs : List Placed). d ∷ xs) (gone d h hs (turned h.hold.end d.hold.end f))
one_more h d hs true false e f = sym (ap (λ (b : Bool). cond b (d ∷ others d hs) ((d ∷ others d hs) ++ h ∷ [])) (other_ends h d f hs ∙ e))
one_more h d hs false false e f =
    ap (λ (xs : List Placed). d ∷ xs) (stays d h hs (turned_false h.hold.end d.hold.end f))
    ∙ sym (ap (λ (b : Bool). cond b (d ∷ others d hs) ((d ∷ others d hs) ++ h ∷ [])) (other_ends h d f hs ∙ e))

pub leaders_more : (h : Placed) (done : List Placed) → leaders (done ++ h ∷ []) ≡ cond (list_any (same h) (leaders done)) (leaders done) (leaders done ++ h ∷ [])
leaders_more h [] = refl
leaders_more h (d ∷ ds) = ap (λ (hs : List Placed). d ∷ others d hs) (leaders_more h ds) ∙ one_more h d (leaders ds) (list_any (same h) (leaders ds)) (same h d) refl refl

-- ---- members of one hold more

abbrev joins : Placed → HoldEnd → List Member
joins h end = cond (same_end h.hold.end end) (member_of h ∷ []) []

pub members_more : (h : Placed) (done : List Placed) (end : HoldEnd) → members_in (done ++ h ∷ []) end ≡ members_in done end ++ joins h end
members_more h done end =
    filter_map-append (λ (x : Placed). cond (same_end x.hold.end end) (Some (member_of x)) None) done (h ∷ []) ∙ ap (λ (ms : List Member). members_in done end ++ ms) (by_test (same_end h.hold.end end))
  where
    by_test : (b : Bool) → cons_option (cond b (Some (member_of h)) None) [] ≡ cond b (member_of h ∷ []) []
    by_test true = refl
    by_test false = refl

no_members : (h : Placed) (hs : List Placed) → list_any (same h) hs ≡ false → members_in hs h.hold.end ≡ []
no_members h [] e = refl
no_members h (d ∷ ds) e = by_test (same h d) refl e (no_members h ds)
  where
    by_test : (b : Bool) → same h d ≡ b → (b || list_any (same h) ds) ≡ false → (list_any (same h) ds ≡ false → members_in ds h.hold.end ≡ [])
        → cons_option (cond (same_end d.hold.end h.hold.end) (Some (member_of d)) None) (members_in ds h.hold.end) ≡ []
    by_test true f e rest = absurd (false≢true (sym e))
    by_test false f e rest =
        ap (λ (b : Bool). cons_option (cond b (Some (member_of d)) None) (members_in ds h.hold.end)) (turned_false h.hold.end d.hold.end f) ∙ rest e

-- ---- groups of one hold more

module _ (elements : List (List ℕ)) (h : Placed) (done : List Placed) where
  abbrev before : Placed → Group
  before x = group_in elements done x.hold.end

  abbrev after : Placed → Group
  after x = group_in elements (done ++ h ∷ []) x.hold.end

  abbrev with_members : Placed → List Member → Group
  with_members x members = record { members = members; element = element_in elements x.hold.end }

  hit : (x : Placed) → same h x ≡ true → after x ≡ with_member (before x) (member_of h)
  hit x e = ap (with_members x) (members_more h done x.hold.end ∙ ap (λ (b : Bool). members_in done x.hold.end ++ cond b (member_of h ∷ []) []) e)

  not_hit : (x : Placed) → same h x ≡ false → after x ≡ before x
  not_hit x e =
      ap (with_members x) (members_more h done x.hold.end ∙ ap (λ (b : Bool). members_in done x.hold.end ++ cond b (member_of h ∷ []) []) e ∙ append-nil (members_in done x.hold.end))

  none_hit : (xs : List Placed) → list_any (same h) xs ≡ false → map after xs ≡ map before xs
  none_hit [] e = refl
  none_hit (x ∷ xs) e = by_test (same h x) refl e (none_hit xs)
    where
      by_test : (b : Bool) → same h x ≡ b → (b || list_any (same h) xs) ≡ false → (list_any (same h) xs ≡ false → map after xs ≡ map before xs) → map after (x ∷ xs) ≡ map before (x ∷ xs)
      by_test true f e rest = absurd (false≢true (sym e))
      by_test false f e rest = ap₂ (λ (g : Group) (gs : List Group). g ∷ gs) (not_hit x f) (rest e)

  -- the one leader that has the end of the hold
  one_hit : (xs : List Placed) (n : ℕ) (x : Placed) → AreApart xs → At xs n x → same h x ≡ true → map after xs ≡ set (map before xs) n (with_member (before x) (member_of h))
  one_hit [] n x apart there e = absurd (none-some x there)
  one_hit (y ∷ ys) zero x apart there e =
      let is : y ≡ x = same_Some y x there in
      ap₂ (λ (g : Group) (gs : List Group). g ∷ gs) (ap after is ∙ hit x e)
      (none_hit ys
      (subst (λ (end : HoldEnd). list_any (λ (other : Placed). same_end end other.hold.end) ys ≡ false)
      (ap (λ (p : Placed). p.hold.end) is ∙ sym (same_ends h.hold.end x.hold.end e)) apart.0))
  one_hit (y ∷ ys) (suc n) x apart there e =
      ap₂ (λ (g : Group) (gs : List Group). g ∷ gs) (not_hit y (other (same h y) refl)) (one_hit ys n x apart.1 there e)
    where
      other : (b : Bool) → same h y ≡ b → b ≡ false
      other true f =
          let both : same y x ≡ true = subst (λ (end : HoldEnd). same_end end x.hold.end ≡ true) (same_ends h.hold.end y.hold.end f) e in
          absurd (false≢true (sym apart.0 ∙ among_any (same y) ys x (n, there) both))
      other false f = refl

  -- the hold joins a group
  pub joined : (n : ℕ) (x : Placed) → At (leaders done) n x → same h x ≡ true → groups_in elements (done ++ h ∷ []) ≡ set (groups_in elements done) n (with_member (before x) (member_of h))
  joined n x there e =
      ap (map after) (leaders_more h done ∙ ap (λ (b : Bool). cond b (leaders done) (leaders done ++ h ∷ [])) (among_any (same h) (leaders done) x (n, there) e))
      ∙ one_hit (leaders done) n x (leaders_apart done) there e

  -- the hold begins a group
  pub begun : list_any (same h) (leaders done) ≡ false → groups_in elements (done ++ h ∷ []) ≡ groups_in elements done ++ new_group elements (member_of h) h.hold.end ∷ []
  begun e =
      ap (map after) (leaders_more h done ∙ ap (λ (b : Bool). cond b (leaders done) (leaders done ++ h ∷ [])) e)
      ∙ map-append after (leaders done) (h ∷ [])
      ∙ ap₂ (λ (gs : List Group) (g : Group). gs ++ g ∷ []) (none_hit (leaders done) e)
      (hit h (same_itself h.hold.end) ∙ ap (λ (ms : List Member). with_members h (ms ++ member_of h ∷ [])) (no_members h done (sym (among_leaders h done) ∙ e)))
