-- A hold is added to the group that has the number of the key of its end.
use Rattle.std.proofs.Common.{◌≡◌, ℕ, zero, suc, ◌+◌, ◌<◌, ◌≤◌, ◌++◌, ◌∷◌, ◌||◌, [], Bool, true, false, cond, List, Option, Some, None, length, map, get_or, set, take, option_map, arith, ap, ap₂, refl, sym, subst, ◌∙◌, inl, inr}
use Rattle.std.specs.Prelude.{bytes_eq, slice_get}
use Rattle.std.specs.List.{list_any}
use Rattle.std.proofs.lemmas.Bool.{cases_lt, false≢true}
use Rattle.std.proofs.lemmas.Option.{get_or_from_slice_get, same_Some, none-some, slice_get-map}
use Rattle.std.proofs.lemmas.List.{length-map, map-append}
use Rattle.std.proofs.lemmas.Slice.Eq.{bytes_eq-Decides}
use Rattle.vrt_model.proofs.Lists.{at_left, at_there, take_one}
use Rattle.names.specs.Names.{with_name}
use Rattle.vrt_model.specs.Lists.{has_name, Among, At}
use Rattle.vrt_model.proofs.Members.{among_any, among_either, among_filter, among_later, among_left, among_right}
use Rattle.vrt_model.specs.Groups.{Placed, holds_by_net, leaders, same_end}
use Rattle.vrt_model.specs.declared.circuit.Circuit.{Circuit}
use Rattle.vrt_model.specs.declared.circuit.HoldEnd.{HoldEnd}
use Rattle.vrt_model.specs.declared.groups.Group.{Group}
use Rattle.hold_groups.proofs.KeyLaws.{same_ends, same_itself, same_keys}
use Rattle.hold_groups.proofs.LeaderLaws.{begun, joined, leaders_more, same}
use Rattle.hold_groups.proofs.PlacedLaws.{hold_there}
use Rattle.hold_groups.specs.Grouped.{Joins, group_in, groups_in, key_of, keys_in, member_of, new_group, places_by_net, with_member}
use Rattle.hold_groups.specs.Steps.{AreGrouped, IsSmall}

-- a leader is one of the holds
pub leader_among : (hs : List Placed) (x : Placed) → Among (leaders hs) x → Among hs x
leader_among [] x m = m
leader_among (h ∷ hs) x (zero, e) = (zero, e)
leader_among (h ∷ hs) x (suc i, e) = among_later h hs x (leader_among hs x (among_filter (λ (other : Placed). cond (same h other) false true) (leaders hs) x (i, e)))

abbrev key : Placed → List ℕ
key h = key_of h.hold.end

-- the key of a hold is among those of others where its end is
keys_any : (h : Placed) (xs : List Placed) → IsSmall h → ((x : Placed) → Among xs x → IsSmall x) → has_name (map key xs) (key h) ≡ list_any (same h) xs
keys_any h [] low small = refl
keys_any h (x ∷ xs) low small = ap₂ (λ (a b : Bool). a || b) (by_tests (bytes_eq (key h) (key x)) (same h x) refl refl) (keys_any h xs low (λ y m. small y (among_later x xs y m)))
  where
    by_tests : (a b : Bool) → bytes_eq (key h) (key x) ≡ a → same h x ≡ b → a ≡ b
    by_tests true true e f = refl
    by_tests false false e f = refl
    by_tests true false e f =
        absurd
        (false≢true
        (sym f ∙ ap (λ (end : HoldEnd). same_end h.hold.end end) (sym (same_keys h.hold.end x.hold.end low (small x (zero, refl)) ((bytes_eq-Decides (key h) (key x)).0 e))) ∙ same_itself h.hold.end))
    by_tests false true e f = absurd (false≢true (sym e ∙ (bytes_eq-Decides (key h) (key x)).1 (ap key_of (same_ends h.hold.end x.hold.end f))))

module _ (elements : List (List ℕ)) (done : List Placed) (h : Placed) (low : IsSmall h) (small : (x : Placed) → Among done x → IsSmall x) where
  leaders_small : (x : Placed) → Among (leaders done) x → IsSmall x
  leaders_small x m = small x (leader_among done x m)

  small_more : (x : Placed) → Among (done ++ h ∷ []) x → IsSmall x
  small_more x m = elim (among_either done (h ∷ []) x m) [ inl there ↦ small x there | inr there ↦ last there ]
    where
      last : Among (h ∷ []) x → IsSmall x
      last (zero, e) = subst IsSmall (same_Some h x e) low
      last (suc i, e) = absurd (none-some x e)

  keys_more : with_name (keys_in done) (key h) ≡ keys_in (done ++ h ∷ [])
  keys_more =
      ap (λ (b : Bool). cond b (keys_in done) (keys_in done ++ key h ∷ [])) (keys_any h (leaders done) low leaders_small)
      ∙ by_test (list_any (same h) (leaders done)) ∙ sym (ap (map key) (leaders_more h done))
    where
      by_test : (b : Bool) → cond b (keys_in done) (keys_in done ++ key h ∷ []) ≡ map key (cond b (leaders done) (leaders done ++ h ∷ []))
      by_test true = refl
      by_test false = sym (map-append key (leaders done) (h ∷ []))

  -- the leader at the place of a key
  leader_at : (xs : List Placed) (n : ℕ) → ((x : Placed) → Among xs x → IsSmall x) → slice_get (map key xs) n ≡ Some (key h) → (x : Placed) × At xs n x × (same h x ≡ true)
  leader_at xs n smalls e = by_item (slice_get xs n) refl (sym (slice_get-map key xs n) ∙ e)
    where
      by_item : (o : Option Placed) → slice_get xs n ≡ o → option_map key o ≡ Some (key h) → (x : Placed) × At xs n x × (same h x ≡ true)
      by_item None f g = absurd (none-some (key h) g)
      by_item (Some x) f g =
          (x, f, ap (λ (end : HoldEnd). same_end h.hold.end end) (same_keys x.hold.end h.hold.end (smalls x (n, f)) low (same_Some (key x) (key h) g)) ∙ same_itself h.hold.end)

  wider : (x : Placed) → Among (leaders done ++ h ∷ []) x → Among (done ++ h ∷ []) x
  wider x m = elim (among_either (leaders done) (h ∷ []) x m) [ inl before ↦ among_left done (h ∷ []) x (leader_among done x before) | inr last ↦ among_right done (h ∷ []) x last ]

  -- a hold with a new end is the last leader
  past : (n : ℕ) (x : Placed) → list_any (same h) (leaders done) ≡ false → At (leaders done ++ h ∷ []) n x → same h x ≡ true → length (leaders done) ≤ n
  past n x e there t =
      elim (cases_lt n (length (leaders done))) [
        | inl lt ↦ absurd (false≢true (sym e ∙ among_any (same h) (leaders done) x (n, at_left (leaders done) (h ∷ []) n x lt there) t))
        | inr ge ↦ ge
      ]

  there : (b : Bool) (n : ℕ) → slice_get (keys_in (done ++ h ∷ [])) n ≡ Some (key h) → list_any (same h) (leaders done) ≡ b
      → slice_get (map key (cond b (leaders done) (leaders done ++ h ∷ []))) n ≡ Some (key h)
  there b n at e = ap (λ (xs : List Placed). slice_get (map key xs) n) (sym (leaders_more h done ∙ ap (λ (t : Bool). cond t (leaders done) (leaders done ++ h ∷ [])) e)) ∙ at

  -- the groups of one hold more
  grouped : (groups groups' : List Group) (n : ℕ) → groups ≡ groups_in elements done → slice_get (keys_in (done ++ h ∷ [])) n ≡ Some (key h)
      → Joins elements n (member_of h) h.hold.end groups groups' → groups' ≡ groups_in elements (done ++ h ∷ [])
  grouped groups groups' n are at joins = by_test (list_any (same h) (leaders done)) refl
    where
      by_test : (b : Bool) → list_any (same h) (leaders done) ≡ b → groups' ≡ groups_in elements (done ++ h ∷ [])
      by_test true e =
          let found = leader_at (leaders done) n leaders_small (there true n at e) in
          let x = found.0 in
          let group : Group = group_in elements done x.hold.end in
          let at_group : At groups n group =
          ap (λ (gs : List Group). slice_get gs n) are ∙ slice_get-map (λ (y : Placed). group_in elements done y.hold.end) (leaders done) n ∙ ap (option_map (λ (y : Placed). group_in elements done y.hold.end)) found.1 in
          joins.one_more group at_group ∙ ap (λ (gs : List Group). set gs n (with_member group (member_of h))) are ∙ sym (joined elements h done n x found.1 found.2)
      by_test false e =
          let found = leader_at (leaders done ++ h ∷ []) n (λ x m. small_more x (wider x m)) (there false n at e) in
          let high = past n found.0 e found.1 found.2 in
          let count : length groups ≡ length (leaders done) = ap length are ∙ length-map (leaders done) (λ (y : Placed). group_in elements done y.hold.end) in
          joins.one_new (omega (arith, high, count)) ∙ ap (λ (gs : List Group). gs ++ new_group elements (member_of h) h.hold.end ∷ []) are ∙ sym (begun elements h done e)

-- one hold was added
pub hold_added : (elements : List (List ℕ)) (done : List Placed) (h : Placed) (keys keys' : List (List ℕ)) (groups groups' : List Group) (n : ℕ) → IsSmall h
    → AreGrouped elements done keys groups → keys' ≡ with_name keys (key_of h.hold.end) → slice_get keys' n ≡ Some (key_of h.hold.end)
    → Joins elements n (member_of h) h.hold.end groups groups' → AreGrouped elements (done ++ h ∷ []) keys' groups'
hold_added elements done h keys keys' groups groups' n low are next at joins =
    let keys_are : keys' ≡ keys_in (done ++ h ∷ []) = next ∙ ap (λ (ks : List (List ℕ)). with_name ks (key h)) are.keys_are ∙ keys_more elements done h low are.small in
    record {
      small = small_more elements done h low are.small;
      keys_are = keys_are;
      groups_are = grouped elements done h low are.small groups groups' n are.groups_are (ap (λ (ks : List (List ℕ)). slice_get ks n) (sym keys_are) ∙ at) joins;
    }

-- one place more
pub next_place : (c : Circuit) (elements : List (List ℕ)) (i : ℕ) (places : List ℕ) (place : ℕ) (keys keys' : List (List ℕ)) (groups groups' : List Group)
    → places ≡ places_by_net c → i < length places → get_or places i 0 ≡ place → AreGrouped elements (take i (holds_by_net c)) keys groups
    → ((done : List Placed) (h : Placed) → AreGrouped elements done keys groups → place ≡ h.place → At c.holds h.place h.hold → AreGrouped elements (done ++ h ∷ []) keys' groups')
    → AreGrouped elements (take (i + 1) (holds_by_net c)) keys' groups'
next_place c elements i places place keys keys' groups groups' are lt is so_far step =
    let hs = holds_by_net c in
    let low : i < length hs = (let len : length places ≡ length hs = ap (λ (xs : List ℕ). length xs) are ∙ length-map hs (λ (h : Placed). h.place) in omega (arith, lt, len)) in
    let found = at_there hs i low in
    let h : Placed = found.0 in
    let here : place ≡ h.place =
    sym is ∙ ap (λ (xs : List ℕ). get_or xs i 0) are ∙ get_or_from_slice_get (map (λ (x : Placed). x.place) hs) i h.place 0 (slice_get-map (λ (x : Placed). x.place) hs i ∙ ap (option_map (λ (x : Placed). x.place)) found.1) in
    subst (λ (xs : List Placed). AreGrouped elements xs keys' groups') (sym (take_one hs i h found.1)) (step (take i hs) h so_far here (hold_there c h (i, found.1)))
