-- The groups of the holds of a circuit in which some instances are whole.
use Rattle.std.proofs.Common.{◌≡◌, ℕ, zero, suc, ◌+◌, ◌&&◌, Bool, true, false, cond, List, [], ◌∷◌, map, Option, Some, None, arith, subst, sym, refl, ◌∙◌, ap, ap₂, inl, inr}
use Rattle.std.specs.Prelude.{bytes_eq, filter, filter_map, find, option_map, ◌==◌}
use Rattle.std.specs.List.{cons_option, enumerate_from}
use Rattle.std.proofs.lemmas.Bool.{cases_Bool}
use Rattle.std.proofs.lemmas.Bool.Decides.{nat_tests}
use Rattle.checked_chain.proofs.InstanceLaws.{instances_stay_apart}
use Rattle.checked_chain.proofs.ChoiceLaws.{at_enumerated}
use Rattle.checked_chain.specs.Holds.{GroupsAreSame, IsEndShown}
use Rattle.vrt_model.proofs.Filtered.{filter_among}
use Rattle.vrt_model.proofs.Lists.{among_filter_map, filter_among_same}
use Rattle.vrt_model.proofs.Members.{among_later, among_map, find_among}
use Rattle.vrt_model.specs.CheckedParts.{moved_end}
use Rattle.vrt_model.specs.Cut.{Cut, moved_instance}
use Rattle.vrt_model.specs.FlatCircuit.{flat_circuit_of}
use Rattle.vrt_model.specs.Groups.{Placed, element_of, group_of, groups_of, holds_by_net, leaders, placed, same_end}
use Rattle.vrt_model.specs.Lists.{Among}
use Rattle.vrt_model.specs.declared.circuit.Circuit.{Circuit}
use Rattle.vrt_model.specs.declared.circuit.FlatNet.{FlatNet}
use Rattle.vrt_model.specs.declared.circuit.Hold.{Hold}
use Rattle.vrt_model.specs.declared.circuit.HoldEnd.{HoldEnd}
use Rattle.vrt_model.specs.declared.circuit.HoldEnd.TheVariants.{Own, Latch}
use Rattle.vrt_model.specs.declared.flat_model.FlatModel.{FlatModel}
use Rattle.vrt_model.specs.declared.groups.Group.{Group}
use Rattle.vrt_model.specs.declared.groups.Member.{Member}

-- ---- lists

find_mapped : {X : Type 0} (f : X → X) (test : X → Bool) → ((x : X) → test (f x) ≡ test x) → (xs : List X) → find test (map f xs) ≡ option_map f (find test xs)
find_mapped f test same [] = refl
find_mapped {X} f test same (x ∷ xs) =
    ap (λ (b : Bool). cond b (Some (f x)) (find test (map f xs))) (same x) ∙ by_test (test x) (find_mapped f test same xs)
  where
    by_test : (b : Bool) → find test (map f xs) ≡ option_map f (find test xs) → cond b (Some (f x)) (find test (map f xs)) ≡ option_map f (cond b (Some x) (find test xs))
    by_test true e = refl
    by_test false e = e

filter_map_mapped : {X Y Z : Type 0} (f : Y → Z) (g : X → Option Y) (xs : List X) → filter_map (λ x. option_map f (g x)) xs ≡ map f (filter_map g xs)
filter_map_mapped f g [] = refl
filter_map_mapped {X} {Y} {Z} f g (x ∷ xs) = by_option (g x) (filter_map_mapped f g xs)
  where
    by_option : (o : Option Y) → filter_map (λ y. option_map f (g y)) xs ≡ map f (filter_map g xs) → cons_option (option_map f o) (filter_map (λ y. option_map f (g y)) xs) ≡ map f (cons_option o (filter_map g xs))
    by_option None e = e
    by_option (Some y) e = ap (λ (ys : List Z). f y ∷ ys) e

filter_map_same : {X Y : Type 0} (f g : X → Option Y) (xs : List X) → ((x : X) → Among xs x → f x ≡ g x) → filter_map f xs ≡ filter_map g xs
filter_map_same f g [] h = refl
filter_map_same {X} {Y} f g (x ∷ xs) h = ap₂ (λ (o : Option Y) (ys : List Y). cons_option o ys) (h x (0, refl)) (filter_map_same f g xs (λ y m. h y (among_later x xs y m)))

filter_map_of_mapped : {X Y Z : Type 0} (f : X → Y) (g : Y → Option Z) (xs : List X) → filter_map g (map f xs) ≡ filter_map (λ x. g (f x)) xs
filter_map_of_mapped f g [] = refl
filter_map_of_mapped {X} {Y} {Z} f g (x ∷ xs) = ap (λ (ys : List Z). cons_option (g (f x)) ys) (filter_map_of_mapped f g xs)

filter_mapped : {X Y : Type 0} (f : X → Y) (test : Y → Bool) (xs : List X) → filter test (map f xs) ≡ map f (filter (λ x. test (f x)) xs)
filter_mapped f test [] = refl
filter_mapped {X} {Y} f test (x ∷ xs) = by_test (test (f x)) (filter_mapped f test xs)
  where
    by_test : (b : Bool) → filter test (map f xs) ≡ map f (filter (λ y. test (f y)) xs)
        → cond b (f x ∷ filter test (map f xs)) (filter test (map f xs)) ≡ map f (cond b (x ∷ filter (λ y. test (f y)) xs) (filter (λ y. test (f y)) xs))
    by_test true e = ap (λ (ys : List Y). f x ∷ ys) e
    by_test false e = e

pub map_of_mapped : {X Y Z : Type 0} (f : X → Y) (g : Y → Z) (h : X → Z) (xs : List X) → ((x : X) → Among xs x → g (f x) ≡ h x) → map g (map f xs) ≡ map h xs
map_of_mapped f g h [] same = refl
map_of_mapped {X} {Y} {Z} f g h (x ∷ xs) same = ap₂ (λ (z : Z) (zs : List Z). z ∷ zs) (same x (0, refl)) (map_of_mapped f g h xs (λ y m. same y (among_later x xs y m)))

-- ---- moved holds

module _ (cut : Cut) where
  abbrev pub moved_hold : Hold → Hold
  moved_hold h = record h { end = moved_end cut h.end }

  abbrev moved_placed : Placed → Placed
  moved_placed p = record p { hold = moved_hold p.hold }

  number_same : (i j : ℕ) → IsEndShown cut (Latch (Some i) []) → IsEndShown cut (Latch (Some j) []) → (moved_instance cut i == moved_instance cut j) ≡ (i == j)
  number_same i j a b =
      elim (cases_Bool (i == j)) [
        | inl e ↦ (let same : i ≡ j = grind (arith, nat_tests, e) in ap (λ (k : ℕ). moved_instance cut i == moved_instance cut k) (sym same) ∙ itself (moved_instance cut i) ∙ sym e)
        | inr e ↦ apart (moved_instance cut i) (moved_instance cut j) (λ s. let same = instances_stay_apart cut i j a b s in other i j e same) ∙ sym e
      ]
    where
      itself : (n : ℕ) → (n == n) ≡ true
      itself n = grind (arith, nat_tests)

      apart : (n m : ℕ) → (n ≡ m → ⊥) → (n == m) ≡ false
      apart n m ne = grind (arith, nat_tests, ne)

      other : (n m : ℕ) → (n == m) ≡ false → n ≡ m → ⊥
      other n m e same = grind (arith, nat_tests, e, same)

  ends_same : (a b : HoldEnd) → IsEndShown cut a → IsEndShown cut b → same_end (moved_end cut a) (moved_end cut b) ≡ same_end a b
  ends_same (Own m) (Own n) p q = refl
  ends_same (Own m) (Latch j f) p q = refl
  ends_same (Latch i e) (Own n) p q = refl
  ends_same (Latch None e) (Latch None f) p q = refl
  ends_same (Latch None e) (Latch (Some j) f) p q = refl
  ends_same (Latch (Some i) e) (Latch None f) p q = refl
  ends_same (Latch (Some i) e) (Latch (Some j) f) p q = ap (λ (b : Bool). b && bytes_eq e f) (number_same i j p q)

  element_same : (model : FlatModel) (end : HoldEnd) → element_of model (moved_end cut end) ≡ element_of model end
  element_same model (Own n) = refl
  element_same model (Latch None e) = refl
  element_same model (Latch (Some i) e) = refl

  -- ---- two circuits with the same nets, the one with moved holds

  module _ (c d : Circuit) (nets : c.nets ≡ d.nets) (holds : c.holds ≡ map moved_hold d.holds) (ends : (h : Hold) → Among d.holds h → IsEndShown cut h.end) where
    abbrev place : ℕ × Hold → Placed
    place p = record { place = p.0; hold = p.1 }

    numbered_moved : (n : ℕ) (hs : List Hold) → map place (enumerate_from n (map moved_hold hs)) ≡ map moved_placed (map place (enumerate_from n hs))
    numbered_moved n [] = refl
    numbered_moved n (h ∷ hs) = ap (λ (ps : List Placed). moved_placed (place (n, h)) ∷ ps) (numbered_moved (n + 1) hs)

    placed_moved : placed c ≡ map moved_placed (placed d)
    placed_moved = ap (λ (hs : List Hold). map place (enumerate_from 0 hs)) holds ∙ numbered_moved 0 d.holds

    abbrev at_net : List Placed → ℕ × FlatNet → Option Placed
    at_net ps p = find (λ (h : Placed). h.hold.net.0 == p.0) ps

    by_net_moved : holds_by_net c ≡ map moved_placed (holds_by_net d)
    by_net_moved =
        ap₂ (λ (ps : List Placed) (ns : List FlatNet). filter_map (at_net ps) (enumerate_from 0 ns)) placed_moved nets
        ∙ filter_map_same (at_net (map moved_placed (placed d))) (λ p. option_map moved_placed (at_net (placed d) p)) (enumerate_from 0 d.nets)
        (λ p m. find_mapped moved_placed (λ (h : Placed). h.hold.net.0 == p.0) (λ x. refl) (placed d))
        ∙ filter_map_mapped moved_placed (at_net (placed d)) (enumerate_from 0 d.nets)

    by_net_shown : (p : Placed) → Among (holds_by_net d) p → IsEndShown cut p.hold.end
    by_net_shown p m =
        let from = among_filter_map (at_net (placed d)) (enumerate_from 0 d.nets) p m in
        let found = find_among (λ (h : Placed). h.hold.net.0 == from.0.0) (placed d) p from.2 in
        let made = among_map place (enumerate_from 0 d.holds) p found.0 in
        let here = at_enumerated 0 d.holds made.1.0 made.0 made.1.1 in
        subst (λ (q : Placed). IsEndShown cut q.hold.end) made.2 (ends made.0.1 (made.1.0, here.1))

    leader_among : (hs : List Placed) (p : Placed) → Among (leaders hs) p → Among hs p
    leader_among [] p m = m
    leader_among (h ∷ hs) p (zero, e) = (zero, e)
    leader_among (h ∷ hs) p (suc i, e) =
        among_later h hs p (leader_among hs p (filter_among (λ (other : Placed). cond (same_end h.hold.end other.hold.end) false true) (leaders hs) p (i, e)).0)

    leaders_moved : (hs : List Placed) → ((p : Placed) → Among hs p → IsEndShown cut p.hold.end) → leaders (map moved_placed hs) ≡ map moved_placed (leaders hs)
    leaders_moved [] shown = refl
    leaders_moved (h ∷ hs) shown =
        ap (λ (ps : List Placed). moved_placed h ∷ ps)
        (ap (filter (λ (other : Placed). cond (same_end (moved_end cut h.hold.end) other.hold.end) false true)) (leaders_moved hs (λ p m. shown p (among_later h hs p m)))
        ∙ filter_mapped moved_placed (λ (other : Placed). cond (same_end (moved_end cut h.hold.end) other.hold.end) false true) (leaders hs)
        ∙ ap (map moved_placed)
        (filter_among_same (λ (other : Placed). cond (same_end (moved_end cut h.hold.end) (moved_end cut other.hold.end)) false true) (λ (other : Placed). cond (same_end h.hold.end other.hold.end) false true) (leaders hs)
        (λ other m. ap (λ (b : Bool). cond b false true) (ends_same h.hold.end other.hold.end (shown h (0, refl)) (shown other (among_later h hs other (leader_among hs other m)))))))

    abbrev member_in : HoldEnd → Placed → Option Member
    member_in end h = cond (same_end h.hold.end end) (let one : Member = record { hold = h.place; inverted = h.hold.inverted } in Some one) None

    group_same : (model : FlatModel) (end : HoldEnd) → IsEndShown cut end → group_of c model (moved_end cut end) ≡ group_of d model end
    group_same model end shown =
        ap₂ (λ (ms : List Member) (e : Option ℕ). let one : Group = record { members = ms; element = e } in one)
        (ap (filter_map (member_in (moved_end cut end))) by_net_moved
        ∙ filter_map_of_mapped moved_placed (member_in (moved_end cut end)) (holds_by_net d)
        ∙ filter_map_same (λ h. member_in (moved_end cut end) (moved_placed h)) (member_in end) (holds_by_net d)
        (λ h m. ap (λ (b : Bool). cond b (let one : Member = record { hold = h.place; inverted = h.hold.inverted } in Some one) None) (ends_same h.hold.end end (by_net_shown h m) shown)))
        (element_same model end)

    pub groups_moved : (model : FlatModel) → groups_of c model ≡ groups_of d model
    unfolding groups_of
    groups_moved model =
        ap (λ (hs : List Placed). map (λ (h : Placed). group_of c model h.hold.end) (leaders hs)) by_net_moved
        ∙ ap (map (λ (h : Placed). group_of c model h.hold.end)) (leaders_moved (holds_by_net d) by_net_shown)
        ∙ map_of_mapped moved_placed (λ (h : Placed). group_of c model h.hold.end) (λ (h : Placed). group_of d model h.hold.end) (leaders (holds_by_net d))
        (λ h m. group_same model h.hold.end (by_net_shown h (leader_among (holds_by_net d) h m)))

pub groups_are_same : GroupsAreSame
unfolding flat_circuit_of
groups_are_same cut blif facts c model ends h = groups_moved cut c (flat_circuit_of cut.top) h.nets h.holds ends model
