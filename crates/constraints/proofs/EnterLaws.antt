-- The holds that enter a phase, by their groups and by their places.
use Rattle.std.proofs.Common.{◌≡◌, ℕ, zero, suc, ◌+◌, ◌<◌, ◌&&◌, Bool, true, List, [], ◌∷◌, Option, Some, None, length, arith, ap, ap₂, refl, sym, subst, ◌∙◌}
use Rattle.std.specs.Prelude.{◌==◌, find, option_map, slice_get, unwrap_or}
use Rattle.std.specs.List.{enumerate_from, list_all}
use Rattle.std.proofs.lemmas.Bool.{and_parts, true≢false}
use Rattle.std.proofs.lemmas.Bool.Decides.{Decides-eqb}
use Rattle.std.proofs.lemmas.Option.{none-some, same_Some, slice_get_within}
use Rattle.hold_groups.specs.Grouped.{AreGroups, IsMemberAt}
use Rattle.vrt_model.proofs.Members.{at_all, find_among, find_none}
use Rattle.vrt_model.proofs.Tests.{same_tests}
use Rattle.vrt_model.specs.Constraints.{is_entered, meets_enters}
use Rattle.vrt_model.specs.Held.{group_bit, held_bit, held_by, held_in, member_of}
use Rattle.vrt_model.specs.Lists.{Among, At, differ}
use Rattle.vrt_model.specs.Variables.{enter_of}
use Rattle.vrt_model.specs.declared.circuit.Circuit.{Circuit}
use Rattle.vrt_model.specs.declared.circuit.Enter.{Enter}
use Rattle.vrt_model.specs.declared.circuit.Hold.{Hold}
use Rattle.vrt_model.specs.declared.groups.Group.{Group as HoldGroup}
use Rattle.vrt_model.specs.declared.groups.Member.{Member}
use Rattle.vrt_model.specs.declared.groups.Source.{Source}
use Rattle.constraints.specs.Cared.{groups_meet, member_meets, members_meet}

-- ---- tests of a list

all_true : {X : Type 0} (test : X → Bool) (xs : List X) → ((x : X) → Among xs x → test x ≡ true) → list_all test xs ≡ true
all_true test [] each = refl
all_true test (x ∷ xs) each = ap₂ (λ (a b : Bool). a && b) (each x (0, refl)) (all_true test xs (λ y m. each y (suc m.0, m.1)))

-- ---- the held value of a member

-- each hold is one member alone
abbrev Once : List HoldGroup → Type 0
Once groups = (g h m n hold : ℕ) → IsMemberAt groups g m hold → IsMemberAt groups h n hold → (g ≡ h) × (m ≡ n)

behind_once : (group : HoldGroup) (groups : List HoldGroup) → Once (group ∷ groups) → Once groups
behind_once group groups once g h m n hold p q =
    let both = once (suc g) (suc h) m n hold (later p) (later q) in
    let place = both.0 in
    (omega (arith, place), both.1)
  where
    later : {g m hold : ℕ} → IsMemberAt groups g m hold → IsMemberAt (group ∷ groups) (suc g) m hold
    later p = record { group = p.group; member = p.member; there = p.there; joined = p.joined; is = p.is }

module _ (c : Circuit) (phase : ℕ) (sources : List Source) (bits : List Bool) where
  -- the held value of a hold that is a member
  held_at : (groups : List HoldGroup) (k g m hold : ℕ) (group : HoldGroup) (member : Member) → Once groups → At groups g group → At group.members m member → member.hold ≡ hold
      → held_in c phase sources bits k groups hold ≡ differ member.inverted (group_bit c phase sources bits (k + g) group)
  held_at [] k g m hold group member once p q e = absurd (none-some group p)
  held_at (x ∷ xs) k zero m hold group member once p q e =
      by_found (member_of hold x) refl
    where
      same : x ≡ group
      same = same_Some x group p

      by_found : (o : Option Member) → member_of hold x ≡ o → held_by o (group_bit c phase sources bits k x) (held_in c phase sources bits (suc k) xs hold) ≡ differ member.inverted (group_bit c phase sources bits (k + zero) group)
      by_found None f =
          absurd
          (true≢false
          (sym ((Decides-eqb member.hold hold).1 e)
          ∙ find_none (λ (y : Member). y.hold == hold) x.members member f (m, ap (λ (y : HoldGroup). slice_get y.members m) same ∙ q)))
      by_found (Some y) f =
          let found = find_among (λ (z : Member). z.hold == hold) x.members y f in
          let is : y.hold ≡ hold = (Decides-eqb y.hold hold).0 found.1 in
          let one = once 0 0 found.0.0 m hold (record { group = x; member = y; there = refl; joined = found.0.1; is = is })
          (record { group = x; member = member; there = refl; joined = ap (λ (z : HoldGroup). slice_get z.members m) same ∙ q; is = e }) in
          let member_is : y ≡ member = same_Some y member (sym found.0.1 ∙ ap (slice_get x.members) one.1 ∙ ap (λ (z : HoldGroup). slice_get z.members m) same ∙ q) in
          ap (λ (z : Member). differ z.inverted (group_bit c phase sources bits k x)) member_is
          ∙ ap₂ (λ (n : ℕ) (z : HoldGroup). differ member.inverted (group_bit c phase sources bits n z)) (omega arith) same
  held_at (x ∷ xs) k (suc g) m hold group member once p q e =
      by_found (member_of hold x) refl (held_at xs (suc k) g m hold group member (behind_once x xs once) p q e)
    where
      by_found : (o : Option Member) → member_of hold x ≡ o → held_in c phase sources bits (suc k) xs hold ≡ differ member.inverted (group_bit c phase sources bits (suc k + g) group)
          → held_by o (group_bit c phase sources bits k x) (held_in c phase sources bits (suc k) xs hold) ≡ differ member.inverted (group_bit c phase sources bits (k + suc g) group)
      by_found None f rest = rest ∙ ap (λ (n : ℕ). differ member.inverted (group_bit c phase sources bits n group)) (omega arith)
      by_found (Some y) f rest =
          let found = find_among (λ (z : Member). z.hold == hold) x.members y f in
          let is : y.hold ≡ hold = (Decides-eqb y.hold hold).0 found.1 in
          let one = once 0 (suc g) found.0.0 m hold (record { group = x; member = y; there = refl; joined = found.0.1; is = is }) (record { group = group; member = member; there = p; joined = q; is = e }) in
          let place = one.0 in
          absurd (omega (arith, place))

  -- each member of each group
  all_members : (groups : List HoldGroup) (k : ℕ) → groups_meet c phase sources bits k groups ≡ true → (g m : ℕ) (group : HoldGroup) (member : Member) → At groups g group → At group.members m member
      → member_meets c phase sources bits (k + g) group member ≡ true
  all_members [] k all g m group member p q = absurd (none-some group p)
  all_members (x ∷ xs) k all zero m group member p q =
      let here = (and_parts (members_meet c phase sources bits k x x.members) (groups_meet c phase sources bits (suc k) xs) all).0 in
      let same : x ≡ group = same_Some x group p in
      ap₂ (λ (n : ℕ) (y : HoldGroup). member_meets c phase sources bits n y member) (omega arith) (sym same)
      ∙ at_all (λ (y : Member). member_meets c phase sources bits k x y) x.members m member here (ap (λ (y : HoldGroup). slice_get y.members m) same ∙ q)
  all_members (x ∷ xs) k all (suc g) m group member p q =
      ap (λ (n : ℕ). member_meets c phase sources bits n group member) (omega arith)
      ∙ all_members xs (suc k) (and_parts (members_meet c phase sources bits k x x.members) (groups_meet c phase sources bits (suc k) xs) all).1 g m group member p q

  each_member : (groups : List HoldGroup) (k : ℕ) → ((g m : ℕ) (group : HoldGroup) (member : Member) → At groups g group → At group.members m member → member_meets c phase sources bits (k + g) group member ≡ true)
      → groups_meet c phase sources bits k groups ≡ true
  each_member [] k each = refl
  each_member (x ∷ xs) k each =
      ap₂ (λ (a b : Bool). a && b)
      (all_true (λ (y : Member). member_meets c phase sources bits k x y) x.members
      (λ y m. ap (λ (n : ℕ). member_meets c phase sources bits n x y) (omega arith) ∙ each 0 m.0 x y refl m.1))
      (each_member xs (suc k) (λ g m group member p q. ap (λ (n : ℕ). member_meets c phase sources bits n group member) (omega arith) ∙ each (suc g) m group member p q))

  -- ---- holds by their places

  numbered : (k : ℕ) (hs : List Hold) (p : ℕ × Hold) → Among (enumerate_from k hs) p → (i : ℕ) × (p.0 ≡ k + i) × At hs i p.1
  numbered k [] p m = absurd (none-some p m.1)
  numbered k (h ∷ hs) p (zero, e) = let is = same_Some (k, h) p e in (0, sym (ap (λ (q : ℕ × Hold). q.0) is) ∙ omega arith, ap (λ (q : ℕ × Hold). Some q.1) is)
  numbered k (h ∷ hs) p (suc i, e) = let rest = numbered (k + 1) hs p (i, e) in (suc rest.0, (let next = rest.1 in omega (arith, next)), rest.2)

  in_numbers : (k : ℕ) (hs : List Hold) (i : ℕ) (h : Hold) → At hs i h → Among (enumerate_from k hs) (k + i, h)
  in_numbers k [] i h e = absurd (none-some h e)
  in_numbers k (x ∷ xs) zero h e = (0, ap₂ (λ (n : ℕ) (y : Hold). Some (n, y)) (omega arith) (same_Some x h e))
  in_numbers k (x ∷ xs) (suc i) h e =
      let rest = in_numbers (k + 1) xs i h e in
      subst (λ (n : ℕ). Among ((k, x) ∷ enumerate_from (k + 1) xs) (n, h)) (omega arith) (suc rest.0, rest.1)

  -- a member enters with its value where its hold does
  member_entered : (groups : List HoldGroup) → AreGroups c groups → meets_enters c phase (λ hold. held_bit c groups phase sources bits hold) ≡ true → (g m : ℕ) (group : HoldGroup) (member : Member) → At groups g group
      → At group.members m member → (o : Option Hold) → slice_get c.holds member.hold ≡ o → member_meets c phase sources bits (0 + g) group member ≡ true
  member_entered groups are all g m group member p q None e =
      let none : enter_of c phase member.hold ≡ None =
      ap (λ (o : Option Hold). option_map (λ (x : Enter). x.value) (find (λ (x : Enter). x.phase == phase) (unwrap_or (option_map (λ (h : Hold). h.enters) o) []))) e in
      ap (λ (o : Option Bool). is_entered o (differ member.inverted (group_bit c phase sources bits (0 + g) group))) none
  member_entered groups are all g m group member p q (Some h) e =
      let among = in_numbers 0 c.holds member.hold h e in
      let here = at_all (λ (x : ℕ × Hold). is_entered (enter_of c phase x.0) (held_bit c groups phase sources bits x.0)) (enumerate_from 0 c.holds) among.0 (0 + member.hold, h) all among.1 in
      let same : 0 + member.hold ≡ member.hold = omega arith in
      let there = subst (λ (n : ℕ). is_entered (enter_of c phase n) (held_bit c groups phase sources bits n) ≡ true) same here in
      sym (ap (is_entered (enter_of c phase member.hold)) (held_at groups 0 g m member.hold group member are.once p q refl)) ∙ there

  -- and a hold with its value where its member does
  entered_at : (groups : List HoldGroup) → Once groups → groups_meet c phase sources bits 0 groups ≡ true → (place g m : ℕ) (group : HoldGroup) (member : Member) → At groups g group → At group.members m member
      → member.hold ≡ place → is_entered (enter_of c phase place) (held_bit c groups phase sources bits place) ≡ true
  entered_at groups once all place g m group member p q e =
      ap (is_entered (enter_of c phase place)) (held_at groups 0 g m place group member once p q e)
      ∙ ap (λ (n : ℕ). is_entered (enter_of c phase n) (differ member.inverted (group_bit c phase sources bits (0 + g) group))) (sym e)
      ∙ all_members groups 0 all g m group member p q

  -- all holds enter with their values exactly where all members do
  pub enters_same : (groups : List HoldGroup) → AreGroups c groups → groups_meet c phase sources bits 0 groups ≡ meets_enters c phase (λ hold. held_bit c groups phase sources bits hold)
  enters_same groups are =
      same_tests (groups_meet c phase sources bits 0 groups) (meets_enters c phase (λ hold. held_bit c groups phase sources bits hold))
      (λ all.
      all_true (λ (p : ℕ × Hold). is_entered (enter_of c phase p.0) (held_bit c groups phase sources bits p.0)) (enumerate_from 0 c.holds)
      (λ p m.
      let there = numbered 0 c.holds p m in
      let place : p.0 ≡ there.0 = (let is = there.1 in omega (arith, is)) in
      let low : p.0 < length c.holds = (let within = slice_get_within c.holds there.0 p.1 there.2 in omega (arith, within, place)) in
      let some = are.some p.0 low in
      let one = some.2 in
      entered_at groups are.once all p.0 some.0 some.1 one.group one.member one.there one.joined one.is))
      (λ all. each_member groups 0 (λ g m group member p q. member_entered groups are all g m group member p q (slice_get c.holds member.hold) refl))
