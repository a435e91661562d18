-- The holds that enter a phase, one after the other.
use Rattle.std.proofs.Common.{◌≡◌, ℕ, suc, ◌+◌, ◌*◌, ◌-◌, ◌<◌, ◌≤◌, ◌&&◌, Bool, true, false, not, List, ◌∷◌, Option, Some, None, Result, Ok, Err, drop, get_or, length, arith, ap, ap₂, refl, sym, subst, ◌∙◌}
use Rattle.std.proofs.Math.Seq.{drop-cons}
use Rattle.std.proofs.lemmas.List.Sums.{sum_by-cons}
use Rattle.bdd_core.specs.Diagram.{Function, IsReduced, IsSame, IsWithin}
use Rattle.bdd_core.specs.Store.{Diagrams, Gives, IsLive, function_of}
use Rattle.bdd_core.specs.declared.handle.H.{H}
use Rattle.bdd_core.specs.declared.handle.Spent.{Spent}
use Rattle.bdd_ops.proofs.CountingLaws.{counts_more, counts_none, counts_then}
use Rattle.bdd_ops.proofs.WithinLaws.{within_and, within_same}
use Rattle.bdd_ops.specs.Counting.{Counts}
use Rattle.bdd_core.proofs.Frames.{gives_error, gives_next, gives_none, gives_refused, gives_same}
use Rattle.hold_keep.proofs.BitLaws.{wider}
use Rattle.hold_keep.proofs.RewriteLaws.{members_less, within_bits}
use Rattle.hold_keep.specs.Rooted.{bits_at, members_in}
use Rattle.vrt_model.specs.Constraints.{is_entered}
use Rattle.vrt_model.specs.Held.{group_bit, group_bit_at}
use Rattle.vrt_model.specs.Lists.{differ, same_bit}
use Rattle.vrt_model.specs.Variables.{enter_of, entered_bit}
use Rattle.vrt_model.specs.declared.circuit.Circuit.{Circuit}
use Rattle.vrt_model.specs.declared.groups.Group.{Group as HoldGroup}
use Rattle.vrt_model.specs.declared.groups.Member.{Member}
use Rattle.vrt_model.specs.declared.groups.Source.{Source}
use Rattle.constraints.specs.Cared.{AddsHeld, groups_meet, member_meets, members_meet}

-- ---- steps

turned : (value held : Bool) → not (differ value held) ≡ same_bit held value
turned true true = refl
turned true false = refl
turned false true = refl
turned false false = refl

module _ (sources : List Source) where
  abbrev both : Function → (List Bool → Bool) → Function
  both start test = λ v. start v && test (bits_at sources v)

  test_within : (u : ℕ) (test : List Bool → Bool) → length sources ≤ u → IsWithin u (λ v. test (bits_at sources v))
  test_within u test most = wider (λ v. test (bits_at sources v)) (length sources) u most (within_bits sources (λ v. test (bits_at sources v)) test (λ v. refl))

  and_true : (b c : Bool) → c ≡ true → b ≡ (b && c)
  and_true true c e = sym e
  and_true false c e = refl

  and_turn : (a b c : Bool) → ((a && b) && c) ≡ (a && (c && b))
  and_turn true true true = refl
  and_turn true true false = refl
  and_turn true false true = refl
  and_turn true false false = refl
  and_turn false b c = refl

  pub held_none : (n : ℕ) (d : Diagrams) (all : H) (test : List Bool → Bool) → IsReduced d.vars d.nodes → length d.nodes ≤ d.budget → IsLive d all → ((bits : List Bool) → test bits ≡ true)
      → AddsHeld sources n (function_of d all) test d d (Ok all)
  held_none n d all test sound within live is = record {
    gives = gives_none d (both (function_of d all) test) all sound within live (λ v. and_true (function_of d all v) (test (bits_at sources v)) (is (bits_at sources v)));
    counts = λ u most starts. counts_more u 0 n d d (Ok all) (omega arith) (counts_none u d all);
  }

  -- a test more, in front of those before
  pub held_then : (a b n : ℕ) (start : Function) (one two whole : List Bool → Bool) (x y z : Diagrams) (p : H) (r : Result H Spent) → a + b ≤ n → AddsHeld sources a start one x y (Ok p)
      → AddsHeld sources b (function_of y p) two y z r → ((bits : List Bool) → (two bits && one bits) ≡ whole bits) → AddsHeld sources n start whole x z r
  held_then a b n start one two whole x y z p r few first second same = record {
    gives = gives_next x y z (both start one) (both (function_of y p) two) (both start whole) p r first.gives second.gives
        (λ v.
        ap (λ (t : Bool). t && two (bits_at sources v)) (first.gives.ok.same v)
        ∙ and_turn (start v) (one (bits_at sources v)) (two (bits_at sources v))
        ∙ ap (λ (t : Bool). start v && t) (same (bits_at sources v)));
    counts = λ u most starts.
        counts_more u (a + b) n x z r few
        (counts_then u a b x y z r (first.counts u most starts).added
        (second.counts u most
        (within_same u (both start one) (function_of y p) first.gives.ok.same (within_and u start (λ v. one (bits_at sources v)) starts (test_within u one most)))));
  }

  -- a refusal says nothing of the test
  pub held_refused : (a n : ℕ) (start : Function) (test whole : List Bool → Bool) (x z : Diagrams) (e : Spent) → a ≤ n → AddsHeld sources a start test x z (Err e) → AddsHeld sources n start whole x z (Err e)
  held_refused a n start test whole x z e few step = record {
    gives = gives_error x z (both start test) (both start whole) e step.gives;
    counts = λ u most starts. counts_more u a n x z (Err e) few (step.counts u most starts);
  }

  pub held_as : (a n : ℕ) (start : Function) (test whole : List Bool → Bool) (x z : Diagrams) (r : Result H Spent) → a ≤ n → AddsHeld sources a start test x z r → ((bits : List Bool) → test bits ≡ whole bits)
      → AddsHeld sources n start whole x z r
  held_as a n start test whole x z r few step same = record {
    gives = gives_same x z (both start test) (both start whole) r (λ v. ap (λ (t : Bool). start v && t) (same (bits_at sources v))) step.gives;
    counts = λ u most starts. counts_more u a n x z r few (step.counts u most starts);
  }

  -- ---- a member

  module _ (c : Circuit) (phase number : ℕ) (group : HoldGroup) (m : Member) where
    abbrev meets : List Bool → Bool
    meets bits = member_meets c phase sources bits number group m

    -- it does not enter the phase
    pub member_free : (d : Diagrams) (all : H) → enter_of c phase m.hold ≡ None → IsReduced d.vars d.nodes → length d.nodes ≤ d.budget → IsLive d all → AddsHeld sources 3 (function_of d all) meets d d (Ok all)
    member_free d all none sound within live =
        held_none 3 d all meets sound within live (λ bits. ap (λ (o : Option Bool). is_entered o (differ m.inverted (group_bit c phase sources bits number group))) none)

    module _ (entered : Option Bool) (is_entered_bit : entered ≡ entered_bit c phase group) (x y : Diagrams) (all : H) (live : IsLive x all) where
      abbrev bit_at : Function
      bit_at v = group_bit_at sources (bits_at sources v) number group.element entered

      pub bit_refused : (e : Spent) → Gives x y bit_at (Err e) → ((u : ℕ) → length sources ≤ u → Counts {A = H} u 1 x y (Err e)) → AddsHeld sources 3 (function_of x all) meets x y (Err e)
      bit_refused e gives counts = record {
        gives = gives_error x y bit_at (both (function_of x all) meets) e gives;
        counts = λ u most starts. counts_more u 1 3 x y (Err e) (omega arith) (counts u most);
      }

      module _ (bit : H) (first : Gives x y bit_at (Ok bit)) (one : (u : ℕ) → length sources ≤ u → Counts {A = H} u 1 x y (Ok bit)) where
        bit_reads : (u : ℕ) → length sources ≤ u → IsWithin u (function_of y bit)
        bit_reads u most =
            wider (function_of y bit) (length sources) u most (within_bits sources (function_of y bit) (λ bits. group_bit_at sources bits number group.element entered) first.ok.same)

        pub held_refused_at : (z : Diagrams) (e : Spent) → Gives y z (λ v. differ m.inverted (function_of y bit v)) (Err e) → ((u : ℕ) → IsWithin u (function_of y bit) → Counts {A = H} u 1 y z (Err e))
            → AddsHeld sources 3 (function_of x all) meets x z (Err e)
        held_refused_at z e second two = record {
          gives = gives_refused x y z bit_at (λ v. differ m.inverted (function_of y bit v)) (both (function_of x all) meets) bit e first second;
          counts = λ u most starts. counts_more u (1 + 1) 3 x z (Err e) (omega arith) (counts_then u 1 1 x y z (Err e) (one u most).added (two u (bit_reads u most)));
        }

        pub member_added : (z w : Diagrams) (held : H) (value : Bool) (r : Result H Spent) → Some value ≡ enter_of c phase m.hold → Gives y z (λ v. differ m.inverted (function_of y bit v)) (Ok held)
            → ((u : ℕ) → IsWithin u (function_of y bit) → Counts {A = H} u 1 y z (Ok held))
            → Gives z w (λ v. function_of z all v && not (differ value (function_of z held v))) r
            → ((u : ℕ) → IsWithin u (function_of z held) → IsWithin u (function_of z all) → Counts u 1 z w r) → AddsHeld sources 3 (function_of x all) meets x w r
        member_added z w held value r given second two third three = record {
          gives = gives_next x z w (λ v. differ m.inverted (bit_at v)) (λ v. function_of z all v && not (differ value (function_of z held v))) (both (function_of x all) meets) held r between third
              (λ v.
              ap₂ (λ (s t : Bool). s && not (differ value t)) (all_kept v) (between.ok.same v)
              ∙ ap (λ (t : Bool). function_of x all v && not (differ value (differ m.inverted t))) (ap (λ (o : Option Bool). group_bit_at sources (bits_at sources v) number group.element o) is_entered_bit)
              ∙ ap (λ (t : Bool). function_of x all v && t) (turned value (differ m.inverted (group_bit c phase sources (bits_at sources v) number group)))
              ∙ ap (λ (o : Option Bool). function_of x all v && is_entered o (differ m.inverted (group_bit c phase sources (bits_at sources v) number group))) given);
          counts = λ u most starts.
              counts_more u (1 + 1 + 1) 3 x w r (omega arith)
              (counts_then u (1 + 1) 1 x z w r (counts_then u 1 1 x y z (Ok held) (one u most).added (two u (bit_reads u most))).added
              (three u (held_reads u most) (within_same u (function_of x all) (function_of z all) all_kept starts)));
        }
          where
            between : Gives x z (λ v. differ m.inverted (bit_at v)) (Ok held)
            between = gives_next x y z bit_at (λ v. differ m.inverted (function_of y bit v)) (λ v. differ m.inverted (bit_at v)) bit (Ok held) first second (λ v. ap (differ m.inverted) (first.ok.same v))

            all_kept : IsSame (function_of z all) (function_of x all)
            all_kept = between.adds.kept all.0 live

            held_reads : (u : ℕ) → length sources ≤ u → IsWithin u (function_of z held)
            held_reads u most =
                wider (function_of z held) (length sources) u most
                (within_bits sources (function_of z held) (λ bits. differ m.inverted (group_bit_at sources bits number group.element entered)) between.ok.same)

  -- ---- members and groups, from the last to the first

  module _ (c : Circuit) (phase : ℕ) where
    pub members_next : (number : ℕ) (group : HoldGroup) (members : List Member) (before at : ℕ) (m d : Member) (start : Function) (x y z : Diagrams) (p : H) (r : Result H Spent) → before ≡ at + 1
        → at < length members → m ≡ get_or members at d
        → AddsHeld sources (3 * (length members - before)) start (λ bits. members_meet c phase sources bits number group (drop before members)) x y (Ok p)
        → AddsHeld sources 3 (function_of y p) (λ bits. member_meets c phase sources bits number group m) y z r
        → AddsHeld sources (3 * (length members - at)) start (λ bits. members_meet c phase sources bits number group (drop at members)) x z r
    members_next number group members before at m d start x y z p r down low is far step =
        let next : before ≡ suc at = omega (arith, down) in
        let split : drop at members ≡ m ∷ drop before members = drop-cons members at d low ∙ ap₂ (λ (k : Member) (n : ℕ). k ∷ drop n members) (sym is) (sym next) in
        held_then (3 * (length members - before)) 3 (3 * (length members - at)) start (λ bits. members_meet c phase sources bits number group (drop before members))
        (λ bits. member_meets c phase sources bits number group m) (λ bits. members_meet c phase sources bits number group (drop at members)) x y z p r (omega (arith, down, low)) far step
        (λ bits. ap (λ (ms : List Member). members_meet c phase sources bits number group ms) (sym split))

    pub groups_next : (groups : List HoldGroup) (before at : ℕ) (group d : HoldGroup) (start : Function) (x y z : Diagrams) (p : H) (r : Result H Spent) → before ≡ at + 1 → at < length groups
        → group ≡ get_or groups at d → AddsHeld sources (3 * members_in (drop before groups)) start (λ bits. groups_meet c phase sources bits before (drop before groups)) x y (Ok p)
        → AddsHeld sources (3 * length group.members) (function_of y p) (λ bits. members_meet c phase sources bits at group group.members) y z r
        → AddsHeld sources (3 * members_in (drop at groups)) start (λ bits. groups_meet c phase sources bits at (drop at groups)) x z r
    groups_next groups before at group d start x y z p r down low is far step =
        let next : before ≡ suc at = omega (arith, down) in
        let split : drop at groups ≡ group ∷ drop before groups = drop-cons groups at d low ∙ ap₂ (λ (k : HoldGroup) (n : ℕ). k ∷ drop n groups) (sym is) (sym next) in
        let count : members_in (drop at groups) ≡ members_in (group ∷ drop before groups) = ap (λ (gs : List HoldGroup). members_in gs) split in
        let sum = sum_by-cons (λ (g : HoldGroup). length g.members) group (drop before groups) in
        held_then (3 * members_in (drop before groups)) (3 * length group.members) (3 * members_in (drop at groups)) start (λ bits. groups_meet c phase sources bits before (drop before groups))
        (λ bits. members_meet c phase sources bits at group group.members) (λ bits. groups_meet c phase sources bits at (drop at groups)) x y z p r (omega (arith, count, sum)) far step
        (λ bits.
        ap (λ (n : ℕ). members_meet c phase sources bits at group group.members && groups_meet c phase sources bits n (drop before groups)) next
        ∙ ap (λ (gs : List HoldGroup). groups_meet c phase sources bits at gs) (sym split))

    -- all of them
    pub members_all : (number : ℕ) (group : HoldGroup) (members : List Member) (at : ℕ) (start : Function) (x y : Diagrams) (r : Result H Spent) → at ≡ 0
        → AddsHeld sources (3 * (length members - at)) start (λ bits. members_meet c phase sources bits number group (drop at members)) x y r
        → AddsHeld sources (3 * length members) start (λ bits. members_meet c phase sources bits number group members) x y r
    members_all number group members at start x y r is far =
        held_as (3 * (length members - at)) (3 * length members) start (λ bits. members_meet c phase sources bits number group (drop at members))
        (λ bits. members_meet c phase sources bits number group members) x y r (omega arith) far (λ bits. ap (λ (k : ℕ). members_meet c phase sources bits number group (drop k members)) is)

    pub groups_all : (groups : List HoldGroup) (at : ℕ) (start : Function) (x y : Diagrams) (r : Result H Spent) → at ≡ 0
        → AddsHeld sources (3 * members_in (drop at groups)) start (λ bits. groups_meet c phase sources bits at (drop at groups)) x y r
        → AddsHeld sources (3 * members_in groups) start (λ bits. groups_meet c phase sources bits 0 groups) x y r
    groups_all groups at start x y r is =
        subst (λ (k : ℕ). AddsHeld sources (3 * members_in (drop k groups)) start (λ bits. groups_meet c phase sources bits k (drop k groups)) x y r) is

    pub members_refused : (number : ℕ) (group : HoldGroup) (members : List Member) (at : ℕ) (start : Function) (x y : Diagrams) (e : Spent)
        → AddsHeld sources (3 * (length members - at)) start (λ bits. members_meet c phase sources bits number group (drop at members)) x y (Err e)
        → AddsHeld sources (3 * length members) start (λ bits. members_meet c phase sources bits number group members) x y (Err e)
    members_refused number group members at start x y e far =
        held_refused (3 * (length members - at)) (3 * length members) start (λ bits. members_meet c phase sources bits number group (drop at members))
        (λ bits. members_meet c phase sources bits number group members) x y e (omega arith) far

    pub groups_refused : (groups : List HoldGroup) (at : ℕ) (start : Function) (x y : Diagrams) (e : Spent)
        → AddsHeld sources (3 * members_in (drop at groups)) start (λ bits. groups_meet c phase sources bits at (drop at groups)) x y (Err e)
        → AddsHeld sources (3 * members_in groups) start (λ bits. groups_meet c phase sources bits 0 groups) x y (Err e)
    groups_refused groups at start x y e far =
        held_refused (3 * members_in (drop at groups)) (3 * members_in groups) start (λ bits. groups_meet c phase sources bits at (drop at groups))
        (λ bits. groups_meet c phase sources bits 0 groups) x y e (let few = members_less groups at in omega (arith, few)) far
