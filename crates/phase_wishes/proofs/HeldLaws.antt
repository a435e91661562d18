-- What is put into a table by net, as wishes.
use Rattle.std.proofs.Common.{◌≡◌, All, ℕ, zero, suc, ◌<◌, Bool, true, false, List, [], ◌∷◌, ◌++◌, replicate, Option, Some, None, length, arith, append_assoc, ap, ap₂, refl, sym, subst, ◌∙◌, inl, inr}
use Rattle.std.specs.Prelude.{option_map, slice_get}
use Rattle.std.proofs.lemmas.List.{length-replicate}
use Rattle.std.proofs.lemmas.Option.{none-some, same_Some}
use Rattle.hold_groups.specs.Grouped.{AreGroups, IsMemberAt}
use Rattle.phase_wishes.specs.Held.{AddsHeld, AreHeldWishes, IsHoldNet, IsHoldWish, IsOfHold, IsOfEnters, IsOfGroups, Puts, base_of, element_of, held_kinds, kind_of, least_by, wishes_from, with_polarity}
use Rattle.phase_wishes.proofs.EntryLaws.{among_from, entry_is, from_table, kind_in, rises, wish_at}
use Rattle.phase_wishes.proofs.SpotLaws.{same_stage}
use Rattle.phase_wishes.proofs.WishLaws.{AreBefore, wishes_joined}
use Rattle.phase_wishes.specs.Wishes.{AreWishesOf, IsWish, Says, wanted_bit}
use Rattle.phase_wishes.specs.declared.bases.Stored.{Stored}
use Rattle.phase_wishes.specs.declared.bases.Stored.TheVariants.{Latches, Others}
use Rattle.phase_wishes.specs.declared.wishes.Wanted.{Wanted}
use Rattle.phase_wishes.specs.declared.wishes.Wanted.TheVariants.{Element, Other, Constant}
use Rattle.phase_wishes.specs.declared.wishes.Wish.{Wish}
use Rattle.vrt_model.proofs.FirstFinding.{less_head}
use Rattle.vrt_model.proofs.Lists.{one_at}
use Rattle.vrt_model.proofs.Members.{all_among, all_by, among_either, at_none}
use Rattle.vrt_model.specs.Assignment.{Assignment}
use Rattle.vrt_model.specs.Circuits.{IsCircuit, IsHold}
use Rattle.vrt_model.specs.Comparison.{Comparison}
use Rattle.vrt_model.specs.Faults.{HoldAt, WantsValue, next_phase}
use Rattle.vrt_model.specs.Lists.{Among, At, differ}
use Rattle.vrt_model.specs.Places.{comes_before, standing}
use Rattle.vrt_model.specs.Reading.{Partial}
use Rattle.vrt_model.specs.Variables.{enter_of}
use Rattle.vrt_model.specs.declared.circuit.Circuit.{Circuit}
use Rattle.vrt_model.specs.declared.circuit.Hold.{Hold}
use Rattle.vrt_model.specs.declared.groups.Group.{Group}
use Rattle.vrt_model.specs.declared.groups.Member.{Member}
use Rattle.vrt_model.specs.declared.ids.Net.{Net}
use Rattle.vrt_model.specs.declared.rules.Rules.{Rules}
use Rattle.vrt_model.specs.declared.verdict.FaultKind.{FaultKind}
use Rattle.vrt_model.specs.declared.verdict.FaultKind.TheVariants.{Next, Apart, Enter}

-- ---- a table of all that ought to be given for one kind

module _ (kind : FaultKind) (stage : ℕ) (k : Comparison) (phase : ℕ) (Is : ℕ → Wanted → Type 0)
    (keyed : (rank least : ℕ → ℕ) (at : ℕ) → standing k phase rank least kind at ≡ stage ∷ at ∷ [])
    (wants : (n : ℕ) (x : Wanted) → Is n x → (a : Partial) (g : Assignment) → WantsValue k phase a g kind n n (wanted_bit x a g))
    (wanted : (at n : ℕ) (w : Option Bool) (a : Partial) (g : Assignment) → WantsValue k phase a g kind at n w → (at ≡ n) × (n < length k.circuit.nets) × (x : Wanted) × Is n x × (wanted_bit x a g ≡ w))
    (one : (n : ℕ) (x y : Wanted) → Is n x → Is n y → x ≡ y)
    (table : List (Option Wanted)) (puts : Puts Is (replicate (length k.circuit.nets) None) table) where
  all_in : (at n : ℕ) (w : Option Bool) (a : Partial) (g : Assignment) → WantsValue k phase a g kind at n w → (wish : Wish) × Among (wishes_from kind 0 table) wish × Says wish a g kind at n w
  all_in at n w a g wants_it =
      let r = wanted at n w a g wants_it in
      let there = puts.there n r.2 r.3 (let len = length-replicate {A = Option Wanted} (length k.circuit.nets) None in let lt = r.1 in omega (arith, lt, len)) in
      let listed = subst (λ (j : ℕ). Among (wishes_from kind 0 table) (wish_at kind j there.0)) (omega arith) (among_from kind 0 table n there.0 there.1) in (
        wish_at kind n there.0,
        listed,
        record {
          kind_is = refl;
          place_is = sym r.0;
          net_is = refl;
          wanted_is = ap (λ (x : Wanted). wanted_bit x a g) (one n there.0 r.2 (entry_is Is (length k.circuit.nets) table puts n there.0 there.1) r.3) ∙ r.4;
          asked_is = refl;
        },
      )

  pub table_wishes : AreWishesOf (kind ∷ []) k phase (wishes_from kind 0 table)
  table_wishes = record {
    only = λ wish m. (0, ap Some (sym (kind_in kind Is (length k.circuit.nets) table puts wish m)));
    each = λ wish m. let r = from_table kind Is (length k.circuit.nets) table puts wish m in subst (IsWish k phase) (sym r.3) (λ a g asked. wants r.0 r.1 r.2 a g);
    all = all_of;
    sorted = λ rank least i j x y here there lt.
        ap₂ (λ (p q : List ℕ). comes_before p q) (key_of rank least x (i, here)) (key_of rank least y (j, there))
        ∙ same_stage stage (x.place ∷ []) (y.place ∷ []) (less_head x.place y.place [] [] (rises kind 0 table i j x y here there lt));
  }
    where
      all_of : (other : FaultKind) (at n : ℕ) (w : Option Bool) (a : Partial) (g : Assignment) → Among (kind ∷ []) other → WantsValue k phase a g other at n w
          → (wish : Wish) × Among (wishes_from kind 0 table) wish × Says wish a g other at n w
      all_of other at n w a g (zero, e) wants_it =
          subst (λ (q : FaultKind). (WantsValue k phase a g q at n w → (wish : Wish) × Among (wishes_from kind 0 table) wish × Says wish a g q at n w)) (same_Some kind other e)
          (all_in at n w a g) wants_it
      all_of other at n w a g (suc i, e) wants_it = absurd (at_none i other e)

      key_of : (rank least : ℕ → ℕ) (x : Wish) → Among (wishes_from kind 0 table) x → standing k phase rank least x.kind x.place ≡ stage ∷ x.place ∷ []
      key_of rank least x m = ap (λ (q : FaultKind). standing k phase rank least q x.place) (kind_in kind Is (length k.circuit.nets) table puts x m) ∙ keyed rank least x.place

-- ---- what is given of options

mapped : {X Y : Type 0} (f : X → Y) (o : Option X) (y : Y) → option_map f o ≡ Some y → (x : X) × (o ≡ Some x) × (f x ≡ y)
mapped f None y e = absurd (none-some y e)
mapped f (Some x) y e = (x, refl, same_Some (f x) y e)

least_some : (c : Circuit) (o : Option ℕ) (f : Option Member) (base : Wanted) → least_by c o f ≡ Some base
    → (o ≡ None) × (least : Member) × (f ≡ Some least) × (h : Hold) × At c.holds least.hold h × (Other h.net least.inverted ≡ base)
least_some c (Some e) f base is = absurd (none-some base is)
least_some c None None base is = absurd (none-some base is)
least_some c None (Some least) base is =
    let r = mapped (λ (h : Hold). Other h.net least.inverted) (slice_get c.holds least.hold) base is in (refl, least, refl, r.0, r.1, r.2)

differ_false : (b : Bool) → differ b false ≡ b
differ_false true = refl
differ_false false = refl

-- ---- holds of groups

module _ (k : Comparison) (circuit : IsCircuit k.circuit) where
  net_low : (place : ℕ) (h : Hold) (n : ℕ) → At k.circuit.holds place h → h.net.0 ≡ n → n < length k.circuit.nets
  net_low place h n at e = let low = (all_among (IsHold k.circuit) k.circuit.holds h circuit.holds (place, at)).net in omega (arith, low, e)

  one_place : (i j : ℕ) (g h : Hold) (n : ℕ) → At k.circuit.holds i g → At k.circuit.holds j h → g.net.0 ≡ n → h.net.0 ≡ n → i ≡ j
  one_place i j g h n here there e f = circuit.one_hold i j g h here there (ap (λ (m : ℕ). let net : Net = record { 0 = m } in net) (e ∙ sym f))

  module _ (groups : AreGroups k.circuit k.groups) (stored : Stored) where
    member_is : (hold : ℕ) (group : Group) (m : Member) (i : Among k.groups group) (j : Among group.members m) → m.hold ≡ hold → IsMemberAt k.groups i.0 j.0 hold
    member_is hold group m i j e = record { group = group; member = m; there = i.1; joined = j.1; is = e }

    groups_one : (n : ℕ) (x y : Wanted) → IsOfGroups k.circuit stored k.groups n x → IsOfGroups k.circuit stored k.groups n y → x ≡ y
    groups_one n x y p q =
        let of = p.2 in
        let also = q.2 in
        let m = of.2 in
        let o = also.2 in
        let hold : m.0.hold ≡ o.0.hold = one_place m.0.hold o.0.hold m.2.0 o.2.0 n m.2.1 o.2.1 m.2.2 o.2.2 in
        let same = groups.once p.1.0 q.1.0 m.1.0 o.1.0 m.0.hold (member_is m.0.hold p.0 m.0 p.1 m.1 refl) (member_is m.0.hold q.0 o.0 q.1 o.1 (sym hold)) in
        let group : p.0 ≡ q.0 = one_at k.groups p.1.0 p.0 q.0 p.1.1 (subst (λ (i : ℕ). At k.groups i q.0) (sym same.0) q.1.1) in
        let member : m.0 ≡ o.0 =
        one_at q.0.members o.1.0 m.0 o.0 (subst (λ (i : ℕ). At q.0.members i m.0) same.1 (subst (λ (g : Group). At g.members m.1.0 m.0) group m.1.1)) o.1.1 in
        let base : of.0 ≡ also.0 = same_Some of.0 also.0 (sym of.1 ∙ ap (base_of k.circuit stored) group ∙ also.1) in
        m.2.3 ∙ ap₂ (λ (b : Wanted) (i : Bool). with_polarity b i) base (ap (λ (z : Member). z.inverted) member) ∙ sym o.2.3

  module _ (phase : ℕ) where
    latch_wants : (n : ℕ) (x : Wanted) → IsOfGroups k.circuit Latches k.groups n x → (a : Partial) (g : Assignment) → WantsValue k phase a g Next n n (wanted_bit x a g)
    latch_wants n x p a g =
        let of = p.2 in
        let m = of.2 in
        let e = mapped (λ (e : ℕ). Element e false) p.0.element of.0 of.1 in
        let held : HoldAt k n m.0.hold p.0 m.0 = record { stands = (m.2.0, m.2.1, m.2.2); grouped = p.1; joined = (m.1, refl) } in
        let is = ap (λ (z : Wanted). wanted_bit z a g) (m.2.3 ∙ ap (λ (b : Wanted). with_polarity b m.0.inverted) (sym e.2)) ∙ ap (λ (b : Bool). Some (differ b (g.next e.0))) (differ_false m.0.inverted) in
        (refl, (m.0.hold, p.0, m.0, e.0, held, e.1, is))

    latch_wanted : (at n : ℕ) (w : Option Bool) (a : Partial) (g : Assignment) → WantsValue k phase a g Next at n w
        → (at ≡ n) × (n < length k.circuit.nets) × (x : Wanted) × IsOfGroups k.circuit Latches k.groups n x × (wanted_bit x a g ≡ w)
    latch_wanted at n w a g (same, (place, group, m, e, held, reaches, is)) =
        let h = held.stands in (
          same,
          net_low place h.0 n h.1 h.2,
          with_polarity (Element e false) m.inverted,
          (group, held.grouped, (Element e false, ap element_of reaches, (m, held.joined.0, (h.0, subst (λ (i : ℕ). At k.circuit.holds i h.0) (sym held.joined.1) h.1, h.2, refl)))),
          ap (λ (b : Bool). Some (differ b (g.next e))) (differ_false m.inverted) ∙ sym is,
        )

    least_wants : (n : ℕ) (x : Wanted) → IsOfGroups k.circuit Others k.groups n x → (a : Partial) (g : Assignment) → WantsValue k phase a g Apart n n (wanted_bit x a g)
    least_wants n x p a g =
        let of = p.2 in
        let m = of.2 in
        let l = least_some k.circuit p.0.element (slice_get p.0.members 0) of.0 of.1 in
        let held : HoldAt k n m.0.hold p.0 m.0 = record { stands = (m.2.0, m.2.1, m.2.2); grouped = p.1; joined = (m.1, refl) } in
        let is = ap (λ (z : Wanted). wanted_bit z a g) (m.2.3 ∙ ap (λ (b : Wanted). with_polarity b m.0.inverted) (sym l.5)) in
        (refl, (m.0.hold, p.0, m.0, l.1, l.3, held, l.0, l.2, l.4, is))

    least_wanted : (at n : ℕ) (w : Option Bool) (a : Partial) (g : Assignment) → WantsValue k phase a g Apart at n w
        → (at ≡ n) × (n < length k.circuit.nets) × (x : Wanted) × IsOfGroups k.circuit Others k.groups n x × (wanted_bit x a g ≡ w)
    least_wanted at n w a g (same, (place, group, m, least, l, held, none, first, there, is)) =
        let h = held.stands in
        let base : base_of k.circuit Others group ≡ Some (Other l.net least.inverted) =
        ap₂ (λ (o : Option ℕ) (f : Option Member). least_by k.circuit o f) none first ∙ ap (option_map (λ (z : Hold). Other z.net least.inverted)) there in (
          same,
          net_low place h.0 n h.1 h.2,
          with_polarity (Other l.net least.inverted) m.inverted,
          (group, held.grouped, (Other l.net least.inverted, base, (m, held.joined.0, (h.0, subst (λ (i : ℕ). At k.circuit.holds i h.0) (sym held.joined.1) h.1, h.2, refl)))),
          sym is,
        )

    enter_wants : (n : ℕ) (x : Wanted) → IsOfEnters k.circuit (next_phase k.rules phase) n x → (a : Partial) (g : Assignment) → WantsValue k phase a g Enter n n (wanted_bit x a g)
    enter_wants n x p a g =
        let of = p.1 in
        let h = of.2 in
        let is : wanted_bit x a g ≡ Some of.0 = ap (λ (z : Wanted). wanted_bit z a g) h.3 in
        (refl, (p.0, h.0, h.1, h.2, is ∙ sym of.1, of.0, is))

    enter_wanted : (at n : ℕ) (w : Option Bool) (a : Partial) (g : Assignment) → WantsValue k phase a g Enter at n w
        → (at ≡ n) × (n < length k.circuit.nets) × (x : Wanted) × IsOfEnters k.circuit (next_phase k.rules phase) n x × (wanted_bit x a g ≡ w)
    enter_wanted at n w a g (same, (place, h, there, net, is, v, bit)) = (
      same,
      net_low place h n there net,
      Constant v,
      (place, (v, sym is ∙ bit, (h, there, net, refl))),
      sym bit,
    )

    enters_one : (n : ℕ) (x y : Wanted) → IsOfEnters k.circuit (next_phase k.rules phase) n x → IsOfEnters k.circuit (next_phase k.rules phase) n y → x ≡ y
    enters_one n x y p q =
        let of = p.1 in
        let also = q.1 in
        let place : p.0 ≡ q.0 = one_place p.0 q.0 of.2.0 also.2.0 n of.2.1 also.2.1 of.2.2 also.2.2 in
        let bit : of.0 ≡ also.0 = same_Some of.0 also.0 (sym of.1 ∙ ap (enter_of k.circuit (next_phase k.rules phase)) place ∙ also.1) in
        of.2.3 ∙ ap (λ (b : Bool). Constant b) bit ∙ sym also.2.3

    -- the wishes of a table of groups
    stored_wishes : (stored : Stored) (table : List (Option Wanted)) → AreGroups k.circuit k.groups → Puts (IsOfGroups k.circuit stored k.groups) (replicate (length k.circuit.nets) None) table
        → AreWishesOf (kind_of stored ∷ []) k phase (wishes_from (kind_of stored) 0 table)
    stored_wishes Latches table groups puts =
        table_wishes Next 3 k phase (IsOfGroups k.circuit Latches k.groups) (λ rank least at. refl) latch_wants latch_wanted (groups_one groups Latches) table puts
    stored_wishes Others table groups puts =
        table_wishes Apart 4 k phase (IsOfGroups k.circuit Others k.groups) (λ rank least at. refl) least_wants least_wanted (groups_one groups Others) table puts

    enter_wishes : (table : List (Option Wanted)) → Puts (IsOfEnters k.circuit (next_phase k.rules phase)) (replicate (length k.circuit.nets) None) table
        → AreWishesOf (Enter ∷ []) k phase (wishes_from Enter 0 table)
    enter_wishes table puts =
        table_wishes Enter 5 k phase (IsOfEnters k.circuit (next_phase k.rules phase)) (λ rank least at. refl) enter_wants enter_wanted enters_one table puts

-- ---- where the wishes stand

module _ (c : Circuit) (groups : List Group) where
  table_known : (kind : FaultKind) (Is : ℕ → Wanted → Type 0) (table : List (Option Wanted)) → Puts Is (replicate (length c.nets) None) table
      → ((n : ℕ) (x : Wanted) → Is n x → IsHoldNet c n × IsOfHold c groups x) → (wish : Wish) → Among (wishes_from kind 0 table) wish → IsHoldWish c groups wish
  table_known kind Is table puts known wish m =
      let r = from_table kind Is (length c.nets) table puts wish m in let is = known r.0 r.1 r.2 in subst (IsHoldWish c groups) (sym r.3) (is.0, is.1, refl)

  stored_known : (stored : Stored) (n : ℕ) (x : Wanted) → IsOfGroups c stored groups n x → IsHoldNet c n × IsOfHold c groups x
  stored_known Latches n x p =
      let of = p.2 in
      let m = of.2 in
      let e = mapped (λ (e : ℕ). Element e false) p.0.element of.0 of.1 in
      ((m.2.0, (m.0.hold, m.2.1), m.2.2), subst (IsOfHold c groups) (ap (λ (b : Wanted). with_polarity b m.0.inverted) e.2 ∙ sym m.2.3) (p.0, p.1, e.1))
  stored_known Others n x p =
      let of = p.2 in
      let m = of.2 in
      let l = least_some c p.0.element (slice_get p.0.members 0) of.0 of.1 in
      ((m.2.0, (m.0.hold, m.2.1), m.2.2), subst (IsOfHold c groups) (ap (λ (b : Wanted). with_polarity b m.0.inverted) l.5 ∙ sym m.2.3) (l.3, (l.1.hold, l.4), refl))

  enter_known : (phase n : ℕ) (x : Wanted) → IsOfEnters c phase n x → IsHoldNet c n × IsOfHold c groups x
  enter_known phase n x p =
      let m = p.1.2 in
      ((m.0, (p.0, m.1), m.2), subst (IsOfHold c groups) (sym m.3) tt)

-- ---- in any comparison

abbrev Given : Stored → List (Option Wanted) → Circuit → List Group → Type 0
Given stored table d gs = IsCircuit d × AreGroups d gs × Puts (IsOfGroups d stored gs) (replicate (length d.nets) None) table

abbrev GivenEnters : List (Option Wanted) → Circuit → Rules → ℕ → Type 0
GivenEnters table d rules phase = IsCircuit d × Puts (IsOfEnters d (next_phase rules phase)) (replicate (length d.nets) None) table

module _ (c : Circuit) (circuit : IsCircuit c) (old new : List Wish) (bare table shown : List (Option Wanted)) (count : ℕ) (len : count ≡ length c.nets) (is_bare : bare ≡ replicate count None) (is_shown : shown ≡ table) where
  none_yet : bare ≡ replicate (length c.nets) None
  none_yet = is_bare ∙ ap (λ (n : ℕ). replicate n None) len

  pub stored_added : (stored : Stored) (kind : FaultKind) (groups slice : List Group) → AreGroups c groups → slice ≡ groups → kind ≡ kind_of stored → Puts (IsOfGroups c stored slice) bare table
      → new ≡ old ++ wishes_from kind 0 shown → (rules : Rules) (phase : ℕ) → AddsHeld c rules groups phase (kind_of stored ∷ []) old new
  stored_added stored kind groups slice are listed named puts added rules phase =
      let all : Puts (IsOfGroups c stored groups) (replicate (length c.nets) None) table =
      subst (λ (t : List (Option Wanted)). Puts (IsOfGroups c stored groups) t table) none_yet (subst (λ (gs : List Group). Puts (IsOfGroups c stored gs) bare table) listed puts) in
      record {
        more = wishes_from (kind_of stored) 0 table;
        is = added ∙ ap₂ (λ (q : FaultKind) (t : List (Option Wanted)). old ++ wishes_from q 0 t) named is_shown;
        wishes = λ k ec er eg.
            let there : Given stored table k.circuit k.groups =
            subst (λ (d : Circuit). Given stored table d k.groups) (sym ec) (subst (λ (gs : List Group). Given stored table c gs) (sym eg) (circuit, are, all)) in
            stored_wishes k there.0 phase stored table there.1 there.2;
        known = table_known c groups (kind_of stored) (IsOfGroups c stored groups) table all (stored_known c groups stored);
      }

  pub entered_added : (rules : Rules) (phase after : ℕ) → after ≡ next_phase rules phase → Puts (IsOfEnters c after) bare table
      → new ≡ old ++ wishes_from Enter 0 shown → (groups : List Group) → AddsHeld c rules groups phase (Enter ∷ []) old new
  entered_added rules phase after next puts added groups =
      let all : Puts (IsOfEnters c (next_phase rules phase)) (replicate (length c.nets) None) table =
      subst (λ (t : List (Option Wanted)). Puts (IsOfEnters c (next_phase rules phase)) t table) none_yet (subst (λ (p : ℕ). Puts (IsOfEnters c p) bare table) next puts) in
      record {
        more = wishes_from Enter 0 table;
        is = added ∙ ap (λ (t : List (Option Wanted)). old ++ wishes_from Enter 0 t) is_shown;
        wishes = λ k ec er eg.
            let there : GivenEnters table k.circuit k.rules phase =
            subst (λ (d : Circuit). GivenEnters table d k.rules phase) (sym ec) (subst (λ (rs : Rules). GivenEnters table c rs phase) (sym er) (circuit, all)) in
            enter_wishes k there.0 phase table there.1;
        known = table_known c groups Enter (IsOfEnters c (next_phase rules phase)) table all (enter_known c groups (next_phase rules phase));
      }

-- ---- one list behind another

latch_before : (k : Comparison) (phase : ℕ) → AreBefore k phase (Next ∷ []) (Apart ∷ Enter ∷ [])
latch_before k phase rank least kind other at there (zero, e) (zero, f) =
    ap₂ (λ (p q : FaultKind). comes_before (standing k phase rank least p at) (standing k phase rank least q there)) (sym (same_Some Next kind e)) (sym (same_Some Apart other f))
latch_before k phase rank least kind other at there (zero, e) (suc zero, f) =
    ap₂ (λ (p q : FaultKind). comes_before (standing k phase rank least p at) (standing k phase rank least q there)) (sym (same_Some Next kind e)) (sym (same_Some Enter other f))
latch_before k phase rank least kind other at there (zero, e) (suc (suc i), f) = absurd (at_none i other f)
latch_before k phase rank least kind other at there (suc i, e) f = absurd (at_none i kind e)

group_before : (k : Comparison) (phase : ℕ) → AreBefore k phase (Apart ∷ []) (Enter ∷ [])
group_before k phase rank least kind other at there (zero, e) (zero, f) =
    ap₂ (λ (p q : FaultKind). comes_before (standing k phase rank least p at) (standing k phase rank least q there)) (sym (same_Some Apart kind e)) (sym (same_Some Enter other f))
group_before k phase rank least kind other at there (zero, e) (suc i, f) = absurd (at_none i other f)
group_before k phase rank least kind other at there (suc i, e) f = absurd (at_none i kind e)

module _ (c : Circuit) (rules : Rules) (groups : List Group) (phase : ℕ) (old first second last : List Wish) (empty : old ≡ [])
    (one : AddsHeld c rules groups phase (Next ∷ []) old first) (two : AddsHeld c rules groups phase (Apart ∷ []) first second) (three : AddsHeld c rules groups phase (Enter ∷ []) second last) where
  all_is : last ≡ one.more ++ (two.more ++ three.more)
  all_is =
      three.is ∙ ap (λ (ws : List Wish). ws ++ three.more) (two.is ∙ ap (λ (ws : List Wish). ws ++ two.more) (one.is ∙ ap (λ (ws : List Wish). ws ++ one.more) empty))
      ∙ append_assoc one.more two.more three.more

  pub all_added : AreHeldWishes c rules groups phase held_kinds last
  all_added k ec er eg =
      subst (AreWishesOf held_kinds k phase) (sym all_is)
      (wishes_joined (Next ∷ []) (Apart ∷ Enter ∷ []) k phase one.more (two.more ++ three.more) (one.wishes k ec er eg)
      (wishes_joined (Apart ∷ []) (Enter ∷ []) k phase two.more three.more (two.wishes k ec er eg) (three.wishes k ec er eg) (group_before k phase)) (latch_before k phase))

  pub all_known : All (IsHoldWish c groups) last
  all_known =
      subst (All (IsHoldWish c groups)) (sym all_is)
      (all_by (IsHoldWish c groups) (one.more ++ (two.more ++ three.more))
      (λ wish m.
      elim (among_either one.more (two.more ++ three.more) wish m) [
        | inl p ↦ one.known wish p
        | inr q ↦ elim (among_either two.more three.more wish q) [ inl p ↦ two.known wish p | inr r ↦ three.known wish r ]
      ]))
