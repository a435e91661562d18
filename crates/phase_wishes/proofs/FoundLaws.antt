-- The first wish that is missed, by cases, and by the definition of the faults.
use Rattle.std.proofs.Common.{◌≡◌, ℕ, Bool, true, false, not, cond, List, All, ap, refl, sym, subst, ◌∙◌}
use Rattle.std.specs.Prelude.{Option, Some, None, map, option_map, unwrap_or}
use Rattle.std.proofs.lemmas.Bool.{false≢true}
use Rattle.std.proofs.lemmas.Option.{same_Some}
use Rattle.bdd_core.specs.Diagram.{Valuation}
use Rattle.bdd_core.specs.Store.{Diagrams, function_of}
use Rattle.bdd_core.specs.Words.{shows}
use Rattle.bdd_core.specs.declared.handle.H.{H}
use Rattle.fault_places.specs.Searches.{IsFoundIn}
use Rattle.phase_wishes.specs.Missed.{MissedIn, IsFirstMissed, IsFreeInside, IsInside, IsWithinBits, WishCase, WishesFind, WishesGive, asked_in, net_at, nets_in, wanted_at}
use Rattle.phase_wishes.specs.Wishes.{AreOnce, IsMissed, is_asked, spot_of, wanted_bit}
use Rattle.phase_wishes.specs.declared.missed.WishFault.{WishFault}
use Rattle.phase_wishes.specs.declared.wishes.Wanted.{Wanted}
use Rattle.phase_wishes.specs.declared.wishes.Wanted.TheVariants.{Signal, Element, Other, Constant}
use Rattle.phase_wishes.specs.declared.wishes.Wish.{Wish}
use Rattle.phase_wishes.specs.declared.wishes.WishBits.{WishBits}
use Rattle.vrt_model.proofs.Lists.{at_map, map_at}
use Rattle.vrt_model.proofs.Members.{all_among, among_later}
use Rattle.vrt_model.specs.Lists.{Among, At, differ}

turned_test : (free care : Bool) → care ≡ true → cond free false care ≡ not free
turned_test true care e = refl
turned_test false care e = e

-- where a wish is asked for there is care
pub asked_cared : (d : Diagrams) (care : H) (bits : WishBits) (free : Option ℕ) (v : Valuation) → asked_in d care bits free v ≡ true → function_of d care v ≡ true
asked_cared d care bits None v e = e
asked_cared d care bits (Some bit) v e = by_bit (shows d bits.values bit v) (function_of d care v) e
  where
    by_bit : (free care : Bool) → cond free false care ≡ true → care ≡ true
    by_bit true care e = absurd (false≢true e)
    by_bit false care e = e

module _ (wishes : List Wish) (care : H) (bits : WishBits) (old new : Diagrams) (inside : All (IsWithinBits bits) wishes) where
  abbrev Case : Type 0
  Case = WishCase wishes bits old

  -- ---- one wish in one case

  module _ (v : Case) (wish : Wish) (among : Among wishes wish) where
    net_is : v.solution wish.net.0 ≡ Some (net_at old bits wish v.valuation)
    net_is = v.nets wish wish.net.0 among (0, refl)

    wanted_by : (wanted : Wanted) → IsInside bits wanted → ((n : ℕ) → Among (nets_in wanted) n → v.solution n ≡ Some (net_at old bits (record wish { net = record { 0 = n } }) v.valuation))
        → wanted_bit wanted v.solution v.assignment ≡ Some (wanted_at old bits wanted v.valuation)
    wanted_by (Signal signal) lt nets = ap (λ (b : Bool). Some b) (v.signals signal lt)
    wanted_by (Element element inverted) lt nets = ap (λ (b : Bool). Some (differ inverted b)) (v.elements element lt)
    wanted_by (Other net inverted) lt nets = ap (option_map (λ (b : Bool). differ inverted b)) (nets net.0 (0, refl))
    wanted_by (Constant b) lt nets = refl

    wanted_is : wanted_bit wish.wanted v.solution v.assignment ≡ Some (wanted_at old bits wish.wanted v.valuation)
    wanted_is =
        wanted_by wish.wanted (all_among (IsWithinBits bits) wishes wish inside among).1
        (λ n m. v.nets wish n among (among_later wish.net.0 (nets_in wish.wanted) n m))

    -- it is asked for in the case exactly where it is at the valuation
    asked_is : function_of old care v.valuation ≡ true → asked_in old care bits wish.free v.valuation ≡ is_asked wish v.assignment
    asked_is cared = asked_by wish.free (all_among (IsWithinBits bits) wishes wish inside among).2
      where
        asked_by : (free : Option ℕ) → IsFreeInside bits free → asked_in old care bits free v.valuation ≡ unwrap_or (option_map (λ (bit : ℕ). not (v.assignment.signal bit)) free) true
        asked_by None lt = cared
        asked_by (Some bit) lt = turned_test (shows old bits.values bit v.valuation) (function_of old care v.valuation) cared ∙ ap not (sym (v.signals bit lt))

    same_bits : v.solution wish.net.0 ≡ wanted_bit wish.wanted v.solution v.assignment → net_at old bits wish v.valuation ≡ wanted_at old bits wish.wanted v.valuation
    same_bits e = same_Some (net_at old bits wish v.valuation) (wanted_at old bits wish.wanted v.valuation) (sym net_is ∙ e ∙ wanted_is)

    bits_same : net_at old bits wish v.valuation ≡ wanted_at old bits wish.wanted v.valuation → v.solution wish.net.0 ≡ wanted_bit wish.wanted v.solution v.assignment
    bits_same e = net_is ∙ ap (λ (b : Bool). Some b) e ∙ sym wanted_is

  -- ---- over all cases

  -- the wish that is missed at the place of the first one is this
  same_wish : AreOnce wishes → (fault : WishFault) → IsFirstMissed wishes care bits fault old new → (v : Case) → (m : IsMissed wishes (spot_of fault.wish) v.solution v.assignment) → fault.wish ≡ m.wish
  same_wish once fault first v m =
      let one : first.index ≡ m.among.0 = once first.index m.among.0 fault.wish m.wish first.stands m.among.1 (sym m.here) in
      same_Some fault.wish m.wish (sym first.stands ∙ subst (λ (n : ℕ). At wishes n m.wish) (sym one) m.among.1)

  asked_one : AreOnce wishes → (fault : WishFault) → IsFirstMissed wishes care bits fault old new → (v : Case) → function_of old care v.valuation ≡ true
      → IsMissed wishes (spot_of fault.wish) v.solution v.assignment → asked_in old care bits fault.wish.free v.valuation ≡ true
  asked_one once fault first v cared m =
      asked_is v fault.wish (first.index, first.stands) cared ∙ ap (λ (w : Wish). is_asked w v.assignment) (same_wish once fault first v m) ∙ m.asked

  missed_one : AreOnce wishes → (fault : WishFault) → IsFirstMissed wishes care bits fault old new → (v : Case) → IsMissed wishes (spot_of fault.wish) v.solution v.assignment → net_at old bits fault.wish v.valuation ≡ wanted_at old bits fault.wish.wanted v.valuation → ⊥
  missed_one once fault first v m same =
      m.missed (subst (λ (w : Wish). v.solution w.net.0 ≡ wanted_bit w.wanted v.solution v.assignment) (same_wish once fault first v m) (bits_same v fault.wish (first.index, first.stands) same))

  found_first : (fault : WishFault) → IsFirstMissed wishes care bits fault old new → AreOnce wishes
      → IsFoundIn (MissedIn wishes bits old) (λ (v : Case). function_of old care v.valuation) (λ (v : Case). function_of new fault.at v.valuation) (map spot_of wishes) (spot_of fault.wish)
  found_first fault first once = record {
    place = first.index;
    stands = map_at spot_of wishes first.index fault.wish first.stands;
    exact = λ v. (
      λ e.
          let there = (first.exact v.valuation).0 e in
          let cared = asked_cared old care bits fault.wish.free v.valuation there.0 in (
            cared,
            record {
              wish = fault.wish;
              among = (first.index, first.stands);
              here = refl;
              asked = sym (asked_is v fault.wish (first.index, first.stands) cared) ∙ there.0;
              missed = λ same. there.1 (same_bits v fault.wish (first.index, first.stands) same);
            },
          ),
      λ h. (first.exact v.valuation).1 (asked_one once fault first v h.0 h.1, λ same. missed_one once fault first v h.1 same),
    );
    before = λ i y v lt e cared m.
        let there = at_map spot_of wishes i y e in
        let one : i ≡ m.among.0 = once i m.among.0 there.0 m.wish there.1 m.among.1 (there.2 ∙ sym m.here) in
        m.missed (bits_same v m.wish m.among (first.before i m.wish lt (subst (λ (n : ℕ). At wishes n m.wish) (sym one) m.among.1) v.valuation (asked_is v m.wish m.among cared ∙ m.asked)));
  }

  pub found_wishes : (found : Option WishFault) → WishesGive wishes care bits old new found → WishesFind wishes care bits old new found
  found_wishes None met = λ i x v at cared m. m.missed (bits_same v m.wish m.among (met m.among.0 m.wish m.among.1 v.valuation (asked_is v m.wish m.among cared ∙ m.asked)))
  found_wishes (Some fault) first = record {
    among = (first.index, first.stands);
    found = found_first fault first;
    asked = λ v e.
        let there = (first.exact v.valuation).0 e in
        sym (asked_is v fault.wish (first.index, first.stands) (asked_cared old care bits fault.wish.free v.valuation there.0)) ∙ there.0;
    has = λ v. net_is v fault.wish (first.index, first.stands) ∙ ap (λ (b : Bool). Some b) (sym (first.circuit.same v.valuation));
    ought = λ v. wanted_is v fault.wish (first.index, first.stands) ∙ ap (λ (b : Bool). Some b) (sym (first.wanted.same v.valuation));
  }
