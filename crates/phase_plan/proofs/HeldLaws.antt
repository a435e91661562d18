-- The wishes of output ports and those of holds behind them are all; the nets and bits of which they speak are there.
use Rattle.std.proofs.Common.{◌≡◌, ℕ, zero, suc, ◌<◌, ◌||◌, true, List, Option, Some, None, ◌++◌, length, arith, length-append, refl, sym, subst, ◌∙◌, inl, inr}
use Rattle.std.specs.Prelude.{All, ◌==◌}
use Rattle.std.proofs.lemmas.Bool.{eq-eqb, or_left, or_right}
use Rattle.std.proofs.lemmas.Option.{none-some, same_Some}
use Rattle.phase_plan.proofs.FewLaws.{few_held}
use Rattle.phase_plan.specs.Gives.{AddsHolds, HasWishes}
use Rattle.phase_ports.proofs.DontCareLaws.{bit_among, free_bits}
use Rattle.phase_ports.proofs.ObservedLaws.{observed_of}
use Rattle.phase_ports.specs.Comparisons.{AreFew, IsAtPort}
use Rattle.phase_ports.specs.DontCares.{AreDontCareBits, HaveBitsOf, bit_of}
use Rattle.phase_ports.specs.Observed.{has_constrained, has_gate, has_hold, has_whole, has_wish}
use Rattle.phase_terms.specs.Plans.{IsFreeThere, IsWantedThere, IsWishThere}
use Rattle.phase_terms.specs.Ready.{IsReady}
use Rattle.phase_wishes.proofs.KnownLaws.{hold_nets, hold_observed}
use Rattle.phase_wishes.proofs.OutputLaws.{output_wishes}
use Rattle.phase_wishes.proofs.WishLaws.{all_wishes}
use Rattle.phase_wishes.specs.Held.{IsHoldNet, IsHoldWish, IsOfHold}
use Rattle.phase_wishes.specs.Missed.{nets_in, nets_of}
use Rattle.phase_wishes.specs.Wishes.{AreOutputWishes}
use Rattle.phase_wishes.specs.declared.wishes.Wanted.{Wanted}
use Rattle.phase_wishes.specs.declared.wishes.Wanted.TheVariants.{Signal, Element, Other, Constant}
use Rattle.phase_wishes.specs.declared.wishes.Wish.{Wish}
use Rattle.vrt_model.proofs.Members.{all_among, all_by, among_any, among_either, at_none}
use Rattle.vrt_model.specs.Circuits.{IsHold}
use Rattle.vrt_model.specs.Comparison.{Comparison, cell_at, is_observed, port_nets}
use Rattle.vrt_model.specs.Lists.{Among, At}
use Rattle.vrt_model.specs.declared.flat_model.DontCare.{DontCare}

module _ (k : Comparison) (phase : ℕ) (ready : IsReady k) where
  -- ---- holds

  hold_below : (n : ℕ) → IsHoldNet k.circuit n → n < length k.circuit.nets
  hold_below n hold =
      let below = (all_among (IsHold k.circuit) k.circuit.holds hold.0 ready.circuit.holds hold.1).net in
      let is = hold.2 in
      omega (arith, below, is)

  hold_wanted : (wanted : Wanted) → IsOfHold k.circuit k.groups wanted → IsWantedThere k wanted
  hold_wanted (Signal signal) of = absurd of
  hold_wanted (Element element inverted) of = ready.elements of.0 element of.1 of.2
  hold_wanted (Other net inverted) of = hold_below net.0 of
  hold_wanted (Constant v) of = tt

  hold_there : (wish : Wish) → IsHoldWish k.circuit k.groups wish → IsWishThere k phase wish
  hold_there wish is = record {
    net = hold_below wish.net.0 is.0;
    wanted = hold_wanted wish.wanted is.1;
    free = subst (IsFreeThere k) (sym is.2) tt;
    seen = λ n a. hold_observed k phase n (hold_nets k.circuit k.groups wish n is a);
  }

  -- ---- output ports

  module _ (outputs : List Wish) (are : AreOutputWishes k phase outputs) (at : All (IsAtPort k.rules (cell_at k.design k.cell)) outputs)
      (table : List (Option ℕ)) (bits : AreDontCareBits k.model table) (have : HaveBitsOf table outputs) where
    -- a don't-care bit of the table is one of the model's
    free_there : (wish : Wish) (signal : ℕ) → Among outputs wish → wish.wanted ≡ Signal signal → IsFreeThere k wish.free
    free_there wish signal m wanted = by_bit wish.free (have wish signal m wanted ∙ bits signal)
      where
        by_bit : (o : Option ℕ) → o ≡ bit_of k.model.dontcares signal None → IsFreeThere k o
        by_bit None e = tt
        by_bit (Some bit) e =
            elim (bit_among k.model.dontcares signal bit None (sym e)) [
              | inl none ↦ absurd (none-some bit none)
              | inr m ↦
                  let below = (all_among (λ (d : DontCare). (d.output < length k.model.signals) × (d.bit < length k.model.signals)) k.model.dontcares m.0 ready.model.dontcares m.1).1 in
                  subst (λ (n : ℕ). n < length k.model.signals) m.2 below
            ]

    output_seen : (wish : Wish) → Among outputs wish → is_observed k phase wish.net.0 ≡ true
    output_seen wish m =
        let n : ℕ = wish.net.0 in
        let gates = has_gate k.circuit.devices n in
        let holds = has_hold k.circuit.holds n in
        let wishes = has_wish outputs n in
        let instances = has_constrained k.design k.rules k.circuit.instances n in
        let wholes = has_whole k.circuit.wholes n in
        let here : wishes ≡ true = among_any (λ (w : Wish). w.net.0 == n) outputs wish m (eq-eqb n n refl) in
        sym (observed_of k phase n outputs k.design k.rules k.circuit (record { design_is = refl; rules_are = refl; circuit_is = refl }) are)
        ∙ or_left (((gates || holds) || wishes) || instances) wholes
        (or_left ((gates || holds) || wishes) instances (or_right (gates || holds) wishes here))

    output_there : (wish : Wish) → Among outputs wish → IsWishThere k phase wish
    output_there wish m =
        let p = are.each wish m in
        record {
          net = all_among (λ net. net < length k.circuit.nets) (port_nets k.rules (cell_at k.design k.cell).ports) wish.net.0 ready.ports
              (all_among (IsAtPort k.rules (cell_at k.design k.cell)) outputs wish at m);
          wanted = subst (IsWantedThere k) (sym p.4) (ready.outputs wish.place p.0 p.1 p.2.there p.2.role);
          free = free_there wish p.1 m p.4;
          seen = seen p.1 p.4;
        }
      where
        seen : (signal : ℕ) → wish.wanted ≡ Signal signal → (n : ℕ) → Among (nets_of wish) n → is_observed k phase n ≡ true
        seen signal is n (zero, e) = subst (λ (m : ℕ). is_observed k phase m ≡ true) (same_Some wish.net.0 n e) (output_seen wish m)
        seen signal is n (suc i, e) = absurd (at_none i n (subst (λ (w : Wanted). At (nets_in w) i n) is e))

    -- ---- all wishes

    pub wishes_are : AreFew k.rules (cell_at k.design k.cell) outputs → (wishes : List Wish) → AddsHolds k phase outputs wishes → HasWishes k phase wishes
    wishes_are few wishes adds = subst (HasWishes k phase) (sym adds.is) (record {
      are = all_wishes k phase outputs adds.more (output_wishes k phase outputs are (free_bits k table outputs ready.dontcares bits have)) adds.wishes;
      there = all_by (IsWishThere k phase) (outputs ++ adds.more)
          (λ wish m. elim (among_either outputs adds.more wish m) [ inl p ↦ output_there wish p | inr q ↦ hold_there wish (held wish q) ]);
      few =
          let one = few k.circuit ready.ports in
          let two = few_held k phase adds.more adds.wishes (length k.circuit.nets) (λ wish q. hold_below wish.net.0 (held wish q).0) in
          let joined = length-append outputs adds.more in
          omega (arith, one, two, joined);
    })
      where
        held : (wish : Wish) → Among adds.more wish → IsHoldWish k.circuit k.groups wish
        held wish q = all_among (IsHoldWish k.circuit k.groups) adds.more wish adds.known q
