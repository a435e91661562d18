-- What output ports ought to be given.
use Rattle.std.proofs.Common.{◌≡◌, ℕ, zero, suc, Bool, true, false, not, List, [], ◌∷◌, Option, Some, ap, ap₂, sym, subst, ◌∙◌}
use Rattle.std.proofs.lemmas.Option.{same_Some}
use Rattle.std.proofs.lemmas.Bool.{not-true}
use Rattle.phase_wishes.proofs.SpotLaws.{same_stage}
use Rattle.phase_wishes.specs.Wishes.{AreFreeBits, AreOutputWishes, AreWishesOf, IsSeenOutput, IsWish, Says, is_asked, wanted_bit}
use Rattle.phase_wishes.specs.declared.wishes.Wanted.{Wanted}
use Rattle.phase_wishes.specs.declared.wishes.Wanted.TheVariants.{Signal}
use Rattle.phase_wishes.specs.declared.wishes.Wish.{Wish}
use Rattle.vrt_model.proofs.FirstFinding.{less_head}
use Rattle.vrt_model.proofs.Lists.{one_at}
use Rattle.vrt_model.proofs.Members.{at_none}
use Rattle.vrt_model.specs.Assignment.{Assignment}
use Rattle.vrt_model.specs.Comparison.{CellPort, Comparison, output_signal, ports_of}
use Rattle.vrt_model.specs.Faults.{WantsValue, is_free}
use Rattle.vrt_model.specs.Lists.{Among}
use Rattle.vrt_model.specs.Places.{comes_before, standing}
use Rattle.vrt_model.specs.Reading.{Partial}
use Rattle.vrt_model.specs.declared.verdict.FaultKind.{FaultKind}
use Rattle.vrt_model.specs.declared.verdict.FaultKind.TheVariants.{Differs}

module _ (k : Comparison) (phase : ℕ) (wishes : List Wish) (are : AreOutputWishes k phase wishes) (free : AreFreeBits k wishes) where
  -- where it is asked for, the signal is not free
  is_cared : (wish : Wish) (signal : ℕ) (g : Assignment) → Among wishes wish → wish.wanted ≡ Signal signal → is_asked wish g ≡ true → is_free k.model g signal ≡ false
  is_cared wish signal g m wanted asked = not-true (is_free k.model g signal) (sym (free wish signal g m wanted) ∙ asked)

  is_wish : (wish : Wish) → Among wishes wish → IsWish k phase wish
  is_wish wish m a g asked =
      let e = are.each wish m in
      subst (λ (q : FaultKind). WantsValue k phase a g q wish.place wish.net.0 (wanted_bit wish.wanted a g)) (sym (are.kinds wish m))
      (e.0, e.1, e.2.there, e.2.role, e.2.seen, is_cared wish e.1 g m e.4 asked, e.3, ap (λ (x : Wanted). wanted_bit x a g) e.4)

  -- the port at a place has one signal
  one_output : (at : ℕ) (p q : CellPort) (s t : ℕ) → IsSeenOutput k phase at p s → IsSeenOutput k phase at q t → (p ≡ q) × (s ≡ t)
  one_output at p q s t one two =
      let port : p ≡ q = one_at (ports_of k) at p q one.there two.there in
      (port, same_Some s t (sym one.role ∙ ap (λ (x : CellPort). output_signal x.role) port ∙ two.role))

  says : (at n : ℕ) (w : Option Bool) (a : Partial) (g : Assignment) → WantsValue k phase a g Differs at n w → (wish : Wish) × Among wishes wish × Says wish a g Differs at n w
  says at n w a g (port, signal, there, role, seen, cared, net, bit) =
      let here : IsSeenOutput k phase at port signal = record { there = there; role = role; seen = seen } in
      let f = are.all at port signal here in
      let e = are.each f.0 f.1 in
      let one = one_output at e.0 port e.1 signal (subst (λ (i : ℕ). IsSeenOutput k phase i e.0 e.1) f.2 e.2) here in (
        f.0,
        f.1,
        record {
          kind_is = are.kinds f.0 f.1;
          place_is = f.2;
          net_is = e.3 ∙ ap (λ (p : CellPort). p.net) one.0 ∙ sym net;
          wanted_is = ap (λ (x : Wanted). wanted_bit x a g) e.4 ∙ ap (λ (s : ℕ). Some (g.signal s)) one.1 ∙ sym bit;
          asked_is = free f.0 e.1 g f.1 e.4 ∙ ap (λ (s : ℕ). not (is_free k.model g s)) one.1 ∙ ap not cared;
        },
      )

  pub output_wishes : AreWishesOf (Differs ∷ []) k phase wishes
  output_wishes = record {
    only = λ wish m. (0, ap Some (sym (are.kinds wish m)));
    each = is_wish;
    all = all_of;
    sorted = λ rank least i j x y here there lt.
        ap₂ (λ (p q : List ℕ). comes_before p q) (key_of rank least x (i, here)) (key_of rank least y (j, there))
        ∙ same_stage 2 (x.place ∷ []) (y.place ∷ []) (less_head x.place y.place [] [] (are.rising i j x y here there lt));
  }
    where
      all_of : (kind : FaultKind) (at n : ℕ) (w : Option Bool) (a : Partial) (g : Assignment) → Among (Differs ∷ []) kind → WantsValue k phase a g kind at n w
          → (wish : Wish) × Among wishes wish × Says wish a g kind at n w
      all_of kind at n w a g (zero, e) wants =
          subst (λ (q : FaultKind). (WantsValue k phase a g q at n w → (wish : Wish) × Among wishes wish × Says wish a g q at n w)) (same_Some Differs kind e)
          (says at n w a g) wants
      all_of kind at n w a g (suc i, e) wants = absurd (at_none i kind e)

      key_of : (rank least : ℕ → ℕ) (x : Wish) → Among wishes x → standing k phase rank least x.kind x.place ≡ 2 ∷ x.place ∷ []
      key_of rank least x m = ap (λ (q : FaultKind). standing k phase rank least q x.place) (are.kinds x m)
