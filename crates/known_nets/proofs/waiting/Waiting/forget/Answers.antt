use Rattle.std.proofs.Common.{◌≡◌, ℕ, false, get_or, arith, inl, inr, refl, subst, sym, ◌∙◌, below_more}
use Rattle.std.proofs.lemmas.Bool.{cases_Bool, false≢true}
use Rattle.std.proofs.lemmas.Option.{same_Some, slice_get-get_or, slice_get_within}
use Rattle.known_nets.specs.Waits.{waits}
use Rattle.vrt_model.specs.Lists.{mark_at, At}
use Rattle.known_nets.proofs.waiting.Waiting.forget.Goals as goal

pub loop-net-init : goal.loop-net-init
loop-net-init c = record {
  size = refl;
  gone = λ i lt n at. absurd (omega (arith, lt));
  only = λ n e. e;
  kept = λ n e. inl e;
  list = refl;
}

pub loop-net-preserved : goal.loop-net-preserved
loop-net-preserved c =
    let nets = c.args.nets.now in
    let i = c.loop-net.net-index in
    let net : ℕ = get_or nets i 0 in
    let at : At nets i net = slice_get-get_or nets i 0 c.loop-net-test.true in
    let u = c.unmark.new.marks.items in
    let P : ℕ → Type 0 = λ i. (n : ℕ) → At nets i n → mark_at u n ≡ false in
    let stays : (n : ℕ) → waits c.loop-net.self n ≡ false → mark_at u n ≡ false = λ n f.
    elim (cases_Bool (mark_at u n)) [ inr g ↦ g | inl t ↦ absurd (false≢true (sym f ∙ c.unmark.ensures.only n t)) ] in
    record {
      size = c.unmark.ensures.size ∙ c.loop-net.invariant.size;
      gone = below_more P i
          (λ k lt n e. stays n (c.loop-net.invariant.gone k lt n e))
          (λ n e. subst (λ (x : ℕ). mark_at u x ≡ false) (same_Some net n (sym at ∙ e)) c.unmark.ensures.gone);
      only = λ n e. c.loop-net.invariant.only n (c.unmark.ensures.only n e);
      kept = λ n e. elim (c.loop-net.invariant.kept n e) [
        | inr m ↦ inr m
        | inl t ↦ elim (c.unmark.ensures.kept n t) [ inl s ↦ inl s | inr is ↦ inr (i, subst (At nets i) (sym is) at) ]
      ];
      list = c.loop-net.invariant.list;
    }

pub returns : goal.returns
returns c = record {
  size = c.loop-net.invariant.size;
  gone = λ n m.
      let inside = slice_get_within c.args.nets.now m.0 n m.1 in
      c.loop-net.invariant.gone m.0 (omega (arith, inside, c.loop-net-test.false)) n m.1;
  only = c.loop-net.invariant.only;
  kept = c.loop-net.invariant.kept;
  list = c.loop-net.invariant.list;
}
