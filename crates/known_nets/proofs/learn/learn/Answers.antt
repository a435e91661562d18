use Rattle.std.proofs.Common.{◌≡◌, ℕ, Some, true, get_or, arith, ap, inl, inr, subst, sym, ◌∙◌, below_more}
use Rattle.std.specs.Prelude.{is_some}
use Rattle.std.proofs.lemmas.Option.{same_Some, slice_get-get_or, slice_get_within}
use Rattle.known_nets.proofs.TableLaws.{some_grown}
use Rattle.known_nets.proofs.WaitLaws.{noted_none, noted_then}
use Rattle.known_nets.specs.KnownTables.{known_at}
use Rattle.known_nets.specs.Learned.{shown_of}
use Rattle.vrt_model.specs.Lists.{At}
use Rattle.known_nets.proofs.learn.learn.Goals as goal

pub loop-net-init : goal.loop-net-init
loop-net-init c = record {
  step = noted_none c.args.circuit.now c.args.known.now.items c.args.waiting.now;
  found = λ i lt n at some. absurd (omega (arith, lt));
  only = λ n v e. inl e;
}

pub learn_net-requires-clause-net : goal.learn_net-requires-clause-net
learn_net-requires-clause-net c =
    let nets = c.args.nets.now in
    let i = c.loop-net.net-index in
    let at : At nets i (get_or nets i 0) = slice_get-get_or nets i 0 c.loop-net-test.true in
    let inside = c.requires.nets (get_or nets i 0) (i, at) in
    let len = c.loop-net.invariant.step.size in
    omega (arith, inside, len)

pub learn_net-requires-clause-known : goal.learn_net-requires-clause-known
learn_net-requires-clause-known c = c.loop-net.invariant.step.size ∙ c.requires.known

pub learn_net-requires-clause-marks : goal.learn_net-requires-clause-marks
learn_net-requires-clause-marks c = c.loop-net.invariant.step.waited.size ∙ c.requires.marks

pub loop-net-preserved : goal.loop-net-preserved
loop-net-preserved c =
    let nets = c.args.nets.now in
    let zeros = c.args.tables.now.zeros.table.items in
    let ones = c.args.tables.now.ones.table.items in
    let i = c.loop-net.net-index in
    let net : ℕ = get_or nets i 0 in
    let at : At nets i net = slice_get-get_or nets i 0 c.loop-net-test.true in
    let mid = c.loop-net.known.items in
    let new = c.learn_net.new.known.items in
    let bit : c.shown-bit.result ≡ shown_of zeros ones net = c.shown-bit.ensures in
    let learned = c.in_ok-learned.ensures in
    let P : ℕ → Type 0 = λ k. (n : ℕ) → At nets k n → is_some (shown_of zeros ones n) ≡ true → is_some (known_at new n) ≡ true in
    record {
      step = noted_then c.args.circuit.now c.loop-net.more c.in_ok-learned.learned c.args.known.now.items mid new c.args.waiting.now c.loop-net.waiting c.learn_net.new.waiting c.loop-net.invariant.step learned.step;
      found = below_more P i
          (λ k lt n e some. some_grown (known_at mid n) (known_at new n) (learned.step.grown n) (c.loop-net.invariant.found k lt n e some))
          (λ n e some.
          let same : net ≡ n = same_Some net n (sym at ∙ e) in
          subst (λ (x : ℕ). is_some (known_at new x) ≡ true) same (learned.noted (ap is_some bit ∙ subst (λ (x : ℕ). is_some (shown_of zeros ones x) ≡ true) (sym same) some)));
      only = λ n v e. elim (learned.only n v e) [
        | inl o ↦ c.loop-net.invariant.only n v o
        | inr q ↦ inr ((i, subst (At nets i) (sym q.0) at), subst (λ (x : ℕ). shown_of zeros ones x ≡ Some v) (sym q.0) (sym bit ∙ q.1))
      ];
    }

pub returns-clause-step : goal.returns-clause-step
returns-clause-step c = c.loop-net.invariant.step

pub returns-clause-found : goal.returns-clause-found
returns-clause-found c n m =
    let inside = slice_get_within c.args.nets.now m.0 n m.1 in
    c.loop-net.invariant.found m.0 (omega (arith, inside, c.loop-net-test.false)) n m.1

pub returns-clause-only : goal.returns-clause-only
returns-clause-only c = c.loop-net.invariant.only
