use Rattle.std.proofs.Common.{◌≡◌, ◌<◌, ◌≤◌, ◌+◌, ℕ, Bool, List, Option, Some, cond, length, true, false, arith, ap, subst, sym, ◌∙◌}
use Rattle.std.specs.Prelude.{slice_get}
use Rattle.std.proofs.lemmas.List.{length_push}
use Rattle.known_nets.specs.KnownTables.{known_at}
use Rattle.vrt_model.specs.Lists.{bit_at}
use Rattle.witness.proofs.StartLaws.{input_place_more}
use Rattle.witness.proofs.ViewLaws.{pushed_each}
use Rattle.witness.specs.Replays.{input_place}
use Rattle.witness.specs.Settling.{is_input_at, start_of}
use Rattle.witness.proofs.starting.start_bits.Goals as goal

pub next_place-place-requires : goal.next_place-place-requires
next_place-place-requires c = let low = c.loop-net.invariant.below in let inside = c.loop-net-test.true in omega (arith, low, inside)

pub loop-net-preserved : goal.loop-net-preserved
loop-net-preserved c =
    let circuit = c.args.circuit.now in
    let known = c.args.known.now in
    let inputs = c.args.inputs.now in
    let k = c.loop-net.net in
    let bits = c.loop-net.bits.items in
    let start : ℕ → Option Bool = λ n. start_of circuit known inputs n in
    let input : c.is_input-input.result ≡ is_input_at circuit k = c.is_input-input.ensures in
    let place : c.loop-net.place ≡ input_place circuit k = c.loop-net.invariant.place in
    let own : c.start_bit-own.result ≡ start k =
    c.start_bit-own.ensures
    ∙ (ap (λ (b : Bool). cond b (Some c.bit.result) c.known_bit.result) input
    ∙ (ap (λ (o : Option Bool). cond (is_input_at circuit k) (Some c.bit.result) o) c.known_bit.ensures
    ∙ ap (λ (b : Bool). cond (is_input_at circuit k) (Some b) (known_at known k)) (c.bit.ensures ∙ ap (bit_at inputs) place))) in
    let next : c.next_place-place.result ≡ input_place circuit (k + 1) =
    c.next_place-place.ensures
    ∙ (ap (λ (b : Bool). cond b (c.loop-net.place + 1) c.loop-net.place) input
    ∙ (ap (λ (p : ℕ). cond (is_input_at circuit k) (p + 1) p) place ∙ sym (input_place_more circuit k))) in
    record {
      len = ap (λ (xs : List (Option Bool)). length xs) c.in_ok-append.ensures ∙ length_push bits c.start_bit-own.result ∙ ap (λ (m : ℕ). m + 1) c.loop-net.invariant.len;
      place = next;
      below = most c.is_input-input.result c.loop-net.place k c.next_place-place.result c.next_place-place.ensures c.loop-net.invariant.below;
      each = subst (λ (xs : List (Option Bool)). (n : ℕ) → n < k + 1 → slice_get xs n ≡ Some (start n)) (sym c.in_ok-append.ensures)
          (pushed_each bits c.start_bit-own.result start k c.loop-net.invariant.len c.loop-net.invariant.each own);
    }
  where
    most : (b : Bool) (p k r : ℕ) → r ≡ cond b (p + 1) p → p ≤ k → r ≤ k + 1
    most true p k r e le = omega (arith, e, le)
    most false p k r e le = omega (arith, e, le)
