use Rattle.std.proofs.Common.{◌≡◌, ℕ, ◌<◌, ◌≤◌, List, get_or, length, arith, ap, refl, subst}
use Rattle.circuit_faults.proofs.KeptWords.{copied_filled, copied_more, copied_none, span_rewritten}
use Rattle.circuit_faults.proofs.ScanLaws.{net_at}
use Rattle.circuit_faults.specs.KeptScans.{IsCopiedTo}
use Rattle.vrt_model.proofs.Members.{all_among}
use Rattle.vrt_model.specs.Lists.{At}
use Rattle.vrt_model.specs.declared.ids.Net.{Net}
use Rattle.circuit_faults.proofs.kept_parts.copy_reach.Goals as goal
use Rattle.path_fixpoint.proofs.Places.{place_words}

pub loop-i-init : goal.loop-i-init
loop-i-init c = record { copied = copied_none c.args.part.now c.args.value c.args.out c.args.to c.args.store.now }

pub copy_word-requires-clause-out : goal.copy_word-requires-clause-out
copy_word-requires-clause-out c =
    let copied = c.loop-i.invariant.copied in (
      span_rewritten c.args.out.span c.args.store.now c.loop-i.store copied.rest copied.len c.requires.out.0,
      copied_filled c.args.part.now c.args.value c.args.out c.args.to c.loop-i.i c.args.store.now c.loop-i.store c.requires.apart c.requires.out.1 copied,
    )

pub copy_word-requires-clause-place : goal.copy_word-requires-clause-place
copy_word-requires-clause-place c =
    let shown : length c.as_slice-nets.result.now ≡ length c.args.part.now.nets = ap (λ (xs : List Net). length xs) c.as_slice-nets.ensures in
    (place_words c.args.out (length c.args.part.now.nets) c.loop-i.i c.requires.out.2 (omega (arith, shown, c.loop-i-test.true)), c.requires.out.3)

pub copy_word-requires-clause-to : goal.copy_word-requires-clause-to
copy_word-requires-clause-to c =
    let copied = c.loop-i.invariant.copied in
    let net : Net = get_or c.as_slice-nets.result.now c.loop-i.i (record { 0 = 0 }) in
    let there : At c.args.part.now.nets c.loop-i.i net = net_at c.args.part.now.nets c.as_slice-nets.result.now c.loop-i.i (record { 0 = 0 }) c.as_slice-nets.ensures c.loop-i-test.true in (
      span_rewritten c.args.to c.args.store.now c.loop-i.store copied.rest copied.len c.requires.to,
      all_among (λ (n : Net). n.0 < c.args.to.len) c.args.part.now.nets net c.requires.nets (c.loop-i.i, there),
    )

pub loop-i-preserved : goal.loop-i-preserved
loop-i-preserved c =
    let part = c.args.part.now in
    let i = c.loop-i.i in
    let net : Net = get_or c.as_slice-nets.result.now i (record { 0 = 0 }) in
    let there : At part.nets i net = net_at part.nets c.as_slice-nets.result.now i (record { 0 = 0 }) c.as_slice-nets.ensures c.loop-i-test.true in
    let copied = c.loop-i.invariant.copied in
    let span = span_rewritten c.args.to c.args.store.now c.loop-i.store copied.rest copied.len c.requires.to in
    record {
      copied = copied_more part c.args.value c.args.out c.args.to c.requires.once c.requires.out.2 c.requires.apart c.args.store.now c.loop-i.store c.copy_word.new.store i net.0
          (net, there, refl) copied (all_among (λ (n : Net). n.0 < c.args.to.len) part.nets net c.requires.nets (i, there)) span.1 c.copy_word.ensures;
    }

pub returns : goal.returns
returns c =
    let part = c.args.part.now in
    let shown : length c.as_slice-nets.result.now ≡ length part.nets = ap (λ (xs : List Net). length xs) c.as_slice-nets.ensures in
    let high : length c.as_slice-nets.result.now ≤ c.loop-i.i = c.loop-i-test.false in
    let low : c.loop-i.i ≤ length c.as_slice-nets.result.now = c.loop-i.auto.i-end in
    let end : c.loop-i.i ≡ length part.nets = omega (arith, shown, high, low) in
    subst (λ (k : ℕ). IsCopiedTo part c.args.value c.args.out c.args.to k c.args.store.now c.loop-i.store) end c.loop-i.invariant.copied
