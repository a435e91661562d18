use Rattle.std.proofs.Common.{◌≡◌, ℕ, ◌+◌, ◌*◌, ◌≤◌, Bool, List, Option, Err, Ok, get_or, length, true, false, arith, ap, refl, subst, ◌<◌, ◌∙◌}
use Rattle.std.proofs.Math.Nat.{mul-le-mul_right}
use Rattle.bdd_core.specs.Store.{function_of}
use Rattle.bdd_ops.proofs.CountingLaws.{counted_more, counted_then, counts_ok}
use Rattle.bdd_ops.proofs.WithinLaws.{within_same}
use Rattle.circuit_faults.proofs.ScanLaws.{net_at, scanned_more, found_at}
use Rattle.circuit_faults.specs.Scans.{IsClearNet, IsScannedTo, NetGives, IsFaultyNet}
use Rattle.circuit_faults.specs.Small.{reach_of, scan_operations}
use Rattle.circuit_faults.proofs.WayLaws.{few_kept, reach_kept, ready_kept}
use Rattle.circuit_faults.specs.declared.net.CircuitFault.{CircuitFault}
use Rattle.bdd_core.proofs.Frames.{filled_beside, writes_then, span_written}
use Rattle.path_fixpoint.proofs.SpendingLaws.{one_more, span_beside, spends_behind, spends_more, spends_value, times_most}
use Rattle.path_fixpoint.specs.Parts.{IsPlace}
use Rattle.vrt_model.specs.Lists.{At, mark_at}
use Rattle.vrt_model.specs.declared.ids.Net.{Net}
use Rattle.circuit_faults.proofs.scan.scan.Goals as goal
use Rattle.path_fixpoint.proofs.Places.{place_words}
use Rattle.vrt_model.proofs.Members.{all_among}

pub check_net-requires-clause-care : goal.check_net-requires-clause-care
check_net-requires-clause-care c = omega (arith, c.requires.care, c.loop-i.invariant.writes.adds.longer)

pub check_net-requires-clause-gates : goal.check_net-requires-clause-gates
check_net-requires-clause-gates c = (
  span_written c.args.gates c.args.gates c.args.store.now c.loop-i.store c.loop-i.invariant.writes c.requires.gates.0,
  c.loop-i.invariant.writes.live,
)

pub check_net-requires-clause-out : goal.check_net-requires-clause-out
check_net-requires-clause-out c = (
  span_written c.args.gates c.args.out.span c.args.store.now c.loop-i.store c.loop-i.invariant.writes c.requires.out.0,
  filled_beside c.args.gates c.args.out.span c.args.store.now c.loop-i.store c.loop-i.invariant.writes c.requires.apart c.requires.out.1,
)

pub check_net-requires-clause-place : goal.check_net-requires-clause-place
check_net-requires-clause-place c =
    let part = c.args.part.now in
    let i = c.loop-i.i in
    let net : Net = get_or c.as_slice-nets.result.now i (record { 0 = 0 }) in
    let there : At part.nets i net = net_at part.nets c.as_slice-nets.result.now i (record { 0 = 0 }) c.as_slice-nets.ensures c.loop-i-test.true in
    let shown : length c.as_slice-nets.result.now ≡ length part.nets = ap (λ (xs : List Net). length xs) c.as_slice-nets.ensures in
    let inside : i < length part.nets = omega (arith, shown, c.loop-i-test.true) in
    let fits = place_words c.args.out (length part.nets) i c.requires.out.2 inside in (
      (all_among (λ (n : Net). (n.0 < c.args.gates.len) × (n.0 < length c.args.observed.now)) part.nets net c.requires.nets.0 (i, there)).0,
      fits,
      c.requires.out.3,
      ready_kept c.args.gates c.args.out c.args.store.now c.loop-i.store c.loop-i.invariant.writes c.requires.apart c.requires.out.1 c.args.way i fits (c.requires.ready i inside),
    )

pub loop-i-preserved : goal.loop-i-preserved
loop-i-preserved c =
    let part = c.args.part.now in
    let care = c.args.care in
    let gates = c.args.gates in
    let out = c.args.out in
    let way = c.args.way in
    let first = c.args.store.now in
    let old = c.loop-i.store in
    let new = c.check_net.new.store in
    let i = c.loop-i.i in
    let wr = c.loop-i.invariant.writes in
    let net : Net = get_or c.as_slice-nets.result.now i (record { 0 = 0 }) in
    let there : At part.nets i net = net_at part.nets c.as_slice-nets.result.now i (record { 0 = 0 }) c.as_slice-nets.ensures c.loop-i-test.true in
    let place : IsPlace part i net.0 = (net, there, refl) in
    let shown : length c.as_slice-nets.result.now ≡ length part.nets = ap (λ (xs : List Net). length xs) c.as_slice-nets.ensures in
    let inside : i < length part.nets = omega (arith, shown, c.loop-i-test.true) in
    let fits = place_words out (length part.nets) i c.requires.out.2 inside in
    let ready = c.requires.ready i inside in
    let zero = reach_of way old out false i in
    let one = reach_of way old out true i in
    let gives : IsClearNet (function_of old care) zero one (c.is_seen-seen.result) =
    subst (λ (o : Option CircuitFault). NetGives (function_of old care) zero one c.is_seen-seen.result net new o) c.in_default.is c.in-Ok.ensures.gives in
    let clear : IsClearNet (function_of old care) zero one (mark_at c.args.observed.now net.0) = subst (λ (b : Bool). IsClearNet (function_of old care) zero one b) c.is_seen-seen.ensures gives in
    record {
      writes = writes_then gates first old new wr c.check_net.ensures.writes;
      scanned = scanned_more part (mark_at c.args.observed.now) care gates (reach_of way first out) c.requires.nets.1 first old wr c.requires.care i net place c.loop-i.invariant.scanned zero one
          (reach_kept gates out first old wr c.requires.apart c.requires.out.1 way false i fits ready) (reach_kept gates out first old wr c.requires.apart c.requires.out.1 way true i fits ready)
          new c.check_net.ensures.writes wr.live clear (λ seen. c.in-Ok.ensures.bit c.in_default.is (c.is_seen-seen.ensures ∙ seen)) c.check_net.ensures.apart
          (λ n at. subst (λ (k : ℕ). k < gates.len) at.1.2 (all_among (λ (m : Net). (m.0 < gates.len) × (m.0 < length c.args.observed.now)) part.nets at.1.0 c.requires.nets.0 (at.0, at.1.1)).0);
      counted = λ u care_in gates_in out_in few_in.
          let before = c.loop-i.invariant.counted u care_in gates_in out_in few_in in
          let one = c.in-Ok.ensures.few u (within_same u (function_of first care) (function_of old care) (wr.adds.kept care.0 c.requires.care) care_in) before.1
          (span_beside u gates out.span first old wr c.requires.apart c.requires.out.1 out_in) (few_kept gates out first old wr c.requires.apart c.requires.out.1 u way i ready few_in) in
          let n = scan_operations way in
          (counted_more u (i * n + n) ((i + 1) * n) first new (one_more i n) (counted_then u (i * n) n first old new before.0 one.counts.added), one.within);
    }

pub returns-clause-gives : goal.returns-clause-gives
returns-clause-gives c =
    let part = c.args.part.now in
    let shown : length c.as_slice-nets.result.now ≡ length part.nets = ap (λ (xs : List Net). length xs) c.as_slice-nets.ensures in
    let high : length c.as_slice-nets.result.now ≤ c.loop-i.i = c.loop-i-test.false in
    let low : c.loop-i.i ≤ length c.as_slice-nets.result.now = c.loop-i.auto.i-end in
    let end : c.loop-i.i ≡ length part.nets = omega (arith, shown, high, low) in
    subst (λ (k : ℕ). IsScannedTo part (mark_at c.args.observed.now) c.args.care c.args.gates (reach_of c.args.way c.args.store.now c.args.out) k c.args.store.now c.loop-i.store) end c.loop-i.invariant.scanned

pub returns-in-Some-clause-gives : goal.returns-in-Some-clause-gives
returns-in-Some-clause-gives c =
    let part = c.args.part.now in
    let care = c.args.care in
    let out = c.args.out in
    let way = c.args.way in
    let old = c.loop-i.store in
    let new = c.check_net.new.store in
    let i = c.loop-i.i in
    let net : Net = get_or c.as_slice-nets.result.now i (record { 0 = 0 }) in
    let there : At part.nets i net = net_at part.nets c.as_slice-nets.result.now i (record { 0 = 0 }) c.as_slice-nets.ensures c.loop-i-test.true in
    let zero = reach_of way old out false i in
    let one = reach_of way old out true i in
    let gives = subst (λ (o : Option CircuitFault). NetGives (function_of old care) zero one c.is_seen-seen.result net new o) c.in-Some.is c.in-Ok.ensures.gives in
    let wr = c.loop-i.invariant.writes in
    let first = c.args.store.now in
    let shown : length c.as_slice-nets.result.now ≡ length part.nets = ap (λ (xs : List Net). length xs) c.as_slice-nets.ensures in
    let inside : i < length part.nets = omega (arith, shown, c.loop-i-test.true) in
    let fits = place_words out (length part.nets) i c.requires.out.2 inside in
    let ready = c.requires.ready i inside in
    found_at part (mark_at c.args.observed.now) care c.args.gates (reach_of way first out) c.requires.nets.1 first old wr c.requires.care i net (net, there, refl) c.loop-i.invariant.scanned zero one
    (reach_kept c.args.gates out first old wr c.requires.apart c.requires.out.1 way false i fits ready) (reach_kept c.args.gates out first old wr c.requires.apart c.requires.out.1 way true i fits ready)
    new c.in-Some.fault gives.0 (subst (λ (b : Bool). IsFaultyNet (function_of old care) zero one b c.in-Some.fault.kind c.in-Some.fault.at new) c.is_seen-seen.ensures gives.1)

pub returns-in-Err-clause-few : goal.returns-in-Err-clause-few
returns-in-Err-clause-few c u care_in gates_in out_in few_in =
    let part = c.args.part.now in
    let gates = c.args.gates in
    let out = c.args.out in
    let way = c.args.way in
    let care = c.args.care in
    let first = c.args.store.now in
    let old = c.loop-i.store in
    let new = c.check_net.new.store in
    let i = c.loop-i.i in
    let shown : length c.as_slice-nets.result.now ≡ length part.nets = ap (λ (xs : List Net). length xs) c.as_slice-nets.ensures in
    let inside : i < length part.nets = omega (arith, shown, c.loop-i-test.true) in
    let before = c.loop-i.invariant.counted u care_in gates_in out_in few_in in
    let one = c.in-Err.ensures.few u (within_same u (function_of first care) (function_of old care) (c.loop-i.invariant.writes.adds.kept care.0 c.requires.care) care_in) before.1
    (span_beside u gates out.span first old c.loop-i.invariant.writes c.requires.apart c.requires.out.1 out_in) (few_kept gates out first old c.loop-i.invariant.writes c.requires.apart c.requires.out.1 u way i (c.requires.ready i inside) few_in) in
    let n = scan_operations way in
    spends_more u gates (i * n + n) (length part.nets * n) first new (Err c.in-Err.spent) (times_most i (length part.nets) n (omega (arith, shown, c.loop-i-test.true)))
    (spends_behind u gates (i * n) n first old new (Err c.in-Err.spent) before.0 one)

pub returns-in-Some-clause-few : goal.returns-in-Some-clause-few
returns-in-Some-clause-few c u care_in gates_in out_in few_in =
    let part = c.args.part.now in
    let gates = c.args.gates in
    let out = c.args.out in
    let way = c.args.way in
    let care = c.args.care in
    let first = c.args.store.now in
    let old = c.loop-i.store in
    let new = c.check_net.new.store in
    let i = c.loop-i.i in
    let shown : length c.as_slice-nets.result.now ≡ length part.nets = ap (λ (xs : List Net). length xs) c.as_slice-nets.ensures in
    let inside : i < length part.nets = omega (arith, shown, c.loop-i-test.true) in
    let before = c.loop-i.invariant.counted u care_in gates_in out_in few_in in
    let one = c.in-Ok.ensures.few u (within_same u (function_of first care) (function_of old care) (c.loop-i.invariant.writes.adds.kept care.0 c.requires.care) care_in) before.1
    (span_beside u gates out.span first old c.loop-i.invariant.writes c.requires.apart c.requires.out.1 out_in) (few_kept gates out first old c.loop-i.invariant.writes c.requires.apart c.requires.out.1 u way i (c.requires.ready i inside) few_in) in
    let n = scan_operations way in
    spends_value u gates (length part.nets * n) first new c.in-Ok.found _
    (spends_more u gates (i * n + n) (length part.nets * n) first new (Ok c.in-Ok.found) (times_most i (length part.nets) n (omega (arith, shown, c.loop-i-test.true)))
    (spends_behind u gates (i * n) n first old new (Ok c.in-Ok.found) before.0 one))

pub returns-clause-few : goal.returns-clause-few
returns-clause-few c u care_in gates_in out_in few_in =
    let part = c.args.part.now in
    let shown : length c.as_slice-nets.result.now ≡ length part.nets = ap (λ (xs : List Net). length xs) c.as_slice-nets.ensures in
    let before = c.loop-i.invariant.counted u care_in gates_in out_in few_in in
    let n = scan_operations c.args.way in
    record {
      counts = counts_ok u (length part.nets * n) c.args.store.now c.loop-i.store _
          (counted_more u (c.loop-i.i * n) (length part.nets * n) c.args.store.now c.loop-i.store
          (mul-le-mul_right {m = c.loop-i.i} {n = length part.nets} n (omega (arith, shown, c.loop-i.auto.i-end))) before.0);
      within = before.1;
    }
