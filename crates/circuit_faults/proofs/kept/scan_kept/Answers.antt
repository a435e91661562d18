use Rattle.std.proofs.Common.{◌≡◌, ◌+◌, ◌*◌, Bool, Err, None, Option, Some, length, arith, subst}
use Rattle.std.proofs.lemmas.Option.{slice_get_within}
use Rattle.bdd_core.proofs.Frames.{adds_none, filled_added, nodes_then, span_added, word_added}
use Rattle.bdd_core.specs.Words.{word_at}
use Rattle.bdd_ops.proofs.CountingLaws.{counted_more, counted_none, counted_then, counts_more, counts_ok, counts_then}
use Rattle.circuit_faults.proofs.CountLaws.{kept_within, span_within}
use Rattle.circuit_faults.proofs.KeptNets.{faulty_here, read_later, settled_more}
use Rattle.circuit_faults.specs.KeptScans.{IsLoose, PlainNetGives, reach_span}
use Rattle.circuit_faults.specs.declared.kept_net.KeptFault.{KeptFault}
use Rattle.vrt_model.specs.Lists.{mark_at}
use Rattle.vrt_model.specs.declared.ids.Net.{Net}
use Rattle.circuit_faults.proofs.kept.scan_kept.Goals as goal

pub loop-n-init : goal.loop-n-init
loop-n-init c = record {
  adds = adds_none c.args.store.now c.sound.ensures.sound c.sound.ensures.within;
  settled = λ n lt p. absurd (omega (arith, lt));
  counted = λ u care gates within. counted_none u c.args.store.now;
}

pub is_seen-seen-requires : goal.is_seen-seen-requires
is_seen-seen-requires c = omega (arith, c.loop-n-test.true, c.requires.spans.gates_len, c.requires.marks)

pub check_kept_net-requires-clause-care : goal.check_kept_net-requires-clause-care
check_kept_net-requires-clause-care c = omega (arith, c.requires.care, c.loop-n.invariant.adds.longer)

pub check_kept_net-requires-clause-spans : goal.check_kept_net-requires-clause-spans
check_kept_net-requires-clause-spans c =
    let adds = c.loop-n.invariant.adds in (
      span_added c.args.spans.gates c.args.store.now c.loop-n.store adds c.requires.spans.gates_span,
      span_added c.args.spans.zeros c.args.store.now c.loop-n.store adds c.requires.spans.zeros_span,
      span_added c.args.spans.ones c.args.store.now c.loop-n.store adds c.requires.spans.ones_span,
    )

pub check_kept_net-requires-clause-net : goal.check_kept_net-requires-clause-net
check_kept_net-requires-clause-net c = (
  c.loop-n-test.true,
  omega (arith, c.loop-n-test.true, c.requires.spans.gates_len, c.requires.spans.zeros_len),
  omega (arith, c.loop-n-test.true, c.requires.spans.gates_len, c.requires.spans.ones_len),
)

pub check_kept_net-requires-clause-wanted : goal.check_kept_net-requires-clause-wanted
check_kept_net-requires-clause-wanted c = filled_added c.args.spans.gates c.args.store.now c.loop-n.store c.loop-n.invariant.adds c.requires.spans.gates_live

pub check_kept_net-requires-clause-live : goal.check_kept_net-requires-clause-live
check_kept_net-requires-clause-live c p value =
    let adds = c.loop-n.invariant.adds in
    let same : word_at c.loop-n.store (reach_span c.args.spans value) c.loop-n.n ≡ word_at c.args.store.now (reach_span c.args.spans value) c.loop-n.n =
    word_added (reach_span c.args.spans value) c.args.store.now c.loop-n.store c.loop-n.n adds in
    let live = c.requires.live c.loop-n.n p value in
    omega (arith, same, live, adds.longer)

pub loop-n-preserved : goal.loop-n-preserved
loop-n-preserved c =
    let circuit = c.args.circuit.now in
    let care = c.args.care in
    let spans = c.args.spans in
    let first = c.args.store.now in
    let now = c.loop-n.store in
    let new = c.check_kept_net.new.store in
    let n = c.loop-n.n in
    let net : Net = record { 0 = n } in
    let adds = c.loop-n.invariant.adds in
    let gives = subst (λ (o : Option KeptFault). PlainNetGives (IsLoose circuit c.args.wholes.drivers.now) care spans c.is_seen-seen.result net now new o) c.in_default.is c.in-Ok.ensures.gives in
    record {
      adds = nodes_then first now new adds c.check_kept_net.ensures.adds;
      settled = settled_more (IsLoose circuit c.args.wholes.drivers.now) (mark_at c.args.observed.now) care spans first now adds c.requires.care net (c.requires.spans.gates_live n c.loop-n-test.true) (c.requires.live n) c.loop-n.invariant.settled
          (subst (λ (b : Bool). PlainNetGives (IsLoose circuit c.args.wholes.drivers.now) care spans b net now new None) c.is_seen-seen.ensures gives);
      counted = λ u care_in gates_in read_in.
          let before = c.loop-n.invariant.counted u care_in gates_in read_in in
          let one = c.in-Ok.ensures.few u (kept_within u first now care adds c.requires.care care_in) (span_within u spans.gates first now adds c.requires.spans.gates_live gates_in)
          (read_later u spans (IsLoose circuit c.args.wholes.drivers.now) first now adds c.requires.live read_in) in
          counted_more u (20 * n + 20) (20 * (n + 1)) first new (omega arith) (counted_then u (20 * n) 20 first now new before one.added);
    }

-- ---- the ends

pub returns-in-Err-clause-adds : goal.returns-in-Err-clause-adds
returns-in-Err-clause-adds c = nodes_then c.args.store.now c.loop-n.store c.check_kept_net.new.store c.loop-n.invariant.adds c.check_kept_net.ensures.adds

pub returns-in-Err-clause-few : goal.returns-in-Err-clause-few
returns-in-Err-clause-few c u care_in gates_in read_in =
    let circuit = c.args.circuit.now in
    let first = c.args.store.now in
    let now = c.loop-n.store in
    let new = c.check_kept_net.new.store in
    let n = c.loop-n.n in
    let adds = c.loop-n.invariant.adds in
    let before = c.loop-n.invariant.counted u care_in gates_in read_in in
    let one = c.in-Err.ensures.few u (kept_within u first now c.args.care adds c.requires.care care_in) (span_within u c.args.spans.gates first now adds c.requires.spans.gates_live gates_in)
    (read_later u c.args.spans (IsLoose circuit c.args.wholes.drivers.now) first now adds c.requires.live read_in) in
    counts_more u (20 * n + 20) (20 * length circuit.nets) first new (Err c.in-Err.spent) (omega (arith, c.loop-n-test.true, c.requires.spans.gates_len))
    (counts_then u (20 * n) 20 first now new (Err c.in-Err.spent) before one)

pub returns-in-Some-clause-adds : goal.returns-in-Some-clause-adds
returns-in-Some-clause-adds c = nodes_then c.args.store.now c.loop-n.store c.check_kept_net.new.store c.loop-n.invariant.adds c.check_kept_net.ensures.adds

pub returns-in-Some-clause-gives : goal.returns-in-Some-clause-gives
returns-in-Some-clause-gives c =
    let circuit = c.args.circuit.now in
    let care = c.args.care in
    let spans = c.args.spans in
    let first = c.args.store.now in
    let now = c.loop-n.store in
    let new = c.check_kept_net.new.store in
    let n = c.loop-n.n in
    let net : Net = record { 0 = n } in
    let gives = subst (λ (o : Option KeptFault). PlainNetGives (IsLoose circuit c.args.wholes.drivers.now) care spans c.is_seen-seen.result net now new o) c.in-Some.is c.in-Ok.ensures.gives in
    faulty_here (IsLoose circuit c.args.wholes.drivers.now) (mark_at c.args.observed.now) care spans first now c.loop-n.invariant.adds c.requires.care net (c.requires.spans.gates_live n c.loop-n-test.true) (c.requires.live n) c.loop-n.invariant.settled
    new c.in-Some.fault (subst (λ (b : Bool). PlainNetGives (IsLoose circuit c.args.wholes.drivers.now) care spans b net now new (Some c.in-Some.fault)) c.is_seen-seen.ensures gives)

pub returns-in-Some-clause-few : goal.returns-in-Some-clause-few
returns-in-Some-clause-few c u care_in gates_in read_in =
    let circuit = c.args.circuit.now in
    let first = c.args.store.now in
    let now = c.loop-n.store in
    let new = c.check_kept_net.new.store in
    let n = c.loop-n.n in
    let adds = c.loop-n.invariant.adds in
    let before = c.loop-n.invariant.counted u care_in gates_in read_in in
    let one = c.in-Ok.ensures.few u (kept_within u first now c.args.care adds c.requires.care care_in) (span_within u c.args.spans.gates first now adds c.requires.spans.gates_live gates_in)
    (read_later u c.args.spans (IsLoose circuit c.args.wholes.drivers.now) first now adds c.requires.live read_in) in
    counts_ok u (20 * length circuit.nets) first new _
    (counted_more u (20 * n + 20) (20 * length circuit.nets) first new (omega (arith, c.loop-n-test.true, c.requires.spans.gates_len)) (counted_then u (20 * n) 20 first now new before one.added))

pub returns-clause-adds : goal.returns-clause-adds
returns-clause-adds c = c.loop-n.invariant.adds

pub returns-clause-gives : goal.returns-clause-gives
returns-clause-gives c n p =
    c.loop-n.invariant.settled n (let within = slice_get_within c.args.circuit.now.nets n p.0.0 p.0.1 in omega (arith, within, c.loop-n-test.false, c.requires.spans.gates_len)) p

pub returns-clause-few : goal.returns-clause-few
returns-clause-few c u care_in gates_in read_in =
    counts_ok u (20 * length c.args.circuit.now.nets) c.args.store.now c.loop-n.store _
    (counted_more u (20 * c.loop-n.n) (20 * length c.args.circuit.now.nets) c.args.store.now c.loop-n.store (omega (arith, c.loop-n.auto.n-end, c.requires.spans.gates_len))
    (c.loop-n.invariant.counted u care_in gates_in read_in))
