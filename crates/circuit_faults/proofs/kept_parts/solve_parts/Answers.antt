use Rattle.std.proofs.Common.{◌≡◌, ℕ, ◌+◌, [], ◌∷◌, Err, take, length, true, arith, refl, subst, sym, ◌∙◌}
use Rattle.std.specs.Prelude.{is_some, sum_by}
use Rattle.std.proofs.lemmas.List.Sums.{sum_by-take-le}
use Rattle.bdd_ops.proofs.CountingLaws.{counted_more, counted_none, counted_then, counts_more, counts_ok, counts_then}
use Rattle.circuit_faults.proofs.CountLaws.{sum_next}
use Rattle.circuit_faults.proofs.KeptReach.{one_part, solved_range, solved_skipped, reached_more, within_more}
use Rattle.circuit_faults.proofs.KeptWords.{gates_within, kept_none, kept_then, roots_within, spans_later}
use Rattle.circuit_faults.specs.KeptScans.{IsInSolved, IsReachedIn, ReadWithin}
use Rattle.path_fixpoint.specs.Spending.{solving_operations}
use Rattle.circuit_faults.specs.Scans.{free_part}
use Rattle.channel_parts.specs.declared.part.Part.{Part}
use Rattle.vrt_model.proofs.Lists.{item_at}
use Rattle.vrt_model.specs.Lists.{At}
use Rattle.circuit_faults.proofs.kept_parts.solve_parts.Goals as goal

pub loop-part-init : goal.loop-part-init
loop-part-init c = record {
  writes = kept_none c.args.spans c.args.store.now c.sound.ensures.sound c.sound.ensures.within;
  reached = λ n e. absurd (let lt = e.2 in omega (arith, lt));
  counted = λ one u gates roots. (counted_none u c.args.store.now, λ n value e. absurd (let lt = e.2 in omega (arith, lt)));
}

-- a part of a free output
pub loop-part-preserved-then-has_free : goal.loop-part-preserved-then-has_free
loop-part-preserved-then-has_free c =
    let circuit = c.args.circuit.now in
    let drivers = c.args.wholes.drivers.now in
    let parts = c.args.parts.now in
    let k = c.loop-part.part-index in
    let part : Part = c.part-item.result in
    let there : At parts k part = item_at parts parts k part refl c.loop-part-test.true c.part-item.is in
    let some : is_some (free_part drivers part) ≡ true = sym c.has_free.ensures ∙ c.if-has_free.true in
    record {
      writes = c.loop-part.invariant.writes;
      reached = λ n e.
          let r = c.loop-part.invariant.reached n (solved_skipped drivers parts k part there some n e) in
          (r.0, r.1, (let lt = r.2 in omega (arith, lt)), r.3, r.4, r.5);
      counted = λ one u gates roots.
          let counts = c.loop-part.invariant.counted one u gates roots in
          let sums = sum_next (solving_operations circuit) parts k part there in (
            counted_more u (sum_by (solving_operations circuit) (take k parts)) (sum_by (solving_operations circuit) (take (k + 1) parts)) c.args.store.now c.loop-part.store (omega (arith, sums)) counts.0,
            λ n value e. counts.1 n value (solved_skipped drivers parts k part there some n e),
          );
    }

-- the part of a turn
pub solve_kept-requires-clause-part : goal.solve_kept-requires-clause-part
solve_kept-requires-clause-part c =
    c.requires.parts c.part-item.result (c.loop-part.part-index, item_at c.args.parts.now c.args.parts.now c.loop-part.part-index c.part-item.result refl c.loop-part-test.true c.part-item.is)

pub solve_kept-requires-clause-soft : goal.solve_kept-requires-clause-soft
solve_kept-requires-clause-soft c = c.requires.soft c.part-item.result

pub solve_kept-requires-clause-spans : goal.solve_kept-requires-clause-spans
solve_kept-requires-clause-spans c =
    let part : Part = c.part-item.result in
    let there : At c.args.parts.now c.loop-part.part-index part = item_at c.args.parts.now c.args.parts.now c.loop-part.part-index part refl c.loop-part-test.true c.part-item.is in
    spans_later c.args.circuit.now c.args.parts.now c.args.spans c.args.store.now c.requires.spans c.loop-part.store c.loop-part.invariant.writes (part ∷ []) (one_part c.args.parts.now part (c.loop-part.part-index, there))

pub returns-in-Err-clause-writes : goal.returns-in-Err-clause-writes
returns-in-Err-clause-writes c = kept_then c.args.spans c.args.store.now c.loop-part.store c.solve_kept.new.store c.loop-part.invariant.writes c.solve_kept.ensures.writes

pub loop-part-preserved : goal.loop-part-preserved
loop-part-preserved c =
    let circuit = c.args.circuit.now in
    let parts = c.args.parts.now in
    let spans = c.args.spans in
    let first = c.args.store.now in
    let now = c.loop-part.store in
    let new = c.solve_kept.new.store in
    let k = c.loop-part.part-index in
    let part : Part = c.part-item.result in
    let there : At parts k part = item_at parts parts k part refl c.loop-part-test.true c.part-item.is in
    let before = c.loop-part.invariant.writes in
    let step = c.solve_kept.ensures.writes in
    let range = solved_range circuit c.args.wholes.drivers.now parts c.requires.parts k in
    let reached = c.loop-part.invariant.reached in
    record {
      writes = kept_then spans first now new before step;
      reached = reached_more circuit c.args.wholes.drivers.now parts spans c.requires.circuit first now new c.requires.spans before step k part there range reached c.in-Ok.ensures.gives;
      counted = λ one u gates roots.
          let counts = c.loop-part.invariant.counted one u gates roots in
          let solved = c.in-Ok.ensures.few one u (gates_within circuit parts spans first c.requires.spans now before u gates) (roots_within circuit parts spans first c.requires.spans now before u roots) in
          let sums = sum_next (solving_operations c.args.circuit.now) parts k part there in (
            counted_more u (sum_by (solving_operations c.args.circuit.now) (take k parts) + solving_operations c.args.circuit.now part) (sum_by (solving_operations c.args.circuit.now) (take (k + 1) parts)) first new (omega (arith, sums))
                (counted_then u (sum_by (solving_operations c.args.circuit.now) (take k parts)) (solving_operations c.args.circuit.now part) first now new counts.0 solved.counts.added),
            within_more circuit c.args.wholes.drivers.now parts spans c.requires.circuit first now new c.requires.spans before step k part there range reached c.in-Ok.ensures.gives u counts.1 solved.within,
          );
    }

pub returns-in-Err-clause-few : goal.returns-in-Err-clause-few
returns-in-Err-clause-few c one u gates roots =
    let circuit = c.args.circuit.now in
    let parts = c.args.parts.now in
    let spans = c.args.spans in
    let first = c.args.store.now in
    let now = c.loop-part.store in
    let new = c.solve_kept.new.store in
    let k = c.loop-part.part-index in
    let part : Part = c.part-item.result in
    let there : At parts k part = item_at parts parts k part refl c.loop-part-test.true c.part-item.is in
    let before = c.loop-part.invariant.writes in
    let counts = c.loop-part.invariant.counted one u gates roots in
    let solved = c.in-Err.ensures.few one u (gates_within circuit parts spans first c.requires.spans now before u gates) (roots_within circuit parts spans first c.requires.spans now before u roots) in
    let sums = sum_next (solving_operations c.args.circuit.now) parts k part there in
    let all = sum_by-take-le (solving_operations c.args.circuit.now) parts (k + 1) in
    record {
      counts = counts_more u (sum_by (solving_operations c.args.circuit.now) (take k parts) + solving_operations c.args.circuit.now part) (sum_by (solving_operations c.args.circuit.now) parts) first new (Err c.in-Err.spent) (omega (arith, sums, all))
          (counts_then u (sum_by (solving_operations c.args.circuit.now) (take k parts)) (solving_operations c.args.circuit.now part) first now new (Err c.in-Err.spent) counts.0 solved.counts);
      within = tt;
    }

pub returns-clause-gives : goal.returns-clause-gives
returns-clause-gives c =
    let parts = c.args.parts.now in
    let end : c.loop-part.part-index ≡ length parts = omega (arith, c.loop-part-test.false, c.loop-part.auto.part-index-end) in
    subst (λ (k : ℕ). (n : ℕ) → IsInSolved c.args.wholes.drivers.now parts k n → IsReachedIn c.args.circuit.now parts c.args.spans k c.args.store.now c.loop-part.store n) end c.loop-part.invariant.reached

pub returns-clause-few : goal.returns-clause-few
returns-clause-few c one u gates roots =
    let parts = c.args.parts.now in
    let spans = c.args.spans in
    let k = c.loop-part.part-index in
    let end : k ≡ length parts = omega (arith, c.loop-part-test.false, c.loop-part.auto.part-index-end) in
    let counts = c.loop-part.invariant.counted one u gates roots in
    record {
      counts = counts_ok u (sum_by (solving_operations c.args.circuit.now) parts) c.args.store.now c.loop-part.store _
          (counted_more u (sum_by (solving_operations c.args.circuit.now) (take k parts)) (sum_by (solving_operations c.args.circuit.now) parts) c.args.store.now c.loop-part.store (sum_by-take-le (solving_operations c.args.circuit.now) parts k) counts.0);
      within = subst (λ (j : ℕ). ReadWithin u spans (IsInSolved c.args.wholes.drivers.now parts j) c.loop-part.store) end counts.1;
    }
