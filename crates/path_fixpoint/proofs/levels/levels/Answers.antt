use Rattle.std.proofs.Common.{ℕ, ◌+◌, ◌-◌, ◌*◌, ◌≤◌, length, Ok, Err, arith, sym, subst, inl, inr}
use Rattle.std.proofs.Math.Nat.{mul-le-mul_right}
use Rattle.bdd_ops.proofs.CountingLaws.{counted_more, counted_then, counts_more, counts_ok}
use Rattle.path_fixpoint.proofs.SpendingLaws.{gates_beside, one_more, spends_behind, spends_more, times_most}
use Rattle.std.proofs.lemmas.Bool.{cases_eq}
use Rattle.path_fixpoint.specs.Strengths.{HasLevel, HasWords}
use Rattle.bdd_core.proofs.Frames.{writes_then}
use Rattle.path_fixpoint.proofs.RoundLaws.{level_stays, stands_kept, words_kept}
use Rattle.path_fixpoint.proofs.levels.levels.Goals as goal
use Rattle.vrt_model.specs.Levels.{source_level}

pub loop-done-preserved : goal.loop-done-preserved
loop-done-preserved c =
    let circuit = c.args.circuit.now in
    let part = c.args.part.now in
    let gates = c.args.gates in
    let out = c.args.out in
    let done = c.loop-done.done in
    let first = c.args.store.now in
    let old = c.loop-done.store in
    let new = c.make_level.new.store in
    let i = c.loop-done.invariant in
    let level : ℕ = out.source - done in
    let low : 1 ≤ level = omega (arith, c.loop-done-test.true) in
    let high : level ≤ out.source = omega arith in
    let words : HasWords circuit part gates out old = words_kept circuit part gates out first old c.requires.words i.writes in
    record {
      writes = writes_then out.span first old new i.writes c.make_level.ensures.writes;
      levels = λ v w st l gt le.
          elim (cases_eq l level) [
            | inl here ↦ subst (λ (x : ℕ). HasLevel part out x new v w) (sym here)
                (c.in-Ok.ensures.level v w (stands_kept circuit part gates out first old v w c.requires.words i.writes st)
                (λ lt. i.levels v w st (level + 1) (omega (arith, c.loop-done-test.true)) (omega (arith, lt))))
            | inr ne ↦
                level_stays circuit part gates out l level old new v w (omega (arith, gt, c.loop-done-test.true)) le low (omega (arith, high)) ne words c.make_level.ensures.writes c.make_level.ensures.apart
                (i.levels v w st l (omega (arith, gt, ne, c.loop-done-test.true)) le)
          ];
      few = λ u gates_in all.
          let size = length part.nets * (length part.devices * 4) in
          let q = i.few u gates_in all in
          let f = c.in-Ok.ensures.few u (gates_beside u c.args.circuit.now c.args.part.now c.requires.part.0 out.span gates first old c.requires.words.gates_len i.writes c.requires.words.apart c.requires.words.gates_live gates_in) q.1 in
          (counted_more u (done * size + size) ((done + 1) * size) first new (one_more done size) (counted_then u (done * size) size first old new q.0 f.counts.added), f.within);
    }

pub returns-clause-levels : goal.returns-clause-levels
returns-clause-levels c v w st level low high = c.loop-done.invariant.levels v w st level (omega (arith, low, c.loop-done-test.false)) (omega (arith, high, c.requires.words.source))

pub returns-in-Err-clause-few : goal.returns-in-Err-clause-few
returns-in-Err-clause-few c u gates_in all =
    let part = c.args.part.now in
    let gates = c.args.gates in
    let out = c.args.out in
    let done = c.loop-done.done in
    let first = c.args.store.now in
    let old = c.loop-done.store in
    let new = c.make_level.new.store in
    let i = c.loop-done.invariant in
    let size = length part.nets * (length part.devices * 4) in
    let q = i.few u gates_in all in
    let f = c.in-Err.ensures.few u (gates_beside u c.args.circuit.now c.args.part.now c.requires.part.0 out.span gates first old c.requires.words.gates_len i.writes c.requires.words.apart c.requires.words.gates_live gates_in) q.1 in
    spends_more u out.span (done * size + size) (source_level c.args.circuit.now * size) first new (Err c.in-Err.spent) (times_most done (source_level c.args.circuit.now) size (omega (arith, c.loop-done-test.true, c.requires.words.source)))
    (spends_behind u out.span (done * size) size first old new (Err c.in-Err.spent) q.0 f)

pub returns-clause-few : goal.returns-clause-few
returns-clause-few c u gates_in all =
    let part = c.args.part.now in
    let done = c.loop-done.done in
    let first = c.args.store.now in
    let new = c.loop-done.store in
    let size = length part.nets * (length part.devices * 4) in
    let q = c.loop-done.invariant.few u gates_in all in
    record {
      counts = counts_more u (done * size) (source_level c.args.circuit.now * size) first new (Ok tt)
          (mul-le-mul_right {m = done} {n = source_level c.args.circuit.now} size (omega (arith, c.loop-done.auto.done-end, c.requires.words.source))) (counts_ok u (done * size) first new tt q.0);
      within = q.1;
    }
