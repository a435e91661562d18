use Rattle.std.proofs.Common.{◌≡◌, ℕ, ◌+◌, ◌*◌, Ok, Err, ◌≤◌, length, arith, sym, subst, ◌∙◌, inl, inr}
use Rattle.bdd_core.specs.Diagram.{Valuation}
use Rattle.vrt_model.specs.Lists.{Among}
use Rattle.vrt_model.specs.Path.{Network}
use Rattle.vrt_model.specs.declared.circuit.Device.{Device}
use Rattle.path_fixpoint.specs.declared.side.Side.{Side}
use Rattle.path_fixpoint.specs.declared.side.Side.TheVariants.{Inside, Outside}
use Rattle.path_fixpoint.specs.Parts.{part_devices}
use Rattle.std.proofs.Math.Nat.{mul-le-mul_right}
use Rattle.bdd_ops.proofs.CountingLaws.{counted_more, counted_then, counts_more, counts_ok}
use Rattle.path_fixpoint.proofs.SpendingLaws.{gates_beside, one_more, spends_behind, spends_err, spends_more, spends_value, times_most}
use Rattle.path_fixpoint.specs.Strengths.{HasPassed, HasRoots, HasWords, Spreads, StandsAt}
use Rattle.bdd_core.proofs.Frames.{writes_then}
use Rattle.path_fixpoint.proofs.Places.{cases_Side, place_in}
use Rattle.path_fixpoint.proofs.RoundLaws.{HasProgress, closed_all, entered_more, level_from, progress_all, progress_first, progress_more, roots_grown, stands_kept, strong_same, words_kept}
use Rattle.path_fixpoint.proofs.rounds.settle.Goals as goal

pub returns-then-is_settled-clause-level : goal.returns-then-is_settled-clause-level
returns-then-is_settled-clause-level c v w st roots paths =
    let circuit = c.args.circuit.now in
    let part = c.args.part.now in
    let gates = c.args.gates in
    let out = c.args.out in
    let level = c.args.level in
    let low = c.requires.level.0 in
    let high = c.requires.level.1 in
    let old = c.rounds.store in
    let new = c.round.new.store in
    let i = c.rounds.invariant in
    let done = c.is_settled.ensures.settled c.if-is_settled.true in
    let s : Spreads circuit part gates out level Inside (Among (part_devices circuit part)) c.in-Ok.changed old new =
    subst (λ (x : Side). Spreads circuit part gates out level x (Among (part_devices circuit part)) c.in-Ok.changed old new) done.0 c.in-Ok.ensures.spreads in
    let words : HasWords circuit part gates out old = words_kept circuit part gates out c.args.store.now old c.requires.words i.writes in
    let stands : StandsAt circuit part gates old v w = stands_kept circuit part gates out c.args.store.now old v w c.requires.words i.writes st in
    let same = s.same done.1 in
    let rooted : HasRoots part out level new v w = roots_grown circuit part gates out level low high old new v w words s.grown (i.roots v w st roots) in
    level_from circuit part gates out level low high new v w (s.paths v w stands (i.paths v w st paths))
    (closed_all circuit part gates out level low high new v w st.devices rooted
    (entered_more circuit part gates out level low high old new v w words s.grown (λ dev m. inl (i.entered (c.of_round-side.ensures.later done.0) v w st dev m)))
    (λ dev m on le a b j here str. s.passed dev m v w stands on le a b j here
    (λ k p. sym (strong_same circuit part gates out level low high old new k v words c.in-Ok.ensures.writes same (place_in part k a p)) ∙ str k p)))

pub rounds-preserved : goal.rounds-preserved
rounds-preserved c =
    let circuit = c.args.circuit.now in
    let part = c.args.part.now in
    let gates = c.args.gates in
    let out = c.args.out in
    let level = c.args.level in
    let low = c.requires.level.0 in
    let high = c.requires.level.1 in
    let first = c.args.store.now in
    let old = c.rounds.store in
    let new = c.round.new.store in
    let i = c.rounds.invariant in
    let s = c.in-Ok.ensures.spreads in
    let words : HasWords circuit part gates out old = words_kept circuit part gates out first old c.requires.words i.writes in
    let from_side : (side : Side) → c.of_round-side.result ≡ side → (dev : Device) → Among (part_devices circuit part) dev → (v : Valuation) (w : Network) → StandsAt circuit part gates old v w
    → HasPassed part out level side dev old new v w =
    λ side is dev m v w stands. subst (λ (x : Side). HasPassed part out level x dev old new v w) is (s.passed dev m v w stands) in
    let from_inside = from_side Inside in
    let from_outside = from_side Outside in
    record {
      writes = writes_then out.span first old new i.writes c.in-Ok.ensures.writes;
      apart = λ k away. c.in-Ok.ensures.apart k away ∙ i.apart k away;
      roots = λ v w st r. roots_grown circuit part gates out level low high old new v w words s.grown (i.roots v w st r);
      paths = λ v w st p. s.paths v w (stands_kept circuit part gates out first old v w c.requires.words i.writes st) (i.paths v w st p);
      entered = λ some v w st. entered_more circuit part gates out level low high old new v w words s.grown
          (λ dev m. elim (cases_Side c.of_round-side.result) [
            | inl later ↦ inl (i.entered (c.of_round-side.ensures.later later) v w st dev m)
            | inr first' ↦ inr (from_outside first' dev m v w (stands_kept circuit part gates out first old v w c.requires.words i.writes st))
          ]);
      progress = λ v w st r.
          let stands = stands_kept circuit part gates out first old v w c.requires.words i.writes st in
          elim (cases_Side c.of_round-side.result) [
            | inl later ↦ progress_more circuit part gates out level low high c.rounds.count old new v w words st.devices s.grown
                (i.entered (c.of_round-side.ensures.later later) v w st) (λ dev m. from_inside later dev m v w stands) (i.roots v w st r) (i.progress v w st r)
            | inr first' ↦ subst (λ (k : ℕ). HasProgress part out level (k + 1) new v w) (sym (c.of_round-side.ensures.first first'))
                (progress_first circuit part gates out level low high old new v w words st.devices s.grown (i.roots v w st r)
                (entered_more circuit part gates out level low high old new v w words s.grown (λ dev m. inr (from_outside first' dev m v w stands))))
          ];
      few = λ u gates all.
          let q = i.few u gates all in
          let size = length part.devices * 4 in
          let f = c.in-Ok.ensures.few u (gates_beside u c.args.circuit.now c.args.part.now c.requires.part.0 out.span c.args.gates first old c.requires.words.gates_len i.writes c.requires.words.apart c.requires.words.gates_live gates) q.1 in
          (counted_more u (c.rounds.count * size + size) ((c.rounds.count + 1) * size) first new (one_more c.rounds.count size) (counted_then u (c.rounds.count * size) size first old new q.0 f.counts.added), f.within);
    }

pub returns-clause-level : goal.returns-clause-level
returns-clause-level c v w st roots paths =
    let circuit = c.args.circuit.now in
    let part = c.args.part.now in
    let i = c.rounds.invariant in
    let enough : length part.nets ≤ c.rounds.count = omega (arith, c.rounds-test.false, c.len-count-end.ensures) in
    level_from circuit part c.args.gates c.args.out c.args.level c.requires.level.0 c.requires.level.1 c.rounds.store v w (i.paths v w st paths)
    (progress_all circuit part c.args.gates c.args.out c.args.level c.requires.level.0 c.requires.level.1 c.rounds.count c.rounds.store v w enough (i.progress v w st roots))

pub returns-in-Err-clause-few : goal.returns-in-Err-clause-few
returns-in-Err-clause-few c u gates all =
    let out = c.args.out in
    let part = c.args.part.now in
    let first = c.args.store.now in
    let old = c.rounds.store in
    let new = c.round.new.store in
    let i = c.rounds.invariant in
    let size = length part.devices * 4 in
    let q = i.few u gates all in
    let enough : c.rounds.count + 1 ≤ length part.nets = omega (arith, c.rounds-test.true, c.len-count-end.ensures) in
    let f = c.in-Err.ensures.few u (gates_beside u c.args.circuit.now c.args.part.now c.requires.part.0 out.span c.args.gates first old c.requires.words.gates_len i.writes c.requires.words.apart c.requires.words.gates_live gates) q.1 in
    spends_more u out.span (c.rounds.count * size + size) (length part.nets * size) first new (Err c.in-Err.spent) (times_most c.rounds.count (length part.nets) size enough)
    (spends_err u out.span (c.rounds.count * size + size) first new c.in-Err.spent (spends_behind u out.span (c.rounds.count * size) size first old new (Err c.in-Err.spent) q.0 f))

pub returns-then-is_settled-clause-few : goal.returns-then-is_settled-clause-few
returns-then-is_settled-clause-few c u gates all =
    let out = c.args.out in
    let part = c.args.part.now in
    let first = c.args.store.now in
    let old = c.rounds.store in
    let new = c.round.new.store in
    let i = c.rounds.invariant in
    let size = length part.devices * 4 in
    let q = i.few u gates all in
    let enough : c.rounds.count + 1 ≤ length part.nets = omega (arith, c.rounds-test.true, c.len-count-end.ensures) in
    let f = c.in-Ok.ensures.few u (gates_beside u c.args.circuit.now c.args.part.now c.requires.part.0 out.span c.args.gates first old c.requires.words.gates_len i.writes c.requires.words.apart c.requires.words.gates_live gates) q.1 in
    spends_more u out.span (c.rounds.count * size + size) (length part.nets * size) first new (Ok tt) (times_most c.rounds.count (length part.nets) size enough)
    (spends_value u out.span (c.rounds.count * size + size) first new c.in-Ok.changed tt (spends_behind u out.span (c.rounds.count * size) size first old new (Ok c.in-Ok.changed) q.0 f))

pub returns-clause-few : goal.returns-clause-few
returns-clause-few c u gates all =
    let part = c.args.part.now in
    let first = c.args.store.now in
    let new = c.rounds.store in
    let size = length part.devices * 4 in
    let q = c.rounds.invariant.few u gates all in
    let enough : c.rounds.count ≤ length part.nets = omega (arith, c.rounds.auto.count-end, c.len-count-end.ensures) in
    record {
      counts = counts_more u (c.rounds.count * size) (length part.nets * size) first new (Ok tt) (mul-le-mul_right {m = c.rounds.count} {n = length part.nets} size enough)
          (counts_ok u (c.rounds.count * size) first new tt q.0);
      within = q.1;
    }
