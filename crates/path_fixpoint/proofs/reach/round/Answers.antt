use Rattle.std.proofs.Common.{◌≡◌, ◌+◌, ◌*◌, ◌≤◌, Ok, Err, length, arith, ◌∙◌}
use Rattle.bdd_ops.proofs.CountingLaws.{counted_more, counted_then, counts_more, counts_ok}
use Rattle.path_fixpoint.proofs.SpendingLaws.{gates_beside, one_more, roots_beside, spends_behind, spends_err, spends_more, times_most}
use Rattle.vrt_model.specs.Lists.{Among}
use Rattle.vrt_model.specs.declared.circuit.Device.{Device}
use Rattle.path_fixpoint.specs.Parts.{part_devices}
use Rattle.bdd_core.proofs.Frames.{writes_then}
use Rattle.path_fixpoint.proofs.ReachLaws.{root_words_kept}
use Rattle.path_fixpoint.proofs.ReachSpreading.{spreads_value_less, spreads_value_then}
use Rattle.path_fixpoint.proofs.Spreading.{Visited, all_visited, visited_among, visited_more}
use Rattle.std.proofs.Math.Nat.{mul-le-mul_right}
use Rattle.path_fixpoint.proofs.reach.round.Goals as goal

pub visit-requires-clause-device : goal.visit-requires-clause-device
visit-requires-clause-device c = visited_among c.args.circuit.now c.args.part.now c.args.direction c.loop-step.step c.visited-device.result.now c.visited-device.ensures

pub visit-requires-clause-words : goal.visit-requires-clause-words
visit-requires-clause-words c =
    root_words_kept c.args.circuit.now c.args.part.now c.requires.part.1 c.requires.part.0 c.args.gates c.args.roots c.args.out c.args.value c.args.store.now c.loop-step.store c.requires.words c.loop-step.invariant.writes

pub returns-in-Err-clause-writes : goal.returns-in-Err-clause-writes
returns-in-Err-clause-writes c = writes_then c.args.out.span c.args.store.now c.loop-step.store c.visit.new.store c.loop-step.invariant.writes c.in-Err.ensures.writes

pub returns-in-Err-clause-apart : goal.returns-in-Err-clause-apart
returns-in-Err-clause-apart c k away = c.in-Err.ensures.apart k away ∙ c.loop-step.invariant.apart k away

pub loop-step-preserved : goal.loop-step-preserved
loop-step-preserved c =
    let out = c.args.out in
    let circuit = c.args.circuit.now in
    let part = c.args.part.now in
    let at = c.loop-step.step in
    let first = c.args.store.now in
    let old = c.loop-step.store in
    let new = c.visit.new.store in
    let i = c.loop-step.invariant in
    let device : Device = c.visited-device.result.now in
    record {
      writes = writes_then out.span first old new i.writes c.in-Ok.ensures.writes;
      apart = λ k away. c.in-Ok.ensures.apart k away ∙ i.apart k away;
      spreads = spreads_value_then circuit part c.requires.part.1 c.requires.part.0 c.args.gates c.args.roots out c.args.value c.args.side (Visited circuit part c.args.direction at) (λ d. d ≡ device) (Visited circuit part c.args.direction (at + 1))
          c.loop-step.changed c.in-Ok.grew first old new c.requires.words i.writes i.apart (visited_more circuit part c.args.direction at device c.visited-device.ensures) i.spreads c.in-Ok.ensures.spreads;
      few = λ u gates roots all.
          let q = i.few u gates roots all in
          let f = c.in-Ok.ensures.few u (gates_beside u c.args.circuit.now c.args.part.now c.requires.part.0 out.span c.args.gates first old c.requires.words.words.gates_len i.writes c.requires.words.words.apart c.requires.words.words.gates_live gates) (roots_beside u c.args.circuit.now c.args.part.now c.requires.part.1 c.args.roots c.requires.words.roots_len out.span first old i.writes c.requires.words.roots_apart c.requires.words.roots_live roots) q.1 in
          let each = 4 * out.source + 6 in
          (counted_more u (at * each + each) ((at + 1) * each) first new (one_more at each) (counted_then u (at * each) each first old new q.0 f.counts.added), f.within);
    }

pub returns-clause-spreads : goal.returns-clause-spreads
returns-clause-spreads c =
    let circuit = c.args.circuit.now in
    let part = c.args.part.now in
    spreads_value_less circuit part c.requires.part.1 c.requires.part.0 c.args.gates c.args.roots c.args.out c.args.value c.args.side (Visited circuit part c.args.direction c.loop-step.step) (Among (part_devices circuit part))
    c.loop-step.changed c.args.store.now c.loop-step.store (all_visited circuit part c.args.direction c.loop-step.step (omega (arith, c.len-step-end.ensures, c.loop-step-test.false))) c.loop-step.invariant.spreads

pub returns-in-Err-clause-few : goal.returns-in-Err-clause-few
returns-in-Err-clause-few c u gates roots all =
    let out = c.args.out in
    let part = c.args.part.now in
    let at = c.loop-step.step in
    let first = c.args.store.now in
    let old = c.loop-step.store in
    let new = c.visit.new.store in
    let i = c.loop-step.invariant in
    let q = i.few u gates roots all in
    let f = c.in-Err.ensures.few u (gates_beside u c.args.circuit.now c.args.part.now c.requires.part.0 out.span c.args.gates first old c.requires.words.words.gates_len i.writes c.requires.words.words.apart c.requires.words.words.gates_live gates) (roots_beside u c.args.circuit.now c.args.part.now c.requires.part.1 c.args.roots c.requires.words.roots_len out.span first old i.writes c.requires.words.roots_apart c.requires.words.roots_live roots) q.1 in
    let each = 4 * out.source + 6 in
    spends_more u out.span (at * each + each) (length part.devices * each) first new (Err c.in-Err.spent)
    (times_most at (length part.devices) each (omega (arith, c.len-step-end.ensures, c.loop-step-test.true)))
    (spends_err u out.span (at * each + each) first new c.in-Err.spent (spends_behind u out.span (at * each) each first old new (Err c.in-Err.spent) q.0 f))

pub returns-clause-few : goal.returns-clause-few
returns-clause-few c u gates roots all =
    let out = c.args.out in
    let part = c.args.part.now in
    let at = c.loop-step.step in
    let first = c.args.store.now in
    let new = c.loop-step.store in
    let q = c.loop-step.invariant.few u gates roots all in
    let each = 4 * out.source + 6 in
    let enough : at * each ≤ length part.devices * each = mul-le-mul_right {m = at} {n = length part.devices} each (omega (arith, c.len-step-end.ensures, c.loop-step.auto.step-end)) in
    record { counts = counts_more u (at * each) (length part.devices * each) first new (Ok c.loop-step.changed) enough (counts_ok u (at * each) first new c.loop-step.changed q.0); within = q.1 }
