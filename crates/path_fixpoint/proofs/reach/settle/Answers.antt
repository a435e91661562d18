use Rattle.std.proofs.Common.{◌≡◌, ℕ, ◌+◌, ◌*◌, Ok, Err, ◌≤◌, length, arith, refl, sym, subst, ◌∙◌, inl, inr}
use Rattle.bdd_core.specs.Diagram.{Valuation}
use Rattle.vrt_model.specs.Lists.{Among}
use Rattle.vrt_model.specs.Path.{Network}
use Rattle.vrt_model.specs.declared.circuit.Device.{Device}
use Rattle.path_fixpoint.specs.declared.side.Side.{Side}
use Rattle.path_fixpoint.specs.declared.side.Side.TheVariants.{Inside, Outside}
use Rattle.path_fixpoint.specs.Parts.{part_devices}
use Rattle.std.proofs.Math.Nat.{mul-le-mul_right}
use Rattle.bdd_ops.proofs.CountingLaws.{counted_more, counted_same, counted_then, counts_more, counts_ok}
use Rattle.path_fixpoint.proofs.SpendingLaws.{gates_beside, one_more, roots_beside, spends_behind, spends_err, spends_more, spends_value, times_most}
use Rattle.path_fixpoint.specs.Reaching.{HasReachPassed, HasReachRoots, HasRootWords, SolvedAt, SpreadsValue}
use Rattle.bdd_core.proofs.Frames.{writes_none, writes_then}
use Rattle.path_fixpoint.proofs.Places.{cases_Side, place_in}
use Rattle.path_fixpoint.proofs.ReachLaws.{HasReachProgress, reach_all, reach_closed, reach_entered, reach_first, reach_from, reach_from_marks, reach_progress, reached_grown, root_words_kept, solved_kept, value_same}
use Rattle.path_fixpoint.proofs.reach.settle.Goals as goal

pub round-requires-clause-words : goal.round-requires-clause-words
round-requires-clause-words c =
    root_words_kept c.args.circuit.now c.args.part.now c.requires.part.1 c.requires.part.0 c.args.gates c.args.roots c.args.out c.args.value c.args.store.now c.rounds.store c.requires.words c.rounds.invariant.writes

pub returns-then-is_settled-clause-reach : goal.returns-then-is_settled-clause-reach
returns-then-is_settled-clause-reach c v w s st roots paths =
    let circuit = c.args.circuit.now in
    let part = c.args.part.now in
    let is_part = c.requires.part.1 in
    let in_range = c.requires.part.0 in
    let gates = c.args.gates in
    let rs = c.args.roots in
    let out = c.args.out in
    let value = c.args.value in
    let first = c.args.store.now in
    let old = c.rounds.store in
    let new = c.round.new.store in
    let i = c.rounds.invariant in
    let done = c.is_settled.ensures.settled c.if-is_settled.true in
    let spreads : SpreadsValue circuit part gates rs out value Inside (Among (part_devices circuit part)) c.in-Ok.changed old new =
    subst (λ (x : Side). SpreadsValue circuit part gates rs out value x (Among (part_devices circuit part)) c.in-Ok.changed old new) done.0 c.in-Ok.ensures.spreads in
    let words : HasRootWords circuit part gates rs out old = root_words_kept circuit part is_part in_range gates rs out value first old c.requires.words i.writes in
    let solved : SolvedAt circuit part gates rs out old v w s = solved_kept circuit part is_part in_range gates rs out value first old v w s c.requires.words i.writes i.apart st in
    let same = spreads.same done.1 in
    let rooted : HasReachRoots circuit part out value new v w s =
    λ root r k. reached_grown circuit part is_part in_range gates rs out value old new v w root.net words spreads.grown (i.roots v w s st roots root r k) in
    reach_from circuit part is_part in_range gates rs out value new v w s st.strength (spreads.paths v w s solved (i.paths v w s st paths))
    (reach_closed circuit part is_part in_range gates rs out value new v w s st.stands.devices rooted
    (reach_entered circuit part is_part in_range gates rs out value old new v w s words spreads.grown (λ dev m. inl (i.entered (c.of_round-side.ensures.later done.0) v w s st dev m)))
    (λ dev m on a b j fits here r. spreads.passed dev m v w s solved on a b j fits here
    (λ k p. sym (value_same circuit part is_part in_range gates rs out value old new k v words c.in-Ok.ensures.writes same (place_in part k a p)) ∙ r.0 k p, r.1)))

pub rounds-init : goal.rounds-init
rounds-init c = record {
  writes = writes_none c.args.out.span c.args.store.now c.sound.ensures.sound c.sound.ensures.within c.requires.words.words.out_live;
  apart = λ k away. refl;
  roots = λ v w s st r. r;
  paths = λ v w s st p. p;
  progress = λ v w s st r. inr (omega arith);
  entered = λ some. absurd (omega (arith, some));
  few = λ u gates roots all. (counted_more u 0 _ c.args.store.now c.args.store.now (omega arith) (counted_same u c.args.store.now c.args.store.now refl refl), all);
}

pub rounds-preserved : goal.rounds-preserved
rounds-preserved c =
    let circuit = c.args.circuit.now in
    let part = c.args.part.now in
    let is_part = c.requires.part.1 in
    let in_range = c.requires.part.0 in
    let gates = c.args.gates in
    let rs = c.args.roots in
    let out = c.args.out in
    let value = c.args.value in
    let first = c.args.store.now in
    let old = c.rounds.store in
    let new = c.round.new.store in
    let i = c.rounds.invariant in
    let spreads = c.in-Ok.ensures.spreads in
    let words : HasRootWords circuit part gates rs out old = root_words_kept circuit part is_part in_range gates rs out value first old c.requires.words i.writes in
    let from_side : (side : Side) → c.of_round-side.result ≡ side → (dev : Device) → Among (part_devices circuit part) dev → (v : Valuation) (w : Network) (s : ℕ → ℕ)
    → SolvedAt circuit part gates rs out old v w s → HasReachPassed circuit part out value side dev old new v w s =
    λ side is dev m v w s solved. subst (λ (x : Side). HasReachPassed circuit part out value x dev old new v w s) is (spreads.passed dev m v w s solved) in
    let from_inside = from_side Inside in
    let from_outside = from_side Outside in
    record {
      writes = writes_then out.span first old new i.writes c.in-Ok.ensures.writes;
      apart = λ k away. c.in-Ok.ensures.apart k away ∙ i.apart k away;
      roots = λ v w s st r root is k. reached_grown circuit part is_part in_range gates rs out value old new v w root.net words spreads.grown (i.roots v w s st r root is k);
      paths = λ v w s st p. spreads.paths v w s (solved_kept circuit part is_part in_range gates rs out value first old v w s c.requires.words i.writes i.apart st) (i.paths v w s st p);
      entered = λ some v w s st. reach_entered circuit part is_part in_range gates rs out value old new v w s words spreads.grown
          (λ dev m. elim (cases_Side c.of_round-side.result) [
            | inl later ↦ inl (i.entered (c.of_round-side.ensures.later later) v w s st dev m)
            | inr first' ↦ inr (from_outside first' dev m v w s (solved_kept circuit part is_part in_range gates rs out value first old v w s c.requires.words i.writes i.apart st))
          ]);
      progress = λ v w s st r.
          let solved = solved_kept circuit part is_part in_range gates rs out value first old v w s c.requires.words i.writes i.apart st in
          elim (cases_Side c.of_round-side.result) [
            | inl later ↦ reach_progress circuit part is_part in_range gates rs out value c.rounds.count old new v w s words st.stands.devices spreads.grown
                (i.entered (c.of_round-side.ensures.later later) v w s st) (λ dev m. from_inside later dev m v w s solved) (i.roots v w s st r) (i.progress v w s st r)
            | inr first' ↦ subst (λ (k : ℕ). HasReachProgress circuit part out value (k + 1) new v w s) (sym (c.of_round-side.ensures.first first'))
                (reach_first circuit part is_part in_range gates rs out value old new v w s words st.stands.devices spreads.grown (i.roots v w s st r)
                (reach_entered circuit part is_part in_range gates rs out value old new v w s words spreads.grown (λ dev m. inr (from_outside first' dev m v w s solved))))
          ];
      few = λ u gates roots all.
          let q = i.few u gates roots all in
          let size = length part.devices * (4 * c.args.out.source + 6) in
          let f = c.in-Ok.ensures.few u (gates_beside u c.args.circuit.now c.args.part.now c.requires.part.0 out.span c.args.gates first old c.requires.words.words.gates_len i.writes c.requires.words.words.apart c.requires.words.words.gates_live gates) (roots_beside u c.args.circuit.now c.args.part.now c.requires.part.1 c.args.roots c.requires.words.roots_len out.span first old i.writes c.requires.words.roots_apart c.requires.words.roots_live roots) q.1 in
          (counted_more u (c.rounds.count * size + size) ((c.rounds.count + 1) * size) first new (one_more c.rounds.count size) (counted_then u (c.rounds.count * size) size first old new q.0 f.counts.added), f.within);
    }

pub returns-clause-reach : goal.returns-clause-reach
returns-clause-reach c v w s st roots paths =
    let circuit = c.args.circuit.now in
    let part = c.args.part.now in
    let i = c.rounds.invariant in
    let enough : length part.nets ≤ c.rounds.count = omega (arith, c.rounds-test.false, c.len-count-end.ensures) in
    reach_from_marks circuit part c.requires.part.1 c.requires.part.0 c.args.gates c.args.roots c.args.out c.args.value c.rounds.store v w s st.strength (i.paths v w s st paths)
    (reach_all circuit part c.requires.part.1 c.requires.part.0 c.args.gates c.args.roots c.args.out c.args.value c.rounds.count c.rounds.store v w s enough (i.progress v w s st roots))

pub returns-in-Err-clause-few : goal.returns-in-Err-clause-few
returns-in-Err-clause-few c u gates roots all =
    let out = c.args.out in
    let part = c.args.part.now in
    let first = c.args.store.now in
    let old = c.rounds.store in
    let new = c.round.new.store in
    let i = c.rounds.invariant in
    let size = length part.devices * (4 * c.args.out.source + 6) in
    let q = i.few u gates roots all in
    let enough : c.rounds.count + 1 ≤ length part.nets = omega (arith, c.rounds-test.true, c.len-count-end.ensures) in
    let f = c.in-Err.ensures.few u (gates_beside u c.args.circuit.now c.args.part.now c.requires.part.0 out.span c.args.gates first old c.requires.words.words.gates_len i.writes c.requires.words.words.apart c.requires.words.words.gates_live gates) (roots_beside u c.args.circuit.now c.args.part.now c.requires.part.1 c.args.roots c.requires.words.roots_len out.span first old i.writes c.requires.words.roots_apart c.requires.words.roots_live roots) q.1 in
    spends_more u out.span (c.rounds.count * size + size) (length part.nets * size) first new (Err c.in-Err.spent) (times_most c.rounds.count (length part.nets) size enough)
    (spends_err u out.span (c.rounds.count * size + size) first new c.in-Err.spent (spends_behind u out.span (c.rounds.count * size) size first old new (Err c.in-Err.spent) q.0 f))

pub returns-then-is_settled-clause-few : goal.returns-then-is_settled-clause-few
returns-then-is_settled-clause-few c u gates roots all =
    let out = c.args.out in
    let part = c.args.part.now in
    let first = c.args.store.now in
    let old = c.rounds.store in
    let new = c.round.new.store in
    let i = c.rounds.invariant in
    let size = length part.devices * (4 * c.args.out.source + 6) in
    let q = i.few u gates roots all in
    let enough : c.rounds.count + 1 ≤ length part.nets = omega (arith, c.rounds-test.true, c.len-count-end.ensures) in
    let f = c.in-Ok.ensures.few u (gates_beside u c.args.circuit.now c.args.part.now c.requires.part.0 out.span c.args.gates first old c.requires.words.words.gates_len i.writes c.requires.words.words.apart c.requires.words.words.gates_live gates) (roots_beside u c.args.circuit.now c.args.part.now c.requires.part.1 c.args.roots c.requires.words.roots_len out.span first old i.writes c.requires.words.roots_apart c.requires.words.roots_live roots) q.1 in
    spends_more u out.span (c.rounds.count * size + size) (length part.nets * size) first new (Ok tt) (times_most c.rounds.count (length part.nets) size enough)
    (spends_value u out.span (c.rounds.count * size + size) first new c.in-Ok.changed tt (spends_behind u out.span (c.rounds.count * size) size first old new (Ok c.in-Ok.changed) q.0 f))

pub returns-clause-few : goal.returns-clause-few
returns-clause-few c u gates roots all =
    let part = c.args.part.now in
    let first = c.args.store.now in
    let new = c.rounds.store in
    let size = length part.devices * (4 * c.args.out.source + 6) in
    let q = c.rounds.invariant.few u gates roots all in
    let enough : c.rounds.count ≤ length part.nets = omega (arith, c.rounds.auto.count-end, c.len-count-end.ensures) in
    record {
      counts = counts_more u (c.rounds.count * size) (length part.nets * size) first new (Ok tt) (mul-le-mul_right {m = c.rounds.count} {n = length part.nets} size enough)
          (counts_ok u (c.rounds.count * size) first new tt q.0);
      within = q.1;
    }
