use Rattle.std.proofs.Common.{◌≡◌, ℕ, ◌+◌, ◌*◌, ◌≤◌, ◌++◌, ◌∷◌, [], Ok, Err, List, take, arith, ap, refl, sym, subst, ◌∙◌, inl, inr}
use Rattle.std.proofs.lemmas.List.{take_all}
use Rattle.std.proofs.lemmas.Option.{slice_get_within}
use Rattle.vrt_model.proofs.Lists.{take_one}
use Rattle.vrt_model.proofs.Members.{at_none}
use Rattle.vrt_model.specs.Lists.{At}
use Rattle.vrt_model.specs.declared.whole.WholePin.{WholePin}
use Rattle.path_fixpoint.specs.Parts.{pins_at}
use Rattle.path_fixpoint.specs.Sources.{AddsRoots, IsPinSource}
use Rattle.bdd_core.proofs.Frames.{writes_none, writes_then}
use Rattle.path_fixpoint.proofs.PinLaws.{at_grows, at_more, source_front, source_last, source_split, taken_at, taken_source}
use Rattle.path_fixpoint.proofs.SourceLaws.{adds_none, adds_then}
use Rattle.bdd_ops.proofs.CountingLaws.{counted_more, counted_same, counted_then, counts_more, counts_ok}
use Rattle.path_fixpoint.proofs.SpendingLaws.{spends_behind, spends_more, word_kept}
use Rattle.path_fixpoint.proofs.sources.add_outputs.Goals as goal

pub loop-at-init : goal.loop-at-init
loop-at-init c = record {
  writes = writes_none c.args.out.span c.args.store.now c.sound.ensures.sound c.sound.ensures.within c.requires.out.1;
  apart = λ k away. refl;
  adds = adds_none c.args.part.now c.args.roots c.args.out c.args.value (IsPinSource c.args.out.source (take 0 c.args.outputs.now) c.args.first) c.args.store.now
      (λ n at size q i p. absurd (at_none q.0 q.1 q.2));
  few = λ u pins all. (counted_same u c.args.store.now c.args.store.now refl refl, all);
}

pub loop-at-preserved : goal.loop-at-preserved
loop-at-preserved c =
    let out = c.args.out in
    let part = c.args.part.now in
    let outputs = c.args.outputs.now in
    let first = c.args.store.now in
    let old = c.loop-at.store in
    let new = c.add_root.new.store in
    let at = c.loop-at.at in
    let i = c.loop-at.invariant in
    let pin : WholePin = c.pin_at-pin.result.now in
    let there : At outputs at pin = c.pin_at-pin.ensures in
    let next : take (at + 1) outputs ≡ take at outputs ++ pin ∷ [] = take_one outputs at pin there in
    let P : ℕ → ℕ → ℕ → Type 0 = IsPinSource out.source (take at outputs) c.args.first in
    let Q : ℕ → ℕ → ℕ → Type 0 = λ n handle size. (n ≡ pin.net.0) × (handle ≡ c.args.first + at) × (size ≡ c.drive_level.result) in
    let R : ℕ → ℕ → ℕ → Type 0 = IsPinSource out.source (take (at + 1) outputs) c.args.first in
    record {
      writes = writes_then out.span first old new i.writes c.in-Ok.ensures.writes;
      apart = λ k away. c.in-Ok.ensures.apart k away ∙ i.apart k away;
      adds = adds_then part c.args.roots out c.args.value P Q R first old new c.requires.out.2 i.writes i.apart c.requires.roots.2 c.requires.roots.1 c.requires.out.1
          (λ n handle size r. elim (source_split out.source outputs at pin c.args.first n handle size there (subst (λ (ps : List WholePin). IsPinSource out.source ps c.args.first n handle size) next r)) [
            | inl before ↦ inl before
            | inr last ↦ inr (last.0, last.1, last.2 ∙ sym c.drive_level.ensures)
          ])
          (λ n handle size p. subst (λ (ps : List WholePin). IsPinSource out.source ps c.args.first n handle size) (sym next) (source_front out.source (take at outputs) (pin ∷ []) c.args.first n handle size p))
          (λ n handle size q. subst (λ (ps : List WholePin). IsPinSource out.source ps c.args.first n handle size) (sym next)
          (source_last out.source outputs at pin c.args.first n handle size there q.0 q.1 (q.2 ∙ c.drive_level.ensures)))
          (λ n handle size r.
          let whole = taken_source out.source outputs (at + 1) c.args.first n handle size r in
          let inside = slice_get_within outputs whole.0 whole.1 whole.2 in
          let low = (c.requires.levels whole.1 (whole.0, whole.2)).0 in
          let is = whole.4 in
          let level = whole.5 in
          (omega (arith, inside, is, c.requires.handles), omega (arith, low, level)))
          i.adds c.in-Ok.ensures.adds;
      few = λ u pins all.
          let q = i.few u pins all in
          let k = pins_at part (take at outputs) in
          let k' = pins_at part (take (at + 1) outputs) in
          let grows : k ≤ k' = (let more = at_grows part (take at outputs) pin in omega (arith, more, ap (λ (ps : List WholePin). pins_at part ps) next)) in
          elim (c.in-Ok.ensures.few u (λ j p. word_kept u out.span c.args.roots first old i.writes c.requires.roots.2 c.requires.roots.1 (c.args.first + at) (omega (arith, slice_get_within outputs at pin there, c.requires.handles)) (pins at j pin there p)) q.1) [
            | inl none ↦ (counted_more u (k * 3 + 0) (k' * 3) first new (omega (arith, grows)) (counted_then u (k * 3) 0 first old new q.0 none.counts.added), none.within)
            | inr some ↦
                let one : k' ≡ k + 1 = ap (λ (ps : List WholePin). pins_at part ps) next ∙ at_more part (take at outputs) pin some.0 some.1 in
                (counted_more u (k * 3 + 3) (k' * 3) first new (omega (arith, one)) (counted_then u (k * 3) 3 first old new q.0 some.2.counts.added), some.2.within)
          ];
    }

pub returns-clause-adds : goal.returns-clause-adds
returns-clause-adds c =
    let outputs = c.args.outputs.now in
    let at = c.loop-at.at in
    subst (λ (ps : List WholePin). AddsRoots c.args.part.now c.args.roots c.args.out c.args.value (IsPinSource c.args.out.source ps c.args.first) c.args.store.now c.loop-at.store)
    (take_all at outputs (omega (arith, c.loop-at-test.false))) c.loop-at.invariant.adds

pub returns-in-Err-clause-few : goal.returns-in-Err-clause-few
returns-in-Err-clause-few c u pins all =
    let out = c.args.out in
    let part = c.args.part.now in
    let outputs = c.args.outputs.now in
    let at = c.loop-at.at in
    let first = c.args.store.now in
    let old = c.loop-at.store in
    let new = c.add_root.new.store in
    let i = c.loop-at.invariant in
    let pin : WholePin = c.pin_at-pin.result.now in
    let there : At outputs at pin = c.pin_at-pin.ensures in
    let next : take (at + 1) outputs ≡ take at outputs ++ pin ∷ [] = take_one outputs at pin there in
    let k = pins_at part (take at outputs) in
    let q = i.few u pins all in
    elim (c.in-Err.ensures.few u (λ j p. word_kept u out.span c.args.roots first old i.writes c.requires.roots.2 c.requires.roots.1 (c.args.first + at) (omega (arith, slice_get_within outputs at pin there, c.requires.handles)) (pins at j pin there p)) q.1) [
      | inl none ↦ spends_more u out.span (k * 3 + 0) (pins_at part outputs * 3) first new (Err c.in-Err.spent) (omega (arith, taken_at part outputs at))
          (spends_behind u out.span (k * 3) 0 first old new (Err c.in-Err.spent) q.0 none)
      | inr some ↦
          let one : pins_at part (take (at + 1) outputs) ≡ k + 1 = ap (λ (ps : List WholePin). pins_at part ps) next ∙ at_more part (take at outputs) pin some.0 some.1 in
          spends_more u out.span (k * 3 + 3) (pins_at part outputs * 3) first new (Err c.in-Err.spent) (omega (arith, taken_at part outputs (at + 1), one))
          (spends_behind u out.span (k * 3) 3 first old new (Err c.in-Err.spent) q.0 some.2)
    ]

pub returns-clause-few : goal.returns-clause-few
returns-clause-few c u pins all =
    let part = c.args.part.now in
    let outputs = c.args.outputs.now in
    let at = c.loop-at.at in
    let first = c.args.store.now in
    let new = c.loop-at.store in
    let k = pins_at part (take at outputs) in
    let q = c.loop-at.invariant.few u pins all in
    record { counts = counts_more u (k * 3) (pins_at part outputs * 3) first new (Ok tt) (omega (arith, taken_at part outputs at)) (counts_ok u (k * 3) first new tt q.0); within = q.1 }
