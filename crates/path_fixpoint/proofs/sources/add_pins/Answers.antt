use Rattle.std.proofs.Common.{◌≡◌, ℕ, ◌+◌, ◌*◌, ◌++◌, Ok, Err, List, length, arith, ap, refl, sym, subst, ◌∙◌}
use Rattle.std.proofs.lemmas.List.{length-append}
use Rattle.std.proofs.lemmas.Option.{slice_get_within}
use Rattle.vrt_model.proofs.Lists.{item_at}
use Rattle.vrt_model.proofs.Members.{at_none}
use Rattle.vrt_model.specs.Lists.{At, Among}
use Rattle.vrt_model.specs.declared.whole.Whole.{Whole}
use Rattle.vrt_model.specs.declared.whole.WholePin.{WholePin}
use Rattle.path_fixpoint.specs.Parts.{pins_at, pins_of}
use Rattle.path_fixpoint.specs.Sources.{AddsRoots, IsPinSource}
use Rattle.bdd_core.proofs.Frames.{writes_none, writes_then}
use Rattle.path_fixpoint.proofs.PinLaws.{at_append, before_all, before_at, before_in, before_source, before_length, before_more, pin_level, pin_whole, pins_before, source_back, source_either, source_front}
use Rattle.path_fixpoint.proofs.SourceLaws.{adds_none, adds_then}
use Rattle.bdd_ops.proofs.CountingLaws.{counted_more, counted_same, counted_then, counts_more, counts_ok}
use Rattle.path_fixpoint.proofs.SpendingLaws.{outputs_within, roots_beside, spends_behind, spends_more}
use Rattle.path_fixpoint.specs.Sources.{HasDriveLevel}
use Rattle.path_fixpoint.proofs.sources.add_pins.Goals as goal

pub loop-whole-init : goal.loop-whole-init
loop-whole-init c =
    let words = c.requires.words in
    record {
      writes = writes_none c.args.out.span c.args.store.now c.sound.ensures.sound c.sound.ensures.within words.words.out_live;
      apart = λ k away. refl;
      first = omega (arith, c.len-first.ensures);
      adds = adds_none c.args.part.now c.args.roots c.args.out c.args.value (IsPinSource c.args.out.source (pins_before c.args.circuit.now 0) (length c.args.circuit.now.nets)) c.args.store.now
          (λ n at size q i p. absurd (at_none q.0 q.1 q.2));
      few = λ u roots all. (counted_same u c.args.store.now c.args.store.now refl refl, all);
    }

pub add_outputs-requires-clause-handles : goal.add_outputs-requires-clause-handles
add_outputs-requires-clause-handles c =
    let circuit = c.args.circuit.now in
    let at = c.loop-whole.whole-index in
    let w : Whole = c.whole-item.result in
    let there : At circuit.wholes at w = item_at circuit.wholes c.as_slice-whole-items.result.now at w c.as_slice-whole-items.ensures c.loop-whole-test.true c.whole-item.is in
    let shown : length c.as_slice-outputs.result.now ≡ length w.outputs = ap (λ (xs : List WholePin). length xs) c.as_slice-outputs.ensures in
    omega (arith, before_in circuit at w there, shown, c.loop-whole.invariant.first, c.requires.words.roots_len)

pub add_outputs-requires-clause-levels : goal.add_outputs-requires-clause-levels
add_outputs-requires-clause-levels c pin m =
    let circuit = c.args.circuit.now in
    let at = c.loop-whole.whole-index in
    let w : Whole = c.whole-item.result in
    let there : At circuit.wholes at w = item_at circuit.wholes c.as_slice-whole-items.result.now at w c.as_slice-whole-items.ensures c.loop-whole-test.true c.whole-item.is in
    subst (λ (l : ℕ). HasDriveLevel l pin) (sym c.requires.words.words.source)
    (pin_level circuit pin c.requires.part.0 (pin_whole circuit w pin (at, there) (subst (λ (ps : List WholePin). Among ps pin) c.as_slice-outputs.ensures m)))

pub overflow_cast-first-in-loop-whole : goal.overflow_cast-first-in-loop-whole
overflow_cast-first-in-loop-whole c =
    let circuit = c.args.circuit.now in
    let at = c.loop-whole.whole-index in
    let w : Whole = c.whole-item.result in
    let there : At circuit.wholes at w = item_at circuit.wholes c.as_slice-whole-items.result.now at w c.as_slice-whole-items.ensures c.loop-whole-test.true c.whole-item.is in
    let count : length c.as_slice-outputs.result.now ≡ length w.outputs = ap (λ (xs : List WholePin). length xs) c.as_slice-outputs.ensures in
    let room = before_in circuit at w there in
    let len = c.requires.words.roots_len in
    omega (arith, room, count, len)

pub overflow_add-first : goal.overflow_add-first
overflow_add-first c =
    let circuit = c.args.circuit.now in
    let at = c.loop-whole.whole-index in
    let w : Whole = c.whole-item.result in
    let there : At circuit.wholes at w = item_at circuit.wholes c.as_slice-whole-items.result.now at w c.as_slice-whole-items.ensures c.loop-whole-test.true c.whole-item.is in
    let count : length c.as_slice-outputs.result.now ≡ length w.outputs = ap (λ (xs : List WholePin). length xs) c.as_slice-outputs.ensures in
    let room = before_in circuit at w there in
    let first = c.loop-whole.invariant.first in
    let len = c.requires.words.roots_len in
    omega (arith, room, count, first, len)

pub loop-whole-preserved : goal.loop-whole-preserved
loop-whole-preserved c =
    let out = c.args.out in
    let circuit = c.args.circuit.now in
    let part = c.args.part.now in
    let words = c.requires.words in
    let first = c.args.store.now in
    let old = c.loop-whole.store in
    let new = c.add_outputs.new.store in
    let at = c.loop-whole.whole-index in
    let i = c.loop-whole.invariant in
    let nets = length circuit.nets in
    let w : Whole = c.whole-item.result in
    let there : At circuit.wholes at w = item_at circuit.wholes c.as_slice-whole-items.result.now at w c.as_slice-whole-items.ensures c.loop-whole-test.true c.whole-item.is in
    let shown : c.as_slice-outputs.result.now ≡ w.outputs = c.as_slice-outputs.ensures in
    let count : length c.as_slice-outputs.result.now ≡ length w.outputs = ap (λ (xs : List WholePin). length xs) shown in
    let before = pins_before circuit at in
    let next : pins_before circuit (at + 1) ≡ before ++ w.outputs = before_more circuit at w there in
    let P : ℕ → ℕ → ℕ → Type 0 = IsPinSource out.source before nets in
    let Q : ℕ → ℕ → ℕ → Type 0 = IsPinSource out.source w.outputs c.loop-whole.first in
    let R : ℕ → ℕ → ℕ → Type 0 = IsPinSource out.source (pins_before circuit (at + 1)) nets in
    let adds : AddsRoots part c.args.roots out c.args.value Q old new =
    subst (λ (ps : List WholePin). AddsRoots part c.args.roots out c.args.value (IsPinSource out.source ps c.loop-whole.first) old new) shown c.in-Ok.ensures.adds in
    record {
      writes = writes_then out.span first old new i.writes c.in-Ok.ensures.writes;
      apart = λ k away. c.in-Ok.ensures.apart k away ∙ i.apart k away;
      first = omega (arith, ap (λ (ps : List WholePin). length ps) next, length-append before w.outputs, count, i.first);
      adds = adds_then part c.args.roots out c.args.value P Q R first old new words.words.out_len i.writes i.apart words.roots_apart words.roots_live words.words.out_live
          (λ n handle size r. source_either out.source before w.outputs nets c.loop-whole.first n handle size i.first (subst (λ (ps : List WholePin). IsPinSource out.source ps nets n handle size) next r))
          (λ n handle size p. subst (λ (ps : List WholePin). IsPinSource out.source ps nets n handle size) (sym next) (source_front out.source before w.outputs nets n handle size p))
          (λ n handle size q. subst (λ (ps : List WholePin). IsPinSource out.source ps nets n handle size) (sym next) (source_back out.source before w.outputs nets c.loop-whole.first n handle size i.first q))
          (λ n handle size r.
          let inside = slice_get_within (pins_before circuit (at + 1)) r.0 r.1 r.2 in
          let whole = before_source circuit out.source (at + 1) nets n handle size r in
          let low = (subst (λ (l : ℕ). HasDriveLevel l whole.1) (sym words.words.source) (pin_level circuit whole.1 c.requires.part.0 (whole.0, whole.2))).0 in
          let is = r.4 in
          let level = whole.5 in
          (omega (arith, inside, before_length circuit (at + 1), is, words.roots_len), omega (arith, low, level)))
          i.adds adds;
      few = λ u roots all.
          let q = i.few u roots all in
          let k = pins_at part before in
          let more = pins_at part c.as_slice-outputs.result.now in
          let f = c.in-Ok.ensures.few u (outputs_within u circuit part c.args.roots old at w c.as_slice-outputs.result.now c.loop-whole.first there shown i.first (roots_beside u c.args.circuit.now c.args.part.now c.requires.part.1 c.args.roots words.roots_len out.span first old i.writes words.roots_apart words.roots_live roots)) q.1 in
          let sum : pins_at part (pins_before circuit (at + 1)) ≡ k + more =
          ap (λ (ps : List WholePin). pins_at part ps) next ∙ at_append part before w.outputs ∙ ap (λ (ps : List WholePin). k + pins_at part ps) (sym shown) in
          (counted_more u (k * 3 + more * 3) (pins_at part (pins_before circuit (at + 1)) * 3) first new (omega (arith, sum)) (counted_then u (k * 3) (more * 3) first old new q.0 f.counts.added), f.within);
    }

pub returns-clause-adds : goal.returns-clause-adds
returns-clause-adds c =
    let circuit = c.args.circuit.now in
    let at = c.loop-whole.whole-index in
    let shown : length c.as_slice-whole-items.result.now ≡ length circuit.wholes = ap (λ (xs : List Whole). length xs) c.as_slice-whole-items.ensures in
    subst (λ (ps : List WholePin). AddsRoots c.args.part.now c.args.roots c.args.out c.args.value (IsPinSource c.args.out.source ps (length circuit.nets)) c.args.store.now c.loop-whole.store)
    (before_all circuit at (omega (arith, shown, c.loop-whole-test.false))) c.loop-whole.invariant.adds

pub returns-in-Err-clause-few : goal.returns-in-Err-clause-few
returns-in-Err-clause-few c u roots all =
    let out = c.args.out in
    let circuit = c.args.circuit.now in
    let part = c.args.part.now in
    let words = c.requires.words in
    let at = c.loop-whole.whole-index in
    let first = c.args.store.now in
    let old = c.loop-whole.store in
    let new = c.add_outputs.new.store in
    let i = c.loop-whole.invariant in
    let w : Whole = c.whole-item.result in
    let there : At circuit.wholes at w = item_at circuit.wholes c.as_slice-whole-items.result.now at w c.as_slice-whole-items.ensures c.loop-whole-test.true c.whole-item.is in
    let shown : c.as_slice-outputs.result.now ≡ w.outputs = c.as_slice-outputs.ensures in
    let before = pins_before circuit at in
    let k = pins_at part before in
    let more = pins_at part c.as_slice-outputs.result.now in
    let sum : pins_at part (pins_before circuit (at + 1)) ≡ k + more =
    ap (λ (ps : List WholePin). pins_at part ps) (before_more circuit at w there) ∙ at_append part before w.outputs ∙ ap (λ (ps : List WholePin). k + pins_at part ps) (sym shown) in
    let q = i.few u roots all in
    let f = c.in-Err.ensures.few u (outputs_within u circuit part c.args.roots old at w c.as_slice-outputs.result.now c.loop-whole.first there shown i.first (roots_beside u c.args.circuit.now c.args.part.now c.requires.part.1 c.args.roots words.roots_len out.span first old i.writes words.roots_apart words.roots_live roots)) q.1 in
    spends_more u out.span (k * 3 + more * 3) (pins_at part (pins_of circuit) * 3) first new (Err c.in-Err.spent) (omega (arith, sum, before_at circuit part (at + 1)))
    (spends_behind u out.span (k * 3) (more * 3) first old new (Err c.in-Err.spent) q.0 f)

pub returns-clause-few : goal.returns-clause-few
returns-clause-few c u roots all =
    let circuit = c.args.circuit.now in
    let part = c.args.part.now in
    let at = c.loop-whole.whole-index in
    let first = c.args.store.now in
    let new = c.loop-whole.store in
    let k = pins_at part (pins_before circuit at) in
    let q = c.loop-whole.invariant.few u roots all in
    record { counts = counts_more u (k * 3) (pins_at part (pins_of circuit) * 3) first new (Ok tt) (omega (arith, before_at circuit part at)) (counts_ok u (k * 3) first new tt q.0); within = q.1 }
