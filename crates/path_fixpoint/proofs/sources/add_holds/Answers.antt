use Rattle.std.proofs.Common.{◌≡◌, ℕ, ◌+◌, ◌*◌, ◌<◌, Ok, Err, List, length, arith, ap, refl, sym, subst, ◌∙◌, inl, inr}
use Rattle.std.proofs.lemmas.Bool.{cases_lt}
use Rattle.std.proofs.lemmas.Option.{same_Some, slice_get_within}
use Rattle.vrt_model.proofs.Lists.{item_at}
use Rattle.vrt_model.proofs.Members.{all_among}
use Rattle.vrt_model.specs.Circuits.{IsHold}
use Rattle.vrt_model.specs.Lists.{At}
use Rattle.vrt_model.specs.declared.circuit.Hold.{Hold}
use Rattle.path_fixpoint.specs.Sources.{IsHoldSource}
use Rattle.bdd_core.proofs.Frames.{writes_none, writes_then}
use Rattle.path_fixpoint.proofs.SourceLaws.{adds_none, adds_same, adds_then}
use Rattle.bdd_ops.proofs.CountingLaws.{counted_more, counted_same, counted_then, counts_more, counts_ok}
use Rattle.path_fixpoint.proofs.HoldPlaces.{places_few, places_less, places_more, places_none}
use Rattle.path_fixpoint.proofs.SpendingLaws.{roots_beside, spends_behind, spends_more}
use Rattle.path_fixpoint.proofs.sources.add_holds.Goals as goal

pub loop-hold-init : goal.loop-hold-init
loop-hold-init c = record {
  writes = writes_none c.args.out.span c.args.store.now c.sound.ensures.sound c.sound.ensures.within c.requires.words.words.out_live;
  apart = λ k away. refl;
  adds = adds_none c.args.part.now c.args.roots c.args.out c.args.value
      (λ n handle size. (k : ℕ) × (k < 0) × (h : Hold) × At c.args.circuit.now.holds k h × (h.net.0 ≡ n) × (handle ≡ n) × (h.size ≡ size)) c.args.store.now (λ n handle k q i p. absurd (omega (arith, q.1)));
  few = λ one u roots all. (0, places_none c.args.circuit.now c.args.part.now, counted_same u c.args.store.now c.args.store.now refl refl, all);
}

pub loop-hold-preserved : goal.loop-hold-preserved
loop-hold-preserved c =
    let out = c.args.out in
    let circuit = c.args.circuit.now in
    let part = c.args.part.now in
    let words = c.requires.words in
    let first = c.args.store.now in
    let old = c.loop-hold.store in
    let new = c.add_root.new.store in
    let at = c.loop-hold.hold-index in
    let i = c.loop-hold.invariant in
    let hold : Hold = c.hold-item.result in
    let there : At circuit.holds at hold = item_at circuit.holds c.as_slice-hold-items.result.now at hold c.as_slice-hold-items.ensures c.loop-hold-test.true c.hold-item.is in
    let P : ℕ → ℕ → ℕ → Type 0 = λ n handle size. (k : ℕ) × (k < at) × (h : Hold) × At circuit.holds k h × (h.net.0 ≡ n) × (handle ≡ n) × (h.size ≡ size) in
    let Q : ℕ → ℕ → ℕ → Type 0 = λ n handle size. (n ≡ hold.net.0) × (handle ≡ hold.net.0) × (size ≡ hold.size) in
    let R : ℕ → ℕ → ℕ → Type 0 = λ n handle size. (k : ℕ) × (k < at + 1) × (h : Hold) × At circuit.holds k h × (h.net.0 ≡ n) × (handle ≡ n) × (h.size ≡ size) in
    record {
      writes = writes_then out.span first old new i.writes c.in-Ok.ensures.writes;
      apart = λ k away. c.in-Ok.ensures.apart k away ∙ i.apart k away;
      adds = adds_then part c.args.roots out c.args.value P Q R first old new words.words.out_len i.writes i.apart words.roots_apart words.roots_live words.words.out_live
          (λ n handle size r. elim (cases_lt r.0 at) [
            | inl low ↦ inl (r.0, low, r.2, r.3, r.4, r.5, r.6)
            | inr ge ↦
                let e : r.0 ≡ at = omega (arith, ge, r.1) in
                let same : r.2 ≡ hold = same_Some r.2 hold (sym r.3 ∙ subst (λ (k : ℕ). At circuit.holds k hold) (sym e) there) in
                (let net = sym r.4 ∙ ap (λ (h : Hold). h.net.0) same in inr (net, r.5 ∙ net, sym r.6 ∙ ap (λ (h : Hold). h.size) same))
          ])
          (λ n handle size p. (p.0, omega (arith, p.1), p.2, p.3, p.4, p.5, p.6))
          (λ n handle size q. (at, omega arith, hold, there, sym q.0, q.1 ∙ sym q.0, sym q.2))
          (λ n handle size r.
          let range = all_among (IsHold circuit) circuit.holds r.2 c.requires.part.0.holds (r.0, r.3) in
          let net = r.4 in let same = r.5 in let level = r.6 in
          (omega (arith, range.net, net, same, words.roots_len), omega (arith, range.size.0, level)))
          i.adds c.in-Ok.ensures.adds;
      few = λ one u roots all.
          let q = i.few one u roots all in
          let k = q.0 in
          elim (c.in-Ok.ensures.few u (λ j p. (roots_beside u c.args.circuit.now c.args.part.now c.requires.part.1 c.args.roots words.roots_len out.span first old i.writes words.roots_apart words.roots_live roots).held at j hold there p) q.3) [
            | inl none ↦ (k, places_less circuit part at (at + 1) k (omega arith) q.1, counted_more u (k * 3 + 0) (k * 3) first new (omega arith) (counted_then u (k * 3) 0 first old new q.2 none.counts.added), none.within)
            | inr some ↦ (
              k + 1,
              places_more circuit part one at k some.0 hold there some.1 q.1,
              counted_more u (k * 3 + 3) ((k + 1) * 3) first new (omega arith) (counted_then u (k * 3) 3 first old new q.2 some.2.counts.added),
              some.2.within,
            )
          ];
    }

pub returns-clause-adds : goal.returns-clause-adds
returns-clause-adds c =
    let circuit = c.args.circuit.now in
    let at = c.loop-hold.hold-index in
    let shown : length c.as_slice-hold-items.result.now ≡ length circuit.holds = ap (λ (xs : List Hold). length xs) c.as_slice-hold-items.ensures in
    adds_same c.args.part.now c.args.roots c.args.out c.args.value (λ n handle size. (k : ℕ) × (k < at) × (h : Hold) × At circuit.holds k h × (h.net.0 ≡ n) × (handle ≡ n) × (h.size ≡ size)) (IsHoldSource circuit) c.args.store.now c.loop-hold.store
    (λ n handle size h. (h.0, omega (arith, slice_get_within circuit.holds h.0 h.1 h.2, shown, c.loop-hold-test.false), h.1, h.2, h.3, h.4, h.5))
    (λ n handle size h. (h.0, h.2, h.3, h.4, h.5, h.6)) c.loop-hold.invariant.adds

pub returns-in-Err-clause-few : goal.returns-in-Err-clause-few
returns-in-Err-clause-few c one u roots all =
    let out = c.args.out in
    let circuit = c.args.circuit.now in
    let part = c.args.part.now in
    let at = c.loop-hold.hold-index in
    let first = c.args.store.now in
    let old = c.loop-hold.store in
    let new = c.add_root.new.store in
    let i = c.loop-hold.invariant in
    let hold : Hold = c.hold-item.result in
    let there : At circuit.holds at hold = item_at circuit.holds c.as_slice-hold-items.result.now at hold c.as_slice-hold-items.ensures c.loop-hold-test.true c.hold-item.is in
    let q = i.few one u roots all in
    let k = q.0 in
    elim (c.in-Err.ensures.few u (λ j p. (roots_beside u c.args.circuit.now c.args.part.now c.requires.part.1 c.args.roots c.requires.words.roots_len out.span first old i.writes c.requires.words.roots_apart c.requires.words.roots_live roots).held at j hold there p) q.3) [
      | inl none ↦ spends_more u out.span (k * 3 + 0) (length part.nets * 3) first new (Err c.in-Err.spent) (omega (arith, places_few circuit part at k q.1))
          (spends_behind u out.span (k * 3) 0 first old new (Err c.in-Err.spent) q.2 none)
      | inr some ↦ spends_more u out.span (k * 3 + 3) (length part.nets * 3) first new (Err c.in-Err.spent)
          (omega (arith, places_few circuit part (at + 1) (k + 1) (places_more circuit part one at k some.0 hold there some.1 q.1)))
          (spends_behind u out.span (k * 3) 3 first old new (Err c.in-Err.spent) q.2 some.2)
    ]

pub returns-clause-few : goal.returns-clause-few
returns-clause-few c one u roots all =
    let part = c.args.part.now in
    let first = c.args.store.now in
    let new = c.loop-hold.store in
    let q = c.loop-hold.invariant.few one u roots all in
    record {
      counts = counts_more u (q.0 * 3) (length part.nets * 3) first new (Ok tt) (omega (arith, places_few c.args.circuit.now part c.loop-hold.hold-index q.0 q.1)) (counts_ok u (q.0 * 3) first new tt q.2);
      within = q.3;
    }
