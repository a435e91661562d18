use Rattle.std.proofs.Common.{◌≡◌, ℕ, ◌+◌, ◌*◌, ◌<◌, Ok, Err, List, length, get_or, arith, ap, refl, sym, subst, ◌∙◌, inl, inr}
use Rattle.std.proofs.lemmas.Bool.{cases_lt}
use Rattle.std.proofs.lemmas.Option.{slice_get-get_or, slice_get_within}
use Rattle.vrt_model.specs.Lists.{At}
use Rattle.vrt_model.specs.declared.ids.Net.{Net}
use Rattle.path_fixpoint.specs.Parts.{IsGiven, IsPlace}
use Rattle.path_fixpoint.specs.Sources.{IsGivenSource}
use Rattle.bdd_core.proofs.Frames.{writes_then}
use Rattle.path_fixpoint.proofs.Places.{place_in, place_once}
use Rattle.path_fixpoint.proofs.SourceLaws.{adds_same, adds_then}
use Rattle.bdd_ops.proofs.CountingLaws.{counted_more, counted_then, counts_more, counts_ok}
use Rattle.path_fixpoint.proofs.SpendingLaws.{roots_beside, spends_behind, spends_more}
use Rattle.vrt_model.specs.Levels.{source_level}
use Rattle.path_fixpoint.proofs.SourceLevels.{source_low}
use Rattle.path_fixpoint.proofs.sources.add_given.Goals as goal

pub loop-net-preserved : goal.loop-net-preserved
loop-net-preserved c =
    let out = c.args.out in
    let circuit = c.args.circuit.now in
    let part = c.args.part.now in
    let words = c.requires.words in
    let first = c.args.store.now in
    let old = c.loop-net.store in
    let new = c.add_net.new.store in
    let at = c.loop-net.net-index in
    let i = c.loop-net.invariant in
    let blank : Net = record { 0 = 0 } in
    let net : Net = get_or c.as_slice-net-items.result.now at blank in
    let there : At part.nets at net = subst (λ (xs : List Net). At xs at net) c.as_slice-net-items.ensures (slice_get-get_or c.as_slice-net-items.result.now at blank c.loop-net-test.true) in
    let P : ℕ → ℕ → ℕ → Type 0 = λ n handle size. ((j : ℕ) × (j < at) × IsPlace part j n) × IsGiven circuit n × (handle ≡ n) × (size ≡ source_level circuit) in
    let Q : ℕ → ℕ → ℕ → Type 0 = λ n handle size. IsGiven circuit n × (n ≡ net.0) × (handle ≡ n) × (size ≡ source_level circuit) in
    let R : ℕ → ℕ → ℕ → Type 0 = λ n handle size. ((j : ℕ) × (j < at + 1) × IsPlace part j n) × IsGiven circuit n × (handle ≡ n) × (size ≡ source_level circuit) in
    record {
      writes = writes_then out.span first old new i.writes c.in-Ok.ensures.writes;
      apart = λ k away. c.in-Ok.ensures.apart k away ∙ i.apart k away;
      adds = adds_then part c.args.roots out c.args.value P Q R first old new words.words.out_len i.writes i.apart words.roots_apart words.roots_live words.words.out_live
          (λ n handle size r. elim (cases_lt r.0.0 at) [
            | inl low ↦ inl ((r.0.0, low, r.0.2), r.1, r.2, r.3)
            | inr ge ↦ inr (r.1, place_once part at n net.0 (subst (λ (k : ℕ). IsPlace part k n) (let e : r.0.0 ≡ at = omega (arith, ge, r.0.1) in e) r.0.2) (net, there, refl), r.2, r.3)
          ])
          (λ n handle size p. ((p.0.0, omega (arith, p.0.1), p.0.2), p.1, p.2, p.3))
          (λ n handle size q. ((at, omega arith, (net, there, sym q.1)), q.0, q.2, q.3))
          (λ n handle size r. ((let same = r.2 in omega (arith, slice_get_within circuit.nets n r.1.0 r.1.1, same, words.roots_len)), (let top = r.3 in omega (arith, top, source_low circuit))))
          i.adds c.in-Ok.ensures.adds;
      few = λ u roots all.
          let q = i.few u roots all in
          let f = c.in-Ok.ensures.few u ((roots_beside u c.args.circuit.now c.args.part.now c.requires.part.1 c.args.roots words.roots_len out.span first old i.writes words.roots_apart words.roots_live roots).given at net.0 (net, there, refl)) q.1 in
          (counted_more u (at * 3 + 3) ((at + 1) * 3) first new (omega arith) (counted_then u (at * 3) 3 first old new q.0 f.counts.added), f.within);
    }

pub returns-clause-adds : goal.returns-clause-adds
returns-clause-adds c =
    let circuit = c.args.circuit.now in
    let part = c.args.part.now in
    let at = c.loop-net.net-index in
    let shown : length c.as_slice-net-items.result.now ≡ length part.nets = ap (λ (xs : List Net). length xs) c.as_slice-net-items.ensures in
    adds_same part c.args.roots c.args.out c.args.value (λ n handle size. ((j : ℕ) × (j < at) × IsPlace part j n) × IsGiven circuit n × (handle ≡ n) × (size ≡ source_level circuit)) (IsGivenSource circuit part) c.args.store.now c.loop-net.store
    (λ n handle size g. ((g.0.0, omega (arith, place_in part g.0.0 n g.0.1, shown, c.loop-net-test.false), g.0.1), g.1, g.2, g.3))
    (λ n handle size g. ((g.0.0, g.0.2), g.1, g.2, g.3)) c.loop-net.invariant.adds

pub returns-in-Err-clause-few : goal.returns-in-Err-clause-few
returns-in-Err-clause-few c u roots all =
    let out = c.args.out in
    let part = c.args.part.now in
    let at = c.loop-net.net-index in
    let blank : Net = record { 0 = 0 } in
    let net : Net = get_or c.as_slice-net-items.result.now at blank in
    let there : At part.nets at net = subst (λ (xs : List Net). At xs at net) c.as_slice-net-items.ensures (slice_get-get_or c.as_slice-net-items.result.now at blank c.loop-net-test.true) in
    let first = c.args.store.now in
    let old = c.loop-net.store in
    let new = c.add_net.new.store in
    let i = c.loop-net.invariant in
    let shown : length c.as_slice-net-items.result.now ≡ length part.nets = ap (λ (xs : List Net). length xs) c.as_slice-net-items.ensures in
    let q = i.few u roots all in
    let f = c.in-Err.ensures.few u ((roots_beside u c.args.circuit.now c.args.part.now c.requires.part.1 c.args.roots c.requires.words.roots_len out.span first old i.writes c.requires.words.roots_apart c.requires.words.roots_live roots).given at net.0 (net, there, refl)) q.1 in
    spends_more u out.span (at * 3 + 3) (length part.nets * 3) first new (Err c.in-Err.spent) (omega (arith, shown, c.loop-net-test.true))
    (spends_behind u out.span (at * 3) 3 first old new (Err c.in-Err.spent) q.0 f)

pub returns-clause-few : goal.returns-clause-few
returns-clause-few c u roots all =
    let part = c.args.part.now in
    let at = c.loop-net.net-index in
    let first = c.args.store.now in
    let new = c.loop-net.store in
    let shown : length c.as_slice-net-items.result.now ≡ length part.nets = ap (λ (xs : List Net). length xs) c.as_slice-net-items.ensures in
    let q = c.loop-net.invariant.few u roots all in
    record { counts = counts_more u (at * 3) (length part.nets * 3) first new (Ok tt) (omega (arith, shown, c.loop-net.auto.net-index-end)) (counts_ok u (at * 3) first new tt q.0); within = q.1 }

pub add_net-requires-clause-source : goal.add_net-requires-clause-source
add_net-requires-clause-source c = c.requires.words.words.source
