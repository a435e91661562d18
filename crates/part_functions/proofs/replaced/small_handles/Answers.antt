use Rattle.std.proofs.Common.{ℕ, ◌+◌, ◌<◌, Err, length, arith, sym, subst, ◌∙◌, inl, inr}
use Rattle.std.specs.Prelude.{slice_index, slice_set}
use Rattle.std.proofs.lemmas.Bool.{cases_eq}
use Rattle.std.proofs.lemmas.List.{length-set}
use Rattle.bdd_core.proofs.Frames.{nodes_then}
use Rattle.bdd_ops.proofs.CountingLaws.{counted_then, counts_err, counts_more, counts_then}
use Rattle.part_functions.proofs.ComposeLaws.{live_kept}
use Rattle.part_functions.proofs.StandLaws.{each_live, stands_kept, written_beside, written_here}
use Rattle.part_functions.specs.Replaced.{StandsFor, gate_handle}
use Rattle.part_functions.proofs.replaced.small_handles.Goals as goal

pub returns-in-Err-clause-counts : goal.returns-in-Err-clause-counts
returns-in-Err-clause-counts c u few =
    let first = c.args.store.now in
    let old = c.loop-place.store in
    let new = c.small_handle.new.store in
    let at = c.loop-place.place in
    let size = c.len-place-end.ensures in
    let low = c.loop-place-test.true in
    counts_more u (at + 1) (length c.args.part.now.devices) first new (Err c.in-Err.spent) (omega (arith, size, low))
    (counts_then u at 1 first old new (Err c.in-Err.spent) (c.loop-place.invariant.counted u few) (counts_err u 1 old new c.in-Err.spent (c.in-Err.ensures.counts u few)))

pub loop-place-preserved : goal.loop-place-preserved
loop-place-preserved c =
    let first = c.args.store.now in
    let old = c.loop-place.store in
    let new = c.small_handle.new.store in
    let at = c.loop-place.place in
    let small = c.loop-place.small in
    let h : ℕ = c.in-Ok.handle in
    let handles = c.args.handles in
    let functions = c.args.functions in
    let inv = c.loop-place.invariant in
    let adds = c.in-Ok.ensures.adds in
    let size = c.len-place-end.ensures in
    let low = c.loop-place-test.true in
    let few = c.requires.few in
    let sized = inv.sized in
    let inside : at < length small = omega (arith, size, low, few, sized) in
    let live = live_kept functions first old first.words inv.adds c.requires.functions.1 in
    let stand : (i : ℕ) → i < at + 1 → StandsFor functions new (gate_handle handles i) (slice_index (slice_set small at h) i) =
    λ i lt. elim (cases_eq i at) [
      | inl e ↦ subst (λ (k : ℕ). StandsFor functions new (gate_handle handles k) (slice_index (slice_set small at h) k)) (sym e)
          (subst (λ (s : ℕ). StandsFor functions new (gate_handle handles at) s) (sym (written_here small at h inside)) c.in-Ok.ensures.stands)
      | inr ne ↦
          let there = c.requires.live i in
          let longer = inv.adds.longer in
          subst (λ (s : ℕ). StandsFor functions new (gate_handle handles i) s) (sym (written_beside small at h inside i ne))
          (stands_kept functions old new adds live (gate_handle handles i) (slice_index small i) (omega (arith, there, longer)) (inv.stand i (omega (arith, lt, ne))))
    ] in
    record {
      sized = length-set small at h ∙ sized;
      adds = nodes_then first old new inv.adds adds;
      live = each_live small at h inside (length new.nodes) (λ i. (let there = inv.live i in let longer = adds.longer in omega (arith, there, longer))) c.in-Ok.ensures.stands.live;
      stand = stand;
      counted = λ u fits. counted_then u at 1 first old new (inv.counted u fits) (c.in-Ok.ensures.counts u fits).added;
    }
