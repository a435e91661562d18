use Rattle.std.proofs.Common.{ℕ, List, slice_index, subst, sym}
use Rattle.plain_paths.proofs.LocalLaws.{alone_attained, alone_roots}
use Rattle.plain_paths.specs.Local.{roots_alone}
use Rattle.vrt_model.specs.Networks.{HasBound}
use Rattle.vrt_model.specs.Response.{IsStrength}
use Rattle.plain_paths.proofs.local.raise_over.Goals as goal

pub returns-clause-signals : goal.returns-clause-signals
returns-clause-signals c w bound has alone before =
    let old = c.args.tables.now in
    let strong : (n : ℕ) → IsStrength w n (slice_index c.pass_table.new.table.items n) =
    c.pass_table.ensures.strength w bound has (alone_roots w old.strengths.items before.strength) (alone_attained w old.strengths.items before.strength) in
    let levels : (n : ℕ) → IsStrength (roots_alone w) n (slice_index c.as_slice-levels.result.now n) =
    subst (λ (t : List ℕ). (n : ℕ) → IsStrength (roots_alone w) n (slice_index t n)) (sym c.as_slice-levels.ensures.value) alone.strength in
    let first : (n : ℕ) → IsStrength w n (slice_index c.as_slice.result.now n) = subst (λ (t : List ℕ). (n : ℕ) → IsStrength w n (slice_index t n)) (sym c.as_slice.ensures.value) strong in
    let second : (n : ℕ) → IsStrength w n (slice_index c.as_slice-2.result.now n) = subst (λ (t : List ℕ). (n : ℕ) → IsStrength w n (slice_index t n)) (sym c.as_slice-2.ensures.value) strong in
    record {
      strength = strong;
      reached_by_zero = c.spread_table.ensures.reached w (subst (HasBound w) (sym c.requires.places.zeros) bound) has levels first before.reached_by_zero;
      reached_by_one = c.spread_table-2.ensures.reached w (subst (HasBound w) (sym c.requires.places.ones) bound) has levels second before.reached_by_one;
    }
