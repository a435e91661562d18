use Rattle.std.proofs.Common.{◌+◌, ◌∙◌, [], ℕ, List, ap, get_or, length, refl}
use Rattle.vrt_model.specs.Unsupported.{carried}
use Rattle.blif_flat.proofs.CountLaws.{counts_made, insides_are}
use Rattle.blif_flat.proofs.counts.counts_of.Goals as goal

pub returns : goal.returns
returns c blif are none =
    let t = c.args.tables.now in
    let sums = are.sums_are in
    counts_made blif c.args.model _ t.tables.names t.signals t.sums.rows t.sums.rows _ _ _ _ c.size_at-own_signals.result c.number_at-own_rows.result
    (insides_are blif t.tables blif.models _ t.signals t.sums.rows t.sums.rows are.tables_are refl are.lists_are sums.rows_are refl none refl)
    refl refl refl refl
    (c.size_at-own_signals.ensures ∙ ap (λ (ls : List (List (List ℕ))). length (get_or ls c.args.model [])) c.as_slice.ensures)
    (c.number_at-own_rows.ensures ∙ ap (λ (ns : List ℕ). get_or ns c.args.model 0) c.as_slice-2.ensures)
    (c.with_below.ensures ∙ ap (λ (n : ℕ). carried (c.size_at-own_signals.result + n)) (sums.signals_are c.args.model))
    (c.with_below-2.ensures ∙ ap (λ (n : ℕ). carried (c.number_at-own_rows.result + n)) (sums.below_are c.args.model))
    (c.with_below-3.ensures ∙ ap (λ (n : ℕ). carried (0 + n)) (sums.subs_are c.args.model))
