use Rattle.std.proofs.Common.{◌+◌, ◌∙◌, List, ℕ, length, ap, sym}
use Rattle.bdd_ops.proofs.CountingLaws.{counts_more}
use Rattle.blif_eval.proofs.SelectLaws.{rows_wide, selector_bytes, two_counted, two_give}
use Rattle.blif_eval.specs.Operations.{rows_operations}
use Rattle.vrt_model.specs.Budget.{literals_in}
use Rattle.blif_eval.proofs.cover.selected.Goals as goal

pub select-requires-clause-first : goal.select-requires-clause-first
select-requires-clause-first c =
    let wide =
    rows_wide c.args.cover.now c.as_slice-rows.result.now c.row_at-first.result.now c.row_at-second.result.now c.as_slice-rows.ensures c.row_at-first.ensures c.row_at-second.ensures
    c.args.values.len c.requires.cover c.requires.at.two in
    wide.0 ∙ sym (ap (λ (xs : List ℕ). length xs) c.as_slice-inputs.ensures)

pub select-requires-clause-second : goal.select-requires-clause-second
select-requires-clause-second c =
    let wide =
    rows_wide c.args.cover.now c.as_slice-rows.result.now c.row_at-first.result.now c.row_at-second.result.now c.as_slice-rows.ensures c.row_at-first.ensures c.row_at-second.ensures
    c.args.values.len c.requires.cover c.requires.at.two in
    wide.1 ∙ sym (ap (λ (xs : List ℕ). length xs) c.as_slice-inputs.ensures)

pub select-requires-clause-opposite : goal.select-requires-clause-opposite
select-requires-clause-opposite c =
    selector_bytes c.args.cover.now c.as_slice-rows.result.now c.row_at-first.result.now c.row_at-second.result.now c.as_slice-rows.ensures c.row_at-first.ensures c.row_at-second.ensures
    c.args.at c.requires.at

pub returns-clause-gives : goal.returns-clause-gives
returns-clause-gives c =
    let at = c.requires.at in
    two_give c.args.cover.now c.as_slice-rows.result.now c.row_at-first.result.now c.row_at-second.result.now c.as_slice-rows.ensures c.row_at-first.ensures c.row_at-second.ensures
    c.args.store.now c.select.new.store c.args.values c.as_slice-inputs.result.now c.select.result c.as_slice-inputs.ensures at.two c.select.ensures.gives

pub returns-clause-counts : goal.returns-clause-counts
returns-clause-counts c u reads =
    let at = c.requires.at in
    let first = c.row_at-first.result.now in
    let second = c.row_at-second.result.now in
    counts_more u (literals_in first + (literals_in second + 1)) (rows_operations c.args.cover.now.rows) c.args.store.now c.select.new.store c.select.result
    (two_counted c.args.cover.now c.as_slice-rows.result.now first second c.as_slice-rows.ensures c.row_at-first.ensures c.row_at-second.ensures at.two) (c.select.ensures.counts u reads)
