use Rattle.std.proofs.Common.{ℕ, ◌+◌, ◌<◌, Err, Ok, arith, sym, ◌∙◌}
use Rattle.bdd_core.specs.Diagram.{Function, IsWithin}
use Rattle.bdd_core.specs.Store.{function_of}
use Rattle.bdd_ops.proofs.CountingLaws.{counts_made, counts_more, counts_then}
use Rattle.bdd_ops.proofs.WithinLaws.{within_not, within_same}
use Rattle.bdd_ops.specs.Ops.{not_of}
use Rattle.blif_eval.proofs.CountLaws.{off_rows, rows_within}
use Rattle.blif_eval.proofs.RowLaws.{cover_none}
use Rattle.blif_eval.specs.Settled.{bits_in}
use Rattle.blif_eval.specs.Operations.{operations_of, rows_operations}
use Rattle.vrt_model.proofs.Members.{all_among}
use Rattle.vrt_model.specs.Covers.{some_row_fits}
use Rattle.blif_eval.proofs.cover.cover_diagram.Goals as goal

pub returns-in-Err-clause-counts : goal.returns-in-Err-clause-counts
returns-in-Err-clause-counts c u reads =
    let cover = c.args.cover.now in
    counts_more u (rows_operations cover.rows) (operations_of cover) c.args.store.now c.rows_diagram.new.store (Err c.in-Err.spent) (omega arith) (c.in-Err.ensures.counts u reads)

pub returns-then-is_of_rows-clause-counts : goal.returns-then-is_of_rows-clause-counts
returns-then-is_of_rows-clause-counts c u reads =
    let cover = c.args.cover.now in
    counts_more u (rows_operations cover.rows) (operations_of cover) c.args.store.now c.rows_diagram.new.store (Ok c.in-Ok.sum) (omega arith) (c.in-Ok.ensures.counts u reads)

pub returns-else-is_of_rows-clause-gives : goal.returns-else-is_of_rows-clause-gives
returns-else-is_of_rows-clause-gives c =
    cover_none c.args.store.now c.rows_diagram.new.store c.not.new.store c.args.values c.args.cover.now c.in-Ok.sum c.not.result (sym c.is_of_rows.ensures ∙ c.if-is_of_rows.false)
    c.in-Ok.ensures.gives c.not.ensures.makes

pub returns-else-is_of_rows-clause-counts : goal.returns-else-is_of_rows-clause-counts
returns-else-is_of_rows-clause-counts c u reads =
    let old = c.args.store.now in
    let mid = c.rows_diagram.new.store in
    let new = c.not.new.store in
    let values = c.args.values in
    let cover = c.args.cover.now in
    let first = c.in-Ok.ensures.gives in
    let sum : Function = function_of mid c.in-Ok.sum in
    let sum_within : IsWithin u sum =
    within_same u (λ v. some_row_fits (bits_in old values v) cover.inputs cover.rows) sum first.ok.same
    (rows_within u old values reads cover.inputs (λ s m. all_among (λ (k : ℕ). k < values.len) cover.inputs s c.requires.cover.inputs m) cover.rows) in
    let some = off_rows cover (sym c.is_of_rows.ensures ∙ c.if-is_of_rows.false) in
    counts_more u (rows_operations cover.rows + 1) (operations_of cover) old new c.not.result (omega (arith, some))
    (counts_then u (rows_operations cover.rows) 1 old mid new c.not.result (c.in-Ok.ensures.counts u reads).added
    (counts_made u mid new first.adds.sound.ends (not_of sum) c.not.result c.not.ensures.makes (within_not u sum sum_within)))
