use Rattle.std.proofs.Common.{◌≤◌, ℕ, List, Some, length, ap₂, subst, sym}
use Rattle.bdd_ops.proofs.CountingLaws.{counts_more}
use Rattle.blif_eval.proofs.FullLaws.{full_rows, operations_all}
use Rattle.blif_eval.specs.FullRows.{class_operations}
use Rattle.blif_eval.specs.Operations.{rows_operations}
use Rattle.blif_eval.proofs.full_rows.tree_diagram.Goals as goal

pub returns-clause-counts : goal.returns-clause-counts
returns-clause-counts c u reads =
    let inputs : List ℕ = c.args.cover.now.inputs in
    let rows : List (List ℕ) = c.args.cover.now.rows in
    let here : ℕ = class_operations (length c.as_slice.result.now) c.as_slice-2.result.now (Some 0) 0 in
    let all : class_operations (length inputs) rows (Some 0) 0 ≤ rows_operations rows =
    operations_all (length inputs) rows (full_rows (length inputs) rows c.requires.cover.rows c.requires.full) in
    let same =
    ap₂ {C = ℕ} (λ (xs : List ℕ) (ys : List (List ℕ)). class_operations (length xs) ys (Some 0) 0) c.as_slice.ensures c.as_slice-2.ensures in
    counts_more u here (rows_operations rows) c.args.store.now c.tree.new.store c.tree.result (subst (λ (k : ℕ). k ≤ rows_operations rows) (sym same) all) (c.tree.ensures.counts u reads)
