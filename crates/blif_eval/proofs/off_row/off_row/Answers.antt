use Rattle.std.proofs.Common.{◌≡◌, ◌≤◌, ℕ, List, [], arith, ap, get_or, subst, sym, ◌∙◌}
use Rattle.std.proofs.lemmas.List.Sums.{sum_by-drop_more}
use Rattle.bdd_ops.proofs.CountingLaws.{counts_more}
use Rattle.blif_eval.specs.Operations.{operations_of}
use Rattle.vrt_model.specs.Budget.{literals_in}
use Rattle.blif_eval.proofs.off_row.off_row.Goals as goal

pub returns-clause-counts : goal.returns-clause-counts
returns-clause-counts c u reads =
    let cover = c.args.cover.now in
    let rows : List (List ℕ) = cover.rows in
    let one = c.requires.off.1 in
    let row : List ℕ = get_or rows 0 [] in
    let same : c.row_at.result.now ≡ row = c.row_at.ensures ∙ ap (λ (xs : List (List ℕ)). get_or xs 0 []) c.as_slice-2.ensures in
    let all = sum_by-drop_more literals_in rows 0 [] (omega (arith, one)) in
    let fits : literals_in row ≤ operations_of cover = omega (arith, all) in
    counts_more u (literals_in c.row_at.result.now) (operations_of cover) c.args.store.now c.row_misfits.new.store c.row_misfits.result (subst (λ (r : List ℕ). literals_in r ≤ operations_of cover) (sym same) fits) (c.row_misfits.ensures.counts u reads)
