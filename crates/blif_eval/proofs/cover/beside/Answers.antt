use Rattle.std.proofs.Common.{ℕ, ◌+◌, ◌<◌, List, get_or, Err, Ok, arith}
use Rattle.std.specs.Prelude.{set}
use Rattle.bdd_core.specs.Diagram.{Function, IsWithin}
use Rattle.bdd_core.specs.Store.{function_of}
use Rattle.bdd_ops.proofs.CountingLaws.{counts_more, counts_then}
use Rattle.bdd_ops.proofs.WithinLaws.{within_same}
use Rattle.blif_eval.proofs.CountLaws.{row_within, value_within}
use Rattle.blif_eval.proofs.SelectLaws.{beside_row}
use Rattle.blif_eval.specs.Settled.{bits_in}
use Rattle.vrt_model.proofs.Members.{all_among}
use Rattle.vrt_model.specs.Budget.{literals_in}
use Rattle.vrt_model.specs.Covers.{row_fits}
use Rattle.blif_eval.proofs.cover.beside.Goals as goal

pub returns-in-Err-clause-counts : goal.returns-in-Err-clause-counts
returns-in-Err-clause-counts c u reads one =
    let row = c.args.row.now in
    counts_more u (literals_in row) (literals_in row + 1) c.args.store.now c.row_diagram.new.store (Err c.in-Err.spent) (omega arith) (c.in-Err.ensures.counts u reads)

pub returns-clause-gives : goal.returns-clause-gives
returns-clause-gives c =
    let inputs = c.args.inputs.now in
    let at = c.args.at in
    beside_row c.args.store.now c.row_diagram.new.store c.choose.new.store c.args.values inputs (set c.args.row.now at 45) (get_or inputs at 0) c.args.asks c.args.one c.in-Ok.other
    c.value_of-value.result c.choose.result c.requires.live (c.requires.inputs at 0 c.requires.at) c.requires.one c.value_of-value.ensures c.in-Ok.ensures.gives c.choose.ensures.gives

pub returns-clause-counts : goal.returns-clause-counts
returns-clause-counts c u reads one =
    let old = c.args.store.now in
    let mid = c.row_diagram.new.store in
    let new = c.choose.new.store in
    let values = c.args.values in
    let inputs = c.args.inputs.now in
    let row = c.args.row.now in
    let at = c.args.at in
    let left : List ℕ = set row at 45 in
    let first = c.in-Ok.ensures.gives in
    let rest : Function = λ v. row_fits (bits_in old values v) inputs left in
    let value : IsWithin u (function_of mid c.value_of-value.result) =
    value_within u old mid rest (Ok c.in-Ok.other) values (get_or inputs at 0) c.value_of-value.result first c.requires.live (c.requires.inputs at 0 c.requires.at) c.value_of-value.ensures reads in
    let here : IsWithin u (function_of mid c.args.one) =
    within_same u (function_of old c.args.one) (function_of mid c.args.one) (first.adds.kept c.args.one.0 c.requires.one) one in
    let other : IsWithin u (function_of mid c.in-Ok.other) =
    within_same u rest (function_of mid c.in-Ok.other) first.ok.same
    (row_within u old values reads inputs (λ s m. all_among (λ (k : ℕ). k < values.len) inputs s c.requires.inputs m) left) in
    counts_then u (literals_in row) 1 old mid new c.choose.result (c.in-Ok.ensures.counts u reads).added (c.choose.ensures.counts u value here other)
