use Rattle.std.proofs.Common.{ℕ, ◌+◌, ◌<◌, List, Err, Ok, arith}
use Rattle.std.specs.Prelude.{set}
use Rattle.bdd_core.proofs.Frames.{filled_added}
use Rattle.bdd_core.specs.Diagram.{Function, IsWithin}
use Rattle.bdd_core.specs.Store.{function_of}
use Rattle.bdd_ops.proofs.CountingLaws.{counts_more, counts_then}
use Rattle.bdd_ops.proofs.WithinLaws.{within_same}
use Rattle.blif_eval.proofs.CountLaws.{row_within, span_within}
use Rattle.blif_eval.proofs.SelectLaws.{selected_rows}
use Rattle.blif_eval.specs.Settled.{bits_in}
use Rattle.vrt_model.proofs.Members.{all_among}
use Rattle.vrt_model.specs.Budget.{literals_in}
use Rattle.vrt_model.specs.Covers.{row_fits}
use Rattle.blif_eval.proofs.cover.select.Goals as goal

pub beside-requires-clause-live : goal.beside-requires-clause-live
beside-requires-clause-live c = filled_added c.args.values c.args.store.now c.row_diagram.new.store c.in-Ok.ensures.gives.adds c.requires.live

pub returns-in-Err-clause-counts : goal.returns-in-Err-clause-counts
returns-in-Err-clause-counts c u reads =
    let first = c.args.first.now in
    let second = c.args.second.now in
    counts_more u (literals_in first) (literals_in first + (literals_in second + 1)) c.args.store.now c.row_diagram.new.store (Err c.in-Err.spent) (omega arith) (c.in-Err.ensures.counts u reads)

pub returns-clause-gives : goal.returns-clause-gives
returns-clause-gives c =
    selected_rows c.args.store.now c.row_diagram.new.store c.beside.new.store c.args.values c.args.inputs.now c.args.first.now c.args.second.now c.args.at c.asks_one-asks.result c.in-Ok.one
    c.beside.result c.requires.live c.requires.inputs c.requires.at c.requires.first c.requires.second c.requires.opposite c.asks_one-asks.ensures c.in-Ok.ensures.gives c.beside.ensures.gives

pub returns-clause-counts : goal.returns-clause-counts
returns-clause-counts c u reads =
    let old = c.args.store.now in
    let mid = c.row_diagram.new.store in
    let new = c.beside.new.store in
    let values = c.args.values in
    let inputs = c.args.inputs.now in
    let first = c.args.first.now in
    let second = c.args.second.now in
    let left : List ℕ = set first c.args.at 45 in
    let made = c.in-Ok.ensures.gives in
    let rest : Function = λ v. row_fits (bits_in old values v) inputs left in
    let one : IsWithin u (function_of mid c.in-Ok.one) =
    within_same u rest (function_of mid c.in-Ok.one) made.ok.same
    (row_within u old values reads inputs (λ s m. all_among (λ (k : ℕ). k < values.len) inputs s c.requires.inputs m) left) in
    counts_then u (literals_in first) (literals_in second + 1) old mid new c.beside.result (c.in-Ok.ensures.counts u reads).added
    (c.beside.ensures.counts u (span_within u old mid rest (Ok c.in-Ok.one) values made c.requires.live reads) one)
