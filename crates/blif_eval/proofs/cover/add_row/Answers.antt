use Rattle.std.proofs.Common.{ℕ, ◌+◌, ◌<◌, List, Err, Ok, arith, length, refl, subst}
use Rattle.std.proofs.lemmas.List.{set_past}
use Rattle.bdd_core.specs.Diagram.{Function, IsWithin}
use Rattle.bdd_core.specs.Store.{Gives, function_of}
use Rattle.bdd_ops.proofs.CountingLaws.{counts_made, counts_more, counts_then}
use Rattle.bdd_ops.proofs.WithinLaws.{within_or, within_same}
use Rattle.bdd_ops.specs.Ops.{or_of}
use Rattle.blif_eval.proofs.CountLaws.{row_within}
use Rattle.bdd_core.proofs.Frames.{gives_made}
use Rattle.blif_eval.proofs.RowLaws.{added_row}
use Rattle.blif_eval.specs.Settled.{bits_in}
use Rattle.vrt_model.proofs.Members.{all_among}
use Rattle.vrt_model.specs.Budget.{literals_in}
use Rattle.vrt_model.specs.Covers.{row_fits}
use Rattle.blif_eval.proofs.cover.add_row.Goals as goal

pub returns-in-Err-clause-counts : goal.returns-in-Err-clause-counts
returns-in-Err-clause-counts c u reads sum =
    let row = c.args.row.now in
    counts_more u (literals_in row) (literals_in row + 1) c.args.store.now c.row_diagram.new.store (Err c.in-Err.spent) (omega arith) (c.in-Err.ensures.counts u reads)

pub returns-clause-gives : goal.returns-clause-gives
returns-clause-gives c =
    let whole : Gives c.args.store.now c.row_diagram.new.store (λ v. row_fits (bits_in c.args.store.now c.args.values v) c.args.inputs.now c.args.row.now) (Ok c.in-Ok.one) =
    subst (λ (row : List ℕ). Gives c.args.store.now c.row_diagram.new.store (λ v. row_fits (bits_in c.args.store.now c.args.values v) c.args.inputs.now row) (Ok c.in-Ok.one))
    (set_past c.args.row.now (length c.args.row.now) 45 (omega arith)) c.in-Ok.ensures.gives in
    let both : Function = or_of (function_of c.row_diagram.new.store c.args.sum) (function_of c.row_diagram.new.store c.in-Ok.one) in
    added_row c.args.store.now c.row_diagram.new.store c.or.new.store c.args.values c.args.inputs.now c.args.row.now c.args.sum c.in-Ok.one c.or.result c.requires.sum whole
    (gives_made c.row_diagram.new.store c.or.new.store both both c.or.result (λ v. refl) c.or.ensures.makes)

pub returns-clause-counts : goal.returns-clause-counts
returns-clause-counts c u reads sum =
    let old = c.args.store.now in
    let mid = c.row_diagram.new.store in
    let new = c.or.new.store in
    let values = c.args.values in
    let inputs = c.args.inputs.now in
    let row = c.args.row.now in
    let first : Gives old mid (λ v. row_fits (bits_in old values v) inputs row) (Ok c.in-Ok.one) =
    subst (λ (xs : List ℕ). Gives old mid (λ v. row_fits (bits_in old values v) inputs xs) (Ok c.in-Ok.one)) (set_past row (length row) 45 (omega arith)) c.in-Ok.ensures.gives in
    let before : Function = function_of mid c.args.sum in
    let one : Function = function_of mid c.in-Ok.one in
    let sum_within : IsWithin u before = within_same u (function_of old c.args.sum) before (first.adds.kept c.args.sum.0 c.requires.sum) sum in
    let one_within : IsWithin u one =
    within_same u (λ v. row_fits (bits_in old values v) inputs row) one first.ok.same
    (row_within u old values reads inputs (λ s m. all_among (λ (k : ℕ). k < values.len) inputs s c.requires.inputs m) row) in
    counts_then u (literals_in row) 1 old mid new c.or.result (c.in-Ok.ensures.counts u reads).added
    (counts_made u mid new first.adds.sound.ends (or_of before one) c.or.result c.or.ensures.makes (within_or u before one sum_within one_within))
