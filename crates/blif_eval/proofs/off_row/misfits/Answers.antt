use Rattle.std.proofs.Common.{◌≡◌, ℕ, arith, ◌+◌, ◌<◌, ◌-◌, List, drop, get_or, length, Err, Ok, ap, refl, subst}
use Rattle.std.specs.Prelude.{◌||◌, not}
use Rattle.bdd_core.specs.Diagram.{Function, IsWithin}
use Rattle.bdd_core.specs.Store.{Gives, function_of}
use Rattle.bdd_ops.proofs.CountingLaws.{counted_more, counted_none, counted_then, counts_more, counts_ok, counts_then}
use Rattle.bdd_ops.proofs.WithinLaws.{within_same}
use Rattle.blif_eval.proofs.CountLaws.{literals_last, literals_next, literals_within, misses_within, value_within}
use Rattle.bdd_core.proofs.Frames.{gives_refused}
use Rattle.blif_eval.proofs.RowLaws.{misses_last, misses_next, row_misses}
use Rattle.blif_eval.specs.Settled.{bits_in}
use Rattle.blif_eval.specs.Operations.{literal_count}
use Rattle.vrt_model.proofs.Members.{all_among}
use Rattle.vrt_model.specs.Budget.{literals_in}
use Rattle.vrt_model.specs.Covers.{byte_fits, row_fits}
use Rattle.blif_eval.proofs.off_row.misfits.Goals as goal

pub back-init : goal.back-init
back-init c =
    let old = c.args.store.now in
    let inputs = c.args.inputs.now in
    let row : List ℕ = c.args.row.now in
    record {
      most = omega arith;
      gives = misses_last old c.args.values inputs row (length inputs) refl c.sound.ensures.sound c.sound.ensures.within;
      counted = λ u reads. counted_more u 0 (literals_in (drop (length inputs) row)) old old (omega arith) (counted_none u old);
    }

pub returns-in-Err-clause-gives : goal.returns-in-Err-clause-gives
returns-in-Err-clause-gives c =
    let row : List ℕ = c.args.row.now in
    let one : Function = λ v. not (byte_fits c.byte_at-byte.result (function_of c.back.store c.value_of-value.result v)) || function_of c.back.store c.back.rest v in
    gives_refused c.args.store.now c.back.store c.misfit.new.store (row_misses c.args.store.now c.args.values c.args.inputs.now row c.back.at) one
    (λ v. not (row_fits (bits_in c.args.store.now c.args.values v) c.args.inputs.now row)) c.back.rest c.in-Err.spent c.back.invariant.gives c.in-Err.ensures.gives

pub returns-in-Err-clause-counts : goal.returns-in-Err-clause-counts
returns-in-Err-clause-counts c u reads =
    let old = c.args.store.now in
    let mid = c.back.store in
    let new = c.misfit.new.store in
    let values = c.args.values in
    let inputs = c.args.inputs.now in
    let row : List ℕ = c.args.row.now in
    let byte = c.byte_at-byte.result in
    let at : ℕ = c.back.at - 1 in
    let i = c.back.invariant in
    let most = i.most in
    let width = c.requires.width in
    let lt : at < length inputs = omega (arith, most) in
    let value : IsWithin u (function_of mid c.value_of-value.result) =
    value_within u old mid _ (Ok c.back.rest) values (get_or inputs at 0) c.value_of-value.result i.gives c.requires.live (c.requires.inputs at 0 lt) c.value_of-value.ensures reads in
    let rest : IsWithin u (function_of mid c.back.rest) =
    within_same u (row_misses old values inputs row c.back.at) (function_of mid c.back.rest) i.gives.ok.same
    (misses_within u old values reads inputs (λ s m. all_among (λ (k : ℕ). k < values.len) inputs s c.requires.inputs m) row c.back.at) in
    let next = literals_next row at (omega (arith, lt, width)) in
    let asked : literal_count byte ≡ literal_count (get_or row at 0) = ap (λ (b : ℕ). literal_count b) c.byte_at-byte.ensures in
    let all = literals_within row at in
    let before : literals_in (drop (at + 1) row) ≡ literals_in (drop c.back.at row) = literals_last row (at + 1) c.back.at (omega arith) in
    counts_more u (literals_in (drop c.back.at row) + literal_count byte) (literals_in c.args.row.now) old new (Err c.in-Err.spent) (omega (arith, next, asked, all, before))
    (counts_then u (literals_in (drop c.back.at row)) (literal_count byte) old mid new (Err c.in-Err.spent) (i.counted u reads) (c.in-Err.ensures.counts u value rest))

pub back-preserved : goal.back-preserved
back-preserved c =
    let old = c.args.store.now in
    let mid = c.back.store in
    let new = c.misfit.new.store in
    let values = c.args.values in
    let inputs = c.args.inputs.now in
    let row : List ℕ = c.args.row.now in
    let byte = c.byte_at-byte.result in
    let at : ℕ = c.back.at - 1 in
    let i = c.back.invariant in
    let most = i.most in
    let width = c.requires.width in
    let lt : at < length inputs = omega (arith, most) in
    let turn : Gives mid new (λ v. not (byte_fits (get_or row at 0) (function_of mid c.value_of-value.result v)) || function_of mid c.back.rest v) (Ok c.in-Ok.rest) =
    subst (λ (b : ℕ). Gives mid new (λ v. not (byte_fits b (function_of mid c.value_of-value.result v)) || function_of mid c.back.rest v) (Ok c.in-Ok.rest)) c.byte_at-byte.ensures c.in-Ok.ensures.gives in
    record {
      most = omega (arith, most);
      gives = misses_next old mid new values inputs row c.back.at at c.value_of-value.result c.back.rest (Ok c.in-Ok.rest)
          (omega arith) c.requires.live lt (omega (arith, lt, width)) (c.requires.inputs at 0 lt) c.value_of-value.ensures i.gives turn;
      counted = λ u reads.
          let value : IsWithin u (function_of mid c.value_of-value.result) =
          value_within u old mid _ (Ok c.back.rest) values (get_or inputs at 0) c.value_of-value.result i.gives c.requires.live (c.requires.inputs at 0 lt) c.value_of-value.ensures reads in
          let rest : IsWithin u (function_of mid c.back.rest) =
          within_same u (row_misses old values inputs row c.back.at) (function_of mid c.back.rest) i.gives.ok.same
          (misses_within u old values reads inputs (λ s m. all_among (λ (k : ℕ). k < values.len) inputs s c.requires.inputs m) row c.back.at) in
          let next = literals_next row at (omega (arith, lt, width)) in
          let asked : literal_count byte ≡ literal_count (get_or row at 0) = ap (λ (b : ℕ). literal_count b) c.byte_at-byte.ensures in
          let before : literals_in (drop (at + 1) row) ≡ literals_in (drop c.back.at row) = literals_last row (at + 1) c.back.at (omega arith) in
          counted_more u (literals_in (drop c.back.at row) + literal_count byte) (literals_in (drop at row)) old new (omega (arith, next, asked, before))
          (counted_then u (literals_in (drop c.back.at row)) (literal_count byte) old mid new (i.counted u reads) (c.in-Ok.ensures.counts u value rest).added);
    }

pub returns-clause-counts : goal.returns-clause-counts
returns-clause-counts c u reads =
    let row : List ℕ = c.args.row.now in
    let all = literals_within row c.back.at in
    counts_ok u (literals_in c.args.row.now) c.args.store.now c.back.store c.back.rest
    (counted_more u (literals_in (drop c.back.at row)) (literals_in c.args.row.now) c.args.store.now c.back.store (omega (arith, all)) (c.back.invariant.counted u reads))
