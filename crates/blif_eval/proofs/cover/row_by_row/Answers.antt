use Rattle.std.proofs.Common.{arith, ◌≡◌, ◌+◌, ◌<◌, ◌||◌, ℕ, List, [], get_or, take, length, Err, Ok, ap, subst, sym, ◌∙◌}
use Rattle.bdd_core.specs.Diagram.{Function, IsWithin}
use Rattle.bdd_core.specs.Store.{function_of, Gives}
use Rattle.bdd_core.specs.declared.handle.H.{H}
use Rattle.bdd_ops.proofs.CountingLaws.{counted_more, counted_none, counted_then, counts_more, counts_ok, counts_then}
use Rattle.bdd_ops.proofs.WithinLaws.{within_same}
use Rattle.bdd_ops.specs.Counting.{Counts, IsSpanWithin}
use Rattle.std.proofs.lemmas.Option.{get_or_from_slice_get}
use Rattle.vrt_model.proofs.Lists.{item_at}
use Rattle.blif_eval.proofs.CountLaws.{rows_more, rows_take, rows_within, span_within}
use Rattle.bdd_core.proofs.Frames.{filled_added, gives_refused}
use Rattle.blif_eval.proofs.RowLaws.{rows_next, rows_none, rows_upto}
use Rattle.blif_eval.specs.Settled.{bits_in}
use Rattle.blif_eval.specs.Operations.{rows_operations}
use Rattle.vrt_model.proofs.Members.{all_among}
use Rattle.vrt_model.specs.Budget.{literals_in}
use Rattle.vrt_model.specs.Covers.{row_fits, some_row_fits}
use Rattle.blif_eval.proofs.cover.row_by_row.Goals as goal

pub loop-row-init : goal.loop-row-init
loop-row-init c = record {
  gives = rows_none c.args.store.now c.args.values c.args.cover.now.inputs c.args.cover.now.rows c.sound.ensures.sound c.sound.ensures.within;
  counted = λ u reads. counted_none u c.args.store.now;
}

pub add_row-requires-clause-live : goal.add_row-requires-clause-live
add_row-requires-clause-live c =
    filled_added c.args.values c.args.store.now c.loop-row.store c.loop-row.invariant.gives.adds c.requires.live

pub returns-in-Err-clause-gives : goal.returns-in-Err-clause-gives
returns-in-Err-clause-gives c =
    let one : Function = λ v. function_of c.loop-row.store c.loop-row.sum v || row_fits (bits_in c.loop-row.store c.args.values v) c.as_slice.result.now c.as_bytes.result.now in
    gives_refused c.args.store.now c.loop-row.store c.add_row.new.store
    (rows_upto c.args.store.now c.args.values c.args.cover.now.inputs c.args.cover.now.rows c.loop-row.row-index) one
    (λ v. some_row_fits (bits_in c.args.store.now c.args.values v) c.args.cover.now.inputs c.args.cover.now.rows) c.loop-row.sum c.in-Err.spent c.loop-row.invariant.gives c.in-Err.ensures.gives

pub returns-in-Err-clause-counts : goal.returns-in-Err-clause-counts
returns-in-Err-clause-counts c u reads =
    let old = c.args.store.now in
    let mid = c.loop-row.store in
    let new = c.add_row.new.store in
    let values = c.args.values in
    let inputs = c.args.cover.now.inputs in
    let rows = c.args.cover.now.rows in
    let k = c.loop-row.row-index in
    let i = c.loop-row.invariant in
    let same_rows : c.as_slice-row-items.result.now ≡ rows = c.as_slice-row-items.ensures in
    let count = ap (λ (xs : List (List ℕ)). length xs) same_rows in
    let lt : k < length rows = (let test = c.loop-row-test.true in omega (arith, count, test)) in
    let row_is : c.as_bytes.result.now ≡ get_or rows k [] =
    c.as_bytes.ensures ∙ sym (get_or_from_slice_get rows k c.row-item.result [] (item_at rows c.as_slice-row-items.result.now k c.row-item.result same_rows c.loop-row-test.true c.row-item.is)) in
    let sum : IsWithin u (function_of mid c.loop-row.sum) =
    within_same u (rows_upto old values inputs rows k) (function_of mid c.loop-row.sum) i.gives.ok.same
    (rows_within u old values reads inputs (λ s m. all_among (λ (x : ℕ). x < values.len) inputs s c.requires.cover.inputs m) (take k rows)) in
    let now : IsSpanWithin u mid values = span_within u old mid (rows_upto old values inputs rows k) (Ok c.loop-row.sum) values i.gives c.requires.live reads in
    let turn : Counts {A = H} u (literals_in (get_or rows k []) + 1) mid new (Err c.in-Err.spent) =
    subst (λ (row : List ℕ). Counts {A = H} u (literals_in row + 1) mid new (Err c.in-Err.spent)) row_is (c.in-Err.ensures.counts u now sum) in
    let more = rows_more rows k lt in
    let all = rows_take rows (k + 1) in
    counts_more u (rows_operations (take k rows) + (literals_in (get_or rows k []) + 1)) (rows_operations rows) old new (Err c.in-Err.spent) (omega (arith, more, all))
    (counts_then u (rows_operations (take k rows)) (literals_in (get_or rows k []) + 1) old mid new (Err c.in-Err.spent) (i.counted u reads) turn)

pub loop-row-preserved : goal.loop-row-preserved
loop-row-preserved c =
    let old = c.args.store.now in
    let mid = c.loop-row.store in
    let new = c.add_row.new.store in
    let values = c.args.values in
    let inputs = c.args.cover.now.inputs in
    let rows = c.args.cover.now.rows in
    let k = c.loop-row.row-index in
    let i = c.loop-row.invariant in
    let same_rows : c.as_slice-row-items.result.now ≡ rows = c.as_slice-row-items.ensures in
    let count = ap (λ (xs : List (List ℕ)). length xs) same_rows in
    let lt : k < length rows = (let test = c.loop-row-test.true in omega (arith, count, test)) in
    let row_is : c.as_bytes.result.now ≡ get_or rows k [] =
    c.as_bytes.ensures
    ∙ sym (get_or_from_slice_get rows k c.row-item.result [] (item_at rows c.as_slice-row-items.result.now k c.row-item.result same_rows c.loop-row-test.true c.row-item.is)) in
    let P : List ℕ → List ℕ → Type 0 =
    λ ins row. Gives mid new (λ v. function_of mid c.loop-row.sum v || row_fits (bits_in mid values v) ins row) (Ok c.in-Ok.sum) in
    let turn : P inputs (get_or rows k []) =
    subst (λ (row : List ℕ). P inputs row) row_is (subst (λ (ins : List ℕ). P ins c.as_bytes.result.now) c.as_slice.ensures c.in-Ok.ensures.gives) in
    record {
      gives = rows_next old mid new values inputs rows k c.loop-row.sum (Ok c.in-Ok.sum) c.requires.live c.requires.cover.inputs lt i.gives turn;
      counted = λ u reads.
          let sum : IsWithin u (function_of mid c.loop-row.sum) =
          within_same u (rows_upto old values inputs rows k) (function_of mid c.loop-row.sum) i.gives.ok.same
          (rows_within u old values reads inputs (λ s m. all_among (λ (x : ℕ). x < values.len) inputs s c.requires.cover.inputs m) (take k rows)) in
          let now : IsSpanWithin u mid values = span_within u old mid (rows_upto old values inputs rows k) (Ok c.loop-row.sum) values i.gives c.requires.live reads in
          let one : Counts u (literals_in (get_or rows k []) + 1) mid new (Ok c.in-Ok.sum) =
          subst (λ (row : List ℕ). Counts u (literals_in row + 1) mid new (Ok c.in-Ok.sum)) row_is (c.in-Ok.ensures.counts u now sum) in
          let more = rows_more rows k lt in
          counted_more u (rows_operations (take k rows) + (literals_in (get_or rows k []) + 1)) (rows_operations (take (k + 1) rows)) old new (omega (arith, more))
          (counted_then u (rows_operations (take k rows)) (literals_in (get_or rows k []) + 1) old mid new (i.counted u reads) one.added);
    }

pub returns-clause-counts : goal.returns-clause-counts
returns-clause-counts c u reads =
    let rows = c.args.cover.now.rows in
    let k = c.loop-row.row-index in
    let all = rows_take rows k in
    counts_ok u (rows_operations rows) c.args.store.now c.loop-row.store c.loop-row.sum
    (counted_more u (rows_operations (take k rows)) (rows_operations rows) c.args.store.now c.loop-row.store (omega (arith, all)) (c.loop-row.invariant.counted u reads))
