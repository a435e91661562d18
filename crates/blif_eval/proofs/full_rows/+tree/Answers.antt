use Rattle.std.proofs.Common.{ℕ, ◌+◌, ◌<◌, List, [], Option, Some, Err, Ok, get_or, length, arith, subst, sym}
use Rattle.std.specs.Prelude.{IfSome}
use Rattle.bdd_core.specs.Store.{Diagrams, Gives}
use Rattle.bdd_core.specs.declared.handle.H.{H}
use Rattle.bdd_ops.proofs.CountingLaws.{counts_more, counts_then}
use Rattle.bdd_ops.specs.Counting.{Counts, IsSpanWithin}
use Rattle.blif_eval.proofs.CountLaws.{span_within}
use Rattle.blif_eval.proofs.FullLaws.{chosen_counts, chosen_gives, class_of, last_gives, none_gives, operations_next}
use Rattle.blif_eval.specs.FullRows.{IsNext, class_operations}
use Rattle.blif_eval.proofs.full_rows.+tree.Goals as goal

pub returns-in_default-clause-gives : goal.returns-in_default-clause-gives
returns-in_default-clause-gives t c =
    let d : Diagrams = c.args.store.now in
    let inputs : List ℕ = c.args.inputs.now in
    let rows : List (List ℕ) = c.args.rows.now in
    subst (λ (o : Option ℕ). Gives d d (class_of d c.args.values inputs rows o c.args.at) (Ok (record { 0 = 0 }))) (sym c.in_default.is)
    (none_gives d c.args.values inputs rows c.args.at c.sound.ensures.sound c.sound.ensures.within)

pub returns-then-at-inputs-clause-gives : goal.returns-then-at-inputs-clause-gives
returns-then-at-inputs-clause-gives t c =
    let old : Diagrams = c.args.store.now in
    let inputs : List ℕ = c.args.inputs.now in
    let rows : List (List ℕ) = c.args.rows.now in
    let at : ℕ = c.args.at in
    let place : ℕ = c.in-Some.place in
    let here : place < length rows = subst (λ (o : Option ℕ). IfSome o (λ (p : ℕ). p < length rows)) c.in-Some.is c.requires.class in
    subst (λ (o : Option ℕ). Gives old old (class_of old c.args.values inputs rows o at) (Ok (record { 0 = 1 }))) (sym c.in-Some.is)
    (last_gives old c.args.values inputs rows place at here c.if-at-inputs.true c.sound.ensures.sound c.sound.ensures.within)

pub returns-in-Err-clause-counts : goal.returns-in-Err-clause-counts
returns-in-Err-clause-counts t c u reads =
    let old : Diagrams = c.args.store.now in
    let inputs : List ℕ = c.args.inputs.now in
    let rows : List (List ℕ) = c.args.rows.now in
    let at : ℕ = c.args.at in
    let place : ℕ = c.in-Some.place in
    let here : place < length rows = subst (λ (o : Option ℕ). IfSome o (λ (p : ℕ). p < length rows)) c.in-Some.is c.requires.class in
    let most = c.requires.at in
    let test = c.if-at-inputs.false in
    let lt : at < length inputs = omega (arith, most, test) in
    let none : Option ℕ = c.next_class-zero.result in
    let one : Option ℕ = c.next_class-one.result in
    let is_none : IsNext rows (get_or rows place []) at 48 none = subst (λ (row : List ℕ). IsNext rows row at 48 none) c.row_at-like.ensures c.next_class-zero.ensures in
    let is_one : IsNext rows (get_or rows place []) at 49 one = subst (λ (row : List ℕ). IsNext rows row at 49 one) c.row_at-like.ensures c.next_class-one.ensures in
    let width : ℕ = length inputs in
    let low : ℕ = class_operations width rows none (at + 1) in
    let high : ℕ = class_operations width rows one (at + 1) in
    let all = operations_next inputs rows c.requires.rows at lt place (at + 1) none one (omega arith) here is_none is_one in
    subst (λ (o : Option ℕ). Counts {A = H} u (class_operations width rows o at) old c.tree.new.store (Err c.in-Err.spent)) (sym c.in-Some.is)
    (counts_more u low (class_operations width rows (Some place) at) old c.tree.new.store (Err c.in-Err.spent) (omega (arith, all)) (c.in-Err.ensures.counts u reads))

pub returns-in-Err-tree-clause-counts : goal.returns-in-Err-tree-clause-counts
returns-in-Err-tree-clause-counts t c u reads =
    let old : Diagrams = c.args.store.now in
    let inputs : List ℕ = c.args.inputs.now in
    let rows : List (List ℕ) = c.args.rows.now in
    let at : ℕ = c.args.at in
    let place : ℕ = c.in-Some.place in
    let here : place < length rows = subst (λ (o : Option ℕ). IfSome o (λ (p : ℕ). p < length rows)) c.in-Some.is c.requires.class in
    let most = c.requires.at in
    let test = c.if-at-inputs.false in
    let lt : at < length inputs = omega (arith, most, test) in
    let none : Option ℕ = c.next_class-zero.result in
    let one : Option ℕ = c.next_class-one.result in
    let is_none : IsNext rows (get_or rows place []) at 48 none = subst (λ (row : List ℕ). IsNext rows row at 48 none) c.row_at-like.ensures c.next_class-zero.ensures in
    let is_one : IsNext rows (get_or rows place []) at 49 one = subst (λ (row : List ℕ). IsNext rows row at 49 one) c.row_at-like.ensures c.next_class-one.ensures in
    let width : ℕ = length inputs in
    let low : ℕ = class_operations width rows none (at + 1) in
    let high : ℕ = class_operations width rows one (at + 1) in
    let all = operations_next inputs rows c.requires.rows at lt place (at + 1) none one (omega arith) here is_none is_one in
    let mid : Diagrams = c.tree.new.store in
    let new : Diagrams = c.tree-2.new.store in
    let now : IsSpanWithin u mid c.args.values =
    span_within u old mid (class_of old c.args.values inputs rows none (at + 1)) (Ok c.in-Ok.lo) c.args.values c.in-Ok.ensures.gives c.requires.live reads in
    subst (λ (o : Option ℕ). Counts {A = H} u (class_operations width rows o at) old new (Err c.in-Err-tree.spent)) (sym c.in-Some.is)
    (counts_more u (low + high) (class_operations width rows (Some place) at) old new (Err c.in-Err-tree.spent) (omega (arith, all))
    (counts_then u low high old mid new (Err c.in-Err-tree.spent) (c.in-Ok.ensures.counts u reads).added (c.in-Err-tree.ensures.counts u now)))

pub returns-clause-gives : goal.returns-clause-gives
returns-clause-gives t c =
    let old : Diagrams = c.args.store.now in
    let inputs : List ℕ = c.args.inputs.now in
    let rows : List (List ℕ) = c.args.rows.now in
    let at : ℕ = c.args.at in
    let place : ℕ = c.in-Some.place in
    let most = c.requires.at in
    let test = c.if-at-inputs.false in
    let lt : at < length inputs = omega (arith, most, test) in
    let none : Option ℕ = c.next_class-zero.result in
    let one : Option ℕ = c.next_class-one.result in
    let is_none : IsNext rows (get_or rows place []) at 48 none = subst (λ (row : List ℕ). IsNext rows row at 48 none) c.row_at-like.ensures c.next_class-zero.ensures in
    let is_one : IsNext rows (get_or rows place []) at 49 one = subst (λ (row : List ℕ). IsNext rows row at 49 one) c.row_at-like.ensures c.next_class-one.ensures in
    subst (λ (o : Option ℕ). Gives old c.ite.new.self (class_of old c.args.values inputs rows o at) c.ite.result) (sym c.in-Some.is)
    (chosen_gives old c.args.values inputs rows c.requires.live c.requires.inputs c.requires.rows place at (at + 1) lt (omega arith) none one is_none is_one c.tree.new.store c.in-Ok.lo
    c.in-Ok.ensures.gives c.tree-2.new.store c.in-Ok-tree.hi c.value_of-value.result c.in-Ok-tree.ensures.gives c.value_of-value.ensures c.ite.new.self c.ite.result c.ite.ensures.makes)

pub returns-clause-counts : goal.returns-clause-counts
returns-clause-counts t c u reads =
    let old : Diagrams = c.args.store.now in
    let inputs : List ℕ = c.args.inputs.now in
    let rows : List (List ℕ) = c.args.rows.now in
    let at : ℕ = c.args.at in
    let place : ℕ = c.in-Some.place in
    let here : place < length rows = subst (λ (o : Option ℕ). IfSome o (λ (p : ℕ). p < length rows)) c.in-Some.is c.requires.class in
    let most = c.requires.at in
    let test = c.if-at-inputs.false in
    let lt : at < length inputs = omega (arith, most, test) in
    let none : Option ℕ = c.next_class-zero.result in
    let one : Option ℕ = c.next_class-one.result in
    let is_none : IsNext rows (get_or rows place []) at 48 none = subst (λ (row : List ℕ). IsNext rows row at 48 none) c.row_at-like.ensures c.next_class-zero.ensures in
    let is_one : IsNext rows (get_or rows place []) at 49 one = subst (λ (row : List ℕ). IsNext rows row at 49 one) c.row_at-like.ensures c.next_class-one.ensures in
    let width : ℕ = length inputs in
    let low : ℕ = class_operations width rows none (at + 1) in
    let high : ℕ = class_operations width rows one (at + 1) in
    let all = operations_next inputs rows c.requires.rows at lt place (at + 1) none one (omega arith) here is_none is_one in
    let mid : Diagrams = c.tree.new.store in
    let late : Diagrams = c.tree-2.new.store in
    let new : Diagrams = c.ite.new.self in
    let now : IsSpanWithin u mid c.args.values =
    span_within u old mid (class_of old c.args.values inputs rows none (at + 1)) (Ok c.in-Ok.lo) c.args.values c.in-Ok.ensures.gives c.requires.live reads in
    let last =
    chosen_counts old c.args.values inputs rows c.requires.live c.requires.inputs c.requires.rows place at (at + 1) lt (omega arith) none one is_none is_one mid c.in-Ok.lo
    c.in-Ok.ensures.gives late c.in-Ok-tree.hi c.value_of-value.result c.in-Ok-tree.ensures.gives c.value_of-value.ensures u new c.ite.result c.sound.ensures.sound.ends reads c.ite.ensures.makes in
    subst (λ (o : Option ℕ). Counts {A = H} u (class_operations width rows o at) old new c.ite.result) (sym c.in-Some.is)
    (counts_more u (low + (high + 1)) (class_operations width rows (Some place) at) old new c.ite.result (omega (arith, all))
    (counts_then u low (high + 1) old mid new c.ite.result (c.in-Ok.ensures.counts u reads).added
    (counts_then u high 1 mid late new c.ite.result (c.in-Ok-tree.ensures.counts u now).added last)))
