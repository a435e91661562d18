use Rattle.std.proofs.Common.{subst, sym, ◌∙◌}
use Rattle.std.proofs.lemmas.Option.{none-some, same_Some}
use Rattle.std.proofs.lemmas.Result.{on_ok_weaker}
use Rattle.whole_circuits.proofs.EndCounts.{none_counted, one_counted}
use Rattle.whole_circuits.proofs.ZipLaws.{place_there}
use Rattle.whole_circuits.specs.Ends.{outputs_before}
use Rattle.whole_circuits.specs.WholeCells.{IsWholeCell}
use Rattle.whole_circuits.specs.declared.whole_cell.WholeCell.{WholeCell}
use Rattle.whole_circuits.proofs.ends.count_instance.Goals as goal

pub returns-then-not-is_marked-clause-grows : goal.returns-then-not-is_marked-clause-grows
returns-then-not-is_marked-clause-grows c cut blif facts phases is cells =
    let p = place_there cut c.args.unrolled.now c.args.whole.now is c.args.at c.requires.there in
    none_counted cut c.args.unrolled.now c.args.whole.now is blif facts c.args.at p.0 c.args.counts.now.items p.1 (sym c.if-not-is_marked.ensures)

pub returns-in-Some-clause-grows : goal.returns-in-Some-clause-grows
returns-in-Some-clause-grows c =
    on_ok_weaker c.count_whole.result
    (λ grown cut blif facts phases is cells.
    (let unrolled = c.args.unrolled.now in
    let whole = c.args.whole.now in
    let at = c.args.at in
    let mark = sym c.if-not-is_marked.ensures in
    let p = place_there cut unrolled whole is at c.requires.there in
    let found = cells.cells_are at c.place_at-place.result.now p.0 c.place_at-place.ensures p.1 (sym (is.marks at) ∙ mark) in
    let same = same_Some c.in-Some.own.now found.0 (c.in-Some.ensures found.0 found.1) in
    let own = subst (λ (x : WholeCell). IsWholeCell cut.top blif facts p.0.at.cell x) (sym same) found.2 in
    one_counted cut unrolled whole is blif facts at p.0 c.args.counts.now.items c.count_whole.new.counts.items p.1 mark (grown cut blif facts p.0 (outputs_before cut blif facts at) own found.3)))
    c.count_whole.ensures.counts

pub returns-in-None-clause-grows : goal.returns-in-None-clause-grows
returns-in-None-clause-grows c cut blif facts phases is cells =
    let unrolled = c.args.unrolled.now in
    let whole = c.args.whole.now in
    let at = c.args.at in
    let mark = sym c.if-not-is_marked.ensures in
    let p = place_there cut unrolled whole is at c.requires.there in
    let found = cells.cells_are at c.place_at-place.result.now p.0 c.place_at-place.ensures p.1 (sym (is.marks at) ∙ mark) in
    absurd (none-some found.0 (c.in-None.ensures found.0 found.1))
