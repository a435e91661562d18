use Rattle.std.proofs.Common.{ap, subst, sym, ◌∙◌}
use Rattle.std.proofs.lemmas.Option.{none-some, same_Some}
use Rattle.checked_chain.proofs.ChoiceLaws.{numbered_at}
use Rattle.vrt_model.proofs.Filtered.{among_kept}
use Rattle.vrt_model.specs.Cut.{NumberedPlace, is_whole, numbered_places}
use Rattle.whole_circuits.proofs.ZipLaws.{none_more, one_more, place_there}
use Rattle.whole_circuits.specs.WholeCells.{IsWholeCell, wholes_before}
use Rattle.whole_circuits.specs.declared.whole_cell.WholeCell.{WholeCell}
use Rattle.whole_circuits.proofs.wholes.add_place.Goals as goal

pub returns-then-not-is_marked : goal.returns-then-not-is_marked
returns-then-not-is_marked c cut blif facts d has is cells =
    none_more cut c.args.unrolled.now c.args.whole.now is blif facts c.args.at c.args.wholes.now c.requires.there (sym c.if-not-is_marked.ensures)

pub add_whole-requires : goal.add_whole-requires
add_whole-requires c = c.requires.small c.place_at-place.result.now (c.args.at, c.place_at-place.ensures)

pub returns-in_ok-add_whole-in-Some : goal.returns-in_ok-add_whole-in-Some
returns-in_ok-add_whole-in-Some c cut blif facts d has is cells =
    let unrolled = c.args.unrolled.now in
    let whole = c.args.whole.now in
    let at = c.args.at in
    let mark = sym c.if-not-is_marked.ensures in
    let p = place_there cut unrolled whole is at c.requires.there in
    let found = cells.cells_are at c.place_at-place.result.now p.0 c.place_at-place.ensures p.1 (sym (is.marks at) ∙ mark) in
    let same = same_Some c.in-Some.own.now found.0 (c.in-Some.ensures found.0 found.1) in
    let own = subst (λ (x : WholeCell). IsWholeCell cut.top blif facts p.0.at.cell x) (sym same) found.2 in
    let number = numbered_at cut.top at p.0 p.1 in
    let on = among_kept (λ (x : NumberedPlace). is_whole cut.choice x.number) (numbered_places cut.top) p.0 (at, p.1) (ap (is_whole cut.choice) number.0 ∙ sym (is.marks at) ∙ mark) in
    one_more cut unrolled whole is blif facts at p.0 c.args.wholes.now c.add_whole.new.wholes p.1 mark
    (λ all. c.in_ok-add_whole-in-Some.ensures cut blif facts d p.0 (wholes_before cut at) cells.phases_are has on own found.3 all)

pub returns-in-None : goal.returns-in-None
returns-in-None c cut blif facts d has is cells =
    let unrolled = c.args.unrolled.now in
    let whole = c.args.whole.now in
    let at = c.args.at in
    let mark = sym c.if-not-is_marked.ensures in
    let p = place_there cut unrolled whole is at c.requires.there in
    let found = cells.cells_are at c.place_at-place.result.now p.0 c.place_at-place.ensures p.1 (sym (is.marks at) ∙ mark) in
    absurd (none-some found.0 (c.in-None.ensures found.0 found.1))
