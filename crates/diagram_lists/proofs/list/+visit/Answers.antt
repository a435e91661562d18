use Rattle.std.proofs.Common.{◌<◌, ◌≤◌, length, sym, ap, ◌∙◌, arith}
use Rattle.std.proofs.lemmas.List.{get_or_read}
use Rattle.std.proofs.lemmas.Result.{on_ok_weaker}
use Rattle.bdd_core.specs.declared.handle.H.{H}
use Rattle.diagram_lists.proofs.VisitLaws.{listed_end, listed_more, listed_there}
use Rattle.diagram_lists.proofs.list.+visit.Goals as goal

pub returns-in_default : goal.returns-in_default
returns-in_default t c =
    let low : c.args.f.0 < 2 = grind (arith, c.in_default.ensures.end) in
    listed_end c.args.store.now c.sound.ensures.sound c.args.f c.args.list.now c.requires.numbered low

pub returns-then-index-ne0 : goal.returns-then-index-ne0
returns-then-index-ne0 t c =
    let high : 2 ≤ c.args.f.0 = grind (arith, c.in-Some.ensures.end) in
    let inside : c.args.f.0 < length c.args.list.now.numbers.items = omega (arith, c.requires.live, c.requires.numbered.places) in
    let read = get_or_read c.args.list.now.numbers.items _ _ inside c.index.ensures 0 in
    listed_there c.args.store.now c.sound.ensures.sound c.args.f c.args.list.now c.requires.numbered high c.requires.live (λ e. c.if-index-ne0.true (read ∙ e))

pub returns : goal.returns
returns t c =
    let high : 2 ≤ c.args.f.0 = grind (arith, c.in-Some.ensures.end) in
    let inside : c.args.f.0 < length c.args.list.now.numbers.items = omega (arith, c.requires.live, c.requires.numbered.places) in
    let read = get_or_read c.args.list.now.numbers.items _ _ inside c.index.ensures 0 in
    let lo : H = record { 0 = c.in-Some.n.lo } in
    let hi : H = record { 0 = c.in-Some.n.hi } in
    on_ok_weaker c.add.result
    (listed_more c.args.store.now c.sound.ensures.sound c.args.f c.args.list.now c.requires.numbered high c.requires.live (sym read ∙ c.if-index-ne0.false) lo hi
    (ap (λ n. n.lo) c.in-Some.ensures.node) (ap (λ n. n.hi) c.in-Some.ensures.node) c.visit.new.list c.visit-2.new.list c.in_ok-visit.ensures c.in_ok-visit-2.ensures
    c.add.new.list)
    c.add.ensures
