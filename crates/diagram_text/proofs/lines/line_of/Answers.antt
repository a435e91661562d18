use Rattle.std.proofs.Common.{◌<◌, ap, ◌∙◌, arith}
use Rattle.diagram_lists.specs.Listed.{number_at}
use Rattle.diagram_text.proofs.LineLaws.{same_line}
use Rattle.diagram_text.proofs.lines.line_of.Goals as goal

pub number_of-requires : goal.number_of-requires
number_of-requires c =
    let below = c.in-Some.ensures.proper.lo_below in
    let inside = c.requires.inner.1 in
    let places = c.requires.places in
    omega (arith, below, inside, places)

pub number_of-requires-in-Some : goal.number_of-requires-in-Some
number_of-requires-in-Some c =
    let below = c.in-Some.ensures.proper.hi_below in
    let inside = c.requires.inner.1 in
    let places = c.requires.places in
    omega (arith, below, inside, places)

pub returns-in-Some : goal.returns-in-Some
returns-in-Some c =
    let node = c.in-Some.ensures.node in
    same_line _ _ _ _ _ _ c.in-Some.ensures.tests (c.number_of.ensures ∙ ap (λ n. number_at c.args.list.now n.lo) node)
    (c.number_of-in-Some.ensures ∙ ap (λ n. number_at c.args.list.now n.hi) node)

pub returns-in-None : goal.returns-in-None
returns-in-None c =
    let low : c.args.h.0 < 2 = grind (arith, c.in-None.ensures.end) in
    let high = c.requires.inner.0 in
    absurd (omega (arith, low, high))
