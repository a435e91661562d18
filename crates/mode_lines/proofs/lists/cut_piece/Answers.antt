use Rattle.std.proofs.Common.{◌∷◌, ◌+◌, take, ap, sym, ◌∙◌}
use Rattle.text_lines.proofs.Splits.{rest_is, rest_shorter, split_none, split_some}
use Rattle.mode_lines.specs.Lists.{cut}
use Rattle.mode_lines.proofs.lists.cut_piece.Goals as goal

pub returns-in-Some-clause-cut : goal.returns-in-Some-clause-cut
returns-in-Some-clause-cut c =
    let list = c.args.list.now in
    let count = c.in-Some.count in (
      rest_shorter _ list count c.in-Some.ensures.place,
      split_some _ list count (sym c.in-Some.ensures.place) ∙ ap (λ rest. take count list ∷ cut rest) (sym (rest_is (count + 1) list)),
    )

pub returns-in-None-clause-last : goal.returns-in-None-clause-last
returns-in-None-clause-last c = split_none _ c.args.list.now (sym c.in-None.ensures.place)
