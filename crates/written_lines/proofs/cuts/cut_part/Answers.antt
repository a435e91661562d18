use Rattle.text_lines.proofs.Splits.{rest_shorter}
use Rattle.written_lines.proofs.CutLaws.{lines_cut, lines_last}
use Rattle.written_lines.proofs.cuts.cut_part.Goals as goal

pub returns-in-Some-clause-cut : goal.returns-in-Some-clause-cut
returns-in-Some-clause-cut c =
    (rest_shorter _ c.args.text.now c.in-Some.count c.in-Some.ensures.place, lines_cut c.args.text.now c.in-Some.count c.in-Some.ensures.place)

pub returns-in-None-clause-last : goal.returns-in-None-clause-last
returns-in-None-clause-last c = lines_last c.args.text.now c.in-None.ensures.place
