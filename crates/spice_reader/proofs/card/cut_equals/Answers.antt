use Rattle.text_lines.proofs.Splits.{rest_shorter}
use Rattle.spice_reader.proofs.Equals.{equals_cut, equals_last}
use Rattle.spice_reader.proofs.card.cut_equals.Goals as goal

pub returns-in-Some-clause-cut : goal.returns-in-Some-clause-cut
returns-in-Some-clause-cut c =
    (rest_shorter _ c.args.text.now c.in-Some.count c.in-Some.ensures.place, equals_cut c.args.text.now c.in-Some.count c.in-Some.ensures.place)

pub returns-in-None-clause-last : goal.returns-in-None-clause-last
returns-in-None-clause-last c = equals_last c.args.text.now c.in-None.ensures.place
