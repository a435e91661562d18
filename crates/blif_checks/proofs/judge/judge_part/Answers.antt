use Rattle.std.proofs.Common.{map, refl}
use Rattle.blif_checks.specs.Mentions.{mentions_in, numbered}
use Rattle.blif_checks.specs.Parts.{part_of}
use Rattle.blif_checks.proofs.LeastLaws.{judged}
use Rattle.blif_checks.proofs.judge.judge_part.Goals as goal

pub returns : goal.returns
returns c =
    judged c.args.blif.now (part_of c.args.part c.args.model.now) c.in-Ok.noted.notes.items c.in-Ok.noted.names (map (numbered c.in-Ok.noted.names) (mentions_in (part_of c.args.part c.args.model.now))) c.judge_noted.result c.in-Ok.ensures refl c.judge_noted.ensures
