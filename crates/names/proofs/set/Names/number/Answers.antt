use Rattle.std.proofs.Common.{◌∙◌, sym}
use Rattle.names.proofs.PlaceLaws.{placed_at, placed_there}
use Rattle.names.proofs.set.Names.number.Goals as goal

pub returns-in-Some-clause-names : goal.returns-in-Some-clause-names
returns-in-Some-clause-names c = placed_there _ c.args.name.now c.in-Some.place (sym c.place.ensures ∙ c.in-Some.is)

pub returns-in-Some-clause-place : goal.returns-in-Some-clause-place
returns-in-Some-clause-place c = placed_at _ c.args.name.now c.in-Some.place (sym c.place.ensures ∙ c.in-Some.is)
