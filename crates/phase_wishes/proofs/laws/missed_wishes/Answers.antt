use Rattle.phase_wishes.proofs.WishLaws.{missed_is, missed_stands, wish_printed, wishes_once}
use Rattle.phase_wishes.specs.Wishes.{wished_kinds}
use Rattle.phase_wishes.proofs.laws.missed_wishes.Goals as goal

pub returns-clause-missed : goal.returns-clause-missed
returns-clause-missed c = missed_is

pub returns-clause-once : goal.returns-clause-once
returns-clause-once c = wishes_once wished_kinds

pub returns-clause-stands : goal.returns-clause-stands
returns-clause-stands c = missed_stands

pub returns-clause-printed : goal.returns-clause-printed
returns-clause-printed c = wish_printed
