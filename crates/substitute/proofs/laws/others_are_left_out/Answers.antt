use Rattle.substitute.proofs.RightLaws.{closed_is_left_out, inside_is_left_out, refused_is_left_out}
use Rattle.substitute.proofs.laws.others_are_left_out.Goals as goal

pub returns-clause-inside : goal.returns-clause-inside
returns-clause-inside c = inside_is_left_out

pub returns-clause-refused : goal.returns-clause-refused
returns-clause-refused c = refused_is_left_out

pub returns-clause-closed : goal.returns-clause-closed
returns-clause-closed c = closed_is_left_out
