use Rattle.vrt_model.specs.Expressions.{operators_in}
use Rattle.constraints.proofs.expression.+diagram.Given as goal

-- each part has fewer operators
abbrev pub decreases-diagram : goal.decreases-diagram
decreases-diagram l = operators_in l.e.now
