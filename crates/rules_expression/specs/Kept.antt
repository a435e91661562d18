-- What the reader of an expression keeps, without where it lies in memory.
use Rattle.std.specs.Prelude.{◌≡◌, ◌∷◌, [], List, Bool, true, false, Option, Some, None, option_map, map, reverse, Vec}
use Rattle.std.specs.declared.alloc.Global.{Global}
use Rattle.rules_expression.specs.Grammar.{Formula, seen}
use Rattle.rules_expression.specs.Readings.{Reading, Waiting}
use Rattle.rules_expression.specs.declared.expression.Level.{Level}
use Rattle.rules_expression.specs.declared.expression.Progress.{Progress}
use Rattle.vrt_model.specs.declared.rules.Expr.{Expr}

abbrev pub seen_opt : Option Expr → Option Formula
seen_opt e = option_map seen e

abbrev pub seen_level : Level → Waiting
seen_level level = record { ors = seen_opt level.ors; xors = seen_opt level.xors; ands = seen_opt level.ands; nots = level.nots }

-- the last is the innermost in memory, the first here
abbrev pub seen_all : Vec Level Global → List Waiting
seen_all levels = reverse (map seen_level levels.items)

abbrev pub seen_progress : Progress → Reading
seen_progress p = record { inner = seen_level p.inner; outer = seen_all p.outer; operand = seen_opt p.operand }

-- what is read so far, if the last token could stand there
abbrev pub seen_if : Bool → Progress → Option Reading
seen_if true p = Some (seen_progress p)
seen_if false p = None

-- whether a level was around, which is then the innermost
abbrev pub Leaves : Bool → List Waiting → Waiting → List Waiting → Type 0
Leaves true levels inner outer = levels ≡ inner ∷ outer
Leaves false levels inner outer = levels ≡ []
