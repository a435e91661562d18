-- What the reader of an expression keeps, without where it lies in memory.
use Rattle.std.specs.Prelude.{◌≡◌, ◌∷◌, [], List, Bool, true, false, Option, Some, None, is_some, option_map, map, reverse, Vec}
use Rattle.std.specs.declared.alloc.Global.{Global}
use Rattle.verilog_expression.specs.Grammar.{Formula, seen}
use Rattle.verilog_expression.specs.Grammar.Formula.{choice}
use Rattle.verilog_expression.specs.Readings.{Around, Reading, Waiting, taken}
use Rattle.verilog_expression.specs.Readings.Around.{parentheses, condition, branch}
use Rattle.verilog_expression.specs.declared.progress.Innermost.{Innermost}
use Rattle.verilog_expression.specs.declared.progress.Innermost.TheVariants.{Nothing, Parentheses as ParenthesesInside, Condition as ConditionInside}
use Rattle.verilog_expression.specs.declared.progress.Level.{Level}
use Rattle.verilog_expression.specs.declared.progress.Opened.{Opened}
use Rattle.verilog_expression.specs.declared.progress.Opened.TheVariants.{Parentheses, Condition, Branch}
use Rattle.verilog_expression.specs.declared.progress.Progress.{Progress}
use Rattle.verilog_expression.specs.declared.tree.Expression.{Expression}
use Rattle.verilog_tokens.specs.Signs.Part.{Closing}

abbrev pub seen_opt : Option Expression → Option Formula
seen_opt e = option_map seen e

abbrev pub seen_level : Level → Waiting
seen_level level = record { ors = seen_opt level.ors; xors = seen_opt level.xors; ands = seen_opt level.ands; nots = level.nots }

abbrev pub seen_opened : Opened → Around
seen_opened (Parentheses level) = parentheses (seen_level level)
seen_opened (Condition c) = condition (seen c)
seen_opened (Branch c e) = branch (seen c) (seen e)

-- the last is the innermost in memory, the first here
abbrev pub seen_list : List Opened → List Around
seen_list opened = reverse (map seen_opened opened)

abbrev pub seen_all : Vec Opened Global → List Around
seen_all opened = seen_list opened.items

abbrev pub seen_progress : Progress → Reading
seen_progress p = record { inner = seen_level p.inner; outer = seen_all p.outer; operand = seen_opt p.operand }

-- what is read so far, if the last token could stand there
abbrev pub seen_if : Bool → Progress → Option Reading
seen_if true p = Some (seen_progress p)
seen_if false p = None

-- ---- branches that a whole expression ends

-- the expression that it ends, and what is open around that
abbrev pub with_branches : List Around → Formula → Formula
with_branches [] f = f
with_branches (branch c g ∷ outer) f = with_branches outer (choice c g f)
with_branches (condition c ∷ outer) f = f
with_branches (parentheses w ∷ outer) f = f

abbrev pub behind_branches : List Around → List Around
behind_branches [] = []
behind_branches (branch c g ∷ outer) = behind_branches outer
behind_branches (condition c ∷ outer) = condition c ∷ outer
behind_branches (parentheses w ∷ outer) = parentheses w ∷ outer

-- what is innermost was taken off, if something was open
abbrev pub TakesOff : Innermost → List Around → List Around → Type 0
TakesOff Nothing rest all = all ≡ []
TakesOff (ParenthesesInside level) rest all = all ≡ parentheses (seen_level level) ∷ rest
TakesOff (ConditionInside c) rest all = all ≡ condition (seen c) ∷ rest

-- the innermost that is open but for branches are parentheses
abbrev pub closes : List Around → Bool
closes [] = false
closes (branch c g ∷ outer) = closes outer
closes (condition c ∷ outer) = false
closes (parentheses w ∷ outer) = true

-- a `)` closes parentheses of the expression
abbrev pub is_inside : Reading → Bool
is_inside r = is_some (taken r Closing)
