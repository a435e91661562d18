-- What a whole expression ends, by the branches around it.
use Rattle.std.proofs.Common.{◌≡◌, ◌∷◌, [], List, Bool, true, false, Option, Some, None, is_some, refl, ap, sym, ◌∙◌}
use Rattle.verilog_expression.specs.Grammar.{Formula}
use Rattle.verilog_expression.specs.Grammar.Formula.{choice}
use Rattle.verilog_expression.specs.Kept.{behind_branches, closes, seen_opt, with_branches}
use Rattle.verilog_expression.specs.Readings.{Around, Reading, Waiting, closed, divided, ended_by, ended_in, next_taken, nothing, open_, taken, taken_by, up_to_or, with_operand}
use Rattle.verilog_expression.specs.Readings.Around.{parentheses, condition, branch}
use Rattle.verilog_expression.specs.declared.tree.Expression.{Expression}
use Rattle.verilog_tokens.specs.Signs.{Part}
use Rattle.verilog_tokens.specs.Signs.Part.{Closing}

closed_around : (outer : List Around) (f : Formula) → closed outer f ≡ closed (behind_branches outer) (with_branches outer f)
closed_around [] f = refl
closed_around (branch c g ∷ outer) f = closed_around outer (choice c g f)
closed_around (condition c ∷ outer) f = refl
closed_around (parentheses w ∷ outer) f = refl

divided_around : (outer : List Around) (f : Formula) → divided outer f ≡ divided (behind_branches outer) (with_branches outer f)
divided_around [] f = refl
divided_around (branch c g ∷ outer) f = divided_around outer (choice c g f)
divided_around (condition c ∷ outer) f = refl
divided_around (parentheses w ∷ outer) f = refl

ended_around : (outer : List Around) (f : Formula) → ended_in outer f ≡ ended_in (behind_branches outer) (with_branches outer f)
ended_around [] f = refl
ended_around (branch c g ∷ outer) f = ended_around outer (choice c g f)
ended_around (condition c ∷ outer) f = refl
ended_around (parentheses w ∷ outer) f = refl

closes_around : (outer : List Around) (f : Formula) → is_some (closed outer f) ≡ closes outer
closes_around [] f = refl
closes_around (branch c g ∷ outer) f = closes_around outer (choice c g f)
closes_around (condition c ∷ outer) f = refl
closes_around (parentheses w ∷ outer) f = refl

-- a whole expression with what is open around its branches
module _ (outer left : List Around) (whole f made : Formula) (is : whole ≡ f) (all : made ≡ with_branches outer whole) where
  joined_is : with_branches outer f ≡ made
  joined_is = ap (with_branches outer) (sym is) ∙ sym all

  -- `)`
  pub closes_here : (w : Waiting) (r : Reading) → behind_branches outer ≡ parentheses w ∷ left → r ≡ with_operand w left made → Some r ≡ closed outer f
  closes_here w r e same = ap Some same ∙ sym (closed_around outer f ∙ ap (λ o. closed o (with_branches outer f)) e ∙ ap (λ g. Some (with_operand w left g)) joined_is)

  pub closes_no_condition : (c : Formula) → behind_branches outer ≡ condition c ∷ left → None ≡ closed outer f
  closes_no_condition c e = sym (closed_around outer f ∙ ap (λ o. closed o (with_branches outer f)) e)

  pub closes_nothing : behind_branches outer ≡ [] → None ≡ closed outer f
  closes_nothing e = sym (closed_around outer f ∙ ap (λ o. closed o (with_branches outer f)) e)

  -- `:`
  pub divides_here : (c : Formula) (r : Reading) → behind_branches outer ≡ condition c ∷ left → r ≡ open_ nothing (branch c made ∷ left) → Some r ≡ divided outer f
  divides_here c r e same =
      ap Some same ∙ sym (divided_around outer f ∙ ap (λ o. divided o (with_branches outer f)) e ∙ ap (λ g. Some (open_ nothing (branch c g ∷ left))) joined_is)

  pub divides_no_parentheses : (w : Waiting) → behind_branches outer ≡ parentheses w ∷ left → None ≡ divided outer f
  divides_no_parentheses w e = sym (divided_around outer f ∙ ap (λ o. divided o (with_branches outer f)) e)

  pub divides_nothing : behind_branches outer ≡ [] → None ≡ divided outer f
  divides_nothing e = sym (divided_around outer f ∙ ap (λ o. divided o (with_branches outer f)) e)

  -- the end
  pub ends_here : behind_branches outer ≡ [] → Some made ≡ ended_in outer f
  ends_here e = sym (ended_around outer f ∙ ap (λ o. ended_in o (with_branches outer f)) e ∙ ap Some joined_is)

  pub ends_not_in_parentheses : (w : Waiting) → behind_branches outer ≡ parentheses w ∷ left → None ≡ ended_in outer f
  ends_not_in_parentheses w e = sym (ended_around outer f ∙ ap (λ o. ended_in o (with_branches outer f)) e)

  pub ends_not_in_condition : (c : Formula) → behind_branches outer ≡ condition c ∷ left → None ≡ ended_in outer f
  ends_not_in_condition c e = sym (ended_around outer f ∙ ap (λ o. ended_in o (with_branches outer f)) e)

-- behind an operand
pub behind_operand : (w : Waiting) (outer : List Around) (o : Option Formula) (f : Formula) (t : Part) → o ≡ Some f → taken_by w outer o t ≡ next_taken w outer f t
behind_operand w outer o f t e = ap (λ x. taken_by w outer x t) e

pub ends_operand : (w : Waiting) (outer : List Around) (o : Option Formula) (f : Formula) → o ≡ Some f → ended_by w outer o ≡ ended_in outer (up_to_or w f)
ends_operand w outer o f e = ap (ended_by w outer) e

-- whether a `)` closes parentheses
pub within : (w : Waiting) (outer : List Around) (o : Option Formula) → is_some o ≡ true → closes outer ≡ is_some (taken_by w outer o Closing)
within w outer None e = cc
within w outer (Some f) e = sym (closes_around outer (up_to_or w f))

-- what is read behind `:`
pub divided_reading : (w : Waiting) (outer : List Around) (o : Option Formula) (left : List Around) (c f : Formula) → w ≡ nothing → outer ≡ branch c f ∷ left → o ≡ None
    → (let r : Reading = record { inner = w; outer = outer; operand = o } in r) ≡ open_ nothing (branch c f ∷ left)
divided_reading w outer o left c f a b d = cc

-- an operand, seen
pub operand_seen : (o : Option Expression) (b : Bool) → b ≡ is_some o → b ≡ true → is_some (seen_opt o) ≡ true
operand_seen None b e t = sym e ∙ t
operand_seen (Some x) b e t = refl
