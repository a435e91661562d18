-- Whether tokens are an expression, by how many parentheses are open and whether an operand was just read.
use Rattle.std.specs.Prelude.{ℕ, List, [], ◌∷◌, ◌+◌, ◌-◌, ◌==◌, ◌&&◌, Bool, true, false, if◌then◌else◌, Option, Some, None}
use Rattle.rules_expression.specs.declared.form.Form.{Form}
use Rattle.rules_expression.specs.declared.tokens.Token.{Token}
use Rattle.rules_expression.specs.declared.tokens.Token.TheVariants.{Name, Bang, Ampersand, Caret, Bar, Opening, Closing}

abbrev pub form : Bool → ℕ → Form
form has_operand depth = record { has_operand = has_operand; depth = depth }

abbrev pub form_behind : Bool → ℕ → Token → Option Form
form_behind false depth (Name n) = Some (form true depth)
form_behind false depth Bang = Some (form false depth)
form_behind false depth Opening = Some (form false (depth + 1))
form_behind false depth Ampersand = None
form_behind false depth Caret = None
form_behind false depth Bar = None
form_behind false depth Closing = None
form_behind true depth (Name n) = None
form_behind true depth Bang = None
form_behind true depth Opening = None
form_behind true depth Ampersand = Some (form false depth)
form_behind true depth Caret = Some (form false depth)
form_behind true depth Bar = Some (form false depth)
form_behind true depth Closing = if depth == 0 then None else Some (form true (depth - 1))

abbrev pub forms : Option Form → List Token → Bool
forms None tokens = false
forms (Some f) [] = f.has_operand && (f.depth == 0)
forms (Some f) (token ∷ tokens) = forms (form_behind f.has_operand f.depth token) tokens
