-- The tokens of a text: what each is, and the line on which it stands.
use Rattle.std.specs.Prelude.{ℕ, List, Bool}
use Rattle.verilog_tokens.specs.declared.token.GateKind.{GateKind}
use Rattle.verilog_tokens.specs.declared.token.Kind.{Kind}
use Rattle.verilog_tokens.specs.declared.token.Kind.TheVariants as IsKind
use Rattle.verilog_tokens.specs.declared.token.PartKind.{PartKind}
use Rattle.verilog_tokens.specs.declared.token.PartKind.TheVariants as IsPart

-- what expressions consist of: names, constants and signs
pub data Part : Type 0 where
  Name : List ℕ → Part
  Bit : Bool → Part
  Tilde : Part
  Ampersand : Part
  Caret : Part
  Bar : Part
  Question : Part
  Colon : Part
  Opening : Part
  Closing : Part

-- What a token is. The last four are no tokens of the profile: a byte that is not text, a word or a sign that is not
-- supported, a comment that does not end, and the end of the text.
pub data Sign : Type 0 where
  Of : Part → Sign
  Comma : Sign
  Semicolon : Sign
  Dot : Sign
  Equals : Sign
  Module : Sign
  EndModule : Sign
  Input : Sign
  Output : Sign
  Wire : Sign
  Assign : Sign
  Gate : GateKind → Sign
  NotText : Sign
  Unsupported : List ℕ → Sign
  OpenComment : Sign
  End : Sign

-- a token, and its line, counted from 1
pub record Token : Type 0 where
  pub line : ℕ
  pub sign : Sign

-- the part of this kind with these bytes
abbrev pub part_of : PartKind → List ℕ → Part
part_of IsPart.Name bytes = Name bytes
part_of (IsPart.Bit b) bytes = Bit b
part_of IsPart.Tilde bytes = Tilde
part_of IsPart.Ampersand bytes = Ampersand
part_of IsPart.Caret bytes = Caret
part_of IsPart.Bar bytes = Bar
part_of IsPart.Question bytes = Question
part_of IsPart.Colon bytes = Colon
part_of IsPart.Opening bytes = Opening
part_of IsPart.Closing bytes = Closing

-- the sign of this kind with these bytes
abbrev pub sign_of : Kind → List ℕ → Sign
sign_of (IsKind.Part part) bytes = Of (part_of part bytes)
sign_of IsKind.Comma bytes = Comma
sign_of IsKind.Semicolon bytes = Semicolon
sign_of IsKind.Dot bytes = Dot
sign_of IsKind.Equals bytes = Equals
sign_of IsKind.Module bytes = Module
sign_of IsKind.EndModule bytes = EndModule
sign_of IsKind.Input bytes = Input
sign_of IsKind.Output bytes = Output
sign_of IsKind.Wire bytes = Wire
sign_of IsKind.Assign bytes = Assign
sign_of (IsKind.Gate gate) bytes = Gate gate
sign_of IsKind.NotText bytes = NotText
sign_of IsKind.Unsupported bytes = Unsupported bytes
sign_of IsKind.OpenComment bytes = OpenComment
sign_of IsKind.End bytes = End

-- a token of this kind with these bytes, on a line
abbrev pub token_of : ℕ → Kind → List ℕ → Token
token_of line kind bytes = record { line = line; sign = sign_of kind bytes }
