-- What the definitions compute on small texts.
use Rattle.std.specs.Prelude.{◌≡◌, ℕ, List, [], ◌∷◌, ◌++◌, false, true, codes, map, refl}
use Rattle.text_lines.specs.Bytes.{is_text}
use Rattle.verilog_tokens.specs.Signs.{Sign, Token}
use Rattle.verilog_tokens.specs.Signs.Part.{Name, Bit, Tilde, Ampersand, Caret, Opening, Closing}
use Rattle.verilog_tokens.specs.Signs.Sign.{Of, Comma, Semicolon, Module, Gate, NotText, Unsupported, OpenComment, End}
use Rattle.verilog_tokens.specs.Tokens.{token, tokens_from, tokens_of}
use Rattle.verilog_tokens.specs.declared.token.GateKind.TheVariants.{And}

-- a directive and comments are passed over, lines are counted in them, and the last line needs no line feed
passed : tokens_of (codes "`timescale 1ns" ++ 10 ∷ codes " module /* " ++ 10 ∷ codes "*/ m; // end") ≡
    token 2 Module ∷ token 3 (Of (Name (codes "m"))) ∷ token 3 Semicolon ∷ token 3 End ∷ []
unfolding tokens_from
passed = refl

signs_of : List ℕ → List Sign
signs_of text = map (λ (t : Token). t.sign) (tokens_of text)

-- an escaped name is no word of the language, and may be empty
escaped : signs_of (codes "and \\and \\~ \\ \\1'b0 x") ≡
    Gate And ∷ Of (Name (codes "and")) ∷ Of (Name (codes "~")) ∷ Of (Name []) ∷ Of (Name (codes "1'b0")) ∷ Of (Name (codes "x")) ∷ End ∷ []
unfolding signs_of tokens_from is_text
escaped = refl

-- signs of two bytes where they touch
doubled : signs_of (codes "~^ ~ & ^/**/~") ≡ Unsupported (codes "~^") ∷ Of Tilde ∷ Of Ampersand ∷ Of Caret ∷ Of Tilde ∷ End ∷ []
unfolding signs_of tokens_from is_text
doubled = refl

-- constants, words, directives that do not begin their line, and other bytes
others : signs_of (codes "1'b0 1 'b1 reg /**/`timescale # " ++ 12 ∷ []) ≡
    Of (Bit false) ∷ Unsupported (codes "1") ∷ Unsupported (codes "'") ∷ Of (Name (codes "b1")) ∷ Unsupported (codes "reg") ∷ Unsupported (codes "`timescale")
    ∷ Unsupported (codes "#") ∷ NotText ∷ End ∷ []
unfolding signs_of tokens_from is_text
others = refl

-- an attribute does not end with the bytes that begin it
open_attribute : tokens_of (codes "( *) (*)") ≡ token 1 (Of Opening) ∷ token 1 (Unsupported (codes "*")) ∷ token 1 (Of Closing) ∷ token 1 OpenComment ∷ []
unfolding tokens_from
open_attribute = refl
