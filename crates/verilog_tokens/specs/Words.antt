-- What begins with the first bytes of a text: words, constants, escaped names and signs.
use Rattle.std.specs.Prelude.{ℕ, List, [], ◌∷◌, Bool, true, false, not, ◌==◌, ◌||◌, ◌&&◌, nat_le, if◌then◌else◌, codes, bytes_eq, drop, length, Option, Some, None, option_map, unwrap_or}
use Rattle.std.specs.Option.{option_or}
use Rattle.text_lines.specs.Bytes.{is_text, is_text_byte}
use Rattle.text_lines.specs.Groups.{up_to}
use Rattle.vrt_model.specs.Lists.{has_name}
use Rattle.verilog_tokens.specs.Signs.{Part, Sign}
use Rattle.verilog_tokens.specs.Signs.Part.{Name, Bit, Tilde, Ampersand, Caret, Bar, Question, Colon, Opening, Closing}
use Rattle.verilog_tokens.specs.Signs.Sign.{Of, Comma, Semicolon, Dot, Equals, Module, EndModule, Input, Output, Wire, Assign, Gate, NotText, Unsupported}
use Rattle.verilog_tokens.specs.declared.token.GateKind.{GateKind}
use Rattle.verilog_tokens.specs.declared.token.GateKind.TheVariants.{And, Nand, Or, Nor, Xor, Xnor, Buf, Not}

-- ---- bytes

-- blanks are space, tab, line feed and carriage return
abbrev pub is_space : ℕ → Bool
is_space b = (b == 32) || (b == 9) || (b == 10) || (b == 13)

abbrev pub is_feed : ℕ → Bool
is_feed b = b == 10

-- a name begins with a letter or `_`
abbrev pub begins_name : ℕ → Bool
begins_name b = (nat_le 97 b && nat_le b 122) || (nat_le 65 b && nat_le b 90) || (b == 95)

abbrev pub is_digit : ℕ → Bool
is_digit b = nat_le 48 b && nat_le b 57

-- and goes on with letters, digits, `_` and `$`; so does a directive
abbrev pub ends_name : ℕ → Bool
ends_name b = not (begins_name b || is_digit b || (b == 36))

-- a constant goes on with these and `'`
abbrev pub ends_constant : ℕ → Bool
ends_constant b = ends_name b && not (b == 39)

-- what is behind the bytes before the first end
abbrev pub behind_run : (ℕ → Bool) → List ℕ → List ℕ
behind_run ends bytes = drop (length (up_to ends bytes)) bytes

-- the first byte is this
abbrev pub starts_with : ℕ → List ℕ → Bool
starts_with b [] = false
starts_with b (c ∷ cs) = c == b

-- ---- words

-- words of the language that have no place here: nets and constants, statements, switches
abbrev pub net_words : List (List ℕ)
net_words =
    codes "reg" ∷ codes "inout" ∷ codes "tri" ∷ codes "tri0" ∷ codes "tri1" ∷ codes "wand" ∷ codes "wor" ∷ codes "supply0" ∷ codes "supply1" ∷ codes "integer" ∷ []

abbrev pub block_words : List (List ℕ)
block_words =
    codes "parameter" ∷ codes "localparam" ∷ codes "defparam" ∷ codes "always" ∷ codes "initial" ∷ codes "function" ∷ codes "task" ∷ codes "generate"
    ∷ codes "specify" ∷ codes "primitive" ∷ []

abbrev pub switch_words : List (List ℕ)
switch_words =
    codes "bufif0" ∷ codes "bufif1" ∷ codes "notif0" ∷ codes "notif1" ∷ codes "nmos" ∷ codes "pmos" ∷ codes "cmos" ∷ codes "tran" ∷ []

abbrev pub is_unsupported : List ℕ → Bool
is_unsupported word = has_name net_words word || has_name block_words word || has_name switch_words word

-- the words that begin and end statements, and those of directions
abbrev pub statement_word : List ℕ → Option Sign
statement_word word =
    if bytes_eq word (codes "module") then Some Module
    else (if bytes_eq word (codes "endmodule") then Some EndModule
    else (if bytes_eq word (codes "input") then Some Input
    else (if bytes_eq word (codes "output") then Some Output
    else (if bytes_eq word (codes "wire") then Some Wire
    else (if bytes_eq word (codes "assign") then Some Assign
    else None)))))

-- the words of gates
abbrev pub gate_word : List ℕ → Option GateKind
gate_word word =
    if bytes_eq word (codes "and") then Some And
    else (if bytes_eq word (codes "nand") then Some Nand
    else (if bytes_eq word (codes "or") then Some Or
    else (if bytes_eq word (codes "nor") then Some Nor
    else (if bytes_eq word (codes "xor") then Some Xor
    else (if bytes_eq word (codes "xnor") then Some Xnor
    else (if bytes_eq word (codes "buf") then Some Buf
    else (if bytes_eq word (codes "not") then Some Not
    else None)))))))

-- any other word is a name
abbrev pub other_word : List ℕ → Sign
other_word word = if is_unsupported word then Unsupported word else Of (Name word)

abbrev pub word_sign : List ℕ → Sign
word_sign word = unwrap_or (option_or (statement_word word) (option_map Gate (gate_word word))) (other_word word)

-- ---- constants and escaped names

abbrev pub constant_sign : List ℕ → Sign
constant_sign word =
    if bytes_eq word (codes "1'b0") then Of (Bit false) else (if bytes_eq word (codes "1'b1") then Of (Bit true) else Unsupported word)

-- A `\` and all bytes up to the next blank are a name, whatever word it would be otherwise.
abbrev pub escaped_sign : List ℕ → Sign
escaped_sign name = if is_text name then Of (Name name) else NotText

-- ---- signs

-- `~^`, `~&`, `~|`, `^~`, `&&` and `||`
abbrev pub is_double : ℕ → ℕ → Bool
is_double b c =
    ((b == 126) && ((c == 94) || (c == 38) || (c == 124))) || ((b == 94) && (c == 126)) || ((b == 38) && (c == 38)) || ((b == 124) && (c == 124))

-- the signs of expressions
abbrev pub part_sign : ℕ → Option Part
part_sign b =
    if b == 126 then Some Tilde
    else (if b == 38 then Some Ampersand
    else (if b == 94 then Some Caret
    else (if b == 124 then Some Bar
    else (if b == 63 then Some Question
    else (if b == 58 then Some Colon
    else (if b == 40 then Some Opening
    else (if b == 41 then Some Closing
    else None)))))))

-- and those between expressions
abbrev pub statement_sign : ℕ → Option Sign
statement_sign b =
    if b == 44 then Some Comma
    else (if b == 59 then Some Semicolon
    else (if b == 46 then Some Dot
    else (if b == 61 then Some Equals
    else None)))

-- any other byte begins no token
abbrev pub other_byte : ℕ → Sign
other_byte b = if is_text_byte b then Unsupported (b ∷ []) else NotText

abbrev pub byte_sign : ℕ → Sign
byte_sign b = unwrap_or (option_or (option_map Of (part_sign b)) (statement_sign b)) (other_byte b)

-- ---- the first token

-- a token, and what is behind it
pub record Cut : Type 0 where
  pub sign : Sign
  pub rest : List ℕ

abbrev pub cut_of : Sign → List ℕ → Cut
cut_of sign rest = record { sign = sign; rest = rest }

-- two bytes of one sign
abbrev pub double_cut : ℕ → List ℕ → Cut
double_cut b [] = cut_of (byte_sign b) []
double_cut b (c ∷ cs) = if is_double b c then cut_of (Unsupported (b ∷ c ∷ [])) cs else cut_of (byte_sign b) (c ∷ cs)

-- the token that begins with a byte, before these
abbrev pub cut_at : ℕ → List ℕ → Cut
cut_at b bs =
    if begins_name b then cut_of (word_sign (b ∷ up_to ends_name bs)) (behind_run ends_name bs)
    else (if is_digit b then cut_of (constant_sign (b ∷ up_to ends_constant bs)) (behind_run ends_constant bs)
    else (if b == 92 then cut_of (escaped_sign (up_to is_space bs)) (behind_run is_space bs)
    else (if b == 96 then cut_of (Unsupported (b ∷ up_to ends_name bs)) (behind_run ends_name bs)
    else double_cut b bs)))
