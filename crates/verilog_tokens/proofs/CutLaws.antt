-- Each token takes a byte at least, and is not the last.
use Rattle.std.proofs.Common.{◌≡◌, ◌≤◌, ◌+◌, ◌∷◌, [], ℕ, suc, List, Bool, true, false, cond, Option, Some, None, unwrap_or, option_map, length, length-drop, take, drop, refl, ap, sym, ◌∙◌, arith}
use Rattle.std.specs.Option.{option_or}
use Rattle.text_lines.specs.Bytes.{is_text, is_text_byte}
use Rattle.text_lines.specs.Groups.{up_to}
use Rattle.verilog_tokens.specs.Signs.{Part, Sign}
use Rattle.verilog_tokens.specs.Signs.Part.{Bit, Name}
use Rattle.verilog_tokens.specs.Signs.Sign.{Of, Comma, Semicolon, Dot, Equals, Module, EndModule, Input, Output, Wire, Assign, Gate, NotText, Unsupported}
use Rattle.verilog_tokens.specs.Tokens.{is_last}
use Rattle.verilog_tokens.specs.Words.{Cut, behind_run, byte_sign, constant_sign, cut_at, cut_of, double_cut, ends_constant, ends_name, escaped_sign, gate_word, is_space, other_byte, other_word, part_sign, statement_sign, statement_word, word_sign}
use Rattle.verilog_tokens.specs.declared.token.GateKind.{GateKind}

-- a sign behind which the text goes on
pub record GoesOn (s : Sign) : Type 0 where
  pub more : is_last s ≡ false

data AllGoOn : Option Sign → Type 0 where
  none : AllGoOn None
  some : {s : Sign} → GoesOn s → AllGoOn (Some s)

-- for a sign that is written out
go : (s : Sign) → is_last s ≡ false → GoesOn s
go s e = record { more = e }

goes_if : (b : Bool) (s t : Sign) → GoesOn s → GoesOn t → GoesOn (cond b s t)
goes_if true s t x y = x
goes_if false s t x y = y

all_go_if : (b : Bool) (s : Sign) (o : Option Sign) → GoesOn s → AllGoOn o → AllGoOn (cond b (Some s) o)
all_go_if true s o x y = some x
all_go_if false s o x y = y

goes_or : (o p : Option Sign) (s : Sign) → AllGoOn o → AllGoOn p → GoesOn s → GoesOn (unwrap_or (option_or o p) s)
goes_or (Some t) p s (some x) y z = x
goes_or None (Some t) s x (some y) z = y
goes_or None None s x y z = z

statements_go : (w : List ℕ) → AllGoOn (statement_word w)
statements_go w =
    all_go_if _ _ _ (go Module refl) (all_go_if _ _ _ (go EndModule refl) (all_go_if _ _ _ (go Input refl)
    (all_go_if _ _ _ (go Output refl) (all_go_if _ _ _ (go Wire refl) (all_go_if _ _ _ (go Assign refl) none)))))

gates_go : (o : Option GateKind) → AllGoOn (option_map Gate o)
gates_go None = none
gates_go (Some g) = some (go (Gate g) refl)

parts_go : (o : Option Part) → AllGoOn (option_map Of o)
parts_go None = none
parts_go (Some p) = some (go (Of p) refl)

signs_go : (b : ℕ) → AllGoOn (statement_sign b)
signs_go b = all_go_if _ _ _ (go Comma refl) (all_go_if _ _ _ (go Semicolon refl) (all_go_if _ _ _ (go Dot refl) (all_go_if _ _ _ (go Equals refl) none)))

word_goes : (w : List ℕ) → GoesOn (word_sign w)
word_goes w =
    goes_or (statement_word w) (option_map Gate (gate_word w)) (other_word w) (statements_go w) (gates_go (gate_word w))
    (goes_if _ _ _ (go (Unsupported w) refl) (go (Of (Name w)) refl))

constant_goes : (w : List ℕ) → GoesOn (constant_sign w)
constant_goes w = goes_if _ _ _ (go (Of (Bit false)) refl) (goes_if _ _ _ (go (Of (Bit true)) refl) (go (Unsupported w) refl))

escaped_goes : (w : List ℕ) → GoesOn (escaped_sign w)
escaped_goes w = goes_if _ _ _ (go (Of (Name w)) refl) (go NotText refl)

byte_goes : (b : ℕ) → GoesOn (byte_sign b)
byte_goes b =
    goes_or (option_map Of (part_sign b)) (statement_sign b) (other_byte b) (parts_go (part_sign b)) (signs_go b)
    (goes_if _ _ _ (go (Unsupported (b ∷ [])) refl) (go NotText refl))

-- a token before at most so many bytes
pub record IsCut (n : ℕ) (c : Cut) : Type 0 where
  pub within : length c.rest ≤ n
  pub more : GoesOn c.sign

cut_if : (n : ℕ) (b : Bool) (c d : Cut) → IsCut n c → IsCut n d → IsCut n (cond b c d)
cut_if n true c d x y = x
cut_if n false c d x y = y

run_cut : (s : Sign) (ends : ℕ → Bool) (bs : List ℕ) → GoesOn s → IsCut (length bs) (cut_of s (behind_run ends bs))
run_cut s ends bs g = record { within = omega (arith, length-drop (length (up_to ends bs)) bs); more = g }

double_is_cut : (b : ℕ) (bs : List ℕ) → IsCut (length bs) (double_cut b bs)
double_is_cut b [] = record { within = omega arith; more = byte_goes b }
double_is_cut b (c ∷ cs) =
    cut_if _ _ _ _ (record { within = omega arith; more = go (Unsupported (b ∷ c ∷ [])) refl }) (record { within = omega arith; more = byte_goes b })

pub is_cut : (b : ℕ) (bs : List ℕ) → IsCut (length bs) (cut_at b bs)
is_cut b bs =
    cut_if _ _ _ _ (run_cut (word_sign (b ∷ up_to ends_name bs)) ends_name bs (word_goes (b ∷ up_to ends_name bs)))
    (cut_if _ _ _ _ (run_cut (constant_sign (b ∷ up_to ends_constant bs)) ends_constant bs (constant_goes (b ∷ up_to ends_constant bs)))
    (cut_if _ _ _ _ (run_cut (escaped_sign (up_to is_space bs)) is_space bs (escaped_goes (up_to is_space bs)))
    (cut_if _ _ _ _ (run_cut (Unsupported (b ∷ up_to ends_name bs)) ends_name bs (go (Unsupported (b ∷ up_to ends_name bs)) refl)) (double_is_cut b bs))))
