-- No name of a text has a blank, and its tokens are no more than its bytes and one.
use Rattle.std.proofs.Common.{◌≡◌, ◌≤◌, ℕ, zero, suc, ◌+◌, ◌==◌, ◌||◌, ◌^◌, Bool, true, false, List, [], ◌∷◌, ◌++◌, length, Option, Some, None, refl, ap, sym, subst, ◌∙◌, arith}
use Rattle.std.specs.Prelude.{bytes_eq, codes, if◌then◌else◌, option_map, unwrap_or}
use Rattle.std.specs.Option.{option_or}
use Rattle.std.proofs.lemmas.Bool.{eqb-true}
use Rattle.std.proofs.lemmas.List.{length-append, length-map}
use Rattle.std.proofs.lemmas.Option.{same_Some}
use Rattle.text_lines.specs.Bytes.{is_text, is_text_byte}
use Rattle.text_lines.specs.Groups.{up_to}
use Rattle.verilog_meaning.proofs.Names.{ArePlain, IsPlain, entry_names}
use Rattle.verilog_meaning.proofs.YieldLaws.{source_yields}
use Rattle.verilog_models.specs.Models.{own_in}
use Rattle.verilog_source.specs.Grammar.{IsSource, name, signs}
use Rattle.verilog_source.specs.Modules.{Module}
use Rattle.verilog_tokens.specs.Passed.{Passing, Place, passing, place_at}
use Rattle.verilog_tokens.specs.Passed.Passing.{Over, Endless, Stays}
use Rattle.verilog_tokens.specs.Signs.{Part, Sign, Token}
use Rattle.verilog_tokens.specs.Signs.Part.{Name, Bit, Tilde, Ampersand, Caret, Bar, Question, Colon, Opening, Closing}
use Rattle.verilog_tokens.specs.Signs.Sign.{Of, Gate, NotText, Unsupported, OpenComment, End}
use Rattle.verilog_tokens.specs.Tokens.{token, tokens_at, tokens_by, tokens_from, tokens_in, tokens_of}
use Rattle.verilog_tokens.specs.Words.{Cut, begins_name, byte_sign, constant_sign, cut_at, cut_of, double_cut, ends_constant, ends_name, escaped_sign, gate_word, is_digit, is_double, is_space, is_unsupported, other_byte, other_word, part_sign, statement_sign, statement_word, word_sign}
use Rattle.verilog_tokens.specs.declared.token.GateKind.{GateKind}
use Rattle.vrt_model.specs.Lists.{Among, has_number}
use Rattle.vrt_model.proofs.Members.{among_left, among_map, at_none, flat_map_among}

-- ---- runs of bytes

no_blank : (b : ℕ) (test : ℕ → Bool) → test 32 ≡ true → test b ≡ false → (b == 32) ≡ false
no_blank b test blank here = by_test (b == 32) refl where
  by_test : (c : Bool) → (b == 32) ≡ c → c ≡ false
  by_test false e = refl
  by_test true e = let h : true ≡ false = sym blank ∙ ap test (sym (eqb-true b 32 e)) ∙ here in h

run_plain : (ends : ℕ → Bool) → ends 32 ≡ true → (bs : List ℕ) → IsPlain (up_to ends bs)
run_plain ends blank [] = refl
run_plain ends blank (x ∷ xs) = by_test (ends x) refl (run_plain ends blank xs) where
  by_test : (c : Bool) → ends x ≡ c → IsPlain (up_to ends xs) → IsPlain (if c then [] else x ∷ up_to ends xs)
  by_test true e rest = refl
  by_test false e rest = ap (λ c. c || has_number (up_to ends xs) 32) (no_blank x ends blank e) ∙ rest

-- ---- signs

abbrev IsPlainPart : Part → Type 0
IsPlainPart (Name n) = IsPlain n
IsPlainPart p = Unit {0}

abbrev IsPlainSign : Sign → Type 0
IsPlainSign (Of (Name n)) = IsPlain n
IsPlainSign s = Unit {0}

abbrev IsPlainOption : Option Sign → Type 0
IsPlainOption None = Unit {0}
IsPlainOption (Some s) = IsPlainSign s

either : (b : Bool) (x y : Option Sign) → IsPlainOption x → IsPlainOption y → IsPlainOption (if b then x else y)
either true x y p q = p
either false x y p q = q

either_sign : (b : Bool) (x y : Sign) → IsPlainSign x → IsPlainSign y → IsPlainSign (if b then x else y)
either_sign true x y p q = p
either_sign false x y p q = q

either_cut : (b : Bool) (x y : Cut) → (b ≡ true → IsPlainSign x.sign) → IsPlainSign y.sign → IsPlainSign (if b then x else y).sign
either_cut true x y p q = p refl
either_cut false x y p q = q

first_plain : (o p : Option Sign) → IsPlainOption o → IsPlainOption p → IsPlainOption (option_or o p)
first_plain None p a b = b
first_plain (Some s) p a b = a

or_plain : (o : Option Sign) (s : Sign) → IsPlainOption o → IsPlainSign s → IsPlainSign (unwrap_or o s)
or_plain None s a b = b
or_plain (Some t) s a b = a

statement_plain : (w : List ℕ) → IsPlainOption (statement_word w)
statement_plain w =
    either (bytes_eq w (codes "module")) _ _ tt (either (bytes_eq w (codes "endmodule")) _ _ tt (either (bytes_eq w (codes "input")) _ _ tt
    (either (bytes_eq w (codes "output")) _ _ tt (either (bytes_eq w (codes "wire")) _ _ tt (either (bytes_eq w (codes "assign")) _ _ tt tt)))))

gate_plain : (o : Option GateKind) → IsPlainOption (option_map Gate o)
gate_plain None = tt
gate_plain (Some g) = tt

word_plain : (w : List ℕ) → IsPlain w → IsPlainSign (word_sign w)
word_plain w plain =
    or_plain (option_or (statement_word w) (option_map Gate (gate_word w))) (other_word w) (first_plain (statement_word w) (option_map Gate (gate_word w)) (statement_plain w) (gate_plain (gate_word w)))
    (either_sign (is_unsupported w) (Unsupported w) (Of (Name w)) tt plain)

constant_plain : (w : List ℕ) → IsPlainSign (constant_sign w)
constant_plain w = either_sign (bytes_eq w (codes "1'b0")) _ _ tt (either_sign (bytes_eq w (codes "1'b1")) _ _ tt tt)

escaped_plain : (n : List ℕ) → IsPlain n → IsPlainSign (escaped_sign n)
escaped_plain n plain = either_sign (is_text n) (Of (Name n)) NotText plain tt

-- a sign of expressions is no name
abbrev IsNoName : Option Part → Type 0
IsNoName None = Unit {0}
IsNoName (Some p) = IsPlainPart p

either_part : (b : Bool) (x y : Option Part) → IsNoName x → IsNoName y → IsNoName (if b then x else y)
either_part true x y p q = p
either_part false x y p q = q

part_plain : (b : ℕ) → IsNoName (part_sign b)
part_plain b =
    either_part (b == 126) _ _ tt (either_part (b == 38) _ _ tt (either_part (b == 94) _ _ tt (either_part (b == 124) _ _ tt
    (either_part (b == 63) _ _ tt (either_part (b == 58) _ _ tt (either_part (b == 40) _ _ tt (either_part (b == 41) _ _ tt tt)))))))

of_plain : (o : Option Part) → IsNoName o → IsPlainOption (option_map Of o)
of_plain None h = tt
of_plain (Some (Name n)) h = h
of_plain (Some (Bit b)) h = tt
of_plain (Some Tilde) h = tt
of_plain (Some Ampersand) h = tt
of_plain (Some Caret) h = tt
of_plain (Some Bar) h = tt
of_plain (Some Question) h = tt
of_plain (Some Colon) h = tt
of_plain (Some Opening) h = tt
of_plain (Some Closing) h = tt

between_plain : (b : ℕ) → IsPlainOption (statement_sign b)
between_plain b = either (b == 44) _ _ tt (either (b == 59) _ _ tt (either (b == 46) _ _ tt (either (b == 61) _ _ tt tt)))

byte_plain : (b : ℕ) → IsPlainSign (byte_sign b)
byte_plain b =
    or_plain (option_or (option_map Of (part_sign b)) (statement_sign b)) (other_byte b) (first_plain (option_map Of (part_sign b)) (statement_sign b) (of_plain (part_sign b) (part_plain b)) (between_plain b))
    (either_sign (is_text_byte b) (Unsupported (b ∷ [])) NotText tt tt)

double_plain : (b : ℕ) (bs : List ℕ) → IsPlainSign (double_cut b bs).sign
double_plain b [] = byte_plain b
double_plain b (c ∷ cs) = either_cut (is_double b c) (cut_of (Unsupported (b ∷ c ∷ [])) cs) (cut_of (byte_sign b) (c ∷ cs)) (λ e. tt) (byte_plain b)

not_begins : (b : ℕ) → begins_name b ≡ true → (b == 32) ≡ false
not_begins b h = by_test (b == 32) refl where
  by_test : (c : Bool) → (b == 32) ≡ c → c ≡ false
  by_test false e = refl
  by_test true e = let c : true ≡ false = sym h ∙ ap begins_name (eqb-true b 32 e) in c

cut_plain : (b : ℕ) (bs : List ℕ) → IsPlainSign (cut_at b bs).sign
cut_plain b bs =
    either_cut (begins_name b) _ _ (λ e. word_plain (b ∷ up_to ends_name bs) (ap (λ c. c || has_number (up_to ends_name bs) 32) (not_begins b e) ∙ run_plain ends_name refl bs))
    (either_cut (is_digit b) _ _ (λ e. constant_plain (b ∷ up_to ends_constant bs))
    (either_cut (b == 92) _ _ (λ e. escaped_plain (up_to is_space bs) (run_plain is_space refl bs)) (either_cut (b == 96) _ _ (λ e. tt) (double_plain b bs))))

-- ---- tokens

-- tokens of which no name has a blank, no more than so many
record IsFew (n : ℕ) (ts : List Token) : Type 0 where
  pub plain : (t : Token) → Among ts t → IsPlainSign t.sign
  pub few : length ts ≤ n

one_token : (n : ℕ) (t : Token) → IsPlainSign t.sign → 1 ≤ n → IsFew n (t ∷ [])
one_token n t plain le = record { plain = λ u a. alone u a; few = le } where
  alone : (u : Token) → Among (t ∷ []) u → IsPlainSign u.sign
  alone u (zero, e) = subst (λ (v : Token). IsPlainSign v.sign) (same_Some t u e) plain
  alone u (suc i, e) = absurd (at_none i u e)

more_tokens : (n : ℕ) (t : Token) (ts : List Token) → IsPlainSign t.sign → IsFew n ts → IsFew (suc n) (t ∷ ts)
more_tokens n t ts plain h = record { plain = λ u a. either_token u a; few = (let le = h.few in omega (arith, le)) } where
  either_token : (u : Token) → Among (t ∷ ts) u → IsPlainSign u.sign
  either_token u (zero, e) = subst (λ (v : Token). IsPlainSign v.sign) (same_Some t u e) plain
  either_token u (suc i, e) = h.plain u (i, e)

at_few : (n line : ℕ) (bytes : List ℕ) → ((p : Place) → IsFew n (tokens_in n p)) → IsFew (suc n) (tokens_at (tokens_in n) line bytes)
at_few n line [] later = one_token (suc n) (token line End) tt (omega arith)
at_few n line (b ∷ bs) later =
    more_tokens n (token line (cut_at b bs).sign) (tokens_in n (place_at line false (cut_at b bs).rest)) (cut_plain b bs) (later (place_at line false (cut_at b bs).rest))

by_few : (n : ℕ) (p : Passing) → ((q : Place) → IsFew n (tokens_in n q)) → IsFew (suc n) (tokens_by (tokens_in n) p)
by_few n (Over q) later = let h = later q in record { plain = h.plain; few = (let le = h.few in omega (arith, le)) }
by_few n (Endless q) later = one_token (suc n) (token q.line OpenComment) tt (omega arith)
by_few n (Stays q) later = at_few n q.line q.bytes later

in_few : (n : ℕ) (p : Place) → IsFew n (tokens_in n p)
in_few zero p = record { plain = λ t a. absurd (at_none a.0 t a.1); few = omega arith }
in_few (suc n) p = by_few n (passing p) (in_few n)

of_few : (text : List ℕ) → IsFew (suc (length text)) (tokens_of text)
unfolding tokens_from
of_few text = in_few (suc (length text)) (place_at 1 true text)

-- ---- texts

name_plain : (s : Sign) (x : List ℕ) → s ≡ name x → IsPlainSign s → IsPlain x
name_plain s x e h = subst IsPlainSign e h

enough : (k n : ℕ) → k ≤ suc n → n ≤ 16777216 → k ≤ 2 ^ 64
enough k n a b = omega (arith, a, b)

-- the modules of a text are plain
pub text_plain : (text : List ℕ) (front : List Token) (last : Token) (modules : List Module) → length text ≤ 16777216 → tokens_of text ≡ front ++ last ∷ [] → IsSource front modules → ArePlain modules
text_plain text front last modules room are source =
    let all = of_few text in record {
      names = λ m a e b x c. (
          let h = source_yields source m a in
          let there = h.there x (flat_map_among entry_names m.entries e x b c) in
          let t = among_map (λ (t : Token). t.sign) front (name x) there in
          name_plain t.0.sign x t.2 (all.plain t.0 (subst (λ ts. Among ts t.0) (sym are) (among_left front (last ∷ []) t.0 t.1))));
      counted = λ m a. (
          let h = source_yields source m a in
          let signs_long = length-map front (λ (t : Token). t.sign) in
          let both = length-append front (last ∷ []) in
          let same : length (tokens_of text) ≡ length (front ++ last ∷ []) = ap length are in
          enough (own_in m.entries) (length text) (within (own_in m.entries) (length (signs front)) (length front) (length (tokens_of text)) (length text) h.long signs_long (same ∙ both) all.few) room);
    } where
      within : (k s f t n : ℕ) → k ≤ s → s ≡ f → t ≡ f + 1 → t ≤ suc n → k ≤ suc n
      within k s f t n a b c d = omega (arith, a, b, c, d)
