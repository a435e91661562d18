-- The bytes of the first token of a line, and what is behind them.
use Rattle.std.proofs.Common.{◌≡◌, ◌<◌, ◌≤◌, ◌++◌, ◌∷◌, ◌||◌, [], ℕ, suc, List, Bool, true, false, cond, Option, Some, None, is_some, flat_map, length, length-drop, take, drop, refl, ap, ap₂, sym, ◌∙◌, arith, append-nil, append_assoc}
use Rattle.std.specs.Char.{to_ascii_lowercase}
use Rattle.std.specs.List.{onto_first, slice_split}
use Rattle.std.proofs.lemmas.Bool.{or_parts}
use Rattle.std.proofs.lemmas.List.Splits.{slice_split-cons_no, slice_split-cons_yes}
use Rattle.text_lines.specs.Bytes.{is_blank, kept, lowered, without_blanks, words_of}
use Rattle.text_lines.specs.Groups.{up_to}
use Rattle.text_lines.proofs.Splits.{first_part}
use Rattle.rules_expression.specs.Pieces.{ends_name, line_tokens, token_by, token_of}
use Rattle.rules_expression.specs.Spelled.{after_name, named}
use Rattle.rules_expression.specs.Tokens.{onto_by, onto_name, sign_of, tokens_in, tokens_of}
use Rattle.rules_expression.specs.declared.tokens.Token.{Token}
use Rattle.rules_expression.proofs.TokenLaws.{after_sign, at_end, signs}

-- the tokens of what stands between blanks
abbrev between : List ℕ → List Token
between line = flat_map tokens_in (slice_split is_blank line)

kept_parts : (parts : List (List ℕ)) → flat_map tokens_in (flat_map kept parts) ≡ flat_map tokens_in parts
kept_parts [] = refl
kept_parts ([] ∷ parts) = kept_parts parts
kept_parts ((b ∷ bs) ∷ parts) = ap (λ ts. tokens_in (b ∷ bs) ++ ts) (kept_parts parts)

by_parts : (line : List ℕ) → line_tokens line ≡ between line
unfolding tokens_of words_of
by_parts line = kept_parts (slice_split is_blank line)

blank_first : (b : ℕ) (bs : List ℕ) → is_blank b ≡ true → between (b ∷ bs) ≡ between bs
blank_first b bs e = ap (flat_map tokens_in) (slice_split-cons_yes is_blank b bs e)

skipped : (line : List ℕ) → between (without_blanks line) ≡ between line
skipped [] = refl
skipped (b ∷ bs) = by_test (is_blank b) refl (skipped bs) where
  by_test : (t : Bool) → is_blank b ≡ t → between (without_blanks bs) ≡ between bs → between (cond t (without_blanks bs) (b ∷ bs)) ≡ between (b ∷ bs)
  by_test true e rest = rest ∙ sym (blank_first b bs e)
  by_test false e rest = refl

-- blanks before the first token
pub past_blanks : (line : List ℕ) → line_tokens line ≡ line_tokens (without_blanks line)
past_blanks line = by_parts line ∙ sym (skipped line) ∙ sym (by_parts (without_blanks line))

no_blank : (line : List ℕ) (b : ℕ) (bs : List ℕ) → without_blanks line ≡ b ∷ bs → is_blank b ≡ false
no_blank [] b bs e = cc
no_blank (c ∷ cs) b bs e = by_test (is_blank c) refl e (no_blank cs b bs) where
  by_test : (t : Bool) → is_blank c ≡ t → cond t (without_blanks cs) (c ∷ cs) ≡ b ∷ bs → (without_blanks cs ≡ b ∷ bs → is_blank b ≡ false) → is_blank b ≡ false
  by_test true h is rest = rest is
  by_test false h is rest = let same : c ≡ b = cc in ap is_blank (sym same) ∙ h

-- nothing but blanks
pub none_left : (line : List ℕ) → without_blanks line ≡ [] → line_tokens line ≡ []
none_left line e = past_blanks line ∙ ap line_tokens e ∙ by_parts []

sign_first : (b : ℕ) (bs : List ℕ) (t : Token) → is_blank b ≡ false → sign_of b ≡ Some t → between (b ∷ bs) ≡ t ∷ between bs
sign_first b bs t solid e =
    let p = first_part is_blank bs in
    ap (flat_map tokens_in) (slice_split-cons_no is_blank b bs solid ∙ ap (onto_first b) p.2)
    ∙ ap (λ o. onto_by o b (tokens_in p.0) ++ flat_map tokens_in p.1) e
    ∙ ap (λ parts. t ∷ flat_map tokens_in parts) (sym p.2)

-- bytes of a name
abbrev AreNamed : List ℕ → Type 0
AreNamed [] = Unit {0}
AreNamed (b ∷ bs) = (is_blank b ≡ false) × ((sign_of b ≡ None) × AreNamed bs)

no_sign : {X : Type 0} (o : Option X) → is_some o ≡ false → o ≡ None
no_sign None e = refl
no_sign (Some x) e = cc

all_named : (line : List ℕ) → AreNamed (up_to ends_name line)
all_named [] = tt
all_named (b ∷ bs) = by_test (ends_name b) refl (all_named bs) where
  by_test : (t : Bool) → ends_name b ≡ t → AreNamed (up_to ends_name bs) → AreNamed (cond t [] (b ∷ up_to ends_name bs))
  by_test true e rest = tt
  by_test false e rest = let both = or_parts (is_blank b) (is_some (sign_of b)) e in (both.0, (no_sign (sign_of b) both.1, rest))

-- what a name ends at
abbrev Ends : List ℕ → Type 0
Ends [] = Unit {0}
Ends (b ∷ bs) = ends_name b ≡ true

behind_ends : (line : List ℕ) → Ends (drop (length (up_to ends_name line)) line)
behind_ends [] = tt
behind_ends (b ∷ bs) = by_test (ends_name b) refl (behind_ends bs) where
  by_test : (t : Bool) → ends_name b ≡ t → Ends (drop (length (up_to ends_name bs)) bs) → Ends (drop (length (cond t [] (b ∷ up_to ends_name bs))) (b ∷ bs))
  by_test true e rest = e
  by_test false e rest = rest

joined : (line : List ℕ) → up_to ends_name line ++ drop (length (up_to ends_name line)) line ≡ line
joined [] = refl
joined (b ∷ bs) = by_test (ends_name b) (joined bs) where
  by_test : (t : Bool) → up_to ends_name bs ++ drop (length (up_to ends_name bs)) bs ≡ bs
      → cond t [] (b ∷ up_to ends_name bs) ++ drop (length (cond t [] (b ∷ up_to ends_name bs))) (b ∷ bs) ≡ b ∷ bs
  by_test true rest = refl
  by_test false rest = ap (λ xs. b ∷ xs) rest

split_run : (name rest first : List ℕ) (more : List (List ℕ)) → AreNamed name → slice_split is_blank rest ≡ first ∷ more → slice_split is_blank (name ++ rest) ≡ (name ++ first) ∷ more
split_run [] rest first more h e = e
split_run (b ∷ bs) rest first more h e = slice_split-cons_no is_blank b (bs ++ rest) h.0 ∙ ap (onto_first b) (split_run bs rest first more h.1.1 e)

tokens_run : (name rest : List ℕ) → AreNamed name → tokens_in (name ++ rest) ≡ after_name (lowered name) (tokens_in rest)
tokens_run [] rest h = refl
tokens_run (b ∷ bs) rest h = ap (λ o. onto_by o b (tokens_in (bs ++ rest))) h.1.0 ∙ ap (onto_name (to_ascii_lowercase b)) (tokens_run bs rest h.1.1)

-- the part that a name ends in
record EndsIn (name rest : List ℕ) : Type 0 where
  first : List ℕ
  more : List (List ℕ)
  split : slice_split is_blank rest ≡ first ∷ more
  ended : after_name name (tokens_in first) ≡ named name ++ tokens_in first

at_sign : (name : List ℕ) (b : ℕ) (bs : List ℕ) (o : Option Token) → is_blank b ≡ false → sign_of b ≡ o → is_some o ≡ true → EndsIn name (b ∷ bs)
at_sign name b bs None solid e h = cc
at_sign name b bs (Some t) solid e h =
    let p = first_part is_blank bs in
    record {
      first = b ∷ p.0;
      more = p.1;
      split = slice_split-cons_no is_blank b bs solid ∙ ap (onto_first b) p.2;
      ended =
          ap (λ o. after_name name (onto_by o b (tokens_in p.0))) e ∙ after_sign name t (tokens_in p.0) (signs b t e)
          ∙ ap (λ o. named name ++ onto_by o b (tokens_in p.0)) (sym e);
    }

ends_in : (name rest : List ℕ) → Ends rest → EndsIn name rest
ends_in name [] h = record { first = []; more = []; split = refl; ended = at_end name ∙ sym (append-nil (named name)) }
ends_in name (b ∷ bs) h = by_test (is_blank b) refl h where
  by_test : (t : Bool) → is_blank b ≡ t → (t || is_some (sign_of b)) ≡ true → EndsIn name (b ∷ bs)
  by_test true e is = record { first = []; more = slice_split is_blank bs; split = slice_split-cons_yes is_blank b bs e; ended = at_end name ∙ sym (append-nil (named name)) }
  by_test false e is = at_sign name b bs (sign_of b) e refl is

name_before : (name rest : List ℕ) → AreNamed name → Ends rest → between (name ++ rest) ≡ named (lowered name) ++ between rest
name_before name rest h ends =
    let e = ends_in (lowered name) rest ends in
    ap (flat_map tokens_in) (split_run name rest e.first e.more h e.split)
    ∙ ap (λ ts. ts ++ flat_map tokens_in e.more) (tokens_run name e.first h ∙ e.ended)
    ∙ append_assoc (named (lowered name)) (tokens_in e.first) (flat_map tokens_in e.more)
    ∙ ap (λ parts. named (lowered name) ++ flat_map tokens_in parts) (sym e.split)

-- the first token is a sign
pub first_sign : (line : List ℕ) (b : ℕ) (bs : List ℕ) (t : Token) → without_blanks line ≡ b ∷ bs → sign_of b ≡ Some t → line_tokens line ≡ token_of (b ∷ []) ∷ line_tokens bs
first_sign line b bs t is e =
    past_blanks line ∙ ap line_tokens is ∙ by_parts (b ∷ bs) ∙ sign_first b bs t (no_blank line b bs is) e
    ∙ ap (λ o. token_by o (b ∷ []) ∷ between bs) (sym e) ∙ ap (λ ts. token_of (b ∷ []) ∷ ts) (sym (by_parts bs))

name_begins : (b : ℕ) (bs : List ℕ) → is_blank b ≡ false → sign_of b ≡ None → up_to ends_name (b ∷ bs) ≡ b ∷ up_to ends_name bs
name_begins b bs solid e = ap₂ (λ s o. cond (s || is_some o) [] (b ∷ up_to ends_name bs)) solid e

-- the first token is a name
pub first_name : (line : List ℕ) (b : ℕ) (bs : List ℕ) → without_blanks line ≡ b ∷ bs → sign_of b ≡ None
    → line_tokens line ≡ token_of (up_to ends_name (b ∷ bs)) ∷ line_tokens (drop (length (up_to ends_name (b ∷ bs))) (b ∷ bs))
first_name line b bs is e =
    let rest = drop (length (up_to ends_name (b ∷ bs))) (b ∷ bs) in
    let begins = name_begins b bs (no_blank line b bs is) e in
    past_blanks line ∙ ap line_tokens is ∙ by_parts (b ∷ bs) ∙ ap between (sym (joined (b ∷ bs)))
    ∙ name_before (up_to ends_name (b ∷ bs)) rest (all_named (b ∷ bs)) (behind_ends (b ∷ bs))
    ∙ ap (λ name. named (lowered name) ++ between rest) begins
    ∙ ap (λ o. token_by o (b ∷ up_to ends_name bs) ∷ between rest) (sym e)
    ∙ ap (λ name. token_of name ∷ between rest) (sym begins)
    ∙ ap (λ ts. token_of (up_to ends_name (b ∷ bs)) ∷ ts) (sym (by_parts rest))

left_less : (line : List ℕ) → length (without_blanks line) ≤ length line
left_less [] = omega arith
left_less (b ∷ bs) = by_test (is_blank b) (left_less bs) where
  by_test : (t : Bool) → length (without_blanks bs) ≤ length bs → length (cond t (without_blanks bs) (b ∷ bs)) ≤ suc (length bs)
  by_test true rest = omega (arith, rest)
  by_test false rest = omega arith

-- what is cut off at the front
pub cut_sign : (line rest : List ℕ) (b : ℕ) (bs : List ℕ) (t : Token) → rest ≡ without_blanks line → rest ≡ b ∷ bs → sign_of b ≡ Some t
    → (length bs < length line) × (line_tokens line ≡ token_of (take 1 rest) ∷ line_tokens bs)
cut_sign line rest b bs t cut is e =
    (omega (arith, left_less line, ap length cut, ap length is), first_sign line b bs t (sym cut ∙ is) e ∙ ap (λ xs. token_of (take 1 xs) ∷ line_tokens bs) (sym is))

pub cut_name : (line rest : List ℕ) (b : ℕ) (bs name left : List ℕ) → rest ≡ without_blanks line → rest ≡ b ∷ bs → sign_of b ≡ None
    → name ≡ up_to ends_name rest → left ≡ drop (length (up_to ends_name rest)) rest → (length left < length line) × (line_tokens line ≡ token_of name ∷ line_tokens left)
cut_name line rest b bs name left cut is e front behind =
    let begins = name_begins b bs (no_blank line b bs (sym cut ∙ is)) e in (
      omega (arith, left_less line, ap length cut, ap length is, ap length behind, length-drop (length (up_to ends_name rest)) rest, ap (λ xs. length (up_to ends_name xs)) is, ap length begins),
      first_name line b bs (sym cut ∙ is) e ∙ ap (λ xs. token_of (up_to ends_name xs) ∷ line_tokens (drop (length (up_to ends_name xs)) xs)) (sym is)
          ∙ ap₂ (λ n l. token_of n ∷ line_tokens l) (sym front) (sym behind),
    )
