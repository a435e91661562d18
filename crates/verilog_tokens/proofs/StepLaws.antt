-- The tokens behind what is passed over, and behind a token: more steps than there are bytes find no more.
use Rattle.std.proofs.Common.{◌≡◌, ◌<◌, ◌≤◌, ◌+◌, ◌∷◌, ◌==◌, ◌&&◌, [], ℕ, zero, suc, List, Bool, true, false, cond, Option, Some, None, length, length-drop, drop, refl, ap, subst, sym, ◌∙◌, arith}
use Rattle.text_lines.specs.Groups.{up_to}
use Rattle.verilog_tokens.specs.Passed.{Passing, Place, behind_close, line_behind, passed_comment, passing, passing_at, passing_by, place_at}
use Rattle.verilog_tokens.specs.Passed.Passing.{Over, Endless, Stays}
use Rattle.verilog_tokens.specs.Signs.{Sign, Token}
use Rattle.verilog_tokens.specs.Signs.Sign.{OpenComment}
use Rattle.verilog_tokens.specs.Tokens.{is_last, token, tokens_at, tokens_behind, tokens_by, tokens_from, tokens_in}
use Rattle.verilog_tokens.specs.Words.{Cut, behind_run, cut_at, cut_of, is_feed, starts_with}
use Rattle.verilog_tokens.proofs.CutLaws.{IsCut, is_cut}

-- what is behind a step, of so many bytes before it
abbrev Fits : ℕ → Passing → Type 0
Fits n (Over q) = length q.bytes < n
Fits n (Endless q) = Unit {0}
Fits n (Stays q) = length q.bytes ≤ n

record Falls (n : ℕ) (x : Passing) : Type 0 where
  fits : Fits n x

falls_if : (n : ℕ) (b : Bool) (x y : Passing) → Falls n x → Falls n y → Falls n (cond b x y)
falls_if n true x y l r = l
falls_if n false x y l r = r

over : (n : ℕ) (q : Place) → length q.bytes < n → Falls n (Over q)
over n q lt = record { fits = lt }

comment_falls : (place : Place) (close line n : ℕ) (bs : List ℕ) → length bs < n → Falls n (passed_comment place (behind_close close line bs))
comment_falls place close line n [] lt = record { fits = tt }
comment_falls place close line n (b ∷ bs) lt =
    by_test ((b == 42) && starts_with close bs) (behind_close close (line_behind line b) bs) (comment_falls place close (line_behind line b) n bs (omega arith)) where
      by_test : (t : Bool) (later : Option (ℕ × List ℕ)) → Falls n (passed_comment place later) → Falls n (passed_comment place (cond t (Some (line, drop 1 bs)) later))
      by_test true later f = over n (place_at line false (drop 1 bs)) (omega (arith, length-drop 1 bs))
      by_test false later f = f

line_falls : (n line : ℕ) (ends : ℕ → Bool) (bs : List ℕ) → length bs < n → Falls n (Over (place_at line false (behind_run ends bs)))
line_falls n line ends bs lt = over n (place_at line false (behind_run ends bs)) (omega (arith, length-drop (length (up_to ends bs)) bs))

stays : (n : ℕ) (place : Place) → length place.bytes ≤ n → Falls n (Stays place)
stays n place le = record { fits = le }

falls_by : (place : Place) (b : ℕ) (bs : List ℕ) → length place.bytes ≤ suc (length bs) → Falls (suc (length bs)) (passing_by place b bs)
falls_by place b bs le =
    let n = suc (length bs) in
    falls_if n _ _ _ (over n (place_at (line_behind place.line b) (cond (is_feed b) true place.is_fresh) bs) (omega arith))
    (falls_if n _ _ _ (line_falls n place.line is_feed bs (omega arith))
    (falls_if n _ _ _ (comment_falls place 47 place.line n (drop 1 bs) (omega (arith, length-drop 1 bs)))
    (falls_if n _ _ _ (comment_falls place 41 place.line n (drop 1 bs) (omega (arith, length-drop 1 bs)))
    (falls_if n _ _ _ (line_falls n place.line is_feed bs (omega arith)) (stays n place le)))))

falls_at : (place : Place) (bytes : List ℕ) → length place.bytes ≤ length bytes → Falls (length bytes) (passing_at place bytes)
falls_at place [] le = record { fits = le }
falls_at place (b ∷ bs) le = falls_by place b bs le

falls : (place : Place) → Falls (length place.bytes) (passing place)
falls place = falls_at place place.bytes (omega arith)

-- ---- enough steps

abbrev SameBelow : ℕ → ℕ → Type 0
SameBelow n m = (q : Place) → length q.bytes < n → length q.bytes < m → tokens_in n q ≡ tokens_in m q

same_at : (n m line : ℕ) (bytes : List ℕ) → SameBelow n m → length bytes ≤ n → length bytes ≤ m → tokens_at (tokens_in n) line bytes ≡ tokens_at (tokens_in m) line bytes
same_at n m line [] same l k = refl
same_at n m line (b ∷ bs) same l k =
    let cut = is_cut b bs in ap (λ ts. token line (cut_at b bs).sign ∷ ts) (same (place_at line false (cut_at b bs).rest) (omega (arith, cut.within)) (omega (arith, cut.within)))

same_by : (n m k : ℕ) (x : Passing) → SameBelow n m → Fits k x → k ≤ n → k ≤ m → tokens_by (tokens_in n) x ≡ tokens_by (tokens_in m) x
same_by n m k (Over q) same f l r = same q (omega (arith, f)) (omega (arith, f))
same_by n m k (Endless q) same f l r = refl
same_by n m k (Stays q) same f l r = same_at n m q.line q.bytes same (omega (arith, f)) (omega (arith, f))

enough : (n m : ℕ) → SameBelow n m
enough zero m q l k = absurd (omega arith)
enough (suc n) zero q l k = absurd (omega arith)
enough (suc n) (suc m) q l k = same_by n m (length q.bytes) (passing q) (enough n m) (falls q).fits (omega arith) (omega arith)

falls_to : (place : Place) (x : Passing) → passing place ≡ x → Fits (length place.bytes) x
falls_to place x e = subst (Fits (length place.bytes)) e (falls place).fits

-- ---- one step

-- where something is passed over
pub over_tokens : (place next : Place) → passing place ≡ Over next → tokens_from place ≡ tokens_from next
unfolding tokens_from
over_tokens place next e =
    ap (tokens_by (tokens_in (length place.bytes))) e ∙ enough (length place.bytes) (suc (length next.bytes)) next (falls_to place (Over next) e) (omega arith)

-- and it is less
pub over_less : (place next : Place) → passing place ≡ Over next → length next.bytes < length place.bytes
over_less place next e = falls_to place (Over next) e

pub endless_tokens : (place next : Place) → passing place ≡ Endless next → tokens_from place ≡ token next.line OpenComment ∷ []
unfolding tokens_from
endless_tokens place next e = ap (tokens_by (tokens_in (length place.bytes))) e

from_steps : (n line : ℕ) (bytes : List ℕ) → length bytes ≤ n → tokens_at (tokens_in n) line bytes ≡ tokens_at tokens_from line bytes
unfolding tokens_from
from_steps n line [] l = refl
from_steps n line (b ∷ bs) l =
    let cut = is_cut b bs in
    ap (λ ts. token line (cut_at b bs).sign ∷ ts) (enough n (suc (length (cut_at b bs).rest)) (place_at line false (cut_at b bs).rest) (omega (arith, cut.within)) (omega arith))

pub stays_tokens : (place next : Place) → passing place ≡ Stays next → tokens_from place ≡ tokens_at tokens_from next.line next.bytes
unfolding tokens_from
stays_tokens place next e =
    ap (tokens_by (tokens_in (length place.bytes))) e ∙ from_steps (length place.bytes) next.line next.bytes (falls_to place (Stays next) e)

-- a token is cut off
pub cut_tokens : (line : ℕ) (bytes : List ℕ) (b : ℕ) (bs : List ℕ) (s : Sign) (rest : List ℕ) → bytes ≡ b ∷ bs → cut_of s rest ≡ cut_at b bs
    → tokens_at tokens_from line bytes ≡ token line s ∷ tokens_behind (token line s) (place_at line false rest)
cut_tokens line bytes b bs s rest is e =
    ap (tokens_at tokens_from line) is
    ∙ ap (λ (c : Cut). token line c.sign ∷ tokens_from (place_at line false c.rest)) (sym e)
    ∙ ap (λ t. token line s ∷ cond t [] (tokens_from (place_at line false rest))) (sym goes) where
      goes : is_last s ≡ false
      goes = ap (λ (c : Cut). is_last c.sign) e ∙ (is_cut b bs).more.more

-- and it is less
pub cut_less : (b : ℕ) (bs : List ℕ) (s : Sign) (rest : List ℕ) → cut_of s rest ≡ cut_at b bs → length rest ≤ length bs
cut_less b bs s rest e = let cut = is_cut b bs in omega (arith, cut.within, ap (λ (c : Cut). length c.rest) e)
