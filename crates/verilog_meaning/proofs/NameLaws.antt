-- Bits of the names of a module, those of its own signals among them.
use Rattle.std.proofs.Common.{◌≡◌, ◌<◌, ◌≤◌, ◌^◌, ℕ, zero, suc, ◌+◌, Bool, true, false, List, [], ◌∷◌, ◌++◌, length, Some, refl, ap, sym, ◌∙◌, arith}
use Rattle.std.specs.Prelude.{bytes_eq, codes, decimal, option_and_then, slice_get, unwrap_or}
use Rattle.std.proofs.lemmas.Fmt.{decimal_injective}
use Rattle.std.proofs.lemmas.Option.{same_Some, slice_get_within}
use Rattle.std.proofs.lemmas.Slice.Eq.{bytes_eq-Decides}
use Rattle.names.proofs.PlaceLaws.{place_is, place_none}
use Rattle.verilog_meaning.proofs.Names.{IsPlain}
use Rattle.verilog_meaning.proofs.BackLaws.{HaveBits}
use Rattle.verilog_meaning.proofs.OwnBits.{HaveOwn, entries_bits, entries_long}
use Rattle.verilog_models.specs.Covers.{own_name}
use Rattle.verilog_models.specs.Models.{own_in}
use Rattle.verilog_source.specs.Modules.{Entry}
use Rattle.vrt_model.specs.Inputs.{AllApart}
use Rattle.vrt_model.specs.Lists.{Among, At, has_name, has_number, place_of}
use Rattle.vrt_model.proofs.Members.{any_among, at_none}

-- ---- own names

-- the names of so many own signals
abbrev pub names_from : ℕ → ℕ → List (List ℕ)
names_from n zero = []
names_from n (suc k) = own_name n ∷ names_from (n + 1) k

own_there : (n k j : ℕ) → j < k → At (names_from n k) j (own_name (n + j))
own_there n zero j lt = absurd (omega (arith, lt))
own_there n (suc k) zero lt = ap (λ m. Some (own_name m)) (plus n) where
  plus : (n : ℕ) → n ≡ n + 0
  plus n = omega arith
own_there n (suc k) (suc j) lt = own_there (n + 1) k j (omega (arith, lt)) ∙ ap (λ m. Some (own_name m)) (plus n j) where
  plus : (n j : ℕ) → n + 1 + j ≡ n + suc j
  plus n j = omega arith

own_is : (n k j : ℕ) (x : List ℕ) → At (names_from n k) j x → (x ≡ own_name (n + j)) × (j < k)
own_is n zero j x e = absurd (at_none j x e)
own_is n (suc k) zero x e = (sym (same_Some (own_name n) x e) ∙ ap own_name (plus n), omega arith) where
  plus : (n : ℕ) → n ≡ n + 0
  plus n = omega arith
own_is n (suc k) (suc j) x e = let r = own_is (n + 1) k j x e in (r.0 ∙ ap own_name (plus n j), omega (arith, r.1)) where
  plus : (n j : ℕ) → n + 1 + j ≡ n + suc j
  plus n j = omega arith

same_digits : (xs ys : List ℕ) → codes "expr " ++ xs ≡ codes "expr " ++ ys → xs ≡ ys
same_digits xs ys e = cc

-- they differ, as far as numbers are written out
own_apart : (k : ℕ) → k ≤ 2 ^ 64 → AllApart bytes_eq (names_from 0 k)
own_apart k le i j x y p q e =
    let a = own_is 0 k i x p in
    let b = own_is 0 k j y q in
    let same : own_name (0 + i) ≡ own_name (0 + j) = sym a.0 ∙ (bytes_eq-Decides x y).0 e ∙ b.0 in
    let h = decimal_injective (0 + i) (0 + j) (omega (arith, a.1, le)) (omega (arith, b.1, le)) (same_digits (decimal (0 + i)) (decimal (0 + j)) same) in omega (arith, h)

plain_not_own : (x : List ℕ) (n k : ℕ) → IsPlain x → has_name (names_from n k) x ≡ false
plain_not_own x n k plain = by_test (has_name (names_from n k) x) refl where
  by_test : (b : Bool) → has_name (names_from n k) x ≡ b → b ≡ false
  by_test false e = refl
  by_test true e =
      let a = any_among (bytes_eq x) (names_from n k) e in
      let is = own_is n k a.1.0 a.0 a.1.1 in
      let same : x ≡ own_name (n + a.1.0) = (bytes_eq-Decides x a.0).0 a.2 ∙ is.0 in
      let c : false ≡ true = sym plain ∙ ap (λ y. has_number y 32) same in sym c

-- ---- bits

-- the bit of each name: of an own signal its own, of any other that of the net
abbrev pub with_own : (List ℕ → Bool) → List Entry → List ℕ → Bool
with_own bits es name = unwrap_or (option_and_then (slice_get (entries_bits bits es)) (place_of (names_from 0 (own_in es)) name)) (bits name)

pub own_bits_there : (bits : List ℕ → Bool) (es : List Entry) → own_in es ≤ 2 ^ 64 → HaveOwn (with_own bits es) 0 (entries_bits bits es)
own_bits_there bits es le j b e =
    let long = entries_long bits es in
    let lt : j < length (entries_bits bits es) = slice_get_within (entries_bits bits es) j b e in
    let there = own_there 0 (own_in es) j (omega (arith, lt, long)) in
    ap (λ o. unwrap_or (option_and_then (slice_get (entries_bits bits es)) o) (bits (own_name (0 + j)))) (place_is (names_from 0 (own_in es)) j (own_name (0 + j)) (own_apart (own_in es) le) there)
    ∙ ap (λ o. unwrap_or o (bits (own_name (0 + j)))) e

pub plain_bit : (bits : List ℕ → Bool) (es : List Entry) (x : List ℕ) → IsPlain x → with_own bits es x ≡ bits x
plain_bit bits es x plain =
    ap (λ o. unwrap_or (option_and_then (slice_get (entries_bits bits es)) o) (bits x)) (place_none (names_from 0 (own_in es)) x (plain_not_own x 0 (own_in es) plain))

pub plain_bits : (bits : List ℕ → Bool) (es : List Entry) (names : List (List ℕ)) → ((x : List ℕ) → Among names x → IsPlain x) → HaveBits (with_own bits es) bits names
plain_bits bits es names plain x a = plain_bit bits es x (plain x a)
