-- Two ends have one key exactly where they are the same.
use Rattle.std.proofs.Common.{◌≡◌, ℕ, ◌<◌, ◌∷◌, ◌&&◌, [], Bool, true, List, Some, None, drop, take, arith, ap, ap₂, refl, sym, ◌∙◌}
use Rattle.std.specs.Int.{from_le_bytes, to_le_bytes, w32}
use Rattle.std.specs.Prelude.{bytes_eq, ◌==◌}
use Rattle.std.proofs.lemmas.Bool.{and_parts, false≢true}
use Rattle.std.proofs.lemmas.Bool.Decides.{Decides-eqb}
use Rattle.std.proofs.lemmas.Nat.{from_le_bytes-to_le_bytes_4}
use Rattle.std.proofs.lemmas.Slice.Eq.{bytes_eq-Decides}
use Rattle.vrt_model.specs.Groups.{same_end}
use Rattle.vrt_model.specs.declared.circuit.HoldEnd.{HoldEnd}
use Rattle.vrt_model.specs.declared.circuit.HoldEnd.TheVariants.{Own, Latch}
use Rattle.vrt_model.specs.declared.ids.Net.{Net}
use Rattle.hold_groups.specs.Grouped.{end_kind, end_name, end_number, key_of}

-- ---- the same end

abbrev net_of : ℕ → Net
net_of n = record { 0 = n }

same_name : (m n : ℕ) → (m == n) ≡ true → m ≡ n
same_name m n = (Decides-eqb m n).0

pub same_ends : (a b : HoldEnd) → same_end a b ≡ true → a ≡ b
same_ends (Own m) (Own n) e = ap (λ (k : ℕ). Own (net_of k)) (same_name m.0 n.0 e)
same_ends (Own m) (Latch j f) e = absurd (false≢true e)
same_ends (Latch i e1) (Own n) e = absurd (false≢true e)
same_ends (Latch None e1) (Latch None f) e = ap (λ (name : List ℕ). Latch None name) ((bytes_eq-Decides e1 f).0 e)
same_ends (Latch None e1) (Latch (Some j) f) e = absurd (false≢true e)
same_ends (Latch (Some i) e1) (Latch None f) e = absurd (false≢true e)
same_ends (Latch (Some i) e1) (Latch (Some j) f) e =
    let both = and_parts (i == j) (bytes_eq e1 f) e in
    ap₂ (λ (k : ℕ) (name : List ℕ). Latch (Some k) name) (same_name i j both.0) ((bytes_eq-Decides e1 f).0 both.1)

itself : (n : ℕ) → (n == n) ≡ true
itself n = (Decides-eqb n n).1 refl

pub same_itself : (a : HoldEnd) → same_end a a ≡ true
same_itself (Own m) = itself m.0
same_itself (Latch None e) = (bytes_eq-Decides e e).1 refl
same_itself (Latch (Some i) e) = ap (λ (b : Bool). b && bytes_eq e e) (itself i) ∙ (bytes_eq-Decides e e).1 refl

-- ---- the key of an end

-- the bytes of a number give it back
number_of_bytes : (m n : ℕ) → m < 4294967296 → n < 4294967296 → to_le_bytes w32 m ≡ to_le_bytes w32 n → m ≡ n
number_of_bytes m n low high e = sym (from_le_bytes-to_le_bytes_4 m low) ∙ ap (from_le_bytes w32) e ∙ from_le_bytes-to_le_bytes_4 n high

abbrev first_byte : List ℕ → ℕ
first_byte [] = 0
first_byte (x ∷ xs) = x

module _ (a b : HoldEnd) (low : end_number a < 4294967296) (high : end_number b < 4294967296) (e : key_of a ≡ key_of b) where
  kinds : end_kind a ≡ end_kind b
  kinds = ap first_byte e

  numbers : end_number a ≡ end_number b
  numbers = number_of_bytes (end_number a) (end_number b) low high (ap (λ (xs : List ℕ). take 4 (drop 1 xs)) e)

  names : end_name a ≡ end_name b
  names = ap (λ (xs : List ℕ). drop 5 xs) e

apart : (m n : ℕ) → m < n → m ≡ n → ⊥
apart m n lt e = absurd (omega (arith, lt, e))

by_parts : (a b : HoldEnd) → end_kind a ≡ end_kind b → end_number a ≡ end_number b → end_name a ≡ end_name b → a ≡ b
by_parts (Own m) (Own n) k s t = ap (λ (j : ℕ). Own (net_of j)) s
by_parts (Own m) (Latch None f) k s t = absurd (apart 0 1 (omega arith) k)
by_parts (Own m) (Latch (Some j) f) k s t = absurd (apart 0 2 (omega arith) k)
by_parts (Latch None e) (Own n) k s t = absurd (apart 0 1 (omega arith) (sym k))
by_parts (Latch (Some i) e) (Own n) k s t = absurd (apart 0 2 (omega arith) (sym k))
by_parts (Latch None e) (Latch None f) k s t = ap (λ (name : List ℕ). Latch None name) t
by_parts (Latch None e) (Latch (Some j) f) k s t = absurd (apart 1 2 (omega arith) k)
by_parts (Latch (Some i) e) (Latch None f) k s t = absurd (apart 1 2 (omega arith) (sym k))
by_parts (Latch (Some i) e) (Latch (Some j) f) k s t = ap₂ (λ (k : ℕ) (name : List ℕ). Latch (Some k) name) s t

pub same_keys : (a b : HoldEnd) → end_number a < 4294967296 → end_number b < 4294967296 → key_of a ≡ key_of b → a ≡ b
same_keys a b low high e = by_parts a b (kinds a b low high e) (numbers a b low high e) (names a b low high e)
