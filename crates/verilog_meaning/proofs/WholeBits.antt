-- The bits of all signals of a flat model, from the bits of nets: laid out place by place, as the signals are.
use Rattle.std.proofs.Common.{◌≡◌, ℕ, zero, suc, ◌+◌, Bool, true, false, List, [], ◌∷◌, ◌++◌, map, length, Option, Some, refl, ap, ap₂, sym, subst, ◌∙◌, arith}
use Rattle.std.specs.Prelude.{option_map, slice_get, sum_by, unwrap_or}
use Rattle.std.proofs.lemmas.List.{length-append, length-map}
use Rattle.std.proofs.lemmas.List.Sums.{sum_by-cons}
use Rattle.std.proofs.lemmas.Option.{same_Some}
use Rattle.blif_flat.specs.Places.{placed}
use Rattle.blif_flat.proofs.OneDriverCounts.{place_number}
use Rattle.blif_checks.specs.Mentions.{number_among}
use Rattle.names.proofs.PlaceLaws.{place_none, placed_at}
use Rattle.verilog_meaning.proofs.NameLaws.{with_own}
use Rattle.verilog_models.specs.Models.{blif_of}
use Rattle.verilog_source.specs.Modules.{Entry, Module}
use Rattle.vrt_model.specs.FlatBlif.{ModelPlace, formals, inner_count, inner_signals, model_at, model_numbered, signal_at, subs_at, subs_from}
use Rattle.vrt_model.specs.Lists.{At, has_name}
use Rattle.vrt_model.specs.declared.blif.Blif.{Blif}
use Rattle.vrt_model.specs.declared.blif.SubLine.{SubLine}
use Rattle.vrt_model.proofs.Lists.{at_back, at_front, map_at}
use Rattle.vrt_model.proofs.Members.{at_none}

-- the entries of the module of a number
abbrev pub entries_at : List Module → ℕ → List Entry
entries_at modules k = unwrap_or (option_map (λ (m : Module). m.entries) (slice_get modules k)) []

-- the bits of the own signals of a place
abbrev pub place_bits : List Module → (List ℕ → List ℕ → Bool) → ModelPlace → List ℕ → List Bool
place_bits modules bits at path = map (with_own (bits path) (entries_at modules at.model)) (inner_signals (model_at (blif_of modules) at.model) at.tied)

-- those of places that are numbered from here
abbrev pub numbered_bits : (ModelPlace → List ℕ → List Bool) → List ℕ → ℕ → List ModelPlace → List Bool
numbered_bits f path k [] = []
numbered_bits f path k (q ∷ qs) = f q (path ++ k ∷ []) ++ numbered_bits f path (suc k) qs

-- those of a place and of all places in it
abbrev pub bits_in : List Module → (List ℕ → List ℕ → Bool) → ℕ → ModelPlace → List ℕ → List Bool
bits_in modules bits zero at path = place_bits modules bits at path
bits_in modules bits (suc depth) at path = place_bits modules bits at path ++ numbered_bits (bits_in modules bits depth) path 0 (subs_at (blif_of modules) depth at)

-- ---- as many as there are signals

abbrev IsLong : Blif → ℕ → (ModelPlace → List ℕ → List Bool) → Type 0
IsLong blif depth f = (q : ModelPlace) (path : List ℕ) → length (f q path) ≡ inner_count blif depth (model_at blif q.model) q.tied

numbered_long : (blif : Blif) (depth : ℕ) (f : ModelPlace → List ℕ → List Bool) → IsLong blif depth f → (at : ModelPlace) (path : List ℕ) (number base k : ℕ) (subs : List SubLine)
    → length (numbered_bits f path k (subs_from blif at depth number base subs)) ≡ sum_by (λ (s : SubLine). inner_count blif depth (model_at blif (model_numbered blif s.model)) (formals s)) subs
numbered_long blif depth f long at path number base k [] = refl
numbered_long blif depth f long at path number base k (s ∷ subs) =
    let sum = sum_by-cons (λ (s : SubLine). inner_count blif depth (model_at blif (model_numbered blif s.model)) (formals s)) s subs in
    let next = base + inner_count blif depth (model_at blif (model_numbered blif s.model)) (formals s) in
    let both = length-append (f (placed blif at number base s) (path ++ k ∷ [])) (numbered_bits f path (suc k) (subs_from blif at depth (suc number) next subs)) in
    let first = long (placed blif at number base s) (path ++ k ∷ []) in
    let rest = numbered_long blif depth f long at path (suc number) next (suc k) subs in omega (arith, sum, both, first, rest)

pub bits_long : (modules : List Module) (bits : List ℕ → List ℕ → Bool) (depth : ℕ) → IsLong (blif_of modules) depth (bits_in modules bits depth)
bits_long modules bits zero q path = length-map (inner_signals (model_at (blif_of modules) q.model) q.tied) (with_own (bits path) (entries_at modules q.model))
bits_long modules bits (suc depth) q path =
    let blif = blif_of modules in
    let both = length-append (place_bits modules bits q path) (numbered_bits (bits_in modules bits depth) path 0 (subs_at blif depth q)) in
    let own = length-map (inner_signals (model_at blif q.model) q.tied) (with_own (bits path) (entries_at modules q.model)) in
    let rest = numbered_long blif depth (bits_in modules bits depth) (bits_long modules bits depth) q path 0 (q.base + length (inner_signals (model_at blif q.model) q.tied)) 0 (model_at blif q.model).subs in
    omega (arith, both, own, rest)

-- ---- where they stand

-- a part of a list, from this place on
abbrev pub IsSlice : List Bool → ℕ → List Bool → Type 0
IsSlice all base part = (j : ℕ) (b : Bool) → At part j b → At all (base + j) b

pub whole_slice : (all : List Bool) → IsSlice all 0 all
whole_slice all j b e = subst (λ k. At all k b) (plus j) e where
  plus : (j : ℕ) → j ≡ 0 + j
  plus j = omega arith

later_slice : (all : List Bool) (base n : ℕ) (xs ys : List Bool) → length xs ≡ n → IsSlice all base (xs ++ ys) → IsSlice all (base + n) ys
later_slice all base n xs ys long h j b e = subst (λ k. At all k b) (plus base n (length xs) j long) (h (length xs + j) b (at_back xs ys j b e)) where
  plus : (base n k j : ℕ) → k ≡ n → base + (k + j) ≡ base + n + j
  plus base n k j e = omega (arith, e)

numbered_slice : (all : List Bool) (blif : Blif) (depth : ℕ) (f : ModelPlace → List ℕ → List Bool) → IsLong blif depth f → (at : ModelPlace) (path : List ℕ) (number base : ℕ) (subs : List SubLine)
    → IsSlice all base (numbered_bits f path number (subs_from blif at depth number base subs)) → (i : ℕ) (q : ModelPlace) → At (subs_from blif at depth number base subs) i q
    → IsSlice all q.base (f q (path ++ (number + i) ∷ []))
numbered_slice all blif depth f long at path number base [] slice i q e = absurd (at_none i q e)
numbered_slice all blif depth f long at path number base (s ∷ subs) slice zero q e =
    let p = placed blif at number base s in
    let next = base + inner_count blif depth (model_at blif (model_numbered blif s.model)) (formals s) in
    let first : IsSlice all p.base (f p (path ++ number ∷ []))
    = λ j b a. slice j b (at_front (f p (path ++ number ∷ [])) (numbered_bits f path (suc number) (subs_from blif at depth (suc number) next subs)) j b a) in
    subst (λ (r : ModelPlace). IsSlice all r.base (f r (path ++ (number + 0) ∷ []))) (same_Some p q e) (subst (λ k. IsSlice all p.base (f p (path ++ k ∷ []))) (plus number) first) where
      plus : (n : ℕ) → n ≡ n + 0
      plus n = omega arith
numbered_slice all blif depth f long at path number base (s ∷ subs) slice (suc i) q e =
    let p = placed blif at number base s in
    let next = base + inner_count blif depth (model_at blif (model_numbered blif s.model)) (formals s) in
    subst (λ k. IsSlice all q.base (f q (path ++ k ∷ []))) (plus number i)
    (numbered_slice all blif depth f long at path (suc number) next subs
    (later_slice all base (inner_count blif depth (model_at blif (model_numbered blif s.model)) (formals s)) (f p (path ++ number ∷ [])) (numbered_bits f path (suc number) (subs_from blif at depth (suc number) next subs))
    (long p (path ++ number ∷ [])) slice)
    i q e) where
      plus : (n i : ℕ) → suc n + i ≡ n + suc i
      plus n i = omega arith

-- those of a sub-model
pub sub_slice : (all : List Bool) (modules : List Module) (bits : List ℕ → List ℕ → Bool) (depth : ℕ) (at : ModelPlace) (path : List ℕ) → IsSlice all at.base (bits_in modules bits (suc depth) at path)
    → (i : ℕ) (q : ModelPlace) → At (subs_at (blif_of modules) depth at) i q → IsSlice all q.base (bits_in modules bits depth q (path ++ i ∷ []))
sub_slice all modules bits depth at path slice i q e =
    let blif = blif_of modules in
    let inner = inner_signals (model_at blif at.model) at.tied in
    subst (λ k. IsSlice all q.base (bits_in modules bits depth q (path ++ k ∷ []))) (plus i)
    (numbered_slice all blif depth (bits_in modules bits depth) (bits_long modules bits depth) at path 0 (at.base + length inner) (model_at blif at.model).subs
    (later_slice all at.base (length inner) (place_bits modules bits at path) (numbered_bits (bits_in modules bits depth) path 0 (subs_at blif depth at))
    (length-map inner (with_own (bits path) (entries_at modules at.model))) slice)
    i q e) where
      plus : (i : ℕ) → 0 + i ≡ i
      plus i = omega arith

-- those of the place itself
own_slice : (all : List Bool) (modules : List Module) (bits : List ℕ → List ℕ → Bool) (depth : ℕ) (at : ModelPlace) (path : List ℕ) → IsSlice all at.base (bits_in modules bits depth at path)
    → IsSlice all at.base (place_bits modules bits at path)
own_slice all modules bits zero at path slice = slice
own_slice all modules bits (suc depth) at path slice =
    λ j b e. slice j b (at_front (place_bits modules bits at path) (numbered_bits (bits_in modules bits depth) path 0 (subs_at (blif_of modules) depth at)) j b e)

-- a signal that is not tied has its bit
pub own_shown : (all : List Bool) (modules : List Module) (bits : List ℕ → List ℕ → Bool) (depth : ℕ) (at : ModelPlace) (path : List ℕ) (m : Module) → IsSlice all at.base (bits_in modules bits depth at path)
    → At modules at.model m → (x : List ℕ) → has_name at.tied x ≡ false → has_name (inner_signals (model_at (blif_of modules) at.model) at.tied) x ≡ true
    → At all (signal_at (blif_of modules) at x) (with_own (bits path) m.entries x)
own_shown all modules bits depth at path m slice is x free e =
    let inner = inner_signals (model_at (blif_of modules) at.model) at.tied in
    let there : At inner (number_among inner x) x = placed_at inner x (number_among inner x) (place_number inner x e) in
    let entries : entries_at modules at.model ≡ m.entries = ap (λ o. unwrap_or (option_map (λ (y : Module). y.entries) o) []) is in
    let bit : At (place_bits modules bits at path) (number_among inner x) (with_own (bits path) m.entries x)
    = map_at (with_own (bits path) (entries_at modules at.model)) inner (number_among inner x) x there ∙ ap (λ es. Some (with_own (bits path) es x)) entries in
    let number : signal_at (blif_of modules) at x ≡ at.base + number_among inner x
    = ap₂ (λ (o k : Option ℕ). unwrap_or (option_map (λ (j : ℕ). unwrap_or (slice_get at.ties j) 0) o) (at.base + unwrap_or k 0)) (place_none at.tied x free) (place_number inner x e) in
    subst (λ k. At all k (with_own (bits path) m.entries x)) (sym number) (own_slice all modules bits depth at path slice (number_among inner x) (with_own (bits path) m.entries x) bit)
