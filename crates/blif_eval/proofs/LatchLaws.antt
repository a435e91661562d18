-- The elements of latches: their numbers, and what they are parts of.
use Rattle.std.proofs.Common.{◌≡◌, ℕ, zero, suc, ◌+◌, ◌<◌, ◌≤◌, ◌⊎◌, ◌∷◌, [], List, Some, length, length-append, take, arith, ap, subst, sym, refl, ◌∙◌, inl, inr}
use Rattle.std.specs.Prelude.{flat_map, sum_by}
use Rattle.std.proofs.lemmas.List.Sums.{sum_by-cons}
use Rattle.std.proofs.lemmas.Option.{none-some, same_Some}
use Rattle.blif_eval.proofs.Drivers.{latch_is}
use Rattle.blif_eval.specs.Drivers.{count_before, node_count}
use Rattle.vrt_model.proofs.Members.{among_flat_map, flat_map_among}
use Rattle.vrt_model.proofs.ElementCounts.{names_count}
use Rattle.vrt_model.specs.Elements.{Numbered, element_count, element_names, names_by_kind, numbered_from, numbered_latches, signal_name}
use Rattle.vrt_model.specs.FlatModels.{IsControl, IsFlatModel}
use Rattle.vrt_model.specs.Lists.{At, Among}
use Rattle.vrt_model.specs.ModelArcs.{Part, last_by, parts_by, parts_of}
use Rattle.vrt_model.specs.declared.blif.LatchKind.{LatchKind}
use Rattle.vrt_model.specs.declared.blif.LatchKind.TheVariants.{Re, Fe, Ah, Al}
use Rattle.vrt_model.specs.declared.flat_model.FlatLatch.{FlatLatch}
use Rattle.vrt_model.specs.declared.flat_model.FlatModel.{FlatModel}

-- ---- the numbers of latches

abbrev counts_of : List FlatLatch → ℕ
counts_of ls = sum_by (λ (l : FlatLatch). element_count l.kind) ls

numbered_from_at : (n : ℕ) (ls : List FlatLatch) (i : ℕ) (l : FlatLatch) → At ls i l
    → (first : ℕ) → first ≡ n + count_before ls i → At (numbered_from n ls) i (record { first = first; latch = l })
numbered_from_at n [] i l e first is = absurd (none-some l e)
numbered_from_at n (k ∷ ls) zero l e first is =
    let none : count_before (k ∷ ls) 0 ≡ 0 = refl in
    let same : n ≡ first = omega (arith, is, none) in
    ap (λ (x : ℕ). Some (let r : Numbered = record { first = x; latch = k } in r)) same ∙ ap (λ (x : FlatLatch). Some (let r : Numbered = record { first = first; latch = x } in r)) (same_Some k l e)
numbered_from_at n (k ∷ ls) (suc i) l e first is =
    let more = sum_by-cons (λ (x : FlatLatch). element_count x.kind) k (take i ls) in
    numbered_from_at (n + element_count k.kind) ls i l e first (omega (arith, is, more))

-- the latch at a place has the number of the elements before
pub numbered_at : (flat : FlatModel) (i : ℕ) (l : FlatLatch) → At flat.latches i l → (first : ℕ) → first ≡ count_before flat.latches i
    → At (numbered_latches flat) i (record { first = first; latch = l })
numbered_at flat i l e first is = numbered_from_at 0 flat.latches i l e first (omega (arith, is))

latch_from : (n : ℕ) (ls : List FlatLatch) (i : ℕ) (l : Numbered) → At (numbered_from n ls) i l → At ls i l.latch
latch_from n [] i l e = absurd (none-some l e)
latch_from n (k ∷ ls) zero l e = ap (λ (x : Numbered). Some x.latch) (same_Some (record { first = n; latch = k }) l e)
latch_from n (k ∷ ls) (suc i) l e = latch_from (n + element_count k.kind) ls i l e

-- a numbered latch is the one at its place
pub latch_of : (flat : FlatModel) (i : ℕ) (l : Numbered) → At (numbered_latches flat) i l → At flat.latches i l.latch
latch_of flat i l e = latch_from 0 flat.latches i l e

pub latch_among : (flat : FlatModel) (l : Numbered) → Among (numbered_latches flat) l → Among flat.latches l.latch
latch_among flat l m = (m.0, latch_of flat m.0 l m.1)

within_from : (n : ℕ) (ls : List FlatLatch) (i : ℕ) (l : Numbered) → At (numbered_from n ls) i l → l.first + element_count l.latch.kind ≤ n + counts_of ls
within_from n [] i l e = absurd (none-some l e)
within_from n (k ∷ ls) zero l e =
    let is = same_Some (record { first = n; latch = k }) l e in
    let sum = sum_by-cons (λ (x : FlatLatch). element_count x.kind) k ls in
    subst (λ (x : Numbered). x.first + element_count x.latch.kind ≤ n + counts_of (k ∷ ls)) is (omega (arith, sum))
within_from n (k ∷ ls) (suc i) l e =
    let rest = within_from (n + element_count k.kind) ls i l e in
    let sum = sum_by-cons (λ (x : FlatLatch). element_count x.kind) k ls in
    omega (arith, rest, sum)

names_of : (flat : FlatModel) (ls : List FlatLatch) → length (flat_map (λ (l : FlatLatch). names_by_kind l.kind (signal_name flat l.output)) ls) ≡ counts_of ls
names_of flat [] = refl
names_of flat (l ∷ ls) =
    let rest = names_of flat ls in
    let here = names_count l.kind (signal_name flat l.output) in
    let sum = sum_by-cons (λ (x : FlatLatch). element_count x.kind) l ls in
    let parts = length-append (names_by_kind l.kind (signal_name flat l.output)) (flat_map (λ (x : FlatLatch). names_by_kind x.kind (signal_name flat x.output)) ls) in
    omega (arith, rest, here, sum, parts)

-- there are as many names as elements
pub names_length : (flat : FlatModel) → length (element_names flat) ≡ counts_of flat.latches
names_length flat = names_of flat flat.latches

take_all : {X : Type 0} (xs : List X) → take (length xs) xs ≡ xs
take_all [] = refl
take_all (x ∷ xs) = ap (λ ys. x ∷ ys) (take_all xs)

pub names_before : (flat : FlatModel) → count_before flat.latches (length flat.latches) ≡ length (element_names flat)
names_before flat = ap counts_of (take_all flat.latches) ∙ sym (names_length flat)

two_each : (ls : List FlatLatch) → counts_of ls ≤ length ls + length ls
two_each [] = omega arith
two_each (l ∷ ls) =
    let rest = two_each ls in
    let sum = sum_by-cons (λ (x : FlatLatch). element_count x.kind) l ls in
    let most = by_kind l.kind in
    omega (arith, rest, sum, most)
  where
    by_kind : (kind : LatchKind) → element_count kind ≤ 2
    by_kind Re = omega arith
    by_kind Fe = omega arith
    by_kind Ah = omega arith
    by_kind Al = omega arith

-- at most two elements for each latch
pub names_few : (flat : FlatModel) → length (element_names flat) ≤ length flat.latches + length flat.latches
names_few flat = let is = names_length flat in let most = two_each flat.latches in omega (arith, is, most)

-- ---- parts

one_among : {X : Type 0} (x y : X) → Among (x ∷ []) y → x ≡ y
one_among x y (zero, e) = same_Some x y e
one_among x y (suc i, e) = absurd (none-some y e)

-- where a part of a latch stands
pub record IsPartAt (signals : ℕ) (l : Numbered) (part : Part) : Type 0 where
  pub latch : part.latch ≡ l.latch
  pub element : ℕ
  pub number : part.number ≡ signals + element
  pub from : l.first ≤ element
  pub below : element < l.first + element_count l.latch.kind
  pub source : (part.source ≡ l.latch.input) ⊎ (part.source ≡ signals + l.first)

part_at : (signals : ℕ) (l : Numbered) (kind : LatchKind) (part : Part) → l.latch.kind ≡ kind → Among (parts_by signals l kind) part → IsPartAt signals l part
part_at signals l Ah part is m = subst (IsPartAt signals l) (one_among _ part m) (record {
  latch = refl;
  element = l.first;
  number = refl;
  from = omega arith;
  below = let n = ap element_count is in omega (arith, n);
  source = inl refl;
})
part_at signals l Al part is m = subst (IsPartAt signals l) (one_among _ part m) (record {
  latch = refl;
  element = l.first;
  number = refl;
  from = omega arith;
  below = let n = ap element_count is in omega (arith, n);
  source = inl refl;
})
part_at signals l Re part is (zero, e) = subst (IsPartAt signals l) (same_Some _ part e) (record {
  latch = refl;
  element = l.first;
  number = refl;
  from = omega arith;
  below = let n = ap element_count is in omega (arith, n);
  source = inl refl;
})
part_at signals l Re part is (suc i, e) = subst (IsPartAt signals l) (one_among _ part (i, e)) (record {
  latch = refl;
  element = l.first + 1;
  number = omega arith;
  from = omega arith;
  below = let n = ap element_count is in omega (arith, n);
  source = inr refl;
})
part_at signals l Fe part is (zero, e) = subst (IsPartAt signals l) (same_Some _ part e) (record {
  latch = refl;
  element = l.first;
  number = refl;
  from = omega arith;
  below = let n = ap element_count is in omega (arith, n);
  source = inl refl;
})
part_at signals l Fe part is (suc i, e) = subst (IsPartAt signals l) (one_among _ part (i, e)) (record {
  latch = refl;
  element = l.first + 1;
  number = omega arith;
  from = omega arith;
  below = let n = ap element_count is in omega (arith, n);
  source = inr refl;
})

-- the latch of a part, with its number
pub part_latch : (flat : FlatModel) (part : Part) → Among (parts_of flat) part
    → (l : Numbered) × Among (numbered_latches flat) l × Among (parts_by (length flat.signals) l l.latch.kind) part
part_latch flat part m = among_flat_map (λ (l : Numbered). parts_by (length flat.signals) l l.latch.kind) (numbered_latches flat) part m

pub latch_part : (flat : FlatModel) (l : Numbered) (part : Part) → Among (numbered_latches flat) l → Among (parts_by (length flat.signals) l l.latch.kind) part → Among (parts_of flat) part
latch_part flat l part m n = flat_map_among (λ (k : Numbered). parts_by (length flat.signals) k k.latch.kind) (numbered_latches flat) l part m n

-- what a part is by numbers
pub record HasRanges (flat : FlatModel) (part : Part) : Type 0 where
  pub latch : Among flat.latches part.latch
  pub control : IsControl (length flat.signals) part.latch.control
  pub source : part.source < node_count flat
  pub element : ℕ
  pub number : part.number ≡ length flat.signals + element
  pub below : element < length (element_names flat)

pub part_ranges : (flat : FlatModel) → IsFlatModel flat → (part : Part) → Among (parts_of flat) part → HasRanges flat part
part_ranges flat model part m =
    let signals = length flat.signals in
    let q = part_latch flat part m in
    let l : Numbered = q.0 in
    let is : IsPartAt signals l part = part_at signals l l.latch.kind part refl q.2 in
    let there : Among flat.latches l.latch = latch_among flat l q.1 in
    let range = latch_is flat model l.latch there in
    let within = within_from 0 flat.latches q.1.0 l q.1.1 in
    let names = names_length flat in
    record {
      latch = subst (Among flat.latches) (sym is.latch) there;
      control = subst (λ (k : FlatLatch). IsControl signals k.control) (sym is.latch) range.control;
      source = elim is.source [
        | inl e ↦ (let low = range.input in omega (arith, e, low))
        | inr e ↦ (let from = is.from in let below = is.below in omega (arith, e, from, below, within, names))
      ];
      element = is.element;
      number = is.number;
      below = let below = is.below in omega (arith, below, within, names);
    }

-- the last element of a latch stands among the elements
pub last_below : (flat : FlatModel) (l : Numbered) → Among (numbered_latches flat) l → last_by l.first l.latch.kind < length (element_names flat)
last_below flat l m =
    let within = within_from 0 flat.latches m.0 l m.1 in
    let names = names_length flat in
    let last = by_kind l.first l.latch.kind in
    omega (arith, within, names, last)
  where
    by_kind : (first : ℕ) (kind : LatchKind) → last_by first kind < first + element_count kind
    by_kind first Re = omega arith
    by_kind first Fe = omega arith
    by_kind first Ah = omega arith
    by_kind first Al = omega arith
