-- The plain nets in the order of parts: they are listed once each, with their keys, and so they are when they are sorted.
use Rattle.std.proofs.Common.{◌≡◌, ℕ, zero, suc, ◌+◌, ◌<◌, true, false, List, [], ◌∷◌, ◌++◌, length, Some, arith, ap, refl, subst, sym, ◌∙◌, inl, inr, below_more}
use Rattle.std.specs.Prelude.{Contains}
use Rattle.std.specs.List.{IsDistinct, AllByRecursion}
use Rattle.std.specs.List.Sorted.{IsPermutation, IsSorted}
use Rattle.std.proofs.lemmas.Bool.{cases_eq, eq-eqb, false≢true, ne_eqb}
use Rattle.std.proofs.lemmas.List.Sorted.{Contains-permutation, IsPermutation-sym}
use Rattle.std.proofs.lemmas.Map.Keys.{IsDistinct-IsPermutation}
use Rattle.std.proofs.lemmas.Option.{get_or_from_slice_get, none-some, same_Some, slice_get-get_or, slice_get_within}
use Rattle.channel_parts.specs.Listings.{AreInOrder, ArePairs, key_of, order_cmp, same_net}
use Rattle.known_nets.proofs.NetKinds.{is_plain_is, plain_is}
use Rattle.known_nets.specs.Conduction.{is_plain_at}
use Rattle.vrt_model.proofs.Members.{among_either, among_later, among_left, among_right, at_none}
use Rattle.vrt_model.specs.Known.{IsPlain}
use Rattle.vrt_model.specs.Lists.{Among}
use Rattle.vrt_model.specs.declared.circuit.Circuit.{Circuit}

-- a net after its key
abbrev Keyed : Type 0
Keyed = (ℕ × ℕ) × ℕ

-- ---- one item more

all_last : (P : Keyed → Type 0) (xs : List Keyed) (x : Keyed) → AllByRecursion P xs → P x → AllByRecursion P (xs ++ x ∷ [])
all_last P [] x all p = (p, tt)
all_last P (y ∷ xs) x all p = (all.0, all_last P xs x all.1 p)

distinct_none : IsDistinct same_net []
unfolding IsDistinct
distinct_none = tt

distinct_last : (xs : List Keyed) (x : Keyed) → IsDistinct same_net xs → ((y : Keyed) → Among xs y → same_net y x ≡ false) → IsDistinct same_net (xs ++ x ∷ [])
unfolding IsDistinct
distinct_last [] x distinct other = (tt, tt)
distinct_last (y ∷ xs) x distinct other =
    (all_last (λ (z : Keyed). same_net y z ≡ false) xs x distinct.0 (other y (0, refl)), distinct_last xs x distinct.1 (λ z m. other z (among_later y xs z m)))

only_one : (x p : Keyed) → Among (x ∷ []) p → x ≡ p
only_one x p (zero, e) = same_Some x p e
only_one x p (suc i, e) = absurd (none-some p e)

-- ---- the plain nets before they are sorted

pub pairs_none : (c : Circuit) (ranks least : List ℕ) → ArePairs c ranks least 0 []
pairs_none c ranks least = record {
  distinct = distinct_none;
  all = λ n lt p. absurd (omega (arith, lt));
  each = λ p m. absurd (at_none m.0 p m.1);
}

-- a net that is not plain
pub pairs_kept : (c : Circuit) (ranks least : List ℕ) (net : ℕ) (pairs : List Keyed) → is_plain_at c net ≡ false → ArePairs c ranks least net pairs → ArePairs c ranks least (net + 1) pairs
pairs_kept c ranks least net pairs other are =
    let P : ℕ → Type 0 = λ n. IsPlain c n → Among pairs (key_of ranks least n, n) in
    record {
      distinct = are.distinct;
      all = below_more P net are.all (λ p. absurd (false≢true (sym other ∙ is_plain_is c net p)));
      each = λ p m. (let is = are.each p m in let lt = is.0 in (omega (arith, lt), is.1, is.2));
    }

-- a net that is
pub pairs_more : (c : Circuit) (ranks least : List ℕ) (net : ℕ) (pairs : List Keyed) → is_plain_at c net ≡ true → ArePairs c ranks least net pairs
    → ArePairs c ranks least (net + 1) (pairs ++ (key_of ranks least net, net) ∷ [])
pairs_more c ranks least net pairs plain are =
    let last : Keyed = (key_of ranks least net, net) in
    let P : ℕ → Type 0 = λ n. IsPlain c n → Among (pairs ++ last ∷ []) (key_of ranks least n, n) in
    let Q : Keyed → Type 0 = λ p. (p.1 < net + 1) × IsPlain c p.1 × (p.0 ≡ key_of ranks least p.1) in
    record {
      distinct = distinct_last pairs last are.distinct (λ y m. let lt = (are.each y m).0 in ne_eqb y.1 net (λ e. omega (arith, e, lt)));
      all = below_more P net
          (λ n lt p. among_left pairs (last ∷ []) (key_of ranks least n, n) (are.all n lt p))
          (λ p. among_right pairs (last ∷ []) last (0, refl));
      each = λ p m. elim (among_either pairs (last ∷ []) p m) [
        | inl before ↦ (let is = are.each p before in let lt = is.0 in (omega (arith, lt), is.1, is.2))
        | inr here ↦ subst Q (only_one last p here) (omega arith, plain_is c net plain, refl)
      ];
    }

-- ---- and after

pub among_contains : {X : Type 0} (xs : List X) (x : X) → Among xs x → Contains xs x
among_contains xs x m = (m.0, slice_get_within xs m.0 x m.1, get_or_from_slice_get xs m.0 x x m.1)

pub contains_among : {X : Type 0} (xs : List X) (x : X) → Contains xs x → Among xs x
contains_among xs x h = (h.0, slice_get-get_or xs h.0 x h.1 ∙ ap Some h.2)

flips : (x y : Keyed) → same_net x y ≡ same_net y x
flips x y =
    elim (cases_eq x.1 y.1) [
      | inl e ↦ eq-eqb x.1 y.1 e ∙ sym (eq-eqb y.1 x.1 (sym e))
      | inr ne ↦ ne_eqb x.1 y.1 ne ∙ sym (ne_eqb y.1 x.1 (λ e. ne (sym e)))
    ]

-- sorted, the pairs are the plain nets in their order
pub sorted_nets : (c : Circuit) (ranks least : List ℕ) (pairs nets : List Keyed) → ArePairs c ranks least (length c.nets) pairs → IsPermutation pairs nets → IsSorted order_cmp nets → AreInOrder c ranks least nets
sorted_nets c ranks least pairs nets are moved sorted = record {
  sorted = sorted;
  distinct = IsDistinct-IsPermutation same_net flips pairs nets moved are.distinct;
  all = λ n p. contains_among nets (key_of ranks least n, n)
      (Contains-permutation pairs nets (key_of ranks least n, n) moved
      (among_contains pairs (key_of ranks least n, n) (are.all n (slice_get_within c.nets n p.0 p.1) p)));
  each = λ p m.
      let before = are.each p (contains_among pairs p (Contains-permutation nets pairs p (IsPermutation-sym pairs nets moved) (among_contains nets p m))) in
      (before.1, before.2);
}
