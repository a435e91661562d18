-- What depths show after so many rounds.
use Rattle.std.proofs.Common.{◌≡◌, ◌<◌, ◌≤◌, ◌+◌, ◌-◌, ◌∷◌, inl, inr, [], ℕ, zero, suc, List, Bool, true, false, map, length, get_or, Some, refl, ap, ap₂, ◌&&◌, sym, ◌∙◌, subst, arith, add-one}
use Rattle.std.specs.Prelude.{nat_le, slice_get}
use Rattle.std.specs.List.{list_all}
use Rattle.std.proofs.lemmas.Bool.{and_parts, cases_lt, leb-true, leb-false}
use Rattle.std.proofs.lemmas.List.{length-map}
use Rattle.vrt_model.specs.Lists.{Among, At}
use Rattle.vrt_model.specs.Nesting.{ContainsItself, IsWithin, depth_in, directly, further, greatest}
use Rattle.nesting.specs.Depths.{AreDepths, AreInside, depth_over, in_list}
use Rattle.nesting.specs.First.{AreFounded, AreShallow, AreWithin}

-- ---- greatest numbers

greatest_least : (f : ℕ → ℕ) (xs : List ℕ) (i x : ℕ) → slice_get xs i ≡ Some x → f x ≤ greatest (map f xs)
greatest_least f [] i x e = cc
greatest_least f (y ∷ xs) zero x e = let same : y ≡ x = cc in let fs : f y ≡ f x = ap f same in omega arith
greatest_least f (y ∷ xs) (suc i) x e = let rest = greatest_least f xs i x e in omega arith

greatest_over : (f g : ℕ → ℕ) (k : ℕ) → ((x : ℕ) → k < f x → k < g x) → (xs : List ℕ) → k < greatest (map f xs) → k < greatest (map g xs)
greatest_over f g k over [] lt = absurd (omega arith)
greatest_over f g k over (x ∷ xs) lt =
    elim (cases_lt k (f x)) [
      | inl above ↦ let there : k < g x = over x above in omega arith
      | inr below ↦ let rest : k < greatest (map g xs) = greatest_over f g k over xs (omega arith) in omega arith
    ]

greatest_bound : (f : ℕ → ℕ) (b : ℕ) → ((x : ℕ) → f x ≤ b) → (xs : List ℕ) → greatest (map f xs) ≤ b
greatest_bound f b bound [] = omega arith
greatest_bound f b bound (x ∷ xs) = let here : f x ≤ b = bound x in let rest : greatest (map f xs) ≤ b = greatest_bound f b bound xs in omega arith

-- ---- depths

depth_bound : (inner : ℕ → List ℕ) (k n : ℕ) → depth_in inner k n ≤ k + 1
depth_bound inner zero n = omega arith
depth_bound inner (suc k) n = let rest : greatest (map (depth_in inner k) (inner n)) ≤ k + 1 = greatest_bound (depth_in inner k) (k + 1) (depth_bound inner k) (inner n) in omega arith

-- what is deep after any number of rounds is so after fewer
deep_at : (inner : ℕ → List ℕ) (j k n : ℕ) → k < depth_in inner j n → k < depth_in inner k n
deep_at inner j zero n lt = omega arith
deep_at inner zero (suc k) n lt = absurd (omega arith)
deep_at inner (suc j) (suc k) n lt =
    let rest : k < greatest (map (depth_in inner k) (inner n)) = greatest_over (depth_in inner j) (depth_in inner k) k (λ x. deep_at inner j k x) (inner n) (omega arith) in omega arith

over : (inner : ℕ → List ℕ) (k m l : ℕ) → Among (inner m) l → k < depth_in inner k l → suc k < depth_in inner (suc k) m
over inner k m l a lt = let le : depth_in inner k l ≤ greatest (map (depth_in inner k) (inner m)) = greatest_least (depth_in inner k) (inner m) a.0 l a.1 in omega arith

-- what contains itself is deep after any number of rounds
pub deep_within : (inner : ℕ → List ℕ) (n : ℕ) → ContainsItself inner n → (k m : ℕ) → IsWithin inner n m → k < depth_in inner k m
deep_within inner n self zero m w = omega arith
deep_within inner n self (suc k) m (directly a) = over inner k m n a (deep_within inner n self k n self)
deep_within inner n self (suc k) m (further {l} a w) = over inner k m l a (deep_within inner n self k l w)

-- ---- none is deep

-- what is no deeper than so many levels does not contain itself
pub not_itself : (inner : List (List ℕ)) (k : ℕ) (depths : List ℕ) (n : ℕ) → AreDepths inner k depths → n < length inner → get_or depths n 0 ≤ k → ContainsItself (in_list inner) n → ⊥
not_itself inner k depths n are lt le self =
    let deep : k < depth_in (in_list inner) k n = deep_within (in_list inner) n self k n self in
    absurd (omega (arith, deep, le, are.each n lt))

founded : (children : ℕ → List ℕ) (count k : ℕ) → ((n : ℕ) → n < count → depth_in children k n ≤ k) → AreFounded children count
founded children count k shallow n lt self =
    let deep : k < depth_in children k n = deep_within children n self k n self in
    let le : depth_in children k n ≤ k = shallow n lt in
    absurd (omega (arith, deep, le))

limited : (children : ℕ → List ℕ) (count k : ℕ) → ((n : ℕ) → n < count → depth_in children k n ≤ k) → AreWithin children count k
limited children count k shallow n lt =
    elim (cases_lt k (depth_in children count n)) [
      | inl deep ↦
          let here : k < depth_in children k n = deep_at children count k n deep in
          let le : depth_in children k n ≤ k = shallow n lt in
          absurd (omega (arith, here, le))
      | inr le ↦ le
    ]

-- ---- tables of depths

pub past : (xs : List ℕ) (n : ℕ) → length xs ≤ n → get_or xs n 0 ≡ 0
past [] n le = refl
past (x ∷ xs) zero le = absurd (omega arith)
past (x ∷ xs) (suc n) le = past xs n (omega arith)

over_at : (f : List ℕ → ℕ) (xs : List (List ℕ)) (n : ℕ) → n < length xs → get_or (map f xs) n 0 ≡ f (get_or xs n [])
over_at f [] n lt = absurd (omega arith)
over_at f (x ∷ xs) zero lt = refl
over_at f (x ∷ xs) (suc n) lt = over_at f xs n (omega arith)

same_on : (f g : ℕ → ℕ) (xs : List ℕ) → ((i n : ℕ) → At xs i n → f n ≡ g n) → map f xs ≡ map g xs
same_on f g [] same = refl
same_on f g (x ∷ xs) same = ap₂ ◌∷◌ (same 0 x refl) (same_on f g xs (λ i n e. same (suc i) n e))

pub first_depths : (inner : List (List ℕ)) (depths : List ℕ) → depths ≡ map (λ (numbers : List ℕ). 1) inner → AreDepths inner 0 depths
first_depths inner depths e = record {
  count = ap length e ∙ length-map inner (λ (numbers : List ℕ). 1);
  each = λ n lt. ap (λ (ds : List ℕ). get_or ds n 0) e ∙ over_at (λ (numbers : List ℕ). 1) inner n lt;
}

-- depths after few rounds are small
pub small : (inner : List (List ℕ)) (k : ℕ) (depths given : List ℕ) → k < 5000 → given ≡ depths → AreDepths inner k depths → (n : ℕ) → get_or given n 0 ≤ 8192
small inner k depths given few same are n = subst (λ (ds : List ℕ). get_or ds n 0 ≤ 8192) (sym same) by_place where
  by_place : get_or depths n 0 ≤ 8192
  by_place = elim (cases_lt n (length inner)) [
    | inl lt ↦ omega (arith, few, are.each n lt, depth_bound (in_list inner) k n)
    | inr le ↦ omega (arith, past depths n (omega (arith, le, are.count)))
  ]

next_at : (inner : List (List ℕ)) (k n : ℕ) (depths : List ℕ) → AreInside inner → AreDepths inner k depths → depth_over depths (in_list inner n) ≡ depth_in (in_list inner) (k + 1) n
next_at inner k n depths inside are =
    ap (λ (ds : List ℕ). suc (greatest ds)) (same_on (λ c. get_or depths c 0) (depth_in (in_list inner) k) (in_list inner n) (λ i c e. are.each c (inside n c (i, e))))
    ∙ ap (λ j. depth_in (in_list inner) j n) (sym (add-one k))

-- one round more
pub next_depths : (inner : List (List ℕ)) (k : ℕ) (depths given next : List ℕ) → AreInside inner → AreDepths inner k depths → given ≡ depths → next ≡ map (depth_over given) inner → AreDepths inner (k + 1) next
next_depths inner k depths given next inside are same e = record {
  count = ap length e ∙ length-map inner (depth_over given);
  each =
      λ n lt.
      ap (λ (ds : List ℕ). get_or ds n 0) (e ∙ ap (λ (ds : List ℕ). map (depth_over ds) inner) same) ∙ over_at (depth_over depths) inner n lt ∙ next_at inner k n depths inside are;
}

-- ---- rounds until nothing changes

steady : (inner : List (List ℕ)) (k : ℕ) → AreInside inner → ((n : ℕ) → n < length inner → depth_in (in_list inner) (suc k) n ≡ depth_in (in_list inner) k n)
    → (j n : ℕ) → n < length inner → depth_in (in_list inner) (j + k) n ≡ depth_in (in_list inner) k n
steady inner k inside fixed zero n lt = ap (λ j. depth_in (in_list inner) j n) (zero_plus k) where
  zero_plus : (k : ℕ) → 0 + k ≡ k
  zero_plus k = omega arith
steady inner k inside fixed (suc j) n lt =
    ap (λ i. depth_in (in_list inner) i n) (plus_suc j k)
    ∙ ap (λ (ds : List ℕ). suc (greatest ds))
    (same_on (depth_in (in_list inner) (j + k)) (depth_in (in_list inner) k) (in_list inner n) (λ i c e. steady inner k inside fixed j c (inside n c (i, e))))
    ∙ fixed n lt where
      plus_suc : (j k : ℕ) → suc j + k ≡ suc (j + k)
      plus_suc j k = omega arith

fixed_at : (inner : List (List ℕ)) (k : ℕ) (depths next : List ℕ) → AreDepths inner k depths → AreDepths inner (k + 1) next → next ≡ depths → (n : ℕ) → n < length inner
    → depth_in (in_list inner) (suc k) n ≡ depth_in (in_list inner) k n
fixed_at inner k depths next are are' same n lt =
    ap (λ j. depth_in (in_list inner) j n) (sym (add-one k)) ∙ sym (are'.each n lt) ∙ ap (λ (ds : List ℕ). get_or ds n 0) same ∙ are.each n lt

settled_at : (children : ℕ → List ℕ) (count k n : ℕ) → k ≤ count → ((j n : ℕ) → n < count → depth_in children (j + k) n ≡ depth_in children k n)
    → n < count → depth_in children k n ≡ depth_in children count n
settled_at children count k n le same lt =
    let sum : (count - k) + k ≡ count = omega (arith, le) in
    sym (same (count - k) n lt) ∙ ap (λ j. depth_in children j n) sum

-- a round that changes nothing ends them
pub settled : (inner : List (List ℕ)) (k : ℕ) (depths next a b : List ℕ) → AreInside inner → AreDepths inner k depths → AreDepths inner (k + 1) next → a ≡ next → b ≡ depths → a ≡ b → k < length inner
    → AreDepths inner (length inner) next
settled inner k depths next a b inside are are' an bd ab lt =
    let same : next ≡ depths = sym an ∙ ab ∙ bd in record {
      count = are'.count;
      each = λ n l.
          ap (λ (ds : List ℕ). get_or ds n 0) same ∙ are.each n l
          ∙ settled_at (in_list inner) (length inner) k n (omega (arith, lt)) (steady inner k inside (fixed_at inner k depths next are are' same)) l;
    }

-- ---- the answer

all_at : (limit : ℕ) (ds : List ℕ) → list_all (λ d. nat_le d limit) ds ≡ true → (n : ℕ) → n < length ds → get_or ds n 0 ≤ limit
all_at limit [] e n lt = absurd (omega arith)
all_at limit (d ∷ ds) e zero lt = leb-true d limit (and_parts (nat_le d limit) (list_all (λ d. nat_le d limit) ds) e).0
all_at limit (d ∷ ds) e (suc n) lt = all_at limit ds (and_parts (nat_le d limit) (list_all (λ d. nat_le d limit) ds) e).1 n (omega arith)

not_all : (limit : ℕ) (ds : List ℕ) → list_all (λ d. nat_le d limit) ds ≡ false → (n : ℕ) × (n < length ds) × (limit < get_or ds n 0)
not_all limit [] e = cc
not_all limit (d ∷ ds) e = by_test (nat_le d limit) refl (not_all limit ds) e where
  by_test : (b : Bool) → nat_le d limit ≡ b → (list_all (λ d. nat_le d limit) ds ≡ false → (n : ℕ) × (n < length ds) × (limit < get_or ds n 0)) → (b && list_all (λ d. nat_le d limit) ds) ≡ false
      → (n : ℕ) × (n < suc (length ds)) × (limit < get_or (d ∷ ds) n 0)
  by_test true h rest e = let r = rest e in (suc r.0, omega (arith, r.1), r.2)
  by_test false h rest e = (0, omega arith, leb-false d limit h)

pub shallow_all : (inner : List (List ℕ)) (limit : ℕ) (depths given : List ℕ) → AreDepths inner limit depths → given ≡ depths → list_all (λ d. nat_le d limit) given ≡ true
    → AreShallow (in_list inner) (length inner) limit
shallow_all inner limit depths given are same e =
    let le : (n : ℕ) → n < length inner → depth_in (in_list inner) limit n ≤ limit =
    λ n lt. let at = all_at limit depths (ap (list_all (λ d. nat_le d limit)) (sym same) ∙ e) n (omega (arith, lt, are.count)) in omega (arith, at, are.each n lt) in
    record { founded = founded (in_list inner) (length inner) limit le; within = limited (in_list inner) (length inner) limit le }

pub some_deep : (inner : List (List ℕ)) (limit : ℕ) (depths given : List ℕ) → AreDepths inner limit depths → given ≡ depths → list_all (λ d. nat_le d limit) given ≡ false
    → (n : ℕ) × (n < length inner) × (limit < depth_in (in_list inner) limit n)
some_deep inner limit depths given are same e =
    let found = not_all limit depths (ap (list_all (λ d. nat_le d limit)) (sym same) ∙ e) in
    let lt : found.0 < length inner = omega (arith, found.1, are.count) in
    (found.0, lt, omega (arith, found.2, are.each found.0 lt))
