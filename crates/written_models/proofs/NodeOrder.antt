-- The nodes of functions stand behind those of their subfunctions, and each of the functions is there.
use Rattle.std.proofs.Common.{◌≡◌, ℕ, zero, suc, ◌+◌, ◌-◌, ◌≤◌, ◌<◌, ◌&&◌, ◌||◌, Bool, true, false, cond, List, [], ◌∷◌, ◌++◌, length, take, append_assoc, append-nil, arith, eqb, ap, refl, sym, subst, ◌∙◌, inl, inr}
use Rattle.std.specs.List.{list_all, list_any}
use Rattle.std.proofs.lemmas.Bool.{and_from, eq-eqb, false≢true, or_cases, or_left, or_right}
use Rattle.std.proofs.lemmas.Option.{none-some, same_Some}
use Rattle.vrt_model.proofs.Decidable.{same_bit_is}
use Rattle.vrt_model.proofs.Lists.{at_split}
use Rattle.vrt_model.specs.Lists.{Among, At, same_bit}
use Rattle.written_models.specs.Functions.{Function, Node, all_bits, are_same, fixed, is_constant, is_node, node_at, nodes_of, number_of, place_where, with_all_nodes, with_nodes}
use Rattle.written_models.specs.NodeLaws.{AreOrdered, IsPlaced, is_there}

-- ---- fronts of lists

take_front : {X : Type 0} (xs ys : List X) (i : ℕ) (x : X) → At xs i x → take i (xs ++ ys) ≡ take i xs
take_front [] ys i x e = absurd (none-some x e)
take_front (z ∷ xs) ys zero x e = refl
take_front (z ∷ xs) ys (suc i) x e = ap (λ rest. z ∷ rest) (take_front xs ys i x e)

take_whole : {X : Type 0} (xs ys : List X) → take (length xs) (xs ++ ys) ≡ xs
take_whole [] ys = refl
take_whole (x ∷ xs) ys = ap (λ rest. x ∷ rest) (take_whole xs ys)

-- ---- more nodes

any_more : {X : Type 0} (test : X → Bool) (xs ys : List X) → list_any test xs ≡ true → list_any test (xs ++ ys) ≡ true
any_more test [] ys e = absurd (false≢true e)
any_more test (x ∷ xs) ys e =
    elim (or_cases (test x) (list_any test xs) e) [
      | inl first ↦ or_left (test x) (list_any test (xs ++ ys)) first
      | inr later ↦ or_right (test x) (list_any test (xs ++ ys)) (any_more test xs ys later)
    ]

any_last : {X : Type 0} (test : X → Bool) (xs : List X) (y : X) → test y ≡ true → list_any test (xs ++ y ∷ []) ≡ true
any_last test [] y e = or_left (test y) false e
any_last test (x ∷ xs) y e = or_right (test x) (list_any test (xs ++ y ∷ [])) (any_last test xs y e)

cond_more : (c0 c1 same a b x y : Bool) → (a ≡ true → x ≡ true) → (b ≡ true → y ≡ true) → cond c0 true (cond c1 true (cond same a b)) ≡ true → cond c0 true (cond c1 true (cond same x y)) ≡ true
cond_more true c1 same a b x y f g e = refl
cond_more false true same a b x y f g e = refl
cond_more false false true a b x y f g e = f e
cond_more false false false a b x y f g e = g e

pub there_more : (left input : ℕ) (f : Function) (nodes more : List Node) → is_there left input f nodes ≡ true → is_there left input f (nodes ++ more) ≡ true
there_more zero input f nodes more e = refl
there_more (suc left) input f nodes more e =
    cond_more (is_constant (suc left) false f) (is_constant (suc left) true f) (are_same left (fixed false f) (fixed true f))
    (is_there left (suc input) (fixed false f) nodes) (list_any (is_node input (suc left) f) nodes)
    (is_there left (suc input) (fixed false f) (nodes ++ more)) (list_any (is_node input (suc left) f) (nodes ++ more))
    (there_more left (suc input) (fixed false f) nodes more) (any_more (is_node input (suc left) f) nodes more) e

-- ---- one function

-- nodes in order, to which some were added, and those of a function are there
record IsAdded (inputs left input : ℕ) (f : Function) (nodes new : List Node) : Type 0 where
  more : List Node
  is : new ≡ nodes ++ more
  ordered : AreOrdered inputs new
  there : is_there left input f new ≡ true

pub all_same : (f : Function) (xs : List (List Bool)) → list_all (λ bits. same_bit (f bits) (f bits)) xs ≡ true
all_same f [] = refl
all_same f (x ∷ xs) = and_from (same_bit (f x) (f x)) (list_all (λ bits. same_bit (f bits) (f bits)) xs) ((same_bit_is (f x) (f x)).1 refl) (all_same f xs)

is_itself : (input left : ℕ) (f : Function) → is_node input left f (node_at input left f) ≡ true
is_itself input left f =
    and_from (eqb input input && eqb left left) (are_same left f f) (and_from (eqb input input) (eqb left left) (eq-eqb input input refl) (eq-eqb left left refl)) (all_same f (all_bits left))

module _ (inputs left input : ℕ) (f : Function) (nodes : List Node) (fits : input + suc left ≡ inputs) (ordered : AreOrdered inputs nodes)
    (branch : (b : Bool) (old : List Node) → AreOrdered inputs old → IsAdded inputs left (suc input) (fixed b f) old (with_nodes left (suc input) (fixed b f) old)) where
  abbrev new_node : Node
  new_node = node_at input (suc left) f

  abbrev first : List Node
  first = with_nodes left (suc input) (fixed false f) nodes

  abbrev second : List Node
  second = with_nodes left (suc input) (fixed true f) first

  one : IsAdded inputs left (suc input) (fixed false f) nodes first
  one = branch false nodes ordered

  two : IsAdded inputs left (suc input) (fixed true f) first second
  two = branch true first one.ordered

  branch_there : (b : Bool) → is_there left (suc input) (fixed b f) second ≡ true
  branch_there true = two.there
  branch_there false =
      subst (λ (ns : List Node). is_there left (suc input) (fixed false f) ns ≡ true) (sym two.is) (there_more left (suc input) (fixed false f) first two.more one.there)

  new_placed : IsPlaced inputs new_node second
  new_placed = record {
    inputs_left = fits;
    some_left = omega arith;
    branches = λ b. (let less : suc left - 1 ≡ left = omega arith in subst (λ (l : ℕ). is_there l (suc input) (fixed b f) second ≡ true) (sym less) (branch_there b));
  }

  ordered_more : AreOrdered inputs (second ++ new_node ∷ [])
  ordered_more i node e =
      elim (at_split second new_node i node e) [
        | inl old ↦ subst (IsPlaced inputs node) (sym (take_front second (new_node ∷ []) i node old)) (two.ordered i node old)
        | inr new ↦
            let whole : take i (second ++ new_node ∷ []) ≡ second = ap (λ (n : ℕ). take n (second ++ new_node ∷ [])) new.0 ∙ take_whole second (new_node ∷ []) in
            subst (IsPlaced inputs node) (sym whole) (subst (λ (n : Node). IsPlaced inputs n second) (sym new.1) new_placed)
      ]

  -- what is there, by the tests of a function
  there_by : (c0 c1 same : Bool) → is_constant (suc left) false f ≡ c0 → is_constant (suc left) true f ≡ c1 → are_same left (fixed false f) (fixed true f) ≡ same → (ns : List Node)
      → cond c0 true (cond c1 true (cond same (is_there left (suc input) (fixed false f) ns) (list_any (is_node input (suc left) f) ns))) ≡ true → is_there (suc left) input f ns ≡ true
  there_by c0 c1 same e0 e1 es ns t =
      subst (λ (x : Bool). cond x true (cond (is_constant (suc left) true f) true (cond (are_same left (fixed false f) (fixed true f)) (is_there left (suc input) (fixed false f) ns) (list_any (is_node input (suc left) f) ns))) ≡ true) (sym e0)
      (subst (λ (x : Bool). cond c0 true (cond x true (cond (are_same left (fixed false f) (fixed true f)) (is_there left (suc input) (fixed false f) ns) (list_any (is_node input (suc left) f) ns))) ≡ true) (sym e1)
      (subst (λ (x : Bool). cond c0 true (cond c1 true (cond x (is_there left (suc input) (fixed false f) ns) (list_any (is_node input (suc left) f) ns))) ≡ true) (sym es) t))

  by_tests : (c0 c1 same listed : Bool) → is_constant (suc left) false f ≡ c0 → is_constant (suc left) true f ≡ c1 → are_same left (fixed false f) (fixed true f) ≡ same
      → list_any (is_node input (suc left) f) nodes ≡ listed
      → IsAdded inputs (suc left) input f nodes (cond c0 nodes (cond c1 nodes (cond same first (cond listed nodes (second ++ new_node ∷ [])))))
  by_tests true c1 same listed e0 e1 es el = record { more = []; is = sym (append-nil nodes); ordered = ordered; there = there_by true c1 same e0 e1 es nodes refl }
  by_tests false true same listed e0 e1 es el = record { more = []; is = sym (append-nil nodes); ordered = ordered; there = there_by false true same e0 e1 es nodes refl }
  by_tests false false true listed e0 e1 es el = record { more = one.more; is = one.is; ordered = one.ordered; there = there_by false false true e0 e1 es first one.there }
  by_tests false false false true e0 e1 es el = record { more = []; is = sym (append-nil nodes); ordered = ordered; there = there_by false false false e0 e1 es nodes el }
  by_tests false false false false e0 e1 es el = record {
    more = one.more ++ (two.more ++ new_node ∷ []);
    is = ap (λ (ns : List Node). ns ++ new_node ∷ []) (two.is ∙ ap (λ (ns : List Node). ns ++ two.more) one.is) ∙ append_assoc (nodes ++ one.more) two.more (new_node ∷ []) ∙ append_assoc nodes one.more (two.more ++ new_node ∷ []);
    ordered = ordered_more;
    there = there_by false false false e0 e1 es (second ++ new_node ∷ []) (any_last (is_node input (suc left) f) second new_node (is_itself input (suc left) f));
  }

added : (inputs left input : ℕ) (f : Function) (nodes : List Node) → input + left ≡ inputs → AreOrdered inputs nodes → IsAdded inputs left input f nodes (with_nodes left input f nodes)
added inputs zero input f nodes fits ordered = record { more = []; is = sym (append-nil nodes); ordered = ordered; there = refl }
added inputs (suc left) input f nodes fits ordered =
    by_tests inputs left input f nodes fits ordered (λ b old o. added inputs left (suc input) (fixed b f) old (omega (arith, fits)) o)
    (is_constant (suc left) false f) (is_constant (suc left) true f) (are_same left (fixed false f) (fixed true f)) (list_any (is_node input (suc left) f) nodes) refl refl refl refl

-- ---- several functions

record AreAdded (inputs : ℕ) (fs : List Function) (nodes new : List Node) : Type 0 where
  more : List Node
  is : new ≡ nodes ++ more
  ordered : AreOrdered inputs new
  there : (f : Function) → Among fs f → is_there inputs 0 f new ≡ true

all_added : (inputs : ℕ) (fs : List Function) (nodes : List Node) → AreOrdered inputs nodes → AreAdded inputs fs nodes (with_all_nodes inputs fs nodes)
all_added inputs [] nodes ordered = record { more = []; is = sym (append-nil nodes); ordered = ordered; there = λ f m. absurd (none-some f m.1) }
all_added inputs (f ∷ fs) nodes ordered =
    let now = added inputs inputs 0 f nodes (omega arith) ordered in
    let rest = all_added inputs fs (with_nodes inputs 0 f nodes) now.ordered in
    record {
      more = now.more ++ rest.more;
      is = rest.is ∙ ap (λ (ns : List Node). ns ++ rest.more) now.is ∙ append_assoc nodes now.more rest.more;
      ordered = rest.ordered;
      there = each rest now;
    }
  where
    each : AreAdded inputs fs (with_nodes inputs 0 f nodes) (with_all_nodes inputs fs (with_nodes inputs 0 f nodes)) → IsAdded inputs inputs 0 f nodes (with_nodes inputs 0 f nodes)
        → (g : Function) → Among (f ∷ fs) g → is_there inputs 0 g (with_all_nodes inputs fs (with_nodes inputs 0 f nodes)) ≡ true
    each rest now g (zero, e) =
        subst (λ (h : Function). is_there inputs 0 h (with_all_nodes inputs fs (with_nodes inputs 0 f nodes)) ≡ true) (same_Some f g e)
        (subst (λ (ns : List Node). is_there inputs 0 f ns ≡ true) (sym rest.is) (there_more inputs 0 f (with_nodes inputs 0 f nodes) rest.more now.there))
    each rest now g (suc i, e) = rest.there g (i, e)

pub nodes_are_ordered : (inputs : ℕ) (fs : List Function) → AreOrdered inputs (nodes_of inputs fs) × ((f : Function) → Among fs f → is_there inputs 0 f (nodes_of inputs fs) ≡ true)
nodes_are_ordered inputs fs =
    let all = all_added inputs fs [] (λ i node e. absurd (none-some node e)) in (all.ordered, all.there)

-- ---- numbers

place_within : {X : Type 0} (test : X → Bool) (xs : List X) → list_any test xs ≡ true → place_where test xs < length xs
place_within test [] e = absurd (false≢true e)
place_within test (x ∷ xs) e = by_first (test x) e (place_within test xs)
  where
    by_first : (b : Bool) → (b || list_any test xs) ≡ true → (list_any test xs ≡ true → place_where test xs < length xs) → cond b 0 (suc (place_where test xs)) < suc (length xs)
    by_first true t later = omega arith
    by_first false t later = let lt = later t in omega (arith, lt)

constant_within : (b : Bool) (n : ℕ) → cond b 1 0 < 2 + n
constant_within true n = omega arith
constant_within false n = omega arith

number_by : (c0 c1 same : Bool) (there listed : Bool) (below place count : ℕ) → (there ≡ true → below < 2 + count) → (listed ≡ true → place < count)
    → cond c0 true (cond c1 true (cond same there listed)) ≡ true → cond c0 0 (cond c1 1 (cond same below (2 + place))) < 2 + count
number_by true c1 same there listed below place count f g e = omega arith
number_by false true same there listed below place count f g e = omega arith
number_by false false true there listed below place count f g e = f e
number_by false false false there listed below place count f g e = let lt = g e in omega (arith, lt)

pub numbers_are_within : (left input : ℕ) (f : Function) (nodes : List Node) → is_there left input f nodes ≡ true → number_of left input f nodes < 2 + length nodes
numbers_are_within zero input f nodes e = constant_within (f []) (length nodes)
numbers_are_within (suc left) input f nodes e =
    number_by (is_constant (suc left) false f) (is_constant (suc left) true f) (are_same left (fixed false f) (fixed true f))
    (is_there left (suc input) (fixed false f) nodes) (list_any (is_node input (suc left) f) nodes)
    (number_of left (suc input) (fixed false f) nodes) (place_where (is_node input (suc left) f) nodes) (length nodes)
    (numbers_are_within left (suc input) (fixed false f) nodes) (place_within (is_node input (suc left) f) nodes) e

-- more nodes do not change the number of a function that is there
place_more : {X : Type 0} (test : X → Bool) (xs ys : List X) → list_any test xs ≡ true → place_where test (xs ++ ys) ≡ place_where test xs
place_more test [] ys e = absurd (false≢true e)
place_more test (x ∷ xs) ys e = by_first (test x) e (place_more test xs ys)
  where
    by_first : (b : Bool) → (b || list_any test xs) ≡ true → (list_any test xs ≡ true → place_where test (xs ++ ys) ≡ place_where test xs) → cond b 0 (suc (place_where test (xs ++ ys))) ≡ cond b 0 (suc (place_where test xs))
    by_first true t later = refl
    by_first false t later = ap suc (later t)

same_number : (c0 c1 same there listed : Bool) (below more place behind : ℕ) → (there ≡ true → more ≡ below) → (listed ≡ true → behind ≡ place)
    → cond c0 true (cond c1 true (cond same there listed)) ≡ true → cond c0 0 (cond c1 1 (cond same more (2 + behind))) ≡ cond c0 0 (cond c1 1 (cond same below (2 + place)))
same_number true c1 same there listed below more place behind f g e = refl
same_number false true same there listed below more place behind f g e = refl
same_number false false true there listed below more place behind f g e = f e
same_number false false false there listed below more place behind f g e = ap (λ (n : ℕ). 2 + n) (g e)

pub number_more : (left input : ℕ) (f : Function) (nodes more : List Node) → is_there left input f nodes ≡ true → number_of left input f (nodes ++ more) ≡ number_of left input f nodes
number_more zero input f nodes more e = refl
number_more (suc left) input f nodes more e =
    same_number (is_constant (suc left) false f) (is_constant (suc left) true f) (are_same left (fixed false f) (fixed true f))
    (is_there left (suc input) (fixed false f) nodes) (list_any (is_node input (suc left) f) nodes)
    (number_of left (suc input) (fixed false f) nodes) (number_of left (suc input) (fixed false f) (nodes ++ more))
    (place_where (is_node input (suc left) f) nodes) (place_where (is_node input (suc left) f) (nodes ++ more))
    (number_more left (suc input) (fixed false f) nodes more) (place_more (is_node input (suc left) f) nodes more) e

pub take_short : {X : Type 0} (i : ℕ) (xs : List X) → length (take i xs) ≤ i
take_short zero xs = omega arith
take_short (suc i) [] = omega arith
take_short (suc i) (x ∷ xs) = let le = take_short i xs in omega (arith, le)
