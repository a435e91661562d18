-- The number of each function has its bit, where the constants and the nodes have theirs.
use Rattle.std.proofs.Common.{◌≡◌, ℕ, zero, suc, ◌+◌, ◌-◌, ◌&&◌, ◌||◌, Bool, true, false, cond, List, [], ◌∷◌, ◌++◌, length, map, drop, take, arith, eqb, ap, ap₂, refl, sym, subst, ◌∙◌}
use Rattle.std.specs.List.{list_all, list_any}
use Rattle.std.proofs.lemmas.Bool.{and_from, and_parts, eqb-true, false≢true}
use Rattle.vrt_model.proofs.Decidable.{same_bit_is}
use Rattle.vrt_model.specs.Lists.{Among, At, bit_at, same_bit}
use Rattle.written_models.proofs.NodeOrder.{nodes_are_ordered, there_more}
use Rattle.written_models.specs.Functions.{Function, Node, all_bits, are_same, branch_of, fixed, is_constant, is_node, nodes_of, number_of, place_where}
use Rattle.written_models.specs.NodeLaws.{HasNodeBits, is_there}

-- ---- all lists of bits

all_split : {X : Type 0} (p : X → Bool) (xs ys : List X) → list_all p (xs ++ ys) ≡ true → (list_all p xs ≡ true) × (list_all p ys ≡ true)
all_split p [] ys e = (refl, e)
all_split p (x ∷ xs) ys e =
    let both = and_parts (p x) (list_all p (xs ++ ys)) e in
    let rest = all_split p xs ys both.1 in
    (and_from (p x) (list_all p xs) both.0 rest.0, rest.1)

all_mapped : {X Y : Type 0} (p : Y → Bool) (g : X → Y) (xs : List X) → list_all p (map g xs) ≡ true → list_all (λ x. p (g x)) xs ≡ true
all_mapped p g [] e = refl
all_mapped p g (x ∷ xs) e = (let both = and_parts (p (g x)) (list_all p (map g xs)) e in and_from (p (g x)) (list_all (λ y. p (g y)) xs) both.0 (all_mapped p g xs both.1))

-- what passes at all lists of so many bits passes at each
all_at : (n : ℕ) (p : List Bool → Bool) (xs : List Bool) → list_all p (all_bits n) ≡ true → length xs ≡ n → p xs ≡ true
all_at zero p [] e l = (and_parts (p []) true e).0
all_at zero p (x ∷ xs) e l = absurd (omega (arith, l))
all_at (suc n) p [] e l = absurd (omega (arith, l))
all_at (suc n) p (false ∷ xs) e l =
    all_at n (λ bits. p (false ∷ bits)) xs
    (all_mapped p (λ bits. false ∷ bits) (all_bits n) (all_split p (map (λ bits. false ∷ bits) (all_bits n)) (map (λ bits. true ∷ bits) (all_bits n)) e).0) (omega (arith, l))
all_at (suc n) p (true ∷ xs) e l =
    all_at n (λ bits. p (true ∷ bits)) xs
    (all_mapped p (λ bits. true ∷ bits) (all_bits n) (all_split p (map (λ bits. false ∷ bits) (all_bits n)) (map (λ bits. true ∷ bits) (all_bits n)) e).1) (omega (arith, l))

constant_at : (n : ℕ) (b : Bool) (f : Function) (xs : List Bool) → is_constant n b f ≡ true → length xs ≡ n → f xs ≡ b
constant_at n b f xs e l = (same_bit_is (f xs) b).0 (all_at n (λ bits. same_bit (f bits) b) xs e l)

pub same_at : (n : ℕ) (f g : Function) (xs : List Bool) → are_same n f g ≡ true → length xs ≡ n → f xs ≡ g xs
same_at n f g xs e l = (same_bit_is (f xs) (g xs)).0 (all_at n (λ bits. same_bit (f bits) (g bits)) xs e l)

-- ---- the first that passes

picked : (b x y : Bool) (h : Bool → Bool) → x ≡ h true → y ≡ h false → cond b x y ≡ h b
picked true x y h e f = e
picked false x y h e f = f

first_or_later : {X : Type 0} (p : X → Bool) (x : X) (xs : List X) (b : Bool) → p x ≡ b → (b || list_any p xs) ≡ true
    → (list_any p xs ≡ true → (y : X) × At xs (place_where p xs) y × (p y ≡ true)) → (y : X) × At (x ∷ xs) (cond b 0 (suc (place_where p xs))) y × (p y ≡ true)
first_or_later p x xs true is e later = (x, refl, is)
first_or_later p x xs false is e later = later e

pub found : {X : Type 0} (p : X → Bool) (xs : List X) → list_any p xs ≡ true → (x : X) × At xs (place_where p xs) x × (p x ≡ true)
found p [] e = absurd (false≢true e)
found p (x ∷ xs) e = first_or_later p x xs (p x) refl e (λ t. found p xs t)

-- ---- the bits behind some

drop_all : (n : ℕ) (xs : List Bool) → length xs ≡ n → drop n xs ≡ []
drop_all zero [] e = refl
drop_all zero (x ∷ xs) e = absurd (omega (arith, e))
drop_all (suc n) [] e = refl
drop_all (suc n) (x ∷ xs) e = drop_all n xs (omega (arith, e))

drop_one : (n : ℕ) (xs : List Bool) (left : ℕ) → length xs ≡ n + suc left → drop n xs ≡ bit_at xs n ∷ drop (suc n) xs
drop_one n [] left e = absurd (omega (arith, e))
drop_one zero (x ∷ xs) left e = refl
drop_one (suc n) (x ∷ xs) left e = drop_one n xs left (omega (arith, e))

drop_length : (n : ℕ) (xs : List Bool) (left : ℕ) → length xs ≡ n + left → length (drop n xs) ≡ left
drop_length zero xs left e = omega (arith, e)
drop_length (suc n) [] left e = absurd (omega (arith, e))
drop_length (suc n) (x ∷ xs) left e = drop_length n xs left (omega (arith, e))

-- ---- one input

-- the subfunctions of each node are there
abbrev AreClosed : List Node → Type 0
AreClosed nodes = (node : Node) → Among nodes node → (b : Bool) → is_there (node.left - 1) (suc node.input) (fixed b node.function) nodes ≡ true

module _ (nodes : List Node) (bits : List Bool) (s : ℕ → Bool) (closed : AreClosed nodes) (obeys : HasNodeBits nodes bits s) where
  at_end : (b : Bool) → s (cond b 1 0) ≡ b
  at_end true = obeys.one
  at_end false = obeys.nought

  module _ (left input : ℕ) (f : Function) (len : length bits ≡ input + suc left)
      (branch : (g : Function) → is_there left (suc input) g nodes ≡ true → s (number_of left (suc input) g nodes) ≡ g (drop (suc input) bits)) where
    bits_are : (b : Bool) → bit_at bits input ≡ b → drop input bits ≡ b ∷ drop (suc input) bits
    bits_are b e = drop_one input bits left len ∙ ap (λ (x : Bool). x ∷ drop (suc input) bits) e

    full : length (drop input bits) ≡ suc left
    full = drop_length input bits (suc left) len

    short : length (drop (suc input) bits) ≡ left
    short = drop_length (suc input) bits left (omega (arith, len))

    unread : are_same left (fixed false f) (fixed true f) ≡ true → (b : Bool) → bit_at bits input ≡ b → f (false ∷ drop (suc input) bits) ≡ f (drop input bits)
    unread same false e = ap f (sym (bits_are false e))
    unread same true e = same_at left (fixed false f) (fixed true f) (drop (suc input) bits) same short ∙ ap f (sym (bits_are true e))

    node_shows : (i : ℕ) (n : Node) → At nodes i n → is_node input (suc left) f n ≡ true → s (2 + i) ≡ f (drop input bits)
    node_shows i n there is =
        let outer = and_parts (eqb n.input input && eqb n.left (suc left)) (are_same (suc left) n.function f) is in
        let inner = and_parts (eqb n.input input) (eqb n.left (suc left)) outer.0 in
        let e_input : n.input ≡ input = eqb-true n.input input inner.0 in
        let e_left : n.left ≡ suc left = eqb-true n.left (suc left) inner.1 in
        let less : n.left - 1 ≡ left = omega (arith, e_left) in
        let next : suc n.input ≡ suc input = ap suc e_input in
        let shows : (b : Bool) → s (branch_of nodes n b) ≡ n.function (b ∷ drop (suc input) bits) =
        λ b. ap s (ap₂ (λ (l k : ℕ). number_of l k (fixed b n.function) nodes) less next)
        ∙ branch (fixed b n.function) (sym (ap₂ (λ (l k : ℕ). is_there l k (fixed b n.function) nodes) less next) ∙ closed n (i, there) b) in
        let picks : (b : Bool) → bit_at bits input ≡ b → cond b (s (branch_of nodes n true)) (s (branch_of nodes n false)) ≡ n.function (drop input bits) =
        λ b e. picked b (s (branch_of nodes n true)) (s (branch_of nodes n false)) (λ (x : Bool). n.function (x ∷ drop (suc input) bits)) (shows true) (shows false)
        ∙ ap n.function (sym (bits_are b e)) in
        obeys.each i n there ∙ ap (λ (k : ℕ). cond (bit_at bits k) (s (branch_of nodes n true)) (s (branch_of nodes n false))) e_input
        ∙ picks (bit_at bits input) refl ∙ same_at (suc left) n.function f (drop input bits) outer.1 full

    one_input : (c0 c1 same : Bool) → is_constant (suc left) false f ≡ c0 → is_constant (suc left) true f ≡ c1 → are_same left (fixed false f) (fixed true f) ≡ same
        → cond c0 true (cond c1 true (cond same (is_there left (suc input) (fixed false f) nodes) (list_any (is_node input (suc left) f) nodes))) ≡ true
        → s (cond c0 0 (cond c1 1 (cond same (number_of left (suc input) (fixed false f) nodes) (2 + place_where (is_node input (suc left) f) nodes)))) ≡ f (drop input bits)
    one_input true c1 same e0 e1 es there = obeys.nought ∙ sym (constant_at (suc left) false f (drop input bits) e0 full)
    one_input false true same e0 e1 es there = obeys.one ∙ sym (constant_at (suc left) true f (drop input bits) e1 full)
    one_input false false true e0 e1 es there = branch (fixed false f) there ∙ unread es (bit_at bits input) refl
    one_input false false false e0 e1 es there =
        let n = found (is_node input (suc left) f) nodes there in node_shows (place_where (is_node input (suc left) f) nodes) n.0 n.1 n.2

  shows : (left input : ℕ) (f : Function) → is_there left input f nodes ≡ true → length bits ≡ input + left → s (number_of left input f nodes) ≡ f (drop input bits)
  shows zero input f there len = at_end (f []) ∙ ap f (sym (drop_all input bits (omega (arith, len))))
  shows (suc left) input f there len =
      one_input left input f len (λ g t. shows left (suc input) g t (omega (arith, len)))
      (is_constant (suc left) false f) (is_constant (suc left) true f) (are_same left (fixed false f) (fixed true f)) refl refl refl there

pub front_and_rest : (i : ℕ) (nodes : List Node) → nodes ≡ take i nodes ++ drop i nodes
front_and_rest zero nodes = refl
front_and_rest (suc i) [] = refl
front_and_rest (suc i) (node ∷ nodes) = ap (λ (ns : List Node). node ∷ ns) (front_and_rest i nodes)

pub numbers_show : (inputs : ℕ) (fs : List Function) (bits : List Bool) (bit : ℕ → Bool) → length bits ≡ inputs → HasNodeBits (nodes_of inputs fs) bits bit
    → (f : Function) → Among fs f → bit (number_of inputs 0 f (nodes_of inputs fs)) ≡ f bits
numbers_show inputs fs bits bit count has f there =
    let nodes = nodes_of inputs fs in
    let order = nodes_are_ordered inputs fs in
    let closed : AreClosed nodes =
    λ node m b. subst (λ (ns : List Node). is_there (node.left - 1) (suc node.input) (fixed b node.function) ns ≡ true) (sym (front_and_rest m.0 nodes))
    (there_more (node.left - 1) (suc node.input) (fixed b node.function) (take m.0 nodes) (drop m.0 nodes) ((order.0 m.0 node m.1).branches b)) in
    shows nodes bits bit closed has inputs 0 f (order.1 f there) (omega (arith, count))
