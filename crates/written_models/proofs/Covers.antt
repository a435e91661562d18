-- What holds of each cover of a written model: cover by cover, by its node or its output.
use Rattle.std.proofs.Common.{◌≡◌, ℕ, zero, suc, ◌+◌, Bool, true, List, [], ◌∷◌, ◌++◌, Some, arith, ap, refl, sym, subst, ◌∙◌, inl, inr}
use Rattle.std.specs.Prelude.{flat_map}
use Rattle.std.specs.List.{list_all}
use Rattle.std.proofs.lemmas.Bool.{and_parts, false≢true, or_cases, or_left, or_right}
use Rattle.std.proofs.lemmas.List.Folds.{list_any-append}
use Rattle.std.proofs.lemmas.Option.{none-some, same_Some}
use Rattle.std.proofs.lemmas.Slice.Eq.{bytes_eq-Decides}
use Rattle.plain_models.proofs.CardKinds.{Each, each_joined}
use Rattle.plain_models.specs.Texts.{PlainCover}
use Rattle.std.specs.Prelude.{bytes_eq}
use Rattle.vrt_model.specs.Lists.{Among, At, has_name}
use Rattle.written_models.specs.Functions.{Function, Node}
use Rattle.written_models.specs.Written.{constants, covers_of_nodes, covers_of_outputs, node_cover, output_cover}

-- ---- lists

pub at_each : {X : Type 0} (P : X → Type 0) (xs : List X) → Each P xs → (i : ℕ) (x : X) → At xs i x → P x
at_each P [] e i x at = absurd (none-some x at)
at_each P (y ∷ xs) e zero x at = subst P (same_Some y x at) e.0
at_each P (y ∷ xs) e (suc i) x at = at_each P xs e.1 i x at

pub among_each : {X : Type 0} (P : X → Type 0) (xs : List X) → Each P xs → (x : X) → Among xs x → P x
among_each P xs e x m = at_each P xs e m.0 x m.1

-- what holds of each of some names holds of a name that is there
pub named_each : (P : List ℕ → Type 0) (xs : List (List ℕ)) (name : List ℕ) → Each P xs → has_name xs name ≡ true → P name
named_each P [] name e t = absurd (false≢true t)
named_each P (x ∷ xs) name e t =
    elim (or_cases (bytes_eq name x) (has_name xs name) t) [
      | inl first ↦ subst P (sym ((bytes_eq-Decides name x).0 first)) e.0
      | inr later ↦ named_each P xs name e.1 later
    ]

pub named_passes : (test : List ℕ → Bool) (xs : List (List ℕ)) (name : List ℕ) → list_all test xs ≡ true → has_name xs name ≡ true → test name ≡ true
named_passes test [] name e t = absurd (false≢true t)
named_passes test (x ∷ xs) name e t =
    let both = and_parts (test x) (list_all test xs) e in
    elim (or_cases (bytes_eq name x) (has_name xs name) t) [
      | inl first ↦ subst (λ (n : List ℕ). test n ≡ true) (sym ((bytes_eq-Decides name x).0 first)) both.0
      | inr later ↦ named_passes test xs name both.1 later
    ]

-- a name at a place is there
pub at_named : (xs : List (List ℕ)) (i : ℕ) (name : List ℕ) → At xs i name → has_name xs name ≡ true
at_named [] i name e = absurd (none-some name e)
at_named (x ∷ xs) zero name e = or_left (bytes_eq name x) (has_name xs name) ((bytes_eq-Decides name x).1 (sym (same_Some x name e)))
at_named (x ∷ xs) (suc i) name e = or_right (bytes_eq name x) (has_name xs name) (at_named xs i name e)

-- a name of the joined lists of some items
pub joined_each : {X : Type 0} (P : List ℕ → Type 0) (g : X → List (List ℕ)) (xs : List X) (name : List ℕ) → Each (λ x. Each P (g x)) xs → has_name (flat_map g xs) name ≡ true → P name
joined_each P g [] name e t = absurd (false≢true t)
joined_each P g (x ∷ xs) name e t =
    elim (or_cases (has_name (g x) name) (has_name (flat_map g xs) name) (sym (list_any-append (bytes_eq name) (g x) (flat_map g xs)) ∙ t)) [
      | inl first ↦ named_each P (g x) name e.0 first
      | inr later ↦ joined_each P g xs name e.1 later
    ]

-- ---- covers

nodes_from : (P : PlainCover → Type 0) (variables : List (List ℕ)) (nodes : List Node) (k : ℕ) (rest : List Node)
    → ((i : ℕ) (node : Node) → At rest i node → P (node_cover variables nodes (k + i) node)) → Each P (covers_of_nodes variables nodes k rest)
nodes_from P variables nodes k [] f = tt
nodes_from P variables nodes k (node ∷ rest) f = (
  (let same : k + 0 ≡ k = omega arith in subst (λ (n : ℕ). P (node_cover variables nodes n node)) same (f 0 node refl)),
  nodes_from P variables nodes (suc k) rest (λ i other e. (let same : k + suc i ≡ suc k + i = omega arith in subst (λ (n : ℕ). P (node_cover variables nodes n other)) same (f (suc i) other e))),
)

pub each_node : (P : PlainCover → Type 0) (variables : List (List ℕ)) (nodes : List Node)
    → ((i : ℕ) (node : Node) → At nodes i node → P (node_cover variables nodes (2 + i) node)) → Each P (covers_of_nodes variables nodes 2 nodes)
each_node P variables nodes f = nodes_from P variables nodes 2 nodes f

pub each_output : (P : PlainCover → Type 0) (inputs : ℕ) (nodes : List Node) (names : List (List ℕ)) (fs : List Function)
    → ((i : ℕ) (name : List ℕ) (f : Function) → At names i name → At fs i f → P (output_cover inputs nodes name f)) → Each P (covers_of_outputs inputs nodes names fs)
each_output P inputs nodes [] fs g = tt
each_output P inputs nodes (name ∷ names) [] g = tt
each_output P inputs nodes (name ∷ names) (f ∷ fs) g = (g 0 name f refl refl, each_output P inputs nodes names fs (λ i n h a b. g (suc i) n h a b))

pub each_cover : (P : PlainCover → Type 0) (xs ys : List PlainCover) → Each P constants → Each P xs → Each P ys → Each P (constants ++ xs ++ ys)
each_cover P xs ys a b c = each_joined P (constants ++ xs) ys (each_joined P constants xs a b) c

-- ---- where covers stand

pub node_there : (variables : List (List ℕ)) (nodes : List Node) (k : ℕ) (rest : List Node) (i : ℕ) (node : Node) → At rest i node
    → At (covers_of_nodes variables nodes k rest) i (node_cover variables nodes (k + i) node)
node_there variables nodes k [] i node e = absurd (none-some node e)
node_there variables nodes k (first ∷ rest) zero node e =
    let same : k ≡ k + 0 = omega arith in
    ap (λ (n : Node). Some (node_cover variables nodes k n)) (same_Some first node e) ∙ ap (λ (n : ℕ). Some (node_cover variables nodes n node)) same
node_there variables nodes k (first ∷ rest) (suc i) node e =
    let same : suc k + i ≡ k + suc i = omega arith in
    node_there variables nodes (suc k) rest i node e ∙ ap (λ (n : ℕ). Some (node_cover variables nodes n node)) same

pub output_there : (inputs : ℕ) (nodes : List Node) (names : List (List ℕ)) (fs : List Function) (i : ℕ) (name : List ℕ) (f : Function) → At names i name → At fs i f
    → At (covers_of_outputs inputs nodes names fs) i (output_cover inputs nodes name f)
output_there inputs nodes [] fs i name f a b = absurd (none-some name a)
output_there inputs nodes (x ∷ names) [] i name f a b = absurd (none-some f b)
output_there inputs nodes (x ∷ names) (g ∷ fs) zero name f a b =
    ap (λ (n : List ℕ). Some (output_cover inputs nodes n g)) (same_Some x name a) ∙ ap (λ (h : Function). Some (output_cover inputs nodes name h)) (same_Some g f b)
output_there inputs nodes (x ∷ names) (g ∷ fs) (suc i) name f a b = output_there inputs nodes names fs i name f a b
