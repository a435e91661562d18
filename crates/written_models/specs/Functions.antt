-- Functions of some inputs as nodes of an ordered decision diagram: the subfunctions that are not constant, each once, in the order in which
-- they are numbered.
use Rattle.std.specs.Prelude.{ℕ, zero, suc, ◌+◌, ◌-◌, Bool, true, false, ◌&&◌, cond, List, [], ◌∷◌, ◌++◌, map, ◌==◌}
use Rattle.std.specs.List.{list_all, list_any}
use Rattle.vrt_model.specs.Lists.{same_bit}

-- a function of a list of bits, of which as many count as there are inputs
abbrev pub Function : Type 0
Function = List Bool → Bool

-- all lists of so many bits
abbrev pub all_bits : ℕ → List (List Bool)
all_bits zero = [] ∷ []
all_bits (suc n) = map (λ bits. false ∷ bits) (all_bits n) ++ map (λ bits. true ∷ bits) (all_bits n)

-- two functions of so many inputs are the same
abbrev pub are_same : ℕ → Function → Function → Bool
are_same n f g = list_all (λ bits. same_bit (f bits) (g bits)) (all_bits n)

-- a function of so many inputs is constant
abbrev pub is_constant : ℕ → Bool → Function → Bool
is_constant n b f = list_all (λ bits. same_bit (f bits) b) (all_bits n)

-- the subfunction with the first input fixed
abbrev pub fixed : Bool → Function → Function
fixed b f bits = f (b ∷ bits)

-- a node: its variable, which is the first input on which it depends; how many inputs there are from this one on; and its function of these
pub record Node : Type 0 where
  pub input : ℕ
  pub left : ℕ
  pub function : Function

-- the node of a function of the inputs from this one on
abbrev pub node_at : ℕ → ℕ → Function → Node
node_at input left f = record { input = input; left = left; function = f }

-- a node is that of this function
abbrev pub is_node : ℕ → ℕ → Function → Node → Bool
is_node input left f node = (node.input == input) && (node.left == left) && are_same left node.function f

-- The nodes of a function behind those that are there. A constant has none. A function that does not depend on the first input has those of its
-- subfunction. Any other has those of its subfunctions, that at 0 first, and then its own, unless that is there.
abbrev pub with_nodes : ℕ → ℕ → Function → List Node → List Node
with_nodes zero input f nodes = nodes
with_nodes (suc left) input f nodes =
    cond (is_constant (suc left) false f) nodes
    (cond (is_constant (suc left) true f) nodes
    (cond (are_same left (fixed false f) (fixed true f)) (with_nodes left (suc input) (fixed false f) nodes)
    (cond (list_any (is_node input (suc left) f) nodes) nodes
    (with_nodes left (suc input) (fixed true f) (with_nodes left (suc input) (fixed false f) nodes) ++ node_at input (suc left) f ∷ []))))

-- those of several functions of so many inputs, one function after the other
abbrev pub with_all_nodes : ℕ → List Function → List Node → List Node
with_all_nodes inputs [] nodes = nodes
with_all_nodes inputs (f ∷ fs) nodes = with_all_nodes inputs fs (with_nodes inputs 0 f nodes)

abbrev pub nodes_of : ℕ → List Function → List Node
nodes_of inputs fs = with_all_nodes inputs fs []

-- how many items are before the first that passes
abbrev pub place_where : {X : Type 0} → (X → Bool) → List X → ℕ
place_where test [] = 0
place_where test (x ∷ xs) = cond (test x) 0 (suc (place_where test xs))

-- the number of a function: 0 and 1 of the constants, and from 2 on those of the nodes
abbrev pub number_of : ℕ → ℕ → Function → List Node → ℕ
number_of zero input f nodes = cond (f []) 1 0
number_of (suc left) input f nodes =
    cond (is_constant (suc left) false f) 0
    (cond (is_constant (suc left) true f) 1
    (cond (are_same left (fixed false f) (fixed true f)) (number_of left (suc input) (fixed false f) nodes)
    (2 + place_where (is_node input (suc left) f) nodes)))

-- the number of the subfunction of a node with its variable 0 or 1
abbrev pub branch_of : List Node → Node → Bool → ℕ
branch_of nodes node b = number_of (node.left - 1) (suc node.input) (fixed b node.function) nodes
