-- Laws of nodes: where they stand, and which bits they have.
use Rattle.std.specs.Prelude.{◌≡◌, ℕ, zero, suc, ◌+◌, ◌-◌, ◌<◌, Bool, true, false, cond, List, length, take}
use Rattle.std.specs.List.{list_any}
use Rattle.vrt_model.specs.Lists.{Among, At, bit_at}
use Rattle.written_models.specs.Functions.{Function, Node, are_same, branch_of, fixed, is_constant, is_node, nodes_of, number_of}

-- a function is constant, or its node is there
abbrev pub is_there : ℕ → ℕ → Function → List Node → Bool
is_there zero input f nodes = true
is_there (suc left) input f nodes =
    cond (is_constant (suc left) false f) true
    (cond (is_constant (suc left) true f) true
    (cond (are_same left (fixed false f) (fixed true f)) (is_there left (suc input) (fixed false f) nodes)
    (list_any (is_node input (suc left) f) nodes)))

-- a node of functions of so many inputs: its variable is one of them, and its subfunctions are there
pub record IsPlaced (inputs : ℕ) (node : Node) (before : List Node) : Type 0 where
  pub inputs_left : node.input + node.left ≡ inputs
  pub some_left : 0 < node.left
  pub branches : (b : Bool) → is_there (node.left - 1) (suc node.input) (fixed b node.function) before ≡ true

-- each node is placed behind its subfunctions
abbrev pub AreOrdered : ℕ → List Node → Type 0
AreOrdered inputs nodes = (i : ℕ) (node : Node) → At nodes i node → IsPlaced inputs node (take i nodes)

-- The law: the nodes of functions are ordered, and each of the functions is there.
abbrev pub NodesAreOrdered : Type 0
NodesAreOrdered =
    (inputs : ℕ) (fs : List Function)
    → AreOrdered inputs (nodes_of inputs fs) × ((f : Function) → Among fs f → is_there inputs 0 f (nodes_of inputs fs) ≡ true)

-- The law: the number of a function that is there is that of a constant or of a node.
abbrev pub NumbersAreWithin : Type 0
NumbersAreWithin =
    (left input : ℕ) (f : Function) (nodes : List Node) → is_there left input f nodes ≡ true → number_of left input f nodes < 2 + length nodes

-- bits of the numbers: of the constants, and of each node that of the subfunction that its variable picks
pub record HasNodeBits (nodes : List Node) (bits : List Bool) (bit : ℕ → Bool) : Type 0 where
  pub nought : bit 0 ≡ false
  pub one : bit 1 ≡ true
  pub each : (i : ℕ) (node : Node) → At nodes i node → bit (2 + i) ≡ cond (bit_at bits node.input) (bit (branch_of nodes node true)) (bit (branch_of nodes node false))

-- The law: so the number of each function has the bit of the function.
abbrev pub NumbersShow : Type 0
NumbersShow =
    (inputs : ℕ) (fs : List Function) (bits : List Bool) (bit : ℕ → Bool) → length bits ≡ inputs → HasNodeBits (nodes_of inputs fs) bits bit
    → (f : Function) → Among fs f → bit (number_of inputs 0 f (nodes_of inputs fs)) ≡ f bits
