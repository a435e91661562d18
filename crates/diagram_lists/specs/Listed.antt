-- The nodes below some handles of a store, as the nodes of the handles' functions of the bits of all variables.
use Rattle.std.specs.Prelude.{◌≡◌, ℕ, ◌-◌, ◌≤◌, Bool, true, false, List, length, map, slice_index}
use Rattle.bdd_core.specs.Diagram.{Valuation, node_at, top}
use Rattle.bdd_core.specs.Store.{Diagrams, IsLive, function_of}
use Rattle.bdd_core.specs.declared.handle.H.{H}
use Rattle.diagram_lists.specs.declared.list.NodeList.{NodeList}
use Rattle.vrt_model.specs.Lists.{Among, bit_at}
use Rattle.written_models.specs.Functions.{Function, Node, branch_of, nodes_of, number_of}

-- the variables from one on have these bits, and 0 where there are no more of them
abbrev pub bits_from : ℕ → List Bool → Valuation
bits_from first bits = λ x. bit_at bits (x - first)

-- the function of a handle, of the bits of the variables from one on
abbrev pub function_from : Diagrams → ℕ → H → Function
function_from d first h = λ bits. function_of d h (bits_from first bits)

-- the node of a handle: the variable that it tests, and the function of the bits from this one on
abbrev pub node_of : Diagrams → H → Node
node_of d h = record { input = top d.nodes h.0; left = d.vars - top d.nodes h.0; function = function_from d (top d.nodes h.0) h }

-- the functions of handles, of the bits of all variables
abbrev pub functions_of : Diagrams → List H → List Function
functions_of d handles = map (function_from d 0) handles

-- the nodes of the handles' functions
abbrev pub nodes_below : Diagrams → List H → List Node
nodes_below d handles = nodes_of d.vars (functions_of d handles)

-- the number of a place of the store
abbrev pub number_at : NodeList → ℕ → ℕ
number_at list i = slice_index list.numbers.items i

-- a list of the nodes below some handles, in their order; and a number for each place of the store, which of a handle, and of a branch of a
-- node in the list, is that of its function
pub record IsNodeList (d : Diagrams) (handles : List H) (list : NodeList) : Type 0 where
  pub nodes : map (node_of d) list.nodes.items ≡ nodes_below d handles
  pub inner : (h : H) → Among list.nodes.items h → (2 ≤ h.0) × IsLive d h
  pub places : length list.numbers.items ≡ length d.nodes
  pub roots : (h : H) → Among handles h → number_at list h.0 ≡ number_of d.vars 0 (function_from d 0 h) (nodes_below d handles)
  pub low : (h : H) → Among list.nodes.items h → number_at list (node_at d.nodes h.0).lo ≡ branch_of (nodes_below d handles) (node_of d h) false
  pub high : (h : H) → Among list.nodes.items h → number_at list (node_at d.nodes h.0).hi ≡ branch_of (nodes_below d handles) (node_of d h) true
