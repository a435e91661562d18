-- A cell without state as a model of covers: its constants, the nodes of its outputs' functions, and its outputs.
use Rattle.std.specs.Prelude.{◌≡◌, ℕ, suc, ◌+◌, ◌≤◌, Bool, true, false, not, ◌&&◌, List, [], ◌∷◌, ◌++◌, bytes_eq, codes, decimal, filter, length, slice_get, unwrap_or}
use Rattle.std.specs.List.{list_all}
use Rattle.plain_models.specs.Lines.{is_good_word}
use Rattle.plain_models.specs.Texts.{PlainCover, PlainModel, model_text}
use Rattle.text_lines.specs.Bytes.{starts}
use Rattle.vrt_model.specs.Inputs.{AllApart}
use Rattle.vrt_model.specs.Limits.{most_signals}
use Rattle.vrt_model.specs.Lists.{has_name}
use Rattle.written_models.specs.Functions.{Function, Node, branch_of, nodes_of, number_of}

-- what is written: a name, the signals of the interface as they are listed, the signals of the variables in their order, and for each
-- output its function of the variables
pub record Logic : Type 0 where
  pub name : List ℕ
  pub inputs : List (List ℕ)
  pub clocks : List (List ℕ)
  pub outputs : List (List ℕ)
  pub variables : List (List ℕ)
  pub functions : List Function

-- ---- covers

-- the signal of a number
abbrev pub numbered : ℕ → List ℕ
numbered k = 61 ∷ decimal k

-- the constants 0 and 1
abbrev pub constants : List PlainCover
constants = record { inputs = []; output = numbered 0; rows = [] } ∷ record { inputs = []; output = numbered 1; rows = [] ∷ [] } ∷ []

-- the signal of a variable
abbrev pub variable_at : List (List ℕ) → ℕ → List ℕ
variable_at variables i = unwrap_or (slice_get variables i) []

-- a node: the subfunction that its variable picks
abbrev pub node_cover : List (List ℕ) → List Node → ℕ → Node → PlainCover
node_cover variables nodes k node = record {
  inputs = variable_at variables node.input ∷ numbered (branch_of nodes node false) ∷ numbered (branch_of nodes node true) ∷ [];
  output = numbered k;
  rows = codes "01-" ∷ codes "1-1" ∷ [];
}

-- nodes, from a number on
abbrev pub covers_of_nodes : List (List ℕ) → List Node → ℕ → List Node → List PlainCover
covers_of_nodes variables nodes k [] = []
covers_of_nodes variables nodes k (node ∷ rest) = node_cover variables nodes k node ∷ covers_of_nodes variables nodes (suc k) rest

-- an output has the bit of its function's number
abbrev pub output_cover : ℕ → List Node → List ℕ → Function → PlainCover
output_cover inputs nodes name f = record { inputs = numbered (number_of inputs 0 f nodes) ∷ []; output = name; rows = codes "1" ∷ [] }

-- all outputs
abbrev pub covers_of_outputs : ℕ → List Node → List (List ℕ) → List Function → List PlainCover
covers_of_outputs inputs nodes [] fs = []
covers_of_outputs inputs nodes (name ∷ names) [] = []
covers_of_outputs inputs nodes (name ∷ names) (f ∷ fs) = output_cover inputs nodes name f ∷ covers_of_outputs inputs nodes names fs

-- ---- the model

-- the nodes of all outputs
abbrev pub nodes_in : Logic → List Node
nodes_in l = nodes_of (length l.variables) l.functions

-- the clocks that are not among the inputs
abbrev pub other_clocks : Logic → List (List ℕ)
other_clocks l = filter (λ name. not (has_name l.inputs name)) l.clocks

-- the constants, the nodes from 2 on, and the outputs
abbrev pub written_model : Logic → PlainModel
written_model l = record {
  name = l.name;
  inputs = l.inputs;
  clocks = other_clocks l;
  outputs = l.outputs;
  covers =
      constants ++ covers_of_nodes l.variables (nodes_in l) 2 (nodes_in l) ++ covers_of_outputs (length l.variables) (nodes_in l) l.outputs l.functions;
}

-- its text
abbrev pub written_text : Logic → List ℕ
written_text l = model_text (written_model l)

-- ---- what may be written

-- a name that is a good word and does not begin as the signals of numbers do; others are refused
abbrev pub is_free_name : List ℕ → Bool
is_free_name name = is_good_word name && not (starts 61 name)

-- free names, different ones in each list; outputs that are no inputs; variables that are; a function for each output; and no more signals than a
-- model may have
pub record IsWritable (l : Logic) : Type 0 where
  pub name : is_free_name l.name ≡ true
  pub inputs : list_all is_free_name l.inputs ≡ true
  pub clocks : list_all is_free_name l.clocks ≡ true
  pub outputs : list_all is_free_name l.outputs ≡ true
  pub inputs_apart : AllApart bytes_eq l.inputs
  pub clocks_apart : AllApart bytes_eq l.clocks
  pub outputs_apart : AllApart bytes_eq l.outputs
  pub outputs_other : (name : List ℕ) → has_name l.outputs name ≡ true → has_name (l.inputs ++ l.clocks) name ≡ false
  pub variables_there : (name : List ℕ) → has_name l.variables name ≡ true → has_name (l.inputs ++ l.clocks) name ≡ true
  pub functions : length l.functions ≡ length l.outputs
  pub few : length (nodes_in l) + 2 ≤ most_signals
