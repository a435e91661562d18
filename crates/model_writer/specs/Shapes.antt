-- A model that is given by the numbers of its nodes, and its signals.
use Rattle.std.specs.Prelude.{ℕ, suc, ◌+◌, List, [], ◌∷◌, ◌++◌, codes, length}
use Rattle.model_writer.specs.declared.model.ModelLines.{ModelLines}
use Rattle.model_writer.specs.declared.model.NodeLine.{NodeLine}
use Rattle.plain_models.specs.Texts.{PlainCover, PlainModel}
use Rattle.written_models.specs.Written.{constants, numbered, variable_at}

-- the cover of a node of this number
abbrev pub line_cover : List (List ℕ) → ℕ → NodeLine → PlainCover
line_cover variables k line = record {
  inputs = variable_at variables line.variable ∷ numbered line.low ∷ numbered line.high ∷ [];
  output = numbered k;
  rows = codes "01-" ∷ codes "1-1" ∷ [];
}

-- those of nodes, from a number on
abbrev pub line_covers : List (List ℕ) → ℕ → List NodeLine → List PlainCover
line_covers variables k [] = []
line_covers variables k (line ∷ lines) = line_cover variables k line ∷ line_covers variables (suc k) lines

-- the cover of an output whose function has this number
abbrev pub root_cover : List ℕ → ℕ → PlainCover
root_cover name root = record { inputs = numbered root ∷ []; output = name; rows = codes "1" ∷ [] }

-- those of outputs
abbrev pub root_covers : List (List ℕ) → List ℕ → List PlainCover
root_covers [] roots = []
root_covers (name ∷ names) [] = []
root_covers (name ∷ names) (root ∷ roots) = root_cover name root ∷ root_covers names roots

-- the model of these lines
abbrev pub shaped_model : ModelLines → PlainModel
shaped_model m = record {
  name = m.name.now;
  inputs = m.inputs.now;
  clocks = m.clocks.now;
  outputs = m.outputs.now;
  covers = constants ++ line_covers m.variables.now 2 m.nodes.now ++ root_covers m.outputs.now m.roots.now;
}

-- its signals: those of its interface, the two constants, and the nodes
abbrev pub shaped_signals : ModelLines → ℕ
shaped_signals m = length m.inputs.now + length m.clocks.now + length m.outputs.now + 2 + length m.nodes.now
