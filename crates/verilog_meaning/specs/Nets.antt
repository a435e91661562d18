-- The nets of a module.
use Rattle.std.specs.Prelude.{ℕ, List, [], ◌∷◌, ◌++◌, flat_map, Option, Some, None}
use Rattle.verilog_expression.specs.Grammar.{Formula}
use Rattle.verilog_expression.specs.Grammar.Formula.{a_net, a_constant, negation, conjunction, parity, disjunction, choice}
use Rattle.verilog_models.specs.Gates.{actual_value}
use Rattle.verilog_models.specs.Models.{model_of}
use Rattle.verilog_source.specs.Modules.{Actual, Entry, Module, PortTie}
use Rattle.verilog_source.specs.Modules.Entry.{listed, directed, assigned, gate, instance}

-- the nets of an expression
abbrev pub nets_of : Formula → List (List ℕ)
nets_of (a_net x) = x ∷ []
nets_of (a_constant b) = []
nets_of (negation f) = nets_of f
nets_of (conjunction f g) = nets_of f ++ nets_of g
nets_of (parity f g) = nets_of f ++ nets_of g
nets_of (disjunction f g) = nets_of f ++ nets_of g
nets_of (choice c f g) = nets_of c ++ nets_of f ++ nets_of g

-- the nets that a tie names
abbrev pub actual_nets : Option Actual → List (List ℕ)
actual_nets None = []
actual_nets (Some a) = nets_of (actual_value a)

-- the nets that ties name
abbrev pub ties_nets : List PortTie → List (List ℕ)
ties_nets ts = flat_map (λ (t : PortTie). actual_nets t.actual) ts

-- the nets that an entry names
abbrev pub entry_nets : Entry → List (List ℕ)
entry_nets (listed n) = []
entry_nets (directed l d n) = []
entry_nets (assigned l n f) = n ∷ nets_of f
entry_nets (gate l kind os fs) = os ++ flat_map nets_of fs
entry_nets (instance l m ts) = ties_nets ts

-- the nets of a module: its ports, and the names in assigns, gates and ties
abbrev pub nets_in : Module → List (List ℕ)
nets_in m = (model_of m).inputs ++ (model_of m).outputs ++ flat_map entry_nets m.entries
