-- The model of a module.
use Rattle.std.specs.Prelude.{ℕ, ◌+◌, List, [], ◌∷◌, ◌++◌, Bool, true, false, map, filter, flat_map, cond, bytes_eq, Option, Some, None}
use Rattle.std.specs.Option.{option_or}
use Rattle.verilog_models.specs.Covers.{assigned_covers, own_inside}
use Rattle.verilog_models.specs.Gates.{gate_covers, gate_own, sub_of, ties_covers, ties_own}
use Rattle.verilog_models.specs.declared.interface.Given.{Given}
use Rattle.verilog_source.specs.Modules.{Entry, Module}
use Rattle.verilog_source.specs.Modules.Entry.{listed, directed, assigned, gate, instance}
use Rattle.verilog_source.specs.declared.position.Direction.{Direction}
use Rattle.verilog_source.specs.declared.position.Direction.TheVariants.{Inputs, Outputs}
use Rattle.vrt_model.specs.Lists.{distinct}
use Rattle.vrt_model.specs.declared.blif.Blif.{Blif}
use Rattle.vrt_model.specs.declared.blif.BlifModel.{BlifModel}
use Rattle.vrt_model.specs.declared.blif.CoverLine.{CoverLine}
use Rattle.vrt_model.specs.declared.blif.SubLine.{SubLine}

-- ---- the interface

abbrev pub listed_name : Entry → List (List ℕ)
listed_name (listed n) = n ∷ []
listed_name (directed l d n) = []
listed_name (assigned l n f) = []
listed_name (gate l k os fs) = []
listed_name (instance l m ts) = []

-- the ports of the list, each once
abbrev pub ports_in : List Entry → List (List ℕ)
ports_in entries = distinct (flat_map listed_name entries)

-- the direction that an entry gives a name, and the line of its statement
abbrev pub given : Entry → List ℕ → Option Given
given (listed n) name = None
given (directed l d n) name = cond (bytes_eq n name) (Some (record { line = l; direction = d })) None
given (assigned l n f) name = None
given (gate l k os fs) name = None
given (instance l m ts) name = None

-- the first one
abbrev pub given_in : List Entry → List ℕ → Option Given
given_in [] name = None
given_in (e ∷ es) name = option_or (given e name) (given_in es name)

abbrev pub is_same : Direction → Direction → Bool
is_same Inputs Inputs = true
is_same Inputs Outputs = false
is_same Outputs Inputs = false
is_same Outputs Outputs = true

abbrev pub is_of : Direction → Option Given → Bool
is_of d None = false
is_of d (Some g) = is_same d g.direction

abbrev pub line_of : Option Given → ℕ
line_of None = 0
line_of (Some g) = g.line

-- the ports of a direction, in the order of the list, by what gives names their directions
abbrev pub ports_by : (List ℕ → Option Given) → Direction → List (List ℕ) → List (List ℕ)
ports_by gives d ports = filter (λ n. is_of d (gives n)) ports

abbrev pub lines_by : (List ℕ → Option Given) → Direction → List (List ℕ) → List ℕ
lines_by gives d ports = map (λ n. line_of (gives n)) (ports_by gives d ports)

-- ---- what stands in the module

abbrev pub entry_own : Entry → ℕ
entry_own (listed n) = 0
entry_own (directed l d n) = 0
entry_own (assigned l n f) = own_inside f
entry_own (gate l k os fs) = gate_own k fs
entry_own (instance l m ts) = ties_own ts

-- the covers and the sub-models of an entry whose own signals are numbered from here
abbrev pub entry_covers : ℕ → Entry → List CoverLine
entry_covers n (listed x) = []
entry_covers n (directed l d x) = []
entry_covers n (assigned l x f) = assigned_covers l n x f
entry_covers n (gate l k os fs) = gate_covers l n k os fs
entry_covers n (instance l m ts) = ties_covers l n ts

abbrev pub entry_subs : ℕ → Entry → List SubLine
entry_subs n (listed x) = []
entry_subs n (directed l d x) = []
entry_subs n (assigned l x f) = []
entry_subs n (gate l k os fs) = []
entry_subs n (instance l m ts) = sub_of l n m ts ∷ []

abbrev pub own_in : List Entry → ℕ
own_in [] = 0
own_in (e ∷ es) = entry_own e + own_in es

abbrev pub covers_in : ℕ → List Entry → List CoverLine
covers_in n [] = []
covers_in n (e ∷ es) = entry_covers n e ++ covers_in (n + entry_own e) es

abbrev pub subs_in : ℕ → List Entry → List SubLine
subs_in n [] = []
subs_in n (e ∷ es) = entry_subs n e ++ subs_in (n + entry_own e) es

-- ---- models

-- The model of a module: its ports, a cover for each operator, constant and gate, and a sub-model for each instance. Own signals
-- are numbered through the module.
abbrev pub model_of : Module → BlifModel
model_of m = record {
  line = m.line;
  name = m.name;
  inputs = ports_by (given_in m.entries) Inputs (ports_in m.entries);
  input_lines = lines_by (given_in m.entries) Inputs (ports_in m.entries);
  clocks = [];
  clock_lines = [];
  outputs = ports_by (given_in m.entries) Outputs (ports_in m.entries);
  output_lines = lines_by (given_in m.entries) Outputs (ports_in m.entries);
  covers = covers_in 0 m.entries;
  latches = [];
  subs = subs_in 0 m.entries;
  exdc = [];
}

abbrev pub blif_of : List Module → Blif
blif_of modules = record { models = map model_of modules }
