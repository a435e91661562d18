-- The limits on what is read, unrolled and compared. Each is a choice of this project: far above the cells that it is
-- for, and low enough for numbers of 32 bits.
use Rattle.std.specs.Prelude.{ℕ}

-- ---- files

-- cells of a netlist
abbrev pub most_cells : ℕ
most_cells = 4096

-- models of a file
abbrev pub most_models : ℕ
most_models = 4096

-- ports of a cell
abbrev pub most_ports : ℕ
most_ports = 4096

-- cards of a cell
abbrev pub most_cards : ℕ
most_cards = 40000

-- clocks that rules declare
abbrev pub most_clocks : ℕ
most_clocks = 16

-- phases that rules declare
abbrev pub most_phases : ℕ
most_phases = 16

-- operators of an expression
abbrev pub most_operators : ℕ
most_operators = 1000

-- nets on a card have numbers of 32 bits
abbrev pub number_bound : ℕ
number_bound = 4294967296

-- ---- flat circuits and flat models

-- nets of a flat circuit
abbrev pub most_nets : ℕ
most_nets = 20000

-- devices of a flat circuit
abbrev pub most_devices : ℕ
most_devices = 40000

-- instances of a flat circuit
abbrev pub most_instances : ℕ
most_instances = 40000

-- signals of a flat model
abbrev pub most_signals : ℕ
most_signals = 20000

-- rows of the covers of a flat model
abbrev pub most_rows : ℕ
most_rows = 200000

-- models that stand in a flat model
abbrev pub most_sub_models : ℕ
most_sub_models = 40000

-- variables of a phase
abbrev pub most_variables : ℕ
most_variables = 1000
