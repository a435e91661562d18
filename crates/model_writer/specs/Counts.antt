-- How many signals a written model has.
use Rattle.std.specs.Prelude.{ℕ, ◌+◌, length}
use Rattle.written_models.specs.Written.{Logic, nodes_in, other_clocks}

-- those of the interface, two constants, and the nodes
abbrev pub signal_count : Logic → ℕ
signal_count l = length l.inputs + length (other_clocks l) + length l.outputs + 2 + length (nodes_in l)
