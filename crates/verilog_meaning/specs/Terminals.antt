-- How many inputs and outputs the gates of a text have.
use Rattle.std.specs.Prelude.{◌≡◌, ◌≤◌, ℕ, true, length}
use Rattle.verilog_source.specs.Grammar.{has_one_input}
use Rattle.verilog_source.specs.Modules.{Entry}
use Rattle.verilog_source.specs.Modules.Entry.{listed, directed, assigned, gate, instance}
use Rattle.verilog_tokens.specs.declared.token.GateKind.{GateKind}

-- a gate has an input, and `buf` and `not` no more
pub record HasTerminals (kind : GateKind) (inputs : ℕ) : Type 0 where
  pub some : 1 ≤ inputs
  pub one : has_one_input kind ≡ true → inputs ≡ 1

-- and an output
abbrev pub IsWhole : Entry → Type 0
IsWhole (listed n) = Unit {0}
IsWhole (directed l d n) = Unit {0}
IsWhole (assigned l n f) = Unit {0}
IsWhole (gate l kind os fs) = HasTerminals kind (length fs) × (1 ≤ length os)
IsWhole (instance l m ts) = Unit {0}
