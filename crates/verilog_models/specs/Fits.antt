-- How many inputs a gate has.
use Rattle.std.specs.Prelude.{◌≡◌, ◌≤◌, ℕ, true, List, length, All}
use Rattle.verilog_source.specs.Grammar.{has_one_input}
use Rattle.verilog_source.specs.Modules.{Entry}
use Rattle.verilog_source.specs.Modules.Entry.{listed, directed, assigned, gate, instance}
use Rattle.verilog_source.specs.Refused.{is_limited}
use Rattle.verilog_tokens.specs.declared.token.GateKind.{GateKind}

-- `and`, `nand`, `or` and `nor` have 1,000 inputs at most, `buf` and `not` have one
pub record HasFewInputs (kind : GateKind) (inputs : ℕ) : Type 0 where
  pub limit : is_limited kind ≡ true → inputs ≤ 1000
  pub one : has_one_input kind ≡ true → inputs ≡ 1

abbrev pub IsFitEntry : Entry → Type 0
IsFitEntry (listed n) = Unit {0}
IsFitEntry (directed l d n) = Unit {0}
IsFitEntry (assigned l n f) = Unit {0}
IsFitEntry (gate l kind os fs) = HasFewInputs kind (length fs)
IsFitEntry (instance l m ts) = Unit {0}

-- a module all of whose gates have so many
abbrev pub AreFit : List Entry → Type 0
AreFit entries = All IsFitEntry entries
