-- Runs of bytes, by what ends them.
use Rattle.std.specs.Prelude.{ℕ, Bool}
use Rattle.verilog_tokens.specs.Words.{ends_constant, ends_name, is_feed, is_space}
use Rattle.verilog_tokens.specs.declared.runs.Run.{Run}
use Rattle.verilog_tokens.specs.declared.runs.Run.TheVariants.{Name, Constant, Escaped, Line}

abbrev pub ends_run : Run → ℕ → Bool
ends_run Name b = ends_name b
ends_run Constant b = ends_constant b
ends_run Escaped b = is_space b
ends_run Line b = is_feed b
