-- The lines of a cell that name a port, by their places.
use Rattle.std.specs.Prelude.{ℕ, Bool, false, ◌&&◌, bytes_eq, List, option_map, slice_get, unwrap_or}
use Rattle.vrt_model.specs.CellRules.{is_for}
use Rattle.vrt_model.specs.Expressions.{names_in}
use Rattle.vrt_model.specs.Lists.{has_name}
use Rattle.vrt_model.specs.declared.rules.AssumeRule.{AssumeRule}
use Rattle.vrt_model.specs.declared.rules.ClockportRule.{ClockportRule}

-- the item at a place is there, and passes a test
abbrev pub passes_at : {X : Type 0} → (X → Bool) → List X → ℕ → Bool
passes_at test items place = unwrap_or (option_map test (slice_get items place)) false

-- an `assume` line is for a phase and names a port
abbrev pub assumes_port : ℕ → List ℕ → AssumeRule → Bool
assumes_port phase name r = is_for r.phase phase && has_name (names_in r.expression) name

-- a `clockport` line is for a port
abbrev pub is_clock_line : List ℕ → ClockportRule → Bool
is_clock_line name r = bytes_eq r.port name
