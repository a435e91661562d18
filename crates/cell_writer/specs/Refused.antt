-- What is refused before anything is made of a cell: a hold, a port that carries a clock, a name.
use Rattle.std.specs.Prelude.{◌≡◌, ℕ, Bool, true, false, not, cond, List, [], ◌∷◌, ◌++◌, Option, Some, None, filter, find, option_map, slice_get}
use Rattle.model_writer.specs.Refused.{is_refused}
use Rattle.vrt_model.specs.Comparison.{Comparison, cell_at, net_name}
use Rattle.vrt_model.specs.Lists.{has_name}
use Rattle.vrt_model.specs.declared.blif.BlifModel.{BlifModel}
use Rattle.vrt_model.specs.declared.circuit.Circuit.{Circuit}
use Rattle.vrt_model.specs.declared.circuit.Hold.{Hold}
use Rattle.vrt_model.specs.declared.pairing.PortRole.{PortRole}
use Rattle.vrt_model.specs.declared.pairing.PortRole.TheVariants.{Supply, Clock, Input, Output}

-- the net of the first hold; holds stand in the order of their nets
abbrev pub first_hold : Circuit → Option (List ℕ)
first_hold c = option_map (λ (h : Hold). net_name c h.net.0) (slice_get c.holds 0)

abbrev pub is_clock : PortRole → Bool
is_clock (Supply value) = false
is_clock (Clock clock) = true
is_clock (Input signal) = false
is_clock (Output signal) = false

-- the first port of these roles that carries a clock
abbrev pub clock_among : List (List ℕ) → List PortRole → Option (List ℕ)
clock_among [] roles = None
clock_among (name ∷ names) [] = None
clock_among (name ∷ names) (role ∷ roles) = cond (is_clock role) (Some name) (clock_among names roles)

-- that of a cell
abbrev pub first_clock : Comparison → Option (List ℕ)
first_clock k = clock_among (cell_at k.design k.cell).ports k.pairing.ports

-- the first name that may not be written: that of the model, and then those of `.inputs`, of `.clock` besides them, and of `.outputs`
abbrev pub first_refused : BlifModel → Option (List ℕ)
first_refused b =
    find is_refused ((b.name ∷ []) ++ b.inputs ++ filter (λ name. not (has_name b.inputs name)) b.clocks ++ b.outputs)

-- none of these
pub record MayBeWritten (k : Comparison) (b : BlifModel) : Type 0 where
  pub holds : first_hold k.circuit ≡ None
  pub clocks : first_clock k ≡ None
  pub names : first_refused b ≡ None
