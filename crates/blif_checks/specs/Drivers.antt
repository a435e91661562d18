-- What drives the signals of a model, and what uses them.
use Rattle.std.specs.Prelude.{◌≡◌, ℕ, All, Bool, min, not, List, ◌∷◌, map, filter, option_to_list, unwrap_or}
use Rattle.vrt_model.specs.Inputs.{IsModel}
use Rattle.vrt_model.specs.Lists.{distinct, has_name}
use Rattle.vrt_model.specs.Models.{OnLine, is_driving, is_reading, line_in, on_line}
use Rattle.vrt_model.specs.declared.blif.Blif.{Blif}
use Rattle.vrt_model.specs.declared.blif.BlifModel.{BlifModel}
use Rattle.vrt_model.specs.declared.blif.LatchLine.{LatchLine}
use Rattle.vrt_model.specs.declared.blif.SubLine.{SubLine}
use Rattle.vrt_model.specs.declared.blif.Tie.{Tie}
use Rattle.blif_checks.specs.declared.roles.Role.{Role}
use Rattle.blif_checks.specs.declared.roles.Role.TheVariants.{Driving, Reading}

-- of models such as a reader gives, the clocks of each, each once
pub record AreClocks (blif : Blif) (clocks : List (List (List ℕ))) : Type 0 where
  pub models : All IsModel blif.models
  pub clocks_are : clocks ≡ map (λ (m : BlifModel). distinct m.clocks) blif.models

-- an input, at the earlier of its line and that of the clock of its name
abbrev pub at_earlier : List OnLine → OnLine → OnLine
at_earlier clocks o = on_line (min o.line (unwrap_or (line_in clocks o.name) o.line)) o.name

-- those that are not among some names
abbrev pub others : List (List ℕ) → List OnLine → List OnLine
others names listed = filter (λ (o : OnLine). not (has_name names o.name)) listed

-- what is tied, on the line of the sub-model
abbrev pub tied_on : SubLine → Tie → OnLine
tied_on s t = on_line s.line t.actual

-- what a latch uses: its input and its control
abbrev pub latch_uses : LatchLine → List OnLine
latch_uses l = map (on_line l.line) (l.input ∷ option_to_list l.control)

-- a sub-model drives what is tied, or reads it
abbrev pub in_role : Role → Blif → SubLine → Tie → Bool
in_role Driving blif s t = is_driving blif s t
in_role Reading blif s t = is_reading blif s t
