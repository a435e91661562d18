-- The drives of whole outputs that meet gates alone, by the whole instances of a circuit.
use Rattle.std.specs.Prelude.{ℕ, ◌==◌, ◌||◌, Bool, cond, List, [], ◌∷◌, Option, Some, None, filter, flat_map, map}
use Rattle.std.specs.List.{enumerate_from, list_any}
use Rattle.drive_levels.specs.PortLevels.{IsWholeOutput}
use Rattle.port_drives.specs.declared.outputs.ToldOutput.{ToldOutput}
use Rattle.vrt_model.specs.Checked.{IsCircuitWith}
use Rattle.vrt_model.specs.Comparison.{CellPort, Comparison}
use Rattle.vrt_model.specs.Cut.{Cut}
use Rattle.vrt_model.specs.WholeInstances.{all_outputs, drive_in}
use Rattle.vrt_model.specs.declared.blif.Blif.{Blif}
use Rattle.vrt_model.specs.declared.circuit.Circuit.{Circuit}
use Rattle.vrt_model.specs.declared.circuit.Device.{Device}
use Rattle.vrt_model.specs.declared.whole.CellFacts.{CellFacts}
use Rattle.vrt_model.specs.declared.whole.Drive.{Drive}
use Rattle.vrt_model.specs.declared.whole.Whole.{Whole}
use Rattle.vrt_model.specs.declared.whole.WholePin.{WholePin}

-- the outputs of a whole instance, with their drives in the facts
abbrev pub told_pin : List CellFacts → ℕ → ℕ × WholePin → ToldOutput
told_pin facts cell q = record { net = q.1.net; drive = drive_in facts cell q.0 }

abbrev pub told_of : List CellFacts → Whole → List ToldOutput
told_of facts w = map (told_pin facts w.cell) (enumerate_from 0 w.outputs)

-- the channel of a device ends at a net
abbrev pub meets_channel : List Device → ℕ → Bool
meets_channel devices n = list_any (λ (d : Device). d.left.0 == n || d.right.0 == n) devices

-- the drive that was found, or of the one output of a list; none where there are two
abbrev pub only_of : Option Drive → List ToldOutput → Option Drive
only_of found [] = found
only_of None (output ∷ rest) = only_of (Some output.drive) rest
only_of (Some drive) (output ∷ rest) = None

-- the output is at a net
abbrev pub is_at : ℕ → ToldOutput → Bool
is_at n output = output.net.0 == n

-- the drive of the one output at a net
abbrev pub one_drive : List ToldOutput → ℕ → Option Drive
one_drive told n = only_of None (filter (is_at n) told)

-- of the output at a net that no channel meets
abbrev pub whole_drive : Circuit → List ToldOutput → ℕ → Option Drive
whole_drive c told n = cond (meets_channel c.devices n) None (one_drive told n)

-- The law: over a circuit with some instances left whole that is the drive of a whole output that meets gates alone.
abbrev pub WholeDrivesAreFound : Type 0
WholeDrivesAreFound =
    (k : Comparison) (cut : Cut) (blif : Blif) (facts : List CellFacts) (port : CellPort) → IsCircuitWith cut blif facts k.circuit
    → IsWholeOutput k (all_outputs cut blif facts) port (whole_drive k.circuit (flat_map (told_of facts) k.circuit.wholes) port.net)
