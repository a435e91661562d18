use Rattle.std.proofs.Common.{◌≡◌, length}
use Rattle.std.specs.Prelude.{filter_map, slice_get}
use Rattle.vrt_model.specs.Variables.{entered_bit}
use Rattle.hold_groups.specs.Sources.{entered_by}
use Rattle.hold_groups.proofs.entered.entered_bit.Given as goal

-- the members so far have no constant
abbrev pub invariant-members : goal.invariant-members
invariant-members l = slice_get (filter_map (entered_by l.circuit l.phase) l.rest) 0 ≡ entered_bit l.circuit l.phase l.group

abbrev pub decreases-members : goal.decreases-members
decreases-members l = length l.rest
