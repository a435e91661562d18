use Rattle.std.proofs.Common.{◌≡◌, ◌++◌, List, ap₂, ◌∙◌}
use Rattle.bdd_core.proofs.Results.{if_ok_more}
use Rattle.blif_eval.proofs.DriverLaws.{drivers_joined}
use Rattle.blif_eval.specs.Drivers.{AreDrivers}
use Rattle.blif_eval.specs.declared.driver_table.Driver.{Driver}
use Rattle.blif_eval.proofs.driver_table.drivers_of.Goals as goal

pub returns : goal.returns
returns c =
    let flat = c.args.flat.now in
    let table : List Driver = c.note_latches.new.drivers.items in
    let elements : List Driver = c.note_latches.new.elements in
    let same = ap₂ (λ (a b : List Driver). a ++ b) c.as_slice.ensures.value c.as_slice-2.ensures in
    if_ok_more (λ (d : List Driver). d ≡ c.as_slice.result.now ++ c.as_slice-2.result.now) (λ (d : List Driver). AreDrivers flat d) c.joined.result
    (λ d is. drivers_joined flat c.requires.model table elements d (is ∙ same) c.in_ok-note_latches.ensures.noted c.in_ok-note_latches.ensures.made) c.joined.ensures
