use Rattle.std.proofs.Common.{◌≡◌, ◌++◌, Bool, true, subst, sym}
use Rattle.std.specs.Prelude.{◌↔◌}
use Rattle.whole_circuits.proofs.OutputLaws.{open_is}
use Rattle.whole_circuits.specs.Outputs.{AreOpen, own_outputs}
use Rattle.whole_circuits.proofs.outputs.are_open.Goals as goal

pub returns : goal.returns
returns c devices earlier number around =
    let circuit = c.args.circuit.now in
    let pins = c.args.pins.now in
    subst (λ (b : Bool). (b ≡ true) ↔ AreOpen circuit devices (earlier ++ own_outputs number pins) (own_outputs number pins)) (sym c.all_open.ensures)
    (open_is circuit c.args.marks.now devices earlier number pins around)
