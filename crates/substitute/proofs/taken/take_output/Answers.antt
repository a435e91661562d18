use Rattle.std.proofs.Common.{◌≡◌, ◌&&◌, List, ap, subst, ◌∙◌}
use Rattle.whole_circuits.specs.Taken.{admits, joins, taken_at}
use Rattle.whole_circuits.specs.declared.taken.Taken.{Taken}
use Rattle.vrt_model.specs.declared.whole.Drive.{Drive}
use Rattle.substitute.proofs.TakenLaws.{taken_one}
use Rattle.substitute.proofs.taken.take_output.Goals as goal

pub returns-clause-is : goal.returns-clause-is
returns-clause-is c =
    let taken = c.args.taken.now.items in
    let pin = c.args.pin in
    taken_one pin.drive c.joined.result taken pin.net.0 c.requires
    (subst (λ (x : Taken). (own : Drive) → admits c.joined.result own ≡ (admits x own && joins own pin.drive)) (c.taken_at-there.ensures ∙ ap (λ (l : List Taken). taken_at l pin.net.0) c.as_slice.ensures.value)
    c.joined.ensures)
