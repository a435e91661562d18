use Rattle.std.proofs.Common.{◌≡◌, List, subst}
use Rattle.std.specs.Prelude.{IfOk}
use Rattle.flat_holds.proofs.LineLaws.{enters_placed}
use Rattle.vrt_model.specs.declared.circuit.Enter.{Enter}
use Rattle.flat_holds.proofs.enters.enters_of.Goals as goal

pub returns : goal.returns
returns c =
    subst (λ (xs : List Enter). IfOk c.enters_at.result (λ enters. enters ≡ xs))
    (enters_placed c.args.rules.now c.args.lines.now c.requires c.args.hold.now c.as_slice.result.now c.as_bytes.result.now c.places-places.result.now c.as_slice.ensures c.as_bytes.ensures
    c.places-places.ensures)
    c.enters_at.ensures
