use Rattle.std.proofs.Common.{◌≡◌, List, ℕ, subst}
use Rattle.std.specs.Prelude.{IfOk}
use Rattle.blif_flat.proofs.NetworkMade.{driven_are}
use Rattle.blif_flat.proofs.network.driven_in.Goals as goal

pub returns : goal.returns
returns c =
    subst (λ (ns : List (List ℕ)). IfOk c.those_among.result (λ names. names ≡ ns))
    (driven_are c.args.model.now c.as_slice-covers.result.now c.in_ok-outputs.outputs c.in_ok-all.all c.in_ok-list.list c.as_slice.result.now c.as_slice-covers.ensures c.in_ok-outputs.ensures c.in_ok-all.ensures
    c.in_ok-list.ensures c.as_slice.ensures)
    c.those_among.ensures
