use Rattle.std.proofs.lemmas.Result.{IfOk-weaker}
use Rattle.substitute.proofs.cycles.circuit_by.Goals as goal

pub returns : goal.returns
returns c =
    IfOk-weaker c.circuit_with.result _ _ (λ circuit gives cut blif facts by. gives cut blif facts by.cut_at by.marks by.flat_is by.formed by.places by.cells) c.circuit_with.ensures
