-- What is put together is well formed.
use Rattle.std.proofs.lemmas.Result.{IfOk-weaker}
use Rattle.flatten.proofs.CircuitLaws.{made}
use Rattle.net_places.proofs.CallerLaws.{few_nets}
use Rattle.vrt_model.specs.Unsupported.{top_before}
use Rattle.flatten.proofs.circuit.unrolled_circuit.Goals as goal

pub circuit_of-requires-clause-small : goal.circuit_of-requires-clause-small
circuit_of-requires-clause-small c = few_nets (top_before c.args.design.now c.args.rules.now c.args.cell) c.requires.structured.small

pub returns : goal.returns
returns c =
    IfOk-weaker c.circuit_of.result _ _ (λ circuit is. made c.args.design.now c.args.rules.now c.args.cell c.args.pairing.now circuit c.requires.ruled c.requires.structured is) c.circuit_of.ensures
