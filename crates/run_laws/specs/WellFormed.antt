-- Of which comparisons the law of runs speaks.
use Rattle.std.specs.Prelude.{◌≡◌}
use Rattle.vrt_model.specs.Assignment.{Tied}
use Rattle.vrt_model.specs.Circuits.{IsCircuit}
use Rattle.vrt_model.specs.Comparison.{Comparison, tied_inputs}
use Rattle.vrt_model.specs.Groups.{groups_of}
use Rattle.vrt_model.specs.Lists.{Among, At}
use Rattle.vrt_model.specs.declared.circuit.FlatNet.{FlatNet}
use Rattle.vrt_model.specs.declared.circuit.NetKind.TheVariants.{Input}

-- the circuit is well formed, the groups are those of its holds, and each input of the model that has the bit of a net has
-- that of an input net
pub record IsWellFormed (k : Comparison) : Type 0 where
  pub circuit : IsCircuit k.circuit
  pub groups : k.groups ≡ groups_of k.circuit k.model
  pub inputs : (t : Tied) → Among (tied_inputs k) t → (net : FlatNet) × At k.circuit.nets t.net net × (net.kind ≡ Input)
