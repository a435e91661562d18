-- The parts of a flat circuit.
use Rattle.std.proofs.Common.{◌≡◌, ap}
use Rattle.vrt_model.specs.FlatCircuit.{flat_circuit_of, flat_devices, flat_holds, flat_instances, flat_nets}
use Rattle.vrt_model.specs.Levels.{source_of}
use Rattle.vrt_model.specs.Unrolled.{Top}
use Rattle.vrt_model.specs.declared.circuit.Circuit.{Circuit}

pub record HasFlatParts (t : Top) (c : Circuit) : Type 0 where
  pub nets : c.nets ≡ flat_nets t
  pub devices : c.devices ≡ flat_devices t
  pub holds : c.holds ≡ flat_holds t
  pub instances : c.instances ≡ flat_instances t
  pub source : c.source ≡ source_of t.rules

pub flat_parts : (t : Top) (c : Circuit) → c ≡ flat_circuit_of t → HasFlatParts t c
unfolding flat_circuit_of
flat_parts t c e = record {
  nets = ap (λ (x : Circuit). x.nets) e;
  devices = ap (λ (x : Circuit). x.devices) e;
  holds = ap (λ (x : Circuit). x.holds) e;
  instances = ap (λ (x : Circuit). x.instances) e;
  source = ap (λ (x : Circuit). x.source) e;
}
