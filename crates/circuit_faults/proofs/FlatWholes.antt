-- A circuit without whole instances is one whose whole instances are sound.
use Rattle.std.proofs.Common.{◌≡◌, ℕ, Bool, List, [], subst}
use Rattle.node_pool.specs.declared.region.Span.{Span}
use Rattle.circuit_faults.specs.Steps.{InPhase, phase_of}
use Rattle.circuit_faults.specs.Wholes.{HasSoundWholes, IsReadyWholes}
use Rattle.known_nets.proofs.WiredLaws.{pin_of_whole}
use Rattle.known_nets.specs.Wired.{IsWired}
use Rattle.whole_steps.specs.Tables.{HasModelRoom, IsWholeTable}
use Rattle.vrt_model.proofs.Members.{at_none}
use Rattle.vrt_model.proofs.Networks.{flat_ranges}
use Rattle.vrt_model.specs.Circuits.{IsFlat}
use Rattle.vrt_model.specs.Lists.{Among, At}
use Rattle.vrt_model.specs.State.{OutputPin, output_pins}
use Rattle.vrt_model.specs.declared.circuit.Circuit.{Circuit}
use Rattle.vrt_model.specs.declared.rules.Phase.{Phase}
use Rattle.vrt_model.specs.declared.whole.Whole.{Whole}

no_whole : (c : Circuit) → c.wholes ≡ [] → (w : Whole) → Among c.wholes w → ⊥
no_whole c none w m = at_none m.0 w (subst (λ (ws : List Whole). At ws m.0 w) none m.1)

pub flat_wholes : (c : Circuit) (phase : Phase) (observed : ℕ → Bool) → IsFlat c → HasSoundWholes c phase observed
flat_wholes c phase observed flat = record {
  ranges = flat_ranges c flat;
  determined = λ w m. absurd (no_whole c flat.wholes w m);
}

pub flat_wired : (c : Circuit) → IsFlat c → IsWired c
flat_wired c flat = record { ranges = flat_ranges c flat; outputs = λ w pin m out. absurd (no_whole c flat.wholes w m) }

-- and it has no output
pub flat_outputs : (c : Circuit) → IsFlat c → (at : ℕ) (out : OutputPin) → At (output_pins c) at out → ⊥
flat_outputs c flat at out e = no_whole c flat.wholes out.whole (pin_of_whole c out (at, e)).0

-- so nothing is to be made of them
pub flat_table : (c : Circuit) → IsFlat c → IsWholeTable c [] []
flat_table c flat = record {
  outputs = record {
    last = λ n lt at out e less. absurd (flat_outputs c flat at out e);
    earlier = λ at out e. absurd (flat_outputs c flat at out e);
  };
  plans = λ k x e. absurd (no_whole c flat.wholes x (k, e));
  logic = λ x m. absurd (no_whole c flat.wholes x m);
}

pub flat_ready : (w : InPhase) → IsFlat w.circuit → IsReadyWholes w [] []
flat_ready w flat = record {
  wholes = flat_wholes w.circuit (phase_of w) w.observed flat;
  table = flat_table w.circuit flat;
  ordered = record {
    alone = λ k at part out m here e free i j. absurd (flat_outputs w.circuit flat at out e);
    inputs = λ k place part out input here among i pin m linked seen plain unknown. absurd (no_whole w.circuit flat.wholes out.whole (pin_of_whole w.circuit out among).0);
  };
  phase = λ x m. absurd (no_whole w.circuit flat.wholes x m);
}

pub flat_room : (c : Circuit) (out : Span) → IsFlat c → HasModelRoom c out
flat_room c out flat x m = absurd (no_whole c flat.wholes x m)
