-- A net of a part has the same strength in the circuit, in each state that agrees with a solution, as in the network of the part
-- alone, with the roots that the circuit has in that state: its holds, its given nets, and the outputs of whole instances.
use Rattle.std.proofs.Common.{◌≡◌, ℕ, ◌<◌, ◌⊎◌, Bool, true, Option, Some, length, arith, refl, sym, subst, inl, inr}
use Rattle.channel_parts.specs.declared.part.Part.{Part}
use Rattle.circuit_faults.specs.KeptFaults.{AreKeptObserved}
use Rattle.circuit_faults.specs.Ordered.{IsWholePart}
use Rattle.circuit_faults.specs.Scans.{IsInside}
use Rattle.known_nets.proofs.KnownShow.{known_in_solution}
use Rattle.known_nets.proofs.NetKinds.{given_or_plain}
use Rattle.known_nets.specs.Wired.{IsWired}
use Rattle.path_fixpoint.proofs.Spreading.{device_ranges}
use Rattle.path_fixpoint.specs.Parts.{part_devices, pins_of}
use Rattle.vrt_model.proofs.Bounded.{strength_inside}
use Rattle.vrt_model.proofs.Decidable.{strength_exists}
use Rattle.vrt_model.proofs.Filtered.{device_among}
use Rattle.vrt_model.proofs.GatesGiven.{IsGiven}
use Rattle.vrt_model.proofs.Laws.{turned}
use Rattle.vrt_model.proofs.Networks.{given_source, network_finite, network_levels}
use Rattle.vrt_model.specs.Circuits.{IsDevice}
use Rattle.vrt_model.specs.Known.{IsChannel}
use Rattle.vrt_model.specs.Levels.{source_level}
use Rattle.vrt_model.specs.Lists.{Among}
use Rattle.vrt_model.specs.Networks.{Covers, HasLevels, HasRanges, IsFinite}
use Rattle.vrt_model.specs.Path.{IsOn, Joins, Network}
use Rattle.vrt_model.specs.Reading.{conducts_at, devices_of}
use Rattle.vrt_model.specs.Response.{IsStrength}
use Rattle.vrt_model.specs.Solution.{Agrees, IsSolution}
use Rattle.vrt_model.specs.State.{Setting, State, network_of}
use Rattle.vrt_model.specs.declared.circuit.Circuit.{Circuit}
use Rattle.vrt_model.specs.declared.circuit.Device.{Device}
use Rattle.path_fixpoint.proofs.SourceLevels.{device_below}
use Rattle.vrt_model.specs.declared.rules.Phase.{Phase}

module _ (which : Bool) (c : Circuit) (phase : Phase) (ranges : HasRanges c) (part : Part) (whole : IsWholePart which c phase part) (bit : ℕ → Bool) (setting : Setting) (s : State) where
  -- the devices of the part, these bits at their gates, and the roots of the circuit in the state
  abbrev pub alone : Network
  alone = record {
    nets = c.nets;
    holds = c.holds;
    outputs = pins_of c;
    devices = part_devices c part;
    source = source_level c;
    reading = bit;
    given = s.reading;
    held = setting.held;
    driven = s.driven;
  }

  abbrev circuit_at : Network
  circuit_at = network_of c which setting.held s

  -- ---- the network of the part has strengths

  alone_levels : HasLevels alone
  alone_levels = record {
    roots = λ r from. (network_levels c which setting.held s ranges).roots r from;
    devices = λ d on. (device_below c d.level (device_ranges c part d ranges on.0).level).1;
  }

  end_in : (d : Device) (m n : ℕ) → IsDevice c d → Joins d m n → n < length c.nets
  end_in d m n is j = elim j [ inl e ↦ subst (λ (x : ℕ). x < length c.nets) e.1 is.right | inr e ↦ subst (λ (x : ℕ). x < length c.nets) e.0 is.left ]

  alone_finite : IsFinite alone (length c.nets) (source_level c)
  alone_finite = record {
    bounded = record {
      roots = λ r from. (network_finite c which setting.held s ranges).bounded.roots r from;
      hops = λ m n d on j. end_in d m n (device_ranges c part d ranges on.0) j;
    };
    most = λ r from. (network_finite c which setting.held s ranges).most r from;
  }

  pub strength_alone : (n : ℕ) → (level : ℕ) × IsStrength alone n level
  strength_alone n = strength_exists alone (length c.nets) (source_level c) alone_finite n

  -- ---- which are those of the circuit

  -- both ends of a device are given or plain
  bounded : (d : Device) (m n : ℕ) → IsChannel c phase which d → Joins d m n → IsInside part n → IsInside part m ⊎ IsGiven c m
  bounded d m n channel j i =
      elim (given_or_plain c m (end_in d n m (device_ranges c part d ranges (whole.channels d m n channel j i)) (turned d m n j))) [
        | inl g ↦ inr g
        | inr p ↦ inl (whole.closed d m n channel j i p)
      ]

  module _ (observed : ℕ → Bool) (wired : IsWired c) (seen : AreKeptObserved c observed) (a : ℕ → Option Bool) (solves : IsSolution c phase observed setting a) (agrees : Agrees observed a s.reading)
      (gates : (d : Device) → Among (part_devices c part) d → a d.gate.0 ≡ Some (bit d.gate.0)) where
    gate_seen : (d : Device) → Among (devices_of which c) d → observed d.gate.0 ≡ true
    gate_seen d m = seen.1 d (device_among which c d m).0

    channel : (d : Device) → IsOn circuit_at d → IsChannel c phase which d
    channel d on = (
      on.0,
      λ v k. subst (λ (b : Bool). conducts_at d.kind b ≡ true)
          (agrees d.gate.0 v (gate_seen d on.0) (known_in_solution c phase wired observed setting a solves seen.0.gates d.gate.0 v k (gate_seen d on.0))) on.1,
    )

    gate_bit : (d : Device) → Among (part_devices c part) d → s.reading d.gate.0 ≡ bit d.gate.0
    gate_bit d m = agrees d.gate.0 (bit d.gate.0) (gate_seen d (whole.devices d m).0) (gates d m)

    there : Covers circuit_at alone (IsInside part) (IsGiven c)
    there = record {
      source = refl;
      roots = λ r from in_it. from;
      devices = λ m n d on j i.
          let m_in = whole.channels d m n (channel d on) j i in
          (m_in, subst (λ (b : Bool). conducts_at d.kind b ≡ true) (gate_bit d m_in) on.1);
      bounded = λ m n d on j i. bounded d m n (channel d on) j i;
      edge = λ n g. given_source c which setting.held s ranges n g.0 g.1 g.2;
    }

    back : Covers alone circuit_at (IsInside part) (IsGiven c)
    back = record {
      source = refl;
      roots = λ r from in_it. from;
      devices = λ m n d on j i. ((whole.devices d on.0).0, subst (λ (b : Bool). conducts_at d.kind b ≡ true) (sym (gate_bit d on.0)) on.1);
      bounded = λ m n d on j i. bounded d m n (whole.devices d on.0) j i;
      edge = λ n g. given_source c which setting.held s ranges n g.0 g.1 g.2;
    }

    pub strength_there : (n level : ℕ) → IsInside part n → IsStrength alone n level → IsStrength circuit_at n level
    strength_there n level i h = strength_inside alone circuit_at (IsInside part) (IsGiven c) alone_levels (network_levels c which setting.held s ranges) back there n level i h
