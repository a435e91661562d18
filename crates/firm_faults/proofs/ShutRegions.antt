-- A shut set is a region, settled by the gates at it; so known nets are settled.
use Rattle.std.proofs.Common.{◌≡◌, ℕ, ◌&&◌, ◌||◌, Bool, true, List, eqb, subst, sym, refl, ◌∙◌, inl, inr}
use Rattle.std.specs.List.{list_any}
use Rattle.std.proofs.lemmas.Bool.{and_from, and_parts, eq-eqb, eqb-true, or_cases, or_left, or_right}
use Rattle.cell_inside.specs.Regions.{IsRegion}
use Rattle.firm_faults.specs.Settled.{IsBacked, IsLinkedOutput, IsSettled, ShowsOwnBit, given, within}
use Rattle.known_nets.proofs.WiredLaws.{pin_of_whole}
use Rattle.vrt_model.proofs.Laws.{turned}
use Rattle.vrt_model.proofs.Locality.{fixed_given}
use Rattle.vrt_model.proofs.Members.{among_any, any_among}
use Rattle.vrt_model.specs.Comparison.{Comparison, is_observed, phase_at}
use Rattle.vrt_model.specs.Known.{IsKnown, IsShut, fixed, settled}
use Rattle.vrt_model.specs.Lists.{Among}
use Rattle.vrt_model.specs.Path.{Joins}
use Rattle.vrt_model.specs.Reading.{conducts_at, devices_of}
use Rattle.vrt_model.specs.State.{Setting, State}
use Rattle.vrt_model.specs.declared.circuit.Circuit.{Circuit}
use Rattle.vrt_model.specs.declared.circuit.Device.{Device}
use Rattle.vrt_model.specs.declared.circuit.FlatInstance.{FlatInstance}
use Rattle.vrt_model.specs.declared.rules.Phase.{Phase}
use Rattle.vrt_model.specs.declared.whole.Whole.{Whole}
use Rattle.vrt_model.specs.declared.whole.WholePin.{WholePin}

-- a device of the bare circuit at a set has this gate
abbrev pub is_gate_at : (ℕ → Bool) → ℕ → Device → Bool
is_gate_at inside m d = eqb d.gate.0 m && (inside d.left.0 || inside d.right.0)

-- the gates of the devices at a set
abbrev pub gates_at : Circuit → (ℕ → Bool) → ℕ → Bool
gates_at c inside m = list_any (is_gate_at inside m) (devices_of true c)

at_set : (inside : ℕ → Bool) (d : Device) (n m : ℕ) → inside n ≡ true → Joins d m n → (inside d.left.0 || inside d.right.0) ≡ true
at_set inside d n m ins (inl j) = or_right (inside d.left.0) (inside d.right.0) (subst (λ (x : ℕ). inside x ≡ true) (sym j.1) ins)
at_set inside d n m ins (inr j) = or_left (inside d.left.0) (inside d.right.0) (subst (λ (x : ℕ). inside x ≡ true) (sym j.0) ins)

pub gate_is : (c : Circuit) (inside : ℕ → Bool) (d : Device) (n m : ℕ) → inside n ≡ true → Among (devices_of true c) d → Joins d m n → gates_at c inside d.gate.0 ≡ true
gate_is c inside d n m ins a j =
    among_any (is_gate_at inside d.gate.0) (devices_of true c) d a
    (and_from (eqb d.gate.0 d.gate.0) (inside d.left.0 || inside d.right.0) (eq-eqb d.gate.0 d.gate.0 refl) (at_set inside d n m ins j))

-- a gate at a set is that of a device there
pub gate_of : (c : Circuit) (inside : ℕ → Bool) (m : ℕ) → gates_at c inside m ≡ true
    → (d : Device) × Among (devices_of true c) d × (d.gate.0 ≡ m) × ((n : ℕ) × (l : ℕ) × (inside n ≡ true) × Joins d n l)
gate_of c inside m e =
    let found = any_among (is_gate_at inside m) (devices_of true c) e in
    let d : Device = found.0 in
    let both = and_parts (eqb d.gate.0 m) (inside d.left.0 || inside d.right.0) found.2 in (
      d,
      found.1,
      eqb-true d.gate.0 m both.0,
      elim (or_cases (inside d.left.0) (inside d.right.0) both.1) [
        | inl l ↦ (d.left.0, d.right.0, l, inl (refl, refl))
        | inr r ↦ (d.right.0, d.left.0, r, inr (refl, refl))
      ],
    )

-- no whole instance drives a net of a shut set
not_driven : (c : Circuit) (phase : Phase) (inside reading : ℕ → Bool) → IsShut c phase inside reading → (w : Whole) (pin : WholePin) → Among c.wholes w → Among w.outputs pin → inside pin.net.0 ≡ true → ⊥
not_driven c phase inside reading shut w pin m e ins = (shut.plain pin.net.0 ins).2 (w, pin, m, e, refl)

module _ (k : Comparison) (originals : List FlatInstance) (phase : ℕ) (setting : Setting) (s : State) where
  -- where the gates at a shut set have their bits in the state, the set is a region
  shut_region : (inside reading : ℕ → Bool) → IsShut k.circuit (phase_at k.rules phase) inside reading → ((m : ℕ) → gates_at k.circuit inside m ≡ true → s.reading m ≡ reading m)
      → IsRegion k.circuit (phase_at k.rules phase) setting inside (gates_at k.circuit inside) s.reading
  shut_region inside reading shut same = record {
    plain = λ n ins. (shut.plain n ins).0;
    gates = λ n m d ins a j. inl (gate_is k.circuit inside d n m ins a j);
    bounded = λ n m d t ins a j it has on.
        let b = gate_is k.circuit inside d n m ins a j in
        elim (shut.joined n m d ins a (turned d m n j) (subst (λ (v : Bool). conducts_at d.kind v ≡ true) (has d.gate.0 b ∙ same d.gate.0 b) on)) [
          | inl i ↦ inl i
          | inr f ↦ inr (f.1.0, f.1.1, fixed_given (phase_at k.rules phase) f.1.0.kind f.0 f.1.2)
        ];
    pins = λ t q it iq ht hq at out e ins.
        let from = pin_of_whole k.circuit out (at, e) in
        absurd (not_driven k.circuit (phase_at k.rules phase) inside reading shut out.whole out.pin from.0 from.1 ins);
  }

  shut_backed : (inside reading base : ℕ → Bool) → IsShut k.circuit (phase_at k.rules phase) inside reading → IsBacked k originals phase s inside base
  shut_backed inside reading base shut = record {
    linked = λ w at pin input m e ins mi link seen. absurd (not_driven k.circuit (phase_at k.rules phase) inside reading shut w pin m (at, e) ins);
    named = λ w pin i n m e ins mi of there. absurd (not_driven k.circuit (phase_at k.rules phase) inside reading shut w pin m e ins);
    unbroken = λ w pin i m e ins mi of broken. not_driven k.circuit (phase_at k.rules phase) inside reading shut w pin m e ins;
  }

  module _ (gates_seen : (d : Device) → Among (devices_of true k.circuit) d → is_observed k phase d.gate.0 ≡ true)
      (known_shows : (n : ℕ) (v : Bool) → is_observed k phase n ≡ true → IsKnown k.circuit (phase_at k.rules phase) n v → (s.reading n ≡ v) × ShowsOwnBit k phase setting s n) where
    -- known nets are settled, where the state has the bits of known gates, which show them
    pub known_settled : (n : ℕ) (v : Bool) → IsKnown k.circuit (phase_at k.rules phase) n v → IsSettled k originals phase setting s n
    known_settled n v (fixed h) = given (h.0, h.1, fixed_given (phase_at k.rules phase) h.0.kind v h.2)
    known_settled n v (settled inside reading held driven shut ins own gates shows) =
        within inside (gates_at k.circuit inside) (shut_region inside reading shut (λ m b. (gate_has m b).0)) (shut_backed inside reading (gates_at k.circuit inside) shut) ins
        (λ m b. (gate_has m b).1)
        (λ m b.
        let d = gate_of k.circuit inside m b in
        subst (IsSettled k originals phase setting s) d.2 (known_settled d.0.gate.0 (reading d.0.gate.0) (gates d.3.0 d.3.1 d.0 d.3.2 d.1 d.3.3)))
        (λ m l f. no_output m shut l) (λ m l. absurd (no_output m shut l))
      where
        no_output : (m : ℕ) → IsShut k.circuit (phase_at k.rules phase) inside reading → IsLinkedOutput k.circuit (phase_at k.rules phase) inside m → ⊥
        no_output m is l = not_driven k.circuit (phase_at k.rules phase) inside reading is l.0 l.2 l.4 (l.1, l.5) l.6

        gate_has : (m : ℕ) → gates_at k.circuit inside m ≡ true → (s.reading m ≡ reading m) × ShowsOwnBit k phase setting s m
        gate_has m b =
            let d = gate_of k.circuit inside m b in
            subst (λ (x : ℕ). (s.reading x ≡ reading x) × ShowsOwnBit k phase setting s x) d.2
            (known_shows d.0.gate.0 (reading d.0.gate.0) (gates_seen d.0 d.1) (gates d.3.0 d.3.1 d.0 d.3.2 d.1 d.3.3))
