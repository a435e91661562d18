-- A state of an equal cell without whole instances, with the bits of its solution at a valuation that meets the constraints: each observed net shows its
-- bit there, so an observed net that is not known is in no set that is settled in the cell, and the level that a plain one always has is that of a device.
use Rattle.std.proofs.Common.{◌≡◌, ◌⊎◌, ℕ, ◌≤◌, ◌<◌, Bool, true, false, List, [], ◌∷◌, Option, Some, None, arith, subst, sym, refl, inl, inr, length}
use Rattle.std.specs.Prelude.{IsSome, unwrap_or}
use Rattle.std.proofs.lemmas.Bool.{false≢true}
use Rattle.std.proofs.lemmas.Option.{none-some}
use Rattle.cell_inside.proofs.NetKinds.{plain_not_given}
use Rattle.cell_inside.proofs.OutputPins.{pin_found}
use Rattle.cell_inside.specs.Inside.{Touches}
use Rattle.cell_inside.specs.Placed.{IsSupply}
use Rattle.cell_inside.specs.Regions.{ArePinsPlain}
use Rattle.cell_inside.specs.Unjoined.{HasKnownGates}
use Rattle.known_nets.proofs.KnownShow.{known_in_solution}
use Rattle.known_nets.specs.Wired.{IsWired}
use Rattle.replaced_cells.proofs.States.{with_given, with_given_agrees, with_given_reads}
use Rattle.vrt_model.proofs.Filtered.{device_among}
use Rattle.vrt_model.proofs.Members.{all_among, at_none}
use Rattle.vrt_model.proofs.Scales.{least_above, least_below}
use Rattle.vrt_model.specs.Circuits.{IsDevice}
use Rattle.vrt_model.specs.Comparison.{Comparison, is_observed, phase_at}
use Rattle.vrt_model.specs.Equal.{Agree, IsPhaseEqual}
use Rattle.vrt_model.specs.Facts.{HasLevel}
use Rattle.vrt_model.specs.Faults.{Solves}
use Rattle.vrt_model.specs.Held.{setting_of}
use Rattle.vrt_model.specs.Known.{IsPlain, IsUnknown}
use Rattle.vrt_model.specs.Levels.{IsDeviceLevel, least_level, source_level}
use Rattle.vrt_model.specs.Lists.{Among, At}
use Rattle.vrt_model.specs.Networks.{HasRanges}
use Rattle.vrt_model.specs.Path.{Hop, IsPath, Root, end_of, level_of}
use Rattle.vrt_model.specs.Reading.{Partial, devices_of}
use Rattle.vrt_model.specs.Response.{IsResponse, IsStrength, Reaches, Shows}
use Rattle.vrt_model.specs.Solution.{Agrees}
use Rattle.vrt_model.specs.State.{IsState, OutputPin, Setting, State, network_of, output_pins}
use Rattle.vrt_model.specs.declared.circuit.Device.{Device}
use Rattle.vrt_model.specs.declared.circuit.Hold.{Hold}
use Rattle.vrt_model.specs.declared.rules.Phase.{Phase}
use Rattle.vrt_model.specs.declared.whole.Whole.{Whole}
use Rattle.whole_solutions.proofs.KnownInsideLaws.{unknown_outputs_are_unsettled}
use Rattle.whole_solutions.proofs.ObservedCases.{gate_observed}
use Rattle.whole_solutions.specs.KnownInside.{AreExposedUnsettled}

module _ (q : Comparison) (phase : ℕ) (equal : IsPhaseEqual q phase) (ranges : HasRanges q.circuit) (no_holds : q.circuit.holds ≡ []) (no_wholes : q.circuit.wholes ≡ []) where
  abbrev now : Phase
  now = phase_at q.rules phase

  abbrev setting : Setting
  setting = setting_of q phase equal.met.0

  agree : Agree q phase (setting_of q phase equal.met.0)
  agree = equal.agree equal.met.0 equal.met.1

  abbrev solution : Partial
  solution = agree.solution.0

  solves : Solves q phase (setting_of q phase equal.met.0) solution
  solves = agree.solution.1

  no_pin : (out : OutputPin) → Among (output_pins q.circuit) out → ⊥
  no_pin out on = at_none on.0 out (subst (λ (ws : List Whole). At (output_pins (record q.circuit { wholes = ws })) on.0 out) no_wholes on.1)

  pins_plain : ArePinsPlain q.circuit
  pins_plain out on = absurd (no_pin out on)

  wired : IsWired q.circuit
  wired = record { ranges = ranges; outputs = λ w pin on there. absurd (at_none on.0 w (subst (λ (ws : List Whole). At ws on.0 w) no_wholes on.1)) }

  -- ---- the state

  abbrev state : State
  state = record { reading = with_given q.circuit now setting.inputs (λ n. unwrap_or (solution n) false); driven = λ i. false }

  is_state : IsState q.circuit now setting.inputs state
  is_state = record { reading = with_given_reads q.circuit now setting.inputs (λ n. unwrap_or (solution n) false); driven = λ i out e. absurd (no_pin out (i, e)) }

  agrees : Agrees (is_observed q phase) solution state.reading
  agrees = with_given_agrees q.circuit now (is_observed q phase) setting solution ranges pins_plain solves

  gate_seen : (d : Device) → Among (devices_of true q.circuit) d → is_observed q phase d.gate.0 ≡ true
  gate_seen d on = gate_observed q phase d.gate.0 (d, (device_among true q.circuit d on).0, refl)

  known_gates : HasKnownGates q.circuit now true (λ n. n) state
  known_gates d b on known =
      agrees d.gate.0 b (gate_seen d on) (known_in_solution q.circuit now wired (is_observed q phase) setting solution solves gate_seen d.gate.0 b known (gate_seen d on))

  some_bit : (o : Option Bool) → IsSome o → (v : Bool) × (o ≡ Some v)
  some_bit None is = absurd (false≢true is)
  some_bit (Some v) is = (v, refl)

  shows : (n : ℕ) → is_observed q phase n ≡ true → (v : Bool) × IsResponse (network_of q.circuit true setting.held state) n (Shows v)
  shows n seen =
      let bit = some_bit (solution n) (agree.defined solution solves n seen) in
      (bit.0, (solves n bit.0 seen).0 bit.1 state is_state agrees)

  -- ---- sets that are settled

  pub outputs_are_unsettled : ((d : Device) (n : ℕ) → Among q.circuit.devices d → Touches d n → IsPlain q.circuit n ⊎ ((value : Bool) × IsSupply q.circuit n value))
      → (exposed : ℕ → Bool) → ((n : ℕ) → exposed n ≡ true → IsUnknown q.circuit (phase_at q.rules phase) n) → ((n : ℕ) → exposed n ≡ true → is_observed q phase n ≡ true)
      → AreExposedUnsettled q.circuit (phase_at q.rules phase) exposed
  outputs_are_unsettled channels exposed unknown seen =
      unknown_outputs_are_unsettled q.circuit now setting exposed state ranges no_holds no_wholes channels is_state known_gates unknown (λ n e. shows n (seen n e))

  -- ---- levels

  -- a path has the level of a device at least
  path_low : (root : Root) (hops : List Hop) → IsPath (network_of q.circuit true setting.held state) root hops → least_level q.circuit ≤ level_of root hops
  path_low root [] p =
      elim p [
        | inl g ↦ (let is : root.level ≡ source_level q.circuit = g.3 in let below = least_below q.circuit in omega (arith, is, below))
        | inr other ↦ elim other [
          | inl h ↦ absurd (none-some h.1 (subst (λ (hs : List Hold). At hs h.0 h.1) no_holds h.2))
          | inr o ↦ (let out = pin_found q.circuit o.0 o.1 o.2 in absurd (no_pin out.0 (o.0, out.1)))
        ]
      ]
  path_low root (hop ∷ hops) p =
      let before = path_low root hops p.0 in
      let low = (all_among (IsDevice q.circuit) q.circuit.devices hop.device ranges.devices (device_among true q.circuit hop.device p.1.0).0).level.0 in
      omega (arith, before, low)

  -- and where it ends at a plain net that of one at most
  path_high : (n : ℕ) → IsPlain q.circuit n → (root : Root) (hops : List Hop) → IsPath (network_of q.circuit true setting.held state) root hops → end_of root hops ≡ n → level_of root hops < source_level q.circuit
  path_high n plain root [] p e =
      elim p [
        | inl g ↦ absurd (plain_not_given q.circuit root.net g.0 (subst (IsPlain q.circuit) (sym e) plain) g.1 g.2)
        | inr other ↦ elim other [
          | inl h ↦ absurd (none-some h.1 (subst (λ (hs : List Hold). At hs h.0 h.1) no_holds h.2))
          | inr o ↦ (let out = pin_found q.circuit o.0 o.1 o.2 in absurd (no_pin out.0 (o.0, out.1)))
        ]
      ]
  path_high n plain root (hop ∷ hops) p e =
      let high = (all_among (IsDevice q.circuit) q.circuit.devices hop.device ranges.devices (device_among true q.circuit hop.device p.1.0).0).level.1 in
      omega (arith, high)

  reached : (n : ℕ) (v : Bool) → IsResponse (network_of q.circuit true setting.held state) n (Shows v) → Reaches (network_of q.circuit true setting.held state) n v
  reached n true h = h.0
  reached n false h = h.0

  pub level_in_range : (n level : ℕ) → phase < length q.rules.phases → IsPlain q.circuit n → is_observed q phase n ≡ true → HasLevel q n level → IsDeviceLevel q.circuit level
  level_in_range n level lt plain seen has =
      let strong : IsStrength (network_of q.circuit true setting.held state) n level = has phase equal.met.0 solution state true lt equal.met.1 solves is_state agrees in
      let bit = shows n seen in
      let path = reached n bit.0 bit.1 in
      let low = path_low path.0 path.1 path.2 in
      let most = strong.0 path.0 path.1 path.2 path.4 in
      elim strong.1 [
        | inl none ↦ absurd (let above = least_above q.circuit in omega (arith, none, low, most, above))
        | inr some ↦
            let high = path_high n plain some.0 some.1 some.2 some.3 in
            let same = some.4 in (omega (arith, low, most), omega (arith, high, same))
      ]
