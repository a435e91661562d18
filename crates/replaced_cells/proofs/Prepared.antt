-- From the bits at the nets outside to those of both circuits: the nets of the cell have the bits of the cell's own solution.
use Rattle.std.proofs.Common.{◌≡◌, ℕ, Bool, true, false, List, Some, subst, sym, refl, ◌∙◌, ap, inl, inr}
use Rattle.std.proofs.lemmas.Bool.{cases_Bool, false≢true}
use Rattle.std.proofs.lemmas.Option.{same_Some}
use Rattle.cell_inside.specs.LeftWhole.{Correspond}
use Rattle.cell_inside.specs.Placed.{IsSupply}
use Rattle.known_nets.proofs.NetKinds.{given_or_plain}
use Rattle.replaced_cells.proofs.BrokenLaws.{assumes_constrain, clocks_constrain}
use Rattle.replaced_cells.proofs.SolvedAlike.{inside_apart, no_pins, not_compared, plain_there}
use Rattle.replaced_cells.proofs.States.{given_solved, gives_same_signal, solution_same, state_at, state_is}
use Rattle.replaced_cells.specs.OneMoreWhole.{IsOneMoreWhole, all_bits, no_net}
use Rattle.vrt_model.proofs.Filtered.{device_among}
use Rattle.vrt_model.proofs.GatesGiven.{plain_any}
use Rattle.vrt_model.proofs.Lists.{map_among}
use Rattle.vrt_model.specs.Assignment.{IsAssignment}
use Rattle.vrt_model.specs.CellRules.{is_constrained}
use Rattle.vrt_model.specs.Checked.{with_circuit}
use Rattle.vrt_model.specs.Comparison.{Comparison, cell_at, is_observed, phase_at, port_nets}
use Rattle.vrt_model.specs.Constraints.{Meets}
use Rattle.vrt_model.specs.Faults.{BreaksConstraint, Solves}
use Rattle.vrt_model.specs.FlatCircuit.{net_id}
use Rattle.vrt_model.specs.Held.{setting_of}
use Rattle.vrt_model.specs.Known.{IsPlain}
use Rattle.vrt_model.specs.Lists.{Among, At}
use Rattle.vrt_model.specs.Reading.{HasGivenBit, IsReading, Partial, is_given}
use Rattle.vrt_model.specs.State.{IsState, ModelGives, OutputPin, State, output_pins, surroundings_of_whole}
use Rattle.vrt_model.specs.declared.circuit.Circuit.{Circuit}
use Rattle.vrt_model.specs.declared.circuit.FlatInstance.{FlatInstance}
use Rattle.vrt_model.specs.declared.circuit.FlatNet.{FlatNet}
use Rattle.vrt_model.specs.declared.circuit.NetKind.{NetKind}
use Rattle.vrt_model.specs.declared.design.Design.{Design}
use Rattle.vrt_model.specs.declared.ids.Net.{Net}
use Rattle.vrt_model.specs.declared.rules.Phase.{Phase}
use Rattle.vrt_model.specs.declared.rules.Rules.{Rules}
use Rattle.whole_ranks.proofs.DeterminedLaws.{inside, shows_signal}
use Rattle.whole_ranks.proofs.IdleLaws.{idle_inputs_change_nothing}
use Rattle.whole_ranks.specs.Idle.{SameButIdle}
use Rattle.whole_ranks.specs.WholeCells.{IsInputNet}
use Rattle.whole_solutions.proofs.InstanceLaws.{instance_gives_valuation}
use Rattle.whole_solutions.proofs.ObservedCases.{gate_observed, instance_observed, pin_observed}
use Rattle.whole_solutions.specs.Instances.{HasNamedBits, IsNamed}

-- A reading that has the bits of a partial assignment at the nets that are observed with the instance i whole, where no constraint of the
-- instance is broken.
pub record IsBase (k : Comparison) (phase : ℕ) (whole_circuit : Circuit) (i : FlatInstance) (inputs : ℕ → Bool) (a : Partial) (reading : ℕ → Bool) : Type 0 where
  pub reads : IsReading whole_circuit (phase_at k.rules phase) inputs reading
  pub seen : (n : ℕ) → is_observed (with_circuit k whole_circuit) phase n ≡ true → a n ≡ Some (reading n)
  pub met : ¬ BreaksConstraint k.design k.rules phase a i

module _ (k q : Comparison) (phase : ℕ) (whole_circuit : Circuit) (at place fresh : ℕ → ℕ) (remaining compared exposed : ℕ → Bool) (drive : ℕ → ℕ)
    (one : IsOneMoreWhole k q phase whole_circuit at place fresh remaining compared exposed drive) where
  abbrev now : Phase
  now = phase_at k.rules phase

  abbrev own_now : Phase
  own_now = phase_at q.rules phase

  abbrev there : Comparison
  there = with_circuit k whole_circuit

  -- ---- other bits inside

  module _ (reading inner : ℕ → Bool) where
    abbrev by_test : (n : ℕ) (t : Bool) → compared n ≡ t → Bool
    by_test n true e = reading n
    by_test n false e = inner (one.hides.hidden n e).0

    -- the bits of a reading outside, and others at the nets of the cell
    pub mixed : ℕ → Bool
    mixed n = by_test n (compared n) refl

    pub mixed_outside : (n : ℕ) → compared n ≡ true → mixed n ≡ reading n
    unfolding mixed
    mixed_outside n c = found (compared n) refl c
      where
        found : (t : Bool) (e : compared n ≡ t) → t ≡ true → by_test n t e ≡ reading n
        found true e is = refl
        found false e is = absurd (false≢true is)

    pub mixed_inside : (m : ℕ) → IsPlain q.circuit m → exposed m ≡ false → mixed (at m) ≡ inner m
    unfolding mixed
    mixed_inside m p hidden = found (compared (at m)) refl
      where
        found : (t : Bool) (e : compared (at m) ≡ t) → by_test (at m) t e ≡ inner m
        found true e = absurd (false≢true (sym (not_compared k q phase whole_circuit at place fresh remaining compared exposed drive one m p hidden) ∙ e))
        found false e =
            let h = one.hides.hidden (at m) e in
            ap inner (sym (inside_apart k q phase whole_circuit at place fresh remaining compared exposed drive one m h.0 p h.2 hidden h.1))

    pub mixed_reads : (inputs : ℕ → Bool) → IsReading whole_circuit now inputs reading → IsReading whole_circuit now inputs mixed
    mixed_reads inputs reads n net e =
        elim (cases_Bool (compared n)) [
          | inl t ↦ subst (HasGivenBit now inputs net.kind n) (sym (mixed_outside n t)) (reads n net e)
          | inr f ↦
              let h = one.hides.hidden n f in
              let plain = plain_there k q phase whole_circuit at place fresh remaining compared exposed drive one (at h.0) (one.placed.plain h.0 h.2) in
              let same : net ≡ plain.0 = same_Some net plain.0 (sym e ∙ subst (λ (x : ℕ). At whole_circuit.nets x plain.0) (sym h.1) plain.1) in
              plain_any now inputs net.kind n (mixed n) (ap (λ (x : FlatNet). is_given x.kind) same ∙ ap is_given plain.2)
        ]

  -- a reading of the one circuit is one of the other
  pub reads_below : (inputs reading : ℕ → Bool) → IsReading whole_circuit now inputs reading → IsReading k.circuit now inputs reading
  reads_below inputs reading reads n net e = reads n net (subst (λ (nets : List FlatNet). At nets n net) (sym one.nets) e)

  -- ---- the cell at a valuation

  -- an input has the bit that a reading of the cell gives it
  pub input_same : (bits : List Bool) (reading : ℕ → Bool) → IsReading q.circuit own_now (setting_of q phase bits).inputs (λ n. reading (at n))
      → (n : ℕ) → IsInputNet q.circuit n → (setting_of q phase bits).inputs n ≡ reading (at n)
  input_same bits reading reads n i =
      sym (subst (λ (kind : NetKind). HasGivenBit own_now (setting_of q phase bits).inputs kind n (reading (at n))) i.2 (reads n i.0 i.1))

  -- a solution of the cell has the bit that a reading gives the cell's own pin
  pub output_gives : (reading : ℕ → Bool) (bits : List Bool) → Meets q phase bits
      → IsReading q.circuit own_now (setting_of q phase bits).inputs (λ n. reading (at n)) → (b : Partial) → Solves q phase (setting_of q phase bits) b
      → (n : ℕ) (out : OutputPin) (v : Bool) → IsPlain q.circuit n → At (output_pins whole_circuit) (fresh n) out → out.pin.net.0 ≡ at n → ModelGives now out reading v → b n ≡ Some v
  output_gives reading bits meets reads b solves n out v p e net g =
      let own = one.pins.own n out p e net in
      let assigns = inside q phase whole_circuit (is_observed there phase) at out.whole one.cell own.0 reading g.0 (setting_of q phase bits)
      (subst (λ (rules : Rules). IsAssignment out.whole.model (surroundings_of_whole (phase_at rules phase) out.whole reading) g.0) (sym one.rules) g.1)
      (input_same bits reading reads) in
      let signal = shows_signal q phase whole_circuit (is_observed there phase) at out.whole one.cell own.0 bits b g.0 meets solves assigns own.1.0 own.1.1 out.pin.signal own.1.2 in
      subst (λ (m : ℕ). b m ≡ Some (g.0.signal out.pin.signal)) own.1.3 signal ∙ ap (λ (x : Bool). Some x) g.2

  -- so it has the bit that the pin drives in a state, with the instance whole
  pub output_bit : (inputs : ℕ → Bool) (r : State) → IsState whole_circuit now inputs r → (bits : List Bool) → Meets q phase bits
      → IsReading q.circuit own_now (setting_of q phase bits).inputs (λ n. r.reading (at n)) → (b : Partial) → Solves q phase (setting_of q phase bits) b
      → (n : ℕ) (out : OutputPin) → IsPlain q.circuit n → At (output_pins whole_circuit) (fresh n) out → out.pin.net.0 ≡ at n → b n ≡ Some (r.driven (fresh n))
  output_bit inputs r is bits meets reads b solves n out p e net =
      output_gives r.reading bits meets reads b solves n out (r.driven (fresh n)) p e net (is.driven (fresh n) out e)

  -- ---- the instance

  module _ (inputs : ℕ → Bool) (a : Partial) where
    abbrev instance : FlatInstance
    instance = one.instance.0

    -- a cell whose constraints name a port has constraints
    constrained : (name : List ℕ) → IsNamed q phase name → is_constrained k.rules (cell_at k.design instance.cell).name ≡ true
    constrained name named =
        let own : is_constrained q.rules (cell_at q.design q.cell).name ≡ true =
        elim named [
          | inl (e, m, _) ↦ assumes_constrain q.rules (cell_at q.design q.cell).name phase e m
          | inr (clock, is) ↦ clocks_constrain q.rules (cell_at q.design q.cell).name name clock is
        ] in
        subst (λ (c : ℕ). is_constrained k.rules (cell_at k.design c).name ≡ true) (sym one.instance.2.cell)
        (subst (λ (d : Design). is_constrained k.rules (cell_at d q.cell).name ≡ true) one.design
        (subst (λ (rules : Rules). is_constrained rules (cell_at q.design q.cell).name ≡ true) one.rules own))

    -- so the bits at the instance are a valuation of its cell that meets the constraints
    pub valuation_of : (reading : ℕ → Bool) → IsBase k phase whole_circuit instance inputs a reading
        → (bits : List Bool) × Meets q phase bits × IsReading q.circuit own_now (setting_of q phase bits).inputs (λ n. reading (at n))
    valuation_of reading base =
        instance_gives_valuation q phase at instance reading a one.cell.holds one.given one.instance.2 named supplies
        (λ h. base.met (subst (λ (d : Design). BreaksConstraint d k.rules phase a instance) one.design
        (subst (λ (rules : Rules). BreaksConstraint q.design rules phase a instance) one.rules h)))
      where
        named : HasNamedBits q phase at reading a
        named i n name port is =
            base.seen (at n) (instance_observed there phase (at n) (
              instance,
              net_id (at n),
              one.instance.1,
              subst (λ (nets : List Net). Among nets (net_id (at n))) (sym one.instance.2.ports) (map_among (λ (x : ℕ). net_id (at x)) (port_nets q.rules (cell_at q.design q.cell).ports) n (i, port.tied)),
              refl,
              constrained name is,
            ))

        supplies : (n : ℕ) (value : Bool) → IsSupply q.circuit n value → reading (at n) ≡ value
        supplies n value s =
            let up = one.placed.supplies n value s in
            subst (λ (kind : NetKind). HasGivenBit now inputs kind (at n) (reading (at n))) up.2 (base.reads (at n) up.0 (subst (λ (nets : List FlatNet). At nets (at n) up.0) (sym one.nets) up.1))

  -- ---- both circuits

  -- two such readings, of which the second has at the nets of the cell the bits of the cell's solution at the valuation of the first
  module _ (inputs : ℕ → Bool) (a : Partial) (first last : ℕ → Bool) (base : IsBase k phase whole_circuit one.instance.0 inputs a first) (more : IsBase k phase whole_circuit one.instance.0 inputs a last)
      (bits : List Bool) (meets : Meets q phase bits) (reads : IsReading q.circuit own_now (setting_of q phase bits).inputs (λ n. first (at n)))
      (b : Partial) (solves : Solves q phase (setting_of q phase bits) b)
      (inner : (n : ℕ) → IsPlain q.circuit n → is_observed q phase n ≡ true → b n ≡ Some (last (at n))) where
    -- the valuation of the second
    abbrev pub bits_there : (v : List Bool) × Meets q phase v × IsReading q.circuit own_now (setting_of q phase v).inputs (λ n. last (at n))
    bits_there = valuation_of inputs a last more

    -- it differs at inputs that nothing looks at
    same_but_idle : SameButIdle q.circuit (is_observed q phase) (setting_of q phase bits) (setting_of q phase bits_there.0)
    same_but_idle n net e kind =
        elim (cases_Bool (is_observed q phase n)) [
          | inl seen ↦
              let pin = one.instances.inputs n net e kind seen in
              let up : is_observed there phase (at n) ≡ true = pin_observed there phase (at n) (pin.0, pin.1, pin.2, pin.3, pin.4, pin.5) in
              let same : first (at n) ≡ last (at n) = same_Some (first (at n)) (last (at n)) (sym (base.seen (at n) up) ∙ more.seen (at n) up) in
              inl (input_same bits first reads n (net, e, kind) ∙ same ∙ sym (input_same bits_there.0 last bits_there.2 n (net, e, kind)))
          | inr f ↦ inr (record { unobserved = f; free = λ m d m_in j. one.cell.free n m d (net, e, kind) m_in j })
        ]

    solves_there : Solves q phase (setting_of q phase bits_there.0) b
    solves_there =
        idle_inputs_change_nothing q.circuit own_now (is_observed q phase) (setting_of q phase bits) (setting_of q phase bits_there.0) b
        one.cell.ranges one.cell.wholes one.cell.holds (λ d m. gate_observed q phase d.gate.0 (d, (device_among true q.circuit d m).0, refl)) same_but_idle solves

    -- so the bits of the second are a solution of the cell
    pub cell_solved : Solves q phase (setting_of q phase bits_there.0) (all_bits (λ n. last (at n)))
    cell_solved = solution_same q.circuit own_now (is_observed q phase) (setting_of q phase bits_there.0) b (all_bits (λ n. last (at n))) same solves_there
      where
        same : (n : ℕ) → is_observed q phase n ≡ true → b n ≡ Some (last (at n))
        same n o =
            elim (given_or_plain q.circuit n (one.within n o)) [
              | inl g ↦
                  given_solved q.circuit own_now (is_observed q phase) (setting_of q phase bits_there.0) b one.cell.ranges
                  (λ out m. absurd (no_pins q.circuit one.cell.wholes m.0 out m.1)) solves_there (λ m. last (at m)) bits_there.2 n o g
              | inr p ↦ inner n p o
            ]

  module _ (inputs reading : ℕ → Bool) (reads : IsReading whole_circuit now inputs reading) where
    -- the state of the circuit with the instance whole, and that of the circuit
    abbrev pub whole_state : State
    whole_state = state_at whole_circuit now (is_observed there phase) one.whole_determined reading

    abbrev pub circuit_state : State
    circuit_state = record { reading = reading; driven = λ i. whole_state.driven (place i) }

    pub whole_state_is : IsState whole_circuit now inputs whole_state
    whole_state_is = state_is whole_circuit now (is_observed there phase) one.whole_determined reading inputs reads

    pub circuit_state_is : IsState k.circuit now inputs circuit_state
    circuit_state_is = record {
      reading = reads_below inputs reading reads;
      driven = λ i out e.
          let pin = one.whole.pins i out e in
          gives_same_signal now out pin.0 (one.pins.stay i out pin.0 e pin.1) reading (whole_state.driven (place i)) (whole_state_is.driven (place i) pin.0 pin.1);
    }

    pub states_correspond : Correspond k.circuit (λ n. n) place fresh remaining no_net no_net circuit_state whole_state
    states_correspond = record {
      reading = λ n m. refl;
      driven = λ i out e. refl;
      fresh_driven = λ n e. absurd (false≢true e);
    }
