-- In each state of a circuit in which an instance is whole a constraint of it is broken, or its cell has a solution at its bits.
use Rattle.std.proofs.Common.{◌≡◌, ◌⊎◌, ℕ, Bool, true, false, cond, List, Option, Some, refl, ap, sym, ◌∙◌, subst, inl, inr}
use Rattle.std.specs.Prelude.{option_map, unwrap_or}
use Rattle.std.proofs.lemmas.Bool.{cond-false, cond-true}
use Rattle.std.proofs.lemmas.Option.{none-some, same_Some}
use Rattle.cell_inside.specs.Regions.{ArePinsPlain}
use Rattle.firm_faults.specs.Settled.{IsBrokenAt}
use Rattle.firm_faults.specs.StepDown.{IsInnerSolution}
use Rattle.known_nets.proofs.NetKinds.{given_or_plain, is_plain_is}
use Rattle.replaced_cells.proofs.GoesDown.{bit_there}
use Rattle.replaced_cells.proofs.Prepared.{input_same, valuation_of}
use Rattle.replaced_cells.proofs.SolvedAlike.{no_pins, none_held}
use Rattle.replaced_cells.proofs.States.{given_solved}
use Rattle.replaced_cells.specs.OneMoreWhole.{IsOneMoreWhole, all_bits}
use Rattle.substitution_laws.proofs.BrokenTold.{broken_told}
use Rattle.vrt_model.proofs.Filtered.{device_among}
use Rattle.vrt_model.proofs.GatesGiven.{plain_any}
use Rattle.vrt_model.specs.Assignment.{IsAssignment}
use Rattle.vrt_model.specs.Checked.{with_circuit}
use Rattle.vrt_model.specs.Comparison.{Comparison, is_observed, phase_at}
use Rattle.vrt_model.specs.Constraints.{Meets}
use Rattle.vrt_model.specs.Equal.{Agree}
use Rattle.vrt_model.specs.Faults.{Solves}
use Rattle.vrt_model.specs.Held.{setting_of}
use Rattle.vrt_model.specs.Known.{IsKnown, IsPlain, is_plain_at, is_plain_kind}
use Rattle.vrt_model.specs.Lists.{Among, At}
use Rattle.vrt_model.specs.Reading.{HasGivenBit, IsReading, Partial, bare, devices_of, is_given}
use Rattle.vrt_model.specs.Response.{IsResponse, IsStrength, Shows}
use Rattle.vrt_model.specs.Solution.{Agrees}
use Rattle.vrt_model.specs.State.{IsState, OutputPin, Setting, State, network_of, output_pins, surroundings_of_whole}
use Rattle.vrt_model.specs.declared.circuit.Circuit.{Circuit}
use Rattle.vrt_model.specs.declared.circuit.Device.{Device}
use Rattle.vrt_model.specs.declared.circuit.FlatNet.{FlatNet}
use Rattle.vrt_model.specs.declared.circuit.NetKind.{NetKind}
use Rattle.vrt_model.specs.declared.circuit.NetKind.TheVariants.{Supply, Clock, Input, Plain}
use Rattle.vrt_model.specs.declared.rules.Phase.{Phase}
use Rattle.vrt_model.specs.declared.rules.Rules.{Rules}
use Rattle.vrt_model.specs.declared.whole.Whole.{Whole}
use Rattle.whole_ranks.proofs.DeterminedLaws.{inside, shows_signal}
use Rattle.whole_ranks.proofs.KnownLaws.{known_nets_are_solved}
use Rattle.whole_solutions.proofs.ObservedCases.{gate_observed}

given_not_plain : (kind : NetKind) → is_given kind ≡ true → is_plain_kind kind ≡ false
given_not_plain (Supply value) e = refl
given_not_plain (Clock clock) e = refl
given_not_plain Input e = refl
given_not_plain Plain e = sym e

-- the given bits but for those of inputs do not depend on what the inputs are
itself_given : (phase : Phase) (inputs own : ℕ → Bool) (kind : NetKind) (n : ℕ) (bit : Bool) → own n ≡ bit → HasGivenBit phase inputs kind n bit → HasGivenBit phase own kind n bit
itself_given phase inputs own (Supply value) n bit is h = h
itself_given phase inputs own (Clock clock) n bit is h = h
itself_given phase inputs own Input n bit is h = sym is
itself_given phase inputs own Plain n bit is h = tt

module _ (k q : Comparison) (phase : ℕ) (whole_circuit : Circuit) (at place fresh : ℕ → ℕ) (remaining compared exposed : ℕ → Bool) (drive : ℕ → ℕ)
    (one : IsOneMoreWhole k q phase whole_circuit at place fresh remaining compared exposed drive) (setting : Setting)
    (r : State) (is : IsState whole_circuit (phase_at k.rules phase) setting.inputs r)
    (bits : List Bool) (meets : Meets q phase bits) (reads : IsReading q.circuit (phase_at q.rules phase) (setting_of q phase bits).inputs (λ n. r.reading (at n))) where
  abbrev now : Phase
  now = phase_at q.rules phase

  abbrev own : Setting
  own = setting_of q phase bits

  agree : Agree q phase own
  agree = one.cell.equal.agree bits meets

  abbrev b : Partial
  b = agree.solution.0

  abbrev solves : Solves q phase own b
  solves = agree.solution.1

  -- the bits of the solution at plain nets, and those of the state at nets with given values
  pub inner : ℕ → Bool
  inner n = cond (is_plain_at q.circuit n) (unwrap_or (b n) false) (r.reading (at n))

  inner_plain : (n : ℕ) → IsPlain q.circuit n → inner n ≡ unwrap_or (b n) false
  unfolding inner
  inner_plain n plain = cond-true (is_plain_at q.circuit n) (unwrap_or (b n) false) (r.reading (at n)) (is_plain_is q.circuit n plain)

  inner_given : (n : ℕ) (net : FlatNet) → At q.circuit.nets n net → is_given net.kind ≡ true → inner n ≡ r.reading (at n)
  unfolding inner
  inner_given n net here given =
      cond-false (is_plain_at q.circuit n) (unwrap_or (b n) false) (r.reading (at n))
      (ap (λ (o : Option FlatNet). unwrap_or (option_map (λ (x : FlatNet). is_plain_kind x.kind) o) false) here ∙ given_not_plain net.kind given)

  pins : ArePinsPlain q.circuit
  pins out m = absurd (no_pins q.circuit one.cell.wholes m.0 out m.1)

  -- with the inputs of the valuation
  inner_reads : IsReading q.circuit now own.inputs inner
  inner_reads n net here = by_given (is_given net.kind) refl
    where
      by_given : (g : Bool) → is_given net.kind ≡ g → HasGivenBit now own.inputs net.kind n (inner n)
      by_given true e = subst (HasGivenBit now own.inputs net.kind n) (sym (inner_given n net here e)) (reads n net here)
      by_given false e = plain_any now own.inputs net.kind n (inner n) e

  state : State
  state = record { reading = inner; driven = λ j. false }

  state_is : IsState q.circuit now own.inputs state
  unfolding state
  state_is = record { reading = inner_reads; driven = λ j out e. absurd (no_pins q.circuit one.cell.wholes j out e) }

  -- each observed net has its bit of the solution
  seen_bit : (n : ℕ) → is_observed q phase n ≡ true → b n ≡ Some (inner n)
  seen_bit n seen =
      elim (given_or_plain q.circuit n (one.within n seen)) [
        | inl g ↦ given_solved q.circuit now (is_observed q phase) own b one.cell.ranges pins solves inner inner_reads n seen g
        | inr plain ↦ bit_there (b n) (agree.defined b solves n seen) ∙ ap (λ (v : Bool). Some v) (sym (inner_plain n plain))
      ]

  agrees : Agrees (is_observed q phase) b inner
  agrees n v seen e = same_Some (inner n) v (sym (seen_bit n seen) ∙ e)

  shows : (n : ℕ) → is_observed q phase n ≡ true → IsResponse (network_of q.circuit bare (λ j. false) (record { reading = inner; driven = λ j. false })) n (Shows (inner n))
  unfolding state
  shows n seen =
      subst (λ (held : ℕ → Bool). IsResponse (network_of q.circuit bare held state) n (Shows (inner n)))
      (none_held k q phase whole_circuit at place fresh remaining compared exposed drive one bits)
      ((solves n (inner n) seen).0 (seen_bit n seen) state state_is agrees)

  known_bit : (n : ℕ) (v : Bool) → is_observed q phase n ≡ true → IsKnown q.circuit now n v → inner n ≡ v
  known_bit n v seen known =
      same_Some (inner n) v (sym (seen_bit n seen)
      ∙ known_nets_are_solved q.circuit now (is_observed q phase) own b one.cell.ranges (λ w pin on there. absurd (no_whole w on)) gates solves n v known seen)
    where
      no_whole : (w : Whole) → Among q.circuit.wholes w → ⊥
      no_whole w on = none-some w (subst (λ (ws : List Whole). At ws on.0 w) one.cell.wholes on.1)

      gates : (d : Device) → Among (devices_of bare q.circuit) d → is_observed q phase d.gate.0 ≡ true
      gates d on = gate_observed q phase d.gate.0 (d, (device_among bare q.circuit d on).0, refl)

  -- the pin of a net of the cell has the bit of the solution
  pin_bit : (n : ℕ) (out : OutputPin) → At (output_pins whole_circuit) (fresh n) out → IsPlain q.circuit n → out.pin.net.0 ≡ at n → r.driven (fresh n) ≡ inner n
  pin_bit n out e plain net =
      let stands = one.pins.own n out plain e net in
      let g = is.driven (fresh n) out e in
      let assigns =
      inside q phase whole_circuit (is_observed (with_circuit k whole_circuit) phase) at out.whole one.cell stands.0 r.reading g.0 own
      (subst (λ (rules : Rules). IsAssignment out.whole.model (surroundings_of_whole (phase_at rules phase) out.whole r.reading) g.0) (sym one.rules) g.1)
      (input_same k q phase whole_circuit at place fresh remaining compared exposed drive one bits r.reading reads) in
      let signal = shows_signal q phase whole_circuit (is_observed (with_circuit k whole_circuit) phase) at out.whole one.cell stands.0 bits b g.0 meets solves assigns stands.1.0 stands.1.1 out.pin.signal stands.1.2 in
      let there : b n ≡ Some (r.driven (fresh n)) = subst (λ (m : ℕ). b m ≡ Some (g.0.signal out.pin.signal)) stands.1.3 signal ∙ ap (λ (v : Bool). Some v) g.2 in
      sym (inner_plain n plain ∙ ap (λ (o : Option Bool). unwrap_or o false) there)

  -- an exposed net has the strength of its drive
  strength : (n : ℕ) (which : Bool) → exposed n ≡ true → IsStrength (network_of q.circuit which (λ j. false) (record { reading = inner; driven = λ j. false })) n (drive n)
  unfolding state
  strength n which e =
      subst (λ (held : ℕ → Bool). IsStrength (network_of q.circuit which held state) n (drive n))
      (none_held k q phase whole_circuit at place fresh remaining compared exposed drive one bits)
      ((one.exposed_outputs n e).level bits b state which meets solves state_is agrees)

  pub inner_solution : (x : Whole) → IsInnerSolution q.circuit whole_circuit now (is_observed q phase) exposed at fresh drive x r inner
  inner_solution x = record {
    reads = λ n net here. itself_given now own.inputs inner net.kind n (inner n) refl (inner_reads n net here);
    given = λ n g. inner_given n g.0 g.1 g.2;
    known = known_bit;
    shows = λ n plain seen. shows n seen;
    drives = λ n out e own_pin plain net. pin_bit n out e plain net;
    strengths = λ n which e. strength n which e;
  }

-- in each state a constraint is broken, or there is such a solution
pub inner_or_broken : (k q : Comparison) (phase : ℕ) (whole_circuit : Circuit) (at place fresh : ℕ → ℕ) (remaining compared exposed : ℕ → Bool) (drive : ℕ → ℕ)
    → (one : IsOneMoreWhole k q phase whole_circuit at place fresh remaining compared exposed drive) → (setting : Setting) (x : Whole) (r : State)
    → IsState whole_circuit (phase_at k.rules phase) setting.inputs r
    → IsBrokenAt k phase r.reading one.instance.0 ⊎ ((bits : ℕ → Bool) × IsInnerSolution q.circuit whole_circuit (phase_at k.rules phase) (is_observed q phase) exposed at fresh drive x r bits)
inner_or_broken k q phase whole_circuit at place fresh remaining compared exposed drive one setting x r is =
    elim (broken_told k.design k.rules phase (all_bits r.reading) one.instance.0) [
      | inl broken ↦ inl broken
      | inr met ↦
          let v = valuation_of k q phase whole_circuit at place fresh remaining compared exposed drive one setting.inputs (all_bits r.reading) r.reading (record { reads = is.reading; seen = λ n seen. refl; met = met }) in
          inr (
            inner k q phase whole_circuit at place fresh remaining compared exposed drive one setting r is v.0 v.1 v.2,
            subst (λ (rules : Rules). IsInnerSolution q.circuit whole_circuit (phase_at rules phase) (is_observed q phase) exposed at fresh drive x r (inner k q phase whole_circuit at place fresh remaining compared exposed drive one setting r is v.0 v.1 v.2)) one.rules
                (inner_solution k q phase whole_circuit at place fresh remaining compared exposed drive one setting r is v.0 v.1 v.2 x),
          )
    ]
