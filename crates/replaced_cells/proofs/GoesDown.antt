-- Where nothing is wrong with the instance whole, nothing is wrong with the cell in its place.
use Rattle.std.proofs.Common.{◌≡◌, ℕ, Bool, true, false, List, Option, Some, None, length, subst, sym, refl, ◌∙◌, ap, inl, inr}
use Rattle.std.specs.Prelude.{IsSome, unwrap_or}
use Rattle.std.proofs.lemmas.Bool.{cases_Bool, false≢true, or_cases}
use Rattle.std.proofs.lemmas.Option.{same_Some}
use Rattle.cell_inside.specs.Regions.{ArePinsPlain}
use Rattle.replaced_cells.proofs.AgreeAlike.{agrees_below}
use Rattle.replaced_cells.proofs.ExposedPins.{exposed_shows}
use Rattle.replaced_cells.proofs.ObservedFaults.{responds}
use Rattle.replaced_cells.proofs.OwnBits.{HaveOwnBits, calm_inside, inside_response, outside_response, own_shows}
use Rattle.replaced_cells.proofs.Prepared.{IsBase, cell_solved, circuit_state, circuit_state_is, mixed, mixed_inside, mixed_outside, mixed_reads, output_bit, states_correspond, valuation_of, whole_state, whole_state_is}
use Rattle.replaced_cells.proofs.SameResponses.{driven_same, shown_reaches}
use Rattle.replaced_cells.proofs.SolvedAlike.{always, hidden_net, plain_there, reached_inside, solution_shows, solved_by}
use Rattle.replaced_cells.proofs.States.{pins_plain, solution_same, with_given, with_given_agrees, with_given_reads}
use Rattle.replaced_cells.specs.Agreement.{AgreementGoesDown, BitsGoDown, HaveSameBits}
use Rattle.replaced_cells.specs.OneMoreWhole.{AreSolvedAlike, IsOneMoreWhole, all_bits}
use Rattle.vrt_model.proofs.Decidable.{some_response}
use Rattle.vrt_model.proofs.GatesGiven.{given_at_gives, plain_any, shown_by}
use Rattle.vrt_model.proofs.Laws.{one_response}
use Rattle.vrt_model.proofs.Networks.{network_finite}
use Rattle.vrt_model.specs.Checked.{with_circuit}
use Rattle.vrt_model.specs.Comparison.{Comparison, is_observed, phase_at}
use Rattle.vrt_model.specs.Constraints.{Meets}
use Rattle.vrt_model.specs.Equal.{Agree}
use Rattle.vrt_model.specs.Faults.{BreaksConstraint, Responds, Solves}
use Rattle.vrt_model.specs.Held.{setting_of}
use Rattle.vrt_model.specs.Known.{IsPlain}
use Rattle.vrt_model.specs.Levels.{source_level}
use Rattle.vrt_model.specs.Lists.{At}
use Rattle.vrt_model.specs.Path.{Network}
use Rattle.vrt_model.specs.Reading.{HasGivenBit, IsReading, Partial, bare, is_given, is_given_at}
use Rattle.vrt_model.specs.Response.{Fight, IsResponse, Response, Shows}
use Rattle.vrt_model.specs.Solution.{Agrees}
use Rattle.vrt_model.specs.State.{IsState, OutputPin, Setting, State, network_of, output_pins}
use Rattle.vrt_model.specs.declared.circuit.Circuit.{Circuit}
use Rattle.vrt_model.specs.declared.circuit.FlatNet.{FlatNet}
use Rattle.vrt_model.specs.declared.rules.Phase.{Phase}
use Rattle.vrt_model.specs.declared.verdict.FaultKind.TheVariants.{Constraint, Fight as FightFault}
use Rattle.whole_solutions.proofs.GivenShow.{given_shows}
use Rattle.whole_solutions.proofs.ObservedLaws.{observed_nets_are_there}

-- the bit of an option that has one
pub bit_there : (o : Option Bool) → IsSome o → o ≡ Some (unwrap_or o false)
bit_there None some = absurd (false≢true some)
bit_there (Some v) some = refl

module _ (k q : Comparison) (phase : ℕ) (whole_circuit : Circuit) (at place fresh : ℕ → ℕ) (remaining compared exposed : ℕ → Bool) (drive : ℕ → ℕ)
    (one : IsOneMoreWhole k q phase whole_circuit at place fresh remaining compared exposed drive) (setting : Setting)
    (a : Partial) (a_solves : Solves (with_circuit k whole_circuit) phase setting a) (a_defined : (n : ℕ) → is_observed (with_circuit k whole_circuit) phase n ≡ true → IsSome (a n))
    (calm : (m : ℕ) → exposed m ≡ true → ¬ Responds (with_circuit k whole_circuit) phase setting a bare (at m) Fight)
    (met : ¬ BreaksConstraint k.design k.rules phase a one.instance.0) where
  abbrev now : Phase
  now = phase_at k.rules phase

  abbrev there : Comparison
  there = with_circuit k whole_circuit

  abbrev inputs : ℕ → Bool
  inputs = setting.inputs

  -- ---- a state that has the bits of the solution with the instance whole

  abbrev first : ℕ → Bool
  first = with_given whole_circuit now inputs (λ n. unwrap_or (a n) false)

  pins : ArePinsPlain whole_circuit
  pins = pins_plain whole_circuit now (is_observed there phase) one.whole_determined

  first_reads : IsReading whole_circuit now inputs first
  first_reads = with_given_reads whole_circuit now inputs (λ n. unwrap_or (a n) false)

  first_agrees : Agrees (is_observed there phase) a first
  first_agrees = with_given_agrees whole_circuit now (is_observed there phase) setting a one.whole_ranges pins a_solves

  first_seen : (n : ℕ) → is_observed there phase n ≡ true → a n ≡ Some (first n)
  first_seen n o =
      let bit = bit_there (a n) (a_defined n o) in
      bit ∙ ap (λ (v : Bool). Some v) (sym (first_agrees n (unwrap_or (a n) false) o bit))

  -- in a state with its bits no exposed output fights
  calm_state : (t : State) → IsState whole_circuit now inputs t → ((n : ℕ) → is_observed there phase n ≡ true → a n ≡ Some (t.reading n))
      → (m : ℕ) → exposed m ≡ true → IsResponse (network_of whole_circuit bare setting.held t) (at m) Fight → ⊥
  calm_state t is same m e h =
      calm m e (responds there phase setting (all_bits t.reading) a (λ n o. sym (same n o)) bare (at m) Fight ((always there phase setting t is one.whole_determined bare (at m) Fight).1 h))

  abbrev first_state : State
  first_state = whole_state k q phase whole_circuit at place fresh remaining compared exposed drive one inputs first first_reads

  first_state_is : IsState whole_circuit now inputs first_state
  first_state_is = whole_state_is k q phase whole_circuit at place fresh remaining compared exposed drive one inputs first first_reads

  -- ---- the bits that nets show in it, at exposed outputs also where they are not observed

  abbrev view : Network
  view = network_of whole_circuit bare setting.held first_state

  response : (n : ℕ) → (x : Response) × IsResponse view n x
  response n = some_response view (length whole_circuit.nets) (source_level whole_circuit) (network_finite whole_circuit bare setting.held first_state one.whole_ranges) n

  second : ℕ → Bool
  second n = unwrap_or (shown_by (response n).0) (first n)

  second_at : (n : ℕ) (v : Bool) → IsResponse view n (Shows v) → second n ≡ v
  unfolding second
  second_at n v h = ap (λ (x : Response). unwrap_or (shown_by x) (first n)) (one_response view n (response n).0 (Shows v) (response n).1 h)

  second_same : (n : ℕ) → is_observed there phase n ≡ true → second n ≡ first n
  second_same n o = second_at n (first n) ((a_solves n (first n) o).0 (first_seen n o) first_state first_state_is first_agrees)

  second_seen : (n : ℕ) → is_observed there phase n ≡ true → a n ≡ Some (second n)
  second_seen n o = first_seen n o ∙ ap (λ (v : Bool). Some v) (sym (second_same n o))

  second_agrees : Agrees (is_observed there phase) a second
  second_agrees n v o e = same_Some (second n) v (sym (second_seen n o) ∙ e)

  second_reads : IsReading whole_circuit now inputs second
  second_reads n net e =
      elim (cases_Bool (is_given net.kind)) [
        | inl t ↦
            subst (HasGivenBit now inputs net.kind n) (sym (second_at n (first n) (given_shows whole_circuit one.whole_ranges pins bare setting.held first_state n (net, e, t))))
            (first_reads n net e)
        | inr f ↦ plain_any now inputs net.kind n (second n) f
      ]

  abbrev second_state : State
  second_state = whole_state k q phase whole_circuit at place fresh remaining compared exposed drive one inputs second second_reads

  second_state_is : IsState whole_circuit now inputs second_state
  second_state_is = whole_state_is k q phase whole_circuit at place fresh remaining compared exposed drive one inputs second second_reads

  -- an exposed output has the bit of its pin
  exposed_bit : (m : ℕ) → exposed m ≡ true → second (at m) ≡ second_state.driven (fresh m)
  exposed_bit m e =
      let pin = one.whole.fresh_pins m e in
      second_at (at m) (first_state.driven (fresh m))
      (exposed_shows k q phase whole_circuit at place fresh remaining compared exposed drive one bare setting.held first_state m e (calm_state first_state first_state_is first_seen m e))
      ∙ driven_same whole_circuit now (is_observed there phase) setting one.whole_determined first_state second_state first_state_is second_state_is (λ n o. sym (second_same n o)) (fresh m) pin.0
      pin.1

  base : IsBase k phase whole_circuit one.instance.0 inputs a second
  base = record { reads = second_reads; seen = second_seen; met = met }

  -- ---- the cell's solution at the bits of the instance

  second_bits : (v : List Bool) × Meets q phase v × IsReading q.circuit (phase_at q.rules phase) (setting_of q phase v).inputs (λ n. second (at n))
  second_bits = valuation_of k q phase whole_circuit at place fresh remaining compared exposed drive one inputs a second base

  equal : Agree q phase (setting_of q phase second_bits.0)
  equal = one.cell.equal.agree second_bits.0 second_bits.1

  abbrev b : Partial
  b = equal.solution.0

  abbrev inner : ℕ → Bool
  inner n = unwrap_or (b n) false

  -- ---- the bits of both circuits

  abbrev bits : ℕ → Bool
  bits = mixed k q phase whole_circuit at place fresh remaining compared exposed drive one second inner

  reads : IsReading whole_circuit now inputs bits
  reads = mixed_reads k q phase whole_circuit at place fresh remaining compared exposed drive one second inner inputs second_reads

  -- the cell's own pin has the bit of its solution
  pin_bit : (m : ℕ) (out : OutputPin) → IsPlain q.circuit m → At (output_pins whole_circuit) (fresh m) out → out.pin.net.0 ≡ at m → inner m ≡ second_state.driven (fresh m)
  pin_bit m out p e net =
      ap (λ (x : Option Bool). unwrap_or x false)
      (output_bit k q phase whole_circuit at place fresh remaining compared exposed drive one inputs second_state second_state_is second_bits.0 second_bits.1 second_bits.2 b equal.solution.1 m out p e net)

  inside_is : (m : ℕ) → IsPlain q.circuit m → bits (at m) ≡ inner m
  inside_is m p =
      elim (cases_Bool (exposed m)) [
        | inl t ↦
            let pin = one.whole.fresh_pins m t in
            mixed_outside k q phase whole_circuit at place fresh remaining compared exposed drive one second inner (at m) (one.whole.exposed_compared m t)
            ∙ exposed_bit m t
            ∙ sym (pin_bit m pin.0 p pin.1 pin.2.net)
        | inr f ↦ mixed_inside k q phase whole_circuit at place fresh remaining compared exposed drive one second inner m p f
      ]

  -- an output at gates alone that is observed with the instance whole shows the bit of its pin
  output_seen : (m : ℕ) → IsPlain q.circuit m → exposed m ≡ false → is_observed there phase (at m) ≡ true → a (at m) ≡ Some (bits (at m))
  output_seen m p hidden o =
      let shows = (a_solves (at m) (second (at m)) o).0 (second_seen (at m) o) second_state second_state_is second_agrees in
      let out = reached_inside k q phase whole_circuit at place fresh remaining compared exposed drive one bare setting.held second_state m (second (at m)) p hidden
      (shown_reaches (network_of whole_circuit bare setting.held second_state) (at m) (second (at m)) shows) in
      second_seen (at m) o ∙ ap (λ (v : Bool). Some v) (sym (inside_is m p ∙ pin_bit m out.0 p out.1 out.2 ∙ out.3))

  seen : (n : ℕ) → is_observed there phase n ≡ true → a n ≡ Some (bits n)
  seen n o =
      elim (cases_Bool (compared n)) [
        | inl t ↦ second_seen n o ∙ ap (λ (v : Bool). Some v) (sym (mixed_outside k q phase whole_circuit at place fresh remaining compared exposed drive one second inner n t))
        | inr f ↦
            let h = hidden_net k q phase whole_circuit at place fresh remaining compared exposed drive one n f in
            subst (λ (x : ℕ). a x ≡ Some (bits x)) (sym h.1) (output_seen h.0 h.2 h.3 (subst (λ (x : ℕ). is_observed there phase x ≡ true) h.1 o))
      ]

  more : IsBase k phase whole_circuit one.instance.0 inputs a bits
  more = record { reads = reads; seen = seen; met = met }

  inner_seen : (n : ℕ) → IsPlain q.circuit n → is_observed q phase n ≡ true → b n ≡ Some (bits (at n))
  inner_seen n p o = bit_there (b n) (equal.defined b equal.solution.1 n o) ∙ ap (λ (v : Bool). Some v) (sym (inside_is n p))

  own_bits_there : (v : List Bool) × Meets q phase v × IsReading q.circuit (phase_at q.rules phase) (setting_of q phase v).inputs (λ n. bits (at n))
  own_bits_there = valuation_of k q phase whole_circuit at place fresh remaining compared exposed drive one inputs a bits more

  cell_solves : Solves q phase (setting_of q phase own_bits_there.0) (all_bits (λ n. bits (at n)))
  unfolding own_bits_there
  cell_solves =
      cell_solved k q phase whole_circuit at place fresh remaining compared exposed drive one inputs a second bits base more second_bits.0 second_bits.1 second_bits.2 b equal.solution.1 inner_seen

  whole_solves : Solves there phase setting (all_bits bits)
  whole_solves = solution_same whole_circuit now (is_observed there phase) setting a (all_bits bits) seen a_solves

  -- ---- both circuits

  abbrev s : State
  s = circuit_state k q phase whole_circuit at place fresh remaining compared exposed drive one inputs bits reads

  abbrev r : State
  r = whole_state k q phase whole_circuit at place fresh remaining compared exposed drive one inputs bits reads

  s_is : IsState k.circuit now inputs s
  s_is = circuit_state_is k q phase whole_circuit at place fresh remaining compared exposed drive one inputs bits reads

  r_is : IsState whole_circuit now inputs r
  r_is = whole_state_is k q phase whole_circuit at place fresh remaining compared exposed drive one inputs bits reads

  abbrev own : HaveOwnBits k q phase whole_circuit at place fresh remaining setting s r own_bits_there.0
  own = record {
    state = s_is;
    whole_state = r_is;
    same = states_correspond k q phase whole_circuit at place fresh remaining compared exposed drive one inputs bits reads;
    meets = own_bits_there.1;
    reads = own_bits_there.2;
    cell_solves = cell_solves;
  }

  shows_below : (n : ℕ) → is_observed k phase n ≡ true → IsResponse (network_of k.circuit bare setting.held s) n (Shows (bits n))
  shows_below n o =
      elim (observed_nets_are_there k q phase whole_circuit at place fresh remaining compared exposed drive one.design one.rules one.within one.placed one.whole one.instances one.hides n o) [
        | inl up ↦ elim (or_cases (is_observed there phase n) (is_given_at whole_circuit n) up.1) [
          | inl there_too ↦
              (outside_response k q phase whole_circuit at place fresh remaining compared exposed drive one setting s r own_bits_there.0 own bare n (Shows (bits n)) up.0).1
              (solution_shows there phase setting r r_is one.whole_determined whole_solves n there_too)
          | inr given ↦
              let g = given_at_gives whole_circuit n given in
              given_shows k.circuit one.ranges one.placed.pins_plain bare setting.held s n (g.0, subst (λ (nets : List FlatNet). At nets n g.0) one.nets g.1, g.2)
        ]
        | inr (m, net, p, o_inside) ↦
            subst (λ (x : ℕ). IsResponse (network_of k.circuit bare setting.held s) x (Shows (bits x))) (sym net)
            ((inside_response k q phase whole_circuit at place fresh remaining compared exposed drive one setting s r own_bits_there.0 own bare m (Shows (bits (at m))) p
            (calm_inside k q phase whole_circuit at place fresh remaining compared exposed drive one setting s r own_bits_there.0 own bare (calm_state r r_is seen) m)).0
            (own_shows k q phase whole_circuit at place fresh remaining compared exposed drive one setting s r own_bits_there.0 own bare m o_inside))
      ]

  solves : Solves k phase setting (all_bits bits)
  solves = solved_by k phase setting s s_is one.determined shows_below

  alike : AreSolvedAlike k q phase whole_circuit at place fresh remaining setting s r own_bits_there.0
  alike = record {
    state = s_is;
    whole_state = r_is;
    same = states_correspond k q phase whole_circuit at place fresh remaining compared exposed drive one inputs bits reads;
    meets = own_bits_there.1;
    reads = own_bits_there.2;
    solves = solves;
    whole_solves = whole_solves;
    cell_solves = cell_solves;
  }

  pub same_bits : HaveSameBits k q phase whole_circuit at place fresh remaining setting
  same_bits = (s, r, own_bits_there.0, alike)

-- ---- nothing is wrong

module _ (k q : Comparison) (phase : ℕ) (whole_circuit : Circuit) (at place fresh : ℕ → ℕ) (remaining compared exposed : ℕ → Bool) (drive : ℕ → ℕ)
    (one : IsOneMoreWhole k q phase whole_circuit at place fresh remaining compared exposed drive) (setting : Setting)
    (agree : Agree (with_circuit k whole_circuit) phase setting) where
  -- no constraint of the instance is broken
  met_there : ¬ BreaksConstraint k.design k.rules phase agree.solution.0 one.instance.0
  met_there h = agree.no_fault agree.solution.0 agree.assignment.0 agree.solution.1 agree.assignment.1 Constraint one.instance.1.0 (one.instance.0, one.instance.1.1, h)

  -- and no exposed output fights
  calm_there : (m : ℕ) → exposed m ≡ true → ¬ Responds (with_circuit k whole_circuit) phase setting agree.solution.0 bare (at m) Fight
  calm_there m e h =
      agree.no_fault agree.solution.0 agree.assignment.0 agree.solution.1 agree.assignment.1 FightFault (at m) (
        plain_there k q phase whole_circuit at place fresh remaining compared exposed drive one (at m) (one.placed.plain m (one.placed.exposed_plain m e)),
        h,
      )

  pub bits_below : HaveSameBits k q phase whole_circuit at place fresh remaining setting
  bits_below =
      same_bits k q phase whole_circuit at place fresh remaining compared exposed drive one setting agree.solution.0 agree.solution.1 (agree.defined agree.solution.0 agree.solution.1) calm_there met_there

pub bits_go_down : BitsGoDown
bits_go_down k q phase whole_circuit at place fresh remaining compared exposed drive setting a one solves defined calm met =
    same_bits k q phase whole_circuit at place fresh remaining compared exposed drive one setting a solves defined calm met

pub agreement_goes_down : AgreementGoesDown
agreement_goes_down k q phase whole_circuit at place fresh remaining compared exposed drive setting one only agree =
    agrees_below k q phase whole_circuit at place fresh remaining compared exposed drive one setting
    (bits_below k q phase whole_circuit at place fresh remaining compared exposed drive one setting agree) only agree
