-- The solution of one phase, carried on to the nets that another phase observes, is a solution of that phase.
use Rattle.std.proofs.Common.{◌≡◌, ℕ, ◌||◌, ◌&&◌, Bool, true, false, cond, Option, Some, length, eqb, ap, refl, sym, subst, ◌∙◌}
use Rattle.std.specs.Prelude.{◌↔◌, is_some, unwrap_or}
use Rattle.std.specs.List.{list_any}
use Rattle.std.proofs.lemmas.Bool.{eq-eqb, or_left}
use Rattle.vrt_model.proofs.Decidable.{some_response}
use Rattle.vrt_model.proofs.Filtered.{device_among}
use Rattle.vrt_model.proofs.GatesGiven.{IsGiven, base_reading, plain_any, shown_by, shown_is}
use Rattle.vrt_model.proofs.Laws.{one_response}
use Rattle.vrt_model.proofs.Members.{among_any}
use Rattle.vrt_model.proofs.Networks.{network_finite}
use Rattle.vrt_model.proofs.Tests.{some_of}
use Rattle.vrt_model.specs.CellRules.{is_constrained, is_observed_port}
use Rattle.vrt_model.specs.Comparison.{CellPort, Comparison, cell_at, is_observed, output_signal, phase_at, ports_of}
use Rattle.vrt_model.specs.Constraints.{given_bit}
use Rattle.vrt_model.specs.Levels.{source_level}
use Rattle.vrt_model.specs.Lists.{Among, At}
use Rattle.vrt_model.specs.Path.{Network}
use Rattle.vrt_model.specs.Reading.{HasGivenBit, IsReading, Partial, bare, devices_of, is_given}
use Rattle.vrt_model.specs.Response.{IsResponse, Response, Shows}
use Rattle.vrt_model.specs.Solution.{Agrees, IsSolution}
use Rattle.vrt_model.specs.State.{IsState, Setting, State, network_of}
use Rattle.vrt_model.specs.declared.circuit.Circuit.{Circuit}
use Rattle.vrt_model.specs.declared.circuit.Device.{Device}
use Rattle.vrt_model.specs.declared.circuit.FlatInstance.{FlatInstance}
use Rattle.vrt_model.specs.declared.circuit.FlatNet.{FlatNet}
use Rattle.vrt_model.specs.declared.circuit.Hold.{Hold}
use Rattle.vrt_model.specs.declared.ids.Net.{Net}
use Rattle.vrt_model.specs.declared.rules.Phase.{Phase}
use Rattle.vrt_model.specs.declared.whole.Whole.{Whole}
use Rattle.vrt_model.specs.declared.whole.WholePin.{WholePin}
use Rattle.same_phases.proofs.Unclocked.{gates_decide, given_shows, same_given, state_from, state_moves}
use Rattle.same_phases.specs.Phases.{AreAlike, IsTheSolution, IsUnclocked}

-- ---- a reading from bits at some nets

abbrev bit_in : Option Bool → Bool
bit_in o = unwrap_or o false

bit_is : (o : Option Bool) (v : Bool) → o ≡ Some v → bit_in o ≡ v
bit_is o v e = ap bit_in e

-- the bits that are told at the nets inside, and those of another reading elsewhere
abbrev mixed : (ℕ → Bool) → Partial → (ℕ → Bool) → ℕ → Bool
mixed inside a other n = cond (inside n) (bit_in (a n)) (other n)

mixed_is : (inside : ℕ → Bool) (a : Partial) (other : ℕ → Bool) (n : ℕ) (v : Bool) → inside n ≡ true → a n ≡ Some v → mixed inside a other n ≡ v
mixed_is inside a other n v is e = ap (λ (t : Bool). cond t (bit_in (a n)) (other n)) is ∙ bit_is (a n) v e

module _ (c : Circuit) (phase : Phase) (inputs : ℕ → Bool) (inside : ℕ → Bool) (a : Partial)
    (given : (n : ℕ) (net : FlatNet) → At c.nets n net → is_given net.kind ≡ true → inside n ≡ true → HasGivenBit phase inputs net.kind n (bit_in (a n))) where
  mixed_at : (other : ℕ → Bool) → IsReading c phase inputs other → (n : ℕ) (net : FlatNet) → At c.nets n net → (t g : Bool) → inside n ≡ t → is_given net.kind ≡ g
      → HasGivenBit phase inputs net.kind n (cond t (bit_in (a n)) (other n))
  mixed_at other is n net e false g o k = is n net e
  mixed_at other is n net e true false o k = plain_any phase inputs net.kind n (bit_in (a n)) k
  mixed_at other is n net e true true o k = given n net e k o

  mixed_reading : (other : ℕ → Bool) → IsReading c phase inputs other → IsReading c phase inputs (mixed inside a other)
  mixed_reading other is n net e = mixed_at other is n net e (inside n) (is_given net.kind) refl refl

-- ---- the solution of one phase, carried on to the nets of another

module _ (c : Circuit) (s : Setting) (free : IsUnclocked c) (p q : Phase) (first second : ℕ → Bool)
    (gates : (d : Device) → Among (devices_of bare c) d → (first d.gate.0 ≡ true) × (second d.gate.0 ≡ true))
    (a : Partial) (solves : IsSolution c p first s a) (defined : (n : ℕ) → first n ≡ true → (v : Bool) × (a n ≡ Some v)) where
  abbrev base : ℕ → Bool
  base = given_bit c p s.inputs

  -- a solution has the bits of given nets
  given_is : (n : ℕ) → IsGiven c n → first n ≡ true → a n ≡ Some (base n)
  given_is n g seen =
      let ground : State = record { reading = base; driven = base } in
      let stands : IsState c p s.inputs ground = state_from c s.inputs s.held free p base (base_reading c p s.inputs) in
      (solves n (base n) seen).1
      (λ x at agrees. subst (λ (v : Bool). IsResponse (network_of c bare s.held x) n (Shows v))
      (same_given c s.inputs s.held free p x ground at stands n g) (given_shows c s.inputs s.held free x n g))

  -- a state with the bits of the solution, and that of a phase in which each net that is told has what is told of it
  first_reading : IsReading c p s.inputs (mixed first a base)
  first_reading =
      mixed_reading c p s.inputs first a
      (λ n net e g seen. subst (HasGivenBit p s.inputs net.kind n) (sym (bit_is (a n) (base n) (given_is n (net, e, g) seen))) (base_reading c p s.inputs n net e))
      base (base_reading c p s.inputs)

  abbrev here : State
  here = record { reading = mixed first a base; driven = mixed first a base }

  here_is : IsState c p s.inputs here
  here_is = state_from c s.inputs s.held free p (mixed first a base) first_reading

  abbrev view : Network
  view = network_of c bare s.held here

  response_at : (n : ℕ) → (r : Response) × IsResponse view n r
  response_at n = some_response view (length c.nets) (source_level c) (network_finite c bare s.held here free.ranges) n

  -- what each net shows there
  pub carried : Partial
  carried n = shown_by (response_at n).0

  carried_shows : (n : ℕ) (v : Bool) → (carried n ≡ Some v) ↔ IsResponse view n (Shows v)
  unfolding carried
  carried_shows n v = (
    λ e. subst (IsResponse view n) (shown_is (response_at n).0 v e) (response_at n).1,
    λ h. ap shown_by (one_response view n (response_at n).0 (Shows v) (response_at n).1 h),
  )

  -- at the nets of the first phase it is what the solution has
  carried_bit : (n : ℕ) (v : Bool) → first n ≡ true → a n ≡ Some v → carried n ≡ Some v
  carried_bit n v seen e = (carried_shows n v).1 ((solves n v seen).0 e here here_is (λ m u o is. mixed_is first a base m u o is))

  pub carried_same : (n : ℕ) → first n ≡ true → a n ≡ carried n
  carried_same n seen = (let v = defined n seen in v.1 ∙ sym (carried_bit n v.0 seen v.1))

  -- what agrees with it has the same bits at the gates
  at_gates : (x : State) → Agrees second carried x.reading → (d : Device) → Among (devices_of bare c) d → here.reading d.gate.0 ≡ x.reading d.gate.0
  at_gates x agrees d m =
      let is = gates d m in
      let v = defined d.gate.0 is.0 in
      mixed_is first a base d.gate.0 v.0 is.0 v.1 ∙ sym (agrees d.gate.0 v.0 is.1 (carried_bit d.gate.0 v.0 is.0 v.1))

  -- a state of the second phase that agrees with it
  second_given : (n : ℕ) (net : FlatNet) → At c.nets n net → is_given net.kind ≡ true → second n ≡ true → HasGivenBit q s.inputs net.kind n (bit_in (carried n))
  second_given n net e g seen =
      let there : carried n ≡ Some (here.reading n) = (carried_shows n (here.reading n)).1 (given_shows c s.inputs s.held free here n (net, e, g)) in
      subst (HasGivenBit q s.inputs net.kind n) (sym (bit_is (carried n) (here.reading n) there)) ((state_moves c s.inputs s.held free p q here here_is).reading n net e)

  abbrev there : State
  there = record { reading = mixed second carried (given_bit c q s.inputs); driven = mixed second carried (given_bit c q s.inputs) }

  there_is : IsState c q s.inputs there
  there_is =
      state_from c s.inputs s.held free q (mixed second carried (given_bit c q s.inputs))
      (mixed_reading c q s.inputs second carried second_given (given_bit c q s.inputs) (base_reading c q s.inputs))

  there_agrees : Agrees second carried there.reading
  there_agrees n v seen e = mixed_is second carried (given_bit c q s.inputs) n v seen e

  -- it is a solution of the second phase
  pub carried_solves : IsSolution c q second s carried
  carried_solves n v seen = (
    λ e x at agrees. gates_decide c s.inputs s.held free p here x here_is (state_moves c s.inputs s.held free q p x at) (at_gates x agrees) n (Shows v) ((carried_shows n v).0 e),
    λ always. (carried_shows n v).1
        (gates_decide c s.inputs s.held free p there here (state_moves c s.inputs s.held free q p there there_is) here_is (λ d m. sym (at_gates there there_agrees d m))
        n (Shows v) (always there there_is there_agrees)),
  )

-- ---- in a comparison

-- gates are observed in each phase
gate_observed : (k : Comparison) (phase : ℕ) (d : Device) → Among (devices_of bare k.circuit) d → is_observed k phase d.gate.0 ≡ true
unfolding is_observed
gate_observed k phase d there =
    let n = d.gate.0 in
    let test : Device → Bool = λ x. eqb x.gate.0 n in
    let gates = list_any test k.circuit.devices in
    let holds = list_any (λ (h : Hold). eqb h.net.0 n) k.circuit.holds in
    let outputs = list_any (λ (p : CellPort). eqb p.net n && is_some (output_signal p.role) && is_observed_port k.rules (cell_at k.design k.cell).name p.name phase) (ports_of k) in
    let instances = list_any (λ (i : FlatInstance). is_constrained k.rules (cell_at k.design i.cell).name && list_any (λ (m : Net). eqb m.0 n) i.ports) k.circuit.instances in
    let wholes = list_any (λ (w : Whole). list_any (λ (p : WholePin). p.observed && eqb p.net.0 n) w.inputs) k.circuit.wholes in
    or_left (((gates || holds) || outputs) || instances) wholes
    (or_left ((gates || holds) || outputs) instances
    (or_left (gates || holds) outputs
    (or_left gates holds (among_any test k.circuit.devices d (device_among bare k.circuit d there).0 (eq-eqb n n refl)))))

pub unclocked_phases_are_alike : (k : Comparison) (p q : ℕ) (s : Setting) (a b : Partial) → IsUnclocked k.circuit → IsTheSolution k p s a → IsTheSolution k q s b → AreAlike k p q a b
unclocked_phases_are_alike k p q s a b free one two n in_p in_q =
    let gates : (d : Device) → Among (devices_of bare k.circuit) d → (is_observed k p d.gate.0 ≡ true) × (is_observed k q d.gate.0 ≡ true) = λ d m. (gate_observed k p d m, gate_observed k q d m) in
    let defined : (m : ℕ) → is_observed k p m ≡ true → (v : Bool) × (a m ≡ Some v) = λ m seen. some_of (a m) (one.defined m seen) in
    let there = carried k.circuit s free (phase_at k.rules p) (phase_at k.rules q) (is_observed k p) (is_observed k q) gates a one.solves defined in
    carried_same k.circuit s free (phase_at k.rules p) (phase_at k.rules q) (is_observed k p) (is_observed k q) gates a one.solves defined n in_p
    ∙ sym (two.one there (carried_solves k.circuit s free (phase_at k.rules p) (phase_at k.rules q) (is_observed k p) (is_observed k q) gates a one.solves defined) n in_q)
