-- Where bits are solutions of both circuits, nothing is wrong in the one exactly where nothing is in the other.
use Rattle.std.proofs.Common.{◌≡◌, ℕ, ◌||◌, Bool, true, false, List, Option, Some, None, subst, sym, refl, ◌∙◌, ap, inl, inr}
use Rattle.std.specs.Prelude.{◌⊎◌, option_and_then, option_map, slice_get}
use Rattle.std.proofs.lemmas.Bool.{cases_Bool, false≢true, or_cases}
use Rattle.std.proofs.lemmas.Option.{slice_get-map}
use Rattle.cell_inside.specs.Inside.{Touches}
use Rattle.channel_parts.specs.OneSolution.{AreDetermined}
use Rattle.replaced_cells.proofs.BrokenLaws.{bit_at_port, breaks_there, ports_same}
use Rattle.replaced_cells.proofs.MissedLaws.{apart_there, differs_there, enter_there, next_there}
use Rattle.replaced_cells.proofs.SameResponses.{response_other}
use Rattle.replaced_cells.proofs.OwnBits.{HaveOwnBits, calm_inside, inside_response, outside_response, own_state}
use Rattle.replaced_cells.proofs.SolvedAlike.{always, free_inside, hidden_net, never_here, never_there, none_determined, own_bits, plain_back, plain_there, reached_inside, solution_shows}
use Rattle.replaced_cells.specs.Faults.{FaultsAreShared, FaultsStandBelow, IsFaultless, IsSameIn}
use Rattle.replaced_cells.specs.OneMoreWhole.{AreSolvedAlike, IsOneMoreWhole, all_bits}
use Rattle.vrt_model.proofs.GatesGiven.{given_at_gives}
use Rattle.vrt_model.proofs.Laws.{shows_no_float}
use Rattle.vrt_model.specs.Assignment.{Assignment}
use Rattle.vrt_model.specs.CellRules.{is_observed_port}
use Rattle.vrt_model.specs.Checked.{with_circuit}
use Rattle.vrt_model.specs.Comparison.{CellPort, Comparison, cell_at, is_observed, output_signal, phase_at, ports_of}
use Rattle.vrt_model.specs.Equal.{Agree}
use Rattle.vrt_model.specs.Faults.{BreaksConstraint, Responds, Stands}
use Rattle.vrt_model.specs.FlatCircuit.{net_id}
use Rattle.vrt_model.specs.Held.{setting_of}
use Rattle.vrt_model.specs.Known.{IsPlain}
use Rattle.vrt_model.specs.Lists.{Among, At}
use Rattle.vrt_model.specs.Path.{Network}
use Rattle.vrt_model.specs.Reading.{bare, is_given_at, kept}
use Rattle.vrt_model.specs.Response.{Fight as FightResponse, Float as FloatResponse, IsResponse, Response, Shows}
use Rattle.vrt_model.specs.State.{IsState, Setting, State, network_of}
use Rattle.vrt_model.specs.declared.circuit.Circuit.{Circuit}
use Rattle.vrt_model.specs.declared.circuit.Device.{Device}
use Rattle.vrt_model.specs.declared.circuit.FlatInstance.{FlatInstance}
use Rattle.vrt_model.specs.declared.circuit.FlatNet.{FlatNet}
use Rattle.vrt_model.specs.declared.circuit.Hold.{Hold}
use Rattle.vrt_model.specs.declared.design.Design.{Design}
use Rattle.vrt_model.specs.declared.ids.Net.{Net}
use Rattle.vrt_model.specs.declared.rules.Rules.{Rules}
use Rattle.vrt_model.specs.declared.verdict.FaultKind.{FaultKind}
use Rattle.vrt_model.specs.declared.verdict.FaultKind.TheVariants.{Fight, FightKept, Float, Unsettled, Constraint, Differs, Next, Apart, Enter}
use Rattle.whole_solutions.proofs.GivenShow.{given_shows}
use Rattle.whole_solutions.proofs.ObservedLaws.{observed_nets_are_there, whole_observes_no_more}
use Rattle.whole_solutions.specs.Observed.{IsInstanceImage}

-- where both values reach a net, they do not come from one pin
two_values : (x : Bool) → x ≡ true → x ≡ false → ⊥
two_values x t f = false≢true (sym f ∙ t)

module _ (k q : Comparison) (phase : ℕ) (whole_circuit : Circuit) (at place fresh : ℕ → ℕ) (remaining compared exposed : ℕ → Bool) (drive : ℕ → ℕ)
    (setting : Setting) (s r : State) (bits : List Bool)
    (one : IsOneMoreWhole k q phase whole_circuit at place fresh remaining compared exposed drive)
    (alike : AreSolvedAlike k q phase whole_circuit at place fresh remaining setting s r bits) where
  abbrev there : Comparison
  there = with_circuit k whole_circuit

  abbrev above : Bool → Network
  above bare = network_of k.circuit bare setting.held s

  abbrev whole : Bool → Network
  whole bare = network_of whole_circuit bare setting.held r

  -- the bits of the state at the nets of the cell
  abbrev own_bits_here : State
  own_bits_here = own_bits k q phase whole_circuit at place fresh remaining compared exposed drive one s

  abbrev own : Bool → Network
  own bare = network_of q.circuit bare (setting_of q phase bits).held own_bits_here

  abbrev own_bits_are : HaveOwnBits k q phase whole_circuit at place fresh remaining setting s r bits
  own_bits_are = record { state = alike.state; whole_state = alike.whole_state; same = alike.same; meets = alike.meets; reads = alike.reads; cell_solves = alike.cell_solves }

  own_is : IsState q.circuit (phase_at q.rules phase) (setting_of q phase bits).inputs own_bits_here
  own_is = own_state k q phase whole_circuit at place fresh remaining compared exposed drive one setting s r bits own_bits_are

  own_pins : AreDetermined q.circuit (phase_at q.rules phase) (is_observed q phase)
  own_pins = none_determined k q phase whole_circuit at place fresh remaining compared exposed drive one

  -- ---- responses

  -- a net outside responds alike in both circuits
  pub out : (bare : Bool) (n : ℕ) (x : Response) → compared n ≡ true → (IsResponse (above bare) n x → IsResponse (whole bare) n x) × (IsResponse (whole bare) n x → IsResponse (above bare) n x)
  out bare n x c = outside_response k q phase whole_circuit at place fresh remaining compared exposed drive one setting s r bits own_bits_are bare n x c

  -- no exposed output fights with the instance whole
  abbrev IsCalm : Bool → Type 0
  IsCalm bare = (m : ℕ) → exposed m ≡ true → IsResponse (whole bare) (at m) FightResponse → ⊥

  -- then a net inside responds in the cell as in the circuit
  inside : (bare : Bool) → IsCalm bare → (n : ℕ) (x : Response) → IsPlain q.circuit n → (IsResponse (own bare) n x → IsResponse (above bare) (at n) x) × (IsResponse (above bare) (at n) x → IsResponse (own bare) n x)
  inside bare calm n x p =
      inside_response k q phase whole_circuit at place fresh remaining compared exposed drive one setting s r bits own_bits_are bare n x p
      (calm_inside k q phase whole_circuit at place fresh remaining compared exposed drive one setting s r bits own_bits_are bare calm n)

  always_above : (bare : Bool) (n : ℕ) (x : Response) → Responds k phase setting (all_bits s.reading) bare n x → IsResponse (above bare) n x
  always_above bare n x h = (always k phase setting s alike.state one.determined bare n x).0 h

  pub always_whole : (bare : Bool) (n : ℕ) (x : Response) → Responds there phase setting (all_bits r.reading) bare n x → IsResponse (whole bare) n x
  always_whole bare n x h = (always there phase setting r alike.whole_state one.whole_determined bare n x).0 h

  -- the cell is equal, so nothing is wrong inside
  equal : Agree q phase (setting_of q phase bits)
  equal = one.cell.equal.agree bits alike.meets

  own_faultless : (kind : FaultKind) (n : ℕ) → ¬ Stands q phase (setting_of q phase bits) (all_bits (λ m. s.reading (at m))) equal.assignment.0 kind n
  own_faultless kind n = equal.no_fault (all_bits (λ m. s.reading (at m))) equal.assignment.0 alike.cell_solves equal.assignment.1 kind n

  always_own : (bare : Bool) (n : ℕ) (x : Response) → IsResponse (own bare) n x → Responds q phase (setting_of q phase bits) (all_bits (λ m. s.reading (at m))) bare n x
  always_own bare n x h =
      (always q phase (setting_of q phase bits) own_bits_here own_is
      own_pins bare n x).1 h

  -- ---- which nets are observed

  observed_there : (n : ℕ) → is_observed k phase n ≡ true
      → ((compared n ≡ true) × ((is_observed there phase n || is_given_at whole_circuit n) ≡ true)) ⊎ ((m : ℕ) × (n ≡ at m) × IsPlain q.circuit m × (is_observed q phase m ≡ true))
  observed_there n o = observed_nets_are_there k q phase whole_circuit at place fresh remaining compared exposed drive one.design one.rules one.within one.placed one.whole one.instances one.hides n o

  observed_back : (n : ℕ) → is_observed there phase n ≡ true → is_observed k phase n ≡ true
  observed_back n o = whole_observes_no_more k q phase whole_circuit at place fresh remaining compared exposed drive one.design one.rules one.outputs one.placed one.whole one.instances n o

  -- ---- floats: an observed net shows its bit

  float_above : (n : ℕ) → is_observed k phase n ≡ true → IsResponse (above true) n FloatResponse → ⊥
  float_above n o h = shows_no_float (above true) n (s.reading n) (solution_shows k phase setting s alike.state one.determined alike.solves n o) h

  float_whole : (n : ℕ) → is_observed there phase n ≡ true → IsResponse (whole true) n FloatResponse → ⊥
  float_whole n o h = shows_no_float (whole true) n (r.reading n) (solution_shows there phase setting r alike.whole_state one.whole_determined alike.whole_solves n o) h

  -- ---- bits and places that are the same

  pub bit_same : (n : ℕ) → remaining n ≡ true → all_bits r.reading n ≡ all_bits s.reading n
  bit_same n m = ap (λ (x : Bool). Some x) (alike.same.reading n m)

  pub hold_there : (i : ℕ) (h : Hold) → At k.circuit.holds i h → (x : Hold) × At whole_circuit.holds i x × (x.net.0 ≡ h.net.0)
  hold_there i h e = let x = one.whole.holds i h e in (x.0, x.1, x.2.net)

  pub hold_back : (i : ℕ) (h : Hold) → At whole_circuit.holds i h → (x : Hold) × At k.circuit.holds i x × (x.net.0 ≡ h.net.0)
  hold_back i h e = let x = one.whole.holds_back i h e in (x.0, x.1, sym x.2.net)

  pub hold_bits : (i : ℕ) (h : Hold) → At k.circuit.holds i h → all_bits s.reading h.net.0 ≡ all_bits r.reading h.net.0
  hold_bits i h e = let x = one.whole.holds i h e in sym (bit_same h.net.0 x.2.stays)

  pub hold_bits_back : (i : ℕ) (h : Hold) → At whole_circuit.holds i h → all_bits r.reading h.net.0 ≡ all_bits s.reading h.net.0
  hold_bits_back i h e =
      let x = one.whole.holds_back i h e in bit_same h.net.0 (subst (λ (n : ℕ). remaining n ≡ true) (sym x.2.net) x.2.stays)

  pub port_bits : (i signal : ℕ) (p : CellPort) → At (ports_of k) i p → output_signal p.role ≡ Some signal → is_observed_port k.rules (cell_at k.design k.cell).name p.name phase ≡ true
      → all_bits s.reading p.net ≡ all_bits r.reading p.net
  port_bits i signal p e is seen = sym (bit_same p.net (one.hides.ports p (i, e)))

  pub port_bits_back : (i signal : ℕ) (p : CellPort) → At (ports_of k) i p → output_signal p.role ≡ Some signal → is_observed_port k.rules (cell_at k.design k.cell).name p.name phase ≡ true
      → all_bits r.reading p.net ≡ all_bits s.reading p.net
  port_bits_back i signal p e is seen = bit_same p.net (one.hides.ports p (i, e))

  instance_bits : (i : FlatInstance) → Among whole_circuit.instances i → (net : Net) → Among i.ports net → all_bits r.reading net.0 ≡ all_bits s.reading net.0
  instance_bits i m net p = bit_same net.0 (one.hides.instance_ports i net m p)

  -- the ports of an instance inside have in the cell the bits that they have above
  image_ports : (j i : FlatInstance) → IsInstanceImage at j i → (x : ℕ) → bit_at_port (all_bits s.reading) i x ≡ bit_at_port (all_bits (λ m. s.reading (at m))) j x
  image_ports j i image x =
      ap (λ (nets : List Net). option_and_then (λ (net : Net). all_bits s.reading net.0) (slice_get nets x)) image.ports
      ∙ ap (option_and_then (λ (net : Net). all_bits s.reading net.0)) (slice_get-map (λ (m : Net). net_id (at m.0)) j.ports x)
      ∙ found (slice_get j.ports x)
    where
      found : (o : Option Net) → option_and_then (λ (net : Net). all_bits s.reading net.0) (option_map (λ (m : Net). net_id (at m.0)) o)
          ≡ option_and_then (λ (net : Net). all_bits (λ m. s.reading (at m)) net.0) o
      found None = refl
      found (Some m) = refl

  -- the cell has the netlist and the rules of the circuit
  breaks_own : (j : FlatInstance) → BreaksConstraint k.design k.rules phase (all_bits (λ m. s.reading (at m))) j → BreaksConstraint q.design q.rules phase (all_bits (λ m. s.reading (at m))) j
  breaks_own j h =
      subst (λ (d : Design). BreaksConstraint d q.rules phase (all_bits (λ m. s.reading (at m))) j) (sym one.design)
      (subst (λ (rules : Rules). BreaksConstraint k.design rules phase (all_bits (λ m. s.reading (at m))) j) (sym one.rules) h)

  -- ---- down: no fight

  calm : (which : Bool) → ((n : ℕ) → IsPlain whole_circuit n → ¬ IsResponse (whole which) n FightResponse) → IsCalm which
  calm which none m e = none (at m) (plain_there k q phase whole_circuit at place fresh remaining compared exposed drive one (at m) (one.placed.plain m (one.placed.exposed_plain m e)))

  -- where no net fights with the instance whole none does in the circuit, since none does in the cell
  no_fight_below : (bare : Bool) (kind : FaultKind) → ((n : ℕ) → IsPlain whole_circuit n → ¬ IsResponse (whole bare) n FightResponse)
      → ((n : ℕ) → IsPlain q.circuit n → IsResponse (own bare) n FightResponse → Stands q phase (setting_of q phase bits) (all_bits (λ m. s.reading (at m))) equal.assignment.0 kind n)
      → (n : ℕ) → IsPlain k.circuit n → IsResponse (above bare) n FightResponse → ⊥
  no_fight_below bare kind none within n p h =
      elim (cases_Bool (compared n)) [
        | inl t ↦ none n (plain_there k q phase whole_circuit at place fresh remaining compared exposed drive one n p) ((out bare n FightResponse t).0 h)
        | inr f ↦
            let hidden = one.hides.hidden n f in
            own_faultless kind hidden.0 (within hidden.0 hidden.2 ((inside bare (calm bare none) hidden.0 FightResponse hidden.2).1 (subst (λ (x : ℕ). IsResponse (above bare) x FightResponse) hidden.1 h)))
      ]

  pub calm_below : ((n : ℕ) → IsPlain whole_circuit n → ¬ Responds there phase setting (all_bits r.reading) bare n FightResponse)
      → (n : ℕ) → IsPlain k.circuit n → ¬ Responds k phase setting (all_bits s.reading) bare n FightResponse
  calm_below none n p h =
      no_fight_below bare Fight (λ m pm f. none m pm ((always there phase setting r alike.whole_state one.whole_determined bare m FightResponse).1 f)) (λ m pm f. (pm, always_own bare m FightResponse f)) n p
      (always_above bare n FightResponse h)

  -- ---- down: nothing is wrong with the instance whole

  module _ (g : Assignment) (fine : IsFaultless there phase setting (all_bits r.reading) g) where
    none_fights : (n : ℕ) → IsPlain whole_circuit n → ¬ IsResponse (whole bare) n FightResponse
    none_fights n p h = fine Fight n (p, (always there phase setting r alike.whole_state one.whole_determined bare n FightResponse).1 h)

    none_fights_kept : (n : ℕ) → IsPlain whole_circuit n → ¬ IsResponse (whole kept) n FightResponse
    none_fights_kept n p h = fine FightKept n (p, (always there phase setting r alike.whole_state one.whole_determined kept n FightResponse).1 h)

    unsettled_below : (n : ℕ) → ¬ Stands k phase setting (all_bits s.reading) g Unsettled n
    unsettled_below n (o, never) =
        let here = never_here k phase setting s alike.state one.determined n never in
        elim (observed_there n o) [
          | inl up ↦ elim (or_cases (is_observed there phase n) (is_given_at whole_circuit n) up.1) [
            | inl seen ↦
                let bit : r.reading n ≡ s.reading n = alike.same.reading n (one.whole.compared_remaining n up.0) in
                fine Unsettled n (
                  seen,
                  never_there there phase setting r alike.whole_state one.whole_determined n
                      (λ shows. here ((out false n (Shows (s.reading n)) up.0).1 (subst (λ (v : Bool). IsResponse (whole false) n (Shows v)) bit shows))),
                )
            | inr given ↦
                let g_there = given_at_gives whole_circuit n given in
                here (given_shows k.circuit one.ranges one.placed.pins_plain false setting.held s n (g_there.0, subst (λ (nets : List FlatNet). At nets n g_there.0) one.nets g_there.1, g_there.2))
          ]
          | inr (m, net, p, seen) ↦ own_faultless Unsettled m (
            seen,
            never_there q phase (setting_of q phase bits) own_bits_here own_is own_pins m
                (λ shows. here (subst (λ (x : ℕ). IsResponse (above false) x (Shows (s.reading x))) (sym net) ((inside false (calm false none_fights_kept) m (Shows (s.reading (at m))) p).0 shows))),
          )
        ]

    -- an instance of the circuit stays, or is inside
    constraint_below : (n : ℕ) → ¬ Stands k phase setting (all_bits s.reading) g Constraint n
    constraint_below n (i, is, breaks) =
        elim (one.instances.instances i (n, is)) [
          | inl (j, m, image) ↦ own_faultless Constraint m.0 (
            j,
            m.1,
            breaks_own j (breaks_there k.design k.rules phase (all_bits s.reading) (all_bits (λ x. s.reading (at x))) i j (sym image.cell) (image_ports j i image) breaks),
          )
          | inr m ↦ fine Constraint m.0 (
            i,
            m.1,
            breaks_there k.design k.rules phase (all_bits s.reading) (all_bits r.reading) i i refl
                (ports_same i (all_bits s.reading) (all_bits r.reading) (λ net p. sym (instance_bits i m net p))) breaks,
          )
        ]

    faultless_below : IsFaultless k phase setting (all_bits s.reading) g
    faultless_below Fight n h = no_fight_below bare Fight none_fights (λ m p f. (p, always_own bare m FightResponse f)) n h.0 (always_above bare n FightResponse h.1)
    faultless_below FightKept n h = no_fight_below kept FightKept none_fights_kept (λ m p f. (p, always_own kept m FightResponse f)) n h.0 (always_above kept n FightResponse h.1)
    faultless_below Float n h = float_above n h.0 (always_above bare n FloatResponse h.1)
    faultless_below Unsettled n h = unsettled_below n h
    faultless_below Constraint n h = constraint_below n h
    faultless_below Differs n h = fine Differs n (differs_there k phase k.circuit whole_circuit k.groups there.groups (all_bits s.reading) (all_bits r.reading) (sym one.held_groups) hold_there one.enters hold_bits port_bits g n h)
    faultless_below Next n h = fine Next n (next_there k phase k.circuit whole_circuit k.groups there.groups (all_bits s.reading) (all_bits r.reading) (sym one.held_groups) hold_there one.enters hold_bits port_bits g n h)
    faultless_below Apart n h = fine Apart n (apart_there k phase k.circuit whole_circuit k.groups there.groups (all_bits s.reading) (all_bits r.reading) (sym one.held_groups) hold_there one.enters hold_bits port_bits g n h)
    faultless_below Enter n h = fine Enter n (enter_there k phase k.circuit whole_circuit k.groups there.groups (all_bits s.reading) (all_bits r.reading) (sym one.held_groups) hold_there one.enters hold_bits port_bits g n h)

  -- ---- from the instance whole to the cell in the circuit: what stands there stands here

  -- a net of the cell that is an output at gates alone has one pin with the instance whole, and so no two values
  no_fight_inside : (bare : Bool) (m : ℕ) → IsPlain q.circuit m → exposed m ≡ false → IsResponse (whole bare) (at m) FightResponse → ⊥
  no_fight_inside bare m p hidden (high, low) =
      let up = reached_inside k q phase whole_circuit at place fresh remaining compared exposed drive one bare setting.held r m true p hidden high in
      let down = reached_inside k q phase whole_circuit at place fresh remaining compared exposed drive one bare setting.held r m false p hidden low in
      two_values (r.driven (fresh m)) up.3 down.3

  fight_above : (bare : Bool) (n : ℕ) → IsResponse (whole bare) n FightResponse → IsResponse (above bare) n FightResponse
  fight_above bare n h =
      elim (cases_Bool (compared n)) [
        | inl t ↦ (out bare n FightResponse t).1 h
        | inr f ↦
            let hidden = hidden_net k q phase whole_circuit at place fresh remaining compared exposed drive one n f in
            absurd (no_fight_inside bare hidden.0 hidden.2 hidden.3 (subst (λ (x : ℕ). IsResponse (whole bare) x FightResponse) hidden.1 h))
      ]

  fight_stands : (bare : Bool) (n : ℕ) → Responds there phase setting (all_bits r.reading) bare n FightResponse → Responds k phase setting (all_bits s.reading) bare n FightResponse
  fight_stands bare n h = (always k phase setting s alike.state one.determined bare n FightResponse).1 (fight_above bare n (always_whole bare n FightResponse h))

  -- an observed net that is hidden keeps the bit that it shows, since no channel is there
  pub keeps_inside : (n : ℕ) → compared n ≡ false → is_observed there phase n ≡ true → IsResponse (whole kept) n (Shows (r.reading n))
  keeps_inside n f o =
      let hidden = hidden_net k q phase whole_circuit at place fresh remaining compared exposed drive one n f in
      let free : (d : Device) → Among whole_circuit.devices d → Touches d n → ⊥
      = λ d m t. free_inside k q phase whole_circuit at place fresh remaining compared exposed drive one hidden.0 hidden.2 hidden.3 d m (subst (Touches d) hidden.1 t) in
      response_other whole_circuit setting.held r n free bare kept (Shows (r.reading n)) (solution_shows there phase setting r alike.whole_state one.whole_determined alike.whole_solves n o)

  unsettled_stands : (g : Assignment) (n : ℕ) → Stands there phase setting (all_bits r.reading) g Unsettled n → Stands k phase setting (all_bits s.reading) g Unsettled n
  unsettled_stands g n (o, never) =
      let here = never_here there phase setting r alike.whole_state one.whole_determined n never in
      elim (cases_Bool (compared n)) [
        | inl t ↦
            let bit : r.reading n ≡ s.reading n = alike.same.reading n (one.whole.compared_remaining n t) in (
              observed_back n o,
              never_there k phase setting s alike.state one.determined n
                  (λ shows. here ((out kept n (Shows (r.reading n)) t).0 (subst (λ (v : Bool). IsResponse (above kept) n (Shows v)) (sym bit) shows))),
            )
        | inr f ↦ absurd (here (keeps_inside n f o))
      ]

  constraint_stands : (g : Assignment) (n : ℕ) → Stands there phase setting (all_bits r.reading) g Constraint n
      → (m : ℕ) × IsSameIn k.circuit whole_circuit Constraint m n × Stands k phase setting (all_bits s.reading) g Constraint m
  constraint_stands g n (i, is, breaks) =
      let below = one.instances.instances_back i (n, is) in (
        below.0,
        (i, below.1, is),
        (
          i,
          below.1,
          breaks_there k.design k.rules phase (all_bits r.reading) (all_bits s.reading) i i refl
              (ports_same i (all_bits r.reading) (all_bits s.reading) (λ net p. instance_bits i (n, is) net p)) breaks,
        ),
      )

  pub stands_below : (g : Assignment) (kind : FaultKind) (n : ℕ) → Stands there phase setting (all_bits r.reading) g kind n
      → (m : ℕ) × IsSameIn k.circuit whole_circuit kind m n × Stands k phase setting (all_bits s.reading) g kind m
  stands_below g Fight n h = (n, refl, (plain_back k q phase whole_circuit at place fresh remaining compared exposed drive one n h.0, fight_stands bare n h.1))
  stands_below g FightKept n h = (n, refl, (plain_back k q phase whole_circuit at place fresh remaining compared exposed drive one n h.0, fight_stands kept n h.1))
  stands_below g Float n h = absurd (float_whole n h.0 (always_whole bare n FloatResponse h.1))
  stands_below g Unsettled n h = (n, refl, unsettled_stands g n h)
  stands_below g Constraint n h = constraint_stands g n h
  stands_below g Differs n h =
      (n, refl, differs_there k phase whole_circuit k.circuit there.groups k.groups (all_bits r.reading) (all_bits s.reading) one.held_groups hold_back (λ next i. sym (one.enters next i)) hold_bits_back port_bits_back g n h)
  stands_below g Next n h =
      (n, refl, next_there k phase whole_circuit k.circuit there.groups k.groups (all_bits r.reading) (all_bits s.reading) one.held_groups hold_back (λ next i. sym (one.enters next i)) hold_bits_back port_bits_back g n h)
  stands_below g Apart n h =
      (n, refl, apart_there k phase whole_circuit k.circuit there.groups k.groups (all_bits r.reading) (all_bits s.reading) one.held_groups hold_back (λ next i. sym (one.enters next i)) hold_bits_back port_bits_back g n h)
  stands_below g Enter n h =
      (n, refl, enter_there k phase whole_circuit k.circuit there.groups k.groups (all_bits r.reading) (all_bits s.reading) one.held_groups hold_back (λ next i. sym (one.enters next i)) hold_bits_back port_bits_back g n h)

pub faults_stand_below : FaultsStandBelow
faults_stand_below k q phase whole_circuit at place fresh remaining compared exposed drive setting s r bits g one alike kind n h =
    stands_below k q phase whole_circuit at place fresh remaining compared exposed drive setting s r bits one alike g kind n h

pub faults_are_shared : FaultsAreShared
faults_are_shared k q phase whole_circuit at place fresh remaining compared exposed drive setting s r bits g one alike = (
  λ fine kind n h.
      let below = stands_below k q phase whole_circuit at place fresh remaining compared exposed drive setting s r bits one alike g kind n h in fine kind below.0 below.2,
  faultless_below k q phase whole_circuit at place fresh remaining compared exposed drive setting s r bits one alike g,
)
