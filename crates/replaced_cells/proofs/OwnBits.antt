-- States of a circuit with a cell in it and of the circuit with this instance whole, where the cell's nets have the bits of the cell's own
-- solution: each net outside responds in both alike, and each net inside as in the cell alone, beside no output that fights.
use Rattle.std.proofs.Common.{◌≡◌, ℕ, ◌<◌, arith, Bool, true, false, List, [], ◌∷◌, length, subst, sym, refl, ap, inl, inr}
use Rattle.std.specs.Prelude.{◌↔◌}
use Rattle.std.proofs.lemmas.Option.{none-some, same_Some}
use Rattle.cell_inside.proofs.AssuredLaws.{response_by}
use Rattle.cell_inside.proofs.LeftWholeLaws.{left_whole_is_same}
use Rattle.cell_inside.proofs.NetKinds.{is_plain_is}
use Rattle.cell_inside.proofs.OutputPins.{pin_found}
use Rattle.cell_inside.proofs.PlacedLaws.{placed_cell_stands_alone}
use Rattle.cell_inside.proofs.UnjoinedLaws.{parted_outputs_are_unjoined}
use Rattle.cell_inside.specs.LeftWhole.{Correspond, HasOutputs}
use Rattle.cell_inside.specs.Placed.{alone}
use Rattle.cell_inside.specs.Replaced.{AreUnjoined, FightsBeside}
use Rattle.cell_inside.specs.Unjoined.{HasKnownGates}
use Rattle.channel_parts.specs.OneSolution.{AreDetermined}
use Rattle.known_nets.proofs.WiredLaws.{pin_of_whole}
use Rattle.replaced_cells.proofs.Prepared.{output_gives}
use Rattle.replaced_cells.proofs.SameResponses.{only_shown, shown_reaches, shows_surely}
use Rattle.replaced_cells.proofs.SolvedAlike.{alone_is, never_there, no_pins, none_determined, own_bits, solution_shows}
use Rattle.replaced_cells.proofs.States.{gives_elsewhere}
use Rattle.replaced_cells.specs.OneMoreWhole.{IsOneMoreWhole, all_bits, no_net}
use Rattle.vrt_model.proofs.Decidable.{some_response}
use Rattle.vrt_model.proofs.Filtered.{among_devices, device_among}
use Rattle.vrt_model.proofs.Members.{all_among}
use Rattle.vrt_model.proofs.Networks.{network_finite}
use Rattle.vrt_model.proofs.Scales.{least_above, least_below}
use Rattle.vrt_model.specs.Circuits.{IsDevice, IsHold}
use Rattle.vrt_model.specs.Comparison.{Comparison, is_observed, phase_at}
use Rattle.vrt_model.specs.Constraints.{Meets}
use Rattle.vrt_model.specs.Equal.{Agree}
use Rattle.vrt_model.specs.Faults.{Solves}
use Rattle.vrt_model.specs.Held.{setting_of}
use Rattle.vrt_model.specs.Known.{IsPlain, IsTogether, is_plain_at}
use Rattle.vrt_model.specs.Known.IsTogether.{itself, onward}
use Rattle.vrt_model.specs.Levels.{source_level}
use Rattle.vrt_model.specs.Lists.{Among, At}
use Rattle.vrt_model.specs.Networks.{HasRanges}
use Rattle.vrt_model.specs.Path.{Hop, IsPath, Network, Root, level_of}
use Rattle.vrt_model.specs.Reading.{IsReading, Partial, bare, devices_of, kept}
use Rattle.vrt_model.specs.Response.{Fight, IsResponse, IsStrength, Reaches, Response, Shows}
use Rattle.vrt_model.specs.State.{IsState, Setting, State, network_of}
use Rattle.vrt_model.specs.declared.circuit.Circuit.{Circuit}
use Rattle.vrt_model.specs.declared.circuit.Device.{Device}
use Rattle.vrt_model.specs.declared.rules.Phase.{Phase}
use Rattle.vrt_model.specs.declared.verdict.FaultKind.TheVariants.{Unsettled}
use Rattle.vrt_model.specs.declared.whole.Whole.{Whole}
use Rattle.whole_ranks.proofs.KnownLaws.{known_nets_are_solved}
use Rattle.whole_solutions.proofs.ObservedCases.{gate_observed}

-- ---- circuits without whole instances

-- each path has a level
path_level : (c : Circuit) (which : Bool) (held : ℕ → Bool) (s : State) → HasRanges c → c.wholes ≡ [] → (root : Root) (hops : List Hop) → IsPath (network_of c which held s) root hops → 0 < level_of root hops
path_level c which held s ranges none root [] p =
    elim p [
      | inl g ↦ (let is : root.level ≡ source_level c = g.3 in let below = least_below c in omega (arith, is, below))
      | inr other ↦ elim other [
        | inl h ↦ (let is = h.4 in let some = (all_among (IsHold c) c.holds h.1 ranges.holds (h.0, h.2)).size.0 in omega (arith, is, some))
        | inr o ↦ (let out = pin_found c o.0 o.1 o.2 in absurd (no_pins c none o.0 out.0 out.1))
      ]
    ]
path_level c which held s ranges none root (hop ∷ hops) p =
    let before = path_level c which held s ranges none root hops p.0 in
    let some = (all_among (IsDevice c) c.devices hop.device ranges.devices (device_among which c hop.device p.1.0).0).level.0 in
    let above = least_above c in
    omega (arith, before, some, above)

-- a part lies in one of the kept circuit
together_kept : (c : Circuit) (phase : Phase) (which : Bool) (m n : ℕ) → IsTogether c phase which m n → IsTogether c phase kept m n
together_kept c phase which m n (itself p) = itself p
together_kept c phase which m n (onward d before on joins plain) =
    onward d (together_kept c phase which m _ before) (among_devices kept c d (device_among which c d on.0).0 refl, on.1) joins plain

-- ---- both circuits

-- states of both circuits that say the same of all nets that remain, of which the former gives the cell the bits of a solution, at a
-- valuation that meets the cell's constraints
pub record HaveOwnBits (k q : Comparison) (phase : ℕ) (whole_circuit : Circuit) (at place fresh : ℕ → ℕ) (remaining : ℕ → Bool) (setting : Setting)
    (s r : State) (bits : List Bool) : Type 0 where
  pub state : IsState k.circuit (phase_at k.rules phase) setting.inputs s
  pub whole_state : IsState whole_circuit (phase_at k.rules phase) setting.inputs r
  pub same : Correspond k.circuit (λ n. n) place fresh remaining no_net no_net s r
  pub meets : Meets q phase bits
  pub reads : IsReading q.circuit (phase_at q.rules phase) (setting_of q phase bits).inputs (λ n. s.reading (at n))
  pub cell_solves : Solves q phase (setting_of q phase bits) (all_bits (λ n. s.reading (at n)))

module _ (k q : Comparison) (phase : ℕ) (whole_circuit : Circuit) (at place fresh : ℕ → ℕ) (remaining compared exposed : ℕ → Bool) (drive : ℕ → ℕ)
    (one : IsOneMoreWhole k q phase whole_circuit at place fresh remaining compared exposed drive) (setting : Setting) (s r : State) (bits : List Bool)
    (own : HaveOwnBits k q phase whole_circuit at place fresh remaining setting s r bits) where
  abbrev now : Phase
  now = phase_at q.rules phase

  abbrev there : Setting
  there = setting_of q phase bits

  -- the cell with the bits of the state
  abbrev first : State
  first = own_bits k q phase whole_circuit at place fresh remaining compared exposed drive one s

  abbrev solution : Partial
  solution = all_bits (λ n. s.reading (at n))

  abbrev cell : Bool → Network
  cell which = network_of q.circuit which there.held first

  abbrev above : Bool → Network
  above which = network_of k.circuit which setting.held s

  abbrev whole : Bool → Network
  whole which = network_of whole_circuit which setting.held r

  pub own_state : IsState q.circuit now there.inputs first
  own_state = record { reading = own.reads; driven = λ i pin e. absurd (no_pins q.circuit one.cell.wholes i pin e) }

  pub own_determined : AreDetermined q.circuit now (is_observed q phase)
  own_determined = none_determined k q phase whole_circuit at place fresh remaining compared exposed drive one

  -- ---- what an observed net of the cell shows

  equal : Agree q phase there
  equal = one.cell.equal.agree bits own.meets

  -- its bit, also in the kept circuit, since the cell is equal
  pub own_shows : (which : Bool) (n : ℕ) → is_observed q phase n ≡ true → IsResponse (cell which) n (Shows (s.reading (at n)))
  own_shows true n o = solution_shows q phase there first own_state own_determined own.cell_solves n o
  own_shows false n o =
      let response = some_response (cell kept) (length q.circuit.nets) (source_level q.circuit) (network_finite q.circuit kept there.held first one.cell.ranges) n in
      shows_surely (cell kept) n (s.reading (at n)) response.0 response.1
      (λ never. equal.no_fault solution equal.assignment.0 own.cell_solves equal.assignment.1 Unsettled n (o, never_there q phase there first own_state own_determined n never))

  -- ---- outputs

  known_gates : (which : Bool) → HasKnownGates q.circuit now which at s
  known_gates which d v m known =
      let seen = gate_observed q phase d.gate.0 (d, (device_among which q.circuit d m).0, refl) in
      same_Some (s.reading (at d.gate.0)) v
      (known_nets_are_solved q.circuit now (is_observed q phase) there solution one.cell.ranges (λ w pin on out. absurd (no_whole w on)) gates own.cell_solves d.gate.0 v known seen)
    where
      no_whole : (w : Whole) → Among q.circuit.wholes w → ⊥
      no_whole w on = none-some w (subst (λ (ws : List Whole). At ws on.0 w) one.cell.wholes on.1)

      gates : (e : Device) → Among (devices_of bare q.circuit) e → is_observed q phase e.gate.0 ≡ true
      gates e on = gate_observed q phase e.gate.0 (e, (device_among bare q.circuit e on).0, refl)

  unjoined : (which : Bool) → AreUnjoined (alone q.circuit which at s) at (is_plain_at q.circuit) exposed
  unjoined which =
      parted_outputs_are_unjoined q.circuit now which at exposed s (known_gates which)
      (λ m n em en t. ap at (sym ((one.exposed_outputs m em).alone n en (together_kept q.circuit now which m n t))))

  output_observed : (n : ℕ) → exposed n ≡ true → is_observed q phase n ≡ true
  output_observed n e = one.hides.outputs n (one.placed.exposed_plain n e) (one.whole.compared_remaining (at n) (one.whole.exposed_compared n e))

  -- the pin of an exposed output has the bit of the cell's solution
  pin_bit : (n : ℕ) → exposed n ≡ true → r.driven (fresh n) ≡ s.reading (at n)
  pin_bit n e =
      let pin = one.whole.fresh_pins n e in
      let gives = gives_elsewhere (phase_at k.rules phase) pin.0 r.reading s.reading
      (λ input m. own.same.reading input.net.0 (one.hides.pins pin.0.whole input (pin_of_whole whole_circuit pin.0 (fresh n, pin.1)).0 m))
      (r.driven (fresh n)) (own.whole_state.driven (fresh n) pin.0 pin.1) in
      sym (same_Some (s.reading (at n)) (r.driven (fresh n))
      (output_gives k q phase whole_circuit at place fresh remaining compared exposed drive one s.reading bits own.meets own.reads solution own.cell_solves n pin.0 (r.driven (fresh n))
      (one.placed.exposed_plain n e) pin.1 pin.2.net gives))

  strong : (which : Bool) (n : ℕ) → exposed n ≡ true → IsStrength (cell which) n (drive n)
  strong which n e = (one.exposed_outputs n e).level bits solution first which own.meets own.cell_solves own_state (λ m v o x. same_Some (s.reading (at m)) v x)

  some_drive : (n : ℕ) → exposed n ≡ true → 0 < drive n
  some_drive n e =
      let path = shown_reaches (cell bare) n (s.reading (at n)) (own_shows bare n (output_observed n e)) in
      let some = path_level q.circuit bare there.held first one.cell.ranges one.cell.wholes path.0 path.1 path.2 in
      let most = (strong bare n e).0 path.0 path.1 path.2 path.4 in omega (arith, some, most)

  abbrev value : ℕ → Bool
  value n = r.driven (fresh n)

  -- the cell alone gives each exposed output its drive, and the bit of its pin
  outputs : (which : Bool) → HasOutputs q.circuit which at s exposed drive value
  outputs which =
      let is = alone_is k q phase whole_circuit at place fresh remaining compared exposed drive one bits which s in
      record {
        drives = λ n e. (subst (λ (w : Network). IsStrength w n (drive n)) is (strong which n e), some_drive n e);
        values = λ n e.
            let shows = own_shows which n (output_observed n e) in
            subst (λ (w : Network). Reaches w n (value n) × ((u : Bool) → Reaches w n u → u ≡ value n)) is
            (subst (λ (v : Bool). Reaches (cell which) n v × ((u : Bool) → Reaches (cell which) n u → u ≡ v)) (sym (pin_bit n e))
            (shown_reaches (cell which) n (s.reading (at n)) shows, λ u reached. only_shown (cell which) n (s.reading (at n)) u shows reached));
      }

  -- ---- responses

  -- the same values reach a net outside in both circuits, also where an output fights
  outside_same : (which : Bool) (n : ℕ) (u : Bool) → compared n ≡ true → Reaches (above which) n u ↔ Reaches (whole which) n u
  outside_same which n u c =
      (left_whole_is_same q.circuit k.circuit whole_circuit at (λ x. x) place fresh remaining compared exposed drive value (phase_at k.rules phase) setting.inputs setting.held which s r
      one.cell.ranges one.ranges one.whole_ranges one.placed one.whole own.state.reading
      (record { reading = own.same.reading; driven = own.same.driven; fresh_driven = λ m e. refl }) (outputs which) (unjoined which)).1 n u c

  pub outside_response : (which : Bool) (n : ℕ) (x : Response) → compared n ≡ true → IsResponse (above which) n x ↔ IsResponse (whole which) n x
  outside_response which n x c = (
    response_by (above which) (whole which) n n (λ u. outside_same which n u c) x,
    response_by (whole which) (above which) n n (λ u. let e = outside_same which n u c in (e.1, e.0)) x,
  )

  -- a net outside has the same strength in both circuits
  pub outside_strength : (which : Bool) (n level : ℕ) → compared n ≡ true → IsStrength (above which) n level ↔ IsStrength (whole which) n level
  outside_strength which n level c =
      (left_whole_is_same q.circuit k.circuit whole_circuit at (λ x. x) place fresh remaining compared exposed drive value (phase_at k.rules phase) setting.inputs setting.held which s r
      one.cell.ranges one.ranges one.whole_ranges one.placed one.whole own.state.reading
      (record { reading = own.same.reading; driven = own.same.driven; fresh_driven = λ m e. refl }) (outputs which) (unjoined which)).0 n level c

  -- and a net inside that of the cell alone
  pub inside_strength : (which : Bool) (n level : ℕ) → IsPlain q.circuit n → IsStrength (cell which) n level → IsStrength (above which) (at n) level
  inside_strength which n level p has =
      ((placed_cell_stands_alone q.circuit k.circuit at exposed drive (phase_at k.rules phase) setting.inputs setting.held which s one.cell.ranges one.ranges one.placed own.state.reading
      (outputs which).drives).0 n level (is_plain_is q.circuit n p)).0
      (subst (λ (w : Network). IsStrength w n level) (alone_is k q phase whole_circuit at place fresh remaining compared exposed drive one bits which s) has)

  -- an output that conducting devices of the cell join to the net fights
  abbrev pub IsBesideFight : Bool → ℕ → Type 0
  IsBesideFight which n = FightsBeside (alone q.circuit which at s) (whole which) (λ m. at m) (is_plain_at q.circuit) exposed n

  -- else the same values reach a net inside as in the cell alone
  inside_same : (which : Bool) (n : ℕ) (u : Bool) → IsPlain q.circuit n → (IsBesideFight which n → ⊥) → Reaches (alone q.circuit which at s) n u ↔ Reaches (above which) (at n) u
  inside_same which n u p calm = (
    (placed_cell_stands_alone q.circuit k.circuit at exposed drive (phase_at k.rules phase) setting.inputs setting.held which s one.cell.ranges one.ranges one.placed own.state.reading
        (outputs which).drives).1 n u (is_plain_is q.circuit n p),
    λ reached. elim ((left_whole_is_same q.circuit k.circuit whole_circuit at (λ x. x) place fresh remaining compared exposed drive value (phase_at k.rules phase) setting.inputs setting.held which s r
        one.cell.ranges one.ranges one.whole_ranges one.placed one.whole own.state.reading
        (record { reading = own.same.reading; driven = own.same.driven; fresh_driven = λ m e. refl }) (outputs which) (unjoined which)).2 n u (is_plain_is q.circuit n p) reached) [
          | inl here ↦ here
          | inr fights ↦ absurd (calm fights)
        ],
  )

  pub inside_response : (which : Bool) (n : ℕ) (x : Response) → IsPlain q.circuit n → (IsBesideFight which n → ⊥)
      → IsResponse (cell which) n x ↔ IsResponse (above which) (at n) x
  inside_response which n x p calm =
      let is = alone_is k q phase whole_circuit at place fresh remaining compared exposed drive one bits which s in (
        λ h. response_by (alone q.circuit which at s) (above which) n (at n) (λ u. inside_same which n u p calm) x (subst (λ (w : Network). IsResponse w n x) is h),
        λ h. subst (λ (w : Network). IsResponse w n x) (sym is) (response_by (above which) (alone q.circuit which at s) (at n) n (λ u. let e = inside_same which n u p calm in (e.1, e.0)) x h),
      )

  -- nothing is beside a fight where no exposed output fights
  pub calm_inside : (which : Bool) → ((m : ℕ) → exposed m ≡ true → IsResponse (whole which) (at m) Fight → ⊥) → (n : ℕ) → IsBesideFight which n → ⊥
  calm_inside which calm n (m, e, joined, high, low) = calm m e (high, low)
