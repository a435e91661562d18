-- What each test before the phases finds is the cause of the cell.
use Rattle.std.proofs.Common.{◌≡◌, ℕ, Option, Some, None, ap, subst, sym, refl, ◌∙◌}
use Rattle.std.specs.Option.{option_or}
use Rattle.std.specs.Prelude.{Err, Ok, Result}
use Rattle.std.proofs.lemmas.Option.{none-some, same_Some}
use Rattle.cell_room.proofs.Causes.{circuit_count, clock_in_way, device_model, group_in_way, model_count, output_in_way, port_in_way, tied_supply}
use Rattle.cell_room.specs.Steps.{CircuitGrouped, CircuitTells, FlattenedTells, GroupsTell, IsEarlyWhy, IsFoundBy, Stops, PlacedTells, PlacedWith, circuit_why, clock_why, device_why, group_why, model_why, pairing_why}
use Rattle.cell_room.specs.Compared.{IsFlattened, IsGrouped}
use Rattle.cell_room.specs.Flat.{Flattened}
use Rattle.cell_room.specs.declared.flattening.Placed.{Placed}
use Rattle.cell_room.specs.declared.hindrance.Hindrance.{Hindrance}
use Rattle.cell_room.specs.declared.hindrance.Hindrance.TheVariants.{Because, NoMemory}
use Rattle.flatten.specs.Circuits.{IsFlatCircuit}
use Rattle.flatten.specs.Structures.{IsStructured}
use Rattle.hold_groups.specs.Grouped.{AreGroups}
use Rattle.latch_match.specs.Paired.{IsPairing}
use Rattle.vrt_model.specs.Comparison.{cell_at}
use Rattle.vrt_model.specs.FlatBlif.{flat_model_of}
use Rattle.vrt_model.specs.FlatCircuit.{flat_circuit}
use Rattle.vrt_model.specs.FlatModels.{IsFlatModel}
use Rattle.vrt_model.specs.Groups.{groups_of}
use Rattle.vrt_model.specs.Inputs.{AreRules}
use Rattle.vrt_model.specs.PairedPorts.{HasRoles, Model, output_is_input, paired_model, pairing_of, ports_fault}
use Rattle.vrt_model.specs.Unrolled.{Top}
use Rattle.vrt_model.specs.Unsupported.{circuit_limits, device_without_kind, latch_without_clock, model_limits, supply_tie, too_large, top_before, unmatched, why_early, why_of}
use Rattle.vrt_model.specs.declared.blif.Blif.{Blif}
use Rattle.vrt_model.specs.declared.circuit.Circuit.{Circuit}
use Rattle.vrt_model.specs.declared.design.Design.{Design}
use Rattle.vrt_model.specs.declared.flat_model.FlatModel.{FlatModel}
use Rattle.vrt_model.specs.declared.pairing.Pairing.{Pairing}
use Rattle.vrt_model.specs.declared.rules.Rules.{Rules}
use Rattle.vrt_model.specs.declared.verdict.Why.{Why}
use Rattle.vrt_model.specs.declared.verdict.Why.TheVariants.{DeviceModel, NoClock, OutputIsInput, Ports, SupplyTie, TooLarge, Unmatched}

-- what a test finds is made of what it looked for
found_by : {X : Type 0} (g : X → Why) (o : Option X) (P : Why → Type 0) (why : Why) → why_of g o ≡ Some why → ((x : X) → o ≡ Some x → P (g x)) → P why
found_by g None P why e made = absurd (none-some why e)
found_by g (Some x) P why e made = subst P (same_Some (g x) why e) (made x refl)

-- what the first of two tests finds, else the second
found_or : {X Y : Type 0} (g : X → Why) (h : Y → Why) (o : Option X) (q : Option Y) (P : Why → Type 0) (why : Why) → option_or (why_of g o) (why_of h q) ≡ Some why
    → ((x : X) → o ≡ Some x → P (g x)) → ((y : Y) → o ≡ None → q ≡ Some y → P (h y)) → P why
found_or g h None q P why e first other = found_by h q P why e (λ y same. other y refl same)
found_or g h (Some x) q P why e first other = subst P (same_Some (g x) why e) (first x refl)

-- what is known of a cause may say less
pub stops_for : (P Q : Why → Type 0) → ((why : Why) → P why → Q why) → (stop : Hindrance) → Stops P stop → Stops Q stop
stops_for P Q less (Because why) is = less why is
stops_for P Q less NoMemory is = tt

module _ (design : Design) (blif : Blif) (rules : Rules) (cell m : ℕ) (paired : paired_model design blif rules cell ≡ Model m) where
  -- the cause of the cell
  abbrev IsCause : Why → Type 0
  IsCause why = why_early design blif rules cell (paired_model design blif rules cell) ≡ Some why

  -- a count of the circuit
  pub by_circuit : (why : Why) → IsFoundBy (circuit_why (top_before design rules cell)) why → IsEarlyWhy design blif rules cell why
  by_circuit why found =
      (found_by (λ count. TooLarge count) (too_large (circuit_limits (top_before design rules cell))) IsCause why found.0 (λ count e. circuit_count design blif rules cell m paired count e), found.1)

  -- a count of the model
  pub by_model : too_large (circuit_limits (top_before design rules cell)) ≡ None → (why : Why) → IsFoundBy (model_why blif m) why → IsEarlyWhy design blif rules cell why
  by_model circuit why found =
      (found_by (λ count. TooLarge count) (too_large (model_limits blif m)) IsCause why found.0 (λ count e. model_count design blif rules cell m paired count circuit e), found.1)

  -- a device or a tie
  pub by_device : too_large (circuit_limits (top_before design rules cell)) ≡ None → too_large (model_limits blif m) ≡ None
      → (why : Why) → IsFoundBy (device_why (top_before design rules cell)) why → IsEarlyWhy design blif rules cell why
  by_device circuit model why found = (
    found_or (λ name. DeviceModel name) (λ path. SupplyTie path) (device_without_kind (top_before design rules cell)) (supply_tie (top_before design rules cell)) IsCause why found.0
        (λ name e. device_model design blif rules cell m paired name circuit model e)
        (λ path none e. tied_supply design blif rules cell m paired path circuit model none e),
    found.1,
  )

  -- a port, a signal or an output
  pub by_pairing : IsStructured (top_before design rules cell) → too_large (model_limits blif m) ≡ None → (flat : FlatModel) → flat ≡ flat_model_of blif m
      → (why : Why) → IsFoundBy (pairing_why design cell flat rules) why → IsEarlyWhy design blif rules cell why
  by_pairing structured model flat is why found =
      let here : IsFoundBy (pairing_why design cell (flat_model_of blif m) rules) why = subst (λ (x : FlatModel). IsFoundBy (pairing_why design cell x rules) why) is found in (
        found_or (λ name. Ports name) (λ signal. OutputIsInput signal) (ports_fault design cell (flat_model_of blif m) rules) (output_is_input (flat_model_of blif m)) IsCause why here.0
            (λ name e. port_in_way design blif rules cell m paired name structured model e)
            (λ signal none e. output_in_way design blif rules cell m paired signal structured model none e),
        here.1,
      )

  -- a latch without clock
  pub by_clock : IsStructured (top_before design rules cell) → too_large (model_limits blif m) ≡ None → (flat : FlatModel) → flat ≡ flat_model_of blif m
      → ports_fault design cell flat rules ≡ None → output_is_input flat ≡ None → (why : Why) → IsFoundBy (clock_why flat rules) why → IsEarlyWhy design blif rules cell why
  by_clock structured model flat is ports outputs why found =
      let here : IsFoundBy (clock_why (flat_model_of blif m) rules) why = subst (λ (x : FlatModel). IsFoundBy (clock_why x rules) why) is found in (
        found_by (λ latch. NoClock latch) (latch_without_clock (flat_model_of blif m) rules) IsCause why here.0
            (λ latch e.
            clock_in_way design blif rules cell m paired latch structured model (subst (λ (x : FlatModel). ports_fault design cell x rules ≡ None) is ports)
            (subst (λ (x : FlatModel). output_is_input x ≡ None) is outputs) e),
        here.1,
      )

  -- an element without a hold
  pub by_groups : IsStructured (top_before design rules cell) → too_large (model_limits blif m) ≡ None → (flat : FlatModel) → flat ≡ flat_model_of blif m
      → ports_fault design cell flat rules ≡ None → output_is_input flat ≡ None → latch_without_clock flat rules ≡ None
      → (pairing : Pairing) → pairing ≡ pairing_of design cell m flat rules
      → (why : Why) → IsFoundBy (group_why design rules cell (flat_circuit design rules cell pairing) flat) why → IsEarlyWhy design blif rules cell why
  by_groups structured model flat is ports outputs clock pairing pairs why found =
      let there : IsFoundBy (group_why design rules cell (flat_circuit design rules cell (pairing_of design cell m flat rules)) flat) why =
      subst (λ (p : Pairing). IsFoundBy (group_why design rules cell (flat_circuit design rules cell p) flat) why) pairs found in
      let here : IsFoundBy (group_why design rules cell (flat_circuit design rules cell (pairing_of design cell m (flat_model_of blif m) rules)) (flat_model_of blif m)) why =
      subst (λ (x : FlatModel). IsFoundBy (group_why design rules cell (flat_circuit design rules cell (pairing_of design cell m x rules)) x) why) is there in (
        found_by (λ name. Unmatched name)
            (unmatched rules (cell_at design cell).name (flat_model_of blif m) (groups_of (flat_circuit design rules cell (pairing_of design cell m (flat_model_of blif m) rules)) (flat_model_of blif m)))
            IsCause why here.0
            (λ name e.
            group_in_way design blif rules cell m paired name structured model (subst (λ (x : FlatModel). ports_fault design cell x rules ≡ None) is ports)
            (subst (λ (x : FlatModel). output_is_input x ≡ None) is outputs) (subst (λ (x : FlatModel). latch_without_clock x rules ≡ None) is clock) e),
        here.1,
      )

-- where a circuit is told, its counts are within their limits
pub counted_of : (t : Top) (cause : Option Why) → CircuitTells t (Ok cause) → too_large (circuit_limits t) ≡ None
counted_of t None tells = tells.small
counted_of t (Some why) tells = tells.0

-- and where nothing is kept, nothing is in its way
pub structured_of : (t : Top) (cause : Option Why) → CircuitTells t (Ok cause) → ((why : Why) → cause ≡ Some why → ⊥) → IsStructured t
structured_of t None tells none = tells
structured_of t (Some why) tells none = absurd (none why refl)

-- all that is known of the cell
pub flattened_by : (design : Design) (blif : Blif) (rules : Rules) (cell m : ℕ) (flat : FlatModel) (pairing : Pairing) (f : Flattened) → paired_model design blif rules cell ≡ Model m → AreRules rules
    → too_large (model_limits blif m) ≡ None → flat ≡ flat_model_of blif m → IsFlatModel flat → IsPairing design cell m flat rules pairing → latch_without_clock flat rules ≡ None
    → IsFlatCircuit design rules cell pairing f.circuit → IsGrouped design rules cell pairing (flat_circuit design rules cell pairing) flat f → IsFlattened design blif rules cell m f
flattened_by design blif rules cell m flat pairing f paired ruled small model_is model pairs clock circuit grouped = record {
  paired = paired;
  structured = circuit.structured;
  small = small;
  ports = subst (λ (x : FlatModel). ports_fault design cell x rules ≡ None) (sym grouped.model_is) pairs.ports;
  outputs = subst (λ (x : FlatModel). output_is_input x ≡ None) (sym grouped.model_is) pairs.outputs;
  clock = subst (λ (x : FlatModel). latch_without_clock x rules ≡ None) (sym grouped.model_is) clock;
  matched = subst (λ (x : FlatModel). unmatched rules (cell_at design cell).name x f.groups ≡ None) (sym grouped.model_is) grouped.matched;
  model_is = grouped.model_is ∙ model_is;
  pairing_is = grouped.pairing_is ∙ (pairs.is ∙ ap (λ (x : FlatModel). pairing_of design cell m x rules) (sym grouped.model_is));
  circuit_is = grouped.circuit_is ∙ ap (flat_circuit design rules cell) (sym grouped.pairing_is);
  groups_are = grouped.groups_are ∙ (ap (λ (c : Circuit). groups_of c flat) (sym grouped.circuit_is) ∙ ap (groups_of f.circuit) (sym grouped.model_is));
  roles = subst (HasRoles rules (cell_at design cell)) (sym grouped.pairing_is) (pairs.roles ruled);
  model = subst IsFlatModel (sym grouped.model_is) model;
  circuit = circuit.formed;
  flat = circuit.flat;
  groups = subst (λ (c : Circuit). AreGroups c f.groups) (sym grouped.circuit_is) grouped.groups;
}

-- the circuit of a call is the flat one
pub circuit_grouped : (design : Design) (rules : Rules) (cell : ℕ) (pairing : Pairing) (circuit : Circuit) (flat : FlatModel) (result : Result Flattened Hindrance) → IsFlatCircuit design rules cell pairing circuit
    → GroupsTell design rules cell pairing circuit flat result → CircuitGrouped design rules cell pairing flat result
circuit_grouped design rules cell pairing circuit flat (Ok f) is tells =
    (subst (IsFlatCircuit design rules cell pairing) (sym tells.circuit_is) is, subst (λ (c : Circuit). IsGrouped design rules cell pairing c flat f) is.is tells)
circuit_grouped design rules cell pairing circuit flat (Err stop) is tells =
    subst (λ (c : Circuit). Stops (IsFoundBy (group_why design rules cell c flat)) stop) is.is tells

-- with the groups all is known, or their cause is that of the cell
pub flattened_tells : (design : Design) (blif : Blif) (rules : Rules) (cell m : ℕ) (flat : FlatModel) (pairing : Pairing) (result : Result Flattened Hindrance) → paired_model design blif rules cell ≡ Model m
    → AreRules rules → IsStructured (top_before design rules cell) → too_large (model_limits blif m) ≡ None → flat ≡ flat_model_of blif m → IsFlatModel flat → IsPairing design cell m flat rules pairing
    → latch_without_clock flat rules ≡ None → CircuitGrouped design rules cell pairing flat result → FlattenedTells design blif rules cell m result
flattened_tells design blif rules cell m flat pairing (Ok f) paired ruled structured small model_is model pairs clock tells =
    flattened_by design blif rules cell m flat pairing f paired ruled small model_is model pairs clock tells.0 tells.1
flattened_tells design blif rules cell m flat pairing (Err stop) paired ruled structured small model_is model pairs clock tells =
    stops_for (IsFoundBy (group_why design rules cell (flat_circuit design rules cell pairing) flat)) (IsEarlyWhy design blif rules cell)
    (by_groups design blif rules cell m paired structured small flat model_is pairs.ports pairs.outputs clock pairing pairs.is) stop tells

-- and so it is with the places
pub placed_tells : (design : Design) (blif : Blif) (rules : Rules) (cell m : ℕ) (flat : FlatModel) (pairing : Pairing) (result : Result Placed Hindrance) → paired_model design blif rules cell ≡ Model m
    → AreRules rules → IsStructured (top_before design rules cell) → too_large (model_limits blif m) ≡ None → flat ≡ flat_model_of blif m → IsFlatModel flat → IsPairing design cell m flat rules pairing
    → latch_without_clock flat rules ≡ None → PlacedWith design rules cell pairing flat result → PlacedTells design blif rules cell m result
placed_tells design blif rules cell m flat pairing (Ok p) paired ruled structured small model_is model pairs clock tells =
    (tells.0, flattened_tells design blif rules cell m flat pairing (Ok p.flattened) paired ruled structured small model_is model pairs clock tells.1)
placed_tells design blif rules cell m flat pairing (Err stop) paired ruled structured small model_is model pairs clock tells =
    flattened_tells design blif rules cell m flat pairing (Err stop) paired ruled structured small model_is model pairs clock tells
