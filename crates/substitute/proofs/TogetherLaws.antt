-- Instances that are tried without a look at cycles.
use Rattle.std.proofs.Common.{◌≡◌, ℕ, zero, suc, Bool, true, false, List, [], ◌∷◌, length, map, Option, Some, arith, ap, refl, subst, sym, ◌∙◌}
use Rattle.std.specs.Prelude.{option_map, unwrap_or}
use Rattle.std.specs.List.{list_any}
use Rattle.std.proofs.lemmas.Bool.{false≢true}
use Rattle.std.proofs.lemmas.Option.{none-some, slice_get_within}
use Rattle.checked_chain.proofs.ChoiceLaws.{numbered_at}
use Rattle.phase_ports.specs.Ports.{unnamed}
use Rattle.phase_ports.specs.declared.port_list.Port.{Port}
use Rattle.whole_circuits.specs.Acyclic.{AreAcyclic}
use Rattle.substitution_laws.specs.Chosen.{IsTrial}
use Rattle.trial_cycles.proofs.TrialLaws.{any_allowed_are_chosen, carried_clocks_are_known}
use Rattle.trial_cycles.specs.TrialCycles.{AreClocksCarried, IsChoiceOfAllowed}
use Rattle.vrt_model.proofs.Filtered.{filter_among}
use Rattle.vrt_model.proofs.Lists.{map_among}
use Rattle.vrt_model.proofs.Members.{among_any}
use Rattle.vrt_model.specs.Checked.{IsChecked, IsCircuitWith, before}
use Rattle.vrt_model.specs.Circuits.{IsCircuit}
use Rattle.vrt_model.specs.Comparison.{CellPort, ports_of}
use Rattle.vrt_model.specs.Cut.{Cut, NumberedPlace, is_whole, numbered_places}
use Rattle.vrt_model.specs.Lists.{Among, At}
use Rattle.vrt_model.specs.PairedPorts.{Model, paired_model}
use Rattle.vrt_model.specs.Unrolled.{Top}
use Rattle.vrt_model.specs.Unsupported.{comparison_of}
use Rattle.vrt_model.specs.WholeInstances.{Pin, pins_from, pins_of}
use Rattle.vrt_model.specs.declared.blif.Blif.{Blif}
use Rattle.vrt_model.specs.declared.circuit.Circuit.{Circuit}
use Rattle.vrt_model.specs.declared.pairing.PortRole.TheVariants.{Clock}
use Rattle.vrt_model.specs.declared.rules.ClockRef.{ClockRef}
use Rattle.vrt_model.specs.declared.whole.CellFacts.{CellFacts}
use Rattle.whole_circuits.specs.declared.whole_cell.WholeCell.{WholeCell}
use Rattle.whole_cells.specs.Entries.{IsWholeEntry}
use Rattle.substitute.proofs.RightLaws.{allowed_of}
use Rattle.substitute.proofs.UnderwayLaws.{count, is_entry, place_at_number}
use Rattle.substitute.proofs.WholeLaws.{at_end, flat_with_none, last, unmarked}
use Rattle.substitute.specs.Chosen.{cut_of}
use Rattle.substitute.specs.Clocked.{carries_clock, is_clocked, is_clocked_at}
use Rattle.substitute.specs.Underway.{AreChosen, AreChosenBelow, AreTables}
use Rattle.substitute.specs.declared.choice.Chosen.{Chosen}
use Rattle.substitute.specs.declared.tables.Tables.{Tables}

-- a pin is of a port
pin_port : (ports : List CellPort) (nets : List ℕ) (i : ℕ) (pin : Pin) → At (pins_from ports nets) i pin → At ports i pin.port
pin_port [] nets i pin e = absurd (none-some pin e)
pin_port (port ∷ ports) [] i pin e = absurd (none-some pin e)
pin_port (port ∷ ports) (n ∷ nets) zero pin e = ap (λ (o : Option Pin). option_map (λ (x : Pin). x.port) o) e
pin_port (port ∷ ports) (n ∷ nets) (suc i) pin e = pin_port ports nets i pin e

module _ (t : Top) (blif : Blif) (facts : List CellFacts) (tables : Tables) (are : AreTables t blif facts tables) (tried : Chosen)
    (all : AreChosenBelow false t blif facts tables (length tables.unrolled.now.places) tried) where
  abbrev cut : Cut
  cut = cut_of t tried.whole.items

  abbrev end : AreChosen false t blif facts tables (last false t blif facts tables are tried all).0 tried
  end = at_end false t blif facts tables are tried all

  -- each is chosen exactly where it is outside whole ones and allowed
  choice : IsChoiceOfAllowed cut blif facts
  choice i p there =
      let low = slice_get_within _ (suc i) p.at (numbered_at t (suc i) p there).1 in
      let last_is = (last false t blif facts tables are tried all).1 in
      let as_many = count t blif facts tables are in
      end.decided i (omega (arith, low, last_is, as_many)) p there

  pub all_trial : IsTrial cut blif facts
  all_trial = record {
    netlist = are.ground.netlist;
    read = are.ground.read;
    told = are.ground.told;
    tried = λ i p there chosen. (choice i p there).0 chosen;
  }

  -- where none is chosen, none may be left whole
  pub tried_none : list_any (λ (mark : Bool). mark) tried.whole.items ≡ false → (x : Cut) × (x.top ≡ t) × IsChecked x blif facts tables.flat.now
  tried_none none = (
    cut,
    refl,
    record {
      chosen = λ i p there. (
        λ chosen. absurd (false≢true (sym (unmarked tried.whole.items none (suc i)) ∙ chosen)),
        λ may. (choice i p there).1 (may.0, (may.1.0, allowed_of true (before cut i) blif facts i p may.1.0 may.1.1)),
      );
      circuit = flat_with_none t blif facts tables are tried.whole.items none;
    },
  )

  -- no chosen instance is of a cell with a clock port
  module _ (unclocked : list_any (is_clocked_at tables.cells.now) tables.unrolled.now.places ≡ false) where
    by_place : (n : ℕ) (p : NumberedPlace) (m : ℕ) (pin : Pin) (clock : ClockRef) → At (numbered_places t) n p → is_whole cut.choice n ≡ true
        → paired_model t.design blif t.rules p.at.cell ≡ Model m → Among (pins_of (comparison_of t.design blif t.rules p.at.cell m) p.at) pin → pin.port.role ≡ Clock clock → ⊥
    by_place zero p m pin clock there on paired among role = false≢true on
    by_place (suc i) p m pin clock there on paired among role =
        let place = place_at_number t blif facts tables are (suc i) p there in
        let own = end.entered i place.0 on place.1 in
        let entry : IsWholeEntry t blif facts p.at.cell own.0 = is_entry t blif facts tables are (suc i) place.0 p (Some own.0) place.1 there own.1 in
        let number : entry.cell.number ≡ m = let same : Model entry.cell.number ≡ Model m = sym entry.cell.paired ∙ paired in cc in
        let port = pin_port (ports_of (comparison_of t.design blif t.rules p.at.cell m)) p.at.ports among.0 pin among.1 in
        let listed : Among own.0.ports.items (unnamed pin.port) =
        subst (λ (ps : List Port). Among ps (unnamed pin.port)) (sym (entry.cell.has.ports ∙ ap (λ (j : ℕ). map unnamed (ports_of (comparison_of t.design blif t.rules p.at.cell j))) number))
        (map_among unnamed (ports_of (comparison_of t.design blif t.rules p.at.cell m)) pin.port (among.0, port)) in
        let carries : carries_clock pin.port.role ≡ true = ap carries_clock role in
        let clocked = among_any (λ (x : Port). carries_clock x.role) own.0.ports.items (unnamed pin.port) listed carries in
        let here : is_clocked_at tables.cells.now place.0 ≡ true = ap (λ (e : Option (Option WholeCell)). unwrap_or (option_map is_clocked e) false) own.1 ∙ clocked in
        false≢true (sym unclocked ∙ among_any (is_clocked_at tables.cells.now) tables.unrolled.now.places place.0 (suc i, place.1) here)

    carried : AreClocksCarried cut blif
    carried p m pin clock on paired among role =
        let from = filter_among (λ (o : NumberedPlace). is_whole cut.choice o.number) (numbered_places t) p on in
        absurd (by_place from.0.0 p m pin clock from.0.1 (subst (λ (n : ℕ). is_whole cut.choice n ≡ true) (numbered_at t from.0.0 p from.0.1).0 from.1) paired among role)

    pub checked_tried : (circuit : Circuit) → IsCircuitWith cut blif facts circuit → AreAcyclic circuit tables.phases.now → (x : Cut) × (x.top ≡ t) × IsChecked x blif facts circuit
    checked_tried circuit made free = (
      cut,
      refl,
      record {
        chosen =
            any_allowed_are_chosen cut blif facts circuit choice
            (record {
              trial = all_trial;
              formed = subst IsCircuit are.flat_is are.ground.formed;
              circuit = made;
              clocks = λ phase lt. carried_clocks_are_known cut blif facts circuit phase made carried;
              acyclic = subst (AreAcyclic circuit) (sym are.phases_are) free;
            });
        circuit = made;
      },
    )
