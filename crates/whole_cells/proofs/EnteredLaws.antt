-- Chosen instances with entries in the table of cells.
use Rattle.std.proofs.Common.{◌≡◌, ℕ, zero, suc, ◌<◌, ◌&&◌, true, false, Bool, List, map, length, Option, Some, None, ap, refl, subst, sym, ◌∙◌}
use Rattle.std.specs.Prelude.{option_map, slice_get, unwrap_or}
use Rattle.std.proofs.lemmas.Bool.{and_parts, false≢true}
use Rattle.std.proofs.lemmas.List.{length-map}
use Rattle.checked_chain.proofs.ChoiceLaws.{numbered_at}
use Rattle.checked_chain.specs.Arcs.{AreOutputsApart}
use Rattle.std.proofs.lemmas.Option.{slice_get_within}
use Rattle.formed_cells.proofs.FormedLaws.{supported_cells_are_formed}
use Rattle.formed_cells.specs.Formed.{AreRead}
use Rattle.net_places.specs.Links.{Bare, bare, shown}
use Rattle.net_places.specs.declared.places.Place.{Place}
use Rattle.net_places.specs.declared.whole.Unrolled.{Unrolled}
use Rattle.phase_ports.specs.Ports.{unnamed}
use Rattle.phase_ports.specs.declared.port_list.Port.{Port}
use Rattle.placed_cells.proofs.TieLaws.{instances_are_tied}
use Rattle.whole_circuits.specs.WholeCells.{IsPlacedWhole, IsWholeCell}
use Rattle.whole_circuits.specs.declared.whole_cell.WholeCell.{WholeCell}
use Rattle.vrt_model.proofs.Filtered.{filter_among}
use Rattle.vrt_model.proofs.Lists.{at_there, map_at, one_at}
use Rattle.vrt_model.specs.Checked.{has_fact, keeps_inputs_free, names_no_global, observes_outputs}
use Rattle.vrt_model.specs.Comparison.{ports_of}
use Rattle.vrt_model.specs.Facts.{IsTrueOf}
use Rattle.vrt_model.specs.Cut.{Cut, NumberedPlace, is_whole, numbered_places}
use Rattle.vrt_model.specs.Lists.{At}
use Rattle.vrt_model.specs.PairedPorts.{Model, paired_model}
use Rattle.vrt_model.specs.Unrolled.{all_places}
use Rattle.vrt_model.specs.Unsupported.{IsSupported, comparison_of}
use Rattle.vrt_model.specs.declared.blif.Blif.{Blif}
use Rattle.vrt_model.specs.declared.whole.CellFacts.{CellFacts}
use Rattle.whole_cells.specs.Entered.{AreEntered, EnteredAreApart, EnteredAreWholeCells, IsEntered}
use Rattle.whole_cells.specs.Entries.{IsAllowed, IsWholeEntry}

module _ (cut : Cut) (blif : Blif) (facts : List CellFacts) (unrolled : Unrolled) (cells : List (Option WholeCell)) (is : IsEntered cut.top blif facts unrolled cells)
    (entered : AreEntered cut unrolled cells) where
  module _ (i : ℕ) (place : Place) (p : NumberedPlace) (here : At unrolled.places (suc i) place) (there : At (numbered_places cut.top) (suc i) p) (chosen : cut.choice i ≡ true) where
    at_all : At (all_places cut.top) (suc i) p.at
    at_all = (numbered_at cut.top (suc i) p there).1

    shows : shown place ≡ bare p.at
    shows =
        one_at (map bare (all_places cut.top)) (suc i) (shown place) (bare p.at)
        (subst (λ (bs : List Bare). At bs (suc i) (shown place)) is.unrolled_is.places_are (map_at shown unrolled.places (suc i) place here))
        (map_at bare (all_places cut.top) (suc i) p.at at_all)

    cell_is : place.cell ≡ p.at.cell
    cell_is = ap (λ (b : Bare). b.cell) shows

    own : (w : WholeCell) × At cells place.cell (Some w)
    own = entered i place chosen here

    entry : IsWholeEntry cut.top blif facts p.at.cell own.0
    entry = subst (λ (c : ℕ). IsWholeEntry cut.top blif facts c own.0) cell_is (is.entries place (Some own.0) (suc i, here) own.1)

    one_model : (m n : ℕ) → Model m ≡ Model n → m ≡ n
    one_model m n e = cc

    -- each port of the instance is tied to a net
    tied : (m : ℕ) → paired_model cut.top.design blif cut.top.rules p.at.cell ≡ Model m → length p.at.ports ≡ length (ports_of (comparison_of cut.top.design blif cut.top.rules p.at.cell m))
    tied m paired =
        (instances_are_tied cut.top i p.at is.cards is.ties at_all).each
        ∙ sym entry.ports
        ∙ ap (λ (ps : List Port). length ps) entry.cell.has.ports
        ∙ length-map (ports_of (comparison_of cut.top.design blif cut.top.rules p.at.cell entry.cell.number)) unnamed
        ∙ ap (λ (n : ℕ). length (ports_of (comparison_of cut.top.design blif cut.top.rules p.at.cell n))) (one_model entry.cell.number m (sym entry.cell.paired ∙ paired))

    placed : IsPlacedWhole cut.top blif p place
    placed = record { shows = shows; tied = tied }

  by_number : (n : ℕ) (place : Place) (p : NumberedPlace) → At unrolled.places n place → At (numbered_places cut.top) n p → is_whole cut.choice n ≡ true
      → (own : WholeCell) × At cells place.cell (Some own) × IsWholeCell cut.top blif facts p.at.cell own × IsPlacedWhole cut.top blif p place
  by_number zero place p here there e = absurd (false≢true e)
  by_number (suc i) place p here there e =
      let w = own i place p here there e in (w.0, w.1, (entry i place p here there e).cell, placed i place p here there e)

pub entered_are_whole_cells : EnteredAreWholeCells
entered_are_whole_cells cut blif facts unrolled cells is entered = record {
  phases_are = refl;
  cells_are = by_number cut blif facts unrolled cells is entered;
}

-- ---- outputs

-- where a test of the facts holds there is an entry
fact_of : (test : CellFacts → Bool) (facts : List CellFacts) (cell : ℕ) → has_fact test facts cell ≡ true → (f : CellFacts) × At facts cell f × (test f ≡ true)
fact_of test facts cell holds = by_option (slice_get facts cell) refl holds
  where
    by_option : (o : Option CellFacts) → slice_get facts cell ≡ o → unwrap_or (option_map test o) false ≡ true → (f : CellFacts) × At facts cell f × (test f ≡ true)
    by_option None e h = absurd (false≢true h)
    by_option (Some f) e h = (f, e, h)

module _ (cut : Cut) (blif : Blif) (facts : List CellFacts) (read : AreRead blif cut.top.rules)
    (told : (cell : ℕ) (f : CellFacts) → At facts cell f → IsTrueOf cut.top.design blif cut.top.rules cell f) where
  -- a cell whose instances may be left whole is supported
  supported_by : (cell m : ℕ) → IsAllowed cut.top blif facts cell m → (n : ℕ) × IsSupported cut.top.design blif cut.top.rules cell n
  supported_by cell m allowed =
      let k = comparison_of cut.top.design blif cut.top.rules cell m in
      let three = and_parts (has_fact (λ (f : CellFacts). f.equal && f.stateless) facts cell && names_no_global cut.top cell && observes_outputs k) (keeps_inputs_free k) allowed.0 in
      let two = and_parts (has_fact (λ (f : CellFacts). f.equal && f.stateless) facts cell && names_no_global cut.top cell) (observes_outputs k) three.0 in
      let one = and_parts (has_fact (λ (f : CellFacts). f.equal && f.stateless) facts cell) (names_no_global cut.top cell) two.0 in
      let fact = fact_of (λ (f : CellFacts). f.equal && f.stateless) facts cell one.0 in
      (told cell fact.0 fact.1).supported (and_parts fact.0.equal fact.0.stateless fact.2).0

  apart_by : (cell m : ℕ) → paired_model cut.top.design blif cut.top.rules cell ≡ Model m → IsAllowed cut.top blif facts cell m
      → AreOutputsApart (comparison_of cut.top.design blif cut.top.rules cell m)
  apart_by cell m paired allowed =
      let is = supported_by cell m allowed in
      let formed = supported_cells_are_formed cut.top.design blif cut.top.rules cell is.0 read is.1 in
      subst (λ (n : ℕ). AreOutputsApart (comparison_of cut.top.design blif cut.top.rules cell n)) (same_number is.0 m (sym is.1.paired ∙ paired)) formed.signals.one_port
    where
      same_number : (a b : ℕ) → Model a ≡ Model b → a ≡ b
      same_number a b e = cc

pub entered_are_apart : EnteredAreApart
entered_are_apart cut blif facts unrolled cells read told is entered p m on paired =
    let from = filter_among (λ (o : NumberedPlace). is_whole cut.choice o.number) (numbered_places cut.top) p on in
    let at = numbered_at cut.top from.0.0 p from.0.1 in
    by_place from.0.0 from.0.1 (subst (λ (n : ℕ). is_whole cut.choice n ≡ true) at.0 from.1)
  where
    count : length unrolled.places ≡ length (all_places cut.top)
    count = sym (length-map unrolled.places shown) ∙ ap (λ (bs : List Bare). length bs) is.unrolled_is.places_are ∙ length-map (all_places cut.top) bare

    by_place : (n : ℕ) → At (numbered_places cut.top) n p → is_whole cut.choice n ≡ true → AreOutputsApart (comparison_of cut.top.design blif cut.top.rules p.at.cell m)
    by_place zero there e = absurd (false≢true e)
    by_place (suc i) there e =
        let low = slice_get_within (all_places cut.top) (suc i) p.at (numbered_at cut.top (suc i) p there).1 in
        let place = at_there unrolled.places (suc i) (subst (λ (k : ℕ). suc i < k) (sym count) low) in
        apart_by cut blif facts read told p.at.cell m paired ((entry cut blif facts unrolled cells is entered i place.0 p place.1 there e).allowed m paired)
