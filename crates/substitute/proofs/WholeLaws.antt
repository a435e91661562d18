-- All instances tried, and the circuit of those that are chosen.
use Rattle.std.proofs.Common.{◌≡◌, ◌<◌, ℕ, zero, suc, Bool, true, false, List, [], ◌∷◌, length, Option, Some, None, arith, ap, refl, subst, sym, ◌∙◌}
use Rattle.std.specs.List.{list_any}
use Rattle.std.proofs.lemmas.Bool.{false≢true}
use Rattle.std.proofs.lemmas.Option.{slice_get_within}
use mathlib.Core.Path.{fun_ext}
use Rattle.checked_chain.proofs.EndLaws.{chain_begins_flat}
use Rattle.checked_cells.proofs.PlacesAlone.{ties_same}
use Rattle.checked_cells.specs.Given.{AreTrueFacts}
use Rattle.flatten.specs.Circuits.{IsFlatCircuit}
use Rattle.known_nets.proofs.WiredLaws.{flat_wired}
use Rattle.known_nets.specs.Wired.{IsWired}
use Rattle.net_places.specs.Links.{IsUnrolled}
use Rattle.net_places.specs.declared.places.Place.{Place}
use Rattle.net_places.specs.Whole.{whole_of}
use Rattle.whole_circuits.proofs.ChosenLaws.{all_are_decided}
use Rattle.whole_circuits.proofs.StepLaws.{by_place}
use Rattle.whole_circuits.specs.Acyclic.{AreAcyclic}
use Rattle.whole_circuits.specs.Insides.{IsCutAt}
use Rattle.whole_circuits.specs.Shown.{AreMarks, device_places}
use Rattle.whole_circuits.specs.declared.marks.Marks.{Marks}
use Rattle.whole_circuits.specs.declared.whole_cell.WholeCell.{WholeCell}
use Rattle.substitution_laws.proofs.ChainLaws.{some_place}
use Rattle.vrt_model.specs.Checked.{IsChecked, IsChoice, IsCircuitWith}
use Rattle.vrt_model.specs.Comparison.{phase_at}
use Rattle.vrt_model.specs.Cut.{Cut}
use Rattle.vrt_model.specs.FlatCircuit.{flat_circuit_of}
use Rattle.vrt_model.specs.Known.{HasArc}
use Rattle.vrt_model.specs.Lists.{Among, mark_at}
use Rattle.vrt_model.specs.Unrolled.{Top}
use Rattle.vrt_model.specs.Unsupported.{IsAcyclic, top_before}
use Rattle.vrt_model.specs.declared.blif.Blif.{Blif}
use Rattle.vrt_model.specs.declared.circuit.Circuit.{Circuit}
use Rattle.vrt_model.specs.declared.design.Design.{Design}
use Rattle.vrt_model.specs.declared.pairing.Pairing.{Pairing}
use Rattle.vrt_model.specs.declared.pairing.PortRole.{PortRole}
use Rattle.vrt_model.specs.declared.rules.Rules.{Rules}
use Rattle.vrt_model.specs.declared.whole.CellFacts.{CellFacts}
use Rattle.whole_cells.proofs.EnteredLaws.{entered_are_whole_cells}
use Rattle.whole_cells.specs.Entries.{IsEntry}
use Rattle.whole_cells.specs.Kept.{AreKept}
use Rattle.whole_cells.specs.Own.{AreFiles}
use Rattle.whole_cells.specs.declared.kept.KeptCells.{KeptCells}
use Rattle.substitute.proofs.UnderwayLaws.{count, cut_at_chosen}
use Rattle.substitute.specs.Chosen.{cut_of}
use Rattle.substitute.specs.Cycles.{IsTriedBy}
use Rattle.substitute.specs.Underway.{AreChosen, AreChosenBelow, AreTables}
use Rattle.substitute.specs.Whole.{AreEntriesOf, IsCellGround, IsWholeGround, WholeGives}
use Rattle.substitute.specs.declared.checked_circuit.CheckedCircuit.{CheckedCircuit}
use Rattle.substitute.specs.declared.choice.Chosen.{Chosen}
use Rattle.substitute.specs.declared.tables.Tables.{Tables}

-- ---- the end

module _ (asked : Bool) (t : Top) (blif : Blif) (facts : List CellFacts) (tables : Tables) (are : AreTables t blif facts tables) (chosen : Chosen)
    (all : AreChosenBelow asked t blif facts tables (length tables.unrolled.now.places) chosen) where
  abbrev cut : Cut
  cut = cut_of t chosen.whole.items

  -- the last place is that of an instance, or the cell has none
  pub last : (i : ℕ) × (length tables.unrolled.now.places ≡ suc i)
  last = by_count (length tables.unrolled.now.places) refl
    where
      by_count : (n : ℕ) → length tables.unrolled.now.places ≡ n → (i : ℕ) × (n ≡ suc i)
      by_count zero e = absurd (let some = some_place t in let as_many = count t blif facts tables are in let no : ⊥ = omega (arith, some, as_many, e) in no)
      by_count (suc i) e = (i, refl)

  pub at_end : AreChosen asked t blif facts tables last.0 chosen
  at_end = all last.0 last.1

  cut_at : IsCutAt cut tables.unrolled.now chosen.whole.items
  cut_at = cut_at_chosen asked t blif facts tables last.0 chosen at_end

  pub tried_by : (marks : Marks) → marks.whole.items ≡ chosen.whole.items → ((x : Cut) → IsCutAt x tables.unrolled.now chosen.whole.items → AreMarks x marks) → IsTriedBy cut blif facts tables marks
  tried_by marks same marks_are =
      let cells = entered_are_whole_cells cut blif facts tables.unrolled.now tables.cells.now are.entered at_end.entered in
      record {
        flat_is = are.flat_is;
        formed = are.ground.formed;
        cut_at = subst (IsCutAt cut tables.unrolled.now) (sym same) cut_at;
        marks = marks_are cut cut_at;
        places = are.owners_are;
        cells = record { phases_are = are.phases_are; cells_are = cells.cells_are };
      }

-- where cycles were asked for, the choice is that of the definition
module _ (t : Top) (blif : Blif) (facts : List CellFacts) (tables : Tables) (are : AreTables t blif facts tables) (chosen : Chosen)
    (all : AreChosenBelow true t blif facts tables (length tables.unrolled.now.places) chosen) where
  is_choice : IsChoice (cut_of t chosen.whole.items) blif facts
  is_choice =
      let end = at_end true t blif facts tables are chosen all in
      let i = last true t blif facts tables are chosen all in
      let as_many = count t blif facts tables are in
      let last_is = i.1 in
      all_are_decided (cut_of t chosen.whole.items) blif facts (λ j lt. end.decided j (omega (arith, lt, as_many, last_is)))

  pub checked_some : (circuit : Circuit) → IsCircuitWith (cut_of t chosen.whole.items) blif facts circuit → (cut : Cut) × (cut.top ≡ t) × IsChecked cut blif facts circuit
  checked_some circuit made = (cut_of t chosen.whole.items, refl, record { chosen = is_choice; circuit = made })

-- without chosen instances it is the flat circuit
pub unmarked : (marks : List Bool) → list_any (λ (mark : Bool). mark) marks ≡ false → (n : ℕ) → mark_at marks n ≡ false
unmarked [] none n = refl
unmarked (true ∷ marks) none n = absurd (false≢true (sym none))
unmarked (false ∷ marks) none zero = refl
unmarked (false ∷ marks) none (suc n) = unmarked marks none n

pub flat_with_none : (t : Top) (blif : Blif) (facts : List CellFacts) (tables : Tables) → AreTables t blif facts tables → (marks : List Bool) → list_any (λ (mark : Bool). mark) marks ≡ false
    → IsCircuitWith (cut_of t marks) blif facts tables.flat.now
flat_with_none t blif facts tables are marks none =
    let nowhere : Cut = record { top = t; choice = λ i. false } in
    let same : nowhere ≡ cut_of t marks = ap (λ (f : ℕ → Bool). let one : Cut = record { top = t; choice = f } in one) (fun_ext (λ i. sym (unmarked marks none (suc i)))) in
    subst (λ (c : Cut). IsCircuitWith c blif facts tables.flat.now) same ((chain_begins_flat nowhere blif facts tables.flat.now).1 are.flat_is)

-- ---- the flat circuit

module _ (design : Design) (blif : Blif) (rules : Rules) (cell : ℕ) (roles : List PortRole) (facts : List CellFacts) (flat : Circuit) (is : IsWholeGround design blif rules cell roles facts flat) where
  none_whole : flat.wholes ≡ []
  unfolding flat_circuit_of
  none_whole = ap (λ (x : Circuit). x.wholes) is.flat_is

  pub flat_is_wired : IsWired flat
  flat_is_wired = flat_wired flat (record { wholes = none_whole; devices = is.ground.formed.devices; holds = is.ground.formed.holds })

-- ---- where the flat circuit has cycles

module _ (t : Top) (blif : Blif) (facts : List CellFacts) (flat : Circuit) (is : IsCellGround t blif facts flat) where
  abbrev alone : Cut
  alone = record { top = t; choice = λ i. false }

  no_wholes : flat.wholes ≡ []
  unfolding flat_circuit_of
  no_wholes = ap (λ (x : Circuit). x.wholes) is.flat_is

  pub cell_is_wired : IsWired flat
  cell_is_wired = flat_wired flat (record { wholes = no_wholes; devices = is.formed.devices; holds = is.formed.holds })

  -- no instance may be left whole then
  pub checked_cyclic : ¬ AreAcyclic flat t.rules.phases → (cut : Cut) × (cut.top ≡ t) × IsChecked cut blif facts flat
  checked_cyclic around = (
    alone,
    refl,
    record {
      chosen = λ i p there. (
        λ chosen. absurd (false≢true chosen),
        λ may. absurd (around (by_place t.rules flat (λ j lt. subst (λ (c : Circuit). IsAcyclic (HasArc c (phase_at t.rules j))) (sym is.flat_is) (may.1.1.flat_acyclic j lt)))),
      );
      circuit = (chain_begins_flat alone blif facts flat).1 is.flat_is;
    },
  )

-- the ground of a cell, by its flat circuit
pub cell_ground : (design : Design) (blif : Blif) (rules : Rules) (cell : ℕ) (pairing : Pairing) (facts : List CellFacts) (flat : Circuit) → AreFiles design blif rules → cell < length design.cells
    → AreTrueFacts design blif rules facts → IsFlatCircuit design rules cell pairing flat → IsCellGround (whole_of design rules cell pairing.ports) blif facts flat
cell_ground design blif rules cell pairing facts flat files there told is = record {
  netlist = record { design = files.netlist; ordered = files.ordered; there = there; ties = ties_same (top_before design rules cell) pairing.ports ∙ is.structured.ties };
  read = record { names = files.names; models = files.models; valid = files.valid };
  told = told.told;
  formed = is.formed;
  flat_is = is.is;
}

pub ground_without : (design : Design) (blif : Blif) (rules : Rules) (cell : ℕ) (roles : List PortRole) (facts : List CellFacts) (flat : Circuit)
    → IsCellGround (whole_of design rules cell roles) blif facts flat → AreAcyclic flat rules.phases → IsWholeGround design blif rules cell roles facts flat
ground_without design blif rules cell roles facts flat is free = record {
  ground = record { netlist = is.netlist; read = is.read; told = is.told; formed = is.formed; acyclic = free };
  flat_is = is.flat_is;
}

-- ---- the tables

pub tables_of : (design : Design) (blif : Blif) (rules : Rules) (cell : ℕ) (roles : List PortRole) (facts : List CellFacts) (tables : Tables) → IsWholeGround design blif rules cell roles facts tables.flat.now
    → IsUnrolled (whole_of design rules cell roles) tables.unrolled.now → tables.phases.now ≡ rules.phases → tables.owners.now ≡ device_places (whole_of design rules cell roles)
    → AreEntriesOf design blif rules facts tables.unrolled.now.places tables.cells.now → AreTables (whole_of design rules cell roles) blif facts tables
tables_of design blif rules cell roles facts tables is unrolled phases owners entries = record {
  ground = is.ground;
  flat_is = is.flat_is;
  phases_are = sym phases;
  owners_are = owners;
  each = entries.each;
  entered = record {
    cards = is.ground.netlist.ordered.cards;
    ties = is.ground.netlist.ties;
    unrolled_is = unrolled;
    entries = λ place entry among on. entry_of entry place (entries.are place entry among on);
  };
}
  where
    -- what an entry says does not depend on the checked cell
    entry_of : (entry : Option WholeCell) (place : Place) → IsEntry (top_before design rules place.cell) blif facts place.cell entry → IsEntry (whole_of design rules cell roles) blif facts place.cell entry
    entry_of None place is = is
    entry_of (Some own) place is = record { cell = record { number = is.cell.number; paired = is.cell.paired; has = is.cell.has; drives = is.cell.drives }; allowed = is.allowed; ports = is.ports }

-- each of some cells of which an entry is made has it
pub kept_entries : (design : Design) (blif : Blif) (rules : Rules) (facts : List CellFacts) (places : List Place) (kept : KeptCells) → AreKept design blif rules facts kept
    → ((p : Place) → Among places p → p.cell < length design.cells → mark_at kept.made.items p.cell ≡ true) → AreEntriesOf design blif rules facts places kept.cells.items
kept_entries design blif rules facts places kept are made = record {
  each = are.each;
  are = λ place entry among at.
      let within = slice_get_within kept.cells.items place.cell entry at in
      let each = are.each in are.are place.cell entry at (made place among (omega (arith, within, each)));
}

-- ---- a slice of facts

-- what is found by the slice is found by the list that it shows
pub found_of_cell : (t : Top) (blif : Blif) (shown facts : List CellFacts) (flat : Circuit) (found : Option CheckedCircuit) → shown ≡ facts → IsCellGround t blif facts flat
    → (IsCellGround t blif shown flat → WholeGives t blif shown flat found) → WholeGives t blif facts flat found
found_of_cell t blif shown facts flat found same ground gives =
    subst (λ (fs : List CellFacts). WholeGives t blif fs flat found) same (gives (subst (λ (fs : List CellFacts). IsCellGround t blif fs flat) (sym same) ground))
