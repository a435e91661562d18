-- Instances that are tried one after the other.
use Rattle.std.proofs.Common.{◌≡◌, ℕ, zero, suc, ◌+◌, ◌*◌, ◌<◌, ◌&&◌, ◌||◌, ◌++◌, Bool, true, false, All, Global, Vec, List, [], length, map, replicate, Option, Some, None, arith, ap, ap₂, refl, subst, sym, ◌∙◌}
use Rattle.std.specs.Prelude.{◌==◌, flat_map}
use Rattle.std.specs.List.{enumerate_from}
use Rattle.std.proofs.lemmas.Bool.{and_parts, eq-eqb, eqb-true, false_from_ne_true, false≢true}
use Rattle.std.proofs.lemmas.Bool.Decides.{nat_tests}
use Rattle.std.proofs.lemmas.List.{length-map, length-replicate}
use Rattle.std.proofs.lemmas.List.FromFn.{length-enumerate_from}
use Rattle.std.proofs.lemmas.Option.{slice_get_within}
use mathlib.Core.Path.{fun_ext}
use Rattle.checked_chain.proofs.ChoiceLaws.{numbered, numbered_at}
use Rattle.checked_chain.proofs.EndLaws.{chain_begins_flat}
use Rattle.known_nets.specs.Incidence.{AreHeldMarks}
use Rattle.net_places.specs.Links.{Bare, bare, shown}
use Rattle.net_places.specs.declared.places.Place.{Place}
use Rattle.phase_ports.specs.declared.port_list.Port.{Port}
use Rattle.replaced_instances.proofs.StepPorts.{enumerated_at}
use Rattle.whole_circuits.proofs.WholeLaws.{at_ports}
use Rattle.whole_circuits.specs.Insides.{AreMarkedBefore, IsCutAt}
use Rattle.whole_circuits.specs.Counts.{AreChanged, AreCounts, channels_of}
use Rattle.whole_circuits.specs.Outputs.{output_at, own_outputs}
use Rattle.whole_circuits.specs.Pins.{AreDrivesOf, IsAtPorts}
use Rattle.whole_circuits.specs.Taken.{AreTaken, admits, taken_at}
use Rattle.whole_circuits.specs.WholeCells.{IsPlacedWhole}
use Rattle.whole_circuits.specs.declared.outputs.NetMarks.{NetMarks}
use Rattle.whole_circuits.specs.declared.taken.Taken.{Taken}
use Rattle.whole_circuits.specs.declared.taken.Taken.TheVariants.{Free}
use Rattle.whole_circuits.specs.declared.whole_cell.WholeCell.{WholeCell}
use Rattle.vrt_model.proofs.Lists.{at_there, filter_none, map_among, map_at, none_marked, one_at}
use Rattle.vrt_model.proofs.Members.{all_by, any_among}
use Rattle.vrt_model.specs.Checked.{with_one}
use Rattle.vrt_model.specs.CheckedParts.{checked_devices}
use Rattle.vrt_model.specs.Comparison.{Comparison}
use Rattle.vrt_model.specs.Cut.{Cut, NumberedPlace, is_inside, is_inside_whole, is_whole, numbered_places}
use Rattle.vrt_model.specs.Levels.{level_counts}
use Rattle.vrt_model.specs.Lists.{Among, At, mark_at}
use Rattle.vrt_model.specs.Unrolled.{Place as FlatPlace, Top, all_places}
use Rattle.vrt_model.specs.Unsupported.{comparison_of}
use Rattle.vrt_model.specs.WholeInstances.{OutputAt, all_outputs, driven_pins, outputs_of_place}
use Rattle.vrt_model.specs.declared.blif.Blif.{Blif}
use Rattle.vrt_model.specs.declared.circuit.Device.{Device}
use Rattle.vrt_model.specs.declared.ids.Net.{Net}
use Rattle.vrt_model.specs.declared.whole.CellFacts.{CellFacts}
use Rattle.vrt_model.specs.declared.whole.Drive.{Drive}
use Rattle.vrt_model.specs.declared.whole.WholePin.{WholePin}
use Rattle.whole_cells.proofs.EnteredLaws.{entered_are_apart, entered_are_whole_cells}
use Rattle.whole_cells.specs.Entered.{AreEntered}
use Rattle.whole_cells.specs.Entries.{IsEntry, IsWholeEntry}
use Rattle.substitute.proofs.ChosenLaws.{marked_is_with_one, one_more_brings_its_own, one_more_is_decided}
use Rattle.substitute.proofs.InsideLaws.{marks_stay}
use Rattle.substitute.proofs.GoneLaws.{counts_settled, counts_without}
use Rattle.substitute.proofs.RightLaws.{allowed_of, inside_is_left_out, open_of, refused_is_left_out, with_model}
use Rattle.substitute.proofs.TakenLaws.{none_taken, taken_grow}
use Rattle.substitute.specs.Candidates.{IsCandidate}
use Rattle.substitute.specs.Chosen.{IsRightly, MarksOneMore, MayBeChosen, cut_of}
use Rattle.substitute.specs.Ranges.{AreSettled, devices_gone, with_chosen}
use Rattle.substitute.specs.Right.{AreItsOutputsOpen, IsNext}
use Rattle.substitute.specs.Taken.{TakesPins}
use Rattle.substitute.specs.Underway.{AreChosen, AreChosenBy, AreCountsOf, AreReached, AreTables, HasEntry, IsNextTrial, IsOutside}
use Rattle.substitute.specs.declared.choice.Chosen.{Chosen}
use Rattle.substitute.specs.declared.tables.Tables.{Tables}

-- ---- places and entries

module _ (t : Top) (blif : Blif) (facts : List CellFacts) (tables : Tables) (are : AreTables t blif facts tables) where
  abbrev places : List Place
  places = tables.unrolled.now.places

  pub count : length places ≡ length (all_places t)
  count = sym (length-map places shown) ∙ ap (λ (bs : List Bare). length bs) are.entered.unrolled_is.places_are ∙ length-map (all_places t) bare

  pub place_there : (n : ℕ) → n < length places → (p : NumberedPlace) × At (numbered_places t) n p
  place_there n lt =
      at_there (numbered_places t) n
      (subst (λ (k : ℕ). n < k) (count ∙ sym (length-map (enumerate_from 0 (all_places t)) numbered ∙ length-enumerate_from 0 (all_places t))) lt)

  pub place_at_number : (n : ℕ) (p : NumberedPlace) → At (numbered_places t) n p → (place : Place) × At places n place
  place_at_number n p there = at_there places n (subst (λ (k : ℕ). n < k) (sym count) (slice_get_within (all_places t) n p.at (numbered_at t n p there).1))

  shows : (n : ℕ) (place : Place) (p : NumberedPlace) → At places n place → At (numbered_places t) n p → shown place ≡ bare p.at
  shows n place p here there =
      one_at (map bare (all_places t)) n (shown place) (bare p.at)
      (subst (λ (bs : List Bare). At bs n (shown place)) are.entered.unrolled_is.places_are (map_at shown places n place here))
      (map_at bare (all_places t) n p.at (numbered_at t n p there).1)

  cell_is : (n : ℕ) (place : Place) (p : NumberedPlace) → At places n place → At (numbered_places t) n p → place.cell ≡ p.at.cell
  cell_is n place p here there = ap (λ (b : Bare). b.cell) (shows n place p here there)

  -- the cell of each place has an entry
  pub entry_there : (n : ℕ) (place : Place) → At places n place → (entry : Option WholeCell) × At tables.cells.now place.cell entry
  entry_there n place here =
      let p = place_there n (slice_get_within places n place here) in
      let low = are.entered.unrolled_is.cells p.0.at (n, (numbered_at t n p.0 p.1).1) in
      at_there tables.cells.now place.cell
      (subst (λ (k : ℕ). place.cell < k) (sym are.each) (subst (λ (c : ℕ). c < length t.design.cells) (sym (cell_is n place p.0 here p.1)) low))

  pub is_entry : (n : ℕ) (place : Place) (p : NumberedPlace) (entry : Option WholeCell) → At places n place → At (numbered_places t) n p → At tables.cells.now place.cell entry
      → IsEntry t blif facts p.at.cell entry
  is_entry n place p entry here there on =
      subst (λ (c : ℕ). IsEntry t blif facts c entry) (cell_is n place p here there) (are.entered.entries place entry (n, here) on)

  -- an instance of a cell without an entry is left out
  pub without_entry : (asked : Bool) (marks : List Bool) (i : ℕ) (place : Place) → At places (suc i) place → At tables.cells.now place.cell None
      → IsRightly asked (cut_of t marks) blif facts i false
  without_entry asked marks i place here on =
      let p = place_there (suc i) (slice_get_within places (suc i) place here) in
      refused_is_left_out asked (cut_of t marks) blif facts i p.0 p.1 (is_entry (suc i) place p.0 None here p.1 on)

-- ---- one place on

pub suc_of : (n : ℕ) → 0 < n → (i : ℕ) × (n ≡ suc i)
suc_of zero lt = absurd (let no : ⊥ = omega (arith, lt) in no)
suc_of (suc i) lt = (i, refl)

or_none : (b : Bool) → (b || false) ≡ b
or_none true = refl
or_none false = refl

turned : (n i : ℕ) → (suc i == n) ≡ (n == suc i)
turned n i = grind (arith, nat_tests)

module _ (asked : Bool) (t : Top) (blif : Blif) (facts : List CellFacts) (tables : Tables) (i : ℕ) where
  -- an instance that is left out
  pub left_out : (chosen : Chosen) → AreReached asked t blif facts tables i chosen → IsRightly asked (cut_of t chosen.whole.items) blif facts i false → AreChosen asked t blif facts tables (suc i) chosen
  left_out chosen is right =
      let marks = chosen.whole.items in
      let next = one_more_is_decided asked t blif facts i marks marks false is.none (λ n. sym (or_none (mark_at marks n))) right is.decided in
      record {
        tables_are = is.tables_are;
        each = is.each;
        outermost = is.outermost;
        none = next.0;
        decided = λ j lt. next.1 j (omega (arith, lt));
        entered = is.entered;
        marked = is.marked;
        held = is.held;
        taken = is.taken;
        room = is.room;
        counted = is.counted;
      }

  -- the same marks, and the same counts at each net
  pub same_chosen : (old new : Chosen) → new.whole ≡ old.whole → new.inside ≡ old.inside → new.nets.held ≡ old.nets.held → new.nets.taken ≡ old.nets.taken
      → AreCountsOf (cut_of t old.whole.items) (length tables.flat.now.nets) new.nets.channels.items → AreChosen asked t blif facts tables i old → AreChosen asked t blif facts tables i new
  same_chosen old new whole inside held taken counted is =
      subst (λ (v : Vec Bool Global). AreChosenBy asked t blif facts tables i (suc i) v.items new.inside.items new.nets.held.items new.nets.taken.items new.nets.channels.items) (sym whole)
      (subst (λ (v : Vec Bool Global). AreChosenBy asked t blif facts tables i (suc i) old.whole.items v.items new.nets.held.items new.nets.taken.items new.nets.channels.items) (sym inside)
      (subst (λ (v : Vec Bool Global). AreChosenBy asked t blif facts tables i (suc i) old.whole.items old.inside.items v.items new.nets.taken.items new.nets.channels.items) (sym held)
      (subst (λ (v : Vec Taken Global). AreChosenBy asked t blif facts tables i (suc i) old.whole.items old.inside.items old.nets.held.items v.items new.nets.channels.items) (sym taken)
      (record {
        tables_are = is.tables_are;
        each = is.each;
        outermost = is.outermost;
        none = is.none;
        decided = is.decided;
        entered = is.entered;
        marked = is.marked;
        held = is.held;
        taken = is.taken;
        room = is.room;
        counted = counted;
      }))))

  -- the marks are those of a cut
  pub cut_at_chosen : (chosen : Chosen) → AreChosen asked t blif facts tables i chosen → IsCutAt (cut_of t chosen.whole.items) tables.unrolled.now chosen.whole.items
  cut_at_chosen chosen is = record { netlist = is.tables_are.ground.netlist.design; unrolled_is = is.tables_are.entered.unrolled_is; marks = by_number }
    where
      by_number : (n : ℕ) → mark_at chosen.whole.items n ≡ is_whole (cut_of t chosen.whole.items).choice n
      by_number zero = is.outermost
      by_number (suc j) = refl

  -- with a mark for the place of the next instance
  pub comes_to : (chosen : Chosen) (inside : List Bool) → AreChosen asked t blif facts tables i chosen
      → ((cut : Cut) → IsCutAt cut tables.unrolled.now chosen.whole.items → AreMarkedBefore cut (suc i) chosen.inside.items → AreMarkedBefore cut (suc (suc i)) inside)
      → AreChosenBy asked t blif facts tables i (suc (suc i)) chosen.whole.items inside chosen.nets.held.items chosen.nets.taken.items chosen.nets.channels.items
  comes_to chosen inside is more = record {
    tables_are = is.tables_are;
    each = is.each;
    outermost = is.outermost;
    none = is.none;
    decided = is.decided;
    entered = is.entered;
    marked = more (cut_of t chosen.whole.items) (cut_at_chosen chosen is) is.marked;
    held = is.held;
    taken = is.taken;
    room = is.room;
    counted = is.counted;
  }

  -- that mark says whether it is inside a chosen one
  pub marked_at : (chosen : Chosen) → AreReached asked t blif facts tables i chosen → (p : FlatPlace) → At (all_places t) (suc i) p → is_inside_whole (cut_of t chosen.whole.items) p ≡ mark_at chosen.inside.items (suc i)
  marked_at chosen is p there = let count = is.marked.count in sym (is.marked.are (suc i) p (omega (arith, count)) there)

  -- an instance inside a chosen one
  pub left_inside : (chosen : Chosen) → AreReached asked t blif facts tables i chosen → suc i < length tables.unrolled.now.places → mark_at chosen.inside.items (suc i) ≡ true
      → AreChosen asked t blif facts tables (suc i) chosen
  left_inside chosen is lt inside =
      let p = place_there t blif facts tables is.tables_are (suc i) lt in
      left_out chosen is (inside_is_left_out asked (cut_of t chosen.whole.items) blif facts i p.0 p.1 (marked_at chosen is p.0.at (numbered_at t (suc i) p.0 p.1).1 ∙ inside))

  -- the place that the code finds, and what the table has of its cell
  pub has_entry_there : (chosen : Chosen) (own : WholeCell) (place : Place) → AreReached asked t blif facts tables i chosen → At tables.unrolled.now.places (suc i) place
      → ((entry : Option WholeCell) → At tables.cells.now place.cell entry → Some own ≡ entry) → HasEntry asked t blif facts tables i chosen own
  has_entry_there chosen own place is here found =
      let entry = entry_there t blif facts tables is.tables_are (suc i) place here in
      record { chosen_are = is; place = place; here = here; entry = subst (At tables.cells.now place.cell) (sym (found entry.0 entry.1)) entry.1 }

  pub left_without_entry : (chosen : Chosen) (place : Place) → AreReached asked t blif facts tables i chosen → At tables.unrolled.now.places (suc i) place
      → ((entry : Option WholeCell) → At tables.cells.now place.cell entry → None ≡ entry) → AreChosen asked t blif facts tables (suc i) chosen
  left_without_entry chosen place is here found =
      let entry = entry_there t blif facts tables is.tables_are (suc i) place here in
      left_out chosen is (without_entry t blif facts tables is.tables_are asked chosen.whole.items i place here (subst (At tables.cells.now place.cell) (sym (found entry.0 entry.1)) entry.1))

  -- its output pins as the code makes them
  pub next_trial : (chosen : Chosen) (own : WholeCell) (out : IsOutside asked t blif facts tables i chosen own) (place : Place) (ports : List Port) (nets : List Net) (drives : List Drive) (made pins : List WholePin)
      → At tables.unrolled.now.places (suc i) place → ports ≡ own.ports.items → nets ≡ place.ports → drives ≡ own.drives → pins ≡ made
      → ((fs : List CellFacts) (k : Comparison) (at : FlatPlace) → IsAtPorts k at ports nets → AreDrivesOf fs at.cell drives → made ≡ driven_pins fs k at)
      → IsNextTrial asked t blif facts tables i chosen own pins
  next_trial chosen own out place ports nets drives made pins here ports_is nets_is drives_is pins_is gives =
      let same = ap (λ (x : Place). x.ports) (one_at tables.unrolled.now.places (suc i) out.has.place place out.has.here here) ∙ sym nets_is in
      record {
        is = out;
        pins_are = λ k at stand told.
            pins_is ∙ gives facts k at (subst (λ (ps : List Port). IsAtPorts k at ps nets) (sym ports_is) (subst (λ (ns : List Net). IsAtPorts k at own.ports.items ns) same stand)) (subst (AreDrivesOf facts at.cell) (sym drives_is) told);
      }

-- ---- an instance of a cell with an entry

module _ (asked : Bool) (t : Top) (blif : Blif) (facts : List CellFacts) (tables : Tables) (i : ℕ) (chosen : Chosen) (own : WholeCell) (has : HasEntry asked t blif facts tables i chosen own) where
  abbrev are : AreTables t blif facts tables
  are = has.chosen_are.tables_are

  abbrev whole : List Bool
  whole = chosen.whole.items

  abbrev old : Cut
  old = cut_of t whole

  pub numbered_here : (p : NumberedPlace) × At (numbered_places t) (suc i) p
  numbered_here = place_there t blif facts tables are (suc i) (slice_get_within tables.unrolled.now.places (suc i) has.place has.here)

  abbrev p : NumberedPlace
  p = numbered_here.0

  pub entry : IsWholeEntry t blif facts p.at.cell own
  entry = is_entry t blif facts tables are (suc i) has.place p (Some own) has.here numbered_here.1 has.entry

  abbrev pub model : ℕ
  model = entry.cell.number

  abbrev k : Comparison
  k = comparison_of t.design blif t.rules p.at.cell model

  next : IsNext old blif i p model tables.flat.now
  next = record { none = has.chosen_are.none; place = numbered_here.1; paired = entry.cell.paired; flat_is = are.flat_is }

  -- with it, each chosen instance has an entry
  abbrev one : Cut
  one = with_one old i

  entered : AreEntered one tables.unrolled.now tables.cells.now
  entered j place on here = by_mark (mark_at whole (suc j)) refl
    where
      by_mark : (b : Bool) → mark_at whole (suc j) ≡ b → (o : WholeCell) × At tables.cells.now place.cell (Some o)
      by_mark true e = has.chosen_are.entered j place e here
      by_mark false e =
          let same = eqb-true i j (sym (ap (λ (b : Bool). b || (i == j)) e) ∙ on) in
          let here_too : At tables.unrolled.now.places (suc i) place = subst (λ (n : ℕ). At tables.unrolled.now.places (suc n) place) (sym same) here in
          let place_is = one_at tables.unrolled.now.places (suc i) has.place place has.here here_too in
          (own, subst (λ (x : Place). At tables.cells.now x.cell (Some own)) place_is has.entry)

  or_on : (b c : Bool) → c ≡ true → (b || c) ≡ true
  or_on true c e = refl
  or_on false c e = e

  placed : IsPlacedWhole t blif p has.place
  placed =
      let found = (entered_are_whole_cells one blif facts tables.unrolled.now tables.cells.now are.entered entered).cells_are (suc i) has.place p has.here numbered_here.1
      (or_on (mark_at whole (suc i)) (i == i) (eq-eqb i i refl)) in
      found.3

  -- its output pins are those that the code makes
  pub pins_are : (pins : List WholePin) → ((x : Comparison) (at : FlatPlace) → IsAtPorts x at own.ports.items has.place.ports → AreDrivesOf facts at.cell own.drives → pins ≡ driven_pins facts x at)
      → pins ≡ driven_pins facts k p.at
  pins_are pins made = made k p.at (at_ports one blif facts p own entry.cell has.place placed) entry.cell.drives

  -- they are at nets of the circuit, where it is rightly chosen
  pub pins_within : (pins : List WholePin) → pins ≡ driven_pins facts k p.at → IsRightly asked old blif facts i true → All (λ (q : WholePin). q.net.0 < length chosen.nets.taken.items) pins
  pins_within pins same right = all_by (λ (q : WholePin). q.net.0 < length chosen.nets.taken.items) pins within
    where
      found : (is_inside_whole old p.at ≡ false) × ((m : ℕ) × MayBeChosen asked old blif facts i p m)
      found = (right p numbered_here.1).0 refl

      opened : AreItsOutputsOpen old blif facts i p model tables.flat.now
      opened =
          open_of old blif facts i p model tables.flat.now next
          (with_model old blif facts i p model tables.flat.now next found.1.0 (allowed_of asked old blif facts i p found.1.0 found.1.1))

      within : (q : WholePin) → Among pins q → q.net.0 < length chosen.nets.taken.items
      within q on =
          let there : At (driven_pins facts k p.at) on.0 q = subst (λ (ps : List WholePin). At ps on.0 q) same on.1 in
          let listed : Among (own_outputs p.number (driven_pins facts k p.at)) (output_at p.number (0 + on.0, q)) =
          map_among (output_at p.number) (enumerate_from 0 (driven_pins facts k p.at)) (0 + on.0, q) (on.0, enumerated_at 0 (driven_pins facts k p.at) on.0 q there) in
          let plain = (opened.plain (output_at p.number (0 + on.0, q)) listed).0 in
          subst (λ (n : ℕ). q.net.0 < n) (sym has.chosen_are.room) (slice_get_within tables.flat.now.nets q.net.0 plain.0 plain.1)

  -- marks with that of the instance
  module _ (marks : List Bool) (more : (n : ℕ) → mark_at marks n ≡ (mark_at whole n || (suc i == n))) where
    one_more : MarksOneMore whole marks i true
    one_more n = more n ∙ ap (λ (b : Bool). mark_at whole n || b) (turned n i)

    outermost : mark_at marks 0 ≡ false
    outermost =
        let off : (suc i == 0) ≡ false = grind (arith, nat_tests) in more 0 ∙ ap (λ (b : Bool). mark_at whole 0 || b) off ∙ or_none (mark_at whole 0) ∙ has.chosen_are.outermost

    cut_at : IsCutAt one tables.unrolled.now marks
    cut_at = record { netlist = are.ground.netlist.design; unrolled_is = are.entered.unrolled_is; marks = by_number }
      where
        by_number : (n : ℕ) → mark_at marks n ≡ is_whole one.choice n
        by_number zero = outermost
        by_number (suc j) = let same : (suc i == suc j) ≡ (i == j) = grind (arith, nat_tests) in more (suc j) ∙ ap (λ (b : Bool). mark_at whole (suc j) || b) same

    now_is : cut_of t marks ≡ one
    now_is = marked_is_with_one t i whole marks one_more

    -- the outputs of the chosen ones, with its own
    outputs_now : (pins : List WholePin) → pins ≡ driven_pins facts k p.at → (all_outputs old blif facts ++ own_outputs p.number pins) ≡ all_outputs (cut_of t marks) blif facts
    outputs_now pins same =
        ap (λ (ps : List WholePin). all_outputs old blif facts ++ own_outputs p.number ps) same
        ∙ sym (one_more_brings_its_own old blif facts i model p has.chosen_are.none numbered_here.1 entry.cell.paired)
        ∙ ap (λ (c : Cut). all_outputs c blif facts) (sym now_is)

    -- where it is chosen
    pub chosen_one : (pins : List WholePin) (inside held : List Bool) (taken : List Taken) (counts : List ℕ) → length marks ≡ length whole → IsRightly asked old blif facts i true → pins ≡ driven_pins facts k p.at
        → inside ≡ chosen.inside.items → held ≡ chosen.nets.held.items → length taken ≡ length chosen.nets.taken.items
        → TakesPins pins chosen.nets.taken.items taken → AreCountsOf one (length tables.flat.now.nets) counts
        → AreChosenBy asked t blif facts tables (suc i) (suc (suc i)) marks inside held taken counts
    chosen_one pins inside held taken counts each right pins_same inside_same held_same room taken_more counted =
        let later = one_more_is_decided asked t blif facts i whole marks true has.chosen_are.none one_more right has.chosen_are.decided in
        record {
          tables_are = are;
          each = each ∙ has.chosen_are.each;
          outermost = outermost;
          none = later.0;
          decided = λ j lt. later.1 j (omega (arith, lt));
          entered = subst (λ (c : Cut). AreEntered c tables.unrolled.now tables.cells.now) (sym now_is) entered;
          marked =
              subst (λ (c : Cut). AreMarkedBefore c (suc (suc i)) inside) (sym now_is)
              (marks_stay old i inside are.ground.netlist.design (subst (AreMarkedBefore old (suc (suc i))) (sym inside_same) has.chosen_are.marked));
          held = subst (AreHeldMarks tables.flat.now) (sym held_same) has.chosen_are.held;
          taken =
              subst (λ (os : List OutputAt). AreTaken os taken) (outputs_now pins pins_same)
              (taken_grow (all_outputs old blif facts) p.number pins chosen.nets.taken.items taken has.chosen_are.taken taken_more);
          room = room ∙ has.chosen_are.room;
          counted = subst (λ (c : Cut). AreCountsOf c (length tables.flat.now.nets) counts) (sym now_is) counted;
        }

  -- the channels that are not inside it
  module _ (outside : (q : FlatPlace) → At (all_places t) (suc i) q → is_inside_whole old q ≡ false) where
    p_outside : is_inside_whole old p.at ≡ false
    p_outside = outside p.at (numbered_at t (suc i) p numbered_here.1).1

    pub without : (new : List ℕ) → length new ≡ length chosen.nets.channels.items
        → AreChanged false (λ n k. length (channels_of k (devices_gone t i) n)) chosen.nets.channels.items new → AreCountsOf one (length tables.flat.now.nets) new
    without new each fewer =
        counts_without old i p are.ground.netlist.design has.chosen_are.none numbered_here.1 p_outside (length tables.flat.now.nets) chosen.nets.channels.items new has.chosen_are.counted each fewer

    pub settled : (right : Bool) (less new : List ℕ) → AreCountsOf one (length tables.flat.now.nets) less → length new ≡ length less
        → AreSettled right (devices_gone t i) less new → AreCountsOf (with_chosen right old i) (length tables.flat.now.nets) new
    settled right less new counted each is =
        counts_settled old i p are.ground.netlist.design has.chosen_are.none numbered_here.1 p_outside (length tables.flat.now.nets) right less new counted each is

    -- what is asked of a candidate
    pub candidate : (pins : List WholePin) (marks : List Bool) (nets : NetMarks) (at : ℕ) → at ≡ suc i → marks ≡ whole → nets.held.items ≡ chosen.nets.held.items → nets.taken.items ≡ chosen.nets.taken.items
        → AreCountsOf one (length tables.flat.now.nets) nets.channels.items → pins ≡ driven_pins facts k p.at → IsCandidate asked old blif facts i p model tables marks at nets pins
    candidate pins marks nets at at_is marks_same held_same taken_same counted pins_same =
        let cells = entered_are_whole_cells one blif facts tables.unrolled.now tables.cells.now are.entered entered in
        record {
          ground = are.ground;
          phases_are = are.phases_are;
          next = next;
          decided = has.chosen_are.decided;
          outside = p_outside;
          cell = entry.allowed model entry.cell.paired;
          by = λ own beside.
              (let there = cut_at own.whole.items (λ n. beside.one_more n ∙ ap₂ (λ (l : List Bool) (a : ℕ). mark_at l n || (a == n)) marks_same at_is) in
              record {
                flat_is = are.flat_is;
                formed = are.ground.formed;
                cut_at = there;
                marks = beside.are one there;
                places = are.owners_are;
                cells = record { phases_are = are.phases_are; cells_are = cells.cells_are };
              });
          apart = entered_are_apart one blif facts tables.unrolled.now tables.cells.now are.ground.read are.ground.told are.entered entered;
          held = subst (AreHeldMarks tables.flat.now) (sym held_same) has.chosen_are.held;
          counts = counted.are;
          taken = subst (AreTaken (all_outputs old blif facts)) (sym taken_same) has.chosen_are.taken;
          pins_are = pins_same;
        }

-- ---- as the code tries it

module _ (asked : Bool) (t : Top) (blif : Blif) (facts : List CellFacts) (tables : Tables) (i : ℕ) (chosen : Chosen) (own : WholeCell) (pins : List WholePin)
    (trial : IsNextTrial asked t blif facts tables i chosen own pins) (at : ℕ) (at_is : at ≡ suc i) where
  abbrev has_entry : HasEntry asked t blif facts tables i chosen own
  has_entry = trial.is.has

  abbrev pub place_of_trial : NumberedPlace
  place_of_trial = (numbered_here asked t blif facts tables i chosen own has_entry).0

  abbrev pub model_of_trial : ℕ
  model_of_trial = model asked t blif facts tables i chosen own has_entry

  pins_same : pins ≡ driven_pins facts (comparison_of t.design blif t.rules place_of_trial.at.cell model_of_trial) place_of_trial.at
  pins_same = pins_are asked t blif facts tables i chosen own has_entry pins trial.pins_are

  module _ (marks : List Bool) (more : (n : ℕ) → mark_at marks n ≡ (mark_at chosen.whole.items n || (at == n))) where
    more_here : (n : ℕ) → mark_at marks n ≡ (mark_at chosen.whole.items n || (suc i == n))
    more_here n = more n ∙ ap (λ (a : ℕ). mark_at chosen.whole.items n || (a == n)) at_is

    pub trial_chosen : (inside held : List Bool) (taken : List Taken) (counts : List ℕ) → length marks ≡ length chosen.whole.items → IsRightly asked (cut_of t chosen.whole.items) blif facts i true
        → inside ≡ chosen.inside.items → held ≡ chosen.nets.held.items → length taken ≡ length chosen.nets.taken.items
        → TakesPins pins chosen.nets.taken.items taken
        → AreCountsOf (with_one (cut_of t chosen.whole.items) i) (length tables.flat.now.nets) counts
        → AreChosenBy asked t blif facts tables (suc i) (suc (suc i)) marks inside held taken counts
    trial_chosen inside held taken counts each right inside_same held_same room taken_more counted =
        chosen_one asked t blif facts tables i chosen own has_entry marks more_here pins inside held taken counts each right pins_same inside_same held_same room taken_more counted

  pub trial_without : (new : List ℕ) → length new ≡ length chosen.nets.channels.items
      → AreChanged false (λ n k. length (channels_of k (devices_gone t i) n)) chosen.nets.channels.items new → AreCountsOf (with_one (cut_of t chosen.whole.items) i) (length tables.flat.now.nets) new
  trial_without = without asked t blif facts tables i chosen own has_entry trial.is.outside

  pub trial_settled : (right : Bool) (less new : List ℕ) → AreCountsOf (with_one (cut_of t chosen.whole.items) i) (length tables.flat.now.nets) less → length new ≡ length less
      → AreSettled right (devices_gone t i) less new → AreCountsOf (with_chosen right (cut_of t chosen.whole.items) i) (length tables.flat.now.nets) new
  trial_settled = settled asked t blif facts tables i chosen own has_entry trial.is.outside

  pub trial_candidate : (marks : List Bool) (nets : NetMarks) → marks ≡ chosen.whole.items → nets.held.items ≡ chosen.nets.held.items → nets.taken.items ≡ chosen.nets.taken.items
      → AreCountsOf (with_one (cut_of t chosen.whole.items) i) (length tables.flat.now.nets) nets.channels.items
      → IsCandidate asked (cut_of t chosen.whole.items) blif facts i place_of_trial model_of_trial tables marks at nets pins
  trial_candidate marks nets marks_same held_same taken_same counted =
      candidate asked t blif facts tables i chosen own has_entry trial.is.outside pins marks nets at at_is marks_same held_same taken_same counted pins_same

  pub trial_within : IsRightly asked (cut_of t chosen.whole.items) blif facts i true → All (λ (q : WholePin). q.net.0 < length chosen.nets.taken.items) pins
  trial_within right = pins_within asked t blif facts tables i chosen own has_entry pins pins_same right

-- ---- the first

module _ (asked : Bool) (t : Top) (blif : Blif) (facts : List CellFacts) (tables : Tables) (are : AreTables t blif facts tables) where
  abbrev nowhere : ℕ → List Bool
  nowhere n = replicate n false

  none_whole : (n j : ℕ) → is_whole (cut_of t (nowhere n)).choice j ≡ false
  none_whole n zero = refl
  none_whole n (suc j) = none_marked n (suc j)

  pub none_chosen : (whole inside held : List Bool) (taken : List Taken) (counts : List ℕ) → whole ≡ nowhere (length tables.unrolled.now.places) → inside ≡ nowhere 1 → AreHeldMarks tables.flat.now held
      → taken ≡ replicate (length tables.flat.now.nets) Free → length counts ≡ level_counts * length tables.flat.now.nets → AreCounts (length tables.flat.now.nets) tables.flat.now.devices counts
      → AreChosenBy asked t blif facts tables 0 1 whole inside held taken counts
  none_chosen whole inside held taken counts whole_is inside_is held_are taken_is each counts_are =
      let n = length tables.unrolled.now.places in
      subst (λ (l : List Bool). AreChosenBy asked t blif facts tables 0 1 l inside held taken counts) (sym whole_is)
      (record {
        tables_are = are;
        each = length-replicate n false;
        outermost = none_marked n 0;
        none = λ j le. none_marked n (suc j);
        decided = λ j lt. absurd (let no : ⊥ = omega (arith, lt) in no);
        entered = λ j place on here. absurd (false≢true (sym (none_marked n (suc j)) ∙ on));
        marked = record {
          count = ap (λ (l : List Bool). length l) inside_is ∙ length-replicate 1 false;
          are = λ m at lt there. ap (λ (l : List Bool). mark_at l m) inside_is ∙ none_marked 1 m ∙ sym (none_inside n at);
        };
        held = held_are;
        taken = subst (λ (os : List OutputAt). AreTaken os taken) (sym (no_outputs n)) (λ m drive. ap (λ (l : List Taken). admits (taken_at l m) drive) taken_is ∙ ap (λ (x : Taken). admits x drive) (none_taken (length tables.flat.now.nets) m));
        room = ap (λ (l : List Taken). length l) taken_is ∙ length-replicate (length tables.flat.now.nets) Free;
        counted = record { each = each; are = subst (λ (ds : List Device). AreCounts (length tables.flat.now.nets) ds counts) (all_shown n) counts_are };
      })
    where
      -- all devices are shown
      all_shown : (n : ℕ) → tables.flat.now.devices ≡ checked_devices (cut_of t (nowhere n))
      all_shown n =
          let no : Cut = record { top = t; choice = λ i. false } in
          ((chain_begins_flat no blif facts tables.flat.now).1 are.flat_is).devices
          ∙ ap (λ (f : ℕ → Bool). checked_devices (record { top = t; choice = f })) (fun_ext (λ i. sym (none_marked n (suc i))))

      none_inside : (n : ℕ) (at : FlatPlace) → is_inside_whole (cut_of t (nowhere n)) at ≡ false
      none_inside n at =
          false_from_ne_true (is_inside_whole (cut_of t (nowhere n)) at) (λ e.
          let w = any_among (λ (o : NumberedPlace). is_whole (cut_of t (nowhere n)).choice o.number && is_inside at o.at) (numbered_places t) e in
          let on = (and_parts (is_whole (cut_of t (nowhere n)).choice w.0.number) (is_inside at w.0.at) w.2).0 in
          false≢true (sym (none_whole n w.0.number) ∙ on))

      no_outputs : (n : ℕ) → all_outputs (cut_of t (nowhere n)) blif facts ≡ []
      no_outputs n =
          ap (flat_map (outputs_of_place t blif facts))
          (filter_none (λ (o : NumberedPlace). is_whole (cut_of t (nowhere n)).choice o.number) (numbered_places t) (λ o. none_whole n o.number))
