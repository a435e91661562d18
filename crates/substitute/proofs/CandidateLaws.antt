-- A candidate and its tests.
use Rattle.std.proofs.Common.{◌≡◌, ℕ, suc, ◌++◌, true, false, List, Bool, subst, sym, ◌∙◌}
use Rattle.std.specs.Prelude.{◌==◌, ◌↔◌}
use Rattle.std.proofs.lemmas.Bool.{false≢true}
use Rattle.checked_chain.proofs.ChoiceLaws.{numbered_at}
use Rattle.whole_circuits.proofs.EndLaws.{levels_are}
use Rattle.whole_circuits.specs.Acyclic.{AreAcyclic}
use Rattle.whole_circuits.specs.Outputs.{AreAround, AreOpen, own_outputs}
use Rattle.whole_circuits.specs.declared.marks.Marks.{Marks}
use Rattle.whole_circuits.specs.declared.outputs.NetMarks.{NetMarks}
use Rattle.vrt_model.specs.Checked.{IsCircuitWith, with_one}
use Rattle.vrt_model.specs.CheckedParts.{checked_devices}
use Rattle.vrt_model.specs.Cut.{Cut, NumberedPlace}
use Rattle.vrt_model.specs.WholeInstances.{all_outputs}
use Rattle.vrt_model.specs.declared.blif.Blif.{Blif}
use Rattle.vrt_model.specs.declared.circuit.Circuit.{Circuit}
use Rattle.vrt_model.specs.declared.rules.Phase.{Phase}
use Rattle.vrt_model.specs.declared.whole.CellFacts.{CellFacts}
use Rattle.vrt_model.specs.declared.whole.WholePin.{WholePin}
use Rattle.substitute.proofs.ChosenLaws.{outputs_stand_apart}
use Rattle.substitute.proofs.RightLaws.{acyclic_is_chosen, closed_is_left_out, open_is_chosen}
use Rattle.substitute.proofs.SoundLaws.{open_are_allowed}
use Rattle.substitute.specs.Candidates.{IsCandidate}
use Rattle.substitute.specs.Chosen.{IsRightly}
use Rattle.substitute.specs.Cycles.{IsTriedSoundly}
use Rattle.substitute.specs.Right.{AreItsOutputsOpen}
use Rattle.substitute.specs.Trial.{AreMarksBeside}
use Rattle.substitute.specs.declared.tables.Tables.{Tables}

module _ (asked : Bool) (cut : Cut) (blif : Blif) (facts : List CellFacts) (i : ℕ) (p : NumberedPlace) (m : ℕ) (tables : Tables) (whole : List Bool) (at : ℕ) (nets : NetMarks) (pins : List WholePin)
    (is : IsCandidate asked cut blif facts i p m tables whole at nets pins) where
  pub is_around : AreAround tables.flat.now nets (checked_devices (with_one cut i)) (all_outputs cut blif facts) p.number
  is_around = record {
    held = is.held;
    levels = levels_are (with_one cut i) blif facts tables.flat.now is.next.flat_is is.ground.formed;
    counts = is.counts;
    taken = is.taken;
    apart = λ o on.
        subst (λ (n : ℕ). (o.instance == n) ≡ false) (sym (numbered_at cut.top (suc i) p is.next.place).0) (outputs_stand_apart cut blif facts i o is.next.none on);
  }

  abbrev Open : List WholePin → Type 0
  Open ps = AreOpen tables.flat.now (checked_devices (with_one cut i)) (all_outputs cut blif facts ++ own_outputs p.number ps) (own_outputs p.number ps)

  pub opened : Open pins → AreItsOutputsOpen cut blif facts i p m tables.flat.now
  opened free = subst Open is.pins_are free

  pub shut : (bare : Bool) → bare ≡ false → (bare ≡ true) ↔ Open pins → IsRightly asked cut blif facts i false
  shut bare off tells =
      closed_is_left_out asked cut blif facts i p m tables.flat.now is.next (λ free. false≢true (sym off ∙ tells.1 (subst Open (sym is.pins_are) free)))

  pub tried_soundly : Open pins → (own : Marks) → AreMarksBeside tables.unrolled.now whole at own → IsTriedSoundly (with_one cut i) blif facts tables own
  tried_soundly free own beside = record {
    by = is.by own beside;
    trial = record {
      netlist = is.ground.netlist;
      read = is.ground.read;
      told = is.ground.told;
      tried =
          open_are_allowed asked cut blif facts i p m tables.flat.now
          (record {
            none = is.next.none;
            decided = is.decided;
            place = is.next.place;
            paired = is.next.paired;
            outside = is.outside;
            cell = is.cell;
            flat_is = is.next.flat_is;
            outputs = opened free;
          });
    };
  }

  -- where cycles are not asked for, open outputs are all
  pub decides_open : asked ≡ false → Open pins → IsRightly asked cut blif facts i true
  decides_open off bare =
      subst (λ (b : Bool). IsRightly b cut blif facts i true) (sym off) (open_is_chosen cut blif facts i p m tables.flat.now is.next is.outside is.cell (opened bare))

  -- else the test of cycles decides
  pub decides : (free : Bool) → asked ≡ true → Open pins → (c : Circuit) × IsCircuitWith (with_one cut i) blif facts c × ((free ≡ true) ↔ AreAcyclic c tables.phases.now)
      → IsRightly asked cut blif facts i free
  decides free on bare made =
      subst (λ (b : Bool). IsRightly b cut blif facts i free) (sym on)
      (acyclic_is_chosen cut blif facts i p m tables.flat.now made.0 free is.next is.ground.read.valid is.outside is.cell (opened bare) is.ground.acyclic made.1 is.apart
      (subst (λ (ps : List Phase). (free ≡ true) ↔ AreAcyclic made.0 ps) (sym is.phases_are) made.2))
