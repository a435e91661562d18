-- Where no instance may be left whole, the checked circuit is the flat one.
use Rattle.std.proofs.Common.{◌≡◌, ℕ, suc, ◌&&◌, true, false, List, drop, refl, ap, sym, ◌∙◌}
use Rattle.std.specs.List.{list_any}
use Rattle.std.proofs.lemmas.Bool.{and_parts, false≢true}
use Rattle.checked_cells.specs.Given.{NothingIsWhole, is_candidate}
use Rattle.checked_chain.proofs.ChoiceLaws.{numbered_at}
use Rattle.checked_chain.proofs.EndLaws.{chain_begins_flat}
use Rattle.replaced_instances.proofs.StepInstances.{front_of}
use Rattle.vrt_model.proofs.Lists.{map_among}
use Rattle.vrt_model.proofs.Members.{among_any}
use Rattle.vrt_model.specs.Checked.{IsChoice, MayBeWhole, before, has_fact, keeps_inputs_free, names_no_global, observes_outputs, top_of}
use Rattle.vrt_model.specs.Comparison.{Comparison}
use Rattle.vrt_model.specs.Cut.{Cut, NumberedPlace, numbered_places}
use Rattle.vrt_model.specs.FlatCircuit.{flat_circuit_of, flat_instance}
use Rattle.vrt_model.specs.Lists.{Among, At}
use Rattle.vrt_model.specs.Unrolled.{Top, all_places}
use Rattle.vrt_model.specs.Unsupported.{comparison_of}
use Rattle.vrt_model.specs.declared.blif.Blif.{Blif}
use Rattle.vrt_model.specs.declared.circuit.Circuit.{Circuit}
use Rattle.vrt_model.specs.declared.whole.CellFacts.{CellFacts}

module _ (t : Top) (blif : Blif) (facts : List CellFacts) where
  -- no instance is chosen
  abbrev none : Cut
  none = record { top = t; choice = λ i. false }

  -- a cell that allows to be left whole is known as equal and stateless
  known : (i : ℕ) (p : NumberedPlace) (m : ℕ) → MayBeWhole (before none i) blif facts i p m → has_fact (λ (f : CellFacts). f.equal && f.stateless) facts p.at.cell ≡ true
  known i p m may =
      let k : Comparison = comparison_of t.design blif t.rules p.at.cell m in
      let fact = has_fact (λ (f : CellFacts). f.equal && f.stateless) facts k.cell in
      let one = and_parts (fact && names_no_global t k.cell && observes_outputs k) (keeps_inputs_free k) may.cell in
      let two = and_parts (fact && names_no_global t k.cell) (observes_outputs k) one.0 in
      (and_parts fact (names_no_global t k.cell) two.0).0

  instance_there : (i : ℕ) (p : NumberedPlace) → At (numbered_places t) (suc i) p → Among (flat_circuit_of t).instances (flat_instance p.at)
  unfolding flat_circuit_of
  instance_there i p place = map_among flat_instance (drop 1 (all_places t)) p.at (i, front_of (all_places t) i p.at (numbered_at t (suc i) p place).1)

  chosen_none : list_any (is_candidate facts) (flat_circuit_of t).instances ≡ false → IsChoice none blif facts
  chosen_none no_more i p place = (
    λ chosen. absurd (false≢true chosen),
    λ may. absurd (false≢true (sym no_more ∙ among_any (is_candidate facts) (flat_circuit_of t).instances (flat_instance p.at) (instance_there i p place) (known i p may.1.0 may.1.1))),
  )

pub nothing_is_whole : NothingIsWhole
nothing_is_whole k blif facts flat no_more =
    let t : Top = top_of k in (
      none t blif facts,
      refl,
      record {
        chosen = chosen_none t blif facts (sym (ap (λ (x : Circuit). list_any (is_candidate facts) x.instances) flat) ∙ no_more);
        circuit = (chain_begins_flat (none t blif facts) blif facts k.circuit).1 flat;
      },
    )
