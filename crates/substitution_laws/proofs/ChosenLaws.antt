-- Instances that are chosen by facts are steps.
use Rattle.std.proofs.Common.{◌≡◌, ℕ, suc, ◌&&◌, true, List, ap, sym, ◌∙◌, subst}
use Rattle.std.proofs.lemmas.Bool.{and_parts}
use Rattle.replaced_instances.proofs.StepPorts.{fact_there}
use Rattle.formed_cells.proofs.FormedLaws.{supported_cells_are_formed}
use Rattle.replaced_instances.specs.Steps.{IsAllowedInstance, IsStep}
use Rattle.substitution_laws.specs.Chosen.{ChosenInstancesAreSteps, IsChoiceByFacts, IsTrial}
use Rattle.vrt_model.specs.Checked.{MayBeWhole, before, has_fact, keeps_inputs_free, names_no_global, observes_outputs}
use Rattle.vrt_model.specs.Comparison.{Comparison}
use Rattle.vrt_model.specs.Cut.{Cut, NumberedPlace, numbered_places}
use Rattle.vrt_model.specs.Lists.{At}
use Rattle.vrt_model.specs.PairedPorts.{Paired, Model, Skipped, Missing}
use Rattle.vrt_model.specs.Unsupported.{IsSupported, comparison_of}
use Rattle.vrt_model.specs.declared.blif.Blif.{Blif}
use Rattle.vrt_model.specs.declared.whole.CellFacts.{CellFacts}

pub trial_of : (cut : Cut) (blif : Blif) (facts : List CellFacts) → IsChoiceByFacts cut blif facts → IsTrial cut blif facts
trial_of cut blif facts h = record {
  netlist = h.netlist;
  read = h.read;
  told = h.told;
  tried = λ i p place chosen.
      (let there = (h.tried i p place).0 chosen in
      let may : MayBeWhole (before cut i) blif facts i p there.1.0 = there.1.1 in
      (there.0, (there.1.0, record { paired = may.paired; cell = may.cell; cared = may.cared; plain = may.plain; allowed = may.allowed })));
}

-- each instance that is tried is a step, and its cell is supported
pub tried_steps_are_chosen : (cut : Cut) (blif : Blif) (facts : List CellFacts) (i : ℕ) (p : NumberedPlace)
    → IsTrial cut blif facts → At (numbered_places cut.top) (suc i) p → cut.choice i ≡ true
    → (m : ℕ) × IsStep cut blif facts i p m × IsSupported cut.top.design blif cut.top.rules p.at.cell m
tried_steps_are_chosen cut blif facts i p h place chosen =
    let t = cut.top in
    let there = (h.tried i p place chosen).1 in
    let m = there.0 in
    let may : IsAllowedInstance (before cut i) blif facts i p m = there.1 in
    let k : Comparison = comparison_of t.design blif t.rules p.at.cell m in
    let fact = has_fact (λ (f : CellFacts). f.equal && f.stateless) facts k.cell in
    let one = and_parts (fact && names_no_global t k.cell && observes_outputs k) (keeps_inputs_free k) may.cell in
    let two = and_parts (fact && names_no_global t k.cell) (observes_outputs k) one.0 in
    let three = and_parts fact (names_no_global t k.cell) two.0 in
    let f = fact_there (λ (f : CellFacts). f.equal && f.stateless) facts k.cell three.0 in
    let told = (h.told k.cell f.0 f.1).supported (and_parts f.0.equal f.0.stateless f.2).0 in
    let model : Paired → ℕ = λ x. elim x [ Model j ↦ j | Skipped ↦ 0 | Missing ↦ 0 ] in
    let same : told.0 ≡ m = ap model (sym told.1.paired ∙ may.paired) in
    let supported : IsSupported t.design blif t.rules p.at.cell m = subst (λ (j : ℕ). IsSupported t.design blif t.rules p.at.cell j) same told.1 in (
      m,
      record {
        netlist = h.netlist;
        told = h.told;
        tried = h.tried;
        chosen = chosen;
        place = place;
        paired = may.paired;
        roles = (supported_cells_are_formed t.design blif t.rules p.at.cell m h.read supported).roles;
      },
      supported,
    )

-- so is each that is chosen
pub chosen_instances_are_steps : ChosenInstancesAreSteps
chosen_instances_are_steps cut blif facts i p h place chosen = tried_steps_are_chosen cut blif facts i p (trial_of cut blif facts h) place chosen
