use Rattle.std.proofs.Common.{Bool, List, ℕ, subst, sym, ◌∙◌}
use Rattle.whole_circuits.proofs.EndLaws.{levels_are, outputs_within}
use Rattle.whole_circuits.proofs.FlatLaws.{flat_parts}
use Rattle.whole_circuits.specs.Ends.{AreEnds, HasEnds}
use Rattle.whole_circuits.specs.Insides.{IsCutAt}
use Rattle.vrt_model.specs.CheckedParts.{checked_devices}
use Rattle.vrt_model.specs.WholeInstances.{all_outputs}
use Rattle.vrt_model.specs.declared.circuit.Device.{Device}
use Rattle.whole_circuits.proofs.assembly.circuit_with.Goals as goal

pub returns : goal.returns
returns c cut blif facts is marks flat formed places cells =
    let parts = flat_parts cut.top c.args.flat.now flat in
    let whole = subst (λ (ms : List Bool). IsCutAt cut c.args.unrolled.now ms) (sym c.as_slice-whole.ensures.value) is in
    let devices = c.in_ok-devices.ensures cut marks places (c.as_slice.ensures ∙ parts.devices) in
    let ends = c.in_ok-ends.ensures cut blif facts c.args.phases.now whole cells in
    let has : HasEnds cut blif facts c.args.flat.now c.in_ok-ends.ends = record {
      are = subst (λ (n : ℕ). AreEnds n (checked_devices cut) (all_outputs cut blif facts) c.in_ok-ends.ends) c.len-count.ensures
          (subst (λ (ds : List Device). AreEnds c.len-count.result ds (all_outputs cut blif facts) c.in_ok-ends.ends) (c.as_slice-2.ensures ∙ devices) ends);
      levels = levels_are cut blif facts c.args.flat.now flat formed;
      within = outputs_within cut blif facts c.args.flat.now flat formed;
    } in
    record {
      nets = c.in_ok-nets.ensures ∙ c.as_slice-4.ensures ∙ parts.nets;
      devices = devices;
      holds = c.in_ok-holds.ensures cut marks parts.instances parts.holds;
      instances = c.in_ok-instances.ensures cut marks (c.as_slice-3.ensures ∙ parts.instances);
      wholes = c.in_ok-wholes.ensures cut blif facts c.args.flat.now has whole cells;
      source = parts.source;
    }
