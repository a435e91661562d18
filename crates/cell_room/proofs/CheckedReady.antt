-- A circuit that shares nets, holds and groups with that of a comparison is looked through as this one is.
use Rattle.std.proofs.Common.{ℕ, ◌<◌, List, length, sym, subst}
use Rattle.std.specs.Prelude.{◌≤◌, All, sum_by}
use Rattle.cell_room.specs.Checked.{over}
use Rattle.checked_cells.specs.Circuits.{SharesCircuit}
use Rattle.circuit_faults.specs.Wholes.{HasSoundWholes}
use Rattle.hold_groups.specs.Grouped.{AreGroups}
use Rattle.phase_terms.specs.Ready.{HasPairedInputs, IsNamedInstance, IsReady}
use Rattle.vrt_model.proofs.Members.{all_among, all_by}
use Rattle.vrt_model.specs.Circuits.{IsCircuit}
use Rattle.vrt_model.specs.Comparison.{Comparison, cell_at, is_observed, phase_at, port_nets}
use Rattle.vrt_model.specs.Lists.{Among, At}
use Rattle.vrt_model.specs.declared.circuit.Circuit.{Circuit}
use Rattle.vrt_model.specs.declared.circuit.FlatInstance.{FlatInstance}
use Rattle.vrt_model.specs.declared.circuit.FlatNet.{FlatNet}
use Rattle.vrt_model.specs.declared.groups.Group.{Group}

module _ (k : Comparison) (c : Circuit) (ready : IsReady k) (shares : SharesCircuit k c) where
  inputs_over : HasPairedInputs (over k c)
  inputs_over =
      let is = ready.inputs in
      record {
        all = is.all;
        clocked = is.clocked;
        tied = is.tied;
        nets = λ t on. (let net = is.nets t on in (net.0, subst (λ (nets : List FlatNet). At nets t.net net.0) (sym shares.nets) net.1, net.2));
        below = is.below;
        apart = is.apart;
        one_net = is.one_net;
        one_clock = is.one_clock;
      }

  groups_over : AreGroups c k.groups
  groups_over =
      let is = ready.groups in
      record {
        some = λ hold lt. is.some hold (subst (λ (n : ℕ). hold < n) shares.holds lt);
        once = is.once;
        count = subst (λ (n : ℕ). sum_by (λ (g : Group). length g.members) k.groups ≤ n) (sym shares.holds) is.count;
      }

  instance_over : (i : FlatInstance) → Among c.instances i → IsNamedInstance (over k c) i
  instance_over i on =
      let is = all_among (IsNamedInstance k) k.circuit.instances i ready.instances (shares.instances i on) in
      record { ports = is.ports; apart = is.apart; named = is.named }

  -- its whole instances are sound
  pub ready_over : IsCircuit c → ((phase : ℕ) → phase < length k.rules.phases → HasSoundWholes c (phase_at k.rules phase) (is_observed (over k c) phase)) → IsReady (over k c)
  ready_over circuit wholes = record {
    rules = ready.rules;
    cell = ready.cell;
    circuit = circuit;
    wholes = wholes;
    model = ready.model;
    dontcares = ready.dontcares;
    roles = ready.roles;
    ports = subst (λ (nets : List FlatNet). All (λ (net : ℕ). net < length nets) (port_nets k.rules (cell_at k.design k.cell).ports)) (sym shares.nets) ready.ports;
    outputs = ready.outputs;
    inputs = inputs_over;
    groups = groups_over;
    elements = ready.elements;
    instances = all_by (IsNamedInstance (over k c)) c.instances instance_over;
  }
