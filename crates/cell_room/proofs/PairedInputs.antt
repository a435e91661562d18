-- The nets of a cell that pairs with a model, and the inputs of the model that are paired with its ports.
use Rattle.std.proofs.Common.{◌≡◌, ℕ, suc, ◌+◌, ◌<◌, List, ◌++◌, map, length, Some, None, arith, ap, subst, sym, ◌∙◌, inl, inr}
use Rattle.std.specs.Prelude.{flat_map, slice_get}
use Rattle.cell_room.specs.Compared.{comparison}
use Rattle.cell_room.specs.Flat.{Flattened}
use Rattle.paired_ports.proofs.PortLists.{port_flat, port_placed}
use Rattle.paired_ports.proofs.PortSignals.{IsPortOf, clocked_apart, clocked_there, input_paired, one_clock, one_net, output_there, port_of, tied_back}
use Rattle.paired_ports.proofs.RoleLaws.{IsFreePairing, free_pairing}
use Rattle.phase_terms.specs.Ready.{HasPairedInputs}
use Rattle.vrt_model.proofs.Lists.{at_front}
use Rattle.vrt_model.proofs.Members.{all_among, among_either}
use Rattle.vrt_model.specs.Assignment.{Tied}
use Rattle.vrt_model.specs.CellRules.{supply_of}
use Rattle.vrt_model.specs.Comparison.{CellPort, Comparison, cell_at, output_signal, ports_of, tied_inputs}
use Rattle.vrt_model.specs.FlatCircuit.{flat_circuit, flat_circuit_of, flat_nets, kind_by, own_flat_nets, plain_net, port_nets_of}
use Rattle.vrt_model.specs.FlatModels.{IsFlatModel}
use Rattle.vrt_model.specs.Lists.{Among, At}
use Rattle.vrt_model.specs.PairedPorts.{output_is_input, pairing_of, ports_fault}
use Rattle.vrt_model.specs.Unrolled.{Top, all_places, globals_of}
use Rattle.vrt_model.specs.declared.circuit.Circuit.{Circuit}
use Rattle.vrt_model.specs.declared.circuit.FlatNet.{FlatNet}
use Rattle.vrt_model.specs.declared.circuit.NetKind.TheVariants.{Input as InputNet}
use Rattle.vrt_model.specs.declared.design.Design.{Design}
use Rattle.vrt_model.specs.declared.pairing.PortRole.{PortRole}
use Rattle.vrt_model.specs.declared.rules.Rules.{Rules}

-- the nets of the flat circuit
pub circuit_nets : (design : Design) (cell : ℕ) (f : Flattened) (rules : Rules) → f.circuit ≡ flat_circuit design rules cell f.pairing
    → f.circuit.nets ≡ flat_nets (record { design = design; rules = rules; cell = cell; roles = f.pairing.ports })
unfolding flat_circuit_of
circuit_nets design cell f rules e = ap (λ (c : Circuit). c.nets) e

module _ (design : Design) (rules : Rules) (cell m : ℕ) (f : Flattened) (ports_free : ports_fault design cell f.model rules ≡ None) (output_free : output_is_input f.model ≡ None)
    (pairing_is : f.pairing ≡ pairing_of design cell m f.model rules) (circuit_is : f.circuit ≡ flat_circuit design rules cell f.pairing) where
  -- what is compared
  abbrev k : Comparison
  k = comparison design rules cell f

  -- the names of the ports
  abbrev names : List (List ℕ)
  names = (cell_at design cell).ports

  -- nothing is in the way of the pairing
  paired : IsFreePairing f.model rules (cell_at design cell) f.pairing
  paired = free_pairing design cell m f.model rules f.pairing (record { ports = ports_free; outputs = output_free }) pairing_is

  -- ---- nets

  -- the cell with the roles of its ports
  abbrev top : Top
  top = record { design = design; rules = rules; cell = cell; roles = f.pairing.ports }

  -- the flat nets of the ports
  abbrev port_flats : List FlatNet
  port_flats = port_nets_of rules names f.pairing.ports

  -- a flat net of a port stands behind the two supplies
  in_nets : (n : ℕ) (net : FlatNet) → At (port_nets_of rules (cell_at design cell).ports f.pairing.ports) n net → At f.circuit.nets (suc (suc n)) net
  in_nets n net here =
      let left = at_front port_flats (map plain_net (globals_of top)) n net here in
      let more = at_front (port_flats ++ map plain_net (globals_of top)) (flat_map (own_flat_nets top) (all_places top)) n net left in
      subst (λ (nets : List FlatNet). At nets (suc (suc n)) net) (sym (circuit_nets design cell f rules circuit_is)) more

  -- the net of a port that is no supply has the kind of its role
  port_net : (at : ℕ) (port : CellPort) → IsPortOf k paired at port → supply_of rules port.name ≡ None
      → (net : FlatNet) × At f.circuit.nets port.net net × (net.kind ≡ kind_by (Some port.role))
  port_net at port is plain =
      let placed = port_placed rules names f.pairing.ports 2 at port.net port.name plain is.name is.net in
      let number : port.net ≡ 2 + placed.place = placed.is in
      let same : suc (suc placed.place) ≡ port.net = omega (arith, number) in (
        port_flat port.name (slice_get f.pairing.ports at),
        subst (λ (n : ℕ). At f.circuit.nets n (port_flat port.name (slice_get f.pairing.ports at))) same (in_nets placed.place (port_flat port.name (slice_get f.pairing.ports at)) placed.there),
        ap kind_by is.role,
      )

  -- what is tied is so to an input net
  tied_net : (t : Tied) → Among (tied_inputs (comparison design rules cell f)) t → (net : FlatNet) × At f.circuit.nets t.net net × (net.kind ≡ InputNet)
  tied_net t a =
      let x = tied_back k paired t a in
      let n = port_net x.at x.port x.is x.input.plain in
      (n.0, subst (λ (i : ℕ). At f.circuit.nets i n.0) x.net n.1, n.2 ∙ ap (λ (r : PortRole). kind_by (Some r)) x.kind)

  -- ---- signals

  -- the signal of an output port is one of the model
  pub output_below : IsFlatModel f.model → (at : ℕ) (port : CellPort) (s : ℕ) → At (ports_of (comparison design rules cell f)) at port → output_signal port.role ≡ Some s
      → s < length f.model.signals
  output_below model at port s here e =
      all_among (λ (n : ℕ). n < length f.model.signals) f.model.outputs s model.outputs (output_there k paired at port s (port_of k paired at port here) e).there

  -- so are inputs and clocks
  below : IsFlatModel f.model → (s : ℕ) → Among (f.model.inputs ++ f.model.clocks) s → s < length f.model.signals
  below model s a =
      elim (among_either f.model.inputs f.model.clocks s a) [
        | inl here ↦ all_among (λ (n : ℕ). n < length f.model.signals) f.model.inputs s model.inputs here
        | inr here ↦ all_among (λ (n : ℕ). n < length f.model.signals) f.model.clocks s model.clocks here
      ]

  -- the inputs of the model are paired
  pub paired_inputs : IsFlatModel f.model → HasPairedInputs (comparison design rules cell f)
  paired_inputs model = record {
    all = input_paired k paired;
    clocked = clocked_there k paired;
    tied = λ t a. (tied_back k paired t a).input.there;
    nets = tied_net;
    below = below model;
    apart = clocked_apart k paired;
    one_net = one_net k paired;
    one_clock = one_clock k paired;
  }
