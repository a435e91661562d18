-- What is flattened of a cell is looked through phase by phase, and the law of runs speaks of it.
use Rattle.std.proofs.Common.{◌≡◌, ℕ, suc, ◌<◌, List, [], ◌∷◌, drop, length, Some, None, ap, subst, sym, ◌∙◌}
use Rattle.std.specs.Prelude.{All, bytes_eq}
use Rattle.std.proofs.lemmas.List.Quantifiers.{position-Some}
use Rattle.std.proofs.lemmas.List.{length-map}
use Rattle.std.proofs.lemmas.Option.{none-some}
use Rattle.blif_flat.proofs.NetworkBits.{one_bit_each}
use Rattle.cell_room.proofs.InstanceLaws.{all_sound}
use Rattle.cell_room.proofs.PairedInputs.{circuit_nets, output_below, paired_inputs}
use Rattle.cell_room.specs.Compared.{AreInputs, IsFlattened, comparison}
use Rattle.cell_room.specs.Flat.{Flattened}
use Rattle.circuit_faults.proofs.FlatWholes.{flat_wholes}
use Rattle.constraints.proofs.OrderedLaws.{are_named}
use Rattle.flatten.proofs.CellTests.{cell_there}
use Rattle.phase_ports.proofs.RangeLaws.{ports_below}
use Rattle.phase_terms.specs.Ready.{HasPairedInputs, IsNamedInstance, IsReady}
use Rattle.run_laws.specs.WellFormed.{IsWellFormed}
use Rattle.vrt_model.proofs.Members.{all_by, among_map}
use Rattle.vrt_model.specs.Comparison.{is_observed, phase_at}
use Rattle.vrt_model.specs.Elements.{element_names}
use Rattle.vrt_model.specs.FlatCircuit.{flat_circuit_of, flat_instance, flat_instances, net_id}
use Rattle.vrt_model.specs.FlatModels.{HasOneBitEach}
use Rattle.vrt_model.specs.Groups.{Placed, element_of, group_of, groups_of, holds_by_net, leaders}
use Rattle.vrt_model.specs.Lists.{Among}
use Rattle.vrt_model.specs.Unrolled.{Place, Top, all_places}
use Rattle.vrt_model.specs.declared.blif.Blif.{Blif}
use Rattle.vrt_model.specs.declared.circuit.Circuit.{Circuit}
use Rattle.vrt_model.specs.declared.circuit.FlatInstance.{FlatInstance}
use Rattle.vrt_model.specs.declared.circuit.HoldEnd.{HoldEnd}
use Rattle.vrt_model.specs.declared.circuit.HoldEnd.TheVariants.{Own, Latch}
use Rattle.vrt_model.specs.declared.design.Design.{Design}
use Rattle.vrt_model.specs.declared.flat_model.FlatModel.{FlatModel}
use Rattle.vrt_model.specs.declared.groups.Group.{Group}
use Rattle.vrt_model.specs.declared.rules.Rules.{Rules}

-- an item behind the first is among all
behind_first : {X : Type 0} (xs : List X) (x : X) → Among (drop 1 xs) x → Among xs x
behind_first [] x m = m
behind_first (y ∷ xs) x m = (suc m.0, m.1)

-- the element that an end is stands among those of the model
element_low : (flat : FlatModel) (end : HoldEnd) (e : ℕ) → element_of flat end ≡ Some e → e < length (element_names flat)
element_low flat (Own net) e is = absurd (none-some e is)
element_low flat (Latch (Some i) name) e is = absurd (none-some e is)
element_low flat (Latch None name) e is = (position-Some (bytes_eq name) (element_names flat) e [] is).0

-- so does that of a group
group_low : (c : Circuit) (flat : FlatModel) (g : Group) (e : ℕ) → Among (groups_of c flat) g → g.element ≡ Some e → e < length (element_names flat)
unfolding groups_of
group_low c flat g e m some =
    let h = among_map (λ (h : Placed). group_of c flat h.hold.end) (leaders (holds_by_net c)) g m in
    element_low flat h.0.hold.end e (ap (λ (x : Group). x.element) h.2 ∙ some)

circuit_instances : (t : Top) (c : Circuit) → c ≡ flat_circuit_of t → c.instances ≡ flat_instances t
unfolding flat_circuit_of
circuit_instances t c e = ap (λ (x : Circuit). x.instances) e

module _ (design : Design) (blif : Blif) (rules : Rules) (cell m : ℕ) (f : Flattened) (inputs : AreInputs design blif rules cell) (is : IsFlattened design blif rules cell m f) where
  -- the cell with the roles of its ports
  abbrev top : Top
  top = record { design = design; rules = rules; cell = cell; roles = f.pairing.ports }

  -- the instances have a net for each port, and the lines of their cells name ports
  place_named : (at : Place) → Among (all_places top) at → IsNamedInstance (comparison design rules cell f) (flat_instance at)
  place_named at m =
      let sound = all_sound top inputs.ordered.cards inputs.there at m in
      record {
        ports = length-map at.ports net_id ∙ sound.ports;
        apart = (cell_there design.cells at.cell (record { line = 0; name = []; ports = []; devices = []; instances = [] }) inputs.netlist.cells sound.there).ports;
        named = are_named design rules at.cell inputs.netlist inputs.ordered sound.there;
      }

  all_named : All (IsNamedInstance (comparison design rules cell f)) f.circuit.instances
  all_named =
      all_by (IsNamedInstance (comparison design rules cell f)) f.circuit.instances
      (λ i m.
      let at = among_map flat_instance (drop 1 (all_places top)) i (subst (λ (is : List FlatInstance). Among is i) (circuit_instances top f.circuit is.circuit_is) m) in
      subst (IsNamedInstance (comparison design rules cell f)) at.2 (place_named at.0 (behind_first (all_places top) at.0 at.1)))

  -- the inputs of the model are paired
  paired : HasPairedInputs (comparison design rules cell f)
  paired = paired_inputs design rules cell m f is.ports is.outputs is.pairing_is is.circuit_is is.model

  pub well_formed : IsWellFormed (comparison design rules cell f)
  well_formed = record { circuit = is.circuit; groups = is.groups_are; inputs = paired.nets }

  pub ready : IsReady (comparison design rules cell f)
  ready = record {
    rules = inputs.valid;
    cell = inputs.there;
    circuit = is.circuit;
    wholes = λ phase range.
        let at = phase_at rules phase in
        let observed = is_observed (comparison design rules cell f) phase in
        flat_wholes f.circuit at observed is.flat;
    model = is.model;
    dontcares = subst HasOneBitEach (sym is.model_is) (one_bit_each blif m);
    roles = is.roles;
    ports = ports_below top f.circuit (circuit_nets design cell f rules is.circuit_is);
    outputs = output_below design rules cell m f is.ports is.outputs is.pairing_is is.circuit_is is.model;
    inputs = paired;
    groups = is.groups;
    elements = λ g e m some. group_low f.circuit f.model g e (subst (λ (gs : List Group). Among gs g) is.groups_are m) some;
    instances = all_named;
  }
