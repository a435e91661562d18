-- The variables and the outputs of what is written of a cell.
use Rattle.std.proofs.Common.{◌≡◌, ℕ, List, Some, map, arith, ap, refl, sym, ◌∙◌}
use Rattle.std.proofs.lemmas.Option.{slice_get_within}
use Rattle.std.proofs.lemmas.Simd.{map-map}
use Rattle.formed_cells.proofs.FormedLaws.{supported_cells_are_formed}
use Rattle.formed_cells.proofs.SupportedLaws.{supported_is_free}
use Rattle.formed_cells.specs.Formed.{AreRead, IsFormed}
use Rattle.paired_ports.proofs.PortSignals.{output_there, port_of}
use Rattle.paired_ports.proofs.RoleLaws.{IsFreePairing, free_pairing}
use Rattle.plain_models.specs.Flat.{number_in}
use Rattle.plain_models.specs.Interfaces.{IsInterfaceOf}
use Rattle.vrt_model.proofs.Lists.{at_there, map_same}
use Rattle.vrt_model.specs.Assignment.{Tied}
use Rattle.vrt_model.specs.Comparison.{CellPort, Comparison, cell_at, output_signal, ports_of, tied_inputs}
use Rattle.vrt_model.specs.Elements.{signal_name}
use Rattle.vrt_model.specs.FlatBlif.{model_at}
use Rattle.vrt_model.specs.Lists.{Among, At}
use Rattle.vrt_model.specs.Unsupported.{IsSupported, comparison_of}
use Rattle.vrt_model.specs.declared.blif.Blif.{Blif}
use Rattle.vrt_model.specs.declared.design.Design.{Design}
use Rattle.vrt_model.specs.declared.rules.Rules.{Rules}
use Rattle.written_cells.specs.Outputs.{IsFunctionOf}
use Rattle.written_logic.proofs.InterfaceNames.{input_named, output_named}
use Rattle.written_logic.specs.Logics.{IsLogicOf}
use Rattle.written_models.specs.Functions.{Function}
use Rattle.written_models.specs.Written.{IsWritable, Logic, written_model}

module _ (design : Design) (blif : Blif) (rules : Rules) (cell m : ℕ) (l : Logic) (read : AreRead blif rules) (supported : IsSupported design blif rules cell m)
    (logic : IsLogicOf (comparison_of design blif rules cell m) (model_at blif m) l) (good : IsWritable l) (is : IsInterfaceOf (model_at blif m) (written_model l)) where
  abbrev k : Comparison
  k = comparison_of design blif rules cell m

  formed : IsFormed (comparison_of design blif rules cell m)
  formed = supported_cells_are_formed design blif rules cell m read supported

  paired : IsFreePairing (comparison_of design blif rules cell m).model rules (cell_at design cell) (comparison_of design blif rules cell m).pairing
  paired = free_pairing design cell m k.model rules k.pairing (supported_is_free design blif rules cell m supported).pairable refl

  -- the variables have the numbers of the signals of the input ports
  pub variables_are : map (number_in (written_model l)) l.variables ≡ map (λ (t : Tied). t.signal) (tied_inputs (comparison_of design blif rules cell m))
  variables_are =
      ap (map (number_in (written_model l))) logic.interface.variables
      ∙ map-map (number_in (written_model l)) (λ (t : Tied). signal_name k.model t.signal) (tied_inputs k)
      ∙ map_same (λ (t : Tied). number_in (written_model l) (signal_name k.model t.signal)) (λ (t : Tied). t.signal) (tied_inputs k)
      (λ i t at.
      let named = input_named blif m l good is t.signal (formed.signals.tied t.signal (t, (i, at), refl)) in
      ap (number_in (written_model l)) named.2 ∙ named.3)

  -- the signal of an output port is that of an output with the port's function
  pub outputs_are : (port : CellPort) (signal : ℕ) → Among (ports_of (comparison_of design blif rules cell m)) port → output_signal port.role ≡ Some signal
      → (i : ℕ) × (name : List ℕ) × (f : Function) × At l.outputs i name × At l.functions i f × (signal ≡ number_in (written_model l) name)
      × IsFunctionOf (comparison_of design blif rules cell m) port signal f
  outputs_are port signal there e =
      let place : ℕ = there.0 in
      let other = (formed.signals.outputs place port signal (there.1, e)).1 in
      let out : Among k.model.outputs signal = (output_there k paired place port signal (port_of k paired place port there.1) e).there in
      let named = output_named blif m l good is signal out other in
      let within = slice_get_within l.outputs named.0 named.1 named.2 in
      let count = logic.interface.count in
      let f = at_there l.functions named.0 (omega (arith, within, count)) in (
        named.0,
        named.1,
        f.0,
        named.2,
        f.1,
        sym named.4,
        logic.functions named.0 named.1 f.0 port signal named.2 f.1 (record { there = there; output = e; named = named.3 }),
      )
