-- What is written of a cell, by a function of each signal of its model.
use Rattle.std.proofs.Common.{◌≡◌, ℕ, List, Some, ap, map, refl, sym, subst, ◌∙◌}
use Rattle.formed_cells.proofs.FormedLaws.{supported_cells_are_formed}
use Rattle.formed_cells.proofs.SupportedLaws.{supported_is_free}
use Rattle.formed_cells.specs.Formed.{AreRead, IsFormed}
use Rattle.paired_ports.proofs.PortSignals.{output_there, port_of}
use Rattle.paired_ports.proofs.RoleLaws.{IsFreePairing, free_pairing}
use Rattle.plain_models.specs.Flat.{number_in}
use Rattle.vrt_model.proofs.Lists.{at_map, map_at}
use Rattle.std.proofs.lemmas.Option.{same_Some}
use Rattle.vrt_model.specs.Comparison.{CellPort, Comparison, cell_at, output_signal, ports_of}
use Rattle.vrt_model.specs.FlatBlif.{model_at}
use Rattle.vrt_model.specs.Lists.{Among, At}
use Rattle.vrt_model.specs.Unsupported.{IsSupported, comparison_of}
use Rattle.vrt_model.specs.declared.blif.Blif.{Blif}
use Rattle.vrt_model.specs.declared.design.Design.{Design}
use Rattle.vrt_model.specs.declared.rules.Rules.{Rules}
use Rattle.std.specs.Prelude.{slice_get}
use Rattle.written_cells.specs.Outputs.{IsFunctionOf}
use Rattle.written_logic.proofs.InterfaceNames.{output_named, same}
use Rattle.written_logic.proofs.Writable.{bare, bare_interface, bare_writable}
use Rattle.written_logic.specs.Logics.{HasFreeNames, HasInterface, IsLogicOf, PairsWith}
use Rattle.written_models.specs.Functions.{Function}
use Rattle.written_models.specs.Written.{IsWritable, Logic, written_model}

module _ (design : Design) (blif : Blif) (rules : Rules) (cell m : ℕ) (l : Logic) (read : AreRead blif rules) (supported : IsSupported design blif rules cell m)
    (interface : HasInterface (comparison_of design blif rules cell m) (model_at blif m) l) (free : HasFreeNames l) where
  abbrev k : Comparison
  k = comparison_of design blif rules cell m

  formed : IsFormed (comparison_of design blif rules cell m)
  formed = supported_cells_are_formed design blif rules cell m read supported

  paired : IsFreePairing (comparison_of design blif rules cell m).model rules (cell_at design cell) (comparison_of design blif rules cell m).pairing
  paired = free_pairing design cell m k.model rules k.pairing (supported_is_free design blif rules cell m supported).pairable refl

  good : IsWritable (bare l)
  good = bare_writable design blif rules cell m l read supported interface free

  -- the signal of an output port with a name is the one at the name's place
  signal_at_place : (i s : ℕ) (name : List ℕ) (port : CellPort) (signal : ℕ) → At l.outputs i name → At (comparison_of design blif rules cell m).model.outputs i s
      → PairsWith (comparison_of design blif rules cell m) name port signal → s ≡ signal
  signal_at_place i s name port signal named numbered pair =
      let is = bare_interface design blif rules cell m l read supported interface free in
      let outputs = (same blif m (bare l) good is).outputs in
      let here : s ≡ number_in (written_model (bare l)) name =
      same_Some s (number_in (written_model (bare l)) name)
      (sym numbered ∙ ap (λ (ss : List ℕ). slice_get ss i) outputs ∙ map_at (number_in (written_model (bare l))) l.outputs i name named) in
      let place : ℕ = pair.there.0 in
      let other = (formed.signals.outputs place port signal (pair.there.1, pair.output)).1 in
      let out : Among k.model.outputs signal = (output_there k paired place port signal (port_of k paired place port pair.there.1) pair.output).there in
      let found = output_named blif m (bare l) good is signal out other in
      here ∙ ap (number_in (written_model (bare l))) (sym pair.named ∙ found.3) ∙ found.4

  -- so where functions are given by signals each output has that of its port
  pub made_logic : (function : ℕ → Function) → l.functions ≡ map function (comparison_of design blif rules cell m).model.outputs
      → ((port : CellPort) (signal : ℕ) → Among (ports_of (comparison_of design blif rules cell m)) port → output_signal port.role ≡ Some signal
      → IsFunctionOf (comparison_of design blif rules cell m) port signal (function signal))
      → IsLogicOf (comparison_of design blif rules cell m) (model_at blif m) l
  made_logic function is each = record {
    interface = interface;
    functions = λ i name f port signal named at pair.
        let from = at_map function k.model.outputs i f (subst (λ (fs : List Function). At fs i f) is at) in
        let place = signal_at_place i from.0 name port signal named from.1 pair in
        subst (λ (g : Function). IsFunctionOf k port signal g) (ap function (sym place) ∙ from.2) (each port signal pair.there pair.output);
  }
