-- What is known of a planned cell that is to be written.
use Rattle.std.proofs.Common.{◌≡◌, ℕ, [], None, arith, refl, subst, sym, ◌∙◌}
use Rattle.cell_room.proofs.ReadyLaws.{ready}
use Rattle.cell_room.proofs.SupportedLaws.{same_comparison, supported}
use Rattle.cell_room.specs.Compared.{comparison}
use Rattle.cell_room.specs.Flat.{Flattened}
use Rattle.cell_writer.proofs.RefusedLaws.{combinational}
use Rattle.cell_writer.specs.Refused.{MayBeWritten}
use Rattle.cell_writer.specs.Writing.{IsWriting, written_of}
use Rattle.cell_writer.specs.declared.writing.Writing.{Writing}
use Rattle.formed_cells.proofs.FormedLaws.{supported_cells_are_formed}
use Rattle.formed_cells.proofs.SupportedLaws.{supported_is_free}
use Rattle.formed_cells.specs.Formed.{AreRead, IsFormed}
use Rattle.output_functions.specs.Phases.{ArePhasePlans, HasOwnOutputs}
use Rattle.paired_ports.proofs.PortSignals.{port_of}
use Rattle.paired_ports.proofs.RoleLaws.{IsFreePairing, free_pairing}
use Rattle.phase_terms.specs.Ready.{IsReady}
use Rattle.vrt_model.specs.Comparison.{Comparison, cell_at}
use Rattle.vrt_model.specs.Elements.{element_names}
use Rattle.vrt_model.specs.Equal.{IsEqual}
use Rattle.vrt_model.specs.FlatBlif.{model_at}
use Rattle.vrt_model.specs.Held.{sources_of}
use Rattle.vrt_model.specs.Lists.{At}
use Rattle.vrt_model.specs.Unsupported.{IsSupported, unmatched}
use Rattle.vrt_model.specs.declared.groups.Vars.{Vars}
use Rattle.written_logic.proofs.Combinational.{elements_are, sources_are}
use Rattle.written_logic.specs.Logics.{IsCombinational}

module _ (m : ℕ) (w : Writing) (is : IsWriting m w) where
  abbrev f : Flattened
  f = w.planned.now.flattened

  -- what is compared, by the steps and by the definitions
  abbrev pub steps : Comparison
  steps = comparison w.design.now w.rules.now w.cell w.planned.now.flattened

  pub comparison_same : steps ≡ written_of w m
  comparison_same = same_comparison w.design.now w.blif.now w.rules.now w.cell m f is.planned.flattened

  pub is_ready : IsReady steps
  is_ready = ready w.design.now w.blif.now w.rules.now w.cell m f is.inputs is.planned.flattened

  pub is_supported : IsSupported w.design.now w.blif.now w.rules.now w.cell m
  is_supported = supported w.design.now w.blif.now w.rules.now w.cell m f is.planned.flattened is.planned.planned

  pub is_read : AreRead w.blif.now w.rules.now
  is_read = record { names = is.inputs.names; models = is.inputs.models; valid = is.inputs.valid }

  pub is_formed : IsFormed (written_of w m)
  is_formed = supported_cells_are_formed w.design.now w.blif.now w.rules.now w.cell m is_read is_supported

  pub is_equal : IsEqual steps
  is_equal = subst IsEqual (sym comparison_same) is.equal

  pub are_plans : ArePhasePlans steps w.planned.now.plans
  are_plans = record { count = is.planned.plans.count; each = λ phase plan at. (is.planned.plans.each phase plan at).is }

  -- outputs are apart
  own_written : HasOwnOutputs (written_of w m)
  own_written i j one other signal at there a b =
      let q = written_of w m in
      let paired : IsFreePairing q.model w.rules.now (cell_at w.design.now w.cell) q.pairing =
      free_pairing w.design.now w.cell m q.model w.rules.now q.pairing (supported_is_free w.design.now w.blif.now w.rules.now w.cell m is_supported).pairable refl in
      let first = (port_of q paired i one at).place in
      let second = (port_of q paired j other there).place in
      let same = is_formed.signals.one_port one other signal (i, at) (j, there) a b in
      omega (arith, first, second, same)

  pub own_outputs : HasOwnOutputs steps
  own_outputs = subst HasOwnOutputs (sym comparison_same) own_written

  -- ---- without state

  module _ (may : MayBeWritten (written_of w m) (model_at w.blif.now m)) where
    pub is_combinational : IsCombinational (written_of w m)
    is_combinational = combinational (written_of w m) (model_at w.blif.now m) may

    pub no_elements : element_names (written_of w m).model ≡ []
    no_elements =
        elements_are w.design.now w.blif.now w.rules.now w.cell m is_formed is_combinational
        (subst (λ (k : Comparison). unmatched w.rules.now (cell_at w.design.now w.cell).name k.model k.groups ≡ None) comparison_same is.planned.flattened.matched)

    pub same_sources : (vars : Vars) → At w.planned.now.vars 0 vars → (phase : ℕ) → vars.sources ≡ sources_of steps phase
    same_sources vars at phase =
        let each = sources_are w.design.now w.blif.now w.rules.now w.cell m is_formed is_combinational no_elements in
        (is.planned.vars.each 0 vars at).sources
        ∙ subst (λ (k : Comparison). sources_of k 0 ≡ sources_of k phase) (sym comparison_same) (each 0 ∙ sym (each phase))
