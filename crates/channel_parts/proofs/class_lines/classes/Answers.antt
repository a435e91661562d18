use Rattle.std.proofs.Common.{List, subst, sym}
use Rattle.std.proofs.lemmas.Result.{IfOk-weaker}
use Rattle.channel_parts.proofs.ClassLaws.{lines_are}
use Rattle.channel_parts.specs.LinkedParts.{AreLinkedParts}
use Rattle.channel_parts.specs.Classes.{AreClasses}
use Rattle.known_nets.proofs.WiredLaws.{flat_wired}
use Rattle.known_nets.specs.Incidence.{AreHeldMarks}
use Rattle.channel_parts.specs.PhaseTables.{AreTables}
use Rattle.vrt_model.specs.declared.rules.Phase.{Phase}
use Rattle.channel_parts.proofs.class_lines.classes.Goals as goal

pub held_nets-requires : goal.held_nets-requires
held_nets-requires c = flat_wired c.args.circuit.now c.requires

pub returns : goal.returns
returns c =
    let circuit = c.args.circuit.now in
    let phases = c.args.phases.now in
    let held = c.as_slice-2.result.now in
    let tables = c.as_slice-3.result.now in
    let parts = c.as_slice-4.result.now in
    let linked : AreLinkedParts circuit parts = subst (AreLinkedParts circuit) (sym c.as_slice-4.ensures) c.in_ok-found.ensures in
    let marks : AreHeldMarks circuit held = subst (AreHeldMarks circuit) (sym c.as_slice-2.ensures.value) c.in_ok-held.ensures.held in
    let by_phase : AreTables circuit c.as_slice.result.now tables =
    subst (AreTables circuit c.as_slice.result.now) (sym c.as_slice-3.ensures) c.in_ok-tables.ensures in
    let are : AreTables circuit phases tables = subst (λ (ps : List Phase). AreTables circuit ps tables) c.as_slice.ensures by_phase in
    IfOk-weaker c.lines_of.result _ (AreClasses circuit phases)
    (λ lines e. subst (AreClasses circuit phases) (sym e) (lines_are circuit phases held tables marks are parts linked))
    c.lines_of.ensures
