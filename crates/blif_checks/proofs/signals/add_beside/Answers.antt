use Rattle.std.proofs.Common.{ap, ◌∙◌, flat_map, List}
use Rattle.names.specs.Names.{with_names}
use Rattle.vrt_model.specs.FlatBlif.{cover_signals, latch_signals, sub_signals}
use Rattle.vrt_model.specs.declared.blif.CoverLine.{CoverLine}
use Rattle.vrt_model.specs.declared.blif.LatchLine.{LatchLine}
use Rattle.vrt_model.specs.declared.blif.SubLine.{SubLine}
use Rattle.blif_checks.specs.Parts.{part_of}
use Rattle.blif_checks.proofs.MentionLaws.{beside_are}
use Rattle.blif_checks.proofs.signals.add_beside.Goals as goal

pub returns : goal.returns
returns c =
    beside_are (part_of c.args.part c.args.model.now) c.args.names.now c.add_all.new.self c.add_covers.new.names c.add_latches.new.names c.add_subs.new.names
    (c.in_ok-add_all.ensures ∙ ap (with_names c.args.names.now) c.outputs_of.ensures)
    (c.in_ok-add_covers.ensures ∙ ap (λ (xs : List CoverLine). with_names c.add_all.new.self (flat_map cover_signals xs)) c.covers_of.ensures)
    (c.in_ok-add_latches.ensures ∙ ap (λ (xs : List LatchLine). with_names c.add_covers.new.names (flat_map latch_signals xs)) c.latches_of.ensures)
    (c.in_ok-add_subs.ensures ∙ ap (λ (xs : List SubLine). with_names c.add_latches.new.names (flat_map sub_signals xs)) c.subs_of.ensures)
