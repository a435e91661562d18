use Rattle.std.proofs.Common.{[], ap, ◌∙◌}
use Rattle.names.specs.Names.{with_names}
use Rattle.blif_checks.specs.Mentions.{numbered}
use Rattle.blif_checks.proofs.DriverLaws.{clock_count, heads_are}
use Rattle.blif_checks.proofs.drivers.add_heads.Goals as goal

pub add_inputs-requires : goal.add_inputs-requires
add_inputs-requires c =
    clock_count c.args.model.now c.in_ok-clocks.clocks c.as_slice-clock_lines.result.now c.requires (c.in_ok-clocks.ensures ∙ ap (with_names []) c.as_slice.ensures) c.as_slice-clock_lines.ensures

pub returns : goal.returns
returns c =
    heads_are (numbered c.args.names.now) c.args.model.now c.in_ok-clocks.clocks c.as_slice-2.result.now c.as_slice-input_lines.result.now c.as_slice-clock_lines.result.now
    c.args.list.now c.add_inputs.new.list c.add_own_clocks.new.list c.requires (c.in_ok-clocks.ensures ∙ ap (with_names []) c.as_slice.ensures)
    c.as_slice-2.ensures c.as_slice-input_lines.ensures c.as_slice-clock_lines.ensures c.in_ok-add_inputs.ensures c.in_ok-add_own_clocks.ensures
