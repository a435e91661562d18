use Rattle.std.proofs.Common.{sym}
use Rattle.blif_checks.specs.Mentions.{numbered}
use Rattle.blif_checks.proofs.DriverLaws.{clocks_are, no_clocks}
use Rattle.blif_checks.proofs.drivers.add_own_clocks.Goals as goal

pub returns : goal.returns
returns c =
    clocks_are (numbered c.args.names.now) c.args.model.now c.in_ok-inputs.inputs c.as_slice.result.now c.as_slice-2.result.now c.as_slice-3.result.now c.args.list.now c.add_clocks.new.list c.requires
    c.in_ok-inputs.ensures c.as_slice.ensures c.as_slice-2.ensures c.as_slice-3.ensures c.in_ok-add_clocks.ensures

pub returns-then-is_empty : goal.returns-then-is_empty
returns-then-is_empty c =
    no_clocks (numbered c.args.names.now) c.args.model.now.inputs c.args.model.now.clocks c.args.model.now.clock_lines c.args.list.now (sym c.if-is_empty.ensures)
