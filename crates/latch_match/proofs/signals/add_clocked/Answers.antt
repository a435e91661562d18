use Rattle.std.specs.Prelude.{filter_map}
use Rattle.latch_match.specs.Facts.{clock_carried}
use Rattle.latch_match.specs.Marked.{has_in}
use Rattle.latch_match.proofs.ListLaws.{clocked_joined}
use Rattle.latch_match.proofs.signals.add_clocked.Goals as goal

pub returns : goal.returns
returns c =
    clocked_joined c.args.flat.now c.args.rules.now (has_in c.args.paired.now) c.args.list.now c.add_clocked_ports.new.list c.add_clocked_signals.new.list c.add_clocked_signals-2.new.list
    (filter_map clock_carried c.args.facts.now) c.as_slice.result.now c.as_slice-2.result.now c.requires.empty c.in_ok-add_clocked_ports.ensures c.as_slice.ensures c.in_ok-add_clocked_signals.ensures c.as_slice-2.ensures
    c.in_ok-add_clocked_signals-2.ensures
