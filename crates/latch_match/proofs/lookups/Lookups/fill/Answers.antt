use Rattle.latch_match.proofs.LookupLaws.{lookups_are}
use Rattle.latch_match.proofs.lookups.Lookups.fill.Goals as goal

pub returns : goal.returns
returns c =
    lookups_are c.args.flat.now c.args.rules.now c.args.lines.now c.args.cell.now c.args.signals.now c.places-clocks.result.now c.places-ports.result.now c.places-assumes.result.now
    (record {
      alloc = c.args.self.now.alloc;
      signals = c.add_by_lower_name.new.table;
      names = c.add_by_name.new.table;
      clocks = c.add_clocks.new.table;
      ruled = c.add_signals.new.table;
      assumed = c.add_all_assumed.new.names;
    })
    c.requires.lines c.requires.signals c.places-clocks.ensures c.places-ports.ensures c.places-assumes.ensures c.in_ok-add_by_lower_name.ensures c.in_ok-add_by_name.ensures c.in_ok-add_clocks.ensures
    c.in_ok-add_signals.ensures c.in_ok-add_all_assumed.ensures
