use Rattle.latch_match.proofs.PairedLaws.{facts_all, paired_are}
use Rattle.latch_match.proofs.signals.Paired.fill.Goals as goal

pub fill-requires-clause-lines : goal.fill-requires-clause-lines
fill-requires-clause-lines c = c.requires.tables.lines_are.ports

pub returns : goal.returns
returns c =
    paired_are c.args.flat.now c.args.rules.now c.args.cell.now c.fill.new.self c.add_facts_by.new.facts c.as_slice-facts.result.now c.add_interface.new.list c.as_slice-2.result.now c.count_paired.new.counts c.add_clocked.new.list
    c.as_slice.result.now c.add_carriers.new.set c.add_numbers.new.set c.in_ok-add_interface.ensures
    (facts_all c.args.flat.now c.args.rules.now c.args.cell.now c.args.index.now c.fill.new.self c.as_bytes.result.now c.as_slice-ports.result.now c.add_facts_by.new.facts c.as_bytes.ensures c.as_slice-ports.ensures
    c.requires.tables c.in_ok-fill.ensures c.in_ok-add_facts_by.ensures)
    c.as_slice-facts.ensures c.in_ok-count_paired.ensures c.in_ok-add_clocked.ensures c.as_slice.ensures c.in_ok-add_carriers.ensures c.as_slice-2.ensures c.in_ok-add_numbers.ensures
