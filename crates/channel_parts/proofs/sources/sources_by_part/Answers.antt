use Rattle.channel_parts.proofs.SourceLaws.{adds_sources, sources_inside}
use Rattle.channel_parts.proofs.sources.sources_by_part.Goals as goal

pub returns-clause-sources : goal.returns-clause-sources
returns-clause-sources c =
    adds_sources c.args.circuit.now c.args.phase.now c.args.known.now c.args.least.now c.in_ok-sources.sources.items c.join_devices.new.sources.items c.join_wholes.new.sources.items
    c.in_ok-sources.ensures.len c.in_ok-sources.ensures.empty c.in_ok-join_devices.ensures c.in_ok-join_wholes.ensures

pub returns-clause-inside : goal.returns-clause-inside
returns-clause-inside c =
    sources_inside c.args.circuit.now c.args.phase.now c.args.known.now c.args.least.now c.join_wholes.new.sources.items c.requires.nets c.requires.below
    (adds_sources c.args.circuit.now c.args.phase.now c.args.known.now c.args.least.now c.in_ok-sources.sources.items c.join_devices.new.sources.items c.join_wholes.new.sources.items
    c.in_ok-sources.ensures.len c.in_ok-sources.ensures.empty c.in_ok-join_devices.ensures c.in_ok-join_wholes.ensures)
