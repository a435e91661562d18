use Rattle.port_links.proofs.LinkLaws.{signal_marks}
use Rattle.port_links.proofs.links.target_of.Goals as goal

pub returns : goal.returns
returns c phase model arcs has = record {
  nets = c.in_ok-nets.ensures phase arcs;
  signals = signal_marks model c.args.covers.now c.args.signal c.in_ok-signals.signals.items has c.in_ok-signals.ensures;
}
