use Rattle.std.proofs.Common.{None, ap₂}
use Rattle.spice_reader.specs.declared.known.Known.{Known}
use Rattle.spice_reader.specs.Refused.{known_by}
use Rattle.spice_reader.proofs.check.read_cards.Goals as goal

pub take_netlist-requires-clause-known : goal.take_netlist-requires-clause-known
unfolding known_by
take_netlist-requires-clause-known c = ap₂ (λ cells elements. let k : Known = record { cells = cells; inside = None; elements = elements } in k) c.new.ensures c.new-2.ensures
