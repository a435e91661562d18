use Rattle.std.proofs.Common.{◌≡◌, [], drop, flat_map}
use Rattle.names.specs.Names.{with_names}
use Rattle.spice_reader.specs.Netlist.{globals_in}
use Rattle.spice_reader.proofs.build.globals_of.Given as goal

-- the names so far, with those of the rest
abbrev pub invariant-loop-card : goal.invariant-loop-card
invariant-loop-card l = with_names l.names (flat_map globals_in (drop l.card-index l.cards)) ≡ with_names [] (flat_map globals_in l.cards)
