use Rattle.std.proofs.Common.{drop, flat_map}
use Rattle.blif_reader.specs.Built.{AreAmong}
use Rattle.blif_reader.specs.Models.{listed, signals_on}
use Rattle.blif_reader.proofs.signals.list_signals.Given as goal

-- the signals so far, with those of the rest
abbrev pub invariant-loop-card : goal.invariant-loop-card
invariant-loop-card l = AreAmong l.seen l.numbers (flat_map (signals_on l.word) (drop l.card-index l.body)) (listed l.word l.body)
