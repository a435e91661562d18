use Rattle.std.proofs.Common.{◌≡◌, take, flat_map}
use Rattle.blif_reader.specs.Models.{latches_in}
use Rattle.blif_reader.proofs.latches.latches_of.Given as goal

abbrev pub invariant-loop-card : goal.invariant-loop-card
invariant-loop-card l = l.found ≡ flat_map latches_in (take l.card-index l.body)
