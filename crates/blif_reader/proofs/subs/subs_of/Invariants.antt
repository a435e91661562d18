use Rattle.std.proofs.Common.{◌≡◌, map, take}
use Rattle.std.specs.Prelude.{filter}
use Rattle.blif_reader.specs.Models.{is_sub, sub_of}
use Rattle.blif_reader.proofs.subs.subs_of.Given as goal

-- the sub-models so far
abbrev pub invariant-loop-card : goal.invariant-loop-card
invariant-loop-card l = l.found ≡ map sub_of (filter is_sub (take l.card-index l.body))
