use Rattle.std.proofs.Common.{◌≡◌, ◌||◌, drop}
use Rattle.std.specs.List.{list_any}
use Rattle.blif_reader.specs.Cards.{is_hash}
use Rattle.blif_reader.proofs.cards.has_comment.Given as goal

-- whether there is one so far or behind
abbrev pub invariant-loop-b : goal.invariant-loop-b
invariant-loop-b l = (list_any is_hash (drop l.b-index l.line) || l.some) ≡ list_any is_hash l.line
