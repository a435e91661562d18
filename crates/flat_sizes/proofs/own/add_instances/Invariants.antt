use Rattle.std.proofs.Common.{◌≡◌, drop}
use Rattle.flat_sizes.specs.Mentions.{tied}
use Rattle.names.specs.Names.{with_names}
use Rattle.flat_sizes.proofs.own.add_instances.Given as goal

-- the names so far, with those of the rest
abbrev pub invariant-loop-card : goal.invariant-loop-card
invariant-loop-card l = with_names l.names (tied (drop l.card-index l.cards)) ≡ with_names l.fn.names (tied l.cards)
