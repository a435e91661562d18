use Rattle.std.proofs.Common.{ℕ, ap, false, replicate, ◌∙◌}
use Rattle.substitute.proofs.UnderwayLaws.{none_chosen}
use Rattle.substitute.proofs.choice.none_chosen.Goals as goal

pub returns : goal.returns
returns c asked t blif facts are =
    none_chosen asked t blif facts c.args.tables are c.in_ok-whole.whole.items c.in_ok-inside.inside.items c.in_ok-nets.nets.held.items c.in_ok-nets.nets.taken.items c.in_ok-nets.nets.channels.items
    (c.in_ok-whole.ensures ∙ ap (λ (n : ℕ). replicate n false) c.len.ensures) c.in_ok-inside.ensures c.in_ok-nets.ensures.held c.in_ok-nets.ensures.taken c.in_ok-nets.ensures.each c.in_ok-nets.ensures.counts
