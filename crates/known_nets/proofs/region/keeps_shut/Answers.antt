use Rattle.known_nets.proofs.region.keeps_shut.Goals as goal

pub returns-in_default-clause-yes : goal.returns-in_default-clause-yes
returns-in_default-clause-yes c e bare m j = absurd (c.in_default.ensures m j)
