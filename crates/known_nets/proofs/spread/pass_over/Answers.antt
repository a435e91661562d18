use Rattle.known_nets.proofs.spread.pass_over.Goals as goal

pub returns-in-None-clause-passed : goal.returns-in-None-clause-passed
returns-in-None-clause-passed c n on joins = absurd (c.in-None.ensures n on.bare on.on joins)
