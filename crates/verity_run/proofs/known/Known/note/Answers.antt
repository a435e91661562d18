use Rattle.verity_run.proofs.known.Known.note.Goals as goal

pub returns-clause-kept : goal.returns-clause-kept
returns-clause-kept c = λ design blif rules are. c.forget.ensures design blif rules c.args.self.now.facts.items c.args.facts are
