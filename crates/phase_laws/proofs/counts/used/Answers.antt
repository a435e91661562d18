use Rattle.phase_laws.proofs.Work.{used_more, used_none, used_within, used_words}
use Rattle.phase_laws.proofs.counts.used.Goals as goal

pub returns-clause-none : goal.returns-clause-none
returns-clause-none c = used_none

pub returns-clause-more : goal.returns-clause-more
returns-clause-more c = used_more

pub returns-clause-within : goal.returns-clause-within
returns-clause-within c = used_within

pub returns-clause-words : goal.returns-clause-words
returns-clause-words c = used_words
