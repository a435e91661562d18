use Rattle.domino_order.proofs.StartLaws.{open_passes, phase_there, prepared}
use Rattle.domino_order.proofs.prepared.prepare.Goals as goal

pub open_phase-requires-clause-words : goal.open_phase-requires-clause-words
open_phase-requires-clause-words c =
    let words = c.run_words-words in
    phase_there c.args.asked c.requires.asked c.args.store.now words.new.store words.new.store words.new.store c.requires.store words.ensures.rest words.result.phase words.result.steps words.ensures.phase words.ensures.given words.ensures.steps

pub returns-in-Err-clause-spent : goal.returns-in-Err-clause-spent
returns-in-Err-clause-spent c =
    let words = c.run_words-words in
    open_passes c.args.asked c.requires.asked c.args.store.now words.new.store c.open_phase.new.store c.open_phase.new.store c.requires.store words.ensures.rest words.result.phase words.result.steps words.ensures.phase
    words.ensures.given words.ensures.steps c.in-Err.spent c.in-Err.ensures.counts

pub returns-clause-gives : goal.returns-clause-gives
returns-clause-gives c =
    let words = c.run_words-words in
    prepared c.args.asked c.requires.asked c.args.store.now words.new.store c.open_phase.new.store c.fill_words.new.store c.requires.store words.ensures.rest words.result.phase words.result.steps words.ensures.phase
    words.ensures.given words.ensures.steps c.in-Ok.ensures.writes.adds c.in-Ok.ensures.writes.len c.in-Ok.ensures.counts.added c.in-Ok.care c.in-Ok.ensures.open c.fill_words.ensures.handles
    c.fill_words.ensures.rest c.fill_words.ensures.keeps c.fill_words.ensures.given c.fill_words.ensures.setting
