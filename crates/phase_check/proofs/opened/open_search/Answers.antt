use Rattle.std.proofs.Common.{◌≡◌, ℕ, ◌+◌, ap, arith, length, refl}
use Rattle.bdd_core.specs.Store.{Diagrams}
use Rattle.phase_check.proofs.Opening.{taken_adds, taken_store}
use Rattle.phase_check.proofs.Stays.{store_next}
use Rattle.phase_laws.proofs.Work.{may_spend, used_words}
use Rattle.phase_terms.specs.Opened.{opened_operations}
use Rattle.phase_terms.specs.Ready.{comparison_in}
use Rattle.vrt_model.specs.Held.{sources_of}
use Rattle.phase_check.proofs.opened.open_search.Goals as goal

pub open_phase-requires-clause-words : goal.open_phase-requires-clause-words
open_phase-requires-clause-words c =
    let taken = c.take_words-words.ensures in
    (taken_store (comparison_in c.args.compared) c.args.phase c.requires.used.0 c.args.counts c.take_words-words.result c.args.store.now c.take_words-words.new.store taken.rest c.requires.counts taken.words
    c.requires.variables c.requires.used.1).words

pub open_phase-requires-clause-variables : goal.open_phase-requires-clause-variables
open_phase-requires-clause-variables c =
    let taken = c.take_words-words.ensures in
    (taken_store (comparison_in c.args.compared) c.args.phase c.requires.used.0 c.args.counts c.take_words-words.result c.args.store.now c.take_words-words.new.store taken.rest c.requires.counts taken.words
    c.requires.variables c.requires.used.1).vars

pub open_phase-requires-clause-tests : goal.open_phase-requires-clause-tests
open_phase-requires-clause-tests c =
    let taken = c.take_words-words.ensures in
    (taken_store (comparison_in c.args.compared) c.args.phase c.requires.used.0 c.args.counts c.take_words-words.result c.args.store.now c.take_words-words.new.store taken.rest c.requires.counts taken.words
    c.requires.variables c.requires.used.1).used.within

pub returns-in-Ok-clause-gives : goal.returns-in-Ok-clause-gives
returns-in-Ok-clause-gives c made used =
    let k = comparison_in c.args.compared in
    let taken = c.take_words-words.ensures in
    let words = c.take_words-words.result in
    let mid = c.take_words-words.new.store in
    let writes = c.in-Ok.ensures.writes in
    record {
      store = store_next k c.args.phase mid.budget made (opened_operations k c.args.phase) words mid c.open_phase.new.store writes.adds writes.len c.in-Ok.ensures.counts.added
          (taken_store k c.args.phase made c.args.counts words c.args.store.now mid taken.rest c.requires.counts taken.words c.requires.variables used);
      opened = c.in-Ok.ensures.open;
    }

pub returns-in-Err-clause-gives : goal.returns-in-Err-clause-gives
returns-in-Err-clause-gives c made used =
    let k = comparison_in c.args.compared in
    let d = c.args.store.now in
    let mid = c.take_words-words.new.store in
    let rest = c.take_words-words.ensures.rest in
    let u : ℕ = length (sources_of k c.args.phase) in
    let more : ℕ = opened_operations k c.args.phase in
    may_spend k c.args.phase d.budget u made more (made + more) mid c.open_phase.new.store c.in-Err.spent (used_words d.budget u made d mid rest used) refl c.requires.budget (omega arith) c.in-Err.ensures.counts

-- the words were taken, and then the phase was opened
pub returns-in-Ok-clause-adds : goal.returns-in-Ok-clause-adds
returns-in-Ok-clause-adds c =
    let sound = c.sound.ensures in
    taken_adds c.args.store.now c.take_words-words.new.store c.open_phase.new.store c.take_words-words.ensures.rest sound.sound sound.within c.in-Ok.ensures.writes.adds

pub returns-in-Err-clause-adds : goal.returns-in-Err-clause-adds
returns-in-Err-clause-adds c =
    let sound = c.sound.ensures in
    taken_adds c.args.store.now c.take_words-words.new.store c.open_phase.new.store c.take_words-words.ensures.rest sound.sound sound.within c.in-Err.ensures.writes.adds
