use Rattle.bdd_core.proofs.Frames.{nodes_then}
use Rattle.domino_order.proofs.LookLaws.{arrivals_there, begins_pass, bound_first, bound_long, ends_pass, failing_passes, given_later, given_words, handles_later, looked, order_there, start_later, vars_later}
use Rattle.domino_order.proofs.runs.look.Goals as goal

pub step_ends-requires-clause-given : goal.step_ends-requires-clause-given
step_ends-requires-clause-given c = given_words c.args.asked c.requires.asked c.args.net c.requires.net c.in-Ok.start c.prepare.new.store c.in-Ok.ensures.gives

pub step_ends-requires-clause-order : goal.step_ends-requires-clause-order
step_ends-requires-clause-order c = order_there c.args.asked c.requires.asked c.args.net c.requires.net c.prepare.new.store.vars c.in-Ok.ensures.gives.vars

pub step_ends-requires-clause-bound : goal.step_ends-requires-clause-bound
step_ends-requires-clause-bound c = bound_first c.args.asked c.requires.asked c.args.net c.requires.net c.args.bound.now c.requires.bound

pub returns-in-Err-step_ends-clause-spent : goal.returns-in-Err-step_ends-clause-spent
returns-in-Err-step_ends-clause-spent c =
    let start = c.in-Ok.ensures.gives in
    let words = given_words c.args.asked c.requires.asked c.args.net c.requires.net c.in-Ok.start c.prepare.new.store start in
    ends_pass c.args.asked c.requires.asked c.args.net c.requires.net c.args.bound.now c.requires.bound c.in-Ok.start c.prepare.new.store start words.2 c.args.store.now.budget c.step_ends.new.store
    c.in-Err-step_ends.spent c.prepare.ensures.keeps.budget c.in-Err-step_ends.ensures.counts

pub beginnings-requires-clause-order : goal.beginnings-requires-clause-order
beginnings-requires-clause-order c =
    let later = vars_later c.args.asked c.requires.asked c.args.net c.requires.net c.in-Ok.start c.prepare.new.store c.in-Ok.ensures.gives c.step_ends.new.store c.in-Ok-step_ends.ensures.gives.adds in
    order_there c.args.asked c.requires.asked c.args.net c.requires.net c.step_ends.new.store.vars later

pub beginnings-requires-clause-arrivals : goal.beginnings-requires-clause-arrivals
beginnings-requires-clause-arrivals c =
    let later = vars_later c.args.asked c.requires.asked c.args.net c.requires.net c.in-Ok.start c.prepare.new.store c.in-Ok.ensures.gives c.step_ends.new.store c.in-Ok-step_ends.ensures.gives.adds in
    arrivals_there c.args.asked c.requires.asked c.args.net c.requires.net c.step_ends.new.store.vars later

pub beginnings-requires-clause-bound : goal.beginnings-requires-clause-bound
beginnings-requires-clause-bound c = bound_long c.args.asked c.requires.asked c.args.net c.requires.net c.args.bound.now c.requires.bound

pub beginnings-requires-clause-given : goal.beginnings-requires-clause-given
beginnings-requires-clause-given c =
    given_later c.args.asked c.requires.asked c.args.net c.requires.net c.in-Ok.start c.prepare.new.store c.in-Ok.ensures.gives c.step_ends.new.store c.in-Ok-step_ends.ensures.gives.adds

pub returns-in-Err-beginnings-clause-spent : goal.returns-in-Err-beginnings-clause-spent
returns-in-Err-beginnings-clause-spent c =
    let start = c.in-Ok.ensures.gives in
    let words = given_words c.args.asked c.requires.asked c.args.net c.requires.net c.in-Ok.start c.prepare.new.store start in
    begins_pass c.args.asked c.requires.asked c.args.net c.requires.net c.args.bound.now c.requires.bound c.in-Ok.start c.prepare.new.store start words.2 c.in-Ok-step_ends.ends c.step_ends.new.store
    c.in-Ok-step_ends.ensures.gives c.in-Ok-step_ends.ensures.counts.added c.args.store.now.budget c.beginnings.new.store c.in-Err-beginnings.spent c.prepare.ensures.keeps.budget
    c.in-Err-beginnings.ensures.counts

pub failing-requires-clause-words : goal.failing-requires-clause-words
failing-requires-clause-words c =
    handles_later c.args.asked c.requires.asked c.args.net c.requires.net c.in-Ok.start c.prepare.new.store c.in-Ok.ensures.gives c.beginnings.new.store
    (nodes_then c.prepare.new.store c.step_ends.new.store c.beginnings.new.store c.in-Ok-step_ends.ensures.gives.adds c.in-Ok-beginnings.ensures.gives.adds)

pub failing-requires-clause-start : goal.failing-requires-clause-start
failing-requires-clause-start c =
    start_later c.args.asked c.requires.asked c.args.net c.requires.net c.in-Ok.start c.prepare.new.store c.in-Ok.ensures.gives c.beginnings.new.store
    (nodes_then c.prepare.new.store c.step_ends.new.store c.beginnings.new.store c.in-Ok-step_ends.ensures.gives.adds c.in-Ok-beginnings.ensures.gives.adds)

pub returns-in-Err-failing-clause-spent : goal.returns-in-Err-failing-clause-spent
returns-in-Err-failing-clause-spent c =
    let start = c.in-Ok.ensures.gives in
    let words = given_words c.args.asked c.requires.asked c.args.net c.requires.net c.in-Ok.start c.prepare.new.store start in
    failing_passes c.args.asked c.requires.asked c.args.net c.requires.net c.args.bound.now c.requires.bound c.in-Ok.start c.prepare.new.store start words.2 c.in-Ok-step_ends.ends c.step_ends.new.store
    c.in-Ok-step_ends.ensures.gives c.in-Ok-step_ends.ensures.counts.added c.in-Ok-beginnings.care c.beginnings.new.store c.in-Ok-beginnings.ensures.gives c.in-Ok-beginnings.ensures.counts.added
    c.args.store.now.budget c.failing.new.store c.in-Err-failing.spent c.prepare.ensures.keeps.budget c.in-Err-failing.ensures.counts

pub returns-in-Ok-failing-clause-gives : goal.returns-in-Ok-failing-clause-gives
returns-in-Ok-failing-clause-gives c =
    let start = c.in-Ok.ensures.gives in
    let words = given_words c.args.asked c.requires.asked c.args.net c.requires.net c.in-Ok.start c.prepare.new.store start in
    looked c.args.asked c.requires.asked c.args.net c.requires.net c.args.bound.now c.requires.bound c.in-Ok.start c.prepare.new.store start words.2 c.in-Ok-step_ends.ends c.step_ends.new.store
    c.in-Ok-step_ends.ensures.gives c.in-Ok-step_ends.ensures.counts.added c.in-Ok-beginnings.care c.beginnings.new.store c.in-Ok-beginnings.ensures.gives c.in-Ok-beginnings.ensures.counts.added
    c.failing.new.store c.failing.ensures.keeps c.in-Ok-failing.found c.in-Ok-failing.ensures.gives c.in-Ok-failing.ensures.counts.added
