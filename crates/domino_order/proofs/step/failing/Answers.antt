use Rattle.std.proofs.Common.{ℕ, ◌+◌, ◌*◌, Some, Option, length, arith, subst}
use Rattle.bdd_core.specs.declared.handle.H.{H}
use Rattle.domino_order.proofs.StepFound.{counts_both, counts_first, keeps_then, refused_first, same_vars, steps_from}
use Rattle.domino_order.specs.StepSettings.{TwiceGives}
use Rattle.domino_order.specs.StepWords.{of_rising, settle_operations, step_operations}
use Rattle.domino_order.proofs.step.failing.Goals as goal

pub look_after-requires-clause-care : goal.look_after-requires-clause-care
look_after-requires-clause-care c = (let live = c.requires.care in let longer = c.look_twice.ensures.keeps.adds.longer in omega (arith, live, longer))

pub look_after-requires-clause-twice : goal.look_after-requires-clause-twice
look_after-requires-clause-twice c =
    let s = c.args.rising in
    let words = c.args.words in
    subst (λ (o : Option H). TwiceGives (of_rising s) s.phase s.nets.now c.args.net c.args.care words.setting words.rose words.together c.args.store.now c.look_twice.new.store o) c.in-Ok-None.field-0-is
    c.in-Ok-None.ensures.gives

pub returns-in-Ok-Some-clause-gives : goal.returns-in-Ok-Some-clause-gives
returns-in-Ok-Some-clause-gives c =
    let s = c.args.rising in
    let words = c.args.words in
    subst (λ (o : Option H). TwiceGives (of_rising s) s.phase s.nets.now c.args.net c.args.care words.setting words.rose words.together c.args.store.now c.look_twice.new.store o) c.in-Ok-Some.field-0-is
    c.in-Ok-Some.ensures.gives

pub returns-in-Ok-Some-clause-counts : goal.returns-in-Ok-Some-clause-counts
returns-in-Ok-Some-clause-counts c =
    let few : ℕ = 2 * settle_operations c.args.rising in
    let old = c.args.store.now in
    counts_first old.vars few (step_operations c.args.rising) old c.look_twice.new.store c.in-Ok-Some.field-0 (Some c.in-Ok-Some.at) (omega arith) c.in-Ok-Some.ensures.counts

pub returns-in-Err-clause-counts : goal.returns-in-Err-clause-counts
returns-in-Err-clause-counts c =
    let few : ℕ = 2 * settle_operations c.args.rising in
    let old = c.args.store.now in
    refused_first {A = Option H} {B = Option H} old.vars few (step_operations c.args.rising) old c.look_twice.new.store c.in-Err.spent (omega arith) c.in-Err.ensures.counts

pub returns-clause-gives : goal.returns-clause-gives
returns-clause-gives c =
    let s = c.args.rising in
    steps_from (of_rising s) s.phase s.nets.now c.args.net c.args.care c.args.store.now c.look_twice.new.store c.look_after.new.store
    (λ v. c.look_twice.ensures.keeps.adds.kept c.args.care.0 c.requires.care v) c.look_after.result c.look_after.ensures.gives

pub returns-clause-keeps : goal.returns-clause-keeps
returns-clause-keeps c = keeps_then c.args.store.now c.look_twice.new.store c.look_after.new.store c.look_twice.ensures.keeps c.look_after.ensures.keeps

pub returns-clause-counts : goal.returns-clause-counts
returns-clause-counts c =
    let s = c.args.rising in
    let few = settle_operations s in
    let nets : ℕ = length (of_rising s).circuit.nets in
    let old = c.args.store.now in
    let mid = c.look_twice.new.store in
    counts_both (2 * few) (few + 3 * nets) (step_operations s) old mid c.look_after.new.store c.in-Ok-None.field-0 c.look_after.result (omega arith)
    (same_vars old mid mid.words c.look_twice.ensures.keeps.adds) c.in-Ok-None.ensures.counts c.look_after.ensures.counts
