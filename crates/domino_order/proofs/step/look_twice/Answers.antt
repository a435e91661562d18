use Rattle.std.proofs.Common.{◌*◌, Some, Option, arith, subst, ◌∙◌}
use Rattle.bdd_core.specs.Diagram.{Valuation}
use Rattle.bdd_core.specs.Store.{IsLive}
use Rattle.bdd_core.specs.declared.handle.H.{H}
use Rattle.domino_order.proofs.StepFound.{counts_both, counts_first, fails_before, gives_stay, keeps_then, refused_first, same_vars, twice_gives}
use Rattle.domino_order.proofs.StepFrames.{bare_rose, handles_by_rose, kept_rose, setting_by_rose}
use Rattle.domino_order.specs.StepSettings.{SettlesAt, start_at}
use Rattle.domino_order.specs.StepWords.{of_rising, settle_operations}
use Rattle.phase_laws.proofs.Observed.{observed_nets}
use Rattle.domino_order.proofs.step.look_twice.Goals as goal

pub settle_at-requires-clause-bare : goal.settle_at-requires-clause-bare
settle_at-requires-clause-bare c = bare_rose c.args.rising c.requires.rising c.args.words c.args.store.now c.requires.words

pub settle_at-requires-clause-kept : goal.settle_at-requires-clause-kept
settle_at-requires-clause-kept c = kept_rose c.args.rising c.requires.rising c.args.words c.args.store.now c.requires.words

pub look_together-requires-clause-care : goal.look_together-requires-clause-care
look_together-requires-clause-care c = (let live = c.requires.care in let longer = c.settle_at.ensures.writes.adds.longer in omega (arith, live, longer))

pub look_together-requires-clause-words : goal.look_together-requires-clause-words
look_together-requires-clause-words c =
    handles_by_rose (of_rising c.args.rising).circuit c.args.words c.args.store.now c.settle_at.new.store c.requires.words c.settle_at.ensures.writes c.settle_at.ensures.live

pub look_together-requires-clause-start : goal.look_together-requires-clause-start
look_together-requires-clause-start c =
    let s = c.args.rising in
    let k = of_rising s in
    let words = c.args.words in
    let old = c.args.store.now in
    let mid = c.settle_at.new.store in
    gives_stay k s.phase s.nets.now c.args.net (start_at k s.phase s.nets.now) words.setting old mid c.requires.words.words.setting_len
    (setting_by_rose k.circuit words old mid c.requires.words c.settle_at.ensures.writes) c.requires.start

-- ---- where it does not settle at first

pub returns-in-Ok-Some-clause-gives : goal.returns-in-Ok-Some-clause-gives
returns-in-Ok-Some-clause-gives c =
    let s = c.args.rising in
    let k = of_rising s in
    let old = c.args.store.now in
    let mid = c.settle_at.new.store in
    let care = c.args.care in
    let same = λ (v : Valuation). c.settle_at.ensures.writes.adds.kept care.0 c.requires.care v in
    let gives = subst (λ (o : Option H). SettlesAt k s.phase s.nets.now c.args.net (start_at k s.phase s.nets.now) care c.args.words.rose old mid o) c.in-Ok-Some.field-0-is
    (c.in-Ok-Some.ensures.gives c.args.net (start_at k s.phase s.nets.now) c.requires.start) in
    fails_before k s.phase s.nets.now c.args.net care (observed_nets k s.phase c.requires.rising.ready).0.nets old mid mid same same c.args.words.rose c.in-Ok-Some.at gives

pub returns-in-Ok-Some-clause-handles : goal.returns-in-Ok-Some-clause-handles
returns-in-Ok-Some-clause-handles c =
    handles_by_rose (of_rising c.args.rising).circuit c.args.words c.args.store.now c.settle_at.new.store c.requires.words c.settle_at.ensures.writes c.settle_at.ensures.live

pub returns-in-Ok-Some-clause-counts : goal.returns-in-Ok-Some-clause-counts
returns-in-Ok-Some-clause-counts c =
    let few = settle_operations c.args.rising in
    let old = c.args.store.now in counts_first old.vars few (2 * few) old c.settle_at.new.store c.in-Ok-Some.field-0 (Some c.in-Ok-Some.at) (omega arith) c.in-Ok-Some.ensures.counts

pub returns-in-Err-clause-handles : goal.returns-in-Err-clause-handles
returns-in-Err-clause-handles c =
    handles_by_rose (of_rising c.args.rising).circuit c.args.words c.args.store.now c.settle_at.new.store c.requires.words c.settle_at.ensures.writes c.settle_at.ensures.live

pub returns-in-Err-clause-counts : goal.returns-in-Err-clause-counts
returns-in-Err-clause-counts c =
    let few = settle_operations c.args.rising in
    let old = c.args.store.now in refused_first {A = Option H} {B = Option H} old.vars few (2 * few) old c.settle_at.new.store c.in-Err.spent (omega arith) c.in-Err.ensures.counts

-- ---- both settings

pub returns-clause-gives : goal.returns-clause-gives
returns-clause-gives c =
    let s = c.args.rising in
    let k = of_rising s in
    let words = c.args.words in
    let old = c.args.store.now in
    let mid = c.settle_at.new.store in
    let new = c.look_together.new.store in
    let care = c.args.care in
    let live : IsLive mid care = (let live = c.requires.care in let longer = c.settle_at.ensures.writes.adds.longer in omega (arith, live, longer)) in
    let same = λ (v : Valuation). c.settle_at.ensures.writes.adds.kept care.0 c.requires.care v in
    let before = subst (λ (o : Option H). SettlesAt k s.phase s.nets.now c.args.net (start_at k s.phase s.nets.now) care words.rose old mid o) c.in-Ok-None.field-0-is
    (c.in-Ok-None.ensures.gives c.args.net (start_at k s.phase s.nets.now) c.requires.start) in
    twice_gives k s.phase s.nets.now c.args.net care (observed_nets k s.phase c.requires.rising.ready).0.nets old mid new same
    (λ v. c.look_together.ensures.keeps.adds.kept care.0 live v ∙ same v) words.setting words.rose words.together c.requires.words.words.rose_len before c.look_together.ensures.rose
    c.look_together.ensures.setting c.look_together.result c.look_together.ensures.gives

pub returns-clause-keeps : goal.returns-clause-keeps
returns-clause-keeps c =
    let settled = c.settle_at.ensures.writes in
    keeps_then c.args.store.now c.settle_at.new.store c.look_together.new.store (record { adds = settled.adds; len = settled.len }) c.look_together.ensures.keeps

pub returns-clause-counts : goal.returns-clause-counts
returns-clause-counts c =
    let few = settle_operations c.args.rising in
    let old = c.args.store.now in
    let mid = c.settle_at.new.store in
    counts_both few few (2 * few) old mid c.look_together.new.store c.in-Ok-None.field-0 c.look_together.result (omega arith) (same_vars old mid mid.words c.settle_at.ensures.writes.adds)
    c.in-Ok-None.ensures.counts c.look_together.ensures.counts
