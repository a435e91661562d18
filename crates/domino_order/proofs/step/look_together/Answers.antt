use Rattle.std.proofs.Common.{ℕ, length, arith}
use Rattle.std.proofs.lemmas.Option.{slice_get_within}
use Rattle.domino_order.proofs.StepFound.{counts_after, gives_stay, keeps_then, raised_shown, settles_all, stays_then}
use Rattle.domino_order.proofs.StepFrames.{bare_together, handles_by_setting, handles_by_together, kept_together, rose_by_setting, rose_by_together, setting_by_together}
use Rattle.domino_order.proofs.StepGives.{together_gives}
use Rattle.domino_order.specs.StepSettings.{together_at}
use Rattle.domino_order.specs.StepWords.{of_rising, settle_operations}
use Rattle.domino_order.proofs.step.look_together.Goals as goal

pub settle_at-requires-clause-bare : goal.settle_at-requires-clause-bare
settle_at-requires-clause-bare c =
    let s = c.args.rising in
    let words = c.args.words in
    let handles = handles_by_setting (of_rising s).circuit words c.args.store.now c.raise.new.store c.requires.words c.raise.ensures.writes in
    bare_together s c.requires.rising words c.raise.new.store handles

pub settle_at-requires-clause-kept : goal.settle_at-requires-clause-kept
settle_at-requires-clause-kept c =
    let s = c.args.rising in
    let words = c.args.words in
    let handles = handles_by_setting (of_rising s).circuit words c.args.store.now c.raise.new.store c.requires.words c.raise.ensures.writes in
    kept_together s c.requires.rising words c.raise.new.store handles

pub settle_at-requires-clause-fixed : goal.settle_at-requires-clause-fixed
settle_at-requires-clause-fixed c =
    let s = c.args.rising in
    let words = c.args.words in
    let old = c.args.store.now in
    let mid = c.raise.new.store in
    let len = c.requires.words.words.setting_len in
    (together_gives (of_rising s) s.phase s.nets.now c.args.net c.requires.rising.inputs c.requires.net words.setting old mid c.requires.start
    (λ m v lt. raised_shown words.setting c.args.net old mid c.raise.ensures.writes c.raise.ensures.here c.raise.ensures.apart c.requires.words.setting m v (omega (arith, lt, len)))).fixed

pub returns-clause-gives : goal.returns-clause-gives
returns-clause-gives c =
    let s = c.args.rising in
    let k = of_rising s in
    let words = c.args.words in
    let old = c.args.store.now in
    let mid = c.raise.new.store in
    let len = c.requires.words.words.setting_len in
    let gives = together_gives k s.phase s.nets.now c.args.net c.requires.rising.inputs c.requires.net words.setting old mid c.requires.start
    (λ m v lt. raised_shown words.setting c.args.net old mid c.raise.ensures.writes c.raise.ensures.here c.raise.ensures.apart c.requires.words.setting m v (omega (arith, lt, len))) in
    settles_all k s.phase s.nets.now c.args.net c.args.care old mid c.settle_at.new.store (λ v. c.raise.ensures.writes.adds.kept c.args.care.0 c.requires.care v)
    (together_at k s.phase s.nets.now c.args.net) words.setting words.together gives c.settle_at.result c.settle_at.ensures.gives

pub returns-clause-setting : goal.returns-clause-setting
returns-clause-setting c =
    let s = c.args.rising in
    let k = of_rising s in
    let words = c.args.words in
    let old = c.args.store.now in
    let mid = c.raise.new.store in
    let len = c.requires.words.words.setting_len in
    let handles = handles_by_setting k.circuit words old mid c.requires.words c.raise.ensures.writes in
    let gives = together_gives k s.phase s.nets.now c.args.net c.requires.rising.inputs c.requires.net words.setting old mid c.requires.start
    (λ m v lt. raised_shown words.setting c.args.net old mid c.raise.ensures.writes c.raise.ensures.here c.raise.ensures.apart c.requires.words.setting m v (omega (arith, lt, len))) in
    gives_stay k s.phase s.nets.now c.args.net (together_at k s.phase s.nets.now c.args.net) words.setting mid c.settle_at.new.store len
    (setting_by_together k.circuit words mid c.settle_at.new.store handles c.settle_at.ensures.writes) gives

pub returns-clause-rose : goal.returns-clause-rose
returns-clause-rose c =
    let nets : ℕ = length (of_rising c.args.rising).circuit.nets in
    let words = c.args.words in
    let old = c.args.store.now in
    let mid = c.raise.new.store in
    let new = c.settle_at.new.store in
    let handles = handles_by_setting (of_rising c.args.rising).circuit words old mid c.requires.words c.raise.ensures.writes in
    stays_then words.rose old mid new (rose_by_setting (of_rising c.args.rising).circuit words old mid c.requires.words c.raise.ensures.writes) (rose_by_together (of_rising c.args.rising).circuit words mid new handles c.settle_at.ensures.writes)

pub returns-clause-handles : goal.returns-clause-handles
returns-clause-handles c =
    let nets : ℕ = length (of_rising c.args.rising).circuit.nets in
    let words = c.args.words in
    let old = c.args.store.now in
    let mid = c.raise.new.store in
    let handles = handles_by_setting (of_rising c.args.rising).circuit words old mid c.requires.words c.raise.ensures.writes in
    handles_by_together (of_rising c.args.rising).circuit words mid c.settle_at.new.store handles c.settle_at.ensures.writes c.settle_at.ensures.live

pub returns-clause-keeps : goal.returns-clause-keeps
returns-clause-keeps c =
    let raised = c.raise.ensures.writes in
    let settled = c.settle_at.ensures.writes in
    keeps_then c.args.store.now c.raise.new.store c.settle_at.new.store (record { adds = raised.adds; len = raised.len }) (record { adds = settled.adds; len = settled.len })

pub returns-clause-counts : goal.returns-clause-counts
returns-clause-counts c =
    counts_after (settle_operations c.args.rising) c.args.store.now c.raise.new.store c.settle_at.new.store c.settle_at.result c.raise.ensures.rest c.settle_at.ensures.counts

pub raise-requires-clause-net : goal.raise-requires-clause-net
raise-requires-clause-net c =
    let circuit = (of_rising c.args.rising).circuit in
    let net = c.requires.rising.inputs c.args.net c.requires.net in
    let lt = slice_get_within circuit.nets c.args.net net.0 net.1 in
    let len = c.requires.words.words.setting_len in omega (arith, lt, len)
