use Rattle.std.proofs.Common.{◌+◌, ◌*◌, length, Err, arith}
use Rattle.bdd_core.proofs.Results.{if_ok_more}
use Rattle.path_fixpoint.proofs.SpendingLaws.{gates_beside, roots_beside, spends_behind, spends_more}
use Rattle.bdd_core.proofs.Frames.{writes_then}
use Rattle.path_fixpoint.proofs.ReachLaws.{root_words_kept, solved_kept}
use Rattle.path_fixpoint.specs.Parts.{pins_at, pins_of}
use Rattle.path_fixpoint.proofs.solve.reaches.Goals as goal

pub settle-requires-clause-words : goal.settle-requires-clause-words
settle-requires-clause-words c =
    root_words_kept c.args.circuit.now c.args.part.now c.requires.part.1 c.requires.part.0 c.args.gates c.args.roots c.args.out c.args.value c.args.store.now c.open.new.store c.requires.words c.in-Ok.ensures.writes

pub returns-clause-writes : goal.returns-clause-writes
returns-clause-writes c = writes_then c.args.out.span c.args.store.now c.open.new.store c.settle.new.store c.in-Ok.ensures.writes c.settle.ensures.writes

pub returns-clause-reach : goal.returns-clause-reach
returns-clause-reach c =
    if_ok_more _ _ c.settle.result
    (λ u h v w s is. h v w s
    (solved_kept c.args.circuit.now c.args.part.now c.requires.part.1 c.requires.part.0 c.args.gates c.args.roots c.args.out c.args.value c.args.store.now c.open.new.store v w s
    c.requires.words c.in-Ok.ensures.writes c.in-Ok.ensures.apart is)
    (c.in-Ok.ensures.roots v w s is) (c.in-Ok.ensures.paths v w s is))
    c.settle.ensures.reach

pub returns-in-Err-clause-few : goal.returns-in-Err-clause-few
returns-in-Err-clause-few c one u gates roots all =
    let n = length c.args.part.now.nets in
    let r = pins_at c.args.part.now (pins_of c.args.circuit.now) in
    let size = n * (length c.args.part.now.devices * (4 * c.args.out.source + 6)) in
    spends_more u c.args.out.span (n * 6 + r * 3) (n * 6 + r * 3 + size) c.args.store.now c.open.new.store (Err c.in-Err.spent) (omega arith) (c.in-Err.ensures.few one u roots all)

pub returns-clause-few : goal.returns-clause-few
returns-clause-few c one u gates roots all =
    let out = c.args.out in
    let n = length c.args.part.now.nets in
    let r = pins_at c.args.part.now (pins_of c.args.circuit.now) in
    let size = n * (length c.args.part.now.devices * (4 * c.args.out.source + 6)) in
    let words = c.requires.words in
    let old = c.args.store.now in
    let mid = c.open.new.store in
    let wrote = c.in-Ok.ensures.writes in
    let opened = c.in-Ok.ensures.few one u roots all in
    spends_behind u out.span (n * 6 + r * 3) size old mid c.settle.new.store c.settle.result opened.counts.added
    (c.settle.ensures.few u (gates_beside u c.args.circuit.now c.args.part.now c.requires.part.0 out.span c.args.gates old mid words.words.gates_len wrote words.words.apart words.words.gates_live gates) (roots_beside u c.args.circuit.now c.args.part.now c.requires.part.1 c.args.roots words.roots_len out.span old mid wrote words.roots_apart words.roots_live roots) opened.within)
