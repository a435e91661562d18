use Rattle.std.proofs.Common.{◌+◌, ◌*◌, Ok, length, arith, ◌∙◌}
use Rattle.bdd_core.proofs.Results.{if_ok_more}
use Rattle.bdd_core.proofs.Frames.{writes_then}
use Rattle.bdd_ops.proofs.CountingLaws.{counts_more, counts_ok}
use Rattle.path_fixpoint.proofs.RoundLaws.{stands_kept, words_kept}
use Rattle.path_fixpoint.proofs.SpendingLaws.{gates_beside, spends_behind, spends_more}
use Rattle.path_fixpoint.proofs.Unused.{level_above}
use Rattle.path_fixpoint.proofs.levels.make_level.Goals as goal

pub returns-then-is_unused-clause-level : goal.returns-then-is_unused-clause-level
returns-then-is_unused-clause-level c v w st upper =
    let unused = c.is_unused.ensures c.if-is_unused.true in
    level_above c.args.circuit.now c.args.part.now c.args.gates c.args.out c.args.level unused c.args.store.now c.take_above.new.store v w
    c.requires.words c.take_above.ensures.writes c.take_above.ensures.taken st (upper (omega (arith, unused.0, c.requires.words.source)))

pub returns-then-is_unused-clause-few : goal.returns-then-is_unused-clause-few
returns-then-is_unused-clause-few c u gates all =
    let part = c.args.part.now in
    let size = length part.nets * (length part.devices * 4) in
    let taken = c.take_above.ensures.few u all in
    record {
      counts = counts_more u 0 size c.args.store.now c.take_above.new.store (Ok tt) (omega arith) (counts_ok u 0 c.args.store.now c.take_above.new.store tt taken.counted);
      within = taken.within;
    }

pub settle-requires-clause-words : goal.settle-requires-clause-words
settle-requires-clause-words c = words_kept c.args.circuit.now c.args.part.now c.args.gates c.args.out c.args.store.now c.open.new.store c.requires.words c.open.ensures.writes

pub returns-clause-writes : goal.returns-clause-writes
returns-clause-writes c = writes_then c.args.out.span c.args.store.now c.open.new.store c.settle.new.store c.open.ensures.writes c.settle.ensures.writes

pub returns-clause-apart : goal.returns-clause-apart
returns-clause-apart c k away = c.settle.ensures.apart k away ∙ c.open.ensures.apart k away

pub returns-clause-level : goal.returns-clause-level
returns-clause-level c =
    if_ok_more _ _ c.settle.result
    (λ u h v w st upper. h v w (stands_kept c.args.circuit.now c.args.part.now c.args.gates c.args.out c.args.store.now c.open.new.store v w c.requires.words c.open.ensures.writes st)
    (c.open.ensures.roots v w st) (c.open.ensures.paths v w st upper))
    c.settle.ensures.level

pub returns-clause-few : goal.returns-clause-few
returns-clause-few c u gates all =
    let out = c.args.out in
    let part = c.args.part.now in
    let size = length part.nets * (length part.devices * 4) in
    let first = c.args.store.now in
    let mid = c.open.new.store in
    let opened = c.open.ensures.few u all in
    spends_more u out.span (0 + size) size first c.settle.new.store c.settle.result (omega arith)
    (spends_behind u out.span 0 size first mid c.settle.new.store c.settle.result opened.counted
    (c.settle.ensures.few u (gates_beside u c.args.circuit.now c.args.part.now c.requires.part.0 out.span c.args.gates first mid c.requires.words.gates_len c.open.ensures.writes c.requires.words.apart c.requires.words.gates_live gates) opened.within))
