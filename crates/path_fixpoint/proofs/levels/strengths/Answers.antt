use Rattle.std.proofs.Common.{◌+◌, ◌*◌, length, arith}
use Rattle.bdd_core.proofs.Results.{if_ok_more}
use Rattle.path_fixpoint.proofs.SpendingLaws.{gates_beside, spends_behind, spends_more}
use Rattle.bdd_core.proofs.Frames.{writes_then}
use Rattle.path_fixpoint.proofs.RoundLaws.{stands_from, tells_from, words_from}
use Rattle.path_fixpoint.proofs.levels.strengths.Goals as goal
use Rattle.vrt_model.specs.Levels.{source_level}

pub levels-requires-clause-words : goal.levels-requires-clause-words
levels-requires-clause-words c = words_from c.args.circuit.now c.args.part.now c.args.gates c.args.out c.args.store.now c.clear.new.store c.requires.spans c.clear.ensures.writes

pub returns-clause-writes : goal.returns-clause-writes
returns-clause-writes c = writes_then c.args.out.span c.args.store.now c.clear.new.store c.levels.new.store c.clear.ensures.writes c.levels.ensures.writes

pub returns-clause-strengths : goal.returns-clause-strengths
returns-clause-strengths c =
    if_ok_more _ _ c.levels.result
    (λ u h v w st. tells_from c.args.circuit.now c.args.part.now c.args.gates c.args.out c.levels.new.store v w
    (h v w (stands_from c.args.circuit.now c.args.part.now c.args.gates c.args.out c.args.store.now c.clear.new.store v w c.requires.spans c.clear.ensures.writes st)))
    c.levels.ensures.levels

pub returns-clause-few : goal.returns-clause-few
returns-clause-few c u gates =
    let out = c.args.out in
    let size = source_level c.args.circuit.now * (length c.args.part.now.nets * (length c.args.part.now.devices * 4)) in
    let first = c.args.store.now in
    let mid = c.clear.new.store in
    let cleared = c.clear.ensures.few u in
    spends_more u out.span (0 + size) size first c.levels.new.store c.levels.result (omega arith)
    (spends_behind u out.span 0 size first mid c.levels.new.store c.levels.result cleared.counted
    (c.levels.ensures.few u (gates_beside u c.args.circuit.now c.args.part.now c.requires.circuit out.span c.args.gates first mid c.requires.spans.gates_len c.clear.ensures.writes c.requires.spans.apart c.requires.spans.gates_live gates) cleared.within))
