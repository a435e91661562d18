use Rattle.std.proofs.Common.{ℕ, ◌+◌, ◌*◌, length, Err, true, false, ap, arith, ◌≡◌}
use Rattle.bdd_core.proofs.Results.{if_ok_more}
use Rattle.vrt_model.specs.Path.{Network}
use Rattle.path_fixpoint.specs.Parts.{pins_at, pins_of}
use Rattle.path_fixpoint.specs.Reaching.{HasRootWords, SolvedAt}
use Rattle.path_fixpoint.specs.Solved.{network_at}
use Rattle.bdd_ops.proofs.CountingLaws.{counted_then}
use Rattle.bdd_core.proofs.Frames.{filled_beside, writes_then}
use Rattle.path_fixpoint.proofs.SpendingLaws.{gates_beside, part_most, part_most_levels, part_most_one, roots_beside, spends_behind, spends_more}
use Rattle.path_fixpoint.proofs.ReachLaws.{root_words_kept, solved_kept}
use Rattle.path_fixpoint.proofs.SolveLaws.{both_reach, root_words_from, solved_from, stands_here, strength_here, tells_stay, zeros_stay}
use Rattle.path_fixpoint.proofs.solve.solve_words.Goals as goal
use Rattle.vrt_model.specs.Levels.{source_level}

pub reaches-requires-clause-words : goal.reaches-requires-clause-words
reaches-requires-clause-words c =
    root_words_from c.args.circuit.now c.args.part.now c.requires.part c.requires.circuit c.args.gates c.args.roots c.args.out c.args.store.now c.strengths.new.store c.requires.spans c.in-Ok.ensures.writes

pub reaches-requires-2-clause-words : goal.reaches-requires-2-clause-words
reaches-requires-2-clause-words c =
    root_words_kept c.args.circuit.now c.args.part.now c.requires.part c.requires.circuit c.args.gates c.args.roots c.args.out false c.strengths.new.store c.reaches.new.store
    (root_words_from c.args.circuit.now c.args.part.now c.requires.part c.requires.circuit c.args.gates c.args.roots c.args.out c.args.store.now c.strengths.new.store c.requires.spans c.in-Ok.ensures.writes)
    c.in-Ok-reaches.ensures.writes

pub returns-in-Err-reaches-clause-writes : goal.returns-in-Err-reaches-clause-writes
returns-in-Err-reaches-clause-writes c = writes_then c.args.out.span c.args.store.now c.strengths.new.store c.reaches.new.store c.in-Ok.ensures.writes c.in-Err-reaches.ensures.writes

pub returns-clause-writes : goal.returns-clause-writes
returns-clause-writes c =
    writes_then c.args.out.span c.args.store.now c.reaches.new.store c.reaches-2.new.store
    (writes_then c.args.out.span c.args.store.now c.strengths.new.store c.reaches.new.store c.in-Ok.ensures.writes c.in-Ok-reaches.ensures.writes) c.reaches-2.ensures.writes

pub returns-clause-strengths : goal.returns-clause-strengths
returns-clause-strengths c =
    let circuit = c.args.circuit.now in
    let part = c.args.part.now in
    let is_part = c.requires.part in
    let in_range = c.requires.circuit in
    let gates = c.args.gates in
    let roots = c.args.roots in
    let out = c.args.out in
    let old = c.args.store.now in
    let a = c.strengths.new.store in
    let b = c.reaches.new.store in
    let d = c.reaches-2.new.store in
    let words_a : HasRootWords circuit part gates roots out a = root_words_from circuit part is_part in_range gates roots out old a c.requires.spans c.in-Ok.ensures.writes in
    let words_b : HasRootWords circuit part gates roots out b = root_words_kept circuit part is_part in_range gates roots out false a b words_a c.in-Ok-reaches.ensures.writes in
    if_ok_more _ _ c.reaches-2.result
    (λ u h v.
    let w : Network = network_at old circuit part gates roots v in
    tells_stay circuit part is_part in_range gates roots out true b d v w words_b c.reaches-2.ensures.writes c.reaches-2.ensures.apart
    (tells_stay circuit part is_part in_range gates roots out false a b v w words_a c.in-Ok-reaches.ensures.writes c.in-Ok-reaches.ensures.apart
    (c.in-Ok.ensures.strengths v w (stands_here circuit part is_part in_range gates roots out old v))))
    c.reaches-2.ensures.reach

pub returns-clause-reaches : goal.returns-clause-reaches
returns-clause-reaches c =
    let circuit = c.args.circuit.now in
    let part = c.args.part.now in
    let is_part = c.requires.part in
    let in_range = c.requires.circuit in
    let gates = c.args.gates in
    let roots = c.args.roots in
    let out = c.args.out in
    let old = c.args.store.now in
    let a = c.strengths.new.store in
    let b = c.reaches.new.store in
    let d = c.reaches-2.new.store in
    let words_a : HasRootWords circuit part gates roots out a = root_words_from circuit part is_part in_range gates roots out old a c.requires.spans c.in-Ok.ensures.writes in
    let words_b : HasRootWords circuit part gates roots out b = root_words_kept circuit part is_part in_range gates roots out false a b words_a c.in-Ok-reaches.ensures.writes in
    if_ok_more _ _ c.reaches-2.result
    (λ u h soft v.
    let w : Network = network_at old circuit part gates roots v in
    let s : ℕ → ℕ = λ n. (strength_here circuit part is_part in_range gates roots out old v n).0 in
    let tells = c.in-Ok.ensures.strengths v w (stands_here circuit part is_part in_range gates roots out old v) in
    let solved : SolvedAt circuit part gates roots out a v w s = solved_from circuit part is_part in_range gates roots out old a v soft c.requires.spans c.in-Ok.ensures.writes tells in
    let later : SolvedAt circuit part gates roots out b v w s = solved_kept circuit part is_part in_range gates roots out false a b v w s words_a c.in-Ok-reaches.ensures.writes c.in-Ok-reaches.ensures.apart solved in
    both_reach circuit part is_part in_range gates roots out d v w
    (zeros_stay circuit part is_part in_range gates roots out b d v w words_b c.reaches-2.ensures.writes c.reaches-2.ensures.apart (c.in-Ok-reaches.ensures.reach v w s solved))
    (h v w s later))
    c.reaches-2.ensures.reach

pub returns-in-Err-clause-few : goal.returns-in-Err-clause-few
returns-in-Err-clause-few c one u gates roots =
    let out = c.args.out in
    let n = length c.args.part.now.nets in
    let m = length c.args.part.now.devices in
    let r = pins_at c.args.part.now (pins_of c.args.circuit.now) in
    let old = c.args.store.now in
    let a = c.strengths.new.store in
    let spans = c.requires.spans in
    let s = source_level c.args.circuit.now in
    let first = s * (n * (m * 4)) in
    let of_source : ℕ → ℕ = λ x. n * 6 + r * 3 + n * (m * (4 * x + 6)) in
    let each = of_source s in
    let same : of_source out.source ≡ each = ap of_source spans.spans.source in
    let most = (12 * s + 12) * (n * m) + 12 * n + 6 * r in
    spends_more u out.span first most old a (Err c.in-Err.spent) (part_most_levels s n m r) (c.in-Err.ensures.few u gates)

pub returns-in-Err-reaches-clause-few : goal.returns-in-Err-reaches-clause-few
returns-in-Err-reaches-clause-few c one u gates roots =
    let out = c.args.out in
    let n = length c.args.part.now.nets in
    let m = length c.args.part.now.devices in
    let r = pins_at c.args.part.now (pins_of c.args.circuit.now) in
    let old = c.args.store.now in
    let a = c.strengths.new.store in
    let spans = c.requires.spans in
    let s = source_level c.args.circuit.now in
    let first = s * (n * (m * 4)) in
    let of_source : ℕ → ℕ = λ x. n * 6 + r * 3 + n * (m * (4 * x + 6)) in
    let each = of_source s in
    let same : of_source out.source ≡ each = ap of_source spans.spans.source in
    let most = (12 * s + 12) * (n * m) + 12 * n + 6 * r in
    let wa = c.in-Ok.ensures.writes in
    let found = c.in-Ok.ensures.few u gates in
    let gates_a = gates_beside u c.args.circuit.now c.args.part.now c.requires.circuit out.span c.args.gates old a spans.spans.gates_len wa spans.spans.apart spans.spans.gates_live gates in
    let roots_a = roots_beside u c.args.circuit.now c.args.part.now c.requires.part c.args.roots spans.roots_len out.span old a wa spans.roots_apart spans.roots_live roots in
    let new = c.reaches.new.store in
    spends_more u out.span (first + each) most old new (Err c.in-Err-reaches.spent) (part_most_one s n m r)
    (spends_behind u out.span first each old a new (Err c.in-Err-reaches.spent) found.counts.added (spends_more u out.span (of_source out.source) each a new (Err c.in-Err-reaches.spent) (omega (arith, same)) (c.in-Err-reaches.ensures.few one u gates_a roots_a found.within)))

pub returns-clause-few : goal.returns-clause-few
returns-clause-few c one u gates roots =
    let out = c.args.out in
    let n = length c.args.part.now.nets in
    let m = length c.args.part.now.devices in
    let r = pins_at c.args.part.now (pins_of c.args.circuit.now) in
    let old = c.args.store.now in
    let a = c.strengths.new.store in
    let spans = c.requires.spans in
    let s = source_level c.args.circuit.now in
    let first = s * (n * (m * 4)) in
    let of_source : ℕ → ℕ = λ x. n * 6 + r * 3 + n * (m * (4 * x + 6)) in
    let each = of_source s in
    let same : of_source out.source ≡ each = ap of_source spans.spans.source in
    let most = (12 * s + 12) * (n * m) + 12 * n + 6 * r in
    let wa = c.in-Ok.ensures.writes in
    let found = c.in-Ok.ensures.few u gates in
    let gates_a = gates_beside u c.args.circuit.now c.args.part.now c.requires.circuit out.span c.args.gates old a spans.spans.gates_len wa spans.spans.apart spans.spans.gates_live gates in
    let roots_a = roots_beside u c.args.circuit.now c.args.part.now c.requires.part c.args.roots spans.roots_len out.span old a wa spans.roots_apart spans.roots_live roots in
    let b = c.reaches.new.store in
    let wb = c.in-Ok-reaches.ensures.writes in
    let zeros = spends_more u out.span (of_source out.source) each a b _ (omega (arith, same)) (c.in-Ok-reaches.ensures.few one u gates_a roots_a found.within) in
    let gates_b = gates_beside u c.args.circuit.now c.args.part.now c.requires.circuit out.span c.args.gates a b spans.spans.gates_len wb spans.spans.apart (filled_beside out.span c.args.gates old a wa spans.spans.apart spans.spans.gates_live) gates_a in
    let roots_b = roots_beside u c.args.circuit.now c.args.part.now c.requires.part c.args.roots spans.roots_len out.span a b wb spans.roots_apart (filled_beside out.span c.args.roots old a wa spans.roots_apart spans.roots_live) roots_a in
    let count = counted_then u first each old a b found.counts.added zeros.counts.added in
    let new = c.reaches-2.new.store in
    spends_more u out.span (first + each + each) most old new c.reaches-2.result (part_most s n m r)
    (spends_behind u out.span (first + each) each old b new c.reaches-2.result count (spends_more u out.span (of_source out.source) each b new c.reaches-2.result (omega (arith, same)) (c.reaches-2.ensures.few one u gates_b roots_b zeros.within)))
