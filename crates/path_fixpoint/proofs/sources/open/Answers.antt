use Rattle.std.proofs.Common.{◌+◌, ◌*◌, length, Err, arith}
use Rattle.bdd_core.proofs.Results.{if_ok_more}
use Rattle.bdd_ops.proofs.CountingLaws.{counted_then}
use Rattle.bdd_core.proofs.Frames.{filled_beside}
use Rattle.path_fixpoint.proofs.SpendingLaws.{roots_beside, spends_behind, spends_more}
use Rattle.path_fixpoint.proofs.SourceLaws.{source_paths, source_roots}
use Rattle.path_fixpoint.specs.Parts.{pins_at, pins_of}
use Rattle.path_fixpoint.proofs.sources.open.Goals as goal

pub returns-clause-roots : goal.returns-clause-roots
returns-clause-roots c =
    if_ok_more _ _ c.add_pins.result
    (λ u h v w s is. source_roots c.args.circuit.now c.args.part.now c.requires.part.1 c.requires.part.0 c.args.gates c.args.roots c.args.out c.args.value
    c.args.store.now c.clear.new.store c.add_given.new.store c.add_holds.new.store c.add_pins.new.store c.requires.words c.clear.ensures.zero c.clear.ensures.writes c.clear.ensures.apart
    c.in-Ok.ensures.writes c.in-Ok.ensures.apart c.in-Ok-add_holds.ensures.writes c.in-Ok-add_holds.ensures.apart c.in-Ok.ensures.adds c.in-Ok-add_holds.ensures.adds h v w s is)
    c.add_pins.ensures.adds

pub returns-clause-paths : goal.returns-clause-paths
returns-clause-paths c =
    if_ok_more _ _ c.add_pins.result
    (λ u h v w s is. source_paths c.args.circuit.now c.args.part.now c.requires.part.1 c.requires.part.0 c.args.gates c.args.roots c.args.out c.args.value
    c.args.store.now c.clear.new.store c.add_given.new.store c.add_holds.new.store c.add_pins.new.store c.requires.words c.clear.ensures.zero c.clear.ensures.writes c.clear.ensures.apart
    c.in-Ok.ensures.writes c.in-Ok.ensures.apart c.in-Ok-add_holds.ensures.writes c.in-Ok-add_holds.ensures.apart c.in-Ok.ensures.adds c.in-Ok-add_holds.ensures.adds h v w s is)
    c.add_pins.ensures.adds

pub returns-in-Err-clause-few : goal.returns-in-Err-clause-few
returns-in-Err-clause-few c one u roots all =
    let out = c.args.out in
    let n = length c.args.part.now.nets in
    let r = pins_at c.args.part.now (pins_of c.args.circuit.now) in
    let old = c.args.store.now in
    let mid = c.clear.new.store in
    let cleared = c.clear.ensures.few u all in
    let held = roots_beside u c.args.circuit.now c.args.part.now c.requires.part.1 c.args.roots c.requires.words.roots_len out.span old mid c.clear.ensures.writes c.requires.words.roots_apart c.requires.words.roots_live roots in
    spends_more u out.span (0 + n * 3) (n * 6 + r * 3) old c.add_given.new.store (Err c.in-Err.spent) (omega arith)
    (spends_behind u out.span 0 (n * 3) old mid c.add_given.new.store (Err c.in-Err.spent) cleared.counted (c.in-Err.ensures.few u held cleared.within))

pub returns-in-Err-add_holds-clause-few : goal.returns-in-Err-add_holds-clause-few
returns-in-Err-add_holds-clause-few c one u roots all =
    let out = c.args.out in
    let n = length c.args.part.now.nets in
    let r = pins_at c.args.part.now (pins_of c.args.circuit.now) in
    let old = c.args.store.now in
    let mid = c.clear.new.store in
    let late = c.add_given.new.store in
    let cleared = c.clear.ensures.few u all in
    let wrote = c.clear.ensures.writes in
    let held = roots_beside u c.args.circuit.now c.args.part.now c.requires.part.1 c.args.roots c.requires.words.roots_len out.span old mid wrote c.requires.words.roots_apart c.requires.words.roots_live roots in
    let live = filled_beside out.span c.args.roots old mid wrote c.requires.words.roots_apart c.requires.words.roots_live in
    let given = c.in-Ok.ensures.few u held cleared.within in
    let held' = roots_beside u c.args.circuit.now c.args.part.now c.requires.part.1 c.args.roots c.requires.words.roots_len out.span mid late c.in-Ok.ensures.writes c.requires.words.roots_apart live held in
    spends_more u out.span (0 + n * 3 + n * 3) (n * 6 + r * 3) old c.add_holds.new.store (Err c.in-Err-add_holds.spent) (omega arith)
    (spends_behind u out.span (0 + n * 3) (n * 3) old late c.add_holds.new.store (Err c.in-Err-add_holds.spent) (counted_then u 0 (n * 3) old mid late cleared.counted given.counts.added)
    (c.in-Err-add_holds.ensures.few one u held' given.within))

pub returns-clause-few : goal.returns-clause-few
returns-clause-few c one u roots all =
    let out = c.args.out in
    let n = length c.args.part.now.nets in
    let r = pins_at c.args.part.now (pins_of c.args.circuit.now) in
    let old = c.args.store.now in
    let mid = c.clear.new.store in
    let late = c.add_given.new.store in
    let last = c.add_holds.new.store in
    let cleared = c.clear.ensures.few u all in
    let wrote = c.clear.ensures.writes in
    let held = roots_beside u c.args.circuit.now c.args.part.now c.requires.part.1 c.args.roots c.requires.words.roots_len out.span old mid wrote c.requires.words.roots_apart c.requires.words.roots_live roots in
    let live = filled_beside out.span c.args.roots old mid wrote c.requires.words.roots_apart c.requires.words.roots_live in
    let given = c.in-Ok.ensures.few u held cleared.within in
    let held' = roots_beside u c.args.circuit.now c.args.part.now c.requires.part.1 c.args.roots c.requires.words.roots_len out.span mid late c.in-Ok.ensures.writes c.requires.words.roots_apart live held in
    let live' = filled_beside out.span c.args.roots mid late c.in-Ok.ensures.writes c.requires.words.roots_apart live in
    let kept = c.in-Ok-add_holds.ensures.few one u held' given.within in
    let held'' = roots_beside u c.args.circuit.now c.args.part.now c.requires.part.1 c.args.roots c.requires.words.roots_len out.span late last c.in-Ok-add_holds.ensures.writes c.requires.words.roots_apart live' held' in
    let count = counted_then u (0 + n * 3) (n * 3) old late last (counted_then u 0 (n * 3) old mid late cleared.counted given.counts.added) kept.counts.added in
    spends_more u out.span (0 + n * 3 + n * 3 + r * 3) (n * 6 + r * 3) old c.add_pins.new.store c.add_pins.result (omega arith)
    (spends_behind u out.span (0 + n * 3 + n * 3) (r * 3) old last c.add_pins.new.store c.add_pins.result count (c.add_pins.ensures.few u held'' kept.within))
