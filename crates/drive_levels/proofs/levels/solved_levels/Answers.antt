use Rattle.std.proofs.Common.{ℕ, Bool, Err, Ok, Option, List, arith, length, ap, sym, ◌∙◌, subst}
use Rattle.std.specs.Prelude.{sum_by}
use Rattle.std.proofs.lemmas.Result.{IfOk-weaker}
use Rattle.bdd_core.specs.Store.{function_of}
use Rattle.bdd_ops.proofs.CountingLaws.{counts_more, counts_then}
use Rattle.circuit_faults.proofs.KeptCases.{keeper_none}
use Rattle.drive_levels.proofs.NetLevelLaws.{table_gives, tables_give}
use Rattle.output_levels.proofs.PartLevelLaws.{gates_within, in_then, spans_later, told_first, words_care}
use Rattle.output_levels.specs.PartLevels.{level_operations}
use Rattle.drive_levels.specs.NetLevels.{LevelsGive, NetGives, drive_operations, level_by}
use Rattle.drive_levels.specs.PhaseLevels.{level_in}
use Rattle.drive_levels.proofs.levels.solved_levels.Goals as goal

pub circuit_levels-requires-clause-asked : goal.circuit_levels-requires-clause-asked
circuit_levels-requires-clause-asked c = (ap (λ (marks : List Bool). length marks) c.as_slice-asked.ensures.value ∙ c.requires.levels.asked, c.requires.levels.bare)

pub circuit_levels-requires-2-clause-asked : goal.circuit_levels-requires-2-clause-asked
circuit_levels-requires-2-clause-asked c = (ap (λ (marks : List Bool). length marks) c.as_slice-asked.ensures.value ∙ c.requires.levels.asked, c.requires.levels.kept)

pub circuit_levels-requires-2-clause-care : goal.circuit_levels-requires-2-clause-care
circuit_levels-requires-2-clause-care c = (let live = c.requires.care in let longer = c.circuit_levels.ensures.writes.adds.longer in omega (arith, live, longer))

pub circuit_levels-requires-2-clause-spans : goal.circuit_levels-requires-2-clause-spans
circuit_levels-requires-2-clause-spans c =
    spans_later c.args.out c.args.circuit.now c.args.kept.now c.args.kept.now c.args.gates c.args.store.now c.circuit_levels.new.store c.circuit_levels.ensures.writes c.requires.spans.1 (λ part m. m)

pub returns-in-Err-clause-few : goal.returns-in-Err-clause-few
returns-in-Err-clause-few c u care gates =
    counts_more u (sum_by (level_operations c.args.circuit.now) c.args.bare.now) (drive_operations c.args.circuit.now c.args.bare.now c.args.kept.now) c.args.store.now c.circuit_levels.new.store (Err c.in-Err.spent)
    (omega arith) (c.in-Err.ensures.few u care gates)

pub returns-then-not-has_keeper-clause-gives : goal.returns-then-not-has_keeper-clause-gives
returns-then-not-has_keeper-clause-gives c =
    let circuit = c.args.circuit.now in
    let asked = c.as_slice-asked.result.now in
    let table = c.circuit_levels.new.levels.items in
    let copied = c.copy_levels.ensures ∙ c.as_slice.ensures.value in
    let levels = level_in circuit (record { asked = c.args.levels.now.asked; bare = c.circuit_levels.new.levels; kept = c.copy_levels.new.copy }) in
    subst (λ (marks : List Bool). LevelsGive circuit c.args.bare.now c.args.kept.now marks c.args.care c.args.gates c.args.store.now levels) c.as_slice-asked.ensures.value
    (λ phase observed setting roots solved of_bare of_kept n inside mark.
    subst (λ (kept_table : List (Option ℕ)). NetGives circuit phase observed setting (function_of c.args.store.now c.args.care) n (level_by circuit table kept_table n)) (sym copied)
    (table_gives circuit phase observed setting c.args.care roots c.args.gates c.args.store.now solved (keeper_none circuit (sym c.has_keeper.ensures ∙ c.if-not-has_keeper.true)) c.args.bare.now of_bare asked table
    c.in-Ok.ensures.gives n inside mark))

pub returns-then-not-has_keeper-clause-few : goal.returns-then-not-has_keeper-clause-few
returns-then-not-has_keeper-clause-few c u care gates =
    counts_more u (sum_by (level_operations c.args.circuit.now) c.args.bare.now) (drive_operations c.args.circuit.now c.args.bare.now c.args.kept.now) c.args.store.now c.circuit_levels.new.store (Ok tt)
    (omega arith) (c.in-Ok.ensures.few u care gates)

pub returns-clause-writes : goal.returns-clause-writes
returns-clause-writes c = in_then c.args.out c.args.store.now c.circuit_levels.new.store c.circuit_levels-2.new.store c.circuit_levels.ensures.writes c.circuit_levels-2.ensures.writes

pub returns-clause-gives : goal.returns-clause-gives
returns-clause-gives c =
    let circuit = c.args.circuit.now in
    let asked = c.as_slice-asked.result.now in
    let levels = level_in circuit (record { asked = c.args.levels.now.asked; bare = c.circuit_levels.new.levels; kept = c.circuit_levels-2.new.levels }) in
    IfOk-weaker c.circuit_levels-2.result _ _
    (λ x told.
    subst (λ (marks : List Bool). LevelsGive circuit c.args.bare.now c.args.kept.now marks c.args.care c.args.gates c.args.store.now levels) c.as_slice-asked.ensures.value
    (λ phase observed setting roots solved of_bare of_kept.
    tables_give circuit phase observed setting c.args.care roots c.args.gates c.args.store.now solved c.args.bare.now c.args.kept.now of_bare of_kept asked c.circuit_levels.new.levels.items c.circuit_levels-2.new.levels.items
    c.in-Ok.ensures.gives
    (λ n part there inside mark.
    told_first circuit c.args.kept.now asked c.args.gates c.args.out c.args.care c.args.store.now c.circuit_levels.new.store c.requires.care c.requires.spans.1 c.circuit_levels.ensures.writes c.circuit_levels-2.new.levels.items n
    (told n part there inside mark))))
    c.circuit_levels-2.ensures.gives

pub returns-clause-few : goal.returns-clause-few
returns-clause-few c u care gates =
    let first = c.args.store.now in
    let mid = c.circuit_levels.new.store in
    let writes = c.circuit_levels.ensures.writes in
    counts_then u (sum_by (level_operations c.args.circuit.now) c.args.bare.now) (sum_by (level_operations c.args.circuit.now) c.args.kept.now) first mid c.circuit_levels-2.new.store c.circuit_levels-2.result
    (c.in-Ok.ensures.few u care gates).added
    (c.circuit_levels-2.ensures.few u (words_care u c.args.out first mid c.args.care writes c.requires.care care) (gates_within c.args.out c.args.gates first mid c.requires.spans.1.apart writes u c.requires.spans.1.gates_live gates))
