use Rattle.std.proofs.Common.{ℕ, ◌+◌, ◌*◌, ap, arith, length}
use Rattle.bdd_core.specs.Store.{Diagrams}
use Rattle.output_functions.proofs.Between.{between_next, outputs_spent, outputs_within, refused_more}
use Rattle.output_functions.proofs.Meaning.{phase_joined}
use Rattle.output_functions.specs.Phases.{solved_operations}
use Rattle.phase_check.proofs.Stays.{solved_bits}
use Rattle.phase_terms.specs.Ready.{comparison_in}
use Rattle.vrt_model.specs.Held.{sources_of}
use Rattle.output_functions.proofs.phase.join_phase.Goals as goal

pub returns-in-Err-clause-gives : goal.returns-in-Err-clause-gives
returns-in-Err-clause-gives c made between =
    let opening = c.args.opening in
    let k = comparison_in opening.compared in
    let few : ℕ = made + solved_operations k opening.phase opening.plan.now in
    refused_more k opening.phase c.args.store.now.budget few (few + 2 * length c.args.wishes.now) opening.plan.now opening.words c.solved.new.store c.args.functions.now.items c.in-Err.stop (omega arith)
    (c.in-Err.ensures.gives made between)

pub join_outputs-requires-clause-within : goal.join_outputs-requires-clause-within
join_outputs-requires-clause-within c =
    let opening = c.args.opening in
    outputs_within (comparison_in opening.compared) opening.phase opening.words.gates.len (length c.args.functions.now.items) c.args.wishes.now c.requires.search.ready c.requires.wishes
    c.requires.between.1.store.words.gates_len c.requires.joined.len

pub returns-in-Ok-join_outputs-clause-gives : goal.returns-in-Ok-join_outputs-clause-gives
returns-in-Ok-join_outputs-clause-gives c made between =
    let opening = c.args.opening in
    let k = comparison_in opening.compared in
    let phase = opening.phase in
    let ops : ℕ = made + solved_operations k phase opening.plan.now in
    let mid = c.solved.new.store in
    let new = c.join_outputs.new.store in
    let care = c.in-Ok.care in
    let s = c.in-Ok.ensures.gives made between in
    let done = c.in-Ok-join_outputs.ensures in (
      between_next k phase mid.budget ops (2 * length c.args.wishes.now) opening.plan.now care opening.words mid new s done.adds
          (done.counts (length (sources_of k phase)) ops s.searched.store.used).added,
      phase_joined k phase opening.words c.args.store.now mid new care c.args.wishes.now c.args.functions.now.items c.join_outputs.new.functions.items c.requires.search.ready c.requires.search.there
          c.requires.equal c.requires.own c.requires.same c.requires.wishes (solved_bits k phase care opening.words mid s.searched.opened s.solved) s.searched.opened.care_is c.in-Ok.ensures.adds
          done.joined c.requires.joined,
    )

pub returns-in-Err-join_outputs-clause-gives : goal.returns-in-Err-join_outputs-clause-gives
returns-in-Err-join_outputs-clause-gives c made between =
    let opening = c.args.opening in
    let k = comparison_in opening.compared in
    let phase = opening.phase in
    let ops : ℕ = made + solved_operations k phase opening.plan.now in
    let s = c.in-Ok.ensures.gives made between in
    outputs_spent k phase c.args.store.now.budget ops (2 * length c.args.wishes.now) opening.plan.now c.in-Ok.care opening.words c.solved.new.store c.join_outputs.new.store c.in-Err-join_outputs.field-0
    c.requires.budget (ap (λ (d : Diagrams). d.budget) c.in-Ok.ensures.adds.rest) s (c.in-Err-join_outputs.ensures.counts (length (sources_of k phase)) ops s.searched.store.used)
