use Rattle.std.proofs.Common.{List, ap, length, ◌∙◌}
use Rattle.std.specs.Prelude.{replicate}
use Rattle.bdd_core.specs.Store.{Diagrams}
use Rattle.bdd_core.specs.declared.handle.H.{H}
use Rattle.output_functions.proofs.Start.{functions_refused, joinable_of, joined_of, start_joined}
use Rattle.phase_terms.specs.Ready.{comparison_in}
use Rattle.vrt_model.specs.declared.groups.Source.{Source}
use Rattle.output_functions.proofs.functions.output_functions.Goals as goal

pub join_phases-requires-clause-phases : goal.join_phases-requires-clause-phases
join_phases-requires-clause-phases c =
    let made = c.phases_of-phases.ensures in
    joinable_of c.phases_of-phases.result c.args.compared c.args.plans.now made.compared made.plans c.args.vars.now made.vars c.requires.ready c.requires.wholes c.requires.equal c.requires.own
    c.requires.vars c.requires.plans

pub join_phases-requires-clause-joined : goal.join_phases-requires-clause-joined
join_phases-requires-clause-joined c =
    let made = c.phases_of-phases.ensures in
    let taken = c.take_words-words.ensures in
    let mid = c.take_words-words.new.store in
    let zeros = c.in-Ok-no_functions.ensures ∙ ap (λ n. replicate n (let zero : H = record { 0 = 0 } in zero)) c.len.ensures in
    joined_of c.phases_of-phases.result c.args.compared c.args.plans.now made.compared made.plans mid.budget c.take_words-words.result mid c.in-Ok-no_functions.handles.items made.words
    (start_joined (comparison_in c.args.compared) c.args.plans.now c.args.budget c.word_count.result c.args.counts c.take_words-words.result c.in-Ok.store mid c.in-Ok-no_functions.handles.items
    c.in-Ok.ensures.opened taken.rest c.requires.counts (c.requires.variables ∙ ap (λ (ss : List Source). length ss) (c.requires.vars 0)) taken.words taken.roots taken.inputs taken.held zeros)

pub returns-in-Err : goal.returns-in-Err
returns-in-Err c =
    let made = c.phases_of-phases.ensures in
    let mid = c.take_words-words.new.store in
    functions_refused c.phases_of-phases.result c.args.compared c.args.plans.now made.compared made.plans c.args.budget mid.budget c.args.counts.variables c.phases_of-phases.result.words
    c.join_phases.new.store c.join_phases.new.functions.items c.in-Err.stop (ap (λ (d : Diagrams). d.budget) c.take_words-words.ensures.rest ∙ c.in-Ok.ensures.opened.budget_is) c.in-Err.ensures.gives
