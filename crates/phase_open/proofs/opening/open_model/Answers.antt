use Rattle.std.proofs.Common.{◌+◌, ◌≤◌, length, arith, inl, inr}
use Rattle.bdd_core.proofs.Frames.{filled_beside, shows_beside, span_written, two_first}
use Rattle.bdd_core.specs.Words.{IsApart}
use Rattle.phase_open.proofs.OpenLaws.{model_open, roots_stay}
use Rattle.phase_open.proofs.RootLaws.{counts_written}
use Rattle.phase_open.proofs.Sources.{sources_many}
use Rattle.phase_terms.specs.Ready.{comparison_in}
use Rattle.vrt_model.specs.Comparison.{Comparison}
use Rattle.vrt_model.specs.Held.{sources_of}
use Rattle.phase_open.proofs.opening.open_model.Goals as goal

pub open_elements-requires-clause-vars : goal.open_elements-requires-clause-vars
open_elements-requires-clause-vars c = omega (arith, c.requires.first, c.requires.words.held_len, c.requires.few, sources_many (comparison_in c.args.compared) c.args.phase)

pub returns-in-Err-clause-counts : goal.returns-in-Err-clause-counts
returns-in-Err-clause-counts c =
    let k : Comparison = comparison_in c.args.compared in
    c.in-Err.ensures.counts (length (sources_of k c.args.phase)) (omega (arith, c.requires.first, c.requires.words.held_len, sources_many k c.args.phase))

pub open_inputs-requires-clause-bits : goal.open_inputs-requires-clause-bits
open_inputs-requires-clause-bits c =
    let words = c.requires.words in
    let apart : IsApart c.args.words.roots c.args.words.held =
    inl (omega (arith, words.gates_behind, words.zeros_behind, words.ones_behind, words.out_behind, words.inputs_behind, words.held_behind)) in
    roots_stay c.args.words.held c.args.words.held c.args.words.roots c.args.store.now c.open_elements.new.store
    (two_first c.args.words.held c.args.words.held c.args.store.now c.open_elements.new.store c.open_elements.ensures.writes) apart apart c.requires.roots.live (comparison_in c.args.compared) c.args.phase
    (omega (arith, words.roots_len)) c.requires.roots

pub open_inputs-requires-clause-roots : goal.open_inputs-requires-clause-roots
open_inputs-requires-clause-roots c =
    let words = c.requires.words in
    let end : c.args.words.roots.start + c.args.words.roots.len ≤ length c.args.store.now.words =
    omega (arith, words.gates_behind, words.zeros_behind, words.ones_behind, words.out_behind, words.inputs_behind, words.held_behind, words.values_behind, words.least_behind, words.last) in
    (span_written c.args.words.held c.args.words.roots c.args.store.now c.open_elements.new.store c.open_elements.ensures.writes (words.first, end), omega (arith, words.roots_len))

pub returns-clause-model : goal.returns-clause-model
returns-clause-model c =
    let words = c.args.words in
    let mid = c.open_elements.new.store in
    let new = c.open_inputs.new.store in
    let apart : IsApart words.held words.inputs = inr c.requires.words.held_behind in
    let writes = c.open_inputs.ensures.writes in
    let live = c.open_elements.ensures.writes.live in
    model_open (comparison_in c.args.compared) c.args.phase words.inputs words.held mid new c.open_inputs.ensures.given (filled_beside words.inputs words.held mid new writes apart live)
    c.requires.words.held_len (λ e v lt. shows_beside words.inputs words.held mid new e v writes apart live lt) c.args.first c.requires.first c.in-Ok.ensures.elements

pub returns-clause-counts : goal.returns-clause-counts
returns-clause-counts c =
    let k : Comparison = comparison_in c.args.compared in
    let u = length (sources_of k c.args.phase) in
    counts_written u c.args.words.held.len c.args.store.now c.open_elements.new.store c.open_inputs.new.store tt tt _ c.open_inputs.ensures.rest
    (c.in-Ok.ensures.counts u (omega (arith, c.requires.first, c.requires.words.held_len, sources_many k c.args.phase)))
