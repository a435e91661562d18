use Rattle.std.proofs.Common.{◌<◌, All, List, ℕ, ap, length, map, refl, subst, sym, ◌∙◌}
use Rattle.circuit_faults.specs.Steps.{part_list}
use Rattle.domino_order.proofs.AskedLaws.{asked_is, asked_tells}
use Rattle.domino_order.proofs.MonotoneLaws.{are_inputs}
use Rattle.domino_order.proofs.StartLaws.{inputs_within}
use Rattle.domino_order.specs.Arrivals.{nets_of_ports}
use Rattle.phase_open.specs.Given.{variable_at}
use Rattle.phase_terms.specs.Ready.{comparison_in}
use Rattle.domino_order.proofs.monotone.monotone_few.Goals as goal

pub variables_of-requires : goal.variables_of-requires
variables_of-requires c =
    let k = comparison_in c.args.compared in
    subst (λ (xs : List ℕ). All (λ (n : ℕ). n < length k.circuit.nets) xs) (sym (c.as_slice.ensures ∙ c.in_ok-nets.ensures))
    (inputs_within k.circuit (nets_of_ports k c.args.rising.now) (length k.circuit.nets) (are_inputs k c.args.rising.now c.requires.ready c.requires.rising) refl)

pub search_opened-requires-clause-asked : goal.search_opened-requires-clause-asked
search_opened-requires-clause-asked c =
    let made = c.asked_of-asked.ensures in
    let nets = c.as_slice-3.ensures ∙ c.in_ok-nets.ensures in
    let parts = c.as_slice-2.ensures ∙ c.in_ok-steps.ensures ∙ ap part_list (c.in_ok-parts.ensures ∙ c.len.ensures) in
    let rises = made.nets ∙ c.as_slice-3.ensures in
    let arrivals = made.arrivals ∙ c.as_slice-5.ensures ∙ c.in_ok-arrivals.ensures ∙ ap (λ (xs : List ℕ). map (variable_at (comparison_in c.args.compared).circuit) xs) (c.as_slice.ensures ∙ sym rises) in
    asked_is c.asked_of-asked.result c.args.compared c.args.phase c.in-Ok.plan c.as_slice-2.result.now c.args.rising.now c.args.vars.now c.args.first made.compared made.phase made.plan made.steps
    (made.nets ∙ nets) (made.order ∙ c.as_slice-4.ensures ∙ c.in_ok-order.ensures) arrivals made.vars (made.counts ∙ c.in_ok-counts.ensures) c.requires.ready c.requires.rising c.requires.vars
    c.requires.first c.requires.few c.requires.flat c.requires.phase c.in-Ok.ensures.gives parts

pub returns : goal.returns
returns c =
    let made = c.asked_of-asked.ensures in
    let nets = c.as_slice-3.ensures ∙ c.in_ok-nets.ensures in
    let parts = c.as_slice-2.ensures ∙ c.in_ok-steps.ensures ∙ ap part_list (c.in_ok-parts.ensures ∙ c.len.ensures) in
    let rises = made.nets ∙ c.as_slice-3.ensures in
    let arrivals = made.arrivals ∙ c.as_slice-5.ensures ∙ c.in_ok-arrivals.ensures ∙ ap (λ (xs : List ℕ). map (variable_at (comparison_in c.args.compared).circuit) xs) (c.as_slice.ensures ∙ sym rises) in
    let order = made.order ∙ c.as_slice-4.ensures ∙ c.in_ok-order.ensures in
    let asked = asked_is c.asked_of-asked.result c.args.compared c.args.phase c.in-Ok.plan c.as_slice-2.result.now c.args.rising.now c.args.vars.now c.args.first made.compared made.phase made.plan made.steps
    (made.nets ∙ nets) order arrivals made.vars (made.counts ∙ c.in_ok-counts.ensures) c.requires.ready c.requires.rising c.requires.vars c.requires.first c.requires.few c.requires.flat c.requires.phase
    c.in-Ok.ensures.gives parts in
    record {
      tells = asked_tells c.asked_of-asked.result c.args.compared c.args.phase c.in-Ok.plan c.as_slice-2.result.now c.args.rising.now c.args.vars.now c.args.first made.compared made.phase made.plan made.steps
          (made.nets ∙ nets) order arrivals made.vars (made.counts ∙ c.in_ok-counts.ensures) c.requires.ready c.requires.rising c.requires.vars c.requires.first c.requires.few asked c.requires.equal
          c.args.budget c.search_opened.result c.search_opened.ensures.gives;
    }
