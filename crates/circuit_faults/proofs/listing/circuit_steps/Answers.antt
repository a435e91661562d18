use Rattle.std.proofs.Common.{ℕ, ◌<◌, true, List, length, subst, sym}
use Rattle.std.specs.Prelude.{All}
use Rattle.bdd_core.proofs.Results.{if_ok_more}
use Rattle.channel_parts.specs.declared.part.Part.{Part}
use Rattle.circuit_faults.proofs.KeyWork.{steps_work}
use Rattle.circuit_faults.proofs.ListedOrder.{steps_listed, steps_there}
use Rattle.circuit_faults.proofs.WholeParts.{whole_part}
use Rattle.circuit_faults.specs.Keys.{AreNetRanks, AreSorted}
use Rattle.vrt_model.specs.Comparison.{phase_at}
use Rattle.vrt_model.specs.Lists.{Among}
use Rattle.vrt_model.specs.declared.ids.Net.{Net}
use Rattle.circuit_faults.proofs.listing.circuit_steps.Goals as goal

pub net_ranks-requires : goal.net_ranks-requires
net_ranks-requires c part m =
    let list = c.requires.parts in
    let circuit = c.args.circuit.now in
    let there : Among c.args.parts.now.list part = subst (λ (xs : List Part). Among xs part) c.as_slice-list.ensures m in
    subst (λ (n : ℕ). All (λ (net : Net). net.0 < n) part.nets) (sym c.len-count.ensures)
    (whole_part circuit (phase_at c.args.rules.now c.args.phase) true list.0 c.requires.circuit part (list.1.each part there)).is.nets

pub returns-clause-steps : goal.returns-clause-steps
returns-clause-steps c =
    let parts = c.args.parts.now.list in
    let design = c.args.design.now in
    let rules = c.args.rules.now in
    let circuit = c.args.circuit.now in
    let noted : AreNetRanks parts (length parts) c.as_slice-ranks.result.now =
    subst (λ (xs : List Part). AreNetRanks xs (length xs) c.as_slice-ranks.result.now) c.as_slice-list.ensures
    (subst (AreNetRanks c.as_slice-list.result.now (length c.as_slice-list.result.now)) (sym c.as_slice-ranks.ensures.value) c.in_ok-table.ensures) in
    let sorted : AreSorted design rules circuit c.args.phase parts c.as_slice-ranks.result.now c.as_slice-sorted.result.now =
    subst (λ (xs : List Part). AreSorted design rules circuit c.args.phase xs c.as_slice-ranks.result.now c.as_slice-sorted.result.now) c.as_slice-list.ensures
    (subst (AreSorted design rules circuit c.args.phase c.as_slice-list.result.now c.as_slice-ranks.result.now) (sym c.as_slice-sorted.ensures.value) c.in_ok-keys.ensures) in
    if_ok_more _ _ c.steps_of.result
    (λ steps e k rank d r x are ranking.
    steps_listed k c.args.phase rank c.args.parts.now are ranking steps c.as_slice-ranks.result.now c.as_slice-sorted.result.now noted design rules circuit d r x c.requires.circuit c.requires.nets sorted e)
    c.steps_of.ensures

pub returns-clause-there : goal.returns-clause-there
returns-clause-there c =
    let parts = c.args.parts.now.list in
    let design = c.args.design.now in
    let rules = c.args.rules.now in
    let circuit = c.args.circuit.now in
    let sorted : AreSorted design rules circuit c.args.phase parts c.as_slice-ranks.result.now c.as_slice-sorted.result.now =
    subst (λ (xs : List Part). AreSorted design rules circuit c.args.phase xs c.as_slice-ranks.result.now c.as_slice-sorted.result.now) c.as_slice-list.ensures
    (subst (AreSorted design rules circuit c.args.phase c.as_slice-list.result.now c.as_slice-ranks.result.now) (sym c.as_slice-sorted.ensures.value) c.in_ok-keys.ensures) in
    if_ok_more _ _ c.steps_of.result
    (λ steps e j step at. steps_there design rules circuit c.args.phase parts c.as_slice-ranks.result.now c.as_slice-sorted.result.now sorted steps e j step at)
    c.steps_of.ensures

pub returns-clause-work : goal.returns-clause-work
returns-clause-work c =
    let parts = c.args.parts.now.list in
    let design = c.args.design.now in
    let rules = c.args.rules.now in
    let circuit = c.args.circuit.now in
    let sorted : AreSorted design rules circuit c.args.phase parts c.as_slice-ranks.result.now c.as_slice-sorted.result.now =
    subst (λ (xs : List Part). AreSorted design rules circuit c.args.phase xs c.as_slice-ranks.result.now c.as_slice-sorted.result.now) c.as_slice-list.ensures
    (subst (AreSorted design rules circuit c.args.phase c.as_slice-list.result.now c.as_slice-ranks.result.now) (sym c.as_slice-sorted.ensures.value) c.in_ok-keys.ensures) in
    if_ok_more _ _ c.steps_of.result
    (λ steps e k d r x observed. steps_work k c.args.phase c.args.parts.now c.as_slice-ranks.result.now c.as_slice-sorted.result.now design rules circuit d r x sorted steps e observed)
    c.steps_of.ensures
