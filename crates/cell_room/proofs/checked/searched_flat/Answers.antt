-- The flat circuit, which has no whole instance, is looked through itself.
use Rattle.cell_room.proofs.CheckedLaws.{few_outputs, flat_wholes}
use Rattle.cell_room.proofs.SizeLaws.{all_few, few_pins, pins_few, words_of}
use Rattle.phase_terms.specs.Ready.{comparison_in}
use Rattle.cell_room.proofs.checked.searched_flat.Goals as goal

pub most_variables-requires : goal.most_variables-requires
most_variables-requires c = all_few (comparison_in c.args.phases.compared) c.args.phases.vars.now c.requires.phases.vars

pub returns-clause-searched : goal.returns-clause-searched
returns-clause-searched c =
    let k = comparison_in c.args.phases.compared in
    let is = c.requires.checked in
    let blif = c.args.phases.blif.now in
    let facts = c.args.phases.facts.now in
    let h = c.requires.phases.checkable.by_facts k.circuit c.requires.phases.planned is in
    let vars = c.args.phases.vars.now in
    let counts_are = c.in_ok-counts.ensures.is in
    let most = c.most_outputs-most.ensures in
    let pins = c.in_ok-counts.ensures.few in
    record {
      ready = c.requires.phases.ready;
      wholes = rw (c.new.ensures.items, c.new-2.ensures) (flat_wholes k blif facts c.requires.phases.checkable c.requires.phases.ready.circuit);
      vars = c.requires.phases.vars;
      plans = tt;
      words = words_of k vars c.requires.phases.vars c.requires.phases.ready c.most_variables.result c.in_ok-counts.counts c.most_variables.ensures.few c.most_variables.ensures.within counts_are (few_pins k.circuit c.most_outputs-most.result c.in_ok-counts.counts.pins most pins);
      few = few_outputs k is.0 blif facts k.circuit c.most_outputs-most.result h most (pins_few k c.in_ok-counts.counts c.most_variables.result c.most_outputs-most.result counts_are pins);
    }
