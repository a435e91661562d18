-- What is always true of a workspace stays so, and what is found is answered.
use Rattle.std.proofs.Common.{◌≡◌, ◌<◌, ℕ, List, length, subst, sym}
use Rattle.cell_compare.proofs.PortLaws.{still_asked, still_tables}
use Rattle.cell_compare.proofs.WorkspaceLaws.{answer_for, found_answer, last_there}
use Rattle.cell_compare.specs.Looked.{IsLast}
use Rattle.cell_compare.specs.Workspace.{IsAnswer, IsPhaseAnswer, View, bits_in, compared_in}
use Rattle.cell_room.specs.Made.{circuit_in, searched}
use Rattle.checked_cells.specs.Given.{AreTrueFacts, IsCheckedOf}
use Rattle.vrt_model.specs.PairedPorts.{Model, paired_model}
use Rattle.vrt_model.specs.Unsupported.{comparison_of}
use Rattle.vrt_model.specs.declared.whole.CellFacts.{CellFacts}
use Rattle.cell_compare.proofs.workspace.Workspace.check_phase.Goals as goal

pub invariant_of-self : goal.invariant_of-self
invariant_of-self c =
    let w = c.self.inside in
    let inv = c.self.invariant in
    let look = c.look_at-look.ensures in
    let found = c.look_through-last in
    let k = searched w.design.now w.rules.now w.cell w.made in
    let last : IsLast k w.budget c.args.phase found.new.levels found.new.store found.result = rw (sym look.compared, sym look.budget, sym look.phase) found.ensures.last in
    record {
      inputs = inv.inputs;
      budget = inv.budget;
      made = inv.made;
      start = inv.start;
      store = rw (sym look.compared, sym look.budget, sym look.counts, sym look.start) found.ensures.room;
      levels = still_tables (length (circuit_in w.made).nets) w.levels found.new.levels found.ensures.tables inv.levels;
      asked = still_asked w.made.outputs w.levels found.new.levels found.ensures.tables inv.asked;
      last = last_there k w.budget c.args.phase found.new.levels found.new.store found.result last;
    }

pub returns-clause-found : goal.returns-clause-found
returns-clause-found c =
    let w = c.self.inside in
    let look = c.look_at-look.ensures in
    let found = c.look_through-last in
    let k = searched w.design.now w.rules.now w.cell w.made in
    let last : IsLast k w.budget c.args.phase found.new.levels found.new.store found.result = rw (sym look.compared, sym look.budget, sym look.phase) found.ensures.last in
    subst (λ (v : View). IsAnswer (compared_in v) v.budget c.args.phase found.new.levels (length found.new.store.nodes) (bits_in found.new.store found.result.variables found.result.fault) found.result.answer) c.self.view_is
    (found_answer k w.budget c.args.phase found.new.levels found.new.store found.result last)

pub returns-clause-answer : goal.returns-clause-answer
returns-clause-answer c =
    let w = c.self.inside in
    let look = c.look_at-look.ensures in
    let found = c.look_through-last in
    let count = length found.new.store.nodes in
    let bits = bits_in found.new.store found.result.variables found.result.fault in
    let k = searched w.design.now w.rules.now w.cell w.made in
    let last : IsLast k w.budget c.args.phase found.new.levels found.new.store found.result = rw (sym look.compared, sym look.budget, sym look.phase) found.ensures.last in
    let lt = subst (λ (v : View). c.args.phase < length v.rules.phases) (sym c.self.view_is) c.requires.phase in
    subst (λ (v : View). (m : ℕ) (facts : List CellFacts) → paired_model v.design v.blif v.rules v.cell ≡ Model m → AreTrueFacts v.design v.blif v.rules facts
    → IsCheckedOf (comparison_of v.design v.blif v.rules v.cell m) v.blif facts (circuit_in v.made)
    → IsPhaseAnswer (comparison_of v.design v.blif v.rules v.cell m) v.blif facts (circuit_in v.made) v.budget c.args.phase found.new.levels count bits found.result.answer) c.self.view_is
    (λ m facts paired trues of.
    answer_for w.design.now w.blif.now w.rules.now w.cell m w.made facts c.self.invariant.inputs c.self.invariant.made trues paired of w.budget c.args.phase found.new.levels count bits found.result.answer
    c.self.invariant.budget.1 lt (found_answer k w.budget c.args.phase found.new.levels found.new.store found.result last))
