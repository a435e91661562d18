-- The search and the levels are of one plan.
use Rattle.std.proofs.Common.{List, ap, length, refl, subst, sym, ◌∙◌}
use Rattle.bdd_core.specs.Store.{Diagrams}
use Rattle.cell_compare.proofs.CheckLaws.{used_up}
use Rattle.cell_compare.specs.Looked.{IsLast}
use Rattle.cell_compare.specs.declared.looked.Last.{Last}
use Rattle.phase_terms.specs.Ready.{comparison_in}
use Rattle.vrt_model.specs.declared.groups.Source.{Source}
use Rattle.cell_compare.proofs.looked.look_through.Goals as goal

pub check_phase-requires-clause-search : goal.check_phase-requires-clause-search
check_phase-requires-clause-search c = let l = c.requires.look in record { ready = l.ready; there = l.there; planned = l.plan.is }

pub returns-in-Fault-clause-last : goal.returns-in-Fault-clause-last
returns-in-Fault-clause-last c = c.found_fault.ensures.last c.args.look.budget c.args.levels.now

pub returns-in-Spent-clause-last : goal.returns-in-Spent-clause-last
returns-in-Spent-clause-last c =
    let look = c.args.look in
    let l = c.requires.look in
    let k = comparison_in look.compared in
    let same = ap (λ (d : Diagrams). d.budget) c.leave.ensures.left ∙ c.requires.room.budget_is in
    let spent = c.in-Spent.ensures.gives in
    subst (λ (x : Last). IsLast k look.budget look.phase c.args.levels.now c.check_phase.new.store x) (sym c.without_fault-in-Spent.ensures)
    (record {
      is = refl;
      there = l.there;
      variables = ap (λ (ss : List Source). length ss) l.vars.sources;
      words = tt;
      found = (refl, spent.1 ∙ same, used_up k look.budget c.leave.new.self.budget look.phase look.plan.now same l.plan.is spent.0);
    })
