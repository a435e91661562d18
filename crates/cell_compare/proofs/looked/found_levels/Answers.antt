-- The levels are those of the phase, or the budget may be used up by all operations of the phase.
use Rattle.std.proofs.Common.{ℕ, List, ap, length, refl, subst, sym, ◌∙◌}
use Rattle.cell_compare.specs.Looked.{IsLast}
use Rattle.cell_compare.specs.declared.looked.Last.{Last}
use Rattle.phase_laws.specs.Sums.{phase_operations, search_operations}
use Rattle.phase_terms.specs.Found.{MaySpend}
use Rattle.phase_terms.specs.Ready.{comparison_in}
use Rattle.vrt_model.specs.declared.groups.Source.{Source}
use Rattle.cell_compare.proofs.looked.found_levels.Goals as goal

pub write_levels-requires-clause-search : goal.write_levels-requires-clause-search
write_levels-requires-clause-search c = let l = c.requires.look in record { ready = l.ready; there = l.there; planned = l.plan.is }

pub write_levels-requires-clause-wished : goal.write_levels-requires-clause-wished
write_levels-requires-clause-wished c =
    let look = c.args.look in
    (search_operations (comparison_in look.compared) look.phase look.plan.now, c.requires.wished)

pub returns-in-Ok-clause-last : goal.returns-in-Ok-clause-last
returns-in-Ok-clause-last c =
    let look = c.args.look in
    let l = c.requires.look in
    let k = comparison_in look.compared in
    subst (λ (x : Last). IsLast k look.budget look.phase c.write_levels.new.levels c.write_levels.new.store x) (sym c.without_fault.ensures)
    (record {
      is = refl;
      there = l.there;
      variables = ap (λ (ss : List Source). length ss) l.vars.sources;
      words = tt;
      found = (c.requires.wished.equal, c.in-Ok.ensures.gives (search_operations k look.phase look.plan.now) c.requires.wished);
    })

pub returns-in-Err-clause-last : goal.returns-in-Err-clause-last
returns-in-Err-clause-last c =
    let look = c.args.look in
    let l = c.requires.look in
    let k = comparison_in look.compared in
    let spent = c.in-Err.ensures.gives (search_operations k look.phase look.plan.now) c.requires.wished in
    subst (λ (x : Last). IsLast k look.budget look.phase c.write_levels.new.levels c.write_levels.new.store x) (sym c.without_fault-in-Err.ensures)
    (record {
      is = refl;
      there = l.there;
      variables = ap (λ (ss : List Source). length ss) l.vars.sources;
      words = tt;
      found = (refl, spent.1 ∙ c.requires.budget, (look.plan.now, l.plan.is, subst (λ (b : ℕ). MaySpend k b look.phase (phase_operations k look.phase look.plan.now)) c.requires.budget spent.0));
    })
