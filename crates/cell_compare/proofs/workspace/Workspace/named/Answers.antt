-- The variables are those of the phase that was looked through last.
use Rattle.std.proofs.Common.{List, arith, ap, length, sym, subst}
use Rattle.cell_compare.specs.Looked.{IsLast}
use Rattle.cell_compare.specs.Workspace.{AreLast}
use Rattle.cell_room.specs.Made.{searched}
use Rattle.cell_room.specs.Works.{ArePhaseVars}
use Rattle.vrt_model.proofs.Lists.{item_at}
use Rattle.vrt_model.specs.Comparison.{Comparison}
use Rattle.vrt_model.specs.declared.groups.Vars.{Vars}
use Rattle.cell_compare.proofs.workspace.Workspace.named.Goals as goal

pub name_fault-requires-clause-sources : goal.name_fault-requires-clause-sources
name_fault-requires-clause-sources c =
    let w = c.self.inside in
    let k = searched w.design.now w.rules.now w.cell w.made in
    let is = c.self.invariant.made in
    let phase = c.in-Some.last.phase in
    let last : IsLast k w.budget phase w.levels w.store c.in-Some.last = subst (AreLast k w.budget w.levels w.store) c.in-Some.is c.self.invariant.last in
    let len = ap (λ (vs : List Vars). length vs) c.as_slice.ensures in
    let there = last.there in
    let at = item_at w.made.vars c.as_slice.result.now phase c.index-as_slice-last.result c.as_slice.ensures (omega (arith, len, is.vars.count, there)) c.index-as_slice-last.is in
    (subst (λ (x : Comparison). ArePhaseVars x phase c.index-as_slice-last.result) (sym c.compared.ensures.is) (is.vars.each phase c.index-as_slice-last.result at)).sources

pub name_fault-requires-clause-names : goal.name_fault-requires-clause-names
name_fault-requires-clause-names c =
    let w = c.self.inside in
    let k = searched w.design.now w.rules.now w.cell w.made in
    let is = c.self.invariant.made in
    let phase = c.in-Some.last.phase in
    let last : IsLast k w.budget phase w.levels w.store c.in-Some.last = subst (AreLast k w.budget w.levels w.store) c.in-Some.is c.self.invariant.last in
    let len = ap (λ (vs : List Vars). length vs) c.as_slice.ensures in
    let there = last.there in
    let at = item_at w.made.vars c.as_slice.result.now phase c.index-as_slice-last.result c.as_slice.ensures (omega (arith, len, is.vars.count, there)) c.index-as_slice-last.is in
    (subst (λ (x : Comparison). ArePhaseVars x phase c.index-as_slice-last.result) (sym c.compared.ensures.is) (is.vars.each phase c.index-as_slice-last.result at)).names
