use Rattle.std.proofs.Common.{◌*◌, List, length, arith, subst}
use Rattle.vrt_model.specs.declared.groups.Group.{Group}
use Rattle.vrt_model.specs.declared.groups.Source.{Source}
use Rattle.hold_keep.proofs.RewriteLaws.{held_counts, held_given}
use Rattle.hold_keep.specs.Rooted.{Rewrites, members_in, with_groups}
use Rattle.hold_keep.proofs.roots.held_roots.Goals as goal

pub returns-clause-held : goal.returns-clause-held
returns-clause-held c =
    let circuit = c.args.circuit.now in
    let sources : List Source = c.args.vars.now.sources in
    let groups : List Group = c.args.groups.now in
    let mid = c.clear.new.store in
    let new = c.write_groups.new.store in
    let far : Rewrites circuit c.args.roots (length sources) (2 * members_in groups) (with_groups circuit c.args.phase sources 0 groups) mid new c.write_groups.result =
    subst (λ (gs : List Group). Rewrites circuit c.args.roots (length sources) (2 * members_in gs) (with_groups circuit c.args.phase sources 0 gs) mid new c.write_groups.result) c.as_slice-2.ensures
    (subst
    (λ (ss : List Source). Rewrites circuit c.args.roots (length ss) (2 * members_in c.as_slice-2.result.now) (with_groups circuit c.args.phase ss 0 c.as_slice-2.result.now) mid new c.write_groups.result)
    c.as_slice.ensures c.write_groups.ensures) in
    held_given circuit c.args.roots c.args.phase sources groups (2 * members_in groups) mid new c.write_groups.result far c.clear.ensures.zero

pub returns-clause-counts : goal.returns-clause-counts
returns-clause-counts c u low =
    let circuit = c.args.circuit.now in
    let sources : List Source = c.args.vars.now.sources in
    let groups : List Group = c.args.groups.now in
    let mid = c.clear.new.store in
    let new = c.write_groups.new.store in
    let far : Rewrites circuit c.args.roots (length sources) (2 * members_in groups) (with_groups circuit c.args.phase sources 0 groups) mid new c.write_groups.result =
    subst (λ (gs : List Group). Rewrites circuit c.args.roots (length sources) (2 * members_in gs) (with_groups circuit c.args.phase sources 0 gs) mid new c.write_groups.result) c.as_slice-2.ensures
    (subst
    (λ (ss : List Source). Rewrites circuit c.args.roots (length ss) (2 * members_in c.as_slice-2.result.now) (with_groups circuit c.args.phase ss 0 c.as_slice-2.result.now) mid new c.write_groups.result)
    c.as_slice.ensures c.write_groups.ensures) in
    let few = c.requires.groups.count in
    held_counts circuit c.args.roots (length sources) (2 * members_in groups) (2 * length circuit.holds) (with_groups circuit c.args.phase sources 0 groups) c.args.store.now mid new c.write_groups.result
    c.clear.ensures.nodes c.clear.ensures.writes far (omega (arith, few)) u low
