use Rattle.std.proofs.Common.{List, subst, sym}
use Rattle.flat_sizes.specs.Totals.{AreInside}
use Rattle.flat_sizes.specs.declared.stands.Stand.{Stand}
use Rattle.flat_sizes.proofs.linear.sizes_with.Goals as goal

pub sizes_of-requires-clause-stands : goal.sizes_of-requires-clause-stands
sizes_of-requires-clause-stands c = subst (λ (stands : List Stand). AreInside c.args.design.now c.args.cell stands) (sym c.as_slice.ensures.value) c.in_ok-stands.ensures
