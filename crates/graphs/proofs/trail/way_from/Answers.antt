use Rattle.std.proofs.Common.{arith, ℕ, List, subst, sym}
use Rattle.graphs.proofs.TrailLaws.{falls_below, way_step}
use Rattle.graphs.specs.Trails.{IsWay}
use Rattle.graphs.proofs.trail.way_from.Goals as goal

pub on-smaller : goal.on-smaller
on-smaller c = falls_below c.args.met.now c.on.at c.entry_at-entry.result c.requires.falls (omega arith) c.entry_at-entry.ensures

pub on-preserved : goal.on-preserved
on-preserved c =
    let low = falls_below c.args.met.now c.on.at c.entry_at-entry.result c.requires.falls (omega arith) c.entry_at-entry.ensures in
    let inside = c.on.invariant.0 in (
      omega (arith, low, inside),
      λ sources leads.
          subst (λ (xs : List ℕ). IsWay sources c.args.met.now c.args.place c.entry_at-entry.result.next xs) (sym c.in_ok-append.ensures)
          (way_step sources c.args.met.now c.args.place c.on.at c.on.nodes c.entry_at-entry.result leads (omega arith) (c.on.invariant.1 sources leads) c.entry_at-entry.ensures),
    )
