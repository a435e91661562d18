use Rattle.std.proofs.Common.{arith, List, length, subst, sym, ap}
use Rattle.std.proofs.lemmas.Option.{slice_get_within}
use Rattle.graphs.proofs.TrailLaws.{falls, none_around}
use Rattle.graphs.specs.Trails.{AreFalling, place_at}
use Rattle.graphs.specs.declared.trail.Met.{Met}
use Rattle.graphs.proofs.trail.cycle_at.Goals as goal

pub returns-then-place-eq0-clause-none : goal.returns-then-place-eq0-clause-none
returns-then-place-eq0-clause-none c =
    λ e. none_around c.args.sources.now c.args.first c.in_ok-trail.trail.places.items c.in_ok-trail.trail.met c.in_ok-trail.ensures.trail c.in_ok-trail.ensures.done (omega arith)

pub way_from-requires-clause-there : goal.way_from-requires-clause-there
way_from-requires-clause-there c =
    let q = c.in_ok-trail.ensures.trail.entry c.args.first (omega arith) in
    let within = slice_get_within c.in_ok-trail.trail.met (place_at c.in_ok-trail.trail.places.items c.args.first) q.0 q.1 in
    let same = ap (λ (xs : List Met). length xs) c.as_slice.ensures in
    omega (arith, within, same)

pub way_from-requires-clause-falls : goal.way_from-requires-clause-falls
way_from-requires-clause-falls c =
    subst AreFalling (sym c.as_slice.ensures) (falls c.args.sources.now c.args.first c.in_ok-trail.trail.places.items c.in_ok-trail.trail.met c.in_ok-trail.ensures.trail)
