use Rattle.std.proofs.Common.{◌≡◌, ◌<◌, ◌⊎◌, length, true}
use Rattle.net_places.specs.declared.places.Place.{Place}
use Rattle.vrt_model.specs.Lists.{Among, mark_at}
use Rattle.whole_cells.specs.Kept.{AreKept}
use Rattle.whole_cells.proofs.kept.make_used.Given as goal

-- the cell of each place has a mark, or the place is still to come
abbrev pub invariant-places : goal.invariant-places
invariant-places l = record {
  kept : AreKept l.design l.blif l.rules l.facts l.kept;
  each : (p : Place) → Among l.fn.places p → (Among l.rest p) ⊎ (p.cell < length l.design.cells → mark_at l.kept.made.items p.cell ≡ true);
}

abbrev pub decreases-places : goal.decreases-places
decreases-places l = length l.rest
