use Rattle.std.proofs.Common.{arith, ap, sym, ◌∙◌, List, refl, ◌++◌, ◌∷◌, []}
use Rattle.std.specs.Prelude.{slice_get}
use Rattle.graphs.proofs.TrailLaws.{goes_first, goes_on, met_few}
use Rattle.graphs.specs.declared.trail.Met.{Met}
use Rattle.graphs.proofs.trail.trail_from.Goals as goal

pub back-init : goal.back-init
back-init c =
    goes_first c.args.sources.now c.args.first c.in_ok-places.places.items c.add.new.list (record { node = c.args.first; next = 0 }) c.in_ok-places.ensures (c.in_ok-add.ensures ∙ ap (λ (xs : List Met). xs ++ record { node = c.args.first; next = 0 } ∷ []) c.new-met.ensures) refl

pub back-smaller : goal.back-smaller
back-smaller c =
    let few = met_few c.args.sources.now c.args.first c.back.places.items c.back.met c.back.invariant.trail in
    omega (arith, few)

pub back-preserved : goal.back-preserved
back-preserved c =
    goes_on c.args.sources.now c.args.first c.back.at c.entry_at-entry.result c.back.places.items c.meet_all.new.places.items c.back.met c.meet_all.new.met c.sources_at.result.now c.requires.inside
    (ap (λ (xs : List Met). slice_get xs c.back.at) (sym c.as_slice.ensures) ∙ c.entry_at-entry.ensures) c.sources_at.ensures c.back.invariant c.in_ok-meet_all.ensures
