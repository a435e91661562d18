use Rattle.std.proofs.Common.{arith, sym, subst, set, ◌∷◌, [], ℕ}
use Rattle.graphs.proofs.TrailLaws.{met_now}
use Rattle.graphs.specs.Trails.{HasMet}
use Rattle.graphs.proofs.trail.meet.Goals as goal

pub returns-in_ok-add : goal.returns-in_ok-add
returns-in_ok-add c =
    subst (λ (k : ℕ). HasMet c.args.places.now.items (set c.args.places.now.items c.args.node k) c.args.met.now c.add.new.list (c.args.node ∷ []) c.args.next) (sym c.len-place.ensures)
    (met_now c.args.places.now.items c.args.met.now c.add.new.list (record { node = c.args.node; next = c.args.next }) (omega arith) (omega arith) c.requires c.in_ok-add.ensures)
