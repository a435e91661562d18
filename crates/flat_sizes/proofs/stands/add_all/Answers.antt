use Rattle.std.proofs.Common.{arith, ℕ, get_or, refl}
use Rattle.flat_sizes.proofs.StandLaws.{each_added, each_done}
use Rattle.flat_sizes.specs.declared.stands.Stand.{Stand}
use Rattle.flat_sizes.proofs.stands.add_all.Goals as goal

pub loop-stand-preserved : goal.loop-stand-preserved
loop-stand-preserved c =
    let none : Stand = record { cell = 0; count = 0 } in
    each_added (λ (weight : ℕ → ℕ). weight) c.args.more.now c.loop-stand.stand-index (get_or c.args.more.now c.loop-stand.stand-index none) none c.args.stands.now.items
    c.loop-stand.stands.items c.add.new.stands.items (omega arith) refl c.in_ok-add.ensures c.loop-stand.invariant

pub returns : goal.returns
returns c = each_done (λ (weight : ℕ → ℕ). weight) c.args.more.now c.loop-stand.stand-index c.args.stands.now.items c.loop-stand.stands.items (omega arith) c.loop-stand.invariant
