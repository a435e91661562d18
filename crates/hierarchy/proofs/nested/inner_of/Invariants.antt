use Rattle.std.proofs.Common.{◌≡◌, map, take, unwrap_or}
use Rattle.std.specs.Prelude.{bytes_eq, position}
use Rattle.vrt_model.specs.declared.design.InstanceCard.{InstanceCard}
use Rattle.hierarchy.proofs.nested.inner_of.Given as goal

abbrev pub invariant-loop-card : goal.invariant-loop-card
invariant-loop-card l = l.inner ≡ map (λ (i : InstanceCard). unwrap_or (position (bytes_eq i.cell) l.names) 0) (take l.card-index l.card-items)
