-- Links of whole instances: to which part a link leads, and whether it counts for ranks.
use Rattle.std.specs.Prelude.{ℕ, ◌||◌, Bool, List, None, Option, is_none, option_map, slice_get, unwrap_or}
use Rattle.channel_parts.specs.Groups.{net_owner}
use Rattle.known_nets.specs.KnownTables.{known_at}
use Rattle.vrt_model.specs.declared.circuit.Circuit.{Circuit}
use Rattle.vrt_model.specs.declared.whole.Link.{Link}
use Rattle.vrt_model.specs.declared.whole.Whole.{Whole}
use Rattle.vrt_model.specs.declared.whole.WholePin.{WholePin}

-- the least net of the part of the output to which a link leads
abbrev pub link_target : Circuit → List ℕ → Whole → Link → Option ℕ
link_target c least w link = unwrap_or (option_map (λ (pin : WholePin). net_owner c least pin.net.0) (slice_get w.outputs link.output)) None

-- whether a link counts for ranks: it is from a named port, or from a net that is not known
abbrev pub is_counted : List (Option Bool) → Link → Bool
is_counted known link = link.named || is_none (known_at known link.from.0)
