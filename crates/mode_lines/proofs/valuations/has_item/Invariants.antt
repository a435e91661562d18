use Rattle.std.proofs.Common.{◌≡◌, drop}
use Rattle.mode_lines.specs.Lists.{names_of}
use Rattle.vrt_model.specs.Lists.{has_name}
use Rattle.mode_lines.proofs.valuations.has_item.Given as goal

-- none so far
abbrev pub invariant-loop-item : goal.invariant-loop-item
invariant-loop-item l = has_name (names_of (drop l.item-index l.items)) l.name ≡ has_name (names_of l.items) l.name
