use Rattle.std.proofs.Common.{◌≡◌, drop}
use Rattle.std.specs.List.{list_any}
use Rattle.port_links.specs.Named.{assumes_port, passes_at}
use Rattle.port_links.proofs.named.any_assumes.Given as goal

-- none so far
abbrev pub invariant-loop-place : goal.invariant-loop-place
invariant-loop-place l =
    list_any (passes_at (assumes_port l.phase l.name) l.rules) (drop l.place-index l.places) ≡ list_any (passes_at (assumes_port l.phase l.name) l.rules) l.places
