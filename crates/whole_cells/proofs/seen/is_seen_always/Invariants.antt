use Rattle.std.proofs.Common.{◌≡◌, ◌+◌, length}
use Rattle.std.specs.List.{list_all}
use Rattle.vrt_model.specs.CellRules.{is_observed_port}
use Rattle.vrt_model.specs.Variables.{places}
use Rattle.whole_cells.proofs.seen.is_seen_always.Given as goal

-- all phases so far
abbrev pub invariant-phases : goal.invariant-phases
invariant-phases l =
    (list_all (λ phase. is_observed_port l.fn.rules l.fn.cell l.fn.port phase) (places l.phase l.rest) ≡ list_all (λ phase. is_observed_port l.fn.rules l.fn.cell l.fn.port phase) (places 0 l.fn.rules.phases))
    × (l.phase + length l.rest ≡ length l.fn.rules.phases)

abbrev pub decreases-phases : goal.decreases-phases
decreases-phases l = length l.rest
