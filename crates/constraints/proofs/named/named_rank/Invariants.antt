use Rattle.std.proofs.Common.{◌≡◌, drop, max}
use Rattle.std.specs.Prelude.{slice_index}
use Rattle.constraints.specs.Obliged.{is_named_port, nets_named}
use Rattle.vrt_model.specs.Comparison.{cell_at}
use Rattle.vrt_model.specs.Places.{greatest_rank, named_nets_from}
use Rattle.constraints.proofs.named.named_rank.Given as goal

-- the greatest rank so far, with those of the ports that are left
abbrev pub invariant-loop-at : goal.invariant-loop-at
invariant-loop-at l =
    max l.greatest
    (greatest_rank (slice_index l.ranks)
    (named_nets_from (is_named_port l.design l.rules l.phase l.instance) (drop l.at (cell_at l.design l.instance.cell).ports) (drop l.at l.instance.ports)))
    ≡ greatest_rank (slice_index l.ranks) (nets_named l.design l.rules l.phase l.instance)
