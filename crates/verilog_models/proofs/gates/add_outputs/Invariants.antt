use Rattle.std.proofs.Common.{◌≡◌, ◌++◌, flat_map, length}
use Rattle.verilog_models.specs.Gates.{output_covers}
use Rattle.verilog_models.proofs.gates.add_outputs.Given as goal

-- the covers so far, with those of the outputs that are left
abbrev pub invariant-outputs : goal.invariant-outputs
invariant-outputs l =
    (l.made.covers ++ flat_map (output_covers l.line l.made.count l.kind l.signals) l.left
    ≡ l.fn.made.covers ++ flat_map (output_covers l.line l.fn.made.count l.kind l.signals) l.fn.outputs) × (l.made.count ≡ l.fn.made.count)

abbrev pub decreases-outputs : goal.decreases-outputs
decreases-outputs l = length l.left
