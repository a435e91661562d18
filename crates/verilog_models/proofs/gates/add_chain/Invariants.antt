use Rattle.std.proofs.Common.{◌≡◌, ◌++◌, length}
use Rattle.verilog_models.specs.Gates.{chain}
use Rattle.verilog_models.proofs.gates.add_chain.Given as goal

-- the chain so far, with what is left of it
abbrev pub invariant-links : goal.invariant-links
invariant-links l =
    (l.made.covers ++ chain l.line l.number l.complements l.left l.rest l.output ≡ l.fn.made.covers ++ chain l.line l.fn.made.count l.complements l.fn.first l.fn.rest l.output)
    × (l.made.count ≡ l.fn.made.count)

abbrev pub decreases-links : goal.decreases-links
decreases-links l = length l.rest
