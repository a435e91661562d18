use Rattle.std.proofs.Common.{◌≡◌, [], false, replicate}
use Rattle.vrt_model.specs.declared.whole.CellFacts.{CellFacts}
use Rattle.verity_run.proofs.known.no_facts.Given as goal

-- so many entries that say nothing
abbrev pub invariant-loop-cell : goal.invariant-loop-cell
invariant-loop-cell l = l.facts.items ≡ replicate l._cell (let nothing : CellFacts = record { equal = false; stateless = false; drives = [] } in nothing)
