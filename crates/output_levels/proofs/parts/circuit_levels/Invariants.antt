use Rattle.std.proofs.Common.{◌≡◌, ℕ, length, take, true}
use Rattle.std.specs.Prelude.{sum_by}
use Rattle.bdd_core.specs.Diagram.{IsWithin}
use Rattle.bdd_core.specs.Store.{function_of}
use Rattle.bdd_ops.specs.Counting.{IsCounted, IsSpanWithin}
use Rattle.output_levels.proofs.PartLevelLaws.{IsInFirst}
use Rattle.output_levels.specs.PartLevels.{IsToldIn, WritesIn, level_operations}
use Rattle.vrt_model.specs.Lists.{mark_at}
use Rattle.output_levels.proofs.parts.circuit_levels.Given as goal

-- the nets of the parts so far have their levels
abbrev pub invariant-loop-part : goal.invariant-loop-part
invariant-loop-part l = record {
  writes : WritesIn l.fn.out l.fn.store l.store;
  len : length l.levels.items ≡ length l.fn.levels.items;
  told : (n : ℕ) → IsInFirst l.parts l.part-index n → mark_at l.asked n ≡ true → IsToldIn l.circuit l.parts l.fn.gates l.fn.care l.fn.store l.levels.items n;
  counted : (u : ℕ) → IsWithin u (function_of l.fn.store l.fn.care) → IsSpanWithin u l.fn.store l.fn.gates
      → IsCounted u (sum_by (level_operations l.circuit) (take l.part-index l.parts)) l.fn.store l.store;
}
