use Rattle.std.proofs.Common.{◌≡◌, ℕ, ◌*◌, length, ◌+◌}
use Rattle.bdd_core.specs.Diagram.{IsWithin}
use Rattle.bdd_core.specs.Store.{AddsNodes, function_of}
use Rattle.bdd_ops.specs.Counting.{IsCounted, IsSpanWithin}
use Rattle.output_levels.specs.Always.{strong_at}
use Rattle.output_levels.specs.PartLevels.{AreJudged}
use Rattle.output_levels.proofs.judge.judge_part.Given as goal

-- the places so far are judged
abbrev pub invariant-loop-i : goal.invariant-loop-i
invariant-loop-i l = record {
  adds : AddsNodes l.fn.store l.store;
  len : length l.levels.items ≡ length l.fn.levels.items;
  judged : AreJudged l.fn.out.source l.part l.asked (function_of l.fn.store l.fn.care) (strong_at l.fn.store l.fn.out) l.i l.fn.levels.items l.levels.items;
  counted : (u : ℕ) → IsWithin u (function_of l.fn.store l.fn.care) → IsSpanWithin u l.fn.store l.fn.out.span → IsCounted u ((l.fn.out.source + 1) * l.i) l.fn.store l.store;
}
