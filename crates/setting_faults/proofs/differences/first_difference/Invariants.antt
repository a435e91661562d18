use Rattle.std.proofs.Common.{◌≡◌, ℕ, ◌*◌, ◌<◌, true}
use Rattle.bdd_core.specs.Diagram.{IsWithin}
use Rattle.bdd_core.specs.Store.{AddsNodes, function_of}
use Rattle.bdd_ops.specs.Counting.{IsCounted, IsSpanWithin}
use Rattle.setting_faults.proofs.DifferenceLaws.{IsAlikeAt}
use Rattle.vrt_model.specs.Lists.{mark_at}
use Rattle.setting_faults.proofs.differences.first_difference.Given as goal

-- nodes alone were added, the nets so far are alike, and at most three operations for each of them were made
abbrev pub invariant-loop-n : goal.invariant-loop-n
invariant-loop-n l = record {
  adds : AddsNodes l.fn.store l.store;
  alike : (n : ℕ) → n < l.n → mark_at l.observed n ≡ true → IsAlikeAt l.fn.care l.fn.left l.fn.right l.fn.store n;
  counted : (u : ℕ) → IsWithin u (function_of l.fn.store l.fn.care) → IsSpanWithin u l.fn.store l.fn.left → IsSpanWithin u l.fn.store l.fn.right → IsCounted u (3 * l.n) l.fn.store l.store;
}
