use Rattle.std.proofs.Common.{ℕ, ◌*◌, ◌<◌}
use Rattle.bdd_core.specs.Diagram.{IsWithin}
use Rattle.bdd_core.specs.Store.{AddsNodes, function_of}
use Rattle.bdd_ops.specs.Counting.{IsCounted}
use Rattle.phase_wishes.specs.Missed.{AreWithin, IsMet}
use Rattle.phase_wishes.specs.declared.wishes.Wish.{Wish}
use Rattle.vrt_model.specs.Lists.{At}
use Rattle.phase_wishes.proofs.fault.first_missed.Given as goal

-- the wishes before this one are met
abbrev pub invariant-loop-i : goal.invariant-loop-i
invariant-loop-i l = record {
  adds : AddsNodes l.fn.store l.store;
  met : (k : ℕ) (wish : Wish) → k < l.i → At l.wishes k wish → IsMet l.fn.care l.fn.bits l.fn.store wish;
  counted : (u : ℕ) → IsWithin u (function_of l.fn.store l.fn.care) → AreWithin u l.fn.store l.fn.bits → IsCounted u (4 * l.i) l.fn.store l.store;
}
