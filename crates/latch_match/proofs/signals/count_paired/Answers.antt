use Rattle.std.proofs.Common.{subst, ◌∙◌, List, ℕ}
use Rattle.latch_match.specs.Marked.{AreCounts}
use Rattle.latch_match.proofs.signals.count_paired.Goals as goal

pub returns : goal.returns
returns c = subst (λ (xs : List ℕ). AreCounts xs c.count_all.new.counts) (c.as_slice.ensures ∙ c.in_ok-add_paired.ensures) c.in_ok-count_all.ensures
