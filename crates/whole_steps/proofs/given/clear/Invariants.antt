use Rattle.std.proofs.Common.{◌≡◌, ℕ, ◌+◌, ◌<◌, ◌≤◌, ◌⊎◌, length, slice_index}
use Rattle.bdd_core.specs.Words.{word_at}
use Rattle.whole_steps.proofs.given.clear.Given as goal

abbrev pub invariant-loop-at : goal.invariant-loop-at
invariant-loop-at l = record {
  rest : l.store ≡ record l.fn.store { words = l.store.words };
  len : length l.store.words ≡ length l.fn.store.words;
  others : (j : ℕ) → (j < l.fn.given.start) ⊎ (l.fn.given.start + l.fn.given.len ≤ j) → slice_index l.store.words j ≡ slice_index l.fn.store.words j;
  zero : (k : ℕ) → k < l.at → word_at l.store l.fn.given k ≡ 0;
}
