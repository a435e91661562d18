use Rattle.std.proofs.Common.{◌≡◌, ℕ, ◌+◌, ◌<◌, ◌≤◌, ◌⊎◌, length, slice_index}
use Rattle.bdd_core.specs.Words.{word_at}
use Rattle.step_roots.proofs.roots.copy_handles.Given as goal

abbrev pub invariant-loop-k : goal.invariant-loop-k
invariant-loop-k l = record {
  rest : l.store ≡ record l.fn.store { words = l.store.words };
  len : length l.store.words ≡ length l.fn.store.words;
  others : (j : ℕ) → (j < l.fn.to.start) ⊎ (l.fn.to.start + l.fn.to.len ≤ j) → slice_index l.store.words j ≡ slice_index l.fn.store.words j;
  copied : (k : ℕ) → k < l.k → word_at l.store l.fn.to k ≡ word_at l.fn.store l.fn.from k;
}
