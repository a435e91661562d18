use Rattle.std.proofs.Common.{◌≡◌, ℕ, ◌+◌, ◌<◌, ◌≤◌, ◌⊎◌, length, slice_index}
use Rattle.bdd_core.specs.Words.{word_at}
use Rattle.circuit_faults.specs.Results.{first_word}
use Rattle.known_nets.specs.KnownTables.{known_at}
use Rattle.circuit_faults.proofs.circuit.write_first_handles.Given as goal

abbrev pub invariant-loop-n : goal.invariant-loop-n
invariant-loop-n l = record {
  rest : l.store ≡ record l.fn.store { words = l.store.words };
  len : length l.store.words ≡ length l.fn.store.words;
  others : (j : ℕ) → (j < l.fn.gates.start) ⊎ (l.fn.gates.start + l.fn.gates.len ≤ j) → slice_index l.store.words j ≡ slice_index l.fn.store.words j;
  first : (k : ℕ) → k < l.n → word_at l.store l.fn.gates k ≡ first_word (known_at l.known k) (word_at l.fn.store l.fn.roots k);
}
