use Rattle.std.proofs.Common.{◌≡◌, ℕ, ◌+◌, ◌<◌, ◌≤◌, ◌≢◌, ◌⊎◌, true, false, length, get_or}
use Rattle.bdd_core.specs.Diagram.{Valuation, meaning, top}
use Rattle.bdd_ops.specs.Ops.{bits_in}
use Rattle.bdd_ops.proofs.valuation.least.Given as goal

abbrev pub invariant-loop-x : goal.invariant-loop-x
invariant-loop-x l = record {
  live : l.place.0 < length l.fn.store.nodes;
  some : l.place.0 ≢ 0;
  first : l.x ≤ top l.fn.store.nodes l.place.0;
  same : (v : Valuation) → ((y : ℕ) → y < l.x → v y ≡ bits_in l.store.words l.fn.into.start y) → meaning l.fn.store.nodes l.place.0 v ≡ meaning l.fn.store.nodes l.fn.f.0 v;
  least : (w : Valuation) (k : ℕ) → k < l.x → ((y : ℕ) → y < k → w y ≡ bits_in l.store.words l.fn.into.start y) → w k ≡ false → bits_in l.store.words l.fn.into.start k ≡ true → meaning l.fn.store.nodes l.fn.f.0 w ≡ false;
  bits : (k : ℕ) → k < l.x → get_or l.store.words (l.fn.into.start + k) 0 < 2;
  rest : l.store ≡ record l.fn.store { words = l.store.words };
  len : length l.store.words ≡ length l.fn.store.words;
  others : (j : ℕ) → (j < l.fn.into.start) ⊎ (l.fn.into.start + l.fn.into.len ≤ j) → get_or l.store.words j 0 ≡ get_or l.fn.store.words j 0;
}
