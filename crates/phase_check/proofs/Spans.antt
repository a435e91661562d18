-- The spans of a phase in its store.
use Rattle.std.proofs.Common.{◌≡◌, ◌+◌, ◌≤◌, length, arith, inl, inr}
use Rattle.bdd_core.specs.Store.{Diagrams, IsSpan}
use Rattle.bdd_core.specs.Words.{IsApart}
use Rattle.phase_terms.specs.Stores.{HasPhaseWords}
use Rattle.phase_terms.specs.declared.words.PhaseWords.{PhaseWords}
use Rattle.phase_terms.specs.declared.words.WordCounts.{WordCounts}

-- the words are there as long as the store keeps its words
pub words_kept : (c : WordCounts) (w : PhaseWords) (old new : Diagrams) → new.own ≡ old.own → length new.words ≡ length old.words → HasPhaseWords c w old → HasPhaseWords c w new
words_kept c w old new own len h = record {
  first = (let first = h.first in omega (arith, first, own));
  gates_behind = h.gates_behind;
  zeros_behind = h.zeros_behind;
  ones_behind = h.ones_behind;
  out_behind = h.out_behind;
  inputs_behind = h.inputs_behind;
  held_behind = h.held_behind;
  values_behind = h.values_behind;
  least_behind = h.least_behind;
  last = (let last = h.last in omega (arith, last, len));
  roots_len = h.roots_len;
  gates_len = h.gates_len;
  zeros_len = h.zeros_len;
  ones_len = h.ones_len;
  out_len = h.out_len;
  inputs_len = h.inputs_len;
  held_len = h.held_len;
  values_len = h.values_len;
  least_len = h.least_len;
}

module _ (c : WordCounts) (w : PhaseWords) (d : Diagrams) (h : HasPhaseWords c w d) where
  -- ---- where each begins, above the words of the store itself

  gates_start : d.own ≤ w.gates.start
  gates_start = omega (arith, h.first, h.gates_behind)

  zeros_start : d.own ≤ w.zeros.start
  zeros_start = omega (arith, gates_start, h.zeros_behind)

  ones_start : d.own ≤ w.ones.start
  ones_start = omega (arith, zeros_start, h.ones_behind)

  out_start : d.own ≤ w.out.start
  out_start = omega (arith, ones_start, h.out_behind)

  inputs_start : d.own ≤ w.inputs.start
  inputs_start = omega (arith, out_start, h.inputs_behind)

  held_start : d.own ≤ w.held.start
  held_start = omega (arith, inputs_start, h.held_behind)

  values_start : d.own ≤ w.values.start
  values_start = omega (arith, held_start, h.values_behind)

  least_start : d.own ≤ w.least.start
  least_start = omega (arith, values_start, h.least_behind)

  -- ---- and ends, below the number of words

  values_end : w.values.start + w.values.len ≤ length d.words
  values_end = omega (arith, h.least_behind, h.last)

  held_end : w.held.start + w.held.len ≤ length d.words
  held_end = omega (arith, values_end, h.values_behind)

  inputs_end : w.inputs.start + w.inputs.len ≤ length d.words
  inputs_end = omega (arith, held_end, h.held_behind)

  out_end : w.out.start + w.out.len ≤ length d.words
  out_end = omega (arith, inputs_end, h.inputs_behind)

  ones_end : w.ones.start + w.ones.len ≤ length d.words
  ones_end = omega (arith, out_end, h.out_behind)

  zeros_end : w.zeros.start + w.zeros.len ≤ length d.words
  zeros_end = omega (arith, ones_end, h.ones_behind)

  gates_end : w.gates.start + w.gates.len ≤ length d.words
  gates_end = omega (arith, zeros_end, h.zeros_behind)

  roots_end : w.roots.start + w.roots.len ≤ length d.words
  roots_end = omega (arith, gates_end, h.gates_behind)

  -- ---- each is a span of the store

  pub roots_span : IsSpan d w.roots
  roots_span = (h.first, roots_end)

  pub gates_span : IsSpan d w.gates
  gates_span = (gates_start, gates_end)

  pub zeros_span : IsSpan d w.zeros
  zeros_span = (zeros_start, zeros_end)

  pub ones_span : IsSpan d w.ones
  ones_span = (ones_start, ones_end)

  pub out_span : IsSpan d w.out
  out_span = (out_start, out_end)

  pub inputs_span : IsSpan d w.inputs
  inputs_span = (inputs_start, inputs_end)

  pub held_span : IsSpan d w.held
  held_span = (held_start, held_end)

  pub values_span : IsSpan d w.values
  values_span = (values_start, values_end)

  pub least_span : IsSpan d w.least
  least_span = (least_start, h.last)

  -- ---- and they are apart

  pub roots_gates : IsApart w.roots w.gates
  roots_gates = inl h.gates_behind

  pub roots_zeros : IsApart w.roots w.zeros
  roots_zeros = inl (omega (arith, h.gates_behind, h.zeros_behind))

  pub roots_ones : IsApart w.roots w.ones
  roots_ones = inl (omega (arith, h.gates_behind, h.zeros_behind, h.ones_behind))

  pub roots_out : IsApart w.roots w.out
  roots_out = inl (omega (arith, h.gates_behind, h.zeros_behind, h.ones_behind, h.out_behind))

  pub roots_values : IsApart w.roots w.values
  roots_values = inl (omega (arith, h.gates_behind, h.zeros_behind, h.ones_behind, h.out_behind, h.inputs_behind, h.held_behind, h.values_behind))

  pub gates_zeros : IsApart w.gates w.zeros
  gates_zeros = inl h.zeros_behind

  pub gates_ones : IsApart w.gates w.ones
  gates_ones = inl (omega (arith, h.zeros_behind, h.ones_behind))

  pub gates_out : IsApart w.gates w.out
  gates_out = inl (omega (arith, h.zeros_behind, h.ones_behind, h.out_behind))

  pub gates_values : IsApart w.gates w.values
  gates_values = inl (omega (arith, h.zeros_behind, h.ones_behind, h.out_behind, h.inputs_behind, h.held_behind, h.values_behind))

  pub zeros_ones : IsApart w.zeros w.ones
  zeros_ones = inl h.ones_behind

  pub zeros_out : IsApart w.zeros w.out
  zeros_out = inl (omega (arith, h.ones_behind, h.out_behind))

  pub ones_out : IsApart w.ones w.out
  ones_out = inl h.out_behind

  pub inputs_roots : IsApart w.inputs w.roots
  inputs_roots = inr (omega (arith, h.gates_behind, h.zeros_behind, h.ones_behind, h.out_behind, h.inputs_behind))

  pub held_roots : IsApart w.held w.roots
  held_roots = inr (omega (arith, h.gates_behind, h.zeros_behind, h.ones_behind, h.out_behind, h.inputs_behind, h.held_behind))

  pub inputs_gates : IsApart w.inputs w.gates
  inputs_gates = inr (omega (arith, h.zeros_behind, h.ones_behind, h.out_behind, h.inputs_behind))

  pub inputs_zeros : IsApart w.inputs w.zeros
  inputs_zeros = inr (omega (arith, h.ones_behind, h.out_behind, h.inputs_behind))

  pub inputs_ones : IsApart w.inputs w.ones
  inputs_ones = inr (omega (arith, h.out_behind, h.inputs_behind))

  pub inputs_out : IsApart w.inputs w.out
  inputs_out = inr h.inputs_behind

  pub inputs_values : IsApart w.inputs w.values
  inputs_values = inl (omega (arith, h.held_behind, h.values_behind))

  pub held_gates : IsApart w.held w.gates
  held_gates = inr (omega (arith, h.zeros_behind, h.ones_behind, h.out_behind, h.inputs_behind, h.held_behind))

  pub held_zeros : IsApart w.held w.zeros
  held_zeros = inr (omega (arith, h.ones_behind, h.out_behind, h.inputs_behind, h.held_behind))

  pub held_ones : IsApart w.held w.ones
  held_ones = inr (omega (arith, h.out_behind, h.inputs_behind, h.held_behind))

  pub held_out : IsApart w.held w.out
  held_out = inr (omega (arith, h.inputs_behind, h.held_behind))

  pub held_values : IsApart w.held w.values
  held_values = inl h.values_behind
