-- Handles in the words of spans: the functions that they stand for, and steps that write them.
use Rattle.std.specs.Prelude.{◌≡◌, ℕ, ◌+◌, ◌<◌, ◌≤◌, ◌⊎◌, Bool, length, slice_index}
use Rattle.node_pool.specs.declared.region.Span.{Span}
use Rattle.bdd_core.specs.Diagram.{Valuation, meaning}
use Rattle.bdd_core.specs.Store.{Adds, Diagrams}

-- the word at a place of a span
abbrev pub word_at : Diagrams → Span → ℕ → ℕ
word_at d span k = slice_index d.words (span.start + k)

-- the value of the handle in a word, at a valuation
abbrev pub shows : Diagrams → Span → ℕ → Valuation → Bool
shows d span k v = meaning d.nodes (word_at d span k) v

-- each word of a span is a live handle
abbrev pub IsFilled : Diagrams → Span → Type 0
IsFilled d span = (k : ℕ) → k < span.len → word_at d span k < length d.nodes

-- two spans have no word in common
abbrev pub IsApart : Span → Span → Type 0
IsApart a b = (a.start + a.len ≤ b.start) ⊎ (b.start + b.len ≤ a.start)

-- the word is not one of the span
abbrev pub IsBeside : Span → ℕ → Type 0
IsBeside span j = (j < span.start) ⊎ (span.start + span.len ≤ j)

-- a store went from `old` to `new` by adding nodes and by writing live handles into one span alone
pub record Writes (out : Span) (old new : Diagrams) : Type 0 where
  pub adds : Adds old new new.words
  pub len : length new.words ≡ length old.words
  pub others : (j : ℕ) → IsBeside out j → slice_index new.words j ≡ slice_index old.words j
  pub live : IsFilled new out

-- nodes were only added, and words of two spans alone changed
pub record WritesTwo (a b : Span) (old new : Diagrams) : Type 0 where
  pub adds : Adds old new new.words
  pub len : length new.words ≡ length old.words
  pub others : (j : ℕ) → IsBeside a j → IsBeside b j → slice_index new.words j ≡ slice_index old.words j
