-- Functions of the first u variables: what operations make of them, and handles that keep their functions.
use Rattle.std.proofs.Common.{◌≡◌, ℕ, ◌<◌, Bool, cond, not, ◌&&◌, ◌||◌, ap, ap₂, sym, subst, ◌∙◌, inl, inr}
use Rattle.std.proofs.lemmas.Bool.{cases_eq}
use Rattle.node_pool.specs.declared.region.Span.{Span}
use Rattle.bdd_core.specs.Diagram.{Function, IsSame, IsWithin, choice, bit_of, fixed, meaning, with_bit}
use Rattle.bdd_core.specs.Store.{Diagrams}
use Rattle.bdd_core.specs.Words.{word_at}
use Rattle.bdd_core.proofs.Canonical.{with_bit_here, with_bit_other}
use Rattle.bdd_core.proofs.Meaning.{meaning_one, meaning_zero}
use Rattle.bdd_ops.specs.Counting.{IsSpanWithin}
use Rattle.bdd_ops.specs.Ops.{and_of, implies_of, not_of, or_of, xor_of}

module _ (u : ℕ) where
  pub within_and : (f g : Function) → IsWithin u f → IsWithin u g → IsWithin u (and_of f g)
  within_and f g a b v w same = ap₂ (λ (x y : Bool). x && y) (a v w same) (b v w same)

  pub within_or : (f g : Function) → IsWithin u f → IsWithin u g → IsWithin u (or_of f g)
  within_or f g a b v w same = ap₂ (λ (x y : Bool). x || y) (a v w same) (b v w same)

  pub within_not : (f : Function) → IsWithin u f → IsWithin u (not_of f)
  within_not f a v w same = ap (λ (x : Bool). not x) (a v w same)

  pub within_implies : (f g : Function) → IsWithin u f → IsWithin u g → IsWithin u (implies_of f g)
  within_implies f g a b v w same = ap₂ (λ (x y : Bool). not x || y) (a v w same) (b v w same)

  pub within_xor : (f g : Function) → IsWithin u f → IsWithin u g → IsWithin u (xor_of f g)
  within_xor f g a b v w same = ap₂ (λ (x y : Bool). cond x (not y) y) (a v w same) (b v w same)

  pub within_choice : (c g h : Function) → IsWithin u c → IsWithin u g → IsWithin u h → IsWithin u (choice c g h)
  within_choice c g h a b d v w same =
      ap (λ (x : Bool). cond x (g v) (h v)) (a v w same) ∙ ap₂ (λ (x y : Bool). cond (c w) x y) (b v w same) (d v w same)

  pub within_bit : (x : ℕ) → x < u → IsWithin u (bit_of x)
  within_bit x below v w same = same x below

  pub within_fixed : (f : Function) (x : ℕ) (b : Bool) → IsWithin u f → IsWithin u (fixed f x b)
  within_fixed f x b a v w same = a (with_bit v x b) (with_bit w x b) (λ y below. elim (cases_eq y x) [
    | inl here ↦ rw here (with_bit_here v x b ∙ sym (with_bit_here w x b))
    | inr other ↦ with_bit_other v x y b other ∙ same y below ∙ sym (with_bit_other w x y b other)
  ])

  pub within_same : (f g : Function) → IsSame g f → IsWithin u f → IsWithin u g
  within_same f g is a v w same = is v ∙ a v w same ∙ sym (is w)

  -- the constants
  pub within_zero : (d : Diagrams) → IsWithin u (meaning d.nodes 0)
  within_zero d v w same = meaning_zero d.nodes v ∙ sym (meaning_zero d.nodes w)

  pub within_one : (d : Diagrams) → IsWithin u (meaning d.nodes 1)
  within_one d v w same = meaning_one d.nodes v ∙ sym (meaning_one d.nodes w)

  -- a span whose words and functions stay
  pub span_kept : (span : Span) (old new : Diagrams) → ((k : ℕ) → k < span.len → word_at new span k ≡ word_at old span k)
      → ((k : ℕ) → k < span.len → IsSame (meaning new.nodes (word_at old span k)) (meaning old.nodes (word_at old span k)))
      → IsSpanWithin u old span → IsSpanWithin u new span
  span_kept span old new words kept all k lt =
      subst (λ (h : ℕ). IsWithin u (meaning new.nodes h)) (sym (words k lt))
      (within_same (meaning old.nodes (word_at old span k)) (meaning new.nodes (word_at old span k)) (kept k lt) (all k lt))
