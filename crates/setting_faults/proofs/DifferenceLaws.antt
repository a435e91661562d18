-- Two functions of a net that differ, and the nets before it that do not.
use Rattle.std.proofs.Common.{◌≡◌, ◌≢◌, ℕ, ◌<◌, ◌&&◌, Bool, true, false, cond, not, length, arith, ap, ap₂, refl, subst, sym, ◌∙◌, ◌+◌, Option, inl, inr}
use Rattle.std.specs.Prelude.{◌↔◌}
use Rattle.std.proofs.lemmas.Bool.{cases_eq, false≢true}
use Rattle.node_pool.specs.declared.region.Span.{Span}
use Rattle.bdd_core.proofs.Frames.{word_added}
use Rattle.bdd_core.specs.Diagram.{Function, IsWithin, Valuation, meaning}
use Rattle.bdd_core.specs.Store.{AddsNodes, Diagrams, IsLive, Means, function_of}
use Rattle.bdd_core.specs.Words.{shows, word_at}
use Rattle.bdd_core.specs.declared.handle.H.{H}
use Rattle.bdd_ops.specs.Counting.{IsSpanWithin}
use Rattle.setting_faults.specs.Differences.{NetDiffers, difference_of}

-- ---- bits

same_bits : (care f g : Bool) → care && cond f (not g) g ≡ false → care ≡ true → f ≡ g
same_bits true true true e met = refl
same_bits true true false e met = e
same_bits true false true e met = sym e
same_bits true false false e met = refl
same_bits false f g e met = absurd (false≢true met)

other_bits : (care f g : Bool) → care && cond f (not g) g ≡ true → (care ≡ true) × (f ≢ g)
other_bits true true true e = absurd (false≢true e)
other_bits true true false e = (refl, λ x. false≢true (sym x))
other_bits true false true e = (refl, λ x. false≢true x)
other_bits true false false e = absurd (false≢true e)
other_bits false f g e = absurd (false≢true e)

by_other_bits : (care f g : Bool) → care ≡ true → f ≢ g → care && cond f (not g) g ≡ true
by_other_bits true true true met ne = absurd (ne refl)
by_other_bits true true false met ne = refl
by_other_bits true false true met ne = refl
by_other_bits true false false met ne = absurd (ne refl)
by_other_bits false f g met ne = absurd (false≢true met)

-- ---- a net

-- in the care set the two functions of a net are the same
abbrev pub IsAlikeAt : H → Span → Span → Diagrams → ℕ → Type 0
IsAlikeAt care left right d n = (v : Valuation) → function_of d care v ≡ true → shows d left n v ≡ shows d right n v

-- where they differ
abbrev pub difference_at : H → Span → Span → Diagrams → ℕ → Function
difference_at care left right d n = difference_of (function_of d care) (λ v. shows d left n v) (λ v. shows d right n v)

module _ (care : H) (left right : Span) (first now : Diagrams) (adds : AddsNodes first now) (care_live : IsLive first care) (n : ℕ)
    (left_live : word_at first left n < length first.nodes) (right_live : word_at first right n < length first.nodes) where
  shown : (span : Span) → word_at first span n < length first.nodes → (v : Valuation) → shows now span n v ≡ shows first span n v
  shown span live v = ap (λ (h : ℕ). meaning now.nodes h v) (word_added span first now n adds) ∙ adds.kept (word_at first span n) live v

  same : (v : Valuation) → difference_at care left right now n v ≡ difference_at care left right first n v
  same v =
      ap (λ (b : Bool). b && cond (shows now left n v) (not (shows now right n v)) (shows now right n v)) (adds.kept care.0 care_live v)
      ∙ ap₂ (λ (f g : Bool). function_of first care v && cond f (not g) g) (shown left left_live v) (shown right right_live v)

  -- where they differ nowhere
  pub alike_here : ((v : Valuation) → difference_at care left right now n v ≡ false) → IsAlikeAt care left right first n
  alike_here none v met = same_bits (function_of first care v) (shows first left n v) (shows first right n v) (sym (same v) ∙ none v) met

  -- a handle that says where they do
  pub differ_exactly : (new : Diagrams) (at : H) → Means new at (difference_at care left right now n) → (v : Valuation)
      → (function_of new at v ≡ true) ↔ ((function_of first care v ≡ true) × (shows first left n v ≢ shows first right n v))
  differ_exactly new at m v = (
    λ e. other_bits (function_of first care v) (shows first left n v) (shows first right n v) (sym (same v) ∙ sym (m.same v) ∙ e),
    λ h. m.same v ∙ same v ∙ by_other_bits (function_of first care v) (shows first left n v) (shows first right n v) h.0 h.1,
  )

-- one net more
pub alike_next : (observed : ℕ → Bool) (care : H) (left right : Span) (d : Diagrams) (upto : ℕ) → ((n : ℕ) → n < upto → observed n ≡ true → IsAlikeAt care left right d n)
    → (observed upto ≡ true → IsAlikeAt care left right d upto) → (n : ℕ) → n < upto + 1 → observed n ≡ true → IsAlikeAt care left right d n
alike_next observed care left right d upto before here n lt seen =
    elim (cases_eq n upto) [
      | inl e ↦ subst (IsAlikeAt care left right d) (sym e) (here (subst (λ (m : ℕ). observed m ≡ true) e seen))
      | inr ne ↦ before n (omega (arith, lt, ne)) seen
    ]

-- by the words that were read
module _ (d : Diagrams) (left right : Span) (n a b : ℕ) (first : a ≡ word_at d left n) (second : b ≡ word_at d right n) where
  pub net_read : (seen : Bool) (care : H) (new : Diagrams) (found : Option H)
      → NetDiffers seen (difference_of (function_of d care) (meaning d.nodes a) (meaning d.nodes b)) new found → NetDiffers seen (difference_at care left right d n) new found
  net_read seen care new found gives =
      subst (λ (x : ℕ). NetDiffers seen (difference_of (function_of d care) (meaning d.nodes (word_at d left n)) (meaning d.nodes x)) new found) second
      (subst (λ (x : ℕ). NetDiffers seen (difference_of (function_of d care) (meaning d.nodes x) (meaning d.nodes b)) new found) first gives)

pub read_within : (u : ℕ) (d : Diagrams) (span : Span) (n a : ℕ) → a ≡ word_at d span n → n < span.len → IsSpanWithin u d span → IsWithin u (meaning d.nodes a)
read_within u d span n a read lt all = subst (λ (x : ℕ). IsWithin u (meaning d.nodes x)) (sym read) (all n lt)
