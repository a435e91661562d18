-- What `mk` leaves, over lists of nodes.
use Rattle.std.proofs.Common.{◌≡◌, ℕ, ◌<◌, ◌≤◌, List, [], ◌∷◌, ◌++◌, length, refl, ap, ◌∙◌, inl, inr, arith, ◌⊎◌}
use Rattle.std.specs.List.{Contains}
use Rattle.std.proofs.lemmas.List.{length_push}
use Rattle.node_pool.specs.declared.region.Node.{Node}
use Rattle.bdd_core.specs.Diagram.{Function, IsSame, node_at, meaning, IsProper, IsReduced, Grows, choice, bit_of}
use Rattle.bdd_core.proofs.Meaning.{meaning-append}
use Rattle.bdd_core.proofs.Growth.{grows_none, grows_push}
use Rattle.bdd_core.proofs.Steps.{reduced_push, meaning_push, meaning_there}

-- the node was there, or it was appended
abbrev pub IsStep : List Node → List Node → Node → Type 0
IsStep ns ms n = (Contains ns n × (ms ≡ ns)) ⊎ ((Contains ns n → ⊥) × (ms ≡ ns ++ n ∷ []))

abbrev pub join : List Node → Node → Function
join ns n = choice (bit_of n.var) (meaning ns n.hi) (meaning ns n.lo)

module _ (vars : ℕ) (ns ms : List Node) (n : Node) (r : IsReduced vars ns) (p : IsProper vars ns n (length ns)) (step : IsStep ns ms n) where
  pub mk_sound : IsReduced vars ms
  mk_sound = elim step [
    | inl there ↦ rw there.1 r
    | inr new ↦ rw new.1 (reduced_push vars ns n r p new.0)
  ]

  pub mk_keeps : (i : ℕ) → i < length ns → IsSame (meaning ms i) (meaning ns i)
  mk_keeps i within v = elim step [
    | inl there ↦ rw there.1 refl
    | inr new ↦ rw new.1 (meaning-append ns (n ∷ []) i v within)
  ]

  pub mk_grows : Grows ns ms (join ns n)
  mk_grows = elim step [
    | inl there ↦ rw there.1 (grows_none ns (join ns n))
    | inr new ↦ rw new.1 (grows_push ns n (join ns n) (meaning_push vars ns n r.ends p))
  ]

  pub mk_length : length ns ≤ length ms
  mk_length = elim step [
    | inl there ↦ omega (arith, ap length there.1)
    | inr new ↦ omega (arith, ap length new.1, length_push ns n)
  ]

  pub mk_means : (at : ℕ) → at < length ms → node_at ms at ≡ n → IsSame (meaning ms at) (join ns n)
  mk_means at within is v =
      meaning_there vars ms n at mk_sound p.differ within (omega (arith, p.lo_below, mk_length)) is p.var_below v
      ∙ rw (mk_keeps n.hi p.hi_below v, mk_keeps n.lo p.lo_below v) refl
