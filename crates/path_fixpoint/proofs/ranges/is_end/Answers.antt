use Rattle.std.proofs.Common.{ℕ, refl, sym, ◌∙◌, inl, inr}
use Rattle.path_fixpoint.specs.Parts.{IsPlace}
use Rattle.path_fixpoint.proofs.ranges.is_end.Goals as goal

pub returns-else-is_some : goal.returns-else-is_some
returns-else-is_some c =
    let absent : (i : ℕ) → IsPlace c.args.part.now i c.args.net.0 → ⊥ = c.place.ensures.none (sym c.is_some.ensures ∙ c.if-is_some.false) in
    (λ t. inr (c.is_given.ensures.0 t), λ e. elim e [ inl m ↦ absurd (absent m.0 (c.args.net, m.1, refl)) | inr g ↦ c.is_given.ensures.1 g ])
