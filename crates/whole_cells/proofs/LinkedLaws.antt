-- The links of one phase more.
use Rattle.std.proofs.Common.{◌≡◌, ℕ, zero, suc, ◌+◌, List, [], ◌∷◌, ◌++◌, length, ap, refl, subst, sym, ◌∙◌, inl, inr, length-append}
use Rattle.std.specs.Prelude.{◌⊎◌}
use Rattle.std.proofs.lemmas.Option.{none-some, same_Some}
use Rattle.port_links.specs.PortLinks.{ArePortLinks}
use Rattle.port_links.specs.declared.links.PortLink.{PortLink}
use Rattle.vrt_model.specs.Lists.{At}
use Rattle.vrt_model.specs.declared.design.Design.{Design}
use Rattle.vrt_model.specs.declared.rules.Rules.{Rules}
use Rattle.whole_cells.specs.Links.{ArePhasesLinked}
use Rattle.whole_cells.specs.declared.own.Own.{Own}

-- an item of a list with one more is one of the list, or that one
pub at_either : {X : Type 0} (xs : List X) (x y : X) (j : ℕ) → At (xs ++ x ∷ []) j y → At xs j y ⊎ ((j ≡ length xs) × (x ≡ y))
at_either [] x y zero e = inr (refl, same_Some x y e)
at_either [] x y (suc j) e = absurd (none-some y e)
at_either (z ∷ xs) x y zero e = inl e
at_either (z ∷ xs) x y (suc j) e = elim (at_either xs x y j e) [ inl a ↦ inl a | inr b ↦ inr (ap suc b.0, b.1) ]

module _ (design : Design) (rules : Rules) (cell : ℕ) (own : Own) where
  pub one_linked : (n : ℕ) (all : List (List PortLink)) (links : List PortLink) → ArePhasesLinked design rules cell own n all
      → ArePortLinks design rules cell own.circuit own.pairing own.model n links → ArePhasesLinked design rules cell own (n + 1) (all ++ links ∷ [])
  one_linked n all links are next = record {
    each = length-append all (links ∷ []) ∙ ap (λ (x : ℕ). x + 1) are.each;
    are = λ phase some here.
        elim (at_either all links some phase here) [
          | inl earlier ↦ are.are phase some earlier
          | inr last ↦
              subst (λ (p : ℕ). ArePortLinks design rules cell own.circuit own.pairing own.model p some) (sym (last.0 ∙ are.each))
              (subst (ArePortLinks design rules cell own.circuit own.pairing own.model n) last.1 next)
        ];
  }
