-- What an end of a channel offers: its signal, where it is on the side, else the constant 0.
use Rattle.std.proofs.Common.{◌≡◌, ℕ, ◌<◌, ◌≤◌, ◌&&◌, Bool, true, false, cond, Option, arith, ap, sym, subst, ◌∙◌}
use Rattle.bdd_core.specs.Diagram.{IsWithin, Valuation, meaning}
use Rattle.bdd_core.specs.Store.{Diagrams}
use Rattle.bdd_core.proofs.Meaning.{meaning_zero}
use Rattle.path_fixpoint.specs.declared.side.Side.{Side}
use Rattle.path_fixpoint.specs.Parts.{is_on_side}

chosen_below : (b : Bool) (h n : ℕ) → h < n → 2 ≤ n → cond b h 0 < n
chosen_below true h n lt two = lt
chosen_below false h n lt two = omega (arith, two)

chosen_shows : (b : Bool) (d : Diagrams) (h : ℕ) (v : Valuation) (x : Bool) → meaning d.nodes h v ≡ x → meaning d.nodes (cond b h 0) v ≡ (b && x)
chosen_shows true d h v x e = e
chosen_shows false d h v x e = meaning_zero d.nodes v

chosen_within : (u : ℕ) (b : Bool) (d : Diagrams) (h : ℕ) → IsWithin u (meaning d.nodes h) → IsWithin u (meaning d.nodes (cond b h 0))
chosen_within u true d h w = w
chosen_within u false d h w = λ x y same. meaning_zero d.nodes x ∙ sym (meaning_zero d.nodes y)

module _ (side : Side) (place : Option ℕ) (mark offered : ℕ) where
  pub offered_live : (count : ℕ) → offered ≡ cond (is_on_side side place) mark 0 → mark < count → 2 ≤ count → offered < count
  offered_live count is lt two = subst (λ (h : ℕ). h < count) (sym is) (chosen_below (is_on_side side place) mark count lt two)

  pub offered_shows : (d : Diagrams) (shown : Valuation → Bool) → offered ≡ cond (is_on_side side place) mark 0 → ((v : Valuation) → meaning d.nodes mark v ≡ shown v)
      → (v : Valuation) → meaning d.nodes offered v ≡ (is_on_side side place && shown v)
  offered_shows d shown is shows v = ap (λ (h : ℕ). meaning d.nodes h v) is ∙ chosen_shows (is_on_side side place) d mark v (shown v) (shows v)

pub offered_within : (u : ℕ) (side : Side) (place : Option ℕ) (mark offered : ℕ) (d : Diagrams) → offered ≡ cond (is_on_side side place) mark 0
    → IsWithin u (meaning d.nodes mark) → IsWithin u (meaning d.nodes offered)
offered_within u side place mark offered d is w = subst (λ (h : ℕ). IsWithin u (meaning d.nodes h)) (sym is) (chosen_within u (is_on_side side place) d mark w)
