-- Handles that stand for others, while nodes are added.
use Rattle.std.proofs.Common.{◌≡◌, ◌≢◌, ℕ, ◌<◌, ◌≤◌, List, length, arith, ap, sym, subst, ◌∙◌, inl, inr}
use Rattle.std.specs.Prelude.{slice_index, slice_set}
use Rattle.std.proofs.lemmas.Bool.{cases_eq}
use Rattle.std.proofs.lemmas.List.{get_or-set_other, get_or-set_same}
use Rattle.bdd_core.specs.Diagram.{Valuation, meaning}
use Rattle.bdd_core.specs.Store.{AddsNodes, Diagrams}
use Rattle.bdd_ops.proofs.Walk.{end_value}
use Rattle.bdd_ops.proofs.WithinLaws.{within_same}
use Rattle.part_functions.proofs.ComposeLaws.{inner_kept}
use Rattle.part_functions.specs.Inner.{AreLive, inner}
use Rattle.part_functions.specs.Replaced.{StandsFor}
use Rattle.part_functions.specs.declared.few.PartFunctions.{PartFunctions}

-- that of a constant stands for itself
pub stands_constant : (f : PartFunctions) (d : Diagrams) (h : ℕ) → 2 ≤ length d.nodes → h < 2 → StandsFor f d h h
stands_constant f d h two low = record {
  live = omega (arith, two, low);
  same = λ v. end_value d.nodes h (inner f d v) low ∙ sym (end_value d.nodes h v low);
  within = λ v w same. end_value d.nodes h v low ∙ sym (end_value d.nodes h w low);
}

module _ (f : PartFunctions) (old new : Diagrams) (adds : AddsNodes old new) (live : AreLive f old) where
  pub stands_kept : (h s : ℕ) → h < length old.nodes → StandsFor f old h s → StandsFor f new h s
  stands_kept h s h_live stands = record {
    live = (let here = stands.live in let longer = adds.longer in omega (arith, here, longer));
    same = λ v.
        ap (λ (w : Valuation). meaning new.nodes s w) (inner_kept f old new old.words adds live v)
        ∙ adds.kept s stands.live (inner f old v) ∙ stands.same v ∙ sym (adds.kept h h_live v);
    within = within_same f.count (meaning old.nodes s) (meaning new.nodes s) (adds.kept s stands.live) stands.within;
  }

-- a list with one more of its places written
module _ (xs : List ℕ) (at h : ℕ) (inside : at < length xs) where
  pub each_live : (bound : ℕ) → ((i : ℕ) → slice_index xs i < bound) → h < bound → (i : ℕ) → slice_index (slice_set xs at h) i < bound
  each_live bound all here i = elim (cases_eq i at) [
    | inl e ↦ subst (λ (k : ℕ). slice_index (slice_set xs at h) k < bound) (sym e) (subst (λ (k : ℕ). k < bound) (sym (get_or-set_same xs at h 0 inside)) here)
    | inr ne ↦ subst (λ (k : ℕ). k < bound) (sym (get_or-set_other xs at i h 0 ne)) (all i)
  ]

  pub written_here : slice_index (slice_set xs at h) at ≡ h
  written_here = get_or-set_same xs at h 0 inside

  pub written_beside : (i : ℕ) → i ≢ at → slice_index (slice_set xs at h) i ≡ slice_index xs i
  written_beside i ne = get_or-set_other xs at i h 0 ne
