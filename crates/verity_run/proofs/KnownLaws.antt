-- What is known of cells stays true as they are checked.
use Rattle.std.proofs.Common.{◌≡◌, ◌⊎◌, ℕ, zero, suc, false, List, [], ◌∷◌, length, arith, refl, ap, sym, subst, ◌∙◌, inl, inr}
use Rattle.std.specs.Prelude.{replicate, set}
use Rattle.std.proofs.lemmas.Bool.{false≢true}
use Rattle.std.proofs.lemmas.List.{get_or-replicate, length-replicate, length-set}
use Rattle.std.proofs.lemmas.Option.{none-some, same_Some, slice_get-get_or, slice_get_within}
use Rattle.cell_compare.specs.Cells.{HasFacts}
use Rattle.verity_run.specs.Known.{IsKnown}
use Rattle.verity_run.specs.Reports.{nothing_known}
use Rattle.vrt_model.specs.Facts.{IsTrueOf}
use Rattle.vrt_model.specs.Lists.{At}
use Rattle.vrt_model.specs.declared.blif.Blif.{Blif}
use Rattle.vrt_model.specs.declared.design.Design.{Design}
use Rattle.vrt_model.specs.declared.rules.Rules.{Rules}
use Rattle.vrt_model.specs.declared.verdict.Verdict.{Verdict}
use Rattle.vrt_model.specs.declared.whole.CellFacts.{CellFacts}

-- an entry of a list with one entry set is this one, or was there
at_set : {X : Type 0} (xs : List X) (i : ℕ) (x : X) (j : ℕ) (y : X) → At (set xs i x) j y → ((x ≡ y) × (i ≡ j)) ⊎ At xs j y
at_set [] zero x j y e = absurd (none-some y e)
at_set [] (suc i) x j y e = absurd (none-some y e)
at_set (z ∷ xs) zero x zero y e = inl (same_Some x y e, refl)
at_set (z ∷ xs) zero x (suc j) y e = inr e
at_set (z ∷ xs) (suc i) x zero y e = inr e
at_set (z ∷ xs) (suc i) x (suc j) y e = elim (at_set xs i x j y e) [ inl same ↦ inl (same.0, ap suc same.1) | inr there ↦ inr there ]

-- each entry of a list of one value is this
at_replicate : {X : Type 0} (n : ℕ) (x : X) (j : ℕ) (y : X) → At (replicate n x) j y → x ≡ y
at_replicate {X} n x j y e =
    let within = slice_get_within (replicate n x) j y e in
    let size = length-replicate n x in
    let is : x ≡ y = sym (get_or-replicate n j x x (omega (arith, within, size))) ∙ same_Some _ y (sym (slice_get-get_or (replicate n x) j x within) ∙ e) in
    is

-- nothing is said of a cell
empty_is_true : (design : Design) (blif : Blif) (rules : Rules) (cell : ℕ) → IsTrueOf design blif rules cell (record { equal = false; stateless = false; drives = [] })
empty_is_true design blif rules cell = record {
  supported = λ e. absurd (false≢true e);
  compared = λ m paired. record {
    equal = λ e. absurd (false≢true e);
    stateless = λ e. absurd (false≢true e);
    drives = λ j port drive on at. absurd (none-some drive at);
  };
}

-- at first nothing is known of any cell
pub nothing_is_known : (design : Design) (blif : Blif) (rules : Rules) → IsKnown design blif rules (nothing_known design)
nothing_is_known design blif rules =
    let nothing : CellFacts = record { equal = false; stateless = false; drives = [] } in
    record {
      facts = record { told = λ cell f at. subst (IsTrueOf design blif rules cell) (at_replicate (length design.cells) nothing cell f at) (empty_is_true design blif rules cell) };
      each = length-replicate (length design.cells) nothing;
    }

-- what is noted of one more is true, whatever was known of the cells below it
pub more_is_known : (design : Design) (blif : Blif) (rules : Rules) (below known : List CellFacts) (cell : ℕ) (verdict : Verdict) (facts : CellFacts)
    → IsKnown design blif rules known → HasFacts design blif rules below cell verdict facts → IsKnown design blif rules (set known cell facts)
more_is_known design blif rules below known cell verdict facts is has = record {
  facts = record {
    told = λ n f at.
        elim (at_set known cell facts n f at) [
          | inl same ↦ subst (λ (m : ℕ). IsTrueOf design blif rules m f) same.1 (subst (IsTrueOf design blif rules cell) same.0 has.is_true)
          | inr there ↦ is.facts.told n f there
        ];
  };
  each = length-set known cell facts ∙ is.each;
}
