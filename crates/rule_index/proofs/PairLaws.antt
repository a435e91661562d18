-- The model that a `pair` rule names.
use Rattle.std.proofs.Common.{◌≡◌, ◌↔◌, ℕ, List, Bool, true, false, cond, Option, Some, None, option_map, refl, ap, sym, subst, ◌∙◌}
use Rattle.std.specs.Prelude.{IsTrue, bytes_eq, is_none, is_some, not, option_and_then, position, unwrap_or}
use Rattle.vrt_model.specs.PairedPorts.{Missing, Model, Skipped, model_named, model_of_paired, paired_by}
use Rattle.vrt_model.specs.declared.blif.Blif.{Blif}
use Rattle.vrt_model.specs.declared.blif.BlifModel.{BlifModel}
use Rattle.vrt_model.specs.declared.rules.PairRule.{PairRule}

place_is : (o : Option ℕ) → o ≡ model_of_paired (unwrap_or (option_map (λ (m : ℕ). Model m) o) Missing)
place_is None = refl
place_is (Some m) = refl

named_is : (blif : Blif) (o : Option (List ℕ))
    → option_and_then (λ (name : List ℕ). position (λ (m : BlifModel). bytes_eq m.name name) blif.models) o ≡ model_of_paired (unwrap_or (option_map (model_named blif) o) Skipped)
named_is blif None = refl
named_is blif (Some name) = place_is (position (λ (m : BlifModel). bytes_eq m.name name) blif.models)

-- where a rule is found, the model is the one that it names
pub place_some : (blif : Blif) (cell : List ℕ) (rule : PairRule) (found : Option PairRule) (models : List BlifModel) (place : Option ℕ) → Some rule ≡ found → models ≡ blif.models
    → place ≡ option_and_then (λ (name : List ℕ). position (λ (m : BlifModel). bytes_eq m.name name) models) rule.model → place ≡ model_of_paired (paired_by blif cell found)
place_some blif cell rule found models place is same e =
    e ∙ ap (λ (ms : List BlifModel). option_and_then (λ (name : List ℕ). position (λ (m : BlifModel). bytes_eq m.name name) ms) rule.model) same ∙ named_is blif rule.model
    ∙ ap (λ o. model_of_paired (paired_by blif cell o)) is

-- a place of a model, or none, skips no cell
place_apart : (o : Option ℕ) → unwrap_or (option_map (λ (m : ℕ). Model m) o) Missing ≡ Skipped → ⊥
place_apart None e = cc
place_apart (Some m) e = cc

-- nor does the one model of a name
cond_apart : (b : Bool) (o : Option ℕ) → cond b (unwrap_or (option_map (λ (m : ℕ). Model m) o) Missing) Missing ≡ Skipped → ⊥
cond_apart true o e = place_apart o e
cond_apart false o e = cc

-- a cell without a rule is not skipped
pub unruled_kept : (blif : Blif) (cell : List ℕ) (found : Option PairRule) → None ≡ found → paired_by blif cell found ≡ Skipped → ⊥
unruled_kept blif cell None e same = cond_apart _ _ same
unruled_kept blif cell (Some rule) e same = cc

-- a rule skips its cell exactly where it names no model
by_model : (blif : Blif) (name : Option (List ℕ)) → IsTrue (is_none name) ↔ (unwrap_or (option_map (model_named blif) name) Skipped ≡ Skipped)
by_model blif None = (λ _. refl, λ _. refl)
by_model blif (Some name) = (λ h. cc, λ e. absurd (place_apart (position (λ (m : BlifModel). bytes_eq m.name name) blif.models) e))

none_is : (o : Option (List ℕ)) (b : Bool) → is_some o ≡ not b → b ≡ is_none o
none_is None true e = refl
none_is None false e = cc
none_is (Some name) true e = cc
none_is (Some name) false e = refl

pub ruled_skipped : (blif : Blif) (cell : List ℕ) (rule : PairRule) (found : Option PairRule) (result : Bool) → Some rule ≡ found → is_some rule.model ≡ not result
    → IsTrue result ↔ (paired_by blif cell found ≡ Skipped)
ruled_skipped blif cell rule found result is same =
    let P : Bool → Type 0 = λ b. IsTrue b ↔ (paired_by blif cell found ≡ Skipped) in
    let Q : Option PairRule → Type 0 = λ f. IsTrue (is_none rule.model) ↔ (paired_by blif cell f ≡ Skipped) in
    subst P (sym (none_is rule.model result same)) (subst Q is (by_model blif rule.model))
