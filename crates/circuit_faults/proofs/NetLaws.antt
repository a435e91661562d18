-- The faults of one net, as functions.
use Rattle.std.proofs.Common.{◌≡◌, ℕ, ◌&&◌, ◌||◌, Bool, true, false, cond, ap, refl, sym, ◌∙◌}
use Rattle.std.specs.Prelude.{◌↔◌}
use Rattle.std.proofs.lemmas.Bool.{and_from, and_parts, false≢true}
use Rattle.bdd_core.proofs.Meaning.{meaning_zero}
use Rattle.bdd_core.specs.Diagram.{Function, IsSame, Valuation, choice, meaning}
use Rattle.bdd_core.specs.Store.{Diagrams, IsLive, Means, function_of, AddsNodes}
use Rattle.bdd_core.specs.declared.handle.H.{H}
use Rattle.bdd_ops.specs.Ops.{and_of, or_of}
use Rattle.circuit_faults.specs.Scans.{IsClearNet, IsFaultyNet, fight_of, float_of}
use Rattle.vrt_model.specs.declared.verdict.FaultKind.{FaultKind}
use Rattle.vrt_model.specs.declared.verdict.FaultKind.TheVariants.{Fight, FightKept, Float, Unsettled, Constraint, Differs, Next, Apart, Enter}

-- ---- how the functions are made

module _ (old mid new : Diagrams) (care zero one : H) (first : AddsNodes old mid) (care_live : IsLive old care) where
  pub fight_made : (both h : H) → Means mid both (and_of (function_of old zero) (function_of old one)) → Means new h (and_of (function_of mid care) (function_of mid both))
      → Means new h (fight_of (function_of old care) (function_of old zero) (function_of old one))
  fight_made both h b m = record {
    live = m.live;
    same = λ v.
        m.same v ∙ ap (λ (x : Bool). x && function_of mid both v) (first.kept care.0 care_live v) ∙ ap (λ (x : Bool). function_of old care v && x) (b.same v);
  }

  pub float_made : (any h : H) → Means mid any (or_of (function_of old zero) (function_of old one)) → Means new h (choice (function_of mid any) (meaning mid.nodes 0) (function_of mid care))
      → Means new h (float_of (function_of old care) (function_of old zero) (function_of old one))
  float_made any h b m = record {
    live = m.live;
    same = λ v.
        m.same v
        ∙ ap (λ (x : Bool). cond x (meaning mid.nodes 0 v) (function_of mid care v)) (b.same v)
        ∙ ap (λ (x : Bool). cond (function_of old zero v || function_of old one v) x (function_of mid care v)) (meaning_zero mid.nodes v)
        ∙ ap (λ (x : Bool). cond (function_of old zero v || function_of old one v) false x) (first.kept care.0 care_live v);
  }

-- where the handle is that of the constant 0, the function is 0
pub nowhere : (d : Diagrams) (h : H) (f : Function) → Means d h f → h.0 ≡ 0 → (v : Valuation) → f v ≡ false
nowhere d h f m e v = sym (m.same v) ∙ ap (λ (k : ℕ). meaning d.nodes k v) e ∙ meaning_zero d.nodes v

-- ---- the same at equal functions

module _ (care zero one care' zero' one' : Function) (same_care : IsSame care care') (same_zero : IsSame zero zero') (same_one : IsSame one one') where
  fight_same : IsSame (fight_of care zero one) (fight_of care' zero' one')
  fight_same v =
      ap (λ (x : Bool). x && (zero v && one v)) (same_care v) ∙ ap (λ (x : Bool). care' v && (x && one v)) (same_zero v) ∙ ap (λ (x : Bool). care' v && (zero' v && x)) (same_one v)

  float_same : IsSame (float_of care zero one) (float_of care' zero' one')
  float_same v =
      ap (λ (x : Bool). cond (x || one v) false (care v)) (same_zero v) ∙ ap (λ (x : Bool). cond (zero' v || x) false (care v)) (same_one v) ∙ ap (λ (x : Bool). cond (zero' v || one' v) false x) (same_care v)

  pub clear_same : (seen : Bool) → IsClearNet care zero one seen → IsClearNet care' zero' one' seen
  clear_same seen c = record { fight = λ v. sym (fight_same v) ∙ c.fight v; float = λ s v. sym (float_same v) ∙ c.float s v }

  means_same : (d : Diagrams) (h : H) (f g : Function) → IsSame f g → Means d h f → Means d h g
  means_same d h f g same m = record { live = m.live; same = λ v. m.same v ∙ same v }

  pub faulty_same : (seen : Bool) (kind : FaultKind) (h : H) (d : Diagrams) → IsFaultyNet care zero one seen kind h d → IsFaultyNet care' zero' one' seen kind h d
  faulty_same seen Fight h d f = (means_same d h (fight_of care zero one) (fight_of care' zero' one') fight_same f.0, f.1)
  faulty_same seen Float h d f = (f.0, λ v. sym (fight_same v) ∙ f.1 v, means_same d h (float_of care zero one) (float_of care' zero' one') float_same f.2, f.3)
  faulty_same seen FightKept h d f = f
  faulty_same seen Unsettled h d f = f
  faulty_same seen Constraint h d f = f
  faulty_same seen Differs h d f = f
  faulty_same seen Next h d f = f
  faulty_same seen Apart h d f = f
  faulty_same seen Enter h d f = f

-- ---- what the functions say at a valuation

pub fight_says : (care zero one : Function) (v : Valuation) → (fight_of care zero one v ≡ true) ↔ ((care v ≡ true) × (zero v ≡ true) × (one v ≡ true))
fight_says care zero one v = (
  λ e. let p = and_parts (care v) (zero v && one v) e in let q = and_parts (zero v) (one v) p.1 in (p.0, q.0, q.1),
  λ h. and_from (care v) (zero v && one v) h.0 (and_from (zero v) (one v) h.1 h.2),
)

float_at : (care zero one : Bool) → (cond (zero || one) false care ≡ true) ↔ ((care ≡ true) × (zero ≡ false) × (one ≡ false))
float_at care true one = (λ e. absurd (false≢true e), λ h. absurd (false≢true (sym h.1)))
float_at care false true = (λ e. absurd (false≢true e), λ h. absurd (false≢true (sym h.2)))
float_at care false false = (λ e. (e, refl, refl), λ h. h.0)

pub float_says : (care zero one : Function) (v : Valuation) → (float_of care zero one v ≡ true) ↔ ((care v ≡ true) × (zero v ≡ false) × (one v ≡ false))
float_says care zero one v = float_at (care v) (zero v) (one v)

-- ---- a step between that adds nodes alone

module _ (old mid : Diagrams) (care zero one : H) (first : AddsNodes old mid) (care_live : IsLive old care) (zero_live : IsLive old zero) (one_live : IsLive old one) where
  float_first : IsSame (float_of (function_of mid care) (function_of mid zero) (function_of mid one)) (float_of (function_of old care) (function_of old zero) (function_of old one))
  float_first =
      float_same (function_of mid care) (function_of mid zero) (function_of mid one) (function_of old care) (function_of old zero) (function_of old one)
      (first.kept care.0 care_live) (first.kept zero.0 zero_live) (first.kept one.0 one_live)

  pub float_means : (new : Diagrams) (h : H) → Means new h (float_of (function_of mid care) (function_of mid zero) (function_of mid one))
      → Means new h (float_of (function_of old care) (function_of old zero) (function_of old one))
  float_means new h m = record { live = m.live; same = λ v. m.same v ∙ float_first v }
