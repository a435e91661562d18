-- How often a flat signal is driven in all places of an unrolled model.
use Rattle.std.proofs.Common.{◌≡◌, ◌+◌, ◌∷◌, [], ℕ, zero, suc, List, map, length, refl, ap, ◌∙◌, arith}
use Rattle.std.specs.Prelude.{◌==◌}
use Rattle.std.proofs.lemmas.List.Sums.{sum_by-cons}
use Rattle.vrt_model.proofs.Lists.{map_among}
use Rattle.vrt_model.specs.FlatBlif.{ModelPlace, formals, inner_count, inner_signals, model_at, model_numbered, models_in, subs_at, subs_from}
use Rattle.vrt_model.specs.Inputs.{IsModel}
use Rattle.vrt_model.specs.Lists.{Among}
use Rattle.vrt_model.specs.Models.{models_within}
use Rattle.vrt_model.specs.declared.blif.Blif.{Blif}
use Rattle.vrt_model.specs.declared.blif.SubLine.{SubLine}
use Rattle.blif_flat.specs.Places.{placed, signals_left}
use Rattle.blif_flat.proofs.OneDriverCounts.{hits, span, span_join, total, total_flat}
use Rattle.blif_flat.proofs.OneDriverDepths.{Ends}
use Rattle.blif_flat.proofs.OneDriverNames.{IsDriven}
use Rattle.blif_flat.proofs.OneDriverPlaces.{IsSubTied, IsTied, card_hits, gives, heads, place_hits, sub_hits}
use Rattle.blif_flat.proofs.OneDriverSubs.{sub_tied, sub_ties}

-- in each model each signal is driven once, and each sub-model is tied as its interface asks
pub record AreDriven (blif : Blif) : Type 0 where
  pub models : (n : ℕ) → IsModel (model_at blif n)
  pub driven : (n : ℕ) → IsDriven blif (model_at blif n)
  pub tied : (n : ℕ) (s : SubLine) → Among (model_at blif n).subs s → IsSubTied blif s

-- how often the cards of a place and of all places in it drive a signal
abbrev pub inside_hits : Blif → ℕ → ℕ → ModelPlace → ℕ
inside_hits blif x depth p = total (card_hits blif x) (models_in blif depth p)

-- a place and those in it drive a signal as often as it is tied there, and once where it is one of their own
abbrev pub IsCounted : Blif → ℕ → ℕ → ModelPlace → Type 0
IsCounted blif x depth p =
    hits (gives blif p x) (heads (model_at blif p.model)) + inside_hits blif x depth p ≡ hits (λ k. k == x) p.ties + span p.base (inner_count blif depth (model_at blif p.model) p.tied) x

subs_counted : (blif : Blif) (x depth : ℕ) (p : ModelPlace) → AreDriven blif → ((q : ModelPlace) → IsTied blif q → Ends (models_within blif) depth q.model → IsCounted blif x depth q) → (number base : ℕ) (subs : List SubLine)
    → ((s : SubLine) → Among subs s → IsSubTied blif s × Ends (models_within blif) depth (model_numbered blif s.model))
    → total (inside_hits blif x depth) (subs_from blif p depth number base subs) ≡ total (sub_hits blif p x) subs + span base (signals_left blif depth subs) x
subs_counted blif x depth p are inner number base [] fit = refl
subs_counted blif x depth p are inner number base (s ∷ subs) fit =
    let here = fit s (0, refl) in
    let q : ModelPlace = placed blif p number base s in
    let own : ℕ = inner_count blif depth (model_at blif (model_numbered blif s.model)) (formals s) in
    let whole : IsCounted blif x depth q = inner q (sub_tied blif p number base s here.0) here.1 in
    let ties = sub_ties blif p x number base s here.0 (are.models (model_numbered blif s.model)) in
    let rest = subs_counted blif x depth p are inner (suc number) (base + own) subs (λ t a. fit t (suc a.0, a.1)) in
    let spans =
    ap (λ (n : ℕ). span base n x) (sum_by-cons (λ (s : SubLine). inner_count blif depth (model_at blif (model_numbered blif s.model)) (formals s)) s subs) ∙ span_join own (signals_left blif depth subs) base x in
    joined _ _ _ _ _ _ _ _ _ whole ties rest spans where
      joined : (head inside driven tied own later_inside later_driven later all : ℕ) → head + inside ≡ tied + own → tied ≡ head + driven → later_inside ≡ later_driven + later → all ≡ own + later
          → inside + later_inside ≡ (driven + later_driven) + all
      joined head inside driven tied own later_inside later_driven later all a b c d = omega (arith, a, b, c, d)

none_below : (f : SubLine → ℕ) (g : SubLine → ℕ) (subs : List SubLine) → ((c : ℕ) → ¬ Among (map g subs) c) → total f subs ≡ (let none : ℕ = 0 in none)
none_below f g [] none = refl
none_below f g (s ∷ subs) none = absurd (none (g s) (0, refl))

pub counted : (blif : Blif) (x depth : ℕ) (p : ModelPlace) → AreDriven blif → IsTied blif p → Ends (models_within blif) depth p.model → IsCounted blif x depth p
counted blif x zero p are tied ends =
    leaf _ _ _ _ (place_hits blif p x tied (are.models p.model) (are.driven p.model)) (none_below (sub_hits blif p x) (λ (s : SubLine). model_numbered blif s.model) (model_at blif p.model).subs ends) where
      leaf : (head card driven all : ℕ) → head + card + driven ≡ all → driven ≡ (let none : ℕ = 0 in none) → head + (card + 0) ≡ all
      leaf head card driven all a b = omega (arith, a, b)
counted blif x (suc depth) p are tied ends =
    let subs : List SubLine = (model_at blif p.model).subs in
    let size : ℕ = length (inner_signals (model_at blif p.model) p.tied) in
    joined _ _ _ _ _ _ _ _ (place_hits blif p x tied (are.models p.model) (are.driven p.model))
    (total_flat (card_hits blif x) (models_in blif depth) (subs_at blif depth p)
    ∙ subs_counted blif x depth p are (λ q t e. counted blif x depth q are t e) 0 (p.base + size) subs
    (λ s a. (are.tied p.model s a, ends (model_numbered blif s.model) (map_among (λ (s : SubLine). model_numbered blif s.model) subs s a))))
    (span_join size (signals_left blif depth subs) p.base x) where
      joined : (head card driven ties own inside left all : ℕ) → head + card + driven ≡ ties + own → inside ≡ driven + left → all ≡ own + left → head + (card + inside) ≡ ties + all
      joined head card driven ties own inside left all a b c = omega (arith, a, b, c)
