-- Lists that are made item by item.
use Rattle.std.proofs.Common.{◌≡◌, ◌++◌, ◌||◌, [], ℕ, not, List, Bool, append_assoc, ap, ap₂, sym, ◌∙◌}
use Rattle.std.specs.Prelude.{bytes_eq, filter, filter_map}
use Rattle.std.proofs.Math.Bool.{or_assoc}
use Rattle.std.proofs.lemmas.List.Elements.{filter-append, filter_map-append}
use Rattle.std.proofs.lemmas.List.Folds.{list_any-append}
use Rattle.vrt_model.specs.Lists.{has_name}
use Rattle.vrt_model.specs.PairedPorts.{clocked_by_name}
use Rattle.vrt_model.specs.declared.flat_model.FlatModel.{FlatModel}
use Rattle.vrt_model.specs.declared.pairing.ClockedSignal.{ClockedSignal}
use Rattle.vrt_model.specs.declared.rules.Rules.{Rules}
use Rattle.latch_match.specs.Paired.{clocked_without_port}

-- names that are added, and more
pub names_joined : (a b : List (List ℕ)) (name : List ℕ) (p q r : Bool) → q ≡ (p || has_name a name) → r ≡ (q || has_name b name) → r ≡ (p || has_name (a ++ b) name)
names_joined a b name p q r e f = f ∙ ap (λ x. x || has_name b name) e ∙ or_assoc p (has_name a name) (has_name b name) ∙ ap (λ x. p || x) (sym (list_any-append (bytes_eq name) a b))

-- the clocks of signals without port, list by list
without_port_joined : (flat : FlatModel) (rules : Rules) (test : ℕ → Bool) (xs ys : List ℕ)
    → clocked_without_port flat rules test (xs ++ ys) ≡ clocked_without_port flat rules test xs ++ clocked_without_port flat rules test ys
without_port_joined flat rules test xs ys =
    ap (filter_map (clocked_by_name flat rules)) (filter-append (λ s. not (test s)) xs ys) ∙ filter_map-append (clocked_by_name flat rules) (filter (λ s. not (test s)) xs) (filter (λ s. not (test s)) ys)

pub clocked_joined : (flat : FlatModel) (rules : Rules) (test : ℕ → Bool) (none ported some all carried : List ClockedSignal) (inputs clocks : List ℕ) → none ≡ [] → ported ≡ none ++ carried
    → inputs ≡ flat.inputs → some ≡ ported ++ clocked_without_port flat rules test inputs → clocks ≡ flat.clocks → all ≡ some ++ clocked_without_port flat rules test clocks
    → all ≡ carried ++ clocked_without_port flat rules test (flat.inputs ++ flat.clocks)
clocked_joined flat rules test none ported some all carried inputs clocks n p i s c a =
    let F : List ℕ → List ClockedSignal = clocked_without_port flat rules test in
    a ∙ ap₂ (λ (xs : List ClockedSignal) (ys : List ℕ). xs ++ F ys) (s ∙ ap₂ (λ (xs : List ClockedSignal) (ys : List ℕ). xs ++ F ys) (p ∙ ap (λ (xs : List ClockedSignal). xs ++ carried) n) i) c
    ∙ append_assoc carried (F flat.inputs) (F flat.clocks) ∙ ap (λ (xs : List ClockedSignal). carried ++ xs) (sym (without_port_joined flat rules test flat.inputs flat.clocks))
