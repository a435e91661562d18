use Rattle.std.proofs.Common.{◌≡◌, ℕ, ◌≤◌, ◌⊎◌, List, set, slice_index, ap, subst, sym, ◌∙◌}
use Rattle.graphs.proofs.LevelLaws.{levelled_set}
use Rattle.graphs.specs.Graphs.{sources_at}
use Rattle.graphs.specs.Levels.{IsLevelled}
use Rattle.vrt_model.specs.Lists.{Among}
use Rattle.graphs.proofs.levels.give_level.Goals as goal

pub returns : goal.returns
returns c =
    let sources = c.args.sources.now in
    let n = c.args.n in
    let t = c.args.levels.now.items in
    let best = c.greatest-best.result in
    let most : (q : ℕ) → Among (sources_at sources n) q → slice_index t q ≤ best =
    subst (λ (xs : List ℕ). (q : ℕ) → Among xs q → slice_index t q ≤ best) c.sources_at-numbers.ensures
    (subst (λ (s : List ℕ). (q : ℕ) → Among c.sources_at-numbers.result.now q → slice_index s q ≤ best) c.as_slice-now.ensures.value c.greatest-best.ensures.most) in
    let one : (best ≡ 0) ⊎ ((q : ℕ) × Among (sources_at sources n) q × (best ≡ slice_index t q)) =
    subst (λ (xs : List ℕ). (best ≡ 0) ⊎ ((q : ℕ) × Among xs q × (best ≡ slice_index t q))) c.sources_at-numbers.ensures
    (subst (λ (s : List ℕ). (best ≡ 0) ⊎ ((q : ℕ) × Among c.sources_at-numbers.result.now q × (best ≡ slice_index s q))) c.as_slice-now.ensures.value c.greatest-best.ensures.one) in
    subst (IsLevelled sources n t) (sym (c.put.ensures ∙ ap (set t n) c.in-Some.ensures.1)) (levelled_set sources n best t c.requires.there c.requires.none c.requires.some most one)
