-- How many elements a model has, and how large the store of a comparison is.
use Rattle.std.proofs.Common.{◌≡◌, ℕ, suc, ◌+◌, ◌<◌, ◌≤◌, List, [], ◌∷◌, ◌++◌, map, length, Some, None, arith, ap, subst, sym, refl, ◌*◌}
use Rattle.std.specs.Prelude.{All, cond, filter_map, flat_map, min}
use Rattle.std.proofs.Math.Nat.{min-le_right}
use Rattle.std.specs.List.{enumerate_from}
use Rattle.std.proofs.lemmas.List.{length-append, length-map}
use Rattle.std.proofs.lemmas.List.Elements.{All-head, All-tail}
use Rattle.cell_room.specs.Sizes.{elements_in}
use Rattle.cell_room.specs.Works.{AreVars, AreWithin}
use Rattle.phase_open.specs.Given.{AreFew}
use Rattle.phase_terms.specs.Ready.{IsReady}
use Rattle.phase_terms.specs.Stores.{counts_of, most_model_words}
use Rattle.phase_terms.specs.declared.words.WordCounts.{WordCounts}
use Rattle.vrt_model.proofs.Lists.{at_there}
use Rattle.vrt_model.proofs.Members.{all_among, all_by}
use Rattle.vrt_model.proofs.ElementCounts.{names_count}
use Rattle.vrt_model.specs.Circuits.{IsCircuit, IsWhole}
use Rattle.vrt_model.specs.Comparison.{Comparison}
use Rattle.vrt_model.specs.Elements.{element_names, names_by_kind, signal_name}
use Rattle.vrt_model.specs.Held.{sources_of}
use Rattle.vrt_model.specs.Variables.{is_free, is_input, places, variables_of}
use Rattle.vrt_model.specs.declared.circuit.Circuit.{Circuit}
use Rattle.vrt_model.specs.declared.circuit.FlatNet.{FlatNet}
use Rattle.vrt_model.specs.declared.flat_model.FlatLatch.{FlatLatch}
use Rattle.vrt_model.specs.declared.flat_model.FlatModel.{FlatModel}
use Rattle.vrt_model.specs.declared.groups.Group.{Group as HoldGroup}
use Rattle.vrt_model.specs.declared.groups.Source.{Source}
use Rattle.vrt_model.specs.declared.groups.Source.TheVariants.{Input, Element, Group}
use Rattle.vrt_model.specs.declared.groups.Vars.{Vars}
use Rattle.vrt_model.specs.declared.ids.Net.{Net}
use Rattle.vrt_model.specs.declared.whole.Whole.{Whole}
use Rattle.cell_room.specs.Made.{AreWords, most_outputs}
use Rattle.path_fixpoint.specs.Parts.{pins_of}

-- ---- elements

-- one element for each name
pub elements_are : (flat : FlatModel) (ls : List FlatLatch) → elements_in ls ≡ length (flat_map (λ (l : FlatLatch). names_by_kind l.kind (signal_name flat l.output)) ls)
elements_are flat [] = refl
elements_are flat (l ∷ ls) =
    let rest = elements_are flat ls in
    let here = names_count l.kind (signal_name flat l.output) in
    let both = length-append (names_by_kind l.kind (signal_name flat l.output)) (flat_map (λ (l : FlatLatch). names_by_kind l.kind (signal_name flat l.output)) ls) in
    omega (arith, rest, here, both)

-- ---- models of whole instances

-- each has few signals
pub whole_signals : (c : Circuit) → IsCircuit c → All (λ (w : Whole). length w.model.signals ≤ 20000) c.wholes
whole_signals c is = all_by (λ (w : Whole). length w.model.signals ≤ 20000) c.wholes (λ w m. (all_among (IsWhole c) c.wholes w is.wholes m).model.signal_limit)

models_few : (ws : List Whole) → All (λ (w : Whole). length w.model.signals ≤ 20000) ws → most_model_words ws ≤ 40001
models_few [] few = omega arith
models_few (w ∷ ws) few =
    let here = All-head (λ (x : Whole). length x.model.signals ≤ 20000) w ws few in
    let rest = models_few ws (All-tail (λ (x : Whole). length x.model.signals ≤ 20000) w ws few) in
    omega (arith, here, rest)

-- ---- variables

places_count : {X : Type 0} (n : ℕ) (xs : List X) → length (places n xs) ≡ length xs
places_count n [] = refl
places_count n (x ∷ xs) = ap suc (places_count (suc n) xs)

-- there is a variable for each element
elements_low : (c : Circuit) (flat : FlatModel) (groups : List HoldGroup) (phase : ℕ) → length (element_names flat) ≤ length (variables_of c flat groups phase)
unfolding variables_of
elements_low c flat groups phase =
    let inputs = filter_map (λ (p : ℕ × FlatNet). cond (is_input p.1.kind) (let net : Net = record { 0 = p.0 } in Some (Input net)) None) (enumerate_from 0 c.nets) in
    let elements = map (λ (e : ℕ). Element e) (places 0 (element_names flat)) in
    let free = filter_map (λ (p : ℕ × HoldGroup). cond (is_free c phase p.1) (Some (Group p.0)) None) (enumerate_from 0 groups) in
    let outer : length (inputs ++ elements ++ free) ≡ length (inputs ++ elements) + length free = length-append (inputs ++ elements) free in
    let inner : length (inputs ++ elements) ≡ length inputs + length elements = length-append inputs elements in
    let count : length elements ≡ length (places 0 (element_names flat)) = length-map (places 0 (element_names flat)) (λ (e : ℕ). Element e) in
    let same = places_count 0 (element_names flat) in
    omega (arith, outer, inner, count, same)

module _ (k : Comparison) (vars : List Vars) (are : AreVars k (length k.rules.phases) vars) where
  -- each phase has few variables
  pub all_few : All (λ (v : Vars). length v.sources ≤ 1000) vars
  all_few = all_by (λ (v : Vars). length v.sources ≤ 1000) vars (λ v m. (are.each m.0 v m.1).few)

  -- so the elements are few
  pub few_elements : 0 < length k.rules.phases → length (element_names k.model) ≤ 1000
  few_elements some =
      let there = at_there vars 0 (subst (λ (n : ℕ). 0 < n) (sym are.count) some) in
      let of = are.each 0 there.0 there.1 in
      let few : length (sources_of k 0) ≤ 1000 = subst (λ (xs : List Source). length xs ≤ 1000) of.sources of.few in
      let low = elements_low k.circuit k.model k.groups 0 in
      omega (arith, few, low)

  -- and all counts are within the limits
  pub few_counts : IsReady k → (variables : ℕ) (counts : WordCounts) → variables ≤ 1000 → counts ≡ counts_of k variables → counts.pins ≤ 1000000 → AreFew counts
  few_counts ready variables counts few is pins =
      subst AreFew (sym is)
      (ready.circuit.net_limit, subst (λ (c : WordCounts). c.pins ≤ 1000000) is pins, models_few k.circuit.wholes (whole_signals k.circuit ready.circuit), ready.model.signal_limit, (let low = few_elements ready.rules.some_phase in omega (arith, low)), few)

-- ---- the greatest count

-- ---- the words of a phase

-- so many outputs of whole instances are few
pub few_pins : (flat : Circuit) (most pins : ℕ) → most ≡ most_outputs flat → pins ≤ most → pins ≤ 1000000
few_pins flat most pins is le =
    let pairs : ℕ = 40 * ((length flat.nets + 1) * (length flat.nets + length flat.devices + 1)) in
    let low : min pairs 1000000 ≤ 1000000 = min-le_right pairs 1000000 in
    omega (arith, is, le, low)

-- they are those of the circuit
pub pins_few : (k : Comparison) (counts : WordCounts) (variables most : ℕ) → counts ≡ counts_of k variables → counts.pins ≤ most → length (pins_of k.circuit) ≤ most
pins_few k counts variables most is le = subst (λ (c : WordCounts). c.pins ≤ most) is le

-- the words of a phase with so many variables
pub words_of : (k : Comparison) (vars : List Vars) → AreVars k (length k.rules.phases) vars → IsReady k → (variables : ℕ) (counts : WordCounts) → variables ≤ 1000 → AreWithin vars variables
    → counts ≡ counts_of k variables → counts.pins ≤ 1000000 → AreWords k vars counts
words_of k vars are ready variables counts few within is pins =
    let same : variables ≡ counts.variables = sym (ap (λ (c : WordCounts). c.variables) is) in
    record {
      within = subst (AreWithin vars) same within;
      counts_are = subst (λ (n : ℕ). counts ≡ counts_of k n) same is;
      few = few_counts k vars are ready variables counts few is pins;
    }
