-- The graph of a model has the arcs of the model, so its order is a plan.
use Rattle.std.proofs.Common.{◌≡◌, ℕ, zero, suc, ◌+◌, ◌<◌, ◌⊎◌, ◌∷◌, [], List, Bool, true, false, not, cond, Option, None, Some, map, length, arith, ap, subst, sym, refl, ◌∙◌, inl, inr}
use Rattle.std.specs.Prelude.{option_map, unwrap_or}
use Rattle.std.proofs.lemmas.Bool.{cases_Bool, true≢false}
use Rattle.std.proofs.lemmas.Option.{none-some, same_Some}
use Rattle.blif_eval.proofs.FoundDrivers.{cover_at, stored_at}
use Rattle.blif_eval.proofs.Drivers.{input_below}
use Rattle.blif_eval.proofs.KnownLaws.{default_sound, known_complete}
use Rattle.blif_eval.proofs.LatchLaws.{last_below, part_ranges}
use Rattle.blif_eval.proofs.OneAssignment.{one_assignment}
use Rattle.blif_eval.specs.Drivers.{AreDrivers, IsDriver, IsStorage, node_count}
use Rattle.blif_eval.specs.KnownBits.{AreKnown}
use Rattle.blif_eval.specs.Plans.{ArcOf, AreBehind, AreOutside, IsBefore, IsBehind, IsShut, PlanGives, entry_of, plan_by}
use Rattle.blif_eval.specs.Sources.{control_list, control_place, element_sources, graph_by, inputs_at, is_shut, shuts, sources_by}
use Rattle.blif_eval.specs.declared.driver_table.Driver.{Driver}
use Rattle.blif_eval.specs.declared.driver_table.Driver.TheVariants.{Given, Covered, Stored, Element}
use Rattle.blif_eval.specs.declared.driver_table.Storage.{Storage}
use Rattle.graphs.proofs.Walks.{cycle_over, first_over}
use Rattle.graphs.specs.Graphs.{ArcIn, AreInside, HasArcs, sources_at}
use Rattle.graphs.specs.Orders.{OrderGives}
use Rattle.graphs.specs.declared.order.Order.{Order}
use Rattle.graphs.specs.declared.order.Order.TheVariants.{Steps, Cycle}
use Rattle.vrt_model.proofs.Members.{among_either, among_left, among_right}
use Rattle.vrt_model.specs.FlatModels.{IsControl, IsFlatModel}
use Rattle.vrt_model.specs.Lists.{At, Among}
use Rattle.vrt_model.specs.ModelArcs.{IsKnownControl, Part, last_by, parts_of}
use Rattle.vrt_model.specs.declared.flat_model.Cover.{Cover}
use Rattle.vrt_model.specs.declared.flat_model.FlatModel.{FlatModel}

-- ---- lists of sources

inputs_of : (covers : List Cover) (place : ℕ) (c : Cover) → At covers place c → inputs_at covers place ≡ c.inputs
inputs_of covers place c at = ap (λ (o : Option Cover). unwrap_or (option_map (λ (k : Cover). k.inputs) o) []) at

among_inputs : (covers : List Cover) (place from : ℕ) (c : Cover) → At covers place c → Among (inputs_at covers place) from → Among c.inputs from
among_inputs covers place from c at m = subst (λ (xs : List ℕ). Among xs from) (inputs_of covers place c at) m

one_among : (x y : ℕ) → Among (x ∷ []) y → y ≡ x
one_among x y (zero, e) = sym (same_Some x y e)
one_among x y (suc i, e) = absurd (none-some y e)

-- what an element has as sources
source_cases : (s : Storage) (shut : Bool) (from : ℕ) → Among (element_sources s shut) from → ((shut ≡ false) × (from ≡ s.source)) ⊎ (s.control ≡ Some from)
source_cases s shut from m = elim (among_either (cond shut [] (s.source ∷ [])) (control_list s.control) from m) [
  | inl here ↦ inl (by_shut shut here)
  | inr there ↦ inr (by_control s.control there)
] where
  by_shut : (shut : Bool) → Among (cond shut [] (s.source ∷ [])) from → (shut ≡ false) × (from ≡ s.source)
  by_shut true n = absurd (none-some from n.1)
  by_shut false n = (refl, one_among s.source from n)

  by_control : (control : Option ℕ) → Among (control_list control) from → control ≡ Some from
  by_control None n = absurd (none-some from n.1)
  by_control (Some c) n = ap Some (sym (one_among c from n))

control_among : (s : Storage) (shut : Bool) (from : ℕ) → s.control ≡ Some from → Among (element_sources s shut) from
control_among s shut from is =
    among_right (cond shut [] (s.source ∷ [])) (control_list s.control) from (subst (λ (o : Option ℕ). Among (control_list o) from) (sym is) (0, refl))

source_among : (s : Storage) (shut : Bool) → shut ≡ false → Among (element_sources s shut) s.source
source_among s shut is =
    among_left (cond shut [] (s.source ∷ [])) (control_list s.control) s.source (subst (λ (b : Bool). Among (cond b [] (s.source ∷ [])) s.source) (sym is) (0, refl))

-- ---- shut by what is known

shuts_is : (o : Option Bool) (open_at : Bool) → shuts o open_at ≡ true → o ≡ Some (not open_at)
shuts_is None open_at e = absurd (true≢false (sym e))
shuts_is (Some true) true e = absurd (true≢false (sym e))
shuts_is (Some true) false e = refl
shuts_is (Some false) true e = refl
shuts_is (Some false) false e = absurd (true≢false (sym e))

shuts_not : (o : Option Bool) (open_at v : Bool) → shuts o open_at ≡ false → o ≡ Some v → v ≡ open_at
shuts_not None open_at v e is = absurd (none-some v is)
shuts_not (Some true) true v e is = sym (same_Some true v is)
shuts_not (Some true) false v e is = absurd (true≢false e)
shuts_not (Some false) true v e is = absurd (true≢false e)
shuts_not (Some false) false v e is = sym (same_Some false v is)

-- ---- the graph

pub map_at : (f : Driver → List ℕ) (drivers : List Driver) (n : ℕ) (d : Driver) → At drivers n d → sources_at (map f drivers) n ≡ f d
map_at f [] n d e = absurd (none-some d e)
map_at f (x ∷ drivers) zero d e = ap f (same_Some x d e)
map_at f (x ∷ drivers) (suc n) d e = map_at f drivers n d e

pub driver_from : (f : Driver → List ℕ) (drivers : List Driver) (n from : ℕ) → Among (sources_at (map f drivers) n) from → (d : Driver) × At drivers n d
driver_from f [] n from m = absurd (none-some from m.1)
driver_from f (x ∷ drivers) zero from m = (x, refl)
driver_from f (x ∷ drivers) (suc n) from m = driver_from f drivers n from m

pub map_size : (f : Driver → List ℕ) (drivers : List Driver) → length (map f drivers) ≡ length drivers
map_size f [] = refl
map_size f (x ∷ drivers) = ap suc (map_size f drivers)

module _ (flat : FlatModel) (model : IsFlatModel flat) (drivers : List Driver) (are : AreDrivers flat drivers) (known bits : List (Option Bool)) (outside : AreOutside flat known)
    (table : AreKnown flat known bits) where
  abbrev graph : List (List ℕ)
  graph = graph_by flat bits drivers

  abbrev shut_by : Storage → Bool
  shut_by s = is_shut bits (length flat.signals) s

  arc_in : (from n : ℕ) (d : Driver) → At drivers n d → Among (sources_by flat bits d) from → ArcIn (graph_by flat bits drivers) from n
  arc_in from n d e m = subst (λ (xs : List ℕ). Among xs from) (sym (map_at (sources_by flat bits) drivers n d e)) m

  source_of : (from n : ℕ) (d : Driver) → At drivers n d → ArcIn (graph_by flat bits drivers) from n → Among (sources_by flat bits d) from
  source_of from n d e m = subst (λ (xs : List ℕ). Among xs from) (map_at (sources_by flat bits) drivers n d e) m

  -- the entry of a control says what is known of it
  control_sound : (control : Option ℕ) (v : Bool) → entry_of bits (control_place control (length flat.signals)) ≡ Some v
      → IsKnownControl flat (entry_of known) (entry_of known (length flat.signals)) control v
  control_sound None v e = default_sound flat model known bits table v e
  control_sound (Some s) v e = table.spread.sound s v e

  control_complete : (s : Storage) (part : Part) → Among (parts_of flat) part → (control : Option ℕ) → IsControl (length flat.signals) control → (v : Bool)
      → IsKnownControl flat (entry_of known) (entry_of known (length flat.signals)) control v → entry_of bits (control_place control (length flat.signals)) ≡ Some v
  control_complete s part m None range v is = table.spread.kept (length flat.signals) v is
  control_complete s part m (Some c) range v is = known_complete flat model known bits (outside part.latch (part_ranges flat model part m).latch) table c v is range

  shut_is : (s : Storage) → is_shut bits (length flat.signals) s ≡ true → IsShut flat known s
  shut_is s e = control_sound s.control (not s.open_at) (shuts_is (entry_of bits (control_place s.control (length flat.signals))) s.open_at e)

  -- ---- from the graph to the model

  from_driver : (from n : ℕ) (d : Driver) → IsDriver flat n d → Among (sources_by flat bits d) from → ArcOf flat known from n
  from_driver from n Given is m = absurd (none-some from m.1)
  from_driver from n (Covered place) is m = inl (is.0, (place, is.1), among_inputs flat.covers place from is.0 is.1 m, sym is.2)
  from_driver from n (Stored number) is m = inr (inr (inr (is.0, is.1, one_among number from m ∙ is.3, sym is.2)))
  from_driver from n (Element s) is m = elim (source_cases s (is_shut bits (length flat.signals) s) from m) [
    | inl open_source ↦ inr (inr (inl (
      is.0,
      is.1,
      open_source.1 ∙ is.3.source,
      sym is.2,
      λ v k.
          let range = subst (IsControl (length flat.signals)) (sym is.3.control) (part_ranges flat model is.0 is.1).control in
          let entry = control_complete s is.0 is.1 s.control range v
          (subst (λ (o : Option ℕ). IsKnownControl flat (entry_of known) (entry_of known (length flat.signals)) o v) (sym is.3.control) k) in
          shuts_not (entry_of bits (control_place s.control (length flat.signals))) s.open_at v open_source.0 entry ∙ is.3.transparent,
    )))
    | inr control ↦ inr (inl (is.0, is.1, sym is.3.control ∙ control, sym is.2))
  ]

  to_model : (from n : ℕ) → ArcIn (graph_by flat bits drivers) from n → ArcOf flat known from n
  to_model from n arc =
      let d = driver_from (sources_by flat bits) drivers n from arc in
      from_driver from n d.0 (are.each n d.0 d.1) (source_of from n d.0 d.1 arc)

  -- ---- and back

  to_part : (from n : ℕ) (part : Part) → Among (parts_of flat) part → n ≡ part.number → ((s : Storage) → IsStorage (length flat.signals) part s → Among (element_sources s (is_shut bits (length flat.signals) s)) from)
      → ArcIn (graph_by flat bits drivers) from n
  to_part from n part m is source =
      let p = are.parts part m in
      subst (λ (x : ℕ). ArcIn (graph_by flat bits drivers) from x) (sym is) (arc_in from part.number (Element p.0) p.1 (source p.0 p.2))

  open_source : (part : Part) → ((v : Bool) → IsKnownControl flat (entry_of known) (entry_of known (length flat.signals)) part.latch.control v → v ≡ part.transparent_at)
      → (s : Storage) → IsStorage (length flat.signals) part s → is_shut bits (length flat.signals) s ≡ false
  open_source part opens s is = elim (cases_Bool (is_shut bits (length flat.signals) s)) [
    | inr f ↦ f
    | inl t ↦
        let shut = subst (λ (o : Option ℕ). IsKnownControl flat (entry_of known) (entry_of known (length flat.signals)) o (not s.open_at)) is.control (shut_is s t) in
        absurd (never s.open_at (opens (not s.open_at) shut ∙ sym is.transparent))
  ]
    where
      never : (b : Bool) → ¬ (not b ≡ b)
      never true e = true≢false (sym e)
      never false e = true≢false e

  to_graph : (from n : ℕ) → ArcOf flat known from n → ArcIn (graph_by flat bits drivers) from n
  to_graph from n (inl a) =
      let p = cover_at flat model drivers are a.0 a.1 in
      subst (λ (x : ℕ). ArcIn (graph_by flat bits drivers) from x) (sym a.3)
      (arc_in from a.0.output (Covered p.0) p.1 (subst (λ (xs : List ℕ). Among xs from) (sym (inputs_of flat.covers p.0 a.0 p.2)) a.2))
  to_graph from n (inr (inl a)) = to_part from n a.0 a.1 a.3 (λ s is. control_among s (is_shut bits (length flat.signals) s) from (is.control ∙ a.2))
  to_graph from n (inr (inr (inl a))) = to_part from n a.0 a.1 a.3 (λ s is.
      subst (Among (element_sources s (is_shut bits (length flat.signals) s))) (is.source ∙ sym a.2)
      (source_among s (is_shut bits (length flat.signals) s) (open_source a.0 a.4 s is)))
  to_graph from n (inr (inr (inr a))) =
      subst (λ (x : ℕ). ArcIn (graph_by flat bits drivers) from x) (sym a.3)
      (arc_in from a.0.latch.output (Stored (length flat.signals + last_by a.0.first a.0.latch.kind)) (stored_at flat model drivers are a.0 a.1) (0, sym (ap Some a.2)))

  pub graph_arcs : HasArcs (ArcOf flat known) (graph_by flat bits drivers)
  graph_arcs from n = (to_model from n, to_graph from n)

  pub graph_size : length (graph_by flat bits drivers) ≡ node_count flat
  graph_size = map_size (sources_by flat bits) drivers ∙ are.size

  -- each source is a number of the graph
  source_below : (from n : ℕ) (d : Driver) → IsDriver flat n d → Among (sources_by flat bits d) from → from < node_count flat
  source_below from n Given is m = absurd (none-some from m.1)
  source_below from n (Covered place) is m = let low = input_below flat model is.0 from (place, is.1) (among_inputs flat.covers place from is.0 is.1 m) in omega (arith, low)
  source_below from n (Stored number) is m = let one = one_among number from m in let last = last_below flat is.0 is.1 in let at = is.3 in omega (arith, one, last, at)
  source_below from n (Element s) is m =
      let r = part_ranges flat model is.0 is.1 in
      elim (source_cases s (is_shut bits (length flat.signals) s) from m) [
        | inl open_one ↦ (let at = open_one.1 in let same = is.3.source in let low = r.source in omega (arith, at, same, low))
        | inr control ↦ (let low = subst (IsControl (length flat.signals)) (sym is.3.control ∙ control) r.control in omega (arith, low))
      ]

  pub graph_inside : AreInside (graph_by flat bits drivers)
  graph_inside from n arc =
      let d = driver_from (sources_by flat bits) drivers n from arc in
      let low = source_below from n d.0 (are.each n d.0 d.1) (source_of from n d.0 d.1 arc) in
      let size = graph_size in
      omega (arith, low, size)

  -- ---- the plan

  module _ (steps : List ℕ) (follows : (from to k : ℕ) → At steps k to → ArcIn (graph_by flat bits drivers) from to → IsBefore steps k from) where
    behind_driver : (k n : ℕ) (d : Driver) → At steps k n → At drivers n d → IsBehind flat known steps k d
    behind_driver k n Given there here = tt
    behind_driver k n (Covered place) there here = λ c from at m.
        follows from n k there (arc_in from n (Covered place) here (subst (λ (xs : List ℕ). Among xs from) (sym (inputs_of flat.covers place c at)) m))
    behind_driver k n (Stored number) there here = follows number n k there (arc_in number n (Stored number) here (0, refl))
    behind_driver k n (Element s) there here = (
      λ from is. follows from n k there (arc_in from n (Element s) here (control_among s (is_shut bits (length flat.signals) s) from is)),
      elim (cases_Bool (is_shut bits (length flat.signals) s)) [
        | inl t ↦ inr (shut_is s t)
        | inr f ↦ inl (follows s.source n k there (arc_in s.source n (Element s) here (source_among s (is_shut bits (length flat.signals) s) f)))
      ],
    )

-- an order of the graph, or its first cycle, is that of the model; and with an order there is one assignment
pub plan_gives : (flat : FlatModel) → IsFlatModel flat → (drivers : List Driver) → AreDrivers flat drivers → (known bits : List (Option Bool)) → AreOutside flat known
    → AreKnown flat known bits → (o : Order) → OrderGives (graph_by flat bits drivers) o → PlanGives flat known (plan_by drivers o)
plan_gives flat model drivers are known bits outside table (Cycle nodes) first =
    first_over (ArcIn (graph_by flat bits drivers)) (ArcOf flat known) (to_model flat model drivers are known bits outside table) (to_graph flat model drivers are known bits outside table) nodes first
plan_gives flat model drivers are known bits outside table (Steps steps) order =
    let size = graph_size flat model drivers are known bits outside table in
    let behind : AreBehind flat known drivers steps =
    λ k n d there here. behind_driver flat model drivers are known bits outside table steps order.follows k n d there here in
    record {
      lists = record {
        all = λ n lt. order.lists.all n (omega (arith, lt, size));
        below = λ n m. let low = order.lists.below n m in omega (arith, low, size);
        once = order.lists.once;
      };
      follows = λ from to k at arc. order.follows from to k at (to_graph flat model drivers are known bits outside table from to arc);
      acyclic = λ nodes cycle.
          order.acyclic nodes (cycle_over (ArcOf flat known) (ArcIn (graph_by flat bits drivers)) (to_graph flat model drivers are known bits outside table) nodes cycle);
      assigned = λ default_clock held inputs as_known.
          one_assignment flat model drivers are default_clock held inputs known outside steps (record {
            all = λ n lt. order.lists.all n (omega (arith, lt, size));
            below = λ n m. let low = order.lists.below n m in omega (arith, low, size);
            once = order.lists.once;
          }) behind (λ s v lt e. (as_known.signals s v lt e).1) as_known.clock;
      outside = outside;
      drivers = are;
      behind = behind;
    }
