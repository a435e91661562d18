-- What is found at the nets of the kept circuit is its first fault over all cases.
use Rattle.std.proofs.Common.{◌≡◌, ◌≢◌, ℕ, ◌+◌, ◌*◌, ◌<◌, ◌⊎◌, Bool, true, false, not, List, Option, Some, None, length, arith, ap, refl, sym, subst, ◌∙◌, inl, inr}
use Rattle.std.specs.List.{list_any}
use Rattle.std.proofs.lemmas.Bool.{and_parts, cases_Bool, cases_lt, false≢true}
use Rattle.std.proofs.lemmas.Option.{none-some, slice_get_within}
use Rattle.bdd_core.specs.Diagram.{Function, Valuation}
use Rattle.bdd_core.specs.Store.{Diagrams, IsLive, function_of}
use Rattle.bdd_core.specs.Words.{shows}
use Rattle.bdd_core.specs.declared.handle.H.{H}
use Rattle.channel_parts.specs.OneSolution.{AreObserved}
use Rattle.channel_parts.specs.PartLists.{AreParts}
use Rattle.channel_parts.specs.declared.part.Part.{Part}
use Rattle.channel_parts.specs.declared.part.Parts.{Parts}
use Rattle.circuit_faults.proofs.FreeParts.{first_free, free_here}
use Rattle.circuit_faults.proofs.KeptMeaning.{IsFreeNet, faulty_stands, idle_clear, no_fight, settled_clear, shown_value, stands_faulty}
use Rattle.circuit_faults.proofs.KeptSpots.{fight_spot, spot, spot_place, unsettled_spot}
use Rattle.circuit_faults.proofs.KeptWords.{gates_shown}
use Rattle.circuit_faults.specs.Ordered.{IsWholePart}
use Rattle.blif_eval.specs.declared.plan.ModelPlan.{ModelPlan}
use Rattle.circuit_faults.proofs.DrivenAlone.{driven_alone}
use Rattle.circuit_faults.specs.Scans.{IsInside}
use Rattle.circuit_faults.specs.Wholes.{HasSoundWholes}
use Rattle.vrt_model.proofs.Tests.{some_or_none}
use Rattle.whole_steps.proofs.FreeOutputLaws.{marked_free}
use Rattle.whole_steps.specs.Tables.{IsWholeTable, free_at}
use Rattle.whole_steps.specs.declared.table.OutputPlace.{OutputPlace}
use Rattle.circuit_faults.proofs.PartNetworks.{responds}
use Rattle.circuit_faults.proofs.WholeParts.{number_inside, whole_part}
use Rattle.circuit_faults.specs.Faults.{HasFixedBits}
use Rattle.circuit_faults.specs.Faults.{SolvedCase}
use Rattle.circuit_faults.specs.KeptFaults.{HasKeptFault, HasNoKeeper, kept_spots}
use Rattle.circuit_faults.specs.KeptResults.{HasKeptSpans, IsFirstKept, KeptGives, WritesKept}
use Rattle.circuit_faults.specs.KeptScans.{IsFaultyAt, IsInSolved, IsKeptFaulty, IsLoose, IsReachedIn, IsSettledAt, KeptScanGives, reach_at, wanted_at}
use Rattle.circuit_faults.specs.Results.{IsClearCircuit, root_at}
use Rattle.circuit_faults.specs.Scans.{IsInEarlier, free_part}
use Rattle.circuit_faults.specs.declared.kept_net.KeptFault.{KeptFault}
use Rattle.circuit_faults.specs.declared.spans.KeptSpans.{KeptSpans}
use Rattle.fault_places.specs.Searches.{Spot}
use Rattle.hold_keep.specs.Kept.{is_bit, is_fight}
use Rattle.path_fixpoint.specs.Parts.{IsPart}
use Rattle.path_fixpoint.specs.Solved.{network_at}
use Rattle.vrt_model.proofs.Filtered.{device_among}
use Rattle.vrt_model.proofs.Members.{among_any, any_among}
use Rattle.vrt_model.proofs.Tables.{response_of}
use Rattle.vrt_model.specs.Known.{IsPlain}
use Rattle.vrt_model.specs.Networks.{HasRanges}
use Rattle.vrt_model.specs.Lists.{At, Among}
use Rattle.vrt_model.specs.Reading.{kept}
use Rattle.vrt_model.specs.Signals.{response_by}
use Rattle.vrt_model.specs.Solution.{AlwaysResponds}
use Rattle.vrt_model.specs.declared.circuit.Circuit.{Circuit}
use Rattle.vrt_model.specs.declared.circuit.Device.{Device}
use Rattle.vrt_model.specs.declared.rules.Phase.{Phase}
use Rattle.vrt_model.specs.declared.verdict.FaultKind.{FaultKind}
use Rattle.vrt_model.specs.declared.verdict.FaultKind.TheVariants.{Fight, FightKept, Float, Unsettled, Constraint, Differs, Next, Apart, Enter}

-- ---- keepers, and parts

pub keeper_none : (c : Circuit) → list_any (λ (d : Device). d.keeper) c.devices ≡ false → HasNoKeeper c
keeper_none c e d m = elim (cases_Bool d.keeper) [ inl t ↦ absurd (false≢true (sym e ∙ among_any (λ (x : Device). x.keeper) c.devices d m t)) | inr f ↦ f ]

pub keeper_some : (c : Circuit) → list_any (λ (d : Device). d.keeper) c.devices ≡ true → HasNoKeeper c → ⊥
keeper_some c e none = let h = any_among (λ (x : Device). x.keeper) c.devices e in false≢true (sym (none h.0 h.1) ∙ h.2)

module _ (c : Circuit) (phase : Phase) (parts : Parts) (are : AreParts c phase kept (λ n. 0) parts) where
  pub kept_part : HasRanges c → (part : Part) → Among parts.list part → IsPart c part
  kept_part ranges part m = (whole_part c phase kept (λ n. 0) ranges part (are.each part m)).is

  -- each plain net is in a part
  pub plain_inside : (n : ℕ) → IsPlain c n → IsInEarlier parts.list (length parts.list) n
  plain_inside n p =
      let there = are.all n p in
      (there.1.0, there.0, slice_get_within parts.list there.1.0 there.0 there.1.1, there.1.1, number_inside there.0 n there.2)

-- a loose net is in a part that is solved
pub loose_inside : (c : Circuit) (drivers : List (Option OutputPlace)) (plans : List ModelPlan) → IsWholeTable c drivers plans → (phase : Phase) (parts : Parts) → AreParts c phase kept (λ n. 0) parts
    → HasRanges c → (n : ℕ) → IsLoose c drivers n → IsInSolved drivers parts.list (length parts.list) n
loose_inside c drivers plans table phase parts are ranges n loose =
    let there = plain_inside c phase parts are n loose.0 in
    (there.0, there.1, there.2, there.3, there.4, not_free there.1 (there.0, there.3) there.4)
  where
    not_free : (part : Part) → Among parts.list part → IsInside part n → free_part drivers part ≡ None
    not_free part m i = elim (some_or_none (free_part drivers part)) [
      | inl place ↦
          let whole = whole_part c phase kept (λ k. 0) ranges part (are.each part m) in
          let out = free_here c drivers table.outputs part whole.plain place.0 place.1 in
          let same : n ≡ out.0.pin.net.0 = driven_alone c phase kept (λ k. 0) ranges place.0.number out.0 out.2 part (are.each part m) n (0, (out.0.pin.net, out.3, refl)) i in
          absurd (none-some place.0 (sym loose.1 ∙ ap (free_at drivers) same ∙ sym (first_free drivers part out.0.pin.net out.3) ∙ place.1))
      | inr none ↦ none
    ]

-- ---- the place of a fault

abbrev IsKeptKind : FaultKind → Type 0
IsKeptKind kind = (kind ≡ FightKept) ⊎ (kind ≡ Unsettled)

abbrev place_of : FaultKind → ℕ → ℕ
place_of FightKept n = 2 * n
place_of Unsettled n = 2 * n + 1
place_of Fight n = 0
place_of Float n = 0
place_of Constraint n = 0
place_of Differs n = 0
place_of Next n = 0
place_of Apart n = 0
place_of Enter n = 0

place_stands : (c : Circuit) (kind : FaultKind) (n : ℕ) → IsKeptKind kind → n < length c.nets → At (kept_spots c) (place_of kind n) (spot kind n)
place_stands c kind n (inl e) lt = subst (λ (k : FaultKind). At (kept_spots c) (place_of k n) (spot k n)) (sym e) (fight_spot c n lt)
place_stands c kind n (inr e) lt = subst (λ (k : FaultKind). At (kept_spots c) (place_of k n) (spot k n)) (sym e) (unsettled_spot c n lt)

-- ---- what a faulty net has

module _ (care wanted zero one : Function) (seen : Bool) where
  faulty_kind : (kind : FaultKind) (at value : H) (d : Diagrams) → IsKeptFaulty care wanted zero one seen kind at value d → IsKeptKind kind
  faulty_kind FightKept at value d f = inl refl
  faulty_kind Unsettled at value d f = inr refl
  faulty_kind Fight at value d f = absurd f
  faulty_kind Float at value d f = absurd f
  faulty_kind Constraint at value d f = absurd f
  faulty_kind Differs at value d f = absurd f
  faulty_kind Next at value d f = absurd f
  faulty_kind Apart at value d f = absurd f
  faulty_kind Enter at value d f = absurd f

  faulty_live : (kind : FaultKind) (at value : H) (d : Diagrams) → IsKeptFaulty care wanted zero one seen kind at value d → (IsLive d at × IsLive d value) × (at.0 ≢ 0)
  faulty_live FightKept at value d f = ((f.0.live, f.2.live), f.1)
  faulty_live Unsettled at value d f = ((f.2.live, f.4.live), f.3)
  faulty_live Fight at value d f = absurd f
  faulty_live Float at value d f = absurd f
  faulty_live Constraint at value d f = absurd f
  faulty_live Differs at value d f = absurd f
  faulty_live Next at value d f = absurd f
  faulty_live Apart at value d f = absurd f
  faulty_live Enter at value d f = absurd f

  -- it is faulty only where there is care
  faulty_care : (kind : FaultKind) (at value : H) (d : Diagrams) (v : Valuation) → IsKeptFaulty care wanted zero one seen kind at value d → function_of d at v ≡ true → care v ≡ true
  faulty_care FightKept at value d v f e = (and_parts (care v) (is_fight (response_by (zero v) (one v))) (sym (f.0.same v) ∙ e)).0
  faulty_care Unsettled at value d v f e = (and_parts (care v) (not (is_bit (wanted v) (response_by (zero v) (one v)))) (sym (f.2.same v) ∙ e)).0
  faulty_care Fight at value d v f e = absurd f
  faulty_care Float at value d v f e = absurd f
  faulty_care Constraint at value d v f e = absurd f
  faulty_care Differs at value d v f e = absurd f
  faulty_care Next at value d v f e = absurd f
  faulty_care Apart at value d v f e = absurd f
  faulty_care Enter at value d v f e = absurd f

-- ---- where the bare circuit is clear

module _ (c : Circuit) (phase : Phase) (observed : ℕ → Bool) (wholes : HasSoundWholes c phase observed) (drivers : List (Option OutputPlace)) (plans : List ModelPlan) (table : IsWholeTable c drivers plans)
    (seen : AreObserved c observed) (care : H) (spans : KeptSpans) (old : Diagrams)
    (fixed : (v : Valuation) → HasFixedBits c phase (root_at old spans.roots v)) (clear : IsClearCircuit c phase observed care spans.roots spans.gates old old) where
  abbrev Case : Type 0
  Case = SolvedCase c phase observed (root_at old spans.roots)

  abbrev StandsIn : Case → FaultKind → ℕ → Type 0
  StandsIn v kind n = HasKeptFault c phase observed v.setting v.solution kind n

  -- a plain net has a free output of a whole instance, or the table has marked none
  driven_or_not : (n : ℕ) → IsPlain c n → (free_at drivers n ≡ None) ⊎ IsFreeNet c n
  driven_or_not n p = elim (some_or_none (free_at drivers n)) [
    | inl place ↦
        let there = marked_free c drivers table.outputs n p place.0 place.1 in
        inr (place.0.number, there.0, there.1.number, there.2, there.3)
    | inr none ↦ inl none
  ]

  -- without keepers no fault stands
  pub kept_idle : (new : Diagrams) → HasNoKeeper c → KeptGives c phase observed care spans.roots old new None
  kept_idle new none i x v e met f =
      idle_clear c phase observed wholes seen (root_at old spans.roots v.valuation) (fixed v.valuation) v.setting v.solution v.solved none
      (λ n h. clear.clear v.valuation v.setting v.solution met v.solved Fight n h)
      (λ n o. (shows old spans.gates n v.valuation, clear.bits v.valuation v.setting v.solution met v.solved n o))
      x.kind x.at f

  module _ (gates_seen : (d : Device) → Among c.devices d → observed d.gate.0 ≡ true) (parts : Parts) (are : AreParts c phase kept (λ n. 0) parts) (mid : Diagrams)
      (has : HasKeptSpans c parts.list spans old) (written : WritesKept spans old mid) (care_live : IsLive old care)
      (reached : (n : ℕ) → IsInSolved drivers parts.list (length parts.list) n → IsReachedIn c parts.list spans (length parts.list) old mid n) where
    -- ---- in one case

    module _ (v : Case) (met : function_of old care v.valuation ≡ true) where
      wanted_bit : (n : ℕ) → observed n ≡ true → v.solution n ≡ Some (wanted_at mid spans n v.valuation)
      wanted_bit n o =
          clear.bits v.valuation v.setting v.solution met v.solved n o
          ∙ ap (λ (b : Bool). Some b) (sym (gates_shown c parts.list spans old has mid written n v.valuation (seen.nets n o)))

      met_there : function_of mid care v.valuation ≡ true
      met_there = written.adds.kept care.0 care_live v.valuation ∙ met

      -- a loose net responds as its words say
      responds_so : (n : ℕ) → IsLoose c drivers n
          → AlwaysResponds c phase observed v.setting v.solution kept n (response_by (reach_at mid spans false n v.valuation) (reach_at mid spans true n v.valuation))
      responds_so n p =
          let r = reached n (loose_inside c drivers plans table phase parts are wholes.ranges n p) in
          let part : Part = r.1 in
          let whole : IsWholePart kept c phase part = whole_part c phase kept (λ m. 0) wholes.ranges part (are.each part (r.0, r.3)) in
          (responds kept c phase observed wholes seen (λ d m. gates_seen d (device_among kept c d m).0) (root_at old spans.roots v.valuation) (fixed v.valuation) v.setting v.solved.given v.solution v.solved.solves part whole
          (λ at out e i s is agrees. clear.driven v.valuation v.setting v.solution met v.solved at out e s is agrees)
          (λ m. shows old spans.gates m v.valuation)
          (λ d m. clear.bits v.valuation v.setting v.solution met v.solved d.gate.0 (gates_seen d (device_among kept c d (whole.devices d m).0).0)) n
          (response_by (reach_at mid spans false n v.valuation) (reach_at mid spans true n v.valuation)) r.4).1
          (response_of (network_at old c part spans.gates spans.roots v.valuation) n (reach_at mid spans false n v.valuation) (reach_at mid spans true n v.valuation)
          (r.5.reaches false v.valuation) (r.5.reaches true v.valuation))

      -- a net that is settled where it is loose has no fault
      net_clear : (n : ℕ) (kind : FaultKind) → (IsLoose c drivers n → IsSettledAt observed care spans mid n) → ¬ StandsIn v kind n
      net_clear n kind settled =
          settled_clear c phase observed wholes seen (root_at old spans.roots v.valuation) (fixed v.valuation) v.setting v.solution v.solved
          (function_of mid care) (wanted_at mid spans n) (reach_at mid spans false n) (reach_at mid spans true n) v.valuation met_there n (wanted_bit n) drivers (driven_or_not n) settled (responds_so n) kind

      -- no fault stands at a place before that of a faulty net
      none_before : (n : ℕ) (kind : FaultKind) (at value : H) (d : Diagrams) → IsLoose c drivers n → ((m : ℕ) → m < n → IsLoose c drivers m → IsSettledAt observed care spans mid m)
          → IsKeptFaulty (function_of mid care) (wanted_at mid spans n) (reach_at mid spans false n) (reach_at mid spans true n) (observed n) kind at value d
          → (i : ℕ) (y : Spot) → i < place_of kind n → At (kept_spots c) i y → ¬ StandsIn v y.kind y.at
      none_before n FightKept at value d p before f i y lt e h =
          let low : y.at < n = elim (spot_place c i y e) [ inl q ↦ (let is = q.0 in omega (arith, is, lt)) | inr q ↦ (let is = q.0 in omega (arith, is, lt)) ] in
          net_clear y.at y.kind (before y.at low) h
      none_before n Unsettled at value d p before f i y lt e h =
          elim (cases_lt y.at n) [
            | inl low ↦ net_clear y.at y.kind (before y.at low) h
            | inr high ↦ elim (spot_place c i y e) [
              | inl q ↦
                  let same : y.at ≡ n = (let is = q.0 in omega (arith, is, lt, high)) in
                  no_fight c phase observed wholes seen (root_at old spans.roots v.valuation) (fixed v.valuation) v.setting v.solution v.solved
                  (function_of mid care) (wanted_at mid spans n) (reach_at mid spans false n) (reach_at mid spans true n) v.valuation met_there n (wanted_bit n) f.1 (responds_so n p)
                  (subst (StandsIn v FightKept) same (subst (λ (k : FaultKind). StandsIn v k y.at) q.1 h))
              | inr q ↦ absurd (let is = q.0 in omega (arith, is, lt, high))
            ]
          ]
      none_before n Fight at value d p before f i y lt e h = f
      none_before n Float at value d p before f i y lt e h = f
      none_before n Constraint at value d p before f i y lt e h = f
      none_before n Differs at value d p before f i y lt e h = f
      none_before n Next at value d p before f i y lt e h = f
      none_before n Apart at value d p before f i y lt e h = f
      none_before n Enter at value d p before f i y lt e h = f

    -- ---- over all cases

    kept_clear : (new : Diagrams) → KeptScanGives (IsLoose c drivers) observed care spans mid new None → KeptGives c phase observed care spans.roots old new None
    kept_clear new settled i x v e met f = net_clear v met x.at x.kind (settled x.at) f

    kept_found : (new : Diagrams) (fault : KeptFault) → IsFaultyAt (IsLoose c drivers) observed care spans fault mid new → IsFirstKept c phase observed care spans.roots fault old new
    kept_found new fault f =
        let n : ℕ = fault.net.0 in
        let has_care = faulty_care (function_of mid care) (wanted_at mid spans n) (reach_at mid spans false n) (reach_at mid spans true n) (observed n) fault.kind fault.at fault.value new in
        let live = faulty_live (function_of mid care) (wanted_at mid spans n) (reach_at mid spans false n) (reach_at mid spans true n) (observed n) fault.kind fault.at fault.value new f.is in
        let kinds : IsKeptKind fault.kind = faulty_kind (function_of mid care) (wanted_at mid spans n) (reach_at mid spans false n) (reach_at mid spans true n) (observed n) fault.kind fault.at fault.value new f.is in
        let cared : (v : Case) → function_of new fault.at v.valuation ≡ true → function_of old care v.valuation ≡ true =
        λ v e. sym (written.adds.kept care.0 care_live v.valuation) ∙ has_care v.valuation f.is e in
        record {
          kinds = kinds;
          live = live.0;
          some = live.1;
          found = record {
            place = place_of fault.kind n;
            stands = place_stands c fault.kind n kinds (slice_get_within c.nets n f.loose.0.0 f.loose.0.1);
            exact = λ v. (
              λ e. (cared v e, there v fault new f (cared v e) e),
              λ h. back v fault new f h.0 h.1,
            );
            before = λ i y v lt e met. none_before v met n fault.kind fault.at fault.value new f.loose f.before f.is i y lt e;
          };
          keeps = λ k v e.
              shown_value c phase observed wholes seen (root_at old spans.roots v.valuation) (fixed v.valuation) v.setting v.solution v.solved
              (function_of mid care) (wanted_at mid spans n) (reach_at mid spans false n) (reach_at mid spans true n) v.valuation (met_there v (cared v e)) n (wanted_bit v (cared v e) n)
              fault.kind fault.at fault.value new f.is k (responds_so v (cared v e) n f.loose);
        }
      where
        there : (v : Case) (fault : KeptFault) (new : Diagrams) → IsFaultyAt (IsLoose c drivers) observed care spans fault mid new → function_of old care v.valuation ≡ true → function_of new fault.at v.valuation ≡ true
            → StandsIn v fault.kind fault.net.0
        there v fault new f met e =
            let n : ℕ = fault.net.0 in
            faulty_stands c phase observed wholes seen (root_at old spans.roots v.valuation) (fixed v.valuation) v.setting v.solution v.solved
            (function_of mid care) (wanted_at mid spans n) (reach_at mid spans false n) (reach_at mid spans true n) v.valuation (met_there v met) n (wanted_bit v met n)
            fault.kind fault.at fault.value new f.loose.0 f.is (responds_so v met n f.loose) e

        back : (v : Case) (fault : KeptFault) (new : Diagrams) → IsFaultyAt (IsLoose c drivers) observed care spans fault mid new → function_of old care v.valuation ≡ true → StandsIn v fault.kind fault.net.0
            → function_of new fault.at v.valuation ≡ true
        back v fault new f met h =
            let n : ℕ = fault.net.0 in
            stands_faulty c phase observed wholes seen (root_at old spans.roots v.valuation) (fixed v.valuation) v.setting v.solution v.solved
            (function_of mid care) (wanted_at mid spans n) (reach_at mid spans false n) (reach_at mid spans true n) v.valuation (met_there v met) n (wanted_bit v met n)
            fault.kind fault.at fault.value new f.is (responds_so v met n f.loose) h

    pub kept_gives : (new : Diagrams) (found : Option KeptFault) → KeptScanGives (IsLoose c drivers) observed care spans mid new found → KeptGives c phase observed care spans.roots old new found
    kept_gives new None s = kept_clear new s
    kept_gives new (Some fault) f = kept_found new fault f
