-- The list of a phase is sorted by where its places stand, and leaves out no place at which a fault is found.
use Rattle.std.proofs.Common.{◌≡◌, ℕ, suc, Bool, List, [], ◌∷◌, ◌++◌, arith, ap, refl, sym, subst, ◌∙◌, inl, inr}
use Rattle.std.specs.Prelude.{flat_map}
use Rattle.fault_places.proofs.PartRanks.{one_least, same_rank}
use Rattle.fault_places.proofs.SortedLists.{IsStage, IsUnder, nested, one_stage, pair, rising_sorted, single, stages}
use Rattle.fault_places.specs.PhaseSpots.{AreSites, HasConstraint, IsRising, Sites, Step, OfInstance, OfPart, spots_at, spots_each, spots_in, spots_of, step_key}
use Rattle.fault_places.specs.Searches.{AreSpots, IsFoundAt, Spot}
use Rattle.vrt_model.proofs.Lists.{map_among}
use Rattle.vrt_model.proofs.Ranked.{together_first}
use Rattle.vrt_model.specs.Reading.{bare}
use Rattle.vrt_model.proofs.Members.{among_left, among_right, flat_map_among}
use Rattle.vrt_model.specs.Comparison.{Comparison, phase_at}
use Rattle.vrt_model.specs.Faults.{HoldAt}
use Rattle.vrt_model.specs.Known.{IsPlain}
use Rattle.vrt_model.specs.Lists.{Among}
use Rattle.vrt_model.specs.Places.{IsFinding, earlier, later, of_net, stage_solved, standing}
use Rattle.vrt_model.specs.declared.circuit.FlatInstance.{FlatInstance}
use Rattle.vrt_model.specs.declared.groups.Group.{Group}
use Rattle.vrt_model.specs.declared.groups.Member.{Member}
use Rattle.vrt_model.specs.declared.verdict.FaultKind.{FaultKind}
use Rattle.vrt_model.specs.declared.verdict.FaultKind.TheVariants.{Fight, FightKept, Float, Unsettled, Constraint, Differs, Next, Apart, Enter}

abbrev spot : FaultKind → ℕ → Spot
spot kind n = record { kind = kind; at = n }

module _ (k : Comparison) (phase : ℕ) (rank least : ℕ → ℕ) (s : Sites) (are : AreSites k phase rank least s) where
  abbrev key : Spot → List ℕ
  key x = standing k phase rank least x.kind x.at

  -- ---- sorted

  -- the keys of the two kinds at a net of a part
  part_key : (first : ℕ) (nets : List ℕ) (n last : ℕ) → Among s.steps (OfPart first nets) → Among nets n
      → stage_solved ∷ rank n ∷ of_net ∷ least n ∷ n ∷ last ∷ [] ≡ stage_solved ∷ rank first ∷ of_net ∷ first ∷ n ∷ last ∷ []
  part_key first nets n last m i =
      let c = k.circuit in
      let at = phase_at k.rules phase in
      let of = are.steps.leasts first nets n m i in
      let rank_is : rank n ≡ rank first = same_rank c at rank are.order.ranking n first of.together in
      let least_is : least n ≡ first = one_least c at n (least n) first (are.order.plain n (together_first c at bare n first of.together)) of in
      ap (λ (r : ℕ). stage_solved ∷ r ∷ of_net ∷ least n ∷ n ∷ last ∷ []) rank_is
      ∙ ap (λ (l : ℕ). stage_solved ∷ rank first ∷ of_net ∷ l ∷ n ∷ last ∷ []) least_is

  step_spots : (x : Step) → Among s.steps x → IsUnder key (stage_solved ∷ step_key k phase rank x) (spots_of x)
  step_spots (OfPart first nets) m =
      nested (spots_at (Fight ∷ Float ∷ [])) (λ (n : ℕ). n ∷ []) key (stage_solved ∷ rank first ∷ of_net ∷ first ∷ []) nets
      (rising_sorted nets (are.steps.rising first nets m))
      (λ n i. pair key (stage_solved ∷ rank first ∷ of_net ∷ first ∷ n ∷ []) (spot Fight n) (spot Float n) (earlier ∷ []) (later ∷ [])
      (part_key first nets n earlier m i) (part_key first nets n later m i) refl)
  step_spots (OfInstance at) m = single key (stage_solved ∷ step_key k phase rank (OfInstance at)) (spot Constraint at) [] refl

  solved : IsStage key 0 1 (flat_map spots_of s.steps)
  solved = one_stage key 0 (flat_map spots_of s.steps) (nested spots_of (step_key k phase rank) key (0 ∷ []) s.steps are.steps.sorted step_spots)

  kept_stage : IsStage key 1 2 (spots_each (FightKept ∷ Unsettled ∷ []) s.nets)
  kept_stage =
      one_stage key 1 (spots_each (FightKept ∷ Unsettled ∷ []) s.nets)
      (nested (spots_at (FightKept ∷ Unsettled ∷ [])) (λ (n : ℕ). n ∷ []) key (1 ∷ []) s.nets (rising_sorted s.nets are.nets_rise)
      (λ n i. pair key (1 ∷ n ∷ []) (spot FightKept n) (spot Unsettled n) (earlier ∷ []) (later ∷ []) refl refl refl))

  -- a stage with one kind
  of_kind : (kind : FaultKind) (stage : ℕ) (numbers : List ℕ) → IsRising numbers → ((n : ℕ) → standing k phase rank least kind n ≡ stage ∷ n ∷ [])
      → IsStage key stage (suc stage) (spots_each (kind ∷ []) numbers)
  of_kind kind stage numbers rising is =
      one_stage key stage (spots_each (kind ∷ []) numbers)
      (nested (spots_at (kind ∷ [])) (λ (n : ℕ). n ∷ []) key (stage ∷ []) numbers (rising_sorted numbers rising)
      (λ n i. single key (stage ∷ n ∷ []) (spot kind n) [] (is n)))

  abbrev entries : List Spot
  entries = spots_each (Enter ∷ []) s.held

  abbrev groups : List Spot
  groups = spots_each (Apart ∷ []) s.held ++ entries

  abbrev elements : List Spot
  elements = spots_each (Next ∷ []) s.held ++ groups

  abbrev outputs : List Spot
  outputs = spots_each (Differs ∷ []) s.ports ++ elements

  abbrev behind : List Spot
  behind = spots_each (FightKept ∷ Unsettled ∷ []) s.nets ++ outputs

  from_groups : IsStage key 4 6 groups
  from_groups =
      stages key 4 5 6 (spots_each (Apart ∷ []) s.held) entries (omega arith) (omega arith) (of_kind Apart 4 s.held are.held_rise (λ n. refl))
      (of_kind Enter 5 s.held are.held_rise (λ n. refl))

  from_elements : IsStage key 3 6 elements
  from_elements = stages key 3 4 6 (spots_each (Next ∷ []) s.held) groups (omega arith) (omega arith) (of_kind Next 3 s.held are.held_rise (λ n. refl)) from_groups

  from_outputs : IsStage key 2 6 outputs
  from_outputs = stages key 2 3 6 (spots_each (Differs ∷ []) s.ports) elements (omega arith) (omega arith) (of_kind Differs 2 s.ports are.ports_rise (λ n. refl)) from_elements

  all_stages : IsStage key 0 6 (spots_in s)
  all_stages =
      stages key 0 1 6 (flat_map spots_of s.steps) behind (omega arith) (omega arith) solved
      (stages key 1 2 6 (spots_each (FightKept ∷ Unsettled ∷ []) s.nets) outputs (omega arith) (omega arith) kept_stage from_outputs)

  -- ---- whole

  each_among : (kinds : List FaultKind) (numbers : List ℕ) (kind : FaultKind) (n : ℕ) → Among kinds kind → Among numbers n → Among (spots_each kinds numbers) (spot kind n)
  each_among kinds numbers kind n m i = flat_map_among (spots_at kinds) numbers n (spot kind n) i (map_among (λ (q : FaultKind). spot q n) kinds kind m)

  of_step : (x : Step) (y : Spot) → Among s.steps x → Among (spots_of x) y → Among (spots_in s) y
  of_step x y m n = among_left (flat_map spots_of s.steps) behind y (flat_map_among spots_of s.steps x y m n)

  of_behind : (y : Spot) → Among behind y → Among (spots_in s) y
  of_behind y m = among_right (flat_map spots_of s.steps) behind y m

  of_kept : (kind : FaultKind) (n : ℕ) → Among (FightKept ∷ Unsettled ∷ []) kind → Among s.nets n → Among (spots_in s) (spot kind n)
  of_kept kind n m i =
      of_behind (spot kind n)
      (among_left (spots_each (FightKept ∷ Unsettled ∷ []) s.nets) outputs (spot kind n) (each_among (FightKept ∷ Unsettled ∷ []) s.nets kind n m i))

  of_outputs : (y : Spot) → Among outputs y → Among (spots_in s) y
  of_outputs y m = of_behind y (among_right (spots_each (FightKept ∷ Unsettled ∷ []) s.nets) outputs y m)

  of_elements : (y : Spot) → Among elements y → Among (spots_in s) y
  of_elements y m = of_outputs y (among_right (spots_each (Differs ∷ []) s.ports) elements y m)

  of_groups : (y : Spot) → Among groups y → Among (spots_in s) y
  of_groups y m = of_elements y (among_right (spots_each (Next ∷ []) s.held) groups y m)

  of_part : (kind : FaultKind) (n : ℕ) → Among (Fight ∷ Float ∷ []) kind → IsPlain k.circuit n → Among (spots_in s) (spot kind n)
  of_part kind n m p =
      let there = are.steps.parts n p in
      of_step (OfPart there.0 there.1) (spot kind n) there.2 (each_among (Fight ∷ Float ∷ []) there.1 kind n m there.3)

  -- a net at which a hold stands
  held_there : (n at place : ℕ) (group : Group) (m : Member) → at ≡ n → HoldAt k n place group m → Among s.held at
  held_there n at place group m e h =
      let st = h.stands in subst (Among s.held) (st.2 ∙ sym e) (are.held_nets place st.0 st.1)

  -- a place at which a fault is found is in the list
  found_there : (kind : FaultKind) (at : ℕ) (bits : List Bool) → IsFoundAt k phase (spot kind at) bits → Among (spots_in s) (spot kind at)
  found_there Fight at bits f = of_part Fight at (0, refl) f.stands.4.0
  found_there Float at bits f = of_part Float at (1, refl) (are.floats at bits f)
  found_there Constraint at bits f =
      let st = f.stands.4 in
      let i : FlatInstance = st.0 in
      let has : HasConstraint k phase i = elim st.2 [ inl b ↦ inl (b.0, b.1) | inr b ↦ inr (b.1, b.3, (b.0, b.4), b.6) ] in
      of_step (OfInstance at) (spot Constraint at) (are.steps.instances at i st.1 has) (0, refl)
  found_there FightKept at bits f = of_kept FightKept at (0, refl) (are.plain_nets at f.stands.4.0)
  found_there Unsettled at bits f = of_kept Unsettled at (1, refl) (are.seen_nets at f.stands.4.0)
  found_there Differs at bits f =
      let w = f.stands.4.2 in
      of_outputs (spot Differs at) (among_left (spots_each (Differs ∷ []) s.ports) elements (spot Differs at)
      (each_among (Differs ∷ []) s.ports Differs at (0, refl) (are.seen_ports at w.0 w.1 w.2 w.3 w.4)))
  found_there Next at bits f =
      let st = f.stands.4 in
      let w = st.2.1 in
      of_elements (spot Next at) (among_left (spots_each (Next ∷ []) s.held) groups (spot Next at)
      (each_among (Next ∷ []) s.held Next at (0, refl) (held_there st.0 at w.0 w.1 w.2 st.2.0 w.4)))
  found_there Apart at bits f =
      let st = f.stands.4 in
      let w = st.2.1 in
      of_groups (spot Apart at) (among_left (spots_each (Apart ∷ []) s.held) entries (spot Apart at)
      (each_among (Apart ∷ []) s.held Apart at (0, refl) (held_there st.0 at w.0 w.1 w.2 st.2.0 w.5)))
  found_there Enter at bits f =
      let st = f.stands.4 in
      let w = st.2.1 in
      of_groups (spot Enter at) (among_right (spots_each (Apart ∷ []) s.held) entries (spot Enter at)
      (each_among (Enter ∷ []) s.held Enter at (0, refl) (subst (Among s.held) (w.3 ∙ sym st.2.0) (are.held_nets w.0 w.1 w.2))))

  pub phase_spots : AreSpots k phase rank least (spots_in s)
  phase_spots = record {
    order = are.order;
    sorted = all_stages.sorted;
    all = λ f found same.
        let here : IsFoundAt k phase (spot f.kind f.at) f.bits =
        subst (λ (p : ℕ). IsFinding k (record { phase = p; kind = f.kind; at = f.at; bits = f.bits })) same found in
        let m = found_there f.kind f.at f.bits here in
        (m.0, spot f.kind f.at, m.1, refl, refl);
  }
