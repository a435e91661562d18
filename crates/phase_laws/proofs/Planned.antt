-- The places of a plan are all places of the phase at which a fault may stand, in their order.
use Rattle.std.proofs.Common.{◌≡◌, ℕ, zero, suc, ◌<◌, ◌⊎◌, Bool, true, List, [], ◌∷◌, ◌++◌, map, length, arith, ap, ap₂, refl, sym, subst, ◌∙◌, inl, inr, ◌+◌, ◌≤◌}
use Rattle.std.specs.Prelude.{◌≢◌, flat_map}
use Rattle.std.specs.List.{range_with_len}
use Rattle.std.proofs.lemmas.Option.{none-some, same_Some, slice_get_cases, slice_get_within}
use Rattle.channel_parts.specs.PartLists.{AreParts, least_of}
use Rattle.channel_parts.specs.declared.part.Parts.{Parts}
use Rattle.channel_parts.proofs.DriveLaws.{driven_by, driven_gives}
use Rattle.circuit_faults.proofs.OrderLaws.{is_least}
use Rattle.circuit_faults.proofs.SoundWholes.{output_plain, wired_wholes}
use Rattle.circuit_faults.proofs.WholeParts.{number_inside}
use Rattle.circuit_faults.specs.KeptFaults.{kept_spots}
use Rattle.circuit_faults.specs.Steps.{step_of}
use Rattle.circuit_faults.specs.Wholes.{HasSoundWholes}
use Rattle.fault_places.proofs.CountedSites.{counted_sites}
use Rattle.fault_places.proofs.ListedSpots.{spot, step_kinds}
use Rattle.fault_places.proofs.PhaseOrder.{phase_spots}
use Rattle.fault_places.specs.PhaseSpots.{AreSteps, IsSortedBy, Step, counted, spots_at, spots_each, spots_of}
use Rattle.fault_places.specs.Searches.{AreSpots, IsFoundAt, Spot}
use Rattle.fault_places.specs.States.{HasStates}
use Rattle.phase_laws.proofs.Observed.{observed_nets}
use Rattle.phase_terms.specs.Plans.{IsPhasePlan, planned_spots, step_spots}
use Rattle.phase_terms.specs.Ready.{IsReady}
use Rattle.phase_terms.specs.declared.plan.PhasePlan.{PhasePlan}
use Rattle.phase_wishes.proofs.WishLaws.{missed_is, spots_sorted}
use Rattle.phase_wishes.specs.Wishes.{spot_of, wished_kinds}
use Rattle.vrt_model.proofs.FirstFinding.{less_head}
use Rattle.vrt_model.proofs.Lists.{at_back, at_either, at_front, at_map, map_among}
use Rattle.vrt_model.proofs.Members.{among_either, among_flat_map, among_left, among_map, among_right, at_none}
use Rattle.vrt_model.specs.Assignment.{Assignment}
use Rattle.vrt_model.specs.Comparison.{Comparison, is_observed, phase_at, ports_of}
use Rattle.vrt_model.specs.Faults.{Misses}
use Rattle.vrt_model.specs.Known.{IsLeastOfPart, IsPlain, IsRanking}
use Rattle.vrt_model.specs.Lists.{Among, At}
use Rattle.vrt_model.specs.Networks.{HasRanges}
use Rattle.vrt_model.specs.Places.{IsFinding, IsOrder, comes_before, standing}
use Rattle.vrt_model.specs.Reading.{Partial}
use Rattle.vrt_model.specs.declared.circuit.Circuit.{Circuit}
use Rattle.vrt_model.specs.declared.circuit.FlatNet.{FlatNet}
use Rattle.vrt_model.specs.declared.circuit.NetKind.{NetKind}
use Rattle.vrt_model.specs.declared.circuit.NetKind.TheVariants.{Supply, Clock, Input, Plain}
use Rattle.vrt_model.specs.declared.rules.Phase.{Phase}
use Rattle.vrt_model.specs.declared.verdict.FaultKind.{FaultKind}
use Rattle.vrt_model.specs.declared.verdict.FaultKind.TheVariants.{Fight, FightKept, Float, Unsettled, Constraint, Differs, Next, Apart, Enter}

-- ---- least nets of parts

plain_kind_or_not : (kind : NetKind) → (kind ≡ Plain) ⊎ (kind ≢ Plain)
plain_kind_or_not (Supply value) = inr (λ e. cc)
plain_kind_or_not (Clock clock) = inr (λ e. cc)
plain_kind_or_not Input = inr (λ e. cc)
plain_kind_or_not Plain = inl refl

plain_or_not : (c : Circuit) (n : ℕ) → IsPlain c n ⊎ (¬ IsPlain c n)
plain_or_not c n =
    elim (slice_get_cases c.nets n).1 [
      | inl h ↦ elim (plain_kind_or_not h.0.kind) [
        | inl is ↦ inl (h.0, h.2, is)
        | inr not_plain ↦ inr (λ p. not_plain (ap (λ (net : FlatNet). net.kind) (same_Some h.0 p.0 (sym h.2 ∙ p.1)) ∙ p.2))
      ]
      | inr h ↦ inr (λ p. none-some p.0 (sym h.1 ∙ p.1))
    ]

module _ (c : Circuit) (phase : Phase) (rank : ℕ → ℕ) (parts : Parts) (are : AreParts c phase true rank parts) where
  least_by : (n : ℕ) → IsPlain c n ⊎ (¬ IsPlain c n) → ℕ
  least_by n (inl p) = least_of (are.all n p).0
  least_by n (inr other) = n

  -- the least net of the part of a plain net, and else the net
  least_net : ℕ → ℕ
  least_net n = least_by n (plain_or_not c n)

  least_by_is : HasRanges c → (n : ℕ) → IsPlain c n → (o : IsPlain c n ⊎ (¬ IsPlain c n)) → IsLeastOfPart c phase n (least_by n o)
  unfolding least_by
  least_by_is ranges n q (inl p) = let there = are.all n p in is_least c phase rank ranges there.0 (are.each there.0 there.1) n (number_inside there.0 n there.2)
  least_by_is ranges n q (inr other) = absurd (other q)

  least_by_given : (n : ℕ) → (¬ IsPlain c n) → (o : IsPlain c n ⊎ (¬ IsPlain c n)) → least_by n o ≡ n
  unfolding least_by
  least_by_given n none (inl p) = absurd (none p)
  least_by_given n none (inr other) = refl

  least_net_is : HasRanges c → (n : ℕ) → IsPlain c n → IsLeastOfPart c phase n (least_net n)
  unfolding least_net
  least_net_is ranges n q = least_by_is ranges n q (plain_or_not c n)

  least_net_given : (n : ℕ) → (¬ IsPlain c n) → least_net n ≡ n
  unfolding least_net
  least_net_given n none = least_by_given n none (plain_or_not c n)

-- ---- three lists one behind another

module _ (key : Spot → List ℕ) (xs ys zs ws : List Spot) (sorted : IsSortedBy key (xs ++ (ys ++ zs))) (last : IsSortedBy key ws)
    (first_before : (x w : Spot) → Among xs x → Among ws w → comes_before (key x) (key w) ≡ true)
    (second_before : (y w : Spot) → Among ys y → Among ws w → comes_before (key y) (key w) ≡ true) where
  abbrev Before : Spot → Spot → Type 0
  Before x y = comes_before (key x) (key y) ≡ true

  -- a place of the second list, in the whole
  second_at : (i : ℕ) (y : Spot) → At ys i y → At (xs ++ (ys ++ zs)) (length xs + i) y
  second_at i y at = at_back xs (ys ++ zs) i y (at_front ys zs i y at)

  from_first : (i j : ℕ) (x y : Spot) → At xs i x → At (ys ++ ws) j y → Before x y
  from_first i j x y a b =
      elim (at_either ys ws j y b) [
        | inl q ↦ sorted i (length xs + j) x y (at_front xs (ys ++ zs) i x a) (second_at j y q) (let lt = slice_get_within xs i x a in omega (arith, lt))
        | inr q ↦ first_before x y (i, a) (q.0, q.2)
      ]

  behind : (i j : ℕ) (x y : Spot) → At (ys ++ ws) i x → At (ys ++ ws) j y → i < j → Before x y
  behind i j x y a b lt =
      elim (at_either ys ws i x a) [
        | inl p ↦ elim (at_either ys ws j y b) [
          | inl q ↦ sorted (length xs + i) (length xs + j) x y (second_at i x p) (second_at j y q) (omega (arith, lt))
          | inr q ↦ second_before x y (i, p) (q.0, q.2)
        ]
        | inr p ↦ elim (at_either ys ws j y b) [
          | inl q ↦ absurd (let within = slice_get_within ys j y q in let is = p.1 in omega (arith, within, is, lt))
          | inr q ↦ last p.0 q.0 x y p.2 q.2 (let is = p.1 in let also = q.1 in omega (arith, is, also, lt))
        ]
      ]

  -- where a list has a first and a second in order, these and another behind them are in order
  replaced : IsSortedBy key (xs ++ (ys ++ ws))
  replaced i j x y a b lt =
      elim (at_either xs (ys ++ ws) i x a) [
        | inl p ↦ elim (at_either xs (ys ++ ws) j y b) [
          | inl q ↦ sorted i j x y (at_front xs (ys ++ zs) i x p) (at_front xs (ys ++ zs) j y q) lt
          | inr q ↦ from_first i q.0 x y p q.2
        ]
        | inr p ↦ elim (at_either xs (ys ++ ws) j y b) [
          | inl q ↦ absurd (let within = slice_get_within xs j y q in let is = p.1 in omega (arith, within, is, lt))
          | inr q ↦ behind p.0 q.0 x y p.2 q.2 (let is = p.1 in let also = q.1 in omega (arith, is, also, lt))
        ]
      ]

-- ---- kinds of places

-- the kinds at the places of numbers
each_kind : (kinds : List FaultKind) (numbers : List ℕ) (y : Spot) → Among (spots_each kinds numbers) y → Among kinds y.kind
each_kind kinds numbers y m =
    let from = among_flat_map (spots_at kinds) numbers y m in
    let is = among_map (λ (q : FaultKind). spot q from.0) kinds y from.2 in
    subst (Among kinds) (ap (λ (x : Spot). x.kind) is.2) is.1

one_kind : (kind : FaultKind) (numbers : List ℕ) (y : Spot) → Among (spots_each (kind ∷ []) numbers) y → y.kind ≡ kind
one_kind kind numbers y m = only (each_kind (kind ∷ []) numbers y m)
  where
    only : Among (kind ∷ []) y.kind → y.kind ≡ kind
    only (zero, e) = sym (same_Some kind y.kind e)
    only (suc i, e) = absurd (at_none i y.kind e)

wished : (kind other : FaultKind) → Among wished_kinds other → kind ≡ other → Among wished_kinds kind
wished kind other m e = subst (Among wished_kinds) (sym e) m

-- no other kind is one of those
none_of : (kind : FaultKind) → kind ≢ Differs → kind ≢ Next → kind ≢ Apart → kind ≢ Enter → Among wished_kinds kind → ⊥
none_of kind a b c d (zero, e) = a (sym (same_Some Differs kind e))
none_of kind a b c d (suc zero, e) = b (sym (same_Some Next kind e))
none_of kind a b c d (suc (suc zero), e) = c (sym (same_Some Apart kind e))
none_of kind a b c d (suc (suc (suc zero)), e) = d (sym (same_Some Enter kind e))
none_of kind a b c d (suc (suc (suc (suc i))), e) = at_none i kind e

-- behind the places of the kept circuit each kind is one of those that wishes have
wished_behind : (ports held : List ℕ) (y : Spot)
    → Among (spots_each (Differs ∷ []) ports ++ (spots_each (Next ∷ []) held ++ (spots_each (Apart ∷ []) held ++ spots_each (Enter ∷ []) held))) y → Among wished_kinds y.kind
wished_behind ports held y m =
    let next = spots_each (Next ∷ []) held in
    let groups = spots_each (Apart ∷ []) held in
    let entries = spots_each (Enter ∷ []) held in
    elim (among_either (spots_each (Differs ∷ []) ports) (next ++ (groups ++ entries)) y m) [
      | inl a ↦ wished y.kind Differs (0, refl) (one_kind Differs ports y a)
      | inr b ↦ elim (among_either next (groups ++ entries) y b) [
        | inl a ↦ wished y.kind Next (1, refl) (one_kind Next held y a)
        | inr c ↦ elim (among_either groups entries y c) [
          | inl a ↦ wished y.kind Apart (2, refl) (one_kind Apart held y a)
          | inr d ↦ wished y.kind Enter (3, refl) (one_kind Enter held y d)
        ]
      ]
    ]

module _ (k : Comparison) (phase : ℕ) (rank least : ℕ → ℕ) where
  abbrev key : Spot → List ℕ
  key x = standing k phase rank least x.kind x.at

  -- the number of a stage comes first
  abbrev IsAtStage : ℕ → Spot → Type 0
  IsAtStage stage x = (rest : List ℕ) × (key x ≡ stage ∷ rest)

  at_stage : (stage : ℕ) (x : Spot) (kind : FaultKind) → x.kind ≡ kind → ((at : ℕ) → (rest : List ℕ) × (standing k phase rank least kind at ≡ stage ∷ rest)) → IsAtStage stage x
  at_stage stage x kind e is =
      let there = is x.at in (there.0, ap (λ (q : FaultKind). standing k phase rank least q x.at) e ∙ there.1)

  solved_stage : (steps : List Step) (x : Spot) → Among (flat_map spots_of steps) x → IsAtStage 0 x
  solved_stage steps x m =
      elim (step_kinds steps x m) [
        | inl e ↦ at_stage 0 x Fight e (λ at. (_, refl))
        | inr other ↦ elim other [
          | inl e ↦ at_stage 0 x Float e (λ at. (_, refl))
          | inr e ↦ at_stage 0 x Constraint e (λ at. (_, refl))
        ]
      ]

  kept_stage : (numbers : List ℕ) (x : Spot) → Among (spots_each (FightKept ∷ Unsettled ∷ []) numbers) x → IsAtStage 1 x
  kept_stage numbers x m = by_kind (each_kind (FightKept ∷ Unsettled ∷ []) numbers x m)
    where
      by_kind : Among (FightKept ∷ Unsettled ∷ []) x.kind → IsAtStage 1 x
      by_kind (zero, e) = at_stage 1 x FightKept (sym (same_Some FightKept x.kind e)) (λ at. (_, refl))
      by_kind (suc zero, e) = at_stage 1 x Unsettled (sym (same_Some Unsettled x.kind e)) (λ at. (_, refl))
      by_kind (suc (suc i), e) = absurd (at_none i x.kind e)

  wish_stage : (x : Spot) → Among wished_kinds x.kind → (stage : ℕ) × (2 ≤ stage) × IsAtStage stage x
  wish_stage x (zero, e) = (2, omega arith, at_stage 2 x Differs (sym (same_Some Differs x.kind e)) (λ at. (_, refl)))
  wish_stage x (suc zero, e) = (3, omega arith, at_stage 3 x Next (sym (same_Some Next x.kind e)) (λ at. (_, refl)))
  wish_stage x (suc (suc zero), e) = (4, omega arith, at_stage 4 x Apart (sym (same_Some Apart x.kind e)) (λ at. (_, refl)))
  wish_stage x (suc (suc (suc zero)), e) = (5, omega arith, at_stage 5 x Enter (sym (same_Some Enter x.kind e)) (λ at. (_, refl)))
  wish_stage x (suc (suc (suc (suc i))), e) = absurd (at_none i x.kind e)

  stage_before : (a : ℕ) (x w : Spot) → a < 2 → IsAtStage a x → Among wished_kinds w.kind → comes_before (key x) (key w) ≡ true
  stage_before a x w low is m =
      let there = wish_stage w m in
      let high = there.1 in
      subst (λ (l : List ℕ). comes_before l (key w) ≡ true) (sym is.1)
      (subst (λ (l : List ℕ). comes_before (a ∷ is.0) l ≡ true) (sym there.2.1) (less_head a there.0 is.0 there.2.0 (omega (arith, low, high))))

-- ---- the places of a plan

-- whole instances whose outputs follow from linked inputs have bits for these at each reading, and these are at plain nets
states_there : (c : Circuit) (phase : Phase) (observed : ℕ → Bool) → HasSoundWholes c phase observed → HasStates c phase
states_there c phase observed wholes = record {
  state = λ inputs reading reads. (
    driven_by c phase observed wholes.determined reading,
    record { reading = reads; driven = λ at out e. driven_gives c phase observed wholes.determined reading at out e },
  );
  plain = output_plain c (wired_wholes c phase observed wholes);
}

module _ (k : Comparison) (phase : ℕ) (plan : PhasePlan) (ready : IsReady k) (range : phase < length k.rules.phases) (is : IsPhasePlan k phase plan) where
  abbrev at : Phase
  at = phase_at k.rules phase

  wholes : HasSoundWholes k.circuit at (is_observed k phase)
  wholes = ready.wholes phase range

  abbrev rank : ℕ → ℕ
  rank = is.parts.0

  abbrev are : AreParts k.circuit at true rank plan.parts
  are = is.parts.1

  abbrev ranks : IsRanking k.circuit at rank
  ranks = is.parts.2

  least : ℕ → ℕ
  least n = least_net k.circuit at rank plan.parts are n

  order : IsOrder k phase rank least
  unfolding least
  order = record {
    ranking = ranks;
    plain = λ n p. least_net_is k.circuit at rank plan.parts are wholes.ranges n p;
    given = λ n none. least_net_given k.circuit at rank plan.parts are n none;
  }

  abbrev steps : List Step
  steps = map (step_of plan.parts.list) plan.steps

  are_steps : AreSteps k phase rank steps
  are_steps = is.steps.order rank are ranks

  abbrev kept : List Spot
  kept = kept_spots k.circuit

  abbrev numbers : List ℕ
  numbers = range_with_len 0 (length k.circuit.nets)

  abbrev others : List Spot
  others =
      spots_each (Differs ∷ []) (range_with_len 0 (length (ports_of k)))
      ++ (spots_each (Next ∷ []) numbers ++ (spots_each (Apart ∷ []) numbers ++ spots_each (Enter ∷ []) numbers))

  abbrev wishes : List Spot
  wishes = map spot_of plan.wishes

  -- the places of the steps, of all nets and of all ports
  all_spots : AreSpots k phase rank least (step_spots plan ++ (kept ++ others))
  all_spots =
      phase_spots k phase rank least (counted k steps)
      (counted_sites k phase rank least steps wholes.ranges (states_there k.circuit at (is_observed k phase) wholes) (observed_nets k phase ready).0.nets order are_steps)

  wish_kinds : (w : Spot) → Among wishes w → Among wished_kinds w.kind
  wish_kinds w m =
      let from = at_map spot_of plan.wishes m.0 w m.1 in subst (λ (y : Spot). Among wished_kinds y.kind) from.2 (is.wishes.only from.0 (m.0, from.1))

  sorted : IsSortedBy (key k phase rank least) (planned_spots k plan)
  sorted =
      replaced (key k phase rank least) (step_spots plan) kept others wishes all_spots.sorted (spots_sorted wished_kinds k phase plan.wishes rank least is.wishes)
      (λ x w m n. stage_before k phase rank least 0 x w (omega arith) (solved_stage k phase rank least steps x m) (wish_kinds w n))
      (λ x w m n. stage_before k phase rank least 1 x w (omega arith) (kept_stage k phase rank least numbers x m) (wish_kinds w n))

  -- a finding at which something is missed has a wish
  missed_there : (kind : FaultKind) (n : ℕ) (a : Partial) (g : Assignment) → Misses k phase a g kind n → Among wishes (spot kind n)
  missed_there kind n a g m =
      let miss = (missed_is k phase plan.wishes is.wishes (spot kind n) a g).1 m in
      subst (Among wishes) miss.here (map_among spot_of plan.wishes miss.wish miss.among)

  wish_there : (kind : FaultKind) (n : ℕ) (bits : List Bool) → IsFoundAt k phase (spot kind n) bits → Among wished_kinds kind → Among wishes (spot kind n)
  wish_there Differs n bits f m = missed_there Differs n f.stands.0 f.stands.1 f.stands.4
  wish_there Next n bits f m = missed_there Next n f.stands.0 f.stands.1 f.stands.4
  wish_there Apart n bits f m = missed_there Apart n f.stands.0 f.stands.1 f.stands.4
  wish_there Enter n bits f m = missed_there Enter n f.stands.0 f.stands.1 f.stands.4
  wish_there Fight n bits f m = absurd (none_of Fight (λ e. cc) (λ e. cc) (λ e. cc) (λ e. cc) m)
  wish_there Float n bits f m = absurd (none_of Float (λ e. cc) (λ e. cc) (λ e. cc) (λ e. cc) m)
  wish_there FightKept n bits f m = absurd (none_of FightKept (λ e. cc) (λ e. cc) (λ e. cc) (λ e. cc) m)
  wish_there Unsettled n bits f m = absurd (none_of Unsettled (λ e. cc) (λ e. cc) (λ e. cc) (λ e. cc) m)
  wish_there Constraint n bits f m = absurd (none_of Constraint (λ e. cc) (λ e. cc) (λ e. cc) (λ e. cc) m)

  -- a place at which a fault is found is one of the plan's
  found_there : (kind : FaultKind) (n : ℕ) (bits : List Bool) → IsFoundAt k phase (spot kind n) bits → Among (step_spots plan ++ (kept ++ others)) (spot kind n)
      → Among (planned_spots k plan) (spot kind n)
  found_there kind n bits f m =
      elim (among_either (step_spots plan) (kept ++ others) (spot kind n) m) [
        | inl a ↦ among_left (step_spots plan) (kept ++ wishes) (spot kind n) a
        | inr b ↦ among_right (step_spots plan) (kept ++ wishes) (spot kind n) (elim (among_either kept others (spot kind n) b) [
          | inl a ↦ among_left kept wishes (spot kind n) a
          | inr c ↦ among_right kept wishes (spot kind n) (wish_there kind n bits f (wished_behind (range_with_len 0 (length (ports_of k))) numbers (spot kind n) c))
        ])
      ]

  planned : AreSpots k phase rank least (planned_spots k plan)
  planned = record {
    order = order;
    sorted = sorted;
    all = λ f found same.
        let here : IsFoundAt k phase (spot f.kind f.at) f.bits =
        subst (λ (p : ℕ). IsFinding k (record { phase = p; kind = f.kind; at = f.at; bits = f.bits })) same found in
        let old = all_spots.all f found same in
        let x : Spot = old.1 in
        let there : Among (step_spots plan ++ (kept ++ others)) (spot f.kind f.at) =
        (old.0, subst (λ (y : Spot). At (step_spots plan ++ (kept ++ others)) old.0 y) (ap₂ spot old.3 old.4) old.2) in
        let m = found_there f.kind f.at f.bits here there in
        (m.0, spot f.kind f.at, m.1, refl, refl);
  }

-- all places of the phase, in their order
pub planned_order : (k : Comparison) (phase : ℕ) (plan : PhasePlan) → IsReady k → phase < length k.rules.phases → IsPhasePlan k phase plan
    → (rank : ℕ → ℕ) × (least : ℕ → ℕ) × AreSpots k phase rank least (planned_spots k plan)
planned_order k phase plan ready range is = (rank k phase plan ready range is, least k phase plan ready range is, planned k phase plan ready range is)
