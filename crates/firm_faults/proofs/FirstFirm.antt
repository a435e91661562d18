-- The first fault that is found rank by rank is on firm ground.
use Rattle.std.proofs.Common.{◌≡◌, ℕ, zero, suc, ◌+◌, ◌<◌, ◌≤◌, ◌⊎◌, Bool, true, List, [], Option, Some, ltb, arith, ap, ap₂, subst, sym, refl, ◌∙◌, inl, inr}
use Rattle.std.specs.Prelude.{option_map, unwrap_or}
use Rattle.std.proofs.lemmas.Bool.{cases_Bool, ltb-false, ltb-true}
use Rattle.cell_inside.specs.Regions.{ArePinsPlain, AreRegions, IsGivenNet}
use Rattle.constraints.proofs.NamedLaws.{breaks_same}
use Rattle.firm_faults.proofs.RankOrder.{below_greatest, greatest_below, not_before, rank_at, stands_as, turn_low, turn_of}
use Rattle.firm_faults.proofs.SettledLaws.{settled_responds}
use Rattle.firm_faults.proofs.ShutRegions.{known_settled}
use Rattle.firm_faults.specs.FirmGround.{FirstFaultIsFirm, IsFirmIn, IsFoundByRank, IsOnFirmGround, IsOrderedAt}
use Rattle.firm_faults.specs.Settled.{IsBacked, IsBrokenAt, IsInstanceOfWhole, IsLinkedOutput, IsSettled, ShowsOwnBit, given, nets_named_at, within}
use Rattle.known_nets.proofs.NetKinds.{given_or_plain}
use Rattle.known_nets.proofs.WiredLaws.{pin_of_whole}
use Rattle.vrt_model.proofs.Laws.{shows_no_float}
use Rattle.vrt_model.proofs.Locality.{fixed_given}
use Rattle.vrt_model.proofs.Ranked.{plain_not_given}
use Rattle.vrt_model.specs.Assignment.{Assignment}
use Rattle.vrt_model.specs.Comparison.{Comparison, cell_at, is_observed, phase_at}
use Rattle.vrt_model.specs.Determined.{IsLinkedTo}
use Rattle.vrt_model.specs.Faults.{Solves, Stands}
use Rattle.vrt_model.specs.Held.{setting_of}
use Rattle.vrt_model.specs.Known.{IsDriven, IsKnown, IsPlain, IsRanking, IsUnknown, fixed, itself, settled}
use Rattle.vrt_model.specs.Lists.{Among, At}
use Rattle.vrt_model.specs.Places.{Finding, IsFirstInPhase, comes_before, greatest_rank, is_named, named_nets, named_nets_from}
use Rattle.vrt_model.specs.Reading.{Partial}
use Rattle.vrt_model.specs.Response.{Fight as FightResponse}
use Rattle.vrt_model.specs.Solution.{Agrees}
use Rattle.vrt_model.specs.State.{IsState, Setting, State, network_of}
use Rattle.vrt_model.specs.declared.circuit.Circuit.{Circuit}
use Rattle.vrt_model.specs.declared.circuit.FlatInstance.{FlatInstance}
use Rattle.vrt_model.specs.declared.ids.Net.{Net}
use Rattle.vrt_model.specs.declared.rules.Phase.{Phase}
use Rattle.vrt_model.specs.declared.verdict.FaultKind.{FaultKind}
use Rattle.vrt_model.specs.declared.verdict.FaultKind.TheVariants.{Fight, FightKept, Float, Unsettled, Constraint, Differs, Next, Apart, Enter}
use Rattle.vrt_model.specs.declared.whole.Whole.{Whole}
use Rattle.vrt_model.specs.declared.whole.WholePin.{WholePin}
use Rattle.whole_solutions.proofs.GivenShow.{given_shows}
use Rattle.whole_solutions.proofs.ObservedCases.{pin_observed}
use Rattle.whole_solutions.proofs.RankedBits.{agreeing_state, ranked_solutions_have_bits}
use Rattle.whole_solutions.proofs.RankedRegions.{net_in_region, ranks_give_regions, region_net, seen_in_base}
use Rattle.whole_solutions.specs.Ranked.{IsRanked, known_or_lower, up_to}

-- with a solution, no fault that is found by rank stands before the one of this kind at this place
abbrev pub HasNoneAhead : Comparison → ℕ → Setting → (ℕ → ℕ) → Partial → Assignment → FaultKind → ℕ → Type 0
HasNoneAhead k number setting rank a g top place =
    (kind : FaultKind) (at : ℕ) → IsFoundByRank kind → Stands k number setting a g kind at
    → (rank_at k number rank kind at < rank_at k number rank top place) ⊎ ((rank_at k number rank kind at ≡ rank_at k number rank top place) × (turn_of kind < turn_of top)) → ⊥

module _ (k : Comparison) (originals : List FlatInstance) (number : ℕ) (setting : Setting) (known : ℕ → Bool) (ordered : IsOrderedAt k originals number setting known)
    (rank : ℕ → ℕ) (ranking : IsRanking k.circuit (phase_at k.rules number) rank) (a : Partial) (g : Assignment) (solves : Solves k number setting a)
    (top : FaultKind) (place : ℕ) (none_ahead : HasNoneAhead k number setting rank a g top place) where
  abbrev c : Circuit
  c = k.circuit

  abbrev phase : Phase
  phase = phase_at k.rules number

  abbrev observed : ℕ → Bool
  observed = is_observed k number

  abbrev ranked : IsRanked c phase observed known rank
  ranked = ordered.ranked rank ranking

  abbrev known_bits : (n : ℕ) (v : Bool) → observed n ≡ true → IsKnown c phase n v → a n ≡ Some v
  known_bits = ordered.known_bits a solves

  abbrev found_at : ℕ
  found_at = rank_at k number rank top place

  -- ---- so the observed nets below have bits

  net_ahead : (x : ℕ) → x < found_at + turn_of top → (x < found_at) ⊎ ((x ≡ found_at) × (0 < turn_of top))
  net_ahead x lt =
      elim (cases_Bool (ltb x found_at)) [
        | inl t ↦ inl (ltb-true x found_at t)
        | inr e ↦ (let ge = ltb-false x found_at e in let low = turn_low top in inr (omega (arith, lt, ge, low), omega (arith, lt, ge)))
      ]

  bits_below : (m : ℕ) → observed m ≡ true → rank m < found_at + turn_of top → (v : Bool) × (a m ≡ Some v)
  bits_below m seen lt =
      ranked_solutions_have_bits c phase setting observed known rank a (found_at + turn_of top) ranked solves known_bits
      (λ n sees low plain. (λ h. none_ahead Fight n tt (plain, h) (net_ahead (rank n) low), λ h. none_ahead Float n tt (sees, h) (net_ahead (rank n) low))) m seen lt

  -- ---- a state that agrees with the solution

  abbrev s : State
  s = (agreeing_state c phase setting observed known rank a ranked solves known_bits).0

  state_is : IsState c phase setting.inputs s
  state_is = (agreeing_state c phase setting observed known rank a ranked solves known_bits).1

  agrees : Agrees observed a s.reading
  agrees = (agreeing_state c phase setting observed known rank a ranked solves known_bits).2

  pins_plain : ArePinsPlain c
  pins_plain out m = let from = pin_of_whole c out m in (ranked.wholes out.whole from.0).plain out.pin from.1

  -- where the solution has a bit, the state has and shows it
  same_bit : (m : ℕ) → observed m ≡ true → (v : Bool) × (a m ≡ Some v) → a m ≡ Some (s.reading m)
  same_bit m seen has = has.1 ∙ ap (λ (v : Bool). Some v) (sym (agrees m has.0 seen has.1))

  own_bit : (m : ℕ) → observed m ≡ true → (v : Bool) × (a m ≡ Some v) → ShowsOwnBit k number setting s m
  own_bit m seen has = (seen, (solves m (s.reading m) seen).0 (same_bit m seen has) s state_is agrees)

  known_settles : (n : ℕ) (v : Bool) → IsKnown c phase n v → IsSettled k originals number setting s n
  known_settles =
      known_settled k originals number setting s ranked.gates
      (λ n v seen is. let has = known_bits n v seen is in (agrees n v seen has, own_bit n seen (v, has)))

  -- ---- rank by rank

  regions : AreRegions c phase setting observed known (up_to c rank) (known_or_lower c observed known rank) s.reading
  regions = ranks_give_regions c phase setting observed known rank s.reading ranked (λ n v seen is. agrees n v seen (known_bits n v seen is))

  base_has : (most m : ℕ) → most ≤ found_at → known_or_lower c observed known rank most m ≡ true → (v : Bool) × (a m ≡ Some v)
  base_has most m le b =
      let at = regions.below most m b in
      elim at.1 [
        | inl is ↦ (let bit = (ranked.tested m).0 is in (bit.0, known_bits m bit.0 at.0 bit.1))
        | inr low ↦
            let under = (region_net c phase setting observed known rank ranked low.0 m low.2).1 in
            let lt = low.1 in
            bits_below m at.0 (omega (arith, le, lt, under))
      ]

  -- an observed input that is linked to a driven net of at most a rank is below that rank, or known, or given
  linked_in : (most : ℕ) (w : Whole) (at : ℕ) (pin input : WholePin) → Among c.wholes w → At w.outputs at pin → up_to c rank most pin.net.0 ≡ true
      → IsLinkedTo phase w input at → observed input.net.0 ≡ true → (known_or_lower c observed known rank most input.net.0 ≡ true) ⊎ IsGivenNet c input.net.0
  linked_in most w at pin input m e ins link seen =
      let net = region_net c phase setting observed known rank ranked most pin.net.0 ins in
      seen_in_base c phase setting observed known rank ranked most input.net.0 seen (λ free.
      let lt = ranked.ranking.above input.net.0 pin.net.0 (inl (
        inr (w, link.0, (m, link.1, link.2, ap (λ (n : Net). n.0) link.3, (pin, subst (λ (i : ℕ). At w.outputs i pin) (sym link.4) e, itself net.0))),
        free,
      )) in
      let le = net.1 in
      omega (arith, lt, le))

  -- a net that constraints name has a lower rank than each net that the instance drives
  named_below : (w : Whole) (at : ℕ) (pin : WholePin) (i : FlatInstance) (n : ℕ) → Among c.wholes w → At w.outputs at pin → IsPlain c pin.net.0
      → Among c.instances i → IsInstanceOfWhole c originals w i → Among (nets_named_at k number i) n → rank n < rank pin.net.0
  named_below w at pin i n m e plain mi of there =
      let link = ordered.linked w i n at pin m mi of there e in
      ranked.ranking.above n pin.net.0 (inr (w, link.0, link.5, (m, link.1, link.2, link.3, (pin, subst (λ (j : ℕ). At w.outputs j pin) (sym link.4) e, itself plain))))

  named_is : (at : ℕ) (i : FlatInstance) → At c.instances at i → named_nets k number at ≡ nets_named_at k number i
  named_is at i e = ap (λ (o : Option FlatInstance). unwrap_or (option_map (λ (j : FlatInstance). named_nets_from (is_named k number j) (cell_at k.design j.cell).ports j.ports) o) []) e

  unbroken : (most : ℕ) (w : Whole) (pin : WholePin) (i : FlatInstance) → most ≤ found_at → Among c.wholes w → Among w.outputs pin → up_to c rank most pin.net.0 ≡ true
      → Among c.instances i → IsInstanceOfWhole c originals w i → ¬ IsBrokenAt k number s.reading i
  unbroken most w pin i le m mp ins mi of broken =
      none_ahead Constraint mi.0 tt (i, mi.1, breaks_same k.design k.rules number i (λ n. Some (s.reading n)) a same broken) (inl ahead)
    where
      at : IsPlain c pin.net.0 × (rank pin.net.0 ≤ most)
      at = region_net c phase setting observed known rank ranked most pin.net.0 ins

      below : (n : ℕ) → Among (nets_named_at k number i) n → rank n < rank pin.net.0
      below n there = named_below w mp.0 pin i n m mp.1 at.0 mi of there

      same : (n : ℕ) → Among (nets_named_at k number i) n → Some (s.reading n) ≡ a n
      same n there =
          let lt = below n there in
          let up = at.1 in
          let seen = ordered.seen i n mi there in
          sym (same_bit n seen (bits_below n seen (omega (arith, lt, up, le))))

      above : 0 < rank pin.net.0
      above = elim (ranked.ranking.reached pin.net.0 at.0) [ inl one ↦ omega (arith, one) | inr from ↦ (let up = from.2 in omega (arith, up)) ]

      ahead : greatest_rank rank (named_nets k number mi.0) < found_at
      ahead =
          let lt = greatest_below rank (nets_named_at k number i) (rank pin.net.0) above below in
          let up = at.1 in
          let e = ap (greatest_rank rank) (named_is mi.0 i mi.1) in
          omega (arith, lt, up, le, e)

  backed : (most : ℕ) → most ≤ found_at → IsBacked k originals number s (up_to c rank most) (known_or_lower c observed known rank most)
  backed most le = record {
    linked = λ w at pin input m e ins mi link seen. linked_in most w at pin input m e ins link (pin_observed k number input.net.0 (w, input, m, mi, seen, refl));
    named = λ w pin i n m mp ins mi of there.
        let net = region_net c phase setting observed known rank ranked most pin.net.0 ins in
        seen_in_base c phase setting observed known rank ranked most n (ordered.seen i n mi there) (λ free.
        let lt = named_below w mp.0 pin i n m mp.1 net.0 mi of there in let up = net.1 in omega (arith, lt, up));
    unbroken = λ w pin i m mp ins mi of broken. unbroken most w pin i le m mp ins mi of broken;
  }

  -- an output that is linked to one at a region is plain, not known, and of a lower rank
  output_below : (most m : ℕ) → IsLinkedOutput c phase (up_to c rank most) m → IsPlain c m × (rank m < most)
  output_below most m l =
      let w : Whole = l.0 in
      let plain : IsPlain c l.3.net.0 = (ranked.wholes w l.4).plain l.3 l.7 in
      let net = region_net c phase setting observed known rank ranked most l.2.net.0 l.6 in
      let free : IsUnknown c phase l.3.net.0 = λ v is. driven_unknown l.3.net.0 v plain (w, l.3, l.4, l.7, refl) is in
      let lt = ranked.ranking.above l.3.net.0 l.2.net.0 (inl (
        inr (w, l.8.0, (l.4, l.8.1, l.8.2, ap (λ (n : Net). n.0) l.8.3, (l.2, subst (λ (i : ℕ). At w.outputs i l.2) (sym l.8.4) l.5, itself net.0))),
        free,
      )) in
      let le = net.1 in
      subst (λ (x : ℕ). IsPlain c x × (rank x < most)) l.9 (plain, omega (arith, lt, le))
    where
      driven_unknown : (x : ℕ) (v : Bool) → IsPlain c x → IsDriven c x → IsKnown c phase x v → ⊥
      driven_unknown x v plain driven (fixed h) = plain_not_given c x plain (h.0, h.1, fixed_given phase h.0.kind v h.2)
      driven_unknown x v plain driven (settled inside reading held drives shut ins reads gates shows) = (shut.plain x ins).2 driven

  rank_settled : (bound n : ℕ) → IsPlain c n → rank n < bound → rank n ≤ found_at → IsSettled k originals number setting s n
  rank_settled zero n plain lt le = absurd (omega (arith, lt))
  rank_settled (suc bound) n plain lt le =
      within (up_to c rank (rank n)) (known_or_lower c observed known rank (rank n)) (regions.each (rank n)) (backed (rank n) le)
      (net_in_region c phase setting observed known rank ranked (rank n) n plain (omega arith))
      (λ m b. own_bit m (regions.below (rank n) m b).0 (base_has (rank n) m le b))
      (λ m b. elim (regions.below (rank n) m b).1 [
        | inl is ↦ (let bit = (ranked.tested m).0 is in known_settles m bit.0 bit.1)
        | inr low ↦
            let net = region_net c phase setting observed known rank ranked low.0 m low.2 in
            let under = net.1 in
            let less = low.1 in
            rank_settled bound m net.0 (omega (arith, lt, under, less)) (omega (arith, le, under, less))
      ])
      (λ m l fight.
      let out = output_below (rank n) m l in
      let less = out.1 in
      none_ahead Fight m tt (
        out.0,
        settled_responds k originals number setting s a ranked.ranges pins_plain state_is solves m FightResponse (rank_settled bound m out.0 (omega (arith, lt, less)) (omega (arith, le, less))) fight,
      )
      (inl (omega (arith, le, less))))
      (λ m l.
      let out = output_below (rank n) m l in
      let less = out.1 in
      rank_settled bound m out.0 (omega (arith, lt, less)) (omega (arith, le, less)))

  plain_settled : (n : ℕ) → IsPlain c n → rank n ≤ found_at → IsSettled k originals number setting s n
  plain_settled n plain le = rank_settled (suc (rank n)) n plain (omega arith) le

  -- ---- the fault itself

  named_firm : (at : ℕ) (i : FlatInstance) → At c.instances at i → greatest_rank rank (named_nets k number at) ≤ found_at → 0 < turn_of top
      → (n : ℕ) → Among (nets_named_at k number i) n → (IsSettled k originals number setting s n × ShowsOwnBit k number setting s n) × (a n ≡ Some (s.reading n))
  named_firm at i e le turn n there =
      let seen = ordered.seen i n (at, e) there in
      let low = below_greatest rank (nets_named_at k number i) n there in
      let same = ap (greatest_rank rank) (named_is at i e) in
      let up : rank n ≤ found_at = omega (arith, low, same, le) in
      let has = bits_below n seen (omega (arith, up, turn)) in
      let settled_there : IsSettled k originals number setting s n =
      elim (given_or_plain c n (ranked.nets n seen)) [ inl net ↦ given net | inr plain ↦ plain_settled n plain up ] in
      ((settled_there, own_bit n seen has), same_bit n seen has)

  firm_at : (kind : FaultKind) (at : ℕ) → IsFoundByRank kind → rank_at k number rank kind at ≤ found_at → turn_of kind ≤ turn_of top
      → Stands k number setting a g kind at → IsFirmIn k originals number setting s kind at
  firm_at Fight at ok le turn there = (there.0, plain_settled at there.0 le, there.1 s state_is agrees)
  firm_at Float at ok le turn there =
      elim (given_or_plain c at (ranked.nets at there.0)) [
        | inl net ↦ absurd (shows_no_float (network_of c true setting.held s) at (s.reading at) (given_shows c ranked.ranges pins_plain true setting.held s at net) (there.1 s state_is agrees))
        | inr plain ↦ (there.0, plain_settled at plain le, there.1 s state_is agrees)
      ]
  firm_at Constraint at ok le turn there =
      let up : 1 ≤ turn_of top = turn in
      let firm = named_firm at there.0 there.1 le (omega (arith, up)) in (
        there.0,
        there.1,
        breaks_same k.design k.rules number there.0 a (λ n. Some (s.reading n)) (λ n m. (firm n m).1) there.2,
        λ n m. (firm n m).0,
      )
  firm_at FightKept at ok le turn there = absurd ok
  firm_at Unsettled at ok le turn there = absurd ok
  firm_at Differs at ok le turn there = absurd ok
  firm_at Next at ok le turn there = absurd ok
  firm_at Apart at ok le turn there = absurd ok
  firm_at Enter at ok le turn there = absurd ok

  -- where it is found by rank and stands, it is on firm ground
  pub firm_first : IsFoundByRank top → Stands k number setting a g top place → IsOnFirmGround k originals number setting top place
  firm_first by_rank there = record { state = s; is = state_is; firm = firm_at top place by_rank (omega arith) (omega arith) there }

-- ---- the first fault of a phase

module _ (k : Comparison) (f : Finding) (first : IsFirstInPhase k f) (by_rank : IsFoundByRank f.kind) where
  abbrev order : ℕ → ℕ
  order = first.first.0

  abbrev bits : Partial
  bits = first.found.stands.0

  abbrev values : Assignment
  values = first.found.stands.1

  none_before : HasNoneAhead k f.phase (setting_of k f.phase f.bits) order bits values f.kind f.at
  none_before kind at ok there ahead =
      elim (first.first.3 (record { phase = f.phase; kind = kind; at = at; bits = f.bits }) (record { phase = first.found.phase; meets = first.found.meets; stands = (bits, values, first.found.stands.2, first.found.stands.3, there) }) refl) [
        | inl before ↦
            let own = stands_as k f.phase order first.first.1 f.kind by_rank f.at in
            let its = stands_as k f.phase order first.first.1 kind ok at in
            not_before (rank_at k f.phase order f.kind f.at) (rank_at k f.phase order kind at) (turn_of f.kind) (turn_of kind) own.0 its.0 ahead (sym (ap₂ comes_before own.1 its.1) ∙ before)
        | inr same ↦
            let ranks : rank_at k f.phase order f.kind f.at ≡ rank_at k f.phase order kind at = ap₂ (rank_at k f.phase order) same.0 same.1 in
            let turns : turn_of f.kind ≡ turn_of kind = ap turn_of same.0 in
            elim ahead [ inl lt ↦ omega (arith, lt, ranks) | inr both ↦ (let lt = both.1 in omega (arith, lt, turns)) ]
      ]

pub first_fault_is_firm : FirstFaultIsFirm
first_fault_is_firm k originals f known ordered first by_rank =
    firm_first k originals f.phase (setting_of k f.phase f.bits) known ordered first.first.0 first.first.2.ranking first.found.stands.0 first.found.stands.1 first.found.stands.2 f.kind f.at
    (none_before k f first by_rank) by_rank first.found.stands.4
