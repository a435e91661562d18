-- The first fault of a phase is shown by the values of all nets at its valuation.
use Rattle.std.proofs.Common.{◌≡◌, ℕ, ◌<◌, ◌⊎◌, ◌&&◌, ◌||◌, Bool, true, false, List, [], ◌∷◌, length, arith, ap, refl, sym, subst, ◌∙◌, inl, inr, eqb}
use Rattle.std.specs.Prelude.{is_some, nat_eq, nat_lt}
use Rattle.std.specs.List.{list_any}
use Rattle.std.proofs.lemmas.Bool.{and_parts, eq-eqb, eqb-true, false≢true, ltb-true, or_cases, or_left}
use Rattle.std.proofs.lemmas.Option.{none-some, same_Some, slice_get_within}
use Rattle.vrt_model.proofs.FirstFinding.{found}
use Rattle.vrt_model.proofs.Members.{among_any}
use Rattle.vrt_model.specs.Assignment.{Assignment}
use Rattle.vrt_model.specs.CellRules.{is_constrained, is_observed_port}
use Rattle.vrt_model.specs.Circuits.{IsFlat}
use Rattle.vrt_model.specs.Comparison.{CellPort, Comparison, cell_at, is_observed, output_signal, phase_at, ports_of}
use Rattle.vrt_model.specs.Faults.{Assigns, Solves, Stands}
use Rattle.vrt_model.specs.Held.{setting_of}
use Rattle.vrt_model.specs.Known.{IsPlain}
use Rattle.vrt_model.specs.Lists.{At, Among}
use Rattle.vrt_model.specs.Places.{Finding, IsFinding, IsFirstInPhase, IsNoLater, IsOrder, comes_before, of_net, stage_kept, stage_solved, standing}
use Rattle.vrt_model.specs.Reading.{Partial}
use Rattle.vrt_model.specs.State.{network_of}
use Rattle.vrt_model.specs.declared.circuit.Device.{Device}
use Rattle.vrt_model.specs.declared.circuit.FlatInstance.{FlatInstance}
use Rattle.vrt_model.specs.declared.circuit.Hold.{Hold}
use Rattle.vrt_model.specs.declared.ids.Net.{Net}
use Rattle.vrt_model.specs.declared.verdict.FaultKind.{FaultKind}
use Rattle.vrt_model.specs.declared.verdict.FaultKind.TheVariants.{Fight as FightFault, FightKept, Float as FloatFault, Unsettled, Constraint, Differs, Next, Apart, Enter}
use Rattle.vrt_model.specs.declared.whole.Whole.{Whole}
use Rattle.vrt_model.specs.declared.whole.WholePin.{WholePin}
use Rattle.vrt_model.specs.Response.{Fight as FightThere, Float as FloatThere, IsResponse, Response, Shows}
use Rattle.witness.proofs.MeetingLaws.{IsCalm, all_same, bare_shows, gates_same, kept_gates, kept_shows, kept_some, seen_of}
use Rattle.witness.proofs.SettingLaws.{values_move}
use Rattle.witness.proofs.SettleLaws.{bit_there}
use Rattle.witness.specs.FirstFaults.{AreNetsObserved, IsFirstFaultShown, LosesBit, ShowsFault}
use Rattle.witness.specs.Replays.{AreValues, bit_shown}
use Rattle.witness.specs.declared.seen.Seen.{Seen}
use Rattle.witness.specs.declared.seen.Seen.TheVariants.{Bit, Fight, Float, Blocked}

-- ---- gates are observed, also those of keepers

gate_observed : (k : Comparison) (phase : ℕ) (d : Device) → Among k.circuit.devices d → is_observed k phase d.gate.0 ≡ true
unfolding is_observed
gate_observed k phase d m =
    let n = d.gate.0 in
    let gates = list_any (λ (x : Device). eqb x.gate.0 n) k.circuit.devices in
    let holds = list_any (λ (h : Hold). eqb h.net.0 n) k.circuit.holds in
    let outputs = list_any (λ (p : CellPort). eqb p.net n && is_some (output_signal p.role) && is_observed_port k.rules (cell_at k.design k.cell).name p.name phase) (ports_of k) in
    let instances = list_any (λ (i : FlatInstance). is_constrained k.rules (cell_at k.design i.cell).name && list_any (λ (x : Net). eqb x.0 n) i.ports) k.circuit.instances in
    let wholes = list_any (λ (w : Whole). list_any (λ (p : WholePin). p.observed && eqb p.net.0 n) w.inputs) k.circuit.wholes in
    or_left (((gates || holds) || outputs) || instances) wholes
    (or_left ((gates || holds) || outputs) instances (or_left (gates || holds) outputs (or_left gates holds
    (among_any (λ (x : Device). eqb x.gate.0 n) k.circuit.devices d m (eq-eqb d.gate.0 n refl)))))

-- ---- the order of places

-- the place of a fight or a float of the bare circuit
abbrev solved_place : (ℕ → ℕ) → (ℕ → ℕ) → ℕ → ℕ → List ℕ
solved_place rank least n which = stage_solved ∷ rank n ∷ of_net ∷ least n ∷ n ∷ which ∷ []

-- the place of a fault of the kept circuit
abbrev kept_place : ℕ → ℕ → List ℕ
kept_place n which = stage_kept ∷ n ∷ which ∷ []

-- that of a greater rank does not come before
no_before : (x y : ℕ) (xs ys : List ℕ) → y < x → comes_before (0 ∷ x ∷ xs) (0 ∷ y ∷ ys) ≡ true → ⊥
no_before x y xs ys less e =
    elim (or_cases (nat_lt x y) (nat_eq x y && comes_before xs ys) e) [
      | inl t ↦ (let lt = ltb-true x y t in omega (arith, lt, less))
      | inr t ↦ (let same = eqb-true x y (and_parts (nat_eq x y) (comes_before xs ys) t).0 in omega (arith, same, less))
    ]

no_higher : (rank least : ℕ → ℕ) (n m e d : ℕ) → rank m < rank n → comes_before (solved_place rank least n e) (solved_place rank least m d) ≡ true → ⊥
no_higher rank least n m e d less before = no_before (rank n) (rank m) (0 ∷ least n ∷ n ∷ e ∷ []) (0 ∷ least m ∷ m ∷ d ∷ []) less before

abbrev is_kept_kind : FaultKind → Bool
is_kept_kind FightFault = false
is_kept_kind FloatFault = false
is_kept_kind FightKept = true
is_kept_kind Unsettled = true
is_kept_kind Constraint = false
is_kept_kind Differs = false
is_kept_kind Next = false
is_kept_kind Apart = false
is_kept_kind Enter = false

-- ---- what is seen

abbrev is_blocked : Seen → Bool
is_blocked (Bit v) = false
is_blocked Fight = false
is_blocked Float = false
is_blocked Blocked = true

never_blocked : (r : Response) → ¬ (seen_of r ≡ Blocked)
never_blocked FightThere e = false≢true (ap is_blocked e)
never_blocked FloatThere e = false≢true (ap is_blocked e)
never_blocked (Shows v) e = false≢true (ap is_blocked e)

-- what shows a bit is the response with this bit
shows_of : (r : Response) (v : Bool) → seen_of r ≡ Bit v → r ≡ Shows v
shows_of FightThere v e = absurd (none-some v (ap bit_shown e))
shows_of FloatThere v e = absurd (none-some v (ap bit_shown e))
shows_of (Shows u) v e = ap Shows (same_Some u v (ap bit_shown e))

module _ (k : Comparison) (f : Finding) (flat : IsFlat k.circuit) (within : AreNetsObserved k f.phase) (finding : IsFinding k f) (rank least : ℕ → ℕ) (order : IsOrder k f.phase rank least)
    (first : (other : Finding) → IsFinding k other → other.phase ≡ f.phase → IsNoLater k f.phase rank least f other)
    (a : Partial) (g : Assignment) (solves : Solves k f.phase (setting_of k f.phase f.bits) a) (assigns : Assigns k f.phase (setting_of k f.phase f.bits) g)
    (bare kept : List Seen) (values : AreValues k.circuit (phase_at k.rules f.phase) (setting_of k f.phase f.bits) bare kept) where
  abbrev gates : (d : Device) → Among k.circuit.devices d → is_observed k f.phase d.gate.0 ≡ true
  gates d m = gate_observed k f.phase d m

  abbrev Calm : ℕ → Type 0
  Calm m = IsCalm k.circuit (phase_at k.rules f.phase) flat (is_observed k f.phase) gates (setting_of k f.phase f.bits) a solves bare kept values m

  -- no other fault at this valuation comes before
  no_later : (kind : FaultKind) (m : ℕ) → Stands k f.phase (setting_of k f.phase f.bits) a g kind m → IsNoLater k f.phase rank least f (found f.phase kind m f.bits)
  no_later kind m stands = first (found f.phase kind m f.bits) (record { phase = finding.phase; meets = finding.meets; stands = (a, g, solves, assigns, stands) }) refl

  solved_at : (f.kind ≡ FightFault) ⊎ (f.kind ≡ FloatFault) → (e : ℕ) × (standing k f.phase rank least f.kind f.at ≡ solved_place rank least f.at e)
  solved_at (inl e) = (0, ap (λ (kind : FaultKind). standing k f.phase rank least kind f.at) e)
  solved_at (inr e) = (1, ap (λ (kind : FaultKind). standing k f.phase rank least kind f.at) e)

  kept_at : (f.kind ≡ FightKept) ⊎ (f.kind ≡ Unsettled) → (is_kept_kind f.kind ≡ true) × ((e : ℕ) × (standing k f.phase rank least f.kind f.at ≡ kept_place f.at e))
  kept_at (inl e) = (ap is_kept_kind e, (0, ap (λ (kind : FaultKind). standing k f.phase rank least kind f.at) e))
  kept_at (inr e) = (ap is_kept_kind e, (1, ap (λ (kind : FaultKind). standing k f.phase rank least kind f.at) e))

  -- nothing fights or floats at a lower rank
  none_below : (f.kind ≡ FightFault) ⊎ (f.kind ≡ FloatFault) → (kind : FaultKind) (m d : ℕ) → standing k f.phase rank least kind m ≡ solved_place rank least m d → rank m < rank f.at
      → ¬ Stands k f.phase (setting_of k f.phase f.bits) a g kind m
  none_below own kind m d e less stands =
      elim (no_later kind m stands) [
        | inl before ↦
            let at = solved_at own in
            no_higher rank least f.at m at.0 d less
            (subst (λ (xs : List ℕ). comes_before xs (solved_place rank least m d) ≡ true) at.1
            (subst (λ (ys : List ℕ). comes_before (standing k f.phase rank least f.kind f.at) ys ≡ true) e before))
        | inr same ↦ (let is : rank f.at ≡ rank m = ap rank same.1 in omega (arith, is, less))
      ]

  calm_below : (f.kind ≡ FightFault) ⊎ (f.kind ≡ FloatFault) → (m : ℕ) → is_observed k f.phase m ≡ true → IsPlain k.circuit m → rank m < rank f.at → Calm m
  calm_below own m o p less = (λ always. none_below own FightFault m 0 refl less (p, always), λ always. none_below own FloatFault m 1 refl less (o, always))

  -- nothing fights or floats at all, where the fault is one of the kept circuit
  none_solved : (f.kind ≡ FightKept) ⊎ (f.kind ≡ Unsettled) → (kind : FaultKind) (m d : ℕ) → standing k f.phase rank least kind m ≡ solved_place rank least m d → is_kept_kind kind ≡ false
      → ¬ Stands k f.phase (setting_of k f.phase f.bits) a g kind m
  none_solved own kind m d e bare_kind stands =
      elim (no_later kind m stands) [
        | inl before ↦
            let at = (kept_at own).1 in
            false≢true
            (subst (λ (xs : List ℕ). comes_before xs (solved_place rank least m d) ≡ true) at.1
            (subst (λ (ys : List ℕ). comes_before (standing k f.phase rank least f.kind f.at) ys ≡ true) e before))
        | inr same ↦ false≢true (sym bare_kind ∙ ap is_kept_kind (sym same.0) ∙ (kept_at own).0)
      ]

  calm_all : (f.kind ≡ FightKept) ⊎ (f.kind ≡ Unsettled) → (m : ℕ) → is_observed k f.phase m ≡ true → IsPlain k.circuit m → Calm m
  calm_all own m o p = (λ always. none_solved own FightFault m 0 refl refl (p, always), λ always. none_solved own FloatFault m 1 refl refl (o, always))

  -- ---- what is shown

  plain_within : (n : ℕ) → IsPlain k.circuit n → n < length k.circuit.nets
  plain_within n p = slice_get_within k.circuit.nets n p.0 p.1

  fight_shown : f.kind ≡ FightFault → Stands k f.phase (setting_of k f.phase f.bits) a g FightFault f.at → At bare f.at Fight
  fight_shown e stands =
      bare_shows k.circuit (phase_at k.rules f.phase) flat (is_observed k f.phase) gates (setting_of k f.phase f.bits) a solves bare kept values f.at FightThere (plain_within f.at stands.0)
      (gates_same k.circuit (phase_at k.rules f.phase) flat (is_observed k f.phase) gates (setting_of k f.phase f.bits) a solves bare kept values rank order.ranking.above f.at (calm_below (inl e)))
      stands.1

  float_shown : f.kind ≡ FloatFault → Stands k f.phase (setting_of k f.phase f.bits) a g FloatFault f.at → At bare f.at Float
  float_shown e stands =
      bare_shows k.circuit (phase_at k.rules f.phase) flat (is_observed k f.phase) gates (setting_of k f.phase f.bits) a solves bare kept values f.at FloatThere (within f.at stands.0)
      (gates_same k.circuit (phase_at k.rules f.phase) flat (is_observed k f.phase) gates (setting_of k f.phase f.bits) a solves bare kept values rank order.ranking.above f.at (calm_below (inr e)))
      stands.1

  kept_fight_shown : f.kind ≡ FightKept → Stands k f.phase (setting_of k f.phase f.bits) a g FightKept f.at → At kept f.at Fight
  kept_fight_shown e stands =
      kept_shows k.circuit (phase_at k.rules f.phase) flat (is_observed k f.phase) gates (setting_of k f.phase f.bits) a solves bare kept values f.at FightThere (plain_within f.at stands.0)
      (kept_gates k.circuit (phase_at k.rules f.phase) flat (is_observed k f.phase) gates (setting_of k f.phase f.bits) a solves bare kept values rank order.ranking.above (calm_all (inl e)) f.at)
      stands.1

  unsettled_shown : f.kind ≡ Unsettled → Stands k f.phase (setting_of k f.phase f.bits) a g Unsettled f.at → LosesBit bare kept f.at
  unsettled_shown e stands =
      let lt = within f.at stands.0 in
      let bit = all_same k.circuit (phase_at k.rules f.phase) flat (is_observed k f.phase) gates (setting_of k f.phase f.bits) a solves bare kept values rank order.ranking.above (calm_all (inr e)) f.at stands.0 lt in
      let some = kept_some k.circuit (phase_at k.rules f.phase) flat (is_observed k f.phase) gates (setting_of k f.phase f.bits) a solves bare kept values f.at lt
      (kept_gates k.circuit (phase_at k.rules f.phase) flat (is_observed k f.phase) gates (setting_of k f.phase f.bits) a solves bare kept values rank order.ranking.above (calm_all (inr e)) f.at) in
      let there = some.2 in (
        bit.0,
        seen_of some.0,
        bit_there bare f.at bit.0 bit.2,
        some.1,
        λ same. stands.1 there.0 there.1 there.2 bit.0 bit.1 (subst (λ (r : Response). IsResponse (network_of k.circuit false (setting_of k f.phase f.bits).held there.0) f.at r) (shows_of some.0 bit.0 same) there.3),
        never_blocked some.0,
      )

  shown : (kind : FaultKind) → f.kind ≡ kind → Stands k f.phase (setting_of k f.phase f.bits) a g kind f.at → ShowsFault bare kept kind f.at
  shown FightFault e stands = fight_shown e stands
  shown FloatFault e stands = float_shown e stands
  shown FightKept e stands = kept_fight_shown e stands
  shown Unsettled e stands = unsettled_shown e stands
  shown Constraint e stands = tt
  shown Differs e stands = tt
  shown Next e stands = tt
  shown Apart e stands = tt
  shown Enter e stands = tt

pub first_fault_is_shown : (k : Comparison) (f : Finding) → IsFlat k.circuit → AreNetsObserved k f.phase → IsFirstInPhase k f → IsFirstFaultShown k f
first_fault_is_shown k f flat within is setting bare kept same values =
    let finding = is.found in
    let stands = finding.stands in
    let first = is.first in
    shown k f flat within finding first.0 first.1 first.2 first.3 stands.0 stands.1 stands.2 stands.3 bare kept
    (values_move k.circuit (phase_at k.rules f.phase) setting (setting_of k f.phase f.bits) same bare kept values) f.kind refl stands.4
