-- The first fault of the checked circuit, where it is found while the nets are solved, is one of the flat circuit.
use Rattle.std.proofs.Common.{◌≡◌, ℕ, ◌<◌, Bool, List, [], length, Option, refl, ap, sym, subst, inl, inr}
use Rattle.cell_inside.specs.Regions.{ArePinsPlain}
use Rattle.checked_chain.proofs.EndLaws.{chain_begins_flat}
use Rattle.checked_chain.proofs.FindingLaws.{descriptions_move}
use Rattle.checked_chain.proofs.InstanceLaws.{instances_are_shown}
use Rattle.checked_chain.proofs.SettingLaws.{constraints_are_same, settings_are_same}
use Rattle.checked_chain.specs.Holds.{IsOfChain}
use Rattle.firm_faults.proofs.FirstFirm.{first_fault_is_firm}
use Rattle.firm_faults.proofs.SettledLaws.{firm_ground_stands}
use Rattle.firm_faults.specs.FirmGround.{IsFoundByRank, IsOnFirmGround}
use Rattle.firm_faults.specs.StepDown.{IsSamePlaceIn}
use Rattle.replaced_cells.proofs.SolvedAlike.{no_pins}
use Rattle.replaced_cells.specs.Agreement.{IsAlwaysSolved}
use Rattle.substitution_laws.proofs.ChainLaws.{always_solved, at_last, is_itself, some_place}
use Rattle.substitution_laws.proofs.EndsLaws.{chosen_ends_are_shown}
use Rattle.substitution_laws.proofs.FirmDownLaws.{firm_ground_reaches_flat}
use Rattle.substitution_laws.proofs.OrderedLaws.{chain_circuits_are_ordered}
use Rattle.substitution_laws.specs.Agreement.{IsCheckedByFacts}
use Rattle.substitution_laws.specs.FirstFaults.{FirstFaultsStandBelow}
use Rattle.substitution_laws.specs.StepDowns.{whole_instances}
use Rattle.vrt_model.proofs.Lists.{one_at}
use Rattle.vrt_model.specs.Assignment.{Assignment}
use Rattle.vrt_model.specs.Checked.{IsCircuitWith, before, with_circuit}
use Rattle.vrt_model.specs.CheckedVerdicts.{IsSamePlace}
use Rattle.vrt_model.specs.Comparison.{Comparison}
use Rattle.vrt_model.specs.Cut.{Cut}
use Rattle.vrt_model.specs.Faults.{Assigns, IsPrintedWith}
use Rattle.vrt_model.specs.FlatCircuit.{flat_circuit_of}
use Rattle.vrt_model.specs.Held.{setting_of}
use Rattle.vrt_model.specs.Lists.{At}
use Rattle.vrt_model.specs.Networks.{HasRanges}
use Rattle.vrt_model.specs.Places.{Finding, IsFinding, IsFirstInPhase}
use Rattle.vrt_model.specs.Reading.{Partial}
use Rattle.vrt_model.specs.State.{Setting}
use Rattle.vrt_model.specs.Unrolled.{Top, all_places}
use Rattle.vrt_model.specs.Verdicts.{Describes}
use Rattle.vrt_model.specs.declared.blif.Blif.{Blif}
use Rattle.vrt_model.specs.declared.circuit.Circuit.{Circuit}
use Rattle.vrt_model.specs.declared.circuit.FlatInstance.{FlatInstance}
use Rattle.vrt_model.specs.declared.verdict.FaultAt.{FaultAt}
use Rattle.vrt_model.specs.declared.verdict.FaultKind.{FaultKind}
use Rattle.vrt_model.specs.declared.verdict.FaultKind.TheVariants.{Fight, FightKept, Float, Unsettled, Constraint, Differs, Next, Apart, Enter}
use Rattle.vrt_model.specs.declared.whole.CellFacts.{CellFacts}

-- a fault that is found by rank is printed without values, in each comparison
printed_bare : (k j : Comparison) (phase : ℕ) (one other : Setting) (a b : Partial) (g e : Assignment) (kind : FaultKind) (at there : ℕ) (circuit wanted : Option Bool) → IsFoundByRank kind
    → IsPrintedWith k phase one a g kind at circuit wanted → IsPrintedWith j phase other b e kind there circuit wanted
printed_bare k j phase one other a b g e Fight at there circuit wanted ok (inl (n, no_want, value)) = absurd no_want
printed_bare k j phase one other a b g e Fight at there circuit wanted ok (inr (none, c, w)) = inr ((λ n v want. want), c, w)
printed_bare k j phase one other a b g e Float at there circuit wanted ok (inl (n, no_want, value)) = absurd no_want
printed_bare k j phase one other a b g e Float at there circuit wanted ok (inr (none, c, w)) = inr ((λ n v want. want), c, w)
printed_bare k j phase one other a b g e Constraint at there circuit wanted ok (inl (n, no_want, value)) = absurd no_want
printed_bare k j phase one other a b g e Constraint at there circuit wanted ok (inr (none, c, w)) = inr ((λ n v want. want), c, w)
printed_bare k j phase one other a b g e FightKept at there circuit wanted ok h = absurd ok
printed_bare k j phase one other a b g e Unsettled at there circuit wanted ok h = absurd ok
printed_bare k j phase one other a b g e Differs at there circuit wanted ok h = absurd ok
printed_bare k j phase one other a b g e Next at there circuit wanted ok h = absurd ok
printed_bare k j phase one other a b g e Apart at there circuit wanted ok h = absurd ok
printed_bare k j phase one other a b g e Enter at there circuit wanted ok h = absurd ok

module _ (k : Comparison) (cut : Cut) (blif : Blif) (facts : List CellFacts) (c : Circuit) (h : IsCheckedByFacts k cut blif facts c) where
  abbrev t : Top
  t = cut.top

  chain : IsOfChain k blif facts cut c
  chain = record { top = h.top; flat = h.flat; groups = h.groups; circuit = h.circuit; ends = chosen_ends_are_shown cut blif facts h.choice }

  -- ---- places

  -- what is on firm ground at an instance is so at the place of this instance, also where the flat circuit has others like it
  at_instance : (phase : ℕ) (setting : Setting) (i j : ℕ) (y : FlatInstance) → At c.instances i y → At k.circuit.instances j y → IsOnFirmGround k [] phase setting Constraint j
      → (m : ℕ) × IsSamePlace cut Constraint m i × IsOnFirmGround k [] phase setting Constraint m
  unfolding flat_circuit_of
  at_instance phase setting i j y here there ground =
      let shown = instances_are_shown cut i y (subst (λ (xs : List FlatInstance). At xs i y) h.circuit.instances here) in
      let own : At k.circuit.instances shown.0 ground.firm.0 =
      subst (λ (z : FlatInstance). At k.circuit.instances shown.0 z) (one_at k.circuit.instances j y ground.firm.0 there ground.firm.1)
      (subst (λ (x : Circuit). At x.instances shown.0 y) (sym h.flat) shown.3) in (
        shown.0,
        (shown.1, shown.2),
        record { state = ground.state; is = ground.is; firm = (ground.firm.0, own, ground.firm.2, ground.firm.3) },
      )

  at_place : (phase : ℕ) (setting : Setting) (kind : FaultKind) (i j : ℕ) → IsFoundByRank kind → IsSamePlaceIn c k.circuit kind i j → IsOnFirmGround k [] phase setting kind j
      → (m : ℕ) × IsSamePlace cut kind m i × IsOnFirmGround k [] phase setting kind m
  at_place phase setting Fight i j ok is ground = (j, sym is, ground)
  at_place phase setting Float i j ok is ground = (j, sym is, ground)
  at_place phase setting Constraint i j ok is ground = at_instance phase setting i j is.0 is.1 is.2 ground
  at_place phase setting FightKept i j ok is ground = absurd ok
  at_place phase setting Unsettled i j ok is ground = absurd ok
  at_place phase setting Differs i j ok is ground = absurd ok
  at_place phase setting Next i j ok is ground = absurd ok
  at_place phase setting Apart i j ok is ground = absurd ok
  at_place phase setting Enter i j ok is ground = absurd ok

  -- ---- the flat circuit

  flat_ranges : HasRanges k.circuit
  flat_ranges = subst (λ (x : Circuit). HasRanges x) (sym h.flat) (record { devices = h.formed.devices; holds = h.formed.holds; wholes = h.formed.wholes })

  flat_pins : ArePinsPlain k.circuit
  unfolding flat_circuit_of
  flat_pins out on = absurd (no_pins k.circuit (ap (λ (x : Circuit). x.wholes) h.flat) on.0 out on.1)

  pub flat_solved : IsAlwaysSolved k
  flat_solved =
      subst (λ (x : Comparison). IsAlwaysSolved x) (sym (is_itself k cut blif facts c h k.circuit refl))
      (always_solved k cut blif facts c h 0 k.circuit ((chain_begins_flat cut blif facts k.circuit).1 h.flat) (some_place t))

  module _ (fault : FaultAt) (f : Finding) (ok : IsFoundByRank f.kind)
      (describes : Describes (with_circuit k c) fault f) (first : IsFirstInPhase (with_circuit k c) f) where
    abbrev found : IsFinding (with_circuit k c) f
    found = first.found

    abbrev setting : Setting
    setting = setting_of k f.phase f.bits

    same_setting : setting_of (with_circuit k c) f.phase f.bits ≡ setting
    same_setting = (settings_are_same k blif facts cut c chain f.phase f.bits).1

    lt : f.phase < length t.rules.phases
    lt = subst (λ (u : Top). f.phase < length u.rules.phases) (sym h.top) found.phase

    abbrev last : (n : ℕ) × (n < length (all_places cut.top)) × IsCircuitWith (before cut n) blif facts c
    last = at_last k cut blif facts c h

    firm : IsOnFirmGround (with_circuit k c) (whole_instances (before cut last.0)) f.phase setting f.kind f.at
    firm =
        let ordered = chain_circuits_are_ordered k cut blif facts c last.0 c f.phase (setting_of (with_circuit k c) f.phase f.bits) h last.2 lt in
        subst (λ (s : Setting). IsOnFirmGround (with_circuit k c) (whole_instances (before cut last.0)) f.phase s f.kind f.at) same_setting
        (first_fault_is_firm (with_circuit k c) (whole_instances (before cut last.0)) f ordered.0 ordered.1 first ok)

    down : (m : ℕ) × IsSamePlace cut f.kind m f.at × IsOnFirmGround k [] f.phase setting f.kind m
    down =
        let flat = firm_ground_reaches_flat k cut blif facts c last.0 c f.phase setting f.kind f.at h last.1 last.2 lt ok firm in
        at_place f.phase setting f.kind f.at flat.0 ok flat.1 flat.2

    abbrev flat : Finding
    flat = record { phase = f.phase; kind = f.kind; at = down.0; bits = f.bits }

    assigns : Assigns k f.phase setting found.stands.1
    assigns = subst (λ (s : Setting). Assigns k f.phase s found.stands.1) same_setting found.stands.3

    flat_found : IsFinding k flat
    flat_found =
        let one = flat_solved f.phase f.bits found.phase in
        record {
          phase = found.phase;
          meets = (constraints_are_same k blif facts cut c chain f.phase f.bits).0 found.meets;
          stands = (one.bits, found.stands.1, one.solves, assigns, firm_ground_stands k [] f.phase setting f.kind down.0 one.bits found.stands.1 flat_ranges flat_pins down.2 one.solves);
        }

    flat_described : Describes k fault flat
    flat_described =
        descriptions_move k blif facts cut c chain fault flat f (record { phase = refl; kind = refl; bits = refl; place = down.1 })
        (λ a g solves gives.
        printed_bare (with_circuit k c) k f.phase (setting_of (with_circuit k c) f.phase f.bits) setting found.stands.0 a found.stands.1 g f.kind f.at down.0 fault.circuit fault.wanted ok
        (describes.values found.stands.0 found.stands.1 found.stands.2 found.stands.3))
        describes

    pub stands_below : (flat : Finding) × Describes k fault flat × IsFinding k flat × IsSamePlace cut fault.kind flat.at f.at
    stands_below = (flat, flat_described, flat_found, subst (λ (kind : FaultKind). IsSamePlace cut kind down.0 f.at) (sym describes.kind) down.1)

pub first_faults_stand_below : FirstFaultsStandBelow
first_faults_stand_below k cut blif facts c fault f h ok describes first = stands_below k cut blif facts c h fault f ok describes first
