-- Strengths that nets always have, where nothing is wrong with the instance whole.
use Rattle.std.proofs.Common.{◌≡◌, ℕ, Bool, true, subst, sym, refl, ◌∙◌, inl, inr}
use Rattle.std.proofs.lemmas.Option.{same_Some}
use Rattle.cell_inside.proofs.OutputPins.{pin_found}
use Rattle.channel_parts.specs.OneSolution.{AreDetermined, HasOneSolution}
use Rattle.replaced_cells.proofs.GoesDown.{bits_below}
use Rattle.replaced_cells.proofs.OwnBits.{HaveOwnBits, inside_strength, outside_strength, own_state}
use Rattle.replaced_cells.proofs.SameResponses.{driven_same}
use Rattle.replaced_cells.proofs.SolvedAlike.{own_bits}
use Rattle.replaced_cells.specs.Agreement.{HaveSameBits}
use Rattle.replaced_cells.specs.Levels.{HasLevelAt, LevelsComeFromCells, LevelsGoDown}
use Rattle.replaced_cells.specs.OneMoreWhole.{AreSolvedAlike, HasPhaseLevel, IsOneMoreWhole, all_bits}
use Rattle.vrt_model.proofs.Filtered.{device_among}
use Rattle.vrt_model.proofs.GatesGiven.{given_once}
use Rattle.vrt_model.proofs.SameNetwork.{IsPartOf, strength_same}
use Rattle.vrt_model.specs.Checked.{with_circuit}
use Rattle.vrt_model.specs.Comparison.{Comparison, is_observed, phase_at}
use Rattle.vrt_model.specs.Equal.{Agree}
use Rattle.vrt_model.specs.Known.{IsPlain}
use Rattle.vrt_model.specs.Reading.{conducts_at}
use Rattle.vrt_model.specs.Response.{IsStrength}
use Rattle.vrt_model.specs.State.{IsState, Setting, State, network_of}
use Rattle.vrt_model.specs.declared.circuit.Circuit.{Circuit}
use Rattle.whole_solutions.proofs.ObservedCases.{gate_observed}

-- ---- states with the same bits at observed nets

module _ (k : Comparison) (phase : ℕ) (setting : Setting) (determined : AreDetermined k.circuit (phase_at k.rules phase) (is_observed k phase)) where
  abbrev HaveSameObserved : State → State → Type 0
  HaveSameObserved s t = (n : ℕ) → is_observed k phase n ≡ true → s.reading n ≡ t.reading n

  part_of : (which : Bool) (s t : State) → IsState k.circuit (phase_at k.rules phase) setting.inputs s → IsState k.circuit (phase_at k.rules phase) setting.inputs t → HaveSameObserved s t
      → IsPartOf (network_of k.circuit which setting.held s) (network_of k.circuit which setting.held t)
  part_of which s t is it same = record {
    roots = λ root r. elim r [
      | inl g ↦ inl (g.0, g.1, g.2, g.3, g.4 ∙ given_once (phase_at k.rules phase) setting.inputs g.0.kind root.net (s.reading root.net) (t.reading root.net) g.2 (is.reading root.net g.0 g.1) (it.reading root.net g.0 g.1))
      | inr other ↦ elim other [
        | inl h ↦ inr (inl h)
        | inr o ↦
            let out = pin_found k.circuit o.0 o.1 o.2 in
            inr (inr (o.0, o.1, o.2, o.3, o.4, o.5 ∙ driven_same k.circuit (phase_at k.rules phase) (is_observed k phase) setting determined s t is it same o.0 out.0 out.1))
      ]
    ];
    devices = λ d on. (
      on.0,
      subst (λ (b : Bool). conducts_at d.kind b ≡ true) (same d.gate.0 (gate_observed k phase d.gate.0 (d, (device_among which k.circuit d on.0).0, refl))) on.1,
    );
  }

  -- nets have the same strengths
  pub observed_strength : (which : Bool) (s t : State) → IsState k.circuit (phase_at k.rules phase) setting.inputs s → IsState k.circuit (phase_at k.rules phase) setting.inputs t → HaveSameObserved s t
      → (n level : ℕ) → IsStrength (network_of k.circuit which setting.held s) n level → IsStrength (network_of k.circuit which setting.held t) n level
  observed_strength which s t is it same n level =
      strength_same (network_of k.circuit which setting.held s) (network_of k.circuit which setting.held t) (part_of which s t is it same) (part_of which t s it is (λ m o. sym (same m o))) n level

-- ---- both circuits

module _ (k q : Comparison) (phase : ℕ) (whole_circuit : Circuit) (at place fresh : ℕ → ℕ) (remaining compared exposed : ℕ → Bool) (drive : ℕ → ℕ) (setting : Setting) (n level : ℕ)
    (one : IsOneMoreWhole k q phase whole_circuit at place fresh remaining compared exposed drive)
    (only : HasOneSolution k.circuit (phase_at k.rules phase) (is_observed k phase) setting)
    (agree : Agree (with_circuit k whole_circuit) phase setting) where
  same : HaveSameBits k q phase whole_circuit at place fresh remaining setting
  same = bits_below k q phase whole_circuit at place fresh remaining compared exposed drive one setting agree

  abbrev s : State
  s = same.0

  abbrev r : State
  r = same.1

  abbrev alike : AreSolvedAlike k q phase whole_circuit at place fresh remaining setting same.0 same.1 same.2
  alike = same.3

  own : HaveOwnBits k q phase whole_circuit at place fresh remaining setting same.0 same.1 same.2
  own = record { state = alike.state; whole_state = alike.whole_state; same = alike.same; meets = alike.meets; reads = alike.reads; cell_solves = alike.cell_solves }

  -- what the strength is in the state of the circuit, it is in each that agrees with a solution
  spread : (m : ℕ) → ((which : Bool) → IsStrength (network_of k.circuit which setting.held s) m level) → HasLevelAt k phase setting m level
  spread m has a t which solves is agrees =
      observed_strength k phase setting one.determined which s t alike.state is
      (λ x o. sym (agrees x (s.reading x) o (sym (only.only a solves x o) ∙ only.only (all_bits s.reading) alike.solves x o))) m level (has which)

  go_down : compared n ≡ true → HasLevelAt (with_circuit k whole_circuit) phase setting n level → HasLevelAt k phase setting n level
  go_down c has =
      spread n
      (λ which.
      (outside_strength k q phase whole_circuit at place fresh remaining compared exposed drive one setting same.0 same.1 same.2 own which n level c).1
      (has (all_bits r.reading) r which alike.whole_solves alike.whole_state (λ m v o e. same_Some (r.reading m) v e)))

  come_from_cell : IsPlain q.circuit n → HasPhaseLevel q phase n level → HasLevelAt k phase setting (at n) level
  come_from_cell plain has =
      spread (at n)
      (λ which.
      inside_strength k q phase whole_circuit at place fresh remaining compared exposed drive one setting same.0 same.1 same.2 own which n level plain
      (has same.2 (all_bits (λ m. s.reading (at m))) (own_bits k q phase whole_circuit at place fresh remaining compared exposed drive one s) which alike.meets alike.cell_solves
      (own_state k q phase whole_circuit at place fresh remaining compared exposed drive one setting same.0 same.1 same.2 own) (λ m v o e. same_Some (s.reading (at m)) v e)))

pub levels_go_down : LevelsGoDown
levels_go_down k q phase whole_circuit at place fresh remaining compared exposed drive setting n level one only agree c has =
    go_down k q phase whole_circuit at place fresh remaining compared exposed drive setting n level one only agree c has

pub levels_come_from_cells : LevelsComeFromCells
levels_come_from_cells k q phase whole_circuit at place fresh remaining compared exposed drive setting n level one only agree plain has =
    come_from_cell k q phase whole_circuit at place fresh remaining compared exposed drive setting n level one only agree plain has
