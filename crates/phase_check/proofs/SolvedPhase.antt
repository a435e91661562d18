-- A phase that was looked through and found clear so far is solved, and its care set has exactly the valuations that meet its constraints.
use Rattle.std.proofs.Common.{◌≡◌, ℕ, zero, suc, ◌<◌, ◌≤◌, Bool, true, List, [], ◌∷◌, Some, length, arith, ap, refl, sym, ◌∙◌}
use Rattle.std.proofs.lemmas.Option.{slice_get_within}
use Rattle.bdd_core.specs.Diagram.{IsReduced, Valuation}
use Rattle.bdd_core.specs.Store.{Diagrams, function_of}
use Rattle.bdd_core.specs.Words.{shows}
use Rattle.bdd_core.specs.declared.handle.H.{H}
use Rattle.bdd_ops.specs.Ops.{bits_of}
use Rattle.channel_parts.specs.declared.part.Part.{Part}
use Rattle.circuit_faults.specs.Faults.{IsSettingAt}
use Rattle.circuit_faults.specs.Results.{root_at}
use Rattle.drive_levels.specs.NetLevels.{IsSolvedPhase}
use Rattle.output_levels.specs.PartLevels.{HasLevelSpans}
use Rattle.phase_check.proofs.Spans.{gates_out, gates_span, out_span}
use Rattle.phase_check.specs.States.{HasNetBits}
use Rattle.phase_laws.proofs.Observed.{observed_nets}
use Rattle.phase_laws.proofs.Work.{filled_within, live_within}
use Rattle.phase_terms.specs.Opened.{IsOpen}
use Rattle.phase_terms.specs.Plans.{IsPhasePlan}
use Rattle.phase_terms.specs.Ready.{IsReady}
use Rattle.phase_terms.specs.Stores.{IsPhaseStore, counts_of}
use Rattle.phase_terms.specs.declared.plan.PhasePlan.{PhasePlan}
use Rattle.phase_terms.specs.declared.words.PhaseWords.{PhaseWords}
use Rattle.vrt_model.specs.Comparison.{Comparison, is_observed, phase_at}
use Rattle.vrt_model.specs.Constraints.{Meets}
use Rattle.vrt_model.specs.Held.{setting_of, sources_of}
use Rattle.vrt_model.specs.Lists.{Among}
use Rattle.std.proofs.Math.Nat.{mul-le-mul_left}
use Rattle.path_fixpoint.specs.Strengths.{net_words}
use Rattle.vrt_model.specs.Levels.{source_level}
use Rattle.vrt_model.specs.State.{Setting}

-- ---- the first bits

-- the bits of the first variables
abbrev first_bits : ℕ → Valuation → List Bool
first_bits zero v = []
first_bits (suc count) v = v 0 ∷ first_bits count (λ x. v (suc x))

-- the setting of a phase at a valuation of all variables of a store, of which the phase has the first
abbrev pub setting_in : Comparison → ℕ → Valuation → Setting
setting_in k phase v = setting_of k phase (first_bits (length (sources_of k phase)) v)

first_len : (count : ℕ) (v : Valuation) → length (first_bits count v) ≡ count
first_len zero v = refl
first_len (suc count) v = (let rest = first_len count (λ x. v (suc x)) in omega (arith, rest))

first_is : (count : ℕ) (v : Valuation) (y : ℕ) → y < count → v y ≡ bits_of (first_bits count v) y
first_is zero v y lt = absurd (omega (arith, lt))
first_is (suc count) v zero lt = refl
first_is (suc count) v (suc y) lt = first_is count (λ x. v (suc x)) y (omega (arith, lt))

first_of_bits : (bits : List Bool) → first_bits (length bits) (bits_of bits) ≡ bits
first_of_bits [] = refl
first_of_bits (bit ∷ bits) = ap (λ (rest : List Bool). bit ∷ rest) (first_of_bits bits)

-- ---- a phase

module _ (k : Comparison) (phase : ℕ) (budget operations : ℕ) (care : H) (w : PhaseWords) (d : Diagrams) (ready : IsReady k) (lt : phase < length k.rules.phases) (plan : PhasePlan)
    (is : IsPhasePlan k phase plan) (store : IsPhaseStore k phase budget operations w d) (opened : IsOpen k phase care w d) (sound : IsReduced d.vars d.nodes) (nets : HasNetBits k phase w d)
    (met : (bits : List Bool) × Meets k phase bits) where
  abbrev count : ℕ
  count = length (sources_of k phase)

  abbrev first : Valuation → List Bool
  first v = first_bits count v

  -- what a handle shows, it shows by the bits of the phase
  care_first : (v : Valuation) → function_of d care v ≡ function_of d care (bits_of (first v))
  care_first v = live_within budget count operations d care store.used sound opened.care_live v (bits_of (first v)) (λ y below. first_is count v y below)

  root_first : (v : Valuation) (n : ℕ) → n < length k.circuit.nets → root_at d w.roots v n ≡ root_at d w.roots (bits_of (first v)) n
  root_first v n inside =
      let len = store.words.roots_len in
      filled_within budget count operations d w.roots store.used sound opened.roots.live n (omega (arith, inside, len)) v (bits_of (first v)) (λ y below. first_is count v y below)

  gate_first : (v : Valuation) (n : ℕ) → n < length k.circuit.nets → shows d w.gates n v ≡ shows d w.gates n (bits_of (first v))
  gate_first v n inside =
      let len = store.words.gates_len in
      filled_within budget count operations d w.gates store.used sound nets.live n (omega (arith, inside, len)) v (bits_of (first v)) (λ y below. first_is count v y below)

  given_first : (v : Valuation) → IsSettingAt k.circuit (root_at d w.roots v) (setting_in k phase v)
  given_first v =
      let there = opened.roots.setting (first v) in
      record {
        inputs = λ n net at kind. there.inputs n net at kind ∙ sym (root_first v n (slice_get_within k.circuit.nets n net at));
        held = λ at hold e plain. there.held at hold e plain ∙ sym (root_first v hold.net.0 (slice_get_within k.circuit.nets hold.net.0 plain.0 plain.1));
      }

  -- where there is care the bits meet the constraints
  pub care_meets : (v : Valuation) → function_of d care v ≡ true → (bits : List Bool) × Meets k phase bits × (setting_in k phase v ≡ setting_of k phase bits)
  care_meets v here = (
    first v,
    record { valuation = first_len count v; constraints = sym (opened.care_is (first v)) ∙ sym (care_first v) ∙ here },
    refl,
  )

  -- and where bits meet them there is care
  pub meets_care : (bits : List Bool) → Meets k phase bits → (v : Valuation) × (function_of d care v ≡ true) × (setting_in k phase v ≡ setting_of k phase bits)
  meets_care bits meets = (
    bits_of bits,
    opened.care_is bits ∙ meets.constraints,
    ap (setting_of k phase) (ap (λ (u : ℕ). first_bits u (bits_of bits)) (sym meets.valuation) ∙ first_of_bits bits),
  )

  pub solved_phase : IsSolvedPhase k.circuit (phase_at k.rules phase) (is_observed k phase) (setting_in k phase) care w.roots w.gates d
  solved_phase = record {
    wholes = ready.wholes phase lt;
    seen = observed_nets k phase ready;
    fixed = opened.roots.fixed;
    given = given_first;
    once = is.parts.4;
    bits = λ v a here solves n seen.
        nets.bits (first v) a (sym (opened.care_is (first v)) ∙ sym (care_first v) ∙ here) solves n seen
        ∙ ap (λ (b : Bool). Some b) (sym (gate_first v n ((observed_nets k phase ready).0.nets n seen)));
    some = (let there = meets_care met.0 met.1 in (there.0, there.1));
  }

  -- the spans of the phase are those that levels are written with
  pub level_spans : (parts : List Part) → ((part : Part) → Among parts part → length part.nets ≤ length k.circuit.nets) → HasLevelSpans k.circuit parts w.gates w.out d
  level_spans parts small = record {
    gates_span = gates_span (counts_of k d.vars) w d store.words;
    gates_len = store.words.gates_len;
    gates_live = nets.live;
    out_span = out_span (counts_of k d.vars) w d store.words;
    room = λ part m. (let few = mul-le-mul_left {m = length part.nets} {n = length k.circuit.nets} (net_words (source_level k.circuit)) (small part m) in let len = store.words.out_len in omega (arith, few, len));
    apart = gates_out (counts_of k d.vars) w d store.words;
  }
