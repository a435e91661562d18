-- The model of a phase: what its evaluation asks, and the bits that it leaves.
use Rattle.std.proofs.Common.{◌≡◌, ℕ, ◌+◌, ◌<◌, ◌≤◌, Bool, cond, List, Option, Some, None, length, arith, ap, subst, sym, ◌∙◌, inl, inr}
use Rattle.std.specs.Prelude.{not, unwrap_or}
use Rattle.std.proofs.lemmas.Bool.{cases_eq, cases_lt}
use Rattle.std.proofs.lemmas.Option.{none-some, slice_get_cases, slice_get_within}
use Rattle.bdd_core.specs.Diagram.{Valuation}
use Rattle.bdd_core.specs.Store.{Diagrams}
use Rattle.bdd_core.specs.Words.{IsFilled, shows, word_at}
use Rattle.bdd_core.specs.declared.handle.H.{H}
use Rattle.bdd_ops.specs.Ops.{bits_of}
use Rattle.blif_eval.proofs.LatchLaws.{last_below}
use Rattle.blif_eval.specs.Evaluated.{HasModelSpans, IsAssignedAt, IsEvaluated, IsPlannedFor}
use Rattle.blif_eval.specs.Plans.{entry_of}
use Rattle.phase_laws.proofs.OneModel.{to_assigned}
use Rattle.phase_check.proofs.Spans.{held_span, held_values, inputs_span, inputs_values, values_span}
use Rattle.phase_laws.specs.Models.{AreGiven, default_bit}
use Rattle.phase_check.specs.States.{HasModelBits}
use Rattle.phase_terms.specs.Opened.{IsOpen}
use Rattle.phase_terms.specs.Plans.{IsPhasePlan}
use Rattle.phase_terms.specs.Ready.{IsReady}
use Rattle.phase_terms.specs.Stores.{HasPhaseWords, counts_of}
use Rattle.phase_terms.specs.declared.plan.PhasePlan.{PhasePlan}
use Rattle.phase_terms.specs.declared.words.PhaseWords.{PhaseWords}
use Rattle.vrt_model.specs.Assignment.{Assignment, LatchHolds, Obeys, control_bit}
use Rattle.vrt_model.specs.Comparison.{Comparison}
use Rattle.vrt_model.specs.Elements.{element_names}
use Rattle.vrt_model.specs.Faults.{Assigns}
use Rattle.vrt_model.specs.Held.{setting_of}
use Rattle.vrt_model.specs.ModelArcs.{last_by}
use Rattle.vrt_model.specs.declared.blif.LatchKind.{LatchKind}
use Rattle.vrt_model.specs.declared.blif.LatchKind.TheVariants.{Re, Fe, Ah, Al}
use Rattle.vrt_model.specs.declared.flat_model.FlatModel.{FlatModel}

-- ---- the old bits of elements that are there alone count

held_more : (kind : LatchKind) (control input : Bool) (held kept next : ℕ → Bool) (first : ℕ) (output : Bool) → ((e : ℕ) → e ≤ last_by first kind → held e ≡ kept e)
    → LatchHolds kind control input held next first output → LatchHolds kind control input kept next first output
held_more Ah control input held kept next first output same h = (h.0 ∙ ap (λ (b : Bool). cond control input b) (same first (omega arith)), h.1)
held_more Al control input held kept next first output same h = (h.0 ∙ ap (λ (b : Bool). cond (not control) input b) (same first (omega arith)), h.1)
held_more Re control input held kept next first output same h = (
  h.0 ∙ ap (λ (b : Bool). cond (not control) input b) (same first (omega arith)),
  h.1 ∙ ap (λ (b : Bool). cond control (next first) b) (same (first + 1) (omega arith)),
  h.2,
)
held_more Fe control input held kept next first output same h = (
  h.0 ∙ ap (λ (b : Bool). cond control input b) (same first (omega arith)),
  h.1 ∙ ap (λ (b : Bool). cond (not control) (next first) b) (same (first + 1) (omega arith)),
  h.2,
)

obeys_held : (flat : FlatModel) (clock : Bool) (held kept : ℕ → Bool) (g : Assignment) → ((e : ℕ) → e < length (element_names flat) → held e ≡ kept e) → Obeys flat clock held g
    → Obeys flat clock kept g
obeys_held flat clock held kept g same o = record {
  covers = o.covers;
  latches = λ l m.
      held_more l.latch.kind (control_bit clock g l.latch) (g.signal l.latch.input) held kept g.next l.first (g.signal l.latch.output)
      (λ e le. same e (let last = last_below flat l m in omega (arith, le, last))) (o.latches l m);
}

-- ---- a known bit is that of a signal or of the default clock

none_past : (known : List (Option Bool)) (s : ℕ) (b : Bool) → length known ≤ s → entry_of known s ≡ Some b → ⊥
none_past known s b le e = elim (slice_get_cases known s).1 [
  | inl h ↦ (let within = slice_get_within known s h.0 h.2 in omega (arith, within, le))
  | inr h ↦ none-some b (sym (ap (λ (o : Option (Option Bool)). unwrap_or o None) h.1) ∙ e)
]

module _ (k : Comparison) (phase : ℕ) (plan : PhasePlan) (ready : IsReady k) (is : IsPhasePlan k phase plan) (care : H) (w : PhaseWords) (old : Diagrams) (o : IsOpen k phase care w old) where
  constant : (s : ℕ) (b : Bool) → entry_of is.known s ≡ Some b → word_at old w.inputs s ≡ cond b 1 0
  constant s b e = elim (cases_lt s (length k.model.signals)) [
    | inl lt ↦ o.model.known s b lt (sym (is.carried.signals s lt) ∙ e)
    | inr ge ↦ elim (cases_eq s (length k.model.signals)) [
      | inl same ↦
          subst (λ (n : ℕ). word_at old w.inputs n ≡ cond b 1 0) (sym same)
          (o.model.clock b (sym is.carried.clock ∙ subst (λ (n : ℕ). entry_of is.known n ≡ Some b) same e))
      | inr ne ↦ absurd (none_past is.known s b (let len = is.carried.len in omega (arith, len, ge, ne)) e)
    ]
  ]

  pub planned : IsPlannedFor k.model plan.model w.inputs old
  planned = (is.known, is.model, constant)

  pub model_there : HasPhaseWords (counts_of k old.vars) w old → HasModelSpans k.model w.inputs w.held w.values old
  model_there h = record {
    inputs_span = inputs_span (counts_of k old.vars) w old h;
    inputs_len = h.inputs_len;
    inputs_live = o.model.inputs_live;
    held_span = held_span (counts_of k old.vars) w old h;
    held_len = h.held_len;
    held_live = o.model.held_live;
    out_span = values_span (counts_of k old.vars) w old h;
    out_len = h.values_len;
    inputs_apart = inputs_values (counts_of k old.vars) w old h;
    held_apart = held_values (counts_of k old.vars) w old h;
  }

  -- ---- the bits

  abbrev given : List Bool → ℕ → Bool
  given bits s = shows old w.inputs s (bits_of bits)

  are_given : AreGiven k phase given
  are_given = record { clocked = λ bits c m. o.model.clocked (bits_of bits) c m; tied = λ bits t m. o.model.tied bits t m }

  assigned_here : (bits : List Bool) (g : Assignment) → Assigns k phase (setting_of k phase bits) g → IsAssignedAt old k.model w.inputs w.held (bits_of bits) g
  assigned_here bits g assigns =
      let by_setting = to_assigned k phase given ready are_given bits g assigns in
      let held : Obeys k.model (default_bit k phase) (λ e. shows old w.held e (bits_of bits)) g =
      obeys_held k.model (default_bit k phase) (setting_of k phase bits).elements (λ e. shows old w.held e (bits_of bits)) g (λ e lt. sym (o.model.elements bits e lt)) by_setting.obeys in
      record {
        interface = by_setting.interface;
        obeys = subst (λ (c : Bool). Obeys k.model c (λ e. shows old w.held e (bits_of bits)) g) (sym (o.model.default (bits_of bits))) held;
      }

  pub model_bits : (new : Diagrams) → IsFilled new w.values → ((v : Valuation) → IsEvaluated k.model w.inputs w.held w.values old new v) → HasModelBits k phase w new
  model_bits new live evaluated = record {
    live = live;
    bits = λ bits g assigns. (evaluated (bits_of bits)).only g (assigned_here bits g assigns);
  }
