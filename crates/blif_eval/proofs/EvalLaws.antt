-- The signals and elements of a model evaluated one after the other: what was settled stays so, and in the end the bits
-- are those of the one assignment.
use Rattle.std.proofs.Common.{◌≡◌, ◌≢◌, ℕ, ◌+◌, ◌<◌, ◌≤◌, Bool, true, false, cond, List, Option, Some, None, length, arith, ap, ap₂, refl, sym, subst, ◌∙◌, inl, inr}
use Rattle.std.specs.Prelude.{option_map, slice_get, unwrap_or}
use Rattle.std.proofs.lemmas.Bool.{cases_eq}
use Rattle.std.proofs.lemmas.Option.{slice_get_within}
use Rattle.bdd_core.proofs.Meaning.{meaning_one, meaning_zero}
use Rattle.bdd_core.specs.Diagram.{IsWithin, Valuation, meaning}
use Rattle.bdd_core.specs.Store.{Diagrams}
use Rattle.bdd_core.specs.Words.{IsApart, IsFilled, Writes, shows, word_at}
use Rattle.bdd_ops.proofs.WithinLaws.{within_zero}
use Rattle.bdd_ops.specs.Counting.{IsSpanWithin}
use Rattle.blif_eval.proofs.Drivers.{input_below, interface_below}
use Rattle.blif_eval.proofs.FixedLaws.{IsLocal, fixed_next}
use Rattle.blif_eval.proofs.FoundDrivers.{driver_there}
use Rattle.bdd_core.proofs.Frames.{filled_beside, shows_beside, shows_kept, span_written, word_beside}
use Rattle.blif_eval.proofs.LatchLaws.{last_below, part_ranges}
use Rattle.blif_eval.proofs.LocalLaws.{value_local}
use Rattle.blif_eval.proofs.OneAssignment.{assigned, one_assignment}
use Rattle.blif_eval.specs.Drivers.{IsDriver, node_count}
use Rattle.blif_eval.specs.Evaluated.{AreSteps, HasModelSpans, IsAssignedAt, IsEvaluated, IsPlannedFor, assignment_at}
use Rattle.blif_eval.specs.Plans.{entry_of}
use Rattle.blif_eval.specs.Settled.{AreSettled, HasRange, HasStepSpans, TakesValue, control_value, control_word, driver_at, function_by, stored, value_at, value_by, bits_in}
use Rattle.blif_eval.specs.declared.driver_table.Driver.{Driver}
use Rattle.blif_eval.specs.declared.driver_table.Driver.TheVariants.{Given, Covered, Stored, Element}
use Rattle.blif_eval.specs.declared.driver_table.Storage.{Storage}
use Rattle.blif_eval.specs.declared.plan.ModelPlan.{ModelPlan}
use Rattle.node_pool.specs.declared.region.Span.{Span}
use Rattle.vrt_model.proofs.Assignments.{cover_same}
use Rattle.vrt_model.specs.Covers.{cover_bit}
use Rattle.vrt_model.specs.Elements.{element_names}
use Rattle.vrt_model.specs.FlatModels.{IsControl, IsFlatModel}
use Rattle.vrt_model.specs.Lists.{At, Among}
use Rattle.vrt_model.specs.declared.flat_model.Cover.{Cover}
use Rattle.vrt_model.specs.declared.flat_model.FlatModel.{FlatModel}

-- ---- ranges

-- the numbers of an element that is a driver
pub storage_range : (flat : FlatModel) → IsFlatModel flat → (n : ℕ) (s : Storage) → IsDriver flat n (Element s) → HasRange flat s
storage_range flat model n s is =
    let r = part_ranges flat model is.0 is.1 in
    record {
      element = let one = is.3.place in let two = r.number in let below = r.below in omega (arith, one, two, below);
      source = let same = is.3.source in let low = r.source in omega (arith, same, low);
      control = subst (IsControl (length flat.signals)) (sym is.3.control) r.control;
    }

pub stored_below : (flat : FlatModel) (n number : ℕ) → IsDriver flat n (Stored number) → number < node_count flat
stored_below flat n number is = let last = last_below flat is.0 is.1 in let at = is.3 in omega (arith, last, at)

pub control_wider : (signals len : ℕ) (control : Option ℕ) → signals ≤ len → IsControl signals control → IsControl len control
control_wider signals len None le range = tt
control_wider signals len (Some s) le range = omega (arith, le, range)

-- ---- the same bits from outside, the same values

pub inputs_value : (flat : FlatModel) → IsFlatModel flat → (n : ℕ) (d : Driver) → IsDriver flat n d → (bits : ℕ → Bool) (clock other : Bool) (held kept inputs given : ℕ → Bool)
    → clock ≡ other → ((e : ℕ) → e < length (element_names flat) → held e ≡ kept e) → ((s : ℕ) → s < length flat.signals → inputs s ≡ given s)
    → value_by flat d n bits clock held inputs ≡ value_by flat d n bits other kept given
inputs_value flat model n Given is bits clock other held kept inputs given same same_held same_inputs = same_inputs n (interface_below flat model n is)
inputs_value flat model n (Covered place) is bits clock other held kept inputs given same same_held same_inputs = refl
inputs_value flat model n (Stored number) is bits clock other held kept inputs given same same_held same_inputs = refl
inputs_value flat model n (Element s) is bits clock other held kept inputs given same same_held same_inputs =
    ap (λ (c : Bool). stored s.open_at (control_value bits c s.control) (bits s.source) (held s.element)) same
    ∙ ap (λ (h : Bool). stored s.open_at (control_value bits other s.control) (bits s.source) h) (same_held s.element (storage_range flat model n s is).element)

-- ---- spans

-- once the words in `out` are handles
pub spans_from : (flat : FlatModel) (inputs held out : Span) (old new : Diagrams) → HasModelSpans flat inputs held out old → Writes out old new → HasStepSpans flat inputs held out new
spans_from flat inputs held out old new spans w = record {
  inputs_span = span_written out inputs old new w spans.inputs_span;
  inputs_len = spans.inputs_len;
  inputs_live = filled_beside out inputs old new w spans.inputs_apart spans.inputs_live;
  held_span = span_written out held old new w spans.held_span;
  held_len = spans.held_len;
  held_live = filled_beside out held old new w spans.held_apart spans.held_live;
  out_span = span_written out out old new w spans.out_span;
  out_len = spans.out_len;
  out_live = w.live;
  inputs_apart = spans.inputs_apart;
  held_apart = spans.held_apart;
}

pub spans_kept : (flat : FlatModel) (inputs held out : Span) (old new : Diagrams) → HasStepSpans flat inputs held out old → Writes out old new → HasStepSpans flat inputs held out new
spans_kept flat inputs held out old new spans w = spans_from flat inputs held out old new (record {
  inputs_span = spans.inputs_span;
  inputs_len = spans.inputs_len;
  inputs_live = spans.inputs_live;
  held_span = spans.held_span;
  held_len = spans.held_len;
  held_live = spans.held_live;
  out_span = spans.out_span;
  out_len = spans.out_len;
  inputs_apart = spans.inputs_apart;
  held_apart = spans.held_apart;
}) w

-- handles beside read what they read
pub within_beside : (u : ℕ) (span out : Span) (old new : Diagrams) → Writes out old new → IsApart span out → IsFilled old span → IsSpanWithin u old span → IsSpanWithin u new span
within_beside u span out old new w apart live reads k lt v v' same =
    let kept : (x : Valuation) → shows new span k x ≡ shows old span k x = λ x. shows_beside out span old new k x w apart live lt in
    kept v ∙ (reads k lt v v' same ∙ sym (kept v'))

-- words that are the constant 0 read nothing
pub zeros_within : (u : ℕ) (d : Diagrams) (out : Span) → ((k : ℕ) → k < out.len → word_at d out k ≡ 0) → IsSpanWithin u d out
zeros_within u d out zeros k lt = subst (λ (h : ℕ). IsWithin u (meaning d.nodes h)) (sym (zeros k lt)) (within_zero u d)

-- the function of a number reads what the handles read
pub value_within : (u : ℕ) (flat : FlatModel) → IsFlatModel flat → (inputs held out : Span) (d : Diagrams) → HasStepSpans flat inputs held out d → IsSpanWithin u d inputs → IsSpanWithin u d held
    → IsSpanWithin u d out → (n : ℕ) (driver : Driver) → IsDriver flat n driver → IsWithin u (function_by d flat inputs held out n driver)
value_within u flat model inputs held out d spans reads reads' reads'' n Given is v v' same =
    reads n (let low = interface_below flat model n is in let len = spans.inputs_len in omega (arith, low, len)) v v' same
value_within u flat model inputs held out d spans reads reads' reads'' n (Covered place) is v v' same = by_get (slice_get flat.covers place) refl
  where
    inside : (c : Cover) (i : ℕ) → At flat.covers place c → Among c.inputs i → i < out.len
    inside c i at m = let low = input_below flat model c i (place, at) m in let len = spans.out_len in omega (arith, low, len)

    by_get : (o : Option Cover) → slice_get flat.covers place ≡ o → unwrap_or (option_map (cover_bit (bits_in d out v)) o) false ≡ unwrap_or (option_map (cover_bit (bits_in d out v')) o) false
    by_get None e = refl
    by_get (Some c) e = cover_same (bits_in d out v) (bits_in d out v') c (λ i m. reads'' i (inside c i e m) v v' same)
value_within u flat model inputs held out d spans reads reads' reads'' n (Stored number) is v v' same =
    reads'' number (let low = stored_below flat n number is in let len = spans.out_len in omega (arith, low, len)) v v' same
value_within u flat model inputs held out d spans reads reads' reads'' n (Element s) is v v' same =
    let r = storage_range flat model n s is in
    let source = reads'' s.source (let low = r.source in let len = spans.out_len in omega (arith, low, len)) v v' same in
    let kept = reads' s.element (let low = r.element in let len = spans.held_len in omega (arith, low, len)) v v' same in
    ap (λ (c : Bool). stored s.open_at c (shows d out s.source v) (shows d held s.element v)) (by_control s.control r.control)
    ∙ ap₂ (λ (x y : Bool). stored s.open_at (control_value (bits_in d out v') (shows d inputs (length flat.signals) v') s.control) x y) source kept
  where
    by_control : (control : Option ℕ) → IsControl (length flat.signals) control
        → control_value (bits_in d out v) (shows d inputs (length flat.signals) v) control ≡ control_value (bits_in d out v') (shows d inputs (length flat.signals) v') control
    by_control None range = reads (length flat.signals) (let len = spans.inputs_len in omega (arith, len)) v v' same
    by_control (Some c) range = reads'' c (let len = spans.out_len in omega (arith, range, len)) v v' same

pub control_within : (u : ℕ) (d : Diagrams) (signals : ℕ) (inputs out : Span) (control : Option ℕ) → signals < inputs.len → IsControl out.len control → IsSpanWithin u d inputs → IsSpanWithin u d out
    → IsWithin u (meaning d.nodes (control_word d signals inputs out control))
control_within u d signals inputs out None lt range reads reads' = reads signals lt
control_within u d signals inputs out (Some s) lt range reads reads' = reads' s range

-- ---- one number more

constant_bit : (d : Diagrams) (h : ℕ) (b : Bool) (v : Valuation) → h ≡ cond b 1 0 → meaning d.nodes h v ≡ b
constant_bit d h true v is = ap (λ (k : ℕ). meaning d.nodes k v) is ∙ meaning_one d.nodes v
constant_bit d h false v is = ap (λ (k : ℕ). meaning d.nodes k v) is ∙ meaning_zero d.nodes v

module _ (flat : FlatModel) (model : IsFlatModel flat) (drivers : List Driver) (steps : List ℕ) (inputs held out : Span) (first : Diagrams) (plan : AreSteps flat drivers steps inputs first)
    (len : inputs.len ≡ length flat.signals + 1) where
  pub step_below : (n : ℕ) → Among steps n → n < node_count flat
  step_below n m = plan.1.lists.below n m

  known_input : (v : Valuation) (s : ℕ) (b : Bool) → s < inputs.len → entry_of plan.0 s ≡ Some b → shows first inputs s v ≡ b
  known_input v s b lt e = constant_bit first (word_at first inputs s) b v (plan.2 s b lt e)

  pub local_at : (v : Valuation) → IsLocal steps (value_at first flat drivers inputs held v)
  local_at v =
      value_local flat model drivers plan.1.drivers plan.0 plan.1.outside steps step_below plan.1.behind (shows first inputs (length flat.signals) v) (λ e. shows first held e v)
      (λ s. shows first inputs s v) (λ s b lt e. known_input v s b (omega (arith, lt, len)) e) (λ b e. known_input v (length flat.signals) b (omega (arith, len)) e)

  driver_of : (n : ℕ) → n < node_count flat → IsDriver flat n (driver_at drivers n)
  driver_of n lt = plan.1.drivers.each n (driver_at drivers n) (driver_there flat model drivers plan.1.drivers n lt)

  -- the value is that by the inputs of before
  same_inputs : (old new : Diagrams) (v : Valuation) → HasStepSpans flat inputs held out old → Writes out old new → (bits : ℕ → Bool) (n : ℕ) → n < node_count flat
      → value_at new flat drivers inputs held v bits n ≡ value_at old flat drivers inputs held v bits n
  same_inputs old new v spans w bits n lt =
      inputs_value flat model n (driver_at drivers n) (driver_of n lt) bits (shows new inputs (length flat.signals) v) (shows old inputs (length flat.signals) v) (λ e. shows new held e v)
      (λ e. shows old held e v) (λ s. shows new inputs s v) (λ s. shows old inputs s v)
      (shows_beside out inputs old new (length flat.signals) v w spans.inputs_apart spans.inputs_live (omega (arith, len)))
      (λ e low. shows_beside out held old new e v w spans.held_apart spans.held_live (let l = spans.held_len in omega (arith, low, l)))
      (λ s low. shows_beside out inputs old new s v w spans.inputs_apart spans.inputs_live (omega (arith, low, len)))

  -- what is settled stays so, and the number is settled
  pub settled_next : (old new : Diagrams) (at t : ℕ) → HasStepSpans flat inputs held out first → HasStepSpans flat inputs held out old → Writes out first old → Writes out old new
      → ((k : ℕ) → k ≢ t → word_at new out k ≡ word_at old out k) → At steps at t → AreSettled flat drivers steps inputs held out first old at
      → TakesValue flat drivers inputs held out old new t → AreSettled flat drivers steps inputs held out first new (at + 1)
  settled_next old new at t spans now w w' others there settled takes v =
      fixed_next steps plan.1.lists.once (value_at first flat drivers inputs held v) (local_at v) (bits_in old out v) (bits_in new out v) at t there (settled v)
      (λ j n here ne. shows_kept out out old new n v w' (others n ne) (now.out_live n (let low = step_below n (j, here) in let l = now.out_len in omega (arith, low, l))))
      (takes v ∙ same_inputs first old v spans w (bits_in old out v) t (step_below t (at, there)))

  -- and what was read before is read after
  pub within_next : (u : ℕ) (old new : Diagrams) (at t : ℕ) → HasStepSpans flat inputs held out old → Writes out old new → ((k : ℕ) → k ≢ t → word_at new out k ≡ word_at old out k)
      → At steps at t → TakesValue flat drivers inputs held out old new t → IsSpanWithin u old inputs → IsSpanWithin u old held → IsSpanWithin u old out → IsSpanWithin u new out
  within_next u old new at t spans w others there takes reads reads' reads'' k lt = elim (cases_eq k t) [
    | inl e ↦ subst (λ (x : ℕ). IsWithin u (λ v. shows new out x v)) (sym e) written
    | inr ne ↦ λ v v' same.
        let kept : (x : Valuation) → shows new out k x ≡ shows old out k x = λ x. shows_kept out out old new k x w (others k ne) (spans.out_live k lt) in
        kept v ∙ (reads'' k lt v v' same ∙ sym (kept v'))
  ]
    where
      written : IsWithin u (λ v. shows new out t v)
      written v v' same =
          takes v
          ∙ (value_within u flat model inputs held out old spans reads reads' reads'' t (driver_at drivers t) (driver_of t (step_below t (at, there))) v v' same
          ∙ sym (takes v'))

-- ---- the whole model

-- a plan for the words before is one for the words after
pub steps_from : (flat : FlatModel) (plan : ModelPlan) (inputs held out : Span) (old mid : Diagrams) → IsPlannedFor flat plan inputs old → HasModelSpans flat inputs held out old → Writes out old mid
    → AreSteps flat plan.drivers plan.steps inputs mid
steps_from flat plan inputs held out old mid is spans w =
    (is.0, is.1, λ s b lt e. word_beside out inputs old mid s w spans.inputs_apart lt ∙ is.2 s b e)

module _ (flat : FlatModel) (model : IsFlatModel flat) (plan : ModelPlan) (inputs held out : Span) (old mid new : Diagrams) (is : IsPlannedFor flat plan inputs old)
    (spans : HasModelSpans flat inputs held out old) (w : Writes out old mid)
    (settled : AreSettled flat plan.drivers plan.steps inputs held out mid new (length plan.steps)) (v : Valuation) where
  known_before : (s : ℕ) (b : Bool) → entry_of is.0 s ≡ Some b → shows old inputs s v ≡ b
  known_before s b e = constant_bit old (word_at old inputs s) b v (is.2 s b e)

  values : (n : ℕ) → n < node_count flat → bits_in new out v n ≡ value_at old flat plan.drivers inputs held v (bits_in new out v) n
  values n lt =
      let p = is.1.lists.all n lt in
      let d : Driver = driver_at plan.drivers n in
      let driver = is.1.drivers.each n d (driver_there flat model plan.drivers is.1.drivers n lt) in
      settled v p.0 n (slice_get_within plan.steps p.0 n p.1) p.1
      ∙ inputs_value flat model n d driver (bits_in new out v) (shows mid inputs (length flat.signals) v) (shows old inputs (length flat.signals) v) (λ e. shows mid held e v)
      (λ e. shows old held e v) (λ s. shows mid inputs s v) (λ s. shows old inputs s v)
      (shows_beside out inputs old mid (length flat.signals) v w spans.inputs_apart spans.inputs_live (let len = spans.inputs_len in omega (arith, len)))
      (λ e low. shows_beside out held old mid e v w spans.held_apart spans.held_live (let l = spans.held_len in omega (arith, low, l)))
      (λ s low. shows_beside out inputs old mid s v w spans.inputs_apart spans.inputs_live (let len = spans.inputs_len in omega (arith, low, len)))

  is_assigned : IsAssignedAt old flat inputs held v (assignment_at new flat out v)
  is_assigned =
      assigned flat model plan.drivers is.1.drivers (shows old inputs (length flat.signals) v) (λ e. shows old held e v) (λ s. shows old inputs s v) (bits_in new out v) values

  pub evaluated : IsEvaluated flat inputs held out old new v
  evaluated = record {
    assigned = is_assigned;
    only = λ g is_one.
        (one_assignment flat model plan.drivers is.1.drivers (shows old inputs (length flat.signals) v) (λ e. shows old held e v) (λ s. shows old inputs s v) is.0 is.1.outside plan.steps is.1.lists
        is.1.behind (λ s b lt e. known_before s b e) (λ b e. known_before (length flat.signals) b e)).one g (assignment_at new flat out v) is_one is_assigned;
  }
