-- What was found of a whole instance when its model was evaluated, as other words are written.
use Rattle.std.proofs.Common.{◌≡◌, ℕ, ◌+◌, ◌<◌, ◌≤◌, Bool, true, Option, None, Some, length, arith, ap, subst, sym, ◌∙◌, inl, inr}
use Rattle.std.specs.Prelude.{slice_index}
use Rattle.std.proofs.lemmas.Bool.{eqb-true, false≢true}
use Rattle.node_pool.specs.declared.region.Span.{Span}
use Rattle.bdd_core.specs.Diagram.{IsSame, IsWithin, Valuation, meaning}
use Rattle.bdd_core.specs.Store.{Diagrams}
use Rattle.bdd_core.specs.Words.{IsApart, IsFilled, shows, word_at}
use Rattle.bdd_ops.proofs.WithinLaws.{within_same}
use Rattle.bdd_ops.specs.Counting.{IsSpanWithin}
use Rattle.vrt_model.proofs.Members.{among_map}
use Rattle.vrt_model.specs.Assignment.{Tied}
use Rattle.vrt_model.specs.Lists.{Among}
use Rattle.vrt_model.specs.State.{ModelGives, OutputPin}
use Rattle.vrt_model.specs.declared.circuit.Circuit.{Circuit}
use Rattle.vrt_model.specs.declared.flat_model.FlatModel.{FlatModel}
use Rattle.vrt_model.specs.declared.rules.Phase.{Phase}
use Rattle.vrt_model.specs.declared.whole.Whole.{Whole}
use Rattle.vrt_model.specs.declared.whole.WholePin.{WholePin}
use Rattle.whole_steps.specs.Evaluations.{HasEvaluated, IsEvaluatedIn, is_evaluated}
use Rattle.whole_steps.specs.Words.{found_words, model_span, model_words}

pub apart_turned : (a b : Span) → IsApart a b → IsApart b a
apart_turned a b (inl low) = inr low
apart_turned a b (inr high) = inl high

-- a model gives its output the same where the nets at its inputs have the same bits
pub same_reading : (phase : Phase) (o : OutputPin) (r q : ℕ → Bool) (u : Bool) → ((input : WholePin) → Among o.whole.inputs input → r input.net.0 ≡ q input.net.0) → ModelGives phase o r u → ModelGives phase o q u
same_reading phase o r q u same g = (
  g.0,
  record {
    clocks = g.1.clocks;
    inputs = λ t m.
        let from = among_map (λ (p : WholePin). let tied : Tied = record { net = p.net.0; signal = p.signal } in tied) o.whole.inputs t m in
        g.1.inputs t m ∙ subst (λ (x : Tied). r x.net ≡ q x.net) from.2 (same from.0 from.1);
    obeys = g.1.obeys;
  },
  g.2,
)

-- the word of a signal is one of those of the model
pub found_word : (flat : FlatModel) (out : Span) (d : Diagrams) (s : ℕ) → word_at d (found_words flat out) s ≡ word_at d (model_span flat out) (length flat.signals + 1 + s)
found_word flat out d s =
    let place : out.start + (length flat.signals + 1) + s ≡ out.start + (length flat.signals + 1 + s) = omega arith in
    ap (λ (j : ℕ). slice_index d.words j) place

-- ---- the words of the nets stay

module _ (phase : Phase) (w : Whole) (gates out : Span) (old new : Diagrams) (nets : (p : WholePin) → Among w.inputs p → p.net.0 < gates.len) (live : IsFilled old gates)
    (same : (n : ℕ) → n < gates.len → word_at new gates n ≡ word_at old gates n) (kept : (h : ℕ) → h < length old.nodes → IsSame (meaning new.nodes h) (meaning old.nodes h)) where
  gate_same : (n : ℕ) (v : Valuation) → n < gates.len → shows new gates n v ≡ shows old gates n v
  gate_same n v lt = ap (λ (h : ℕ). meaning new.nodes h v) (same n lt) ∙ kept (word_at old gates n) (live n lt) v

  -- so the model is given the same bits
  pub given_now : (pin : WholePin) (v : Valuation) (b : Bool) → ModelGives phase (record { whole = w; pin = pin }) (λ n. shows old gates n v) b → ModelGives phase (record { whole = w; pin = pin }) (λ n. shows new gates n v) b
  given_now pin v b = same_reading phase (record { whole = w; pin = pin }) (λ n. shows old gates n v) (λ n. shows new gates n v) b (λ input m. sym (gate_same input.net.0 v (nets input m)))

  pub given_before : (pin : WholePin) (v : Valuation) (b : Bool) → ModelGives phase (record { whole = w; pin = pin }) (λ n. shows new gates n v) b → ModelGives phase (record { whole = w; pin = pin }) (λ n. shows old gates n v) b
  given_before pin v b = same_reading phase (record { whole = w; pin = pin }) (λ n. shows new gates n v) (λ n. shows old gates n v) b (λ input m. gate_same input.net.0 v (nets input m))

  -- and they read the same variables
  pub gates_before : (u : ℕ) → IsSpanWithin u new gates → IsSpanWithin u old gates
  gates_before u reads k lt = within_same u (meaning new.nodes (word_at new gates k)) (meaning old.nodes (word_at old gates k)) (λ v. sym (gate_same k v lt)) (reads k lt)

  -- where those of the model stay too, what was found stays
  module _ (words : (k : ℕ) → k < model_words w.model → word_at new (model_span w.model out) k ≡ word_at old (model_span w.model out) k) (longer : length old.nodes ≤ length new.nodes)
      (is : IsEvaluatedIn phase w gates out old) where
    signal_same : (s : ℕ) (v : Valuation) → s < length w.model.signals → shows new (found_words w.model out) s v ≡ shows old (found_words w.model out) s v
    signal_same s v lt =
        let k : ℕ = length w.model.signals + 1 + s in
        let within : k < model_words w.model = omega (arith, lt) in
        let word : word_at new (found_words w.model out) s ≡ word_at old (model_span w.model out) k = found_word w.model out new s ∙ words k within in
        ap (λ (h : ℕ). meaning new.nodes h v) word ∙ kept (word_at old (model_span w.model out) k) (is.live k within) v ∙ ap (λ (h : ℕ). meaning old.nodes h v) (sym (found_word w.model out old s))

    pub evaluated_stays : IsEvaluatedIn phase w gates out new
    evaluated_stays = record {
      live = λ k lt. (let there = is.live k lt in let word = words k lt in omega (arith, there, word, longer));
      gives = λ pin v lt.
          subst (ModelGives phase (record { whole = w; pin = pin }) (λ n. shows new gates n v)) (sym (signal_same pin.signal v lt))
          (given_now pin v (shows old (found_words w.model out) pin.signal v) (is.gives pin v lt));
      within = λ u reads s lt.
          within_same u (λ v. shows old (found_words w.model out) s v) (λ v. shows new (found_words w.model out) s v) (λ v. signal_same s v lt) (is.within u (gates_before u reads) s lt);
    }

-- ---- the instance that was evaluated last

pub evaluated_last : (c : Circuit) (phase : Phase) (last : Option ℕ) (number : ℕ) (gates out : Span) (d : Diagrams) → is_evaluated last number ≡ true → HasEvaluated c phase last gates out d
    → HasEvaluated c phase (Some number) gates out d
evaluated_last c phase None number gates out d e is = absurd (false≢true e)
evaluated_last c phase (Some k) number gates out d e is = subst (λ (n : ℕ). HasEvaluated c phase (Some n) gates out d) (eqb-true k number e) is
