-- The spans of a step: what settling asks of them, and what it leaves as it was.
use Rattle.std.proofs.Common.{◌≡◌, ℕ, ◌+◌, ◌<◌, ◌≤◌, List, length, arith, ap, ◌∙◌, inl, inr}
use Rattle.std.specs.Prelude.{flat_map, map}
use Rattle.node_pool.specs.declared.region.Span.{Span}
use Rattle.bdd_core.proofs.Frames.{beside_of, filled_beside, shows_beside}
use Rattle.bdd_core.specs.Diagram.{meaning}
use Rattle.bdd_core.specs.Store.{Adds, Diagrams, IsSpan}
use Rattle.bdd_core.specs.Words.{IsApart, IsFilled, Writes, word_at}
use Rattle.circuit_faults.specs.KeptResults.{HasKeptSpans}
use Rattle.circuit_faults.specs.Results.{HasCircuitSpans}
use Rattle.circuit_faults.specs.declared.spans.KeptSpans.{KeptSpans}
use Rattle.domino_order.specs.StepWords.{HasStepHandles, HasStepWords, IsRising, StaysFilled, of_rising, settle_spans}
use Rattle.domino_order.specs.declared.step.Rising.{Rising}
use Rattle.domino_order.specs.declared.step.StepWords.{StepWords}
use Rattle.path_fixpoint.specs.Parts.{pins_of}
use Rattle.phase_laws.proofs.Work.{bare_room, kept_room}
use Rattle.setting_faults.specs.Settling.{WritesSettled}
use Rattle.vrt_model.specs.Circuits.{IsFlat}
use Rattle.vrt_model.specs.State.{OutputPin}
use Rattle.vrt_model.specs.declared.circuit.Circuit.{Circuit}
use Rattle.vrt_model.specs.declared.whole.Whole.{Whole}
use Rattle.std.proofs.Math.Nat.{mul-le-mul_left}
use Rattle.path_fixpoint.specs.Strengths.{net_words}
use Rattle.vrt_model.specs.Levels.{source_level}
use Rattle.vrt_model.specs.declared.whole.WholePin.{WholePin}

-- a flat circuit has no output of a whole instance
pub flat_pins : (c : Circuit) → IsFlat c → length (pins_of c) ≡ 0
flat_pins c flat =
    ap (λ (ws : List Whole). length (map (λ (out : OutputPin). out.pin) (flat_map (λ (w : Whole). map (λ (p : WholePin). let pin : OutputPin = record { whole = w; pin = p } in pin) w.outputs) ws))) flat.wholes

-- ---- the spans

module _ (circuit : Circuit) (w : StepWords) (d : Diagrams) (h : HasStepWords circuit w d) where
  pub given_span : IsSpan d w.given
  given_span =
      (h.first, omega (arith, h.rose_behind, h.zeros_behind, h.ones_behind, h.out_behind, h.setting_behind, h.together_behind, h.last))

  rose_start : d.own ≤ w.rose.start
  rose_start = omega (arith, h.first, h.rose_behind)

  pub rose_span : IsSpan d w.rose
  rose_span = (rose_start, omega (arith, h.zeros_behind, h.ones_behind, h.out_behind, h.setting_behind, h.together_behind, h.last))

  zeros_start : d.own ≤ w.zeros.start
  zeros_start = omega (arith, rose_start, h.zeros_behind)

  zeros_span : IsSpan d w.zeros
  zeros_span = (zeros_start, omega (arith, h.ones_behind, h.out_behind, h.setting_behind, h.together_behind, h.last))

  ones_start : d.own ≤ w.ones.start
  ones_start = omega (arith, zeros_start, h.ones_behind)

  ones_span : IsSpan d w.ones
  ones_span = (ones_start, omega (arith, h.out_behind, h.setting_behind, h.together_behind, h.last))

  out_start : d.own ≤ w.out.start
  out_start = omega (arith, ones_start, h.out_behind)

  out_span : IsSpan d w.out
  out_span = (out_start, omega (arith, h.setting_behind, h.together_behind, h.last))

  setting_start : d.own ≤ w.setting.start
  setting_start = omega (arith, out_start, h.setting_behind)

  pub setting_span : IsSpan d w.setting
  setting_span = (setting_start, omega (arith, h.together_behind, h.last))

  pub together_span : IsSpan d w.together
  together_span = (omega (arith, setting_start, h.together_behind), h.last)

  -- ---- which are apart

  pub given_setting : IsApart w.given w.setting
  given_setting = inl (omega (arith, h.rose_behind, h.zeros_behind, h.ones_behind, h.out_behind, h.setting_behind))

  given_rose : IsApart w.given w.rose
  given_rose = inl h.rose_behind

  given_zeros : IsApart w.given w.zeros
  given_zeros = inl (omega (arith, h.rose_behind, h.zeros_behind))

  given_ones : IsApart w.given w.ones
  given_ones = inl (omega (arith, h.rose_behind, h.zeros_behind, h.ones_behind))

  given_out : IsApart w.given w.out
  given_out = inl (omega (arith, h.rose_behind, h.zeros_behind, h.ones_behind, h.out_behind))

  given_together : IsApart w.given w.together
  given_together = inl (omega (arith, h.rose_behind, h.zeros_behind, h.ones_behind, h.out_behind, h.setting_behind, h.together_behind))

  rose_zeros : IsApart w.rose w.zeros
  rose_zeros = inl h.zeros_behind

  rose_ones : IsApart w.rose w.ones
  rose_ones = inl (omega (arith, h.zeros_behind, h.ones_behind))

  rose_out : IsApart w.rose w.out
  rose_out = inl (omega (arith, h.zeros_behind, h.ones_behind, h.out_behind))

  pub rose_setting : IsApart w.rose w.setting
  rose_setting = inl (omega (arith, h.zeros_behind, h.ones_behind, h.out_behind, h.setting_behind))

  rose_together : IsApart w.rose w.together
  rose_together = inl (omega (arith, h.zeros_behind, h.ones_behind, h.out_behind, h.setting_behind, h.together_behind))

  zeros_ones : IsApart w.zeros w.ones
  zeros_ones = inl h.ones_behind

  zeros_out : IsApart w.zeros w.out
  zeros_out = inl (omega (arith, h.ones_behind, h.out_behind))

  ones_out : IsApart w.ones w.out
  ones_out = inl h.out_behind

  setting_rose : IsApart w.setting w.rose
  setting_rose = inr (omega (arith, h.zeros_behind, h.ones_behind, h.out_behind, h.setting_behind))

  setting_zeros : IsApart w.setting w.zeros
  setting_zeros = inr (omega (arith, h.ones_behind, h.out_behind, h.setting_behind))

  setting_ones : IsApart w.setting w.ones
  setting_ones = inr (omega (arith, h.out_behind, h.setting_behind))

  setting_out : IsApart w.setting w.out
  setting_out = inr h.setting_behind

  setting_together : IsApart w.setting w.together
  setting_together = inl h.together_behind

  together_rose : IsApart w.together w.rose
  together_rose = inr (omega (arith, h.zeros_behind, h.ones_behind, h.out_behind, h.setting_behind, h.together_behind))

  together_zeros : IsApart w.together w.zeros
  together_zeros = inr (omega (arith, h.ones_behind, h.out_behind, h.setting_behind, h.together_behind))

  together_ones : IsApart w.together w.ones
  together_ones = inr (omega (arith, h.out_behind, h.setting_behind, h.together_behind))

  together_out : IsApart w.together w.out
  together_out = inr (omega (arith, h.setting_behind, h.together_behind))

  together_setting : IsApart w.together w.setting
  together_setting = inr h.together_behind

-- ---- what settling asks

module _ (s : Rising) (is : IsRising s) (w : StepWords) (d : Diagrams) (h : HasStepHandles (of_rising s).circuit w d) where
  abbrev c : Circuit
  c = (of_rising s).circuit

  abbrev nets : ℕ
  nets = length c.nets

  roots_fit : nets + length (pins_of c) ≤ w.setting.len
  roots_fit = (let none = flat_pins c is.flat in let len = h.words.setting_len in omega (arith, none, len))

  pub bare_rose : HasCircuitSpans c s.plan.now.parts.list w.setting w.rose w.out d
  bare_rose = record {
    roots_span = setting_span c w d h.words;
    roots_len = roots_fit;
    roots_live = h.setting;
    gates_span = rose_span c w d h.words;
    gates_len = h.words.rose_len;
    out_span = out_span c w d h.words;
    room = λ part m. (let few = mul-le-mul_left {m = length part.nets} {n = nets} (net_words (source_level c)) (bare_room (of_rising s) s.phase s.plan.now is.ready is.planned part m) in let len = h.words.out_len in omega (arith, few, len));
    roots_gates = setting_rose c w d h.words;
    roots_out = setting_out c w d h.words;
    gates_out = rose_out c w d h.words;
  }

  pub bare_together : HasCircuitSpans c s.plan.now.parts.list w.setting w.together w.out d
  bare_together = record {
    roots_span = setting_span c w d h.words;
    roots_len = roots_fit;
    roots_live = h.setting;
    gates_span = together_span c w d h.words;
    gates_len = h.words.together_len;
    out_span = out_span c w d h.words;
    room = λ part m. (let few = mul-le-mul_left {m = length part.nets} {n = nets} (net_words (source_level c)) (bare_room (of_rising s) s.phase s.plan.now is.ready is.planned part m) in let len = h.words.out_len in omega (arith, few, len));
    roots_gates = setting_together c w d h.words;
    roots_out = setting_out c w d h.words;
    gates_out = together_out c w d h.words;
  }

  pub kept_rose : HasKeptSpans c s.plan.now.kept.list (settle_spans w w.rose) d
  kept_rose = record {
    roots_span = setting_span c w d h.words;
    roots_len = roots_fit;
    roots_live = h.setting;
    gates_span = rose_span c w d h.words;
    gates_len = h.words.rose_len;
    gates_live = h.rose;
    zeros_span = zeros_span c w d h.words;
    zeros_len = h.words.zeros_len;
    ones_span = ones_span c w d h.words;
    ones_len = h.words.ones_len;
    out_span = out_span c w d h.words;
    room = λ part m. (let few = mul-le-mul_left {m = length part.nets} {n = nets} (net_words (source_level c)) (kept_room (of_rising s) s.phase s.plan.now is.ready is.planned part m) in let len = h.words.out_len in omega (arith, few, len));
    roots_zeros = setting_zeros c w d h.words;
    roots_ones = setting_ones c w d h.words;
    roots_out = setting_out c w d h.words;
    gates_zeros = rose_zeros c w d h.words;
    gates_ones = rose_ones c w d h.words;
    gates_out = rose_out c w d h.words;
    zeros_ones = zeros_ones c w d h.words;
    zeros_out = zeros_out c w d h.words;
    ones_out = ones_out c w d h.words;
  }

  pub kept_together : HasKeptSpans c s.plan.now.kept.list (settle_spans w w.together) d
  kept_together = record {
    roots_span = setting_span c w d h.words;
    roots_len = roots_fit;
    roots_live = h.setting;
    gates_span = together_span c w d h.words;
    gates_len = h.words.together_len;
    gates_live = h.together;
    zeros_span = zeros_span c w d h.words;
    zeros_len = h.words.zeros_len;
    ones_span = ones_span c w d h.words;
    ones_len = h.words.ones_len;
    out_span = out_span c w d h.words;
    room = λ part m. (let few = mul-le-mul_left {m = length part.nets} {n = nets} (net_words (source_level c)) (kept_room (of_rising s) s.phase s.plan.now is.ready is.planned part m) in let len = h.words.out_len in omega (arith, few, len));
    roots_zeros = setting_zeros c w d h.words;
    roots_ones = setting_ones c w d h.words;
    roots_out = setting_out c w d h.words;
    gates_zeros = together_zeros c w d h.words;
    gates_ones = together_ones c w d h.words;
    gates_out = together_out c w d h.words;
    zeros_ones = zeros_ones c w d h.words;
    zeros_out = zeros_out c w d h.words;
    ones_out = ones_out c w d h.words;
  }

-- ---- what stays

module _ (spans : KeptSpans) (span : Span) (old new : Diagrams) (w : WritesSettled spans old new) (gates : IsApart span spans.gates) (zeros : IsApart span spans.zeros)
    (ones : IsApart span spans.ones) (out : IsApart span spans.out) (filled : IsFilled old span) where
  word_stays : (n : ℕ) → n < span.len → word_at new span n ≡ word_at old span n
  word_stays n lt =
      w.others (span.start + n) (beside_of span spans.gates n gates lt) (beside_of span spans.zeros n zeros lt) (beside_of span spans.ones n ones lt) (beside_of span spans.out n out lt)

  settled_stays : StaysFilled span old new
  settled_stays = record {
    live = λ n lt. (let same = word_stays n lt in let live = filled n lt in omega (arith, same, live, w.adds.longer));
    shown = λ n v lt. ap (λ (h : ℕ). meaning new.nodes h v) (word_stays n lt) ∙ w.adds.kept (word_at old span n) (filled n lt) v;
  }

written_stays : (out span : Span) (old new : Diagrams) → Writes out old new → IsApart span out → IsFilled old span → StaysFilled span old new
written_stays out span old new w apart filled = record {
  live = filled_beside out span old new w apart filled;
  shown = λ n v lt. shows_beside out span old new n v w apart filled lt;
}

-- the words are there as long as none comes or goes
pub words_there : (circuit : Circuit) (w : StepWords) (old new : Diagrams) → Adds old new new.words → length new.words ≡ length old.words → HasStepWords circuit w old → HasStepWords circuit w new
words_there circuit w old new adds len h = record {
  first = (let own : new.own ≡ old.own = ap (λ (d : Diagrams). d.own) adds.rest in let first = h.first in omega (arith, own, first));
  rose_behind = h.rose_behind;
  zeros_behind = h.zeros_behind;
  ones_behind = h.ones_behind;
  out_behind = h.out_behind;
  setting_behind = h.setting_behind;
  together_behind = h.together_behind;
  last = (let last = h.last in omega (arith, last, len));
  given_len = h.given_len;
  rose_len = h.rose_len;
  zeros_len = h.zeros_len;
  ones_len = h.ones_len;
  out_len = h.out_len;
  setting_len = h.setting_len;
  together_len = h.together_len;
}

module _ (circuit : Circuit) (w : StepWords) (old new : Diagrams) (h : HasStepHandles circuit w old) where
  -- settling into the bits where the net rose
  module _ (writes : WritesSettled (settle_spans w w.rose) old new) where
    pub setting_by_rose : StaysFilled w.setting old new
    setting_by_rose =
        settled_stays (settle_spans w w.rose) w.setting old new writes (setting_rose circuit w old h.words) (setting_zeros circuit w old h.words) (setting_ones circuit w old h.words)
        (setting_out circuit w old h.words) h.setting

    pub together_by_rose : StaysFilled w.together old new
    together_by_rose =
        settled_stays (settle_spans w w.rose) w.together old new writes (together_rose circuit w old h.words) (together_zeros circuit w old h.words) (together_ones circuit w old h.words)
        (together_out circuit w old h.words) h.together

    given_by_rose : StaysFilled w.given old new
    given_by_rose =
        settled_stays (settle_spans w w.rose) w.given old new writes (given_rose circuit w old h.words) (given_zeros circuit w old h.words) (given_ones circuit w old h.words)
        (given_out circuit w old h.words) h.given

    pub handles_by_rose : IsFilled new w.rose → HasStepHandles circuit w new
    handles_by_rose live = record {
      words = words_there circuit w old new writes.adds writes.len h.words;
      given = given_by_rose.live;
      setting = setting_by_rose.live;
      rose = live;
      together = together_by_rose.live;
    }

  -- and into those with all risen at once
  module _ (writes : WritesSettled (settle_spans w w.together) old new) where
    pub rose_by_together : StaysFilled w.rose old new
    rose_by_together =
        settled_stays (settle_spans w w.together) w.rose old new writes (rose_together circuit w old h.words) (rose_zeros circuit w old h.words) (rose_ones circuit w old h.words)
        (rose_out circuit w old h.words) h.rose

    pub setting_by_together : StaysFilled w.setting old new
    setting_by_together =
        settled_stays (settle_spans w w.together) w.setting old new writes (setting_together circuit w old h.words) (setting_zeros circuit w old h.words) (setting_ones circuit w old h.words)
        (setting_out circuit w old h.words) h.setting

    given_by_together : StaysFilled w.given old new
    given_by_together =
        settled_stays (settle_spans w w.together) w.given old new writes (given_together circuit w old h.words) (given_zeros circuit w old h.words) (given_ones circuit w old h.words)
        (given_out circuit w old h.words) h.given

    pub handles_by_together : IsFilled new w.together → HasStepHandles circuit w new
    handles_by_together live = record {
      words = words_there circuit w old new writes.adds writes.len h.words;
      given = given_by_together.live;
      setting = setting_by_together.live;
      rose = rose_by_together.live;
      together = live;
    }

  -- writing roots
  module _ (writes : Writes w.setting old new) where
    pub rose_by_setting : StaysFilled w.rose old new
    rose_by_setting = written_stays w.setting w.rose old new writes (rose_setting circuit w old h.words) h.rose

    pub together_by_setting : StaysFilled w.together old new
    together_by_setting = written_stays w.setting w.together old new writes (together_setting circuit w old h.words) h.together

    pub given_by_setting : StaysFilled w.given old new
    given_by_setting = written_stays w.setting w.given old new writes (given_setting circuit w old h.words) h.given

    pub handles_by_setting : HasStepHandles circuit w new
    handles_by_setting = record {
      words = words_there circuit w old new writes.adds writes.len h.words;
      given = given_by_setting.live;
      setting = writes.live;
      rose = rose_by_setting.live;
      together = together_by_setting.live;
    }
