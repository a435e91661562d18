-- What is found of a whole instance when its model is evaluated: the bits of all its signals, which stand in words until another model is
-- evaluated there.
use Rattle.std.specs.Prelude.{ℕ, ◌*◌, ◌<◌, ◌==◌, Bool, false, Option, None, Some, cond, length}
use Rattle.node_pool.specs.declared.region.Span.{Span}
use Rattle.bdd_core.specs.Diagram.{IsWithin, Valuation}
use Rattle.bdd_core.specs.Store.{Diagrams}
use Rattle.bdd_core.specs.Words.{IsFilled, shows}
use Rattle.bdd_ops.specs.Counting.{IsSpanWithin}
use Rattle.vrt_model.specs.Budget.{model_size}
use Rattle.vrt_model.specs.Lists.{At}
use Rattle.vrt_model.specs.State.{ModelGives}
use Rattle.vrt_model.specs.declared.circuit.Circuit.{Circuit}
use Rattle.vrt_model.specs.declared.rules.Phase.{Phase}
use Rattle.vrt_model.specs.declared.whole.Whole.{Whole}
use Rattle.vrt_model.specs.declared.whole.WholePin.{WholePin}
use Rattle.whole_steps.specs.Words.{found_words, model_span}

-- Each signal of the instance's model has the bit that the model gives it in a phase, at the bits of the nets. Where these read only the
-- first u variables, so do those.
pub record IsEvaluatedIn (phase : Phase) (w : Whole) (gates out : Span) (d : Diagrams) : Type 0 where
  pub live : IsFilled d (model_span w.model out)
  pub gives :
      (pin : WholePin) (v : Valuation) → pin.signal < length w.model.signals
      → ModelGives phase (record { whole = w; pin = pin }) (λ n. shows d gates n v) (shows d (found_words w.model out) pin.signal v)
  pub within : (u : ℕ) → IsSpanWithin u d gates → (s : ℕ) → s < length w.model.signals → IsWithin u (λ v. shows d (found_words w.model out) s v)

-- so it is for the whole instance of a number, if there is one
abbrev pub HasEvaluated : Circuit → Phase → Option ℕ → Span → Span → Diagrams → Type 0
HasEvaluated c phase None gates out d = Unit {0}
HasEvaluated c phase (Some number) gates out d = (w : Whole) → At c.wholes number w → IsEvaluatedIn phase w gates out d

-- ---- operations

-- of an evaluation: two for each literal and row of the model
abbrev pub evaluation_operations : Whole → ℕ
evaluation_operations w = 2 * model_size w.model

-- the instance is the one whose model was evaluated last
abbrev pub is_evaluated : Option ℕ → ℕ → Bool
is_evaluated None number = false
is_evaluated (Some last) number = last == number

-- of an output: those of its instance's model, where that was not evaluated last
abbrev pub output_operations : Option ℕ → ℕ → Whole → ℕ
output_operations last number w = cond (is_evaluated last number) 0 (evaluation_operations w)
