-- What is written of a cell, or why it is not.
use Rattle.std.specs.Prelude.{◌≡◌, ℕ, ◌+◌, ◌*◌, ◌^◌, ◌<◌, ◌≤◌, List, None, Some, length, Result, Ok, Err}
use Rattle.cell_writer.specs.Refused.{MayBeWritten, first_clock, first_hold, first_refused}
use Rattle.cell_writer.specs.declared.refusal.WriteRefusal.{WriteRefusal}
use Rattle.cell_writer.specs.declared.refusal.WriteRefusal.TheVariants.{Hold, Clock, Name, Budget, Large, Long, NoMemory}
use Rattle.diagram_text.specs.Texts.{most_bytes}
use Rattle.model_writer.specs.Counts.{signal_count}
use Rattle.vrt_model.specs.Budget.{work_of}
use Rattle.vrt_model.specs.Comparison.{Comparison}
use Rattle.vrt_model.specs.Held.{sources_of}
use Rattle.vrt_model.specs.Limits.{most_signals}
use Rattle.vrt_model.specs.declared.blif.Blif.{Blif}
use Rattle.vrt_model.specs.declared.blif.BlifModel.{BlifModel}
use Rattle.written_logic.specs.Logics.{IsLogicOf}
use Rattle.written_models.specs.Written.{Logic, written_text}

-- More than four variables, and more nodes than the budget has may be needed: those of the work of each phase, and once more of one. A cell without
-- state has the same variables in each phase.
pub record MayPass (k : Comparison) (blif : Blif) (budget : ℕ) : Type 0 where
  pub many : 4 < length (sources_of k 0)
  pub passed : budget < 2 + 2 ^ length (sources_of k 0) * ((length k.rules.phases + 1) * work_of k blif)

-- what is written, with few signals and bytes
pub record IsText (k : Comparison) (b : BlifModel) (l : Logic) (text : List ℕ) : Type 0 where
  pub logic : IsLogicOf k b l
  pub signals : signal_count l ≤ most_signals
  pub bytes : length (written_text l) ≤ most_bytes
  pub is : text ≡ written_text l

-- the text; or a refusal, exactly by its cause and in this order; the budget only where it may be passed, and want of memory at any time
abbrev pub WriteGives : Comparison → Blif → BlifModel → ℕ → Result (List ℕ) WriteRefusal → Type 0
WriteGives k blif b budget (Ok text) = MayBeWritten k b × ((l : Logic) × IsText k b l text)
WriteGives k blif b budget (Err (Hold net)) = first_hold k.circuit ≡ Some net
WriteGives k blif b budget (Err (Clock port)) = (first_hold k.circuit ≡ None) × (first_clock k ≡ Some port)
WriteGives k blif b budget (Err (Name name)) = (first_hold k.circuit ≡ None) × (first_clock k ≡ None) × (first_refused b ≡ Some name)
WriteGives k blif b budget (Err (Budget nodes)) = MayBeWritten k b × (nodes ≡ budget) × MayPass k blif budget
WriteGives k blif b budget (Err (Large count)) = MayBeWritten k b × ((l : Logic) × IsLogicOf k b l × (count ≡ signal_count l) × (most_signals < count))
WriteGives k blif b budget (Err (Long bytes)) =
    MayBeWritten k b × ((l : Logic) × IsLogicOf k b l × (signal_count l ≤ most_signals) × (bytes ≡ length (written_text l)) × (most_bytes < bytes))
WriteGives k blif b budget (Err NoMemory) = Unit {0}
