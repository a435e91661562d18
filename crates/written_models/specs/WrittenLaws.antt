-- Laws of written models: they are read back, they can be unrolled, and their outputs have the bits of the functions.
use Rattle.std.specs.Prelude.{◌≡◌, ℕ, zero, suc, ◌+◌, Bool, List, [], ◌∷◌, ◌++◌, length, map}
use Rattle.blif_reader.specs.Cards.{cards_of}
use Rattle.blif_reader.specs.Models.{blif_of}
use Rattle.blif_reader.specs.Refused.{fault_of}
use Rattle.plain_models.specs.Flat.{flat_form, number_in, signal_names}
use Rattle.plain_models.specs.Texts.{alone}
use Rattle.text_lines.specs.Faults.{IsClean}
use Rattle.vrt_model.specs.Assignment.{Assignment, Obeys}
use Rattle.vrt_model.specs.FlatBlif.{flat_model_of}
use Rattle.vrt_model.specs.Lists.{At, distinct}
use Rattle.vrt_model.specs.Models.{AreModels}
use Rattle.written_models.specs.Functions.{Function}
use Rattle.written_models.specs.Written.{IsWritable, Logic, nodes_in, numbered, other_clocks, written_model, written_text}

-- The law: no card of a written text has a fault, and what is read of it is the written model alone.
pub record IsReadBack (l : Logic) : Type 0 where
  pub clean : IsClean fault_of (cards_of (written_text l))
  pub model : blif_of (cards_of (written_text l)) ≡ alone (written_model l)

abbrev pub WrittenTextsAreRead : Type 0
WrittenTextsAreRead = (l : Logic) → IsWritable l → IsReadBack l

-- The law: it can be unrolled, and has this flat form.
pub record IsUnrolled (l : Logic) : Type 0 where
  pub good : AreModels (alone (written_model l))
  pub flat : flat_model_of (alone (written_model l)) 0 ≡ flat_form (written_model l)

abbrev pub WrittenModelsAreUnrolled : Type 0
WrittenModelsAreUnrolled = (l : Logic) → IsWritable l → IsUnrolled l

-- the signals of the first numbers
abbrev pub first_numbers : ℕ → List (List ℕ)
first_numbers zero = []
first_numbers (suc n) = first_numbers n ++ numbered n ∷ []

-- The law: its signals are those of the interface, each once, and then the constants and the nodes by their numbers.
abbrev pub WrittenSignalsAre : Type 0
WrittenSignalsAre =
    (l : Logic) → IsWritable l
    → signal_names (written_model l) ≡ distinct (l.inputs ++ other_clocks l ++ l.outputs) ++ first_numbers (2 + length (nodes_in l))

-- the bits that an assignment gives the variables
abbrev pub variable_bits : Logic → Assignment → List Bool
variable_bits l g = map (λ name. g.signal (number_in (written_model l) name)) l.variables

-- The law: in each assignment that obeys its covers each output has the bit of its function at the bits of the variables.
abbrev pub WrittenOutputsShow : Type 0
WrittenOutputsShow =
    (l : Logic) (default_clock : Bool) (held : ℕ → Bool) (g : Assignment) → Obeys (flat_form (written_model l)) default_clock held g
    → (i : ℕ) (name : List ℕ) (f : Function) → At l.outputs i name → At l.functions i f
    → g.signal (number_in (written_model l) name) ≡ f (variable_bits l g)
