-- Models that are made of covers alone: their lines, and the model that is read from these.
use Rattle.std.specs.Prelude.{◌≡◌, ℕ, ◌+◌, ◌≤◌, true, List, [], ◌∷◌, ◌++◌, bytes_eq, codes, flat_map, length, map}
use Rattle.std.specs.List.{list_all}
use Rattle.blif_reader.specs.Cards.{cards_of}
use Rattle.blif_reader.specs.Models.{blif_of}
use Rattle.blif_reader.specs.Refused.{fault_of, is_row}
use Rattle.plain_models.specs.Lines.{is_good_word, text_of}
use Rattle.text_lines.specs.Faults.{IsClean}
use Rattle.vrt_model.specs.Inputs.{AllApart}
use Rattle.vrt_model.specs.Lists.{Among}
use Rattle.vrt_model.specs.declared.blif.Blif.{Blif}
use Rattle.vrt_model.specs.declared.blif.BlifModel.{BlifModel}
use Rattle.vrt_model.specs.declared.blif.CoverLine.{CoverLine}

-- a cover: the signals that it reads, the signal that it gives, and the rows at which that is 1
pub record PlainCover : Type 0 where
  pub inputs : List (List ℕ)
  pub output : List ℕ
  pub rows : List (List ℕ)

-- a model without latches and sub-models
pub record PlainModel : Type 0 where
  pub name : List ℕ
  pub inputs : List (List ℕ)
  pub clocks : List (List ℕ)
  pub outputs : List (List ℕ)
  pub covers : List PlainCover

-- ---- lines, each as its words

-- a row and its output; without inputs the first word is missing
abbrev pub row_words : List ℕ → List (List ℕ)
row_words [] = codes "1" ∷ []
row_words (b ∷ bs) = (b ∷ bs) ∷ codes "1" ∷ []

-- a `.names` line, and the rows
abbrev pub cover_lines : PlainCover → List (List (List ℕ))
cover_lines cover = (codes ".names" ∷ cover.inputs ++ cover.output ∷ []) ∷ map row_words cover.rows

-- a `.clock` line, where there are clocks
abbrev pub clock_lines : List (List ℕ) → List (List (List ℕ))
clock_lines [] = []
clock_lines (name ∷ names) = (codes ".clock" ∷ name ∷ names) ∷ []

-- the lines of the interface behind the first, `.model`
abbrev pub interface_lines : PlainModel → List (List (List ℕ))
interface_lines m = (codes ".inputs" ∷ m.inputs) ∷ clock_lines m.clocks ++ (codes ".outputs" ∷ m.outputs) ∷ []

-- all lines
abbrev pub model_lines : PlainModel → List (List (List ℕ))
model_lines m = (codes ".model" ∷ m.name ∷ []) ∷ (interface_lines m ++ flat_map cover_lines m.covers) ++ (codes ".end" ∷ []) ∷ []

-- ---- what may be written

-- good names, no more inputs than a cover may have, and a byte `0`, `1` or `-` for each in each row
pub record IsPlainCover (cover : PlainCover) : Type 0 where
  pub names : list_all is_good_word (cover.inputs ++ cover.output ∷ []) ≡ true
  pub few : length cover.inputs ≤ 1000
  pub rows : (row : List ℕ) → Among cover.rows row → is_row (length cover.inputs) (row_words row) ≡ true

-- good names, of which no two inputs, clocks or outputs have one
pub record IsPlainModel (m : PlainModel) : Type 0 where
  pub name : is_good_word m.name ≡ true
  pub inputs : list_all is_good_word m.inputs ≡ true
  pub clocks : list_all is_good_word m.clocks ≡ true
  pub outputs : list_all is_good_word m.outputs ≡ true
  pub inputs_apart : AllApart bytes_eq m.inputs
  pub clocks_apart : AllApart bytes_eq m.clocks
  pub outputs_apart : AllApart bytes_eq m.outputs
  pub covers : (cover : PlainCover) → Among m.covers cover → IsPlainCover cover

-- ---- what is read

-- the cover on a line
abbrev pub cover_on : ℕ → PlainCover → CoverLine
cover_on line cover = record { line = line; inputs = cover.inputs; output = cover.output; on = true; rows = cover.rows }

-- covers, one behind the other from a line on
abbrev pub covers_from : ℕ → List PlainCover → List CoverLine
covers_from line [] = []
covers_from line (cover ∷ covers) = cover_on line cover ∷ covers_from (line + 1 + length cover.rows) covers

-- the line of `.outputs`: behind `.model`, `.inputs` and `.clock`
abbrev pub outputs_line : PlainModel → ℕ
outputs_line m = 3 + length (clock_lines m.clocks)

-- the model, with the lines on which its parts stand
abbrev pub model_on_lines : PlainModel → BlifModel
model_on_lines m = record {
  line = 1;
  name = m.name;
  inputs = m.inputs;
  input_lines = map (λ name. 2) m.inputs;
  clocks = m.clocks;
  clock_lines = map (λ name. 3) m.clocks;
  outputs = m.outputs;
  output_lines = map (λ name. outputs_line m) m.outputs;
  covers = covers_from (outputs_line m + 1) m.covers;
  latches = [];
  subs = [];
  exdc = [];
}

-- this model alone
abbrev pub alone : PlainModel → Blif
alone m = record { models = model_on_lines m ∷ [] }

-- the text of a model
abbrev pub model_text : PlainModel → List ℕ
model_text m = text_of (model_lines m)

-- The law: no card of the text of such a model has a fault.
abbrev pub PlainTextsAreClean : Type 0
PlainTextsAreClean = (m : PlainModel) → IsPlainModel m → IsClean fault_of (cards_of (model_text m))

-- The law: what is read of the text is the model alone.
abbrev pub PlainTextsAreRead : Type 0
PlainTextsAreRead = (m : PlainModel) → IsPlainModel m → blif_of (cards_of (model_text m)) ≡ alone m
