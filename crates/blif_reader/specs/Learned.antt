-- What is known behind one card more.
use Rattle.std.specs.Prelude.{◌≡◌, List, ℕ, Bool, true, false, if◌then◌else◌, length, Option, Some, None, option_map, unwrap_or}
use Rattle.names.specs.Names.{with_name}
use Rattle.text_lines.specs.Reading.{IsReading}
use Rattle.blif_reader.specs.Refused.{ends_network, fault_of, known_by}
use Rattle.blif_reader.specs.Models.{begins_model, cover_inputs, ends_model, is_cover, is_dotted, is_exdc, is_on, model_name}
use Rattle.blif_reader.specs.declared.cards.Card.{Card}
use Rattle.blif_reader.specs.declared.known.Known.{Known}
use Rattle.blif_reader.specs.declared.known.OpenCover.{OpenCover}

abbrev pub models_behind : List (List ℕ) → Card → List (List ℕ)
models_behind models card = if begins_model card then with_name models (model_name card) else models

-- what such a card opens and such a card ends, behind one card more
abbrev pub open_behind : (Card → Bool) → (Card → Bool) → Bool → Card → Bool
open_behind begins ends is_open card = if begins card then true else (if ends card then false else is_open)

-- the output of the first row, or of this one if it is the first
abbrev pub with_row : Card → OpenCover → OpenCover
with_row row cover = record { width = cover.width; first = Some (unwrap_or cover.first (is_on row)) }

abbrev pub cover_behind : Option OpenCover → Card → Option OpenCover
cover_behind cover card =
    if is_cover card then Some (record { width = length (cover_inputs card); first = None })
    else (if is_dotted card then None else option_map (with_row card) cover)

abbrev pub learned : Known → Card → Known
learned known card = record {
  models = models_behind known.models card;
  is_inside = open_behind begins_model ends_model known.is_inside card;
  in_network = open_behind is_exdc ends_network known.in_network card;
  cover = cover_behind known.cover card;
}

-- these cards are left, and those before them are read and listed
abbrev pub Reads : List Card → List Card → Known → List Card → Type 0
Reads cards left known listed = IsReading known_by fault_of (λ read. listed ≡ read) cards left known
