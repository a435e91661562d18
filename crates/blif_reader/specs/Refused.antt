-- The faults of a BLIF text.
use Rattle.std.specs.Prelude.{ℕ, List, [], ◌∷◌, Bool, true, false, not, ◌==◌, ◌||◌, ◌&&◌, if◌then◌else◌, nat_lt, nat_le, length, map, filter, drop, codes, bytes_eq, is_some, is_none, Option, Some, None, option_map}
use Rattle.std.specs.List.{list_all, list_any}
use Rattle.text_lines.specs.Faults.{first_fault, first_of, when}
use Rattle.text_lines.specs.Groups.{open_group}
use Rattle.vrt_model.specs.Lists.{distinct, has_name, is_empty}
use Rattle.text_lines.specs.Words.{word_at}
use Rattle.blif_reader.specs.Cards.{first_word}
use Rattle.blif_reader.specs.Models.{begins_model, cover_inputs, end_of, ends_model, first_output, is_cover, is_dotted, is_exdc, is_latch, is_on, is_sub, model_name, tie_of}
use Rattle.blif_reader.specs.declared.cards.Card.{Card}
use Rattle.blif_reader.specs.declared.faults.BlifFault.{BlifFault}
use Rattle.blif_reader.specs.declared.faults.BlifFault.TheVariants.{NotText, Unsupported, OutsideModel, Row, MixedRows, LatchForm, Formal, ModelTwice, Short, Limit}
use Rattle.blif_reader.specs.declared.known.Known.{Known}
use Rattle.blif_reader.specs.declared.known.OpenCover.{OpenCover}

-- ---- what is known before a card

-- the cover that goes on behind these cards, with its rows so far
abbrev pub open_cover : List Card → Option (Card × List Card)
open_cover before = open_group is_cover is_dotted before

abbrev pub told_of : Card × List Card → OpenCover
told_of group = record { width = length (cover_inputs group.0); first = first_output group.1 }

-- A don't-care network goes on to the end of its model.
abbrev pub ends_network : Card → Bool
ends_network card = is_exdc card || ends_model card

-- what the cards before a card tell of it: the names of all models, whether a model is open, whether a don't-care network
-- is, and of an open cover how many inputs it has and the output of its first row
unfoldable pub known_by : List Card → Known
known_by before = record {
  models = distinct (map model_name (filter begins_model before));
  is_inside = is_some (open_group begins_model ends_model before);
  in_network = is_some (open_group is_exdc ends_network before);
  cover = option_map told_of (open_cover before);
}

-- ---- the conditions

-- the cards of a model that begin with `.`
abbrev pub is_known : Card → Bool
is_known card =
    has_name (codes ".model" ∷ codes ".end" ∷ codes ".inputs" ∷ codes ".clock" ∷ codes ".outputs" ∷ codes ".names" ∷ codes ".latch" ∷ codes ".subckt" ∷ codes ".exdc" ∷ []) (first_word card)

-- those of its don't-care network, where `.inputs` and `.outputs` are passed over, and the ends of both
abbrev pub is_known_there : Card → Bool
is_known_there card = has_name (codes ".model" ∷ codes ".end" ∷ codes ".inputs" ∷ codes ".outputs" ∷ codes ".names" ∷ []) (first_word card)

-- one of these, or behind a cover a row
abbrev pub goes_there : Option OpenCover → Card → Bool
goes_there cover card = if is_dotted card then is_known_there card else is_some cover

-- any other card that begins with `.`, and in a don't-care network any other card
abbrev pub is_other : Known → Card → Bool
is_other known card = if known.in_network then not (goes_there known.cover card) else is_dotted card && not (is_known card)

-- the latch type `as`, which is there only with four or five words behind `.latch`
abbrev pub is_as_latch : Card → Bool
is_as_latch card = is_latch card && ((length card.words == 5) || (length card.words == 6)) && bytes_eq (word_at card.words 3) (codes "as")

-- a card outside a model, other than `.model` and `.end`
abbrev pub is_outside : Known → Card → Bool
is_outside known card = not known.is_inside && not (ends_model card)

-- one word of `0`, `1`, `-`, one for each input, and one word `0` or `1`; without inputs the first word is missing
abbrev pub is_input_byte : ℕ → Bool
is_input_byte b = (b == 48) || (b == 49) || (b == 45)

abbrev pub is_output_word : List ℕ → Bool
is_output_word word = bytes_eq word (codes "0") || bytes_eq word (codes "1")

abbrev pub is_row : ℕ → List (List ℕ) → Bool
is_row width [] = false
is_row width (out ∷ []) = (width == 0) && is_output_word out
is_row width (bits ∷ out ∷ []) = not (width == 0) && (length bits == width) && list_all is_input_byte bits && is_output_word out
is_row width (bits ∷ out ∷ more ∷ words) = false

abbrev pub fits : Option OpenCover → Card → Bool
fits None card = false
fits (Some cover) card = is_row cover.width card.words

-- a row of another form, or a card that does not begin with `.` and follows no cover
abbrev pub is_bad_row : Known → Card → Bool
is_bad_row known card = not (is_dotted card) && not (fits known.cover card)

-- a row whose output differs from the first row's
abbrev pub differs_from : Option Bool → Bool → Bool
differs_from None on = false
differs_from (Some true) on = not on
differs_from (Some false) on = on

abbrev pub differs_in : Option OpenCover → Card → Bool
differs_in None card = false
differs_in (Some cover) card = differs_from cover.first (is_on card)

abbrev pub is_mixed : Known → Card → Bool
is_mixed known card = not (is_dotted card) && differs_in known.cover card

-- any other form with at least two words behind `.latch`
abbrev pub is_bad_latch : Card → Bool
is_bad_latch card = is_latch card && nat_le 3 (length card.words) && is_none (end_of card)

-- a tie without `=`, or with an empty side
abbrev pub is_bad_tie : List ℕ → Bool
is_bad_tie word = is_empty (tie_of word).formal || is_empty (tie_of word).actual

abbrev pub has_bad_tie : Card → Bool
has_bad_tie card = is_sub card && list_any is_bad_tie (drop 2 card.words)

-- a second model of a name
abbrev pub is_model_twice : Known → Card → Bool
is_model_twice known card = begins_model card && nat_le 2 (length card.words) && has_name known.models (model_name card)

-- `.model`, `.names` or `.subckt` without a name, `.latch` with fewer than two
abbrev pub is_short : Card → Bool
is_short card =
    ((begins_model card || is_cover card || is_sub card) && nat_lt (length card.words) 2) || (is_latch card && nat_lt (length card.words) 3)

-- 4,096 models, 1,000 inputs of a cover
abbrev pub passes_limit : Known → Card → Bool
passes_limit known card =
    (begins_model card && nat_le 4096 (length known.models)) || (is_cover card && nat_lt 1000 (length (cover_inputs card)))

-- ---- the faults

-- the faults on a card, by their numbers
abbrev pub faults_on : Known → Card → List (Option BlifFault)
faults_on known card =
    when (not card.is_all_text) (NotText card.line)
    ∷ when (is_other known card) (Unsupported card.line (first_word card))
    ∷ when (is_as_latch card) (Unsupported card.line (codes "as"))
    ∷ when (is_outside known card) (OutsideModel card.line)
    ∷ when (is_bad_row known card) (Row card.line)
    ∷ when (is_mixed known card) (MixedRows card.line)
    ∷ when (is_bad_latch card) (LatchForm card.line)
    ∷ when (has_bad_tie card) (Formal card.line)
    ∷ when (is_model_twice known card) (ModelTwice card.line (model_name card))
    ∷ when (is_short card) (Short card.line)
    ∷ when (passes_limit known card) (Limit card.line)
    ∷ []

-- of several faults on one card the one of the lowest number
unfoldable pub fault_by : Known → Card → Option BlifFault
fault_by known card = first_of (faults_on known card)

abbrev pub fault_of : List Card → Card → Option BlifFault
fault_of before card = fault_by (known_by before) card

-- the first fault of the cards, to compute with
abbrev pub blif_fault : List Card → Option BlifFault
blif_fault cards = first_fault fault_of cards
