-- The models of a list of cards.
use Rattle.std.specs.Prelude.{ℕ, List, [], ◌∷◌, Bool, true, ◌==◌, ◌||◌, ◌-◌, if◌then◌else◌, map, filter, flat_map, codes, bytes_eq, Option, Some, None, option_map, option_to_list, unwrap_or, drop}
use Rattle.text_lines.specs.Bytes.{starts}
use Rattle.text_lines.specs.Groups.{groups, up_to}
use Rattle.text_lines.specs.Words.{behind, but_last, last_word, word_at}
use Rattle.names.specs.Names.{distinct_by}
use Rattle.blif_reader.specs.Cards.{first_word, has_first}
use Rattle.blif_reader.specs.declared.cards.Card.{Card}
use Rattle.blif_reader.specs.declared.latches.LatchEnd.{LatchEnd}
use Rattle.vrt_model.specs.declared.blif.Blif.{Blif}
use Rattle.vrt_model.specs.declared.blif.BlifModel.{BlifModel}
use Rattle.vrt_model.specs.declared.blif.CoverLine.{CoverLine}
use Rattle.vrt_model.specs.declared.blif.LatchKind.{LatchKind}
use Rattle.vrt_model.specs.declared.blif.LatchKind.TheVariants.{Re, Fe, Ah, Al}
use Rattle.vrt_model.specs.declared.blif.LatchLine.{LatchLine}
use Rattle.vrt_model.specs.declared.blif.SubLine.{SubLine}
use Rattle.vrt_model.specs.declared.blif.Tie.{Tie}

-- ---- kinds of cards

abbrev pub begins_model : Card → Bool
begins_model card = has_first (codes ".model") card

-- `.model` ends the model before. `.end` ends one.
abbrev pub ends_model : Card → Bool
ends_model card = begins_model card || has_first (codes ".end") card

abbrev pub is_cover : Card → Bool
is_cover card = has_first (codes ".names") card

abbrev pub is_latch : Card → Bool
is_latch card = has_first (codes ".latch") card

abbrev pub is_sub : Card → Bool
is_sub card = has_first (codes ".subckt") card

-- `.exdc` begins the don't-care network of its model, which ends with the model.
abbrev pub is_exdc : Card → Bool
is_exdc card = has_first (codes ".exdc") card

-- a card that begins with `.`, which ends a cover; the others are rows
abbrev pub is_dotted : Card → Bool
is_dotted card = starts 46 (first_word card)

-- ---- lists of signals

-- a signal, and the line of the card that lists it
pub record Listed : Type 0 where
  pub line : ℕ
  pub name : List ℕ

-- the signals that a card lists, each with the card's line, if it is a card of this first word
abbrev pub listed_on : ℕ → List ℕ → Listed
listed_on line name = record { line = line; name = name }

abbrev pub signals_on : List ℕ → Card → List Listed
signals_on word card = if has_first word card then map (listed_on card.line) (behind card.words) else []

-- The signals of the cards of this first word. A name given twice counts once, where it stands first.
abbrev pub listed : List ℕ → List Card → List Listed
listed word body = distinct_by (λ (s : Listed). s.name) (flat_map (signals_on word) body)

abbrev pub names : List Listed → List (List ℕ)
names signals = map (λ (s : Listed). s.name) signals

abbrev pub lines : List Listed → List ℕ
lines signals = map (λ (s : Listed). s.line) signals

-- ---- covers

-- the inputs of a cover, and the signal that it gives
abbrev pub cover_inputs : Card → List (List ℕ)
cover_inputs card = but_last (behind card.words)

abbrev pub cover_output : Card → List ℕ
cover_output card = last_word (behind card.words)

-- the output of a row is its last word, and is 1
abbrev pub is_on : Card → Bool
is_on row = bytes_eq (last_word row.words) (codes "1")

-- Without inputs the first word of a row is missing.
abbrev pub row_inputs : Card → List ℕ
row_inputs card = word_at (but_last card.words) 0

-- the output of the first row, if there is one
abbrev pub first_output : List Card → Option Bool
first_output [] = None
first_output (row ∷ rows) = Some (is_on row)

-- A cover and its rows. Rows with output 1 are the on-set, rows with output 0 the off-set. A cover without rows has an
-- empty on-set and so is constant 0.
abbrev pub cover_of : Card × List Card → CoverLine
cover_of group = record {
  line = group.0.line;
  inputs = cover_inputs group.0;
  output = cover_output group.0;
  on = unwrap_or (first_output group.1) true;
  rows = map row_inputs group.1;
}

-- ---- latches

abbrev pub latch_kind : List ℕ → Option LatchKind
latch_kind word =
    if bytes_eq word (codes "re") then Some Re
    else if bytes_eq word (codes "fe") then Some Fe
    else if bytes_eq word (codes "ah") then Some Ah
    else if bytes_eq word (codes "al") then Some Al
    else None

-- INIT is 0 to 3.
abbrev pub init_of : List ℕ → Option ℕ
init_of (b ∷ []) = if (b == 48) || (b == 49) || (b == 50) || (b == 51) then Some (b - 48) else None
init_of word = None

-- CONTROL may be NIL.
abbrev pub control_of : List ℕ → Option (List ℕ)
control_of word = if bytes_eq word (codes "NIL") then None else Some word

abbrev pub with_kind : Option LatchKind → List ℕ → Option ℕ → Option LatchEnd
with_kind (Some kind) control (Some init) = Some (record { kind = Some kind; control = control_of control; init = init })
with_kind kind control init = None

-- `[TYPE CONTROL] [INIT]`, none where the words have another form; INIT is 3 when absent
abbrev pub latch_end : List (List ℕ) → Option LatchEnd
latch_end [] = Some (record { kind = None; control = None; init = 3 })
latch_end (init ∷ []) = option_map (λ n. record { kind = None; control = None; init = n }) (init_of init)
latch_end (kind ∷ control ∷ []) = with_kind (latch_kind kind) control (Some 3)
latch_end (kind ∷ control ∷ init ∷ []) = with_kind (latch_kind kind) control (init_of init)
latch_end (kind ∷ control ∷ init ∷ more ∷ words) = None

-- what is behind the input and the output
abbrev pub end_of : Card → Option LatchEnd
end_of card = latch_end (drop 3 card.words)

abbrev pub latch_of : Card → LatchEnd → LatchLine
latch_of card e = record { line = card.line; input = word_at card.words 1; output = word_at card.words 2; kind = e.kind; control = e.control; init = e.init }

abbrev pub latches_in : Card → List LatchLine
latches_in card = if is_latch card then option_to_list (option_map (latch_of card) (end_of card)) else []

-- ---- sub-models

abbrev pub is_equals : ℕ → Bool
is_equals b = b == 61

-- what is behind the first `=`
abbrev pub behind_equals : List ℕ → List ℕ
behind_equals [] = []
behind_equals (b ∷ bs) = if is_equals b then bs else behind_equals bs

-- Each tie is cut at its first `=`.
abbrev pub tie_of : List ℕ → Tie
tie_of word = record { formal = up_to is_equals word; actual = behind_equals word }

abbrev pub sub_of : Card → SubLine
sub_of card = record { line = card.line; model = word_at card.words 1; ties = map tie_of (drop 2 card.words) }

-- ---- models

abbrev pub model_name : Card → List ℕ
model_name card = word_at card.words 1

-- the cards of a model before its don't-care network
abbrev pub own_cards : List Card → List Card
own_cards body = up_to is_exdc body

-- the cards of its don't-care network: those behind the first `.exdc`
abbrev pub network_cards : List Card → List Card
network_cards [] = []
network_cards (card ∷ cards) = if is_exdc card then cards else network_cards cards

-- the covers of cards
abbrev pub covers_in : List Card → List CoverLine
covers_in cards = map cover_of (groups is_cover is_dotted cards)

-- a `.model` card and the cards of its model
abbrev pub model_of : Card × List Card → BlifModel
model_of group =
    let own = own_cards group.1 in
    let inputs = listed (codes ".inputs") own in
    let clocks = listed (codes ".clock") own in
    let outputs = listed (codes ".outputs") own in
    record {
      line = group.0.line;
      name = model_name group.0;
      inputs = names inputs;
      input_lines = lines inputs;
      clocks = names clocks;
      clock_lines = lines clocks;
      outputs = names outputs;
      output_lines = lines outputs;
      covers = covers_in own;
      latches = flat_map latches_in own;
      subs = map sub_of (filter is_sub own);
      exdc = covers_in (network_cards group.1);
    }

unfoldable pub blif_of : List Card → Blif
blif_of cards = record { models = map model_of (groups begins_model ends_model cards) }
