-- What is known behind one line more.
use Rattle.std.specs.Prelude.{◌≡◌, List, not, ◌||◌, Option, Some, None}
use Rattle.text_lines.specs.Reading.{IsReading}
use Rattle.vrt_model.specs.Lists.{is_empty}
use Rattle.names.specs.Names.{with_names}
use Rattle.rules_reader.specs.Refused.{fault_of, key_texts, known_by, levels_on, phases_named}
use Rattle.rules_reader.specs.Tables.{clocks_in, phase_names_in, scale_from, scales_in}
use Rattle.rules_reader.specs.declared.cards.Card.{Card}
use Rattle.rules_lines.specs.declared.entry.Entry.{Entry}
use Rattle.rules_reader.specs.declared.known.Known.{Known}

abbrev pub learned_by : Known → Entry → Known
learned_by known entry = record {
  clocks = with_names known.clocks (clocks_in entry);
  phases = with_names known.phases (phase_names_in entry);
  keys = with_names known.keys (key_texts entry);
  is_phase_named = known.is_phase_named || not (is_empty (phases_named entry));
  scale = scale_from known.scale (scales_in entry);
  has_levels = known.has_levels || not (is_empty (levels_on entry));
}

abbrev pub learned_from : Known → Option Entry → Known
learned_from known None = known
learned_from known (Some entry) = learned_by known entry

abbrev pub learned : Known → Card → Known
learned known card = learned_from known card.entry

-- these cards are left, and those before them are read and listed
abbrev pub Reads : List Card → List Card → Known → List Card → Type 0
Reads cards left known listed = IsReading known_by fault_of (λ read. listed ≡ read) cards left known
