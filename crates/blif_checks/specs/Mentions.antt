-- Mentions of the signals of a model on its cards, by the numbers of the signals.
use Rattle.std.specs.Prelude.{ℕ, List, ◌++◌, map, flat_map, bytes_eq}
use Rattle.std.specs.List.{position_or_len}
use Rattle.vrt_model.specs.FlatBlif.{cover_signals, latch_signals, sub_signals}
use Rattle.vrt_model.specs.Models.{OnLine, on_line, on_lines}
use Rattle.vrt_model.specs.declared.blif.BlifModel.{BlifModel}
use Rattle.vrt_model.specs.declared.blif.CoverLine.{CoverLine}
use Rattle.vrt_model.specs.declared.blif.LatchLine.{LatchLine}
use Rattle.vrt_model.specs.declared.blif.SubLine.{SubLine}
use Rattle.blif_checks.specs.declared.mentions.Mention.{Mention}

-- the number of a name, the count of the names where it is none of them
abbrev pub number_among : List (List ℕ) → List ℕ → ℕ
number_among names name = position_or_len (bytes_eq name) names

abbrev pub numbered : List (List ℕ) → OnLine → Mention
numbered names o = record { line = o.line; signal = number_among names o.name }

-- all mentions of signals in a model: as inputs, clocks and outputs, then on covers, latches and sub-models
abbrev pub cover_mentions : CoverLine → List OnLine
cover_mentions c = map (on_line c.line) (cover_signals c)

abbrev pub latch_mentions : LatchLine → List OnLine
latch_mentions l = map (on_line l.line) (latch_signals l)

abbrev pub sub_mentions : SubLine → List OnLine
sub_mentions s = map (on_line s.line) (sub_signals s)

abbrev pub mentions_in : BlifModel → List OnLine
mentions_in m =
    on_lines m.inputs m.input_lines ++ on_lines m.clocks m.clock_lines ++ on_lines m.outputs m.output_lines ++ flat_map cover_mentions m.covers
    ++ flat_map latch_mentions m.latches ++ flat_map sub_mentions m.subs
