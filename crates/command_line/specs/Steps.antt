-- What the steps of the reading give.
use Rattle.std.specs.Prelude.{◌≡◌, ◌≢◌, [], ℕ, List, MatchResult, Result, Ok, Err, Some, None, option_map}
use Rattle.std.specs.Option.{option_map_or}
use Rattle.std.specs.declared.option.Option.{Option}
use Rattle.clap.specs.Words.{Text}
use Rattle.clap.specs.declared.error.kind.ErrorKind.{ErrorKind}
use Rattle.clap.specs.declared.error.kind.ErrorKind.TheVariants.{DisplayHelp, DisplayVersion, OutOfMemory}
use Rattle.command_line.specs.Requests.{Options, names_of, options_of, value_of}
use Rattle.command_line.specs.declared.options.Choices.{Choices}
use Rattle.command_line.specs.declared.options.Misfit.{Misfit}
use Rattle.command_line.specs.declared.request.Asked.{Asked}
use Rattle.command_line.specs.declared.request.Asked.TheVariants.{Help, Version, Run}
use Rattle.command_line.specs.declared.request.FileWords.{FileWords}
use Rattle.command_line.specs.declared.request.Request.{Request}
use Rattle.command_line.specs.declared.words.WordsFault.{WordsFault}
use Rattle.command_line.specs.declared.words.WordsFault.TheVariants.{Usage, NoMemory}

-- the number of an option that is there; a misfit where its word is no number of its range
abbrev pub Reads : Result (Option ℕ) Misfit → Option (Option ℕ) → Type 0
Reads result word = MatchResult result (λ number. word ≡ option_map (λ n. Some n) number) (λ _. word ≡ Some None)

abbrev pub listed : Option FileWords → List Text
listed files = option_map_or names_of files []

abbrev pub shown : Choices → Options
shown c = record {
  mode = c.mode;
  cell = value_of c.cell;
  phase = value_of c.phase;
  at = value_of c.at;
  budget = c.budget;
  size = c.size;
  rise = value_of c.rise;
  files = listed c.files;
}

-- the options are those of no request
abbrev pub IsOfNone : Options → Type 0
IsOfNone options = (request : Request) → options_of request ≡ options → ⊥

-- the command does not take the words for this cause: help or the version is asked for; memory was wanting; any other
-- cause is a faulty command line
abbrev pub IsRefusal : ErrorKind → Result Asked WordsFault → Type 0
IsRefusal cause (Ok Help) = cause ≡ DisplayHelp
IsRefusal cause (Ok Version) = cause ≡ DisplayVersion
IsRefusal cause (Ok (Run request)) = ⊥
IsRefusal cause (Err Usage) = (cause ≢ OutOfMemory) × (cause ≢ DisplayHelp) × (cause ≢ DisplayVersion)
IsRefusal cause (Err NoMemory) = cause ≡ OutOfMemory
