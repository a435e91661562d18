-- What the words of a command line ask for.
use Rattle.std.specs.Prelude.{◌≡◌, ◌≢◌, ◌⊎◌, ◌&&◌, ◌∷◌, [], ℕ, List, Bool, bytes_eq, codes, length, nat_le, option_map, unwrap_or, if◌then◌else◌, Some, None}
use Rattle.std.specs.Borrow.{Bor}
use Rattle.std.specs.Char.{is_ascii_digit}
use Rattle.std.specs.List.{list_all}
use Rattle.std.specs.Option.{option_map_or}
use Rattle.std.specs.Str.Parse.{digits_value}
use Rattle.std.specs.declared.option.Option.{Option}
use Rattle.clap.specs.Words.{Row, Text, all_of, first_of}
use Rattle.clap.specs.declared.error.kind.ErrorKind.{ErrorKind}
use Rattle.clap.specs.declared.error.kind.ErrorKind.TheVariants.{DisplayHelp, DisplayVersion}
use Rattle.command_line.specs.Command.{refusals, rows_for}
use Rattle.command_line.specs.declared.options.Mode.{Mode}
use Rattle.command_line.specs.declared.options.Mode.TheVariants as mode
use Rattle.command_line.specs.declared.request.Asked.{Asked}
use Rattle.command_line.specs.declared.request.Asked.TheVariants.{Help, Version, Run}
use Rattle.command_line.specs.declared.request.FileWords.{FileWords}
use Rattle.command_line.specs.declared.request.Request.{Request}
use Rattle.command_line.specs.declared.request.Request.TheVariants.{Check, Replay, Classes, Generate, Arrive, Blif}

-- ---- values

abbrev pub mode_named : Text → Option Mode
mode_named word =
    if bytes_eq word (codes "check") then Some mode.Check
    else (if bytes_eq word (codes "replay") then Some mode.Replay
    else (if bytes_eq word (codes "classes") then Some mode.Classes
    else (if bytes_eq word (codes "gen") then Some mode.Generate
    else (if bytes_eq word (codes "arrive") then Some mode.Arrive
    else (if bytes_eq word (codes "blif") then Some mode.Blif else None)))))

-- one decimal digit or more, at most `places`
abbrev pub is_numeral : ℕ → Text → Bool
is_numeral places word = nat_le 1 (length word) && (nat_le (length word) places && list_all is_ascii_digit word)

-- the number that the digits write, where it is in its range
abbrev pub number_in : ℕ → ℕ → ℕ → Text → Option ℕ
number_in places least greatest word =
    if is_numeral places word && (nat_le least (digits_value 10 word) && nat_le (digits_value 10 word) greatest)
    then Some (digits_value 10 word) else None

-- a budget of nodes
abbrev pub budget_in : Text → Option ℕ
budget_in word = number_in 8 65536 64000000 word

-- a size of the generated hierarchy
abbrev pub size_in : Text → Option ℕ
size_in word = number_in 2 1 32 word

-- ---- options

-- the mode, the values of the other options, where they are there, and the files in their order
pub record Options : Type 0 where
  pub mode : Mode
  pub cell : Option Text
  pub phase : Option Text
  pub at : Option Text
  pub budget : Option ℕ
  pub size : Option ℕ
  pub rise : Option Text
  pub files : List Text

-- `--do`, of which `check` is the default
abbrev pub mode_given : List Row → Option Mode
mode_given rows = option_map_or mode_named (first_of (codes "do") rows) (Some mode.Check)

abbrev pub files_given : List Row → List Text
files_given rows = unwrap_or (all_of (codes "files") rows) []

-- the values that the words give are these, none where an option is not there; the word of each number is one of its range
pub record Gives (rows : List Row) (options : Options) : Type 0 where
  pub mode : mode_given rows ≡ Some options.mode
  pub cell : first_of (codes "cell") rows ≡ options.cell
  pub phase : first_of (codes "phase") rows ≡ options.phase
  pub at : first_of (codes "at") rows ≡ options.at
  pub budget : option_map budget_in (first_of (codes "budget") rows) ≡ option_map (λ n. Some n) options.budget
  pub size : option_map size_in (first_of (codes "size") rows) ≡ option_map (λ n. Some n) options.size
  pub rise : first_of (codes "rise") rows ≡ options.rise
  pub files : files_given rows ≡ options.files

-- ---- requests

abbrev pub value_of : Option (Bor Text) → Option Text
value_of word = option_map (λ w. w.now) word

-- the SPICE, the BLIF and the rules file
abbrev pub names_of : FileWords → List Text
names_of files = files.spice.now ∷ files.blif.now ∷ files.rules.now ∷ []

-- the options of a request: each mode with those that it takes, and three files but where they are generated
abbrev pub options_of : Request → Options
options_of (Check cell budget files) =
    record { mode = mode.Check; cell = value_of cell; phase = None; at = None; budget = budget; size = None; rise = None; files = names_of files }
options_of (Replay cell phase at files) =
    record { mode = mode.Replay; cell = Some cell.now; phase = Some phase.now; at = value_of at; budget = None; size = None; rise = None; files = names_of files }
options_of (Classes cell files) =
    record { mode = mode.Classes; cell = value_of cell; phase = None; at = None; budget = None; size = None; rise = None; files = names_of files }
options_of (Generate size budget) =
    record { mode = mode.Generate; cell = None; phase = None; at = None; budget = budget; size = Some size; rise = None; files = [] }
options_of (Arrive cell phase rise budget files) =
    record { mode = mode.Arrive; cell = Some cell.now; phase = Some phase.now; at = None; budget = budget; size = None; rise = Some rise.now; files = names_of files }
options_of (Blif cell budget files) =
    record { mode = mode.Blif; cell = Some cell.now; phase = None; at = None; budget = budget; size = None; rise = None; files = names_of files }

-- the names of the files that a request reads
abbrev pub file_names : Request → List Text
file_names request = (options_of request).files

-- the values are those of no request
abbrev pub GivesNone : List Row → Type 0
GivesNone rows = (request : Request) → Gives rows (options_of request) → ⊥

-- the command takes the words, and their options are those of the request
abbrev pub AsksFor : List Text → Request → Type 0
AsksFor words request = (refusals words ≡ []) × Gives (rows_for words) (options_of request)

-- the words ask for this
abbrev pub Asks : List Text → Asked → Type 0
Asks words Help = refusals words ≡ DisplayHelp ∷ []
Asks words Version = refusals words ≡ DisplayVersion ∷ []
Asks words (Run request) = AsksFor words request

-- the words are not understood: the command refuses them for another cause than help and version, or it takes them, and
-- they are those of no request: a mode that is none of the six, a number out of its range, an option that the mode needs
-- and that is missing, one that the mode does not take, or another number of files
abbrev pub IsUsage : List Text → Type 0
IsUsage words =
    ((cause : ErrorKind) × (refusals words ≡ cause ∷ []) × (cause ≢ DisplayHelp) × (cause ≢ DisplayVersion))
    ⊎ ((refusals words ≡ []) × GivesNone (rows_for words))
