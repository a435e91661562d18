-- The simple command of the checker, and what it makes of the words.
use Rattle.std.specs.Prelude.{List, codes, map, Some, true, String}
use Rattle.std.specs.String.{string_bytes}
use Rattle.std.specs.declared.alloc.Global.{Global}
use Rattle.clap.specs.Words.{App, Kinds, Row, Rule, Text, fault_of, matches_of, new_app, new_rule, with_rule}
use Rattle.clap.specs.declared.builder.ArgAction.TheVariants.{Append, Set}

-- the bytes of each word
abbrev pub texts : List (String Global) → List Text
texts words = map string_bytes words

-- an option that takes one value, and stands at most once
abbrev pub option_rule : Text → Rule
option_rule name = record (new_rule name) { long = Some name; action = Some Set }

-- the words that belong to no option
abbrev pub files_rule : Rule
files_rule = record (new_rule (codes "files")) { action = Some Append }

abbrev pub with_version : App → App
with_version a = record { top = record a.top { has_version = true }; subs = a.subs }

-- the command: `--help` and `--version`, which a command has by itself, seven options and the files
abbrev pub bare_command : App
bare_command = with_version (new_app (codes "verity"))

abbrev pub simple_command : App
simple_command =
    with_rule (with_rule (with_rule (with_rule (with_rule (with_rule (with_rule (with_rule bare_command
    (option_rule (codes "do"))) (option_rule (codes "cell"))) (option_rule (codes "phase"))) (option_rule (codes "at")))
    (option_rule (codes "budget"))) (option_rule (codes "size"))) (option_rule (codes "rise"))) files_rule

-- why the command does not take the words: the cause at the first word that fails, none where it takes all
unfoldable pub refusals : List Text → Kinds
refusals words = fault_of simple_command words

-- the values of each argument that the words give
unfoldable pub rows_for : List Text → List Row
rows_for words = matches_of simple_command words
