-- What the tokens so far have shown to hold of their modules.
use Rattle.std.proofs.Common.{◌≡◌, ◌≤◌, ℕ, true, List, [], ◌∷◌, flat_map, length, All}
use Rattle.names.proofs.ApartLaws.{NoRepeat}
use Rattle.verilog_models.specs.Fits.{IsFitEntry}
use Rattle.verilog_source.specs.Grammar.{has_one_input}
use Rattle.verilog_source.specs.Known.{Known}
use Rattle.verilog_source.specs.Places.{Event, GateSoFar, Place}
use Rattle.verilog_source.specs.Places.Event.{begins, has, ends}
use Rattle.verilog_source.specs.Places.Place.{TerminalWanted, TerminalOpen}
use Rattle.verilog_source.specs.Refused.{is_limited}

-- the names of the modules that events begin
abbrev pub name_told : Event → List (List ℕ)
name_told (begins l n) = n ∷ []
name_told (has e) = []
name_told ends = []

abbrev pub names_told : List Event → List (List ℕ)
names_told events = flat_map name_told events

abbrev pub IsFitEvent : Event → Type 0
IsFitEvent (begins l n) = Unit {0}
IsFitEvent (has e) = IsFitEntry e
IsFitEvent ends = Unit {0}

-- an open gate has so many inputs at most, and none where it has one in all
pub record HasRoom (most : ℕ) (g : GateSoFar) : Type 0 where
  pub limit : is_limited g.kind ≡ true → length g.inputs ≤ most
  pub none : has_one_input g.kind ≡ true → g.inputs ≡ []

abbrev pub IsRoomy : Place → Type 0
IsRoomy (TerminalWanted g) = HasRoom 1000 g
IsRoomy (TerminalOpen g n r) = HasRoom 999 g
IsRoomy place = Unit {0}

-- no two modules have one name, there are few enough, and no gate has too many inputs
pub record IsKept (k : Known) (events : List Event) : Type 0 where
  pub names : k.modules ≡ names_told events
  pub apart : NoRepeat (names_told events)
  pub limit : length (names_told events) ≤ 4096
  pub room : IsRoomy k.place
  pub fit : All IsFitEvent events
