-- A module as it is read, statement by statement.
use Rattle.std.specs.Prelude.{◌≡◌, ℕ, ◌+◌, List, [], ◌∷◌, ◌++◌}
use Rattle.std.specs.Option.{option_or}
use Rattle.names.specs.Names.{with_names}
use Rattle.rule_index.specs.Firsts.{IsEven, value_in}
use Rattle.verilog_models.specs.Models.{covers_in, entry_covers, entry_own, entry_subs, given, given_in, listed_name, own_in, ports_in, subs_in}
use Rattle.verilog_models.specs.declared.draft.Draft.{Draft}
use Rattle.verilog_source.specs.Modules.{Entry, Module}

-- a module of which nothing is read but its name
abbrev pub begun : ℕ → List ℕ → Module
begun line name = record { line = line; name = name; entries = [] }

-- with an entry more
abbrev pub with_entry : Module → Entry → Module
with_entry m e = record { line = m.line; name = m.name; entries = m.entries ++ e ∷ [] }

-- what is made of a module is what it has so far
pub record IsDraft (m : Module) (d : Draft) : Type 0 where
  pub line : d.line ≡ m.line
  pub name : d.name ≡ m.name
  pub ports : d.ports ≡ ports_in m.entries
  pub even : IsEven d.directions
  pub gives : (name : List ℕ) → value_in d.directions name ≡ given_in m.entries name
  pub covers : d.made.covers ≡ covers_in 0 m.entries
  pub count : d.made.count ≡ own_in m.entries
  pub subs : d.subs ≡ subs_in 0 m.entries

-- an entry was added, and nothing else
pub record AddsEntry (e : Entry) (old new : Draft) : Type 0 where
  pub line : new.line ≡ old.line
  pub name : new.name ≡ old.name
  pub ports : new.ports ≡ with_names old.ports (listed_name e)
  pub even : IsEven new.directions
  pub gives : (name : List ℕ) → value_in new.directions name ≡ option_or (value_in old.directions name) (given e name)
  pub covers : new.made.covers ≡ old.made.covers ++ entry_covers old.made.count e
  pub count : new.made.count ≡ old.made.count + entry_own e
  pub subs : new.subs ≡ old.subs ++ entry_subs old.made.count e
