-- The elements of a model by their names.
use Rattle.std.specs.Prelude.{◌≡◌, []}
use Rattle.names.specs.Names.{with_names}
use Rattle.hold_groups.specs.declared.elements.ElementTable.{ElementTable}

-- the set has the names of the list
abbrev pub IsTable : ElementTable → Type 0
IsTable t = t.names ≡ with_names [] t.list
