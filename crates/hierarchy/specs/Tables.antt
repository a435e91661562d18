-- What is looked up by name in a netlist.
use Rattle.std.specs.Prelude.{◌≡◌, ℕ, List, map}
use Rattle.vrt_model.specs.declared.design.Cell.{Cell}
use Rattle.vrt_model.specs.declared.design.Design.{Design}

-- the names of the cells in their order: the place of a name is the number of its cell
abbrev pub AreNames : Design → List (List ℕ) → Type 0
AreNames design names = names ≡ map (λ (c : Cell). c.name) design.cells
