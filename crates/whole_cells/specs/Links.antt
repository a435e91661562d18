-- The links of the ports of a cell, for each phase.
use Rattle.std.specs.Prelude.{◌≡◌, ℕ, List, length}
use Rattle.port_links.specs.PortLinks.{ArePortLinks}
use Rattle.port_links.specs.declared.links.PortLink.{PortLink}
use Rattle.vrt_model.specs.Lists.{At}
use Rattle.vrt_model.specs.declared.design.Design.{Design}
use Rattle.vrt_model.specs.declared.rules.Rules.{Rules}
use Rattle.whole_cells.specs.declared.own.Own.{Own}

-- the links of the first phases, of so many
pub record ArePhasesLinked (design : Design) (rules : Rules) (cell : ℕ) (own : Own) (count : ℕ) (all : List (List PortLink)) : Type 0 where
  pub each : length all ≡ count
  pub are : (phase : ℕ) (links : List PortLink) → At all phase links → ArePortLinks design rules cell own.circuit own.pairing own.model phase links
