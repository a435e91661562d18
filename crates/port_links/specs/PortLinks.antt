-- The links of a cell's ports in a phase, by the definition of whole instances.
use Rattle.std.specs.Prelude.{◌≡◌, ℕ, List}
use Rattle.port_links.specs.declared.links.PortLink.{PortLink}
use Rattle.vrt_model.specs.Comparison.{CellPort, Comparison, ports_of}
use Rattle.vrt_model.specs.Lists.{Among}
use Rattle.vrt_model.specs.WholeInstances.{Links, is_named_port}
use Rattle.vrt_model.specs.declared.circuit.Circuit.{Circuit}
use Rattle.vrt_model.specs.declared.design.Design.{Design}
use Rattle.vrt_model.specs.declared.flat_model.FlatModel.{FlatModel}
use Rattle.vrt_model.specs.declared.pairing.Pairing.{Pairing}
use Rattle.vrt_model.specs.declared.rules.Rules.{Rules}
use Rattle.phase_ports.specs.Comparisons.{IsOfCell}

-- the link by the places of two ports, marked where the first is named in the phase
abbrev pub port_link : Comparison → ℕ → CellPort → CellPort → PortLink
port_link k phase from to = record { from = from.place; to = to.place; named = is_named_port k phase from }

-- the links are exactly those of the ports of the cell to its outputs
pub record HasPortLinks (k : Comparison) (phase : ℕ) (links : List PortLink) : Type 0 where
  pub sound :
      (link : PortLink) → Among links link
      → (from : CellPort) × (to : CellPort) × Among (ports_of k) from × Among (ports_of k) to × Links k phase from to × (link ≡ port_link k phase from to)
  pub full : (from to : CellPort) → Among (ports_of k) from → Among (ports_of k) to → Links k phase from to → Among links (port_link k phase from to)

-- so in each comparison of the cell, of this circuit and of this model
abbrev pub ArePortLinks : Design → Rules → ℕ → Circuit → Pairing → FlatModel → ℕ → List PortLink → Type 0
ArePortLinks design rules cell circuit pairing model phase links =
    (k : Comparison) → IsOfCell design rules cell pairing k → k.circuit ≡ circuit → k.model ≡ model → HasPortLinks k phase links
