-- Of which comparisons the calls speak, and what they say of each.
use Rattle.std.specs.Prelude.{◌≡◌, ◌<◌, ◌≤◌, ℕ, Bool, All, List, length}
use Rattle.phase_wishes.specs.Wishes.{AreOutputWishes}
use Rattle.phase_wishes.specs.declared.wishes.Wish.{Wish}
use Rattle.vrt_model.specs.Comparison.{Comparison, is_observed, port_nets}
use Rattle.vrt_model.specs.Lists.{Among, mark_at}
use Rattle.vrt_model.specs.declared.circuit.Circuit.{Circuit}
use Rattle.vrt_model.specs.declared.design.Cell.{Cell}
use Rattle.vrt_model.specs.declared.design.Design.{Design}
use Rattle.vrt_model.specs.declared.pairing.Pairing.{Pairing}
use Rattle.vrt_model.specs.declared.rules.Rules.{Rules}

-- ---- outputs

-- a comparison of this cell, with these rules and this pairing of its ports
pub record IsOfCell (design : Design) (rules : Rules) (cell : ℕ) (pairing : Pairing) (k : Comparison) : Type 0 where
  pub design_is : k.design ≡ design
  pub rules_are : k.rules ≡ rules
  pub cell_is : k.cell ≡ cell
  pub pairing_is : k.pairing ≡ pairing

-- what the output ports ought to have in a phase, in each comparison of the cell
abbrev pub AreOutputWishesOf : Design → Rules → ℕ → Pairing → ℕ → List Wish → Type 0
AreOutputWishesOf design rules cell pairing phase wishes =
    (k : Comparison) → IsOfCell design rules cell pairing k → AreOutputWishes k phase wishes

-- the wish is at the net of a port of the cell
abbrev pub IsAtPort : Rules → Cell → Wish → Type 0
IsAtPort rules cell wish = Among (port_nets rules cell.ports) wish.net.0

-- the ports of the cell are at nets of the circuit
abbrev pub ArePortsWithin : Rules → Cell → Circuit → Type 0
ArePortsWithin rules cell circuit = All (λ net. net < length circuit.nets) (port_nets rules cell.ports)

-- there are no more wishes than nets
abbrev pub AreFew : Rules → Cell → List Wish → Type 0
AreFew rules cell wishes = (circuit : Circuit) → ArePortsWithin rules cell circuit → length wishes ≤ length circuit.nets

-- ---- observed nets

-- a comparison of this circuit with these rules
pub record IsOfCircuit (design : Design) (rules : Rules) (circuit : Circuit) (k : Comparison) : Type 0 where
  pub design_is : k.design ≡ design
  pub rules_are : k.rules ≡ rules
  pub circuit_is : k.circuit ≡ circuit

-- the marks are those of the observed nets, in each comparison of the circuit and each phase in which this is what the output
-- ports ought to have
abbrev pub AreMarksWith : Design → Rules → Circuit → List Wish → List Bool → Type 0
AreMarksWith design rules circuit outputs marks =
    (k : Comparison) (phase : ℕ) → IsOfCircuit design rules circuit k → AreOutputWishes k phase outputs → (n : ℕ) → mark_at marks n ≡ is_observed k phase n

-- the marks are those of the nets that are observed in a phase, in each comparison of the cell and of this circuit
abbrev pub AreMarksOf : Design → Rules → ℕ → Circuit → Pairing → ℕ → List Bool → Type 0
AreMarksOf design rules cell circuit pairing phase marks =
    (k : Comparison) → IsOfCell design rules cell pairing k → k.circuit ≡ circuit → (n : ℕ) → mark_at marks n ≡ is_observed k phase n
