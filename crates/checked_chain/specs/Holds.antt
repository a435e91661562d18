-- The nets and holds of the circuits of a chain: the variables, what a valuation gives, and the constraints are those of the flat
-- circuit.
use Rattle.std.specs.Prelude.{◌≡◌, ◌↔◌, ℕ, Bool, true, false, List, map, Some, None}
use Rattle.vrt_model.specs.Checked.{IsCircuitWith, top_of, with_circuit}
use Rattle.vrt_model.specs.Comparison.{Comparison}
use Rattle.vrt_model.specs.Constraints.{Meets}
use Rattle.vrt_model.specs.Cut.{Cut, is_inside_whole, is_instance_shown}
use Rattle.vrt_model.specs.FlatCircuit.{Ruled, flat_circuit_of, flat_holds, rule_on}
use Rattle.vrt_model.specs.Groups.{groups_of}
use Rattle.vrt_model.specs.Held.{setting_of, sources_of, variable_names}
use Rattle.vrt_model.specs.Lists.{Among}
use Rattle.vrt_model.specs.declared.blif.Blif.{Blif}
use Rattle.vrt_model.specs.declared.circuit.Circuit.{Circuit}
use Rattle.vrt_model.specs.declared.circuit.Hold.{Hold}
use Rattle.vrt_model.specs.declared.circuit.HoldEnd.{HoldEnd}
use Rattle.vrt_model.specs.declared.circuit.HoldEnd.TheVariants.{Own, Latch}
use Rattle.vrt_model.specs.declared.flat_model.FlatModel.{FlatModel}
use Rattle.vrt_model.specs.declared.whole.CellFacts.{CellFacts}

-- ---- ends

-- the instance that an end names, where it names one, is not inside a whole one
abbrev pub IsEndShown : Cut → HoldEnd → Type 0
IsEndShown cut (Own n) = Unit {0}
IsEndShown cut (Latch None element) = Unit {0}
IsEndShown cut (Latch (Some i) element) = is_instance_shown cut i ≡ true

-- that of each hold is not
abbrev pub AreEndsShown : Cut → Type 0
AreEndsShown cut = (h : Hold) → Among (flat_holds cut.top) h → IsEndShown cut h.end

-- The law: it is so where no hold is given by a rule for a cell inside a whole instance.
abbrev pub EndsStayShown : Type 0
EndsStayShown =
    (cut : Cut) → ((n : ℕ) (one : Ruled) → rule_on cut.top n ≡ Some one → is_inside_whole cut one.at ≡ false) → AreEndsShown cut

-- The law: then the groups of the holds are those of the flat circuit.
abbrev pub GroupsAreSame : Type 0
GroupsAreSame =
    (cut : Cut) (blif : Blif) (facts : List CellFacts) (c : Circuit) (model : FlatModel)
    → AreEndsShown cut → IsCircuitWith cut blif facts c → groups_of c model ≡ groups_of (flat_circuit_of cut.top) model

-- ---- holds but for their ends

-- a hold, as if it stood for its own net
abbrev pub without_end : Hold → Hold
without_end h = record h { end = Own h.net }

-- two circuits have the same nets, and holds that are the same but for their ends
pub record HaveSameHolds (c d : Circuit) : Type 0 where
  pub nets : c.nets ≡ d.nets
  pub holds : map without_end c.holds ≡ map without_end d.holds

-- The law: each circuit of the chain has those of the flat circuit.
abbrev pub ChainKeepsHolds : Type 0
ChainKeepsHolds =
    (cut : Cut) (blif : Blif) (facts : List CellFacts) (c : Circuit) → IsCircuitWith cut blif facts c → HaveSameHolds c (flat_circuit_of cut.top)

-- ---- what a valuation gives

-- the circuit is one of the chain of this comparison, whose own circuit is the flat one
pub record IsOfChain (k : Comparison) (blif : Blif) (facts : List CellFacts) (cut : Cut) (c : Circuit) : Type 0 where
  pub top : cut.top ≡ top_of k
  pub flat : k.circuit ≡ flat_circuit_of cut.top
  pub groups : k.groups ≡ groups_of k.circuit k.model
  pub circuit : IsCircuitWith cut blif facts c
  pub ends : AreEndsShown cut

-- The law: in it the variables are the same, and a valuation gives the same.
abbrev pub SettingsAreSame : Type 0
SettingsAreSame =
    (k : Comparison) (blif : Blif) (facts : List CellFacts) (cut : Cut) (c : Circuit) → IsOfChain k blif facts cut c
    → (phase : ℕ) (bits : List Bool)
    → (sources_of (with_circuit k c) phase ≡ sources_of k phase) × (setting_of (with_circuit k c) phase bits ≡ setting_of k phase bits)

-- The law: the variables have the same names.
abbrev pub VariablesAreSame : Type 0
VariablesAreSame =
    (k : Comparison) (blif : Blif) (facts : List CellFacts) (cut : Cut) (c : Circuit) → IsOfChain k blif facts cut c
    → (phase : ℕ) → variable_names (with_circuit k c) phase ≡ variable_names k phase

-- The law: the same valuations meet the constraints.
abbrev pub ConstraintsAreSame : Type 0
ConstraintsAreSame =
    (k : Comparison) (blif : Blif) (facts : List CellFacts) (cut : Cut) (c : Circuit) → IsOfChain k blif facts cut c
    → (phase : ℕ) (bits : List Bool) → Meets (with_circuit k c) phase bits ↔ Meets k phase bits
