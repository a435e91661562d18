-- What the instances of a flattened cell have in common, and whether they may be left whole.
use Rattle.std.proofs.Common.{◌≡◌, ℕ, suc, ◌+◌, ◌&&◌, Bool, true, false, List, [], ◌∷◌, map, length, Some, None, ap, refl, subst, sym, ◌∙◌}
use Rattle.std.proofs.lemmas.Bool.{false≢true}
use Rattle.std.proofs.lemmas.Option.{none-some, same_Some}
use Rattle.phase_ports.proofs.PortLaws.{ports_shown}
use Rattle.phase_ports.proofs.RangeLaws.{ports_below}
use Rattle.phase_ports.specs.Comparisons.{AreMarksOf, ArePortsWithin, IsOfCell}
use Rattle.phase_ports.specs.Ports.{next_by, ports_by, supply_bit, unnamed}
use Rattle.phase_ports.specs.declared.port_list.Port.{Port}
use Rattle.vrt_model.specs.FlatBlif.{model_at}
use Rattle.vrt_model.specs.Lists.{is_empty}
use Rattle.whole_circuits.proofs.FlatLaws.{flat_parts}
use Rattle.whole_circuits.specs.Pins.{AreDrivesOf}
use Rattle.whole_circuits.specs.WholeCells.{HasWholeCell}
use Rattle.whole_circuits.specs.declared.whole_cell.WholeCell.{WholeCell}
use Rattle.vrt_model.specs.Checked.{has_fact, is_cell_allowed, keeps_inputs_free, names_no_global, observes_outputs}
use Rattle.vrt_model.specs.Comparison.{Comparison, cell_at, port_nets, ports_from, ports_of}
use Rattle.vrt_model.specs.FlatCircuit.{flat_circuit}
use Rattle.vrt_model.specs.PairedPorts.{Model, Missing, Paired, Skipped, model_of_paired, paired_model, pairing_of}
use Rattle.vrt_model.specs.Unrolled.{Top}
use Rattle.vrt_model.specs.Unsupported.{comparison_of, top_before}
use Rattle.vrt_model.specs.declared.blif.Blif.{Blif}
use Rattle.vrt_model.specs.declared.design.Design.{Design}
use Rattle.vrt_model.specs.declared.flat_model.FlatModel.{FlatModel}
use Rattle.vrt_model.specs.declared.pairing.Pairing.{Pairing}
use Rattle.vrt_model.specs.declared.pairing.PortRole.{PortRole}
use Rattle.vrt_model.specs.declared.rules.Rules.{Rules}
use Rattle.vrt_model.specs.declared.whole.CellFacts.{CellFacts}
use Rattle.whole_cells.specs.Entries.{IsAllowed, IsEntry, IsOfOwn}
use Rattle.whole_cells.specs.Links.{ArePhasesLinked}
use Rattle.whole_cells.specs.Own.{IsOwn}
use Rattle.whole_cells.specs.declared.own.Own.{Own}

-- ---- bits and models

together : (a b c : Bool) → (a && b && c) ≡ (a && (b && c))
together true b c = refl
together false b c = refl

-- a cell with the number of a model pairs with it
pub some_model : (paired : Paired) (m : ℕ) → Some m ≡ model_of_paired paired → paired ≡ Model m
some_model (Model n) m e = ap Model (sym (same_Some m n e))
some_model Skipped m e = absurd (none-some m (sym e))
some_model Missing m e = absurd (none-some m (sym e))

-- ---- what they have in common

pub has_common : (design : Design) (rules : Rules) (cell : ℕ) (own : Own) (whole : WholeCell) (k : Comparison)
    → IsOfCell design rules cell own.pairing k → k.circuit ≡ own.circuit → k.model ≡ own.model
    → whole.model ≡ own.model → whole.clocked ≡ own.pairing.clocked → whole.ports.items ≡ map unnamed (ports_of k)
    → AreMarksOf design rules cell own.circuit own.pairing 0 whole.observed.items → ArePhasesLinked design rules cell own (length rules.phases) whole.links
    → HasWholeCell k whole
has_common design rules cell own whole k of circuit_is model_is model clocked ports marks linked = record {
  model = model ∙ sym model_is;
  clocked = clocked ∙ sym (ap (λ (p : Pairing). p.clocked) of.pairing_is);
  ports = ports;
  observed = λ n. marks k of circuit_is n;
  links = record {
    each = linked.each ∙ sym (ap (λ (r : Rules). length r.phases) of.rules_are);
    are = λ phase links here. linked.are phase links here k of circuit_is model_is;
  };
}

-- ---- the comparison of the cell

by_length : (place next : ℕ) (roles : List PortRole) → length (ports_by place next roles) ≡ length roles
by_length place next [] = refl
by_length place next (role ∷ roles) = ap suc (by_length (place + 1) (next_by (supply_bit role) next) roles)

module _ (design : Design) (blif : Blif) (rules : Rules) (cell m : ℕ) (own : Own) (is : IsOwn design blif rules cell m own) where
  abbrev k : Comparison
  k = comparison_of design blif rules cell m

  pairing_same : k.pairing ≡ own.pairing
  pairing_same = sym (is.pairing_is ∙ ap (λ (f : FlatModel). pairing_of design cell m f rules) is.model_is)

  pub of_cell : IsOfCell design rules cell own.pairing k
  of_cell = record { design_is = refl; rules_are = refl; cell_is = refl; pairing_is = pairing_same }

  pub circuit_same : k.circuit ≡ own.circuit
  circuit_same = ap (flat_circuit design rules cell) pairing_same ∙ sym is.circuit.is

  pub model_same : k.model ≡ own.model
  model_same = sym is.model_is

  pub of_own : IsOfOwn design rules cell own.circuit k
  of_own = record { design_is = refl; rules_are = refl; cell_is = refl; circuit_is = circuit_same }

  pub ports_same : ports_by 0 2 own.pairing.ports ≡ map unnamed (ports_of k)
  ports_same =
      ports_shown rules (cell_at design cell) own.pairing is.roles
      ∙ ap (λ (p : Pairing). map unnamed (ports_from 0 (cell_at design cell).ports (port_nets rules (cell_at design cell).ports) p.ports)) (sym pairing_same)

  -- there are as many as the cell has
  pub ports_count : (whole : WholeCell) → HasWholeCell k whole → length whole.ports.items ≡ length (cell_at design cell).ports
  ports_count whole has = ap (λ (ps : List Port). length ps) (has.ports ∙ sym ports_same) ∙ by_length 0 2 own.pairing.ports ∙ is.roles.each

  pub within : ArePortsWithin rules (cell_at design cell) own.circuit
  within =
      ports_below (record { design = design; rules = rules; cell = cell; roles = own.pairing.ports }) own.circuit
      (flat_parts (record { design = design; rules = rules; cell = cell; roles = own.pairing.ports }) own.circuit is.circuit.is).nets

-- ---- entries

-- a list without an item
pub none_listed : {X : Type 0} (xs : List X) → is_empty xs ≡ true → xs ≡ []
none_listed [] e = refl
none_listed (x ∷ xs) e = absurd (false≢true e)

module _ (design : Design) (blif : Blif) (rules : Rules) (facts : List CellFacts) (cell : ℕ) where
  abbrev t : Top
  t = top_before design rules cell

  abbrev of_model : ℕ → Comparison
  of_model m = comparison_of design blif rules cell m

  abbrev known : Bool
  known = has_fact (λ (f : CellFacts). f.equal && f.stateless) facts cell

  abbrev passing : ℕ → Bool
  passing m = names_no_global t cell && (observes_outputs (of_model m) && keeps_inputs_free (of_model m))

  allowed_is : (m : ℕ) → known ≡ true → is_cell_allowed t facts (of_model m) ≡ passing m
  allowed_is m told =
      ap (λ (b : Bool). b && names_no_global t cell && observes_outputs (of_model m) && keeps_inputs_free (of_model m)) told
      ∙ together (names_no_global t cell) (observes_outputs (of_model m)) (keeps_inputs_free (of_model m))

  one_model : (m n : ℕ) → Model m ≡ Model n → m ≡ n
  one_model m n e = cc

  -- nothing is told of it
  pub unknown_entry : known ≡ false → IsEntry t blif facts cell None
  unknown_entry untold m paired allowed =
      false≢true (sym (ap (λ (b : Bool). b && names_no_global t cell && observes_outputs (of_model m) && keeps_inputs_free (of_model m)) untold) ∙ allowed.0)

  -- it pairs with no model
  pub unpaired_entry : None ≡ model_of_paired (paired_model design blif rules cell) → IsEntry t blif facts cell None
  unpaired_entry none m paired allowed = none-some m (none ∙ ap model_of_paired paired)

  module _ (m : ℕ) (paired : paired_model design blif rules cell ≡ Model m) (told : known ≡ true) where
    same_model : (n : ℕ) → paired_model design blif rules cell ≡ Model n → m ≡ n
    same_model n other = one_model m n (sym paired ∙ other)

    -- it does not pass
    pub refused_entry : (free : Bool) → free ≡ passing m → free ≡ false → IsEntry t blif facts cell None
    refused_entry free is out n other allowed =
        false≢true (sym out ∙ is ∙ sym (allowed_is m told) ∙ (subst (λ (x : ℕ). IsAllowed t blif facts cell x) (sym (same_model n other)) allowed).0)

    -- its model has a don't-care network
    pub networked_entry : is_empty (model_at blif m).exdc ≡ false → IsEntry t blif facts cell None
    networked_entry some n other allowed =
        false≢true (sym some ∙ ap is_empty (subst (λ (x : ℕ). IsAllowed t blif facts cell x) (sym (same_model n other)) allowed).1)

    -- it passes
    pub passed_entry : (model_at blif m).exdc ≡ [] → (free : Bool) → free ≡ passing m → free ≡ true → (whole : WholeCell) → HasWholeCell (of_model m) whole → AreDrivesOf facts cell whole.drives → length whole.ports.items ≡ length (cell_at design cell).ports
        → IsEntry t blif facts cell (Some whole)
    passed_entry cared free is past whole has drives count = record {
      cell = record { number = m; paired = paired; has = has; drives = drives };
      allowed = λ n other. subst (λ (x : ℕ). IsAllowed t blif facts cell x) (same_model n other) (allowed_is m told ∙ sym is ∙ past, cared);
      ports = count;
    }
