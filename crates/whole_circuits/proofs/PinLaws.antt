-- The pins of an instance by the ports of its cell without their names.
use Rattle.std.proofs.Common.{◌≡◌, ℕ, suc, ◌+◌, ◌⊎◌, Bool, false, List, [], ◌∷◌, ◌++◌, inl, inr, length, map, Option, Some, None, ap, ap₂, refl, sym, ◌∙◌, arith}
use Rattle.std.specs.Prelude.{cond, filter_map, is_some, option_map}
use Rattle.std.specs.List.{cons_option}
use Rattle.std.proofs.lemmas.List.{append-nil}
use Rattle.phase_ports.specs.Ports.{unnamed}
use Rattle.phase_ports.specs.declared.port_list.Port.{Port}
use Rattle.whole_circuits.specs.Pins.{AreDrivesOf, AreObserved, IsAtPorts, drive_at, driven_by, input_pin, pins_by}
use Rattle.vrt_model.proofs.Lists.{no_items}
pub use Rattle.vrt_model.proofs.Lists.{pushed}
use Rattle.vrt_model.specs.Comparison.{CellPort, Comparison, input_signal, is_observed, output_signal, ports_of}
use Rattle.vrt_model.specs.FlatCircuit.{net_id}
use Rattle.vrt_model.specs.Unrolled.{Place}
use Rattle.vrt_model.specs.WholeInstances.{Pin, drive_in, driven_pins, driven_pins_from, input_pins, pins_from}
use Rattle.vrt_model.specs.declared.ids.Net.{Net}
use Rattle.vrt_model.specs.declared.whole.CellFacts.{CellFacts}
use Rattle.vrt_model.specs.declared.whole.Drive.{Drive}
use Rattle.vrt_model.specs.declared.whole.Drive.TheVariants.{Soft}
use Rattle.vrt_model.specs.declared.whole.WholePin.{WholePin}

-- ---- two lists, place by place

-- where one of the two lists is at its end, all is found
pub none_left : {X Y Z : Type 0} (f : List X → List Y → List Z) → ((ys : List Y) → f [] ys ≡ []) → ((xs : List X) → f xs [] ≡ []) → (found all : List Z) (xs : List X) (ys : List Y)
    → found ++ f xs ys ≡ all → (length xs ≡ 0) ⊎ (length ys ≡ 0) → found ≡ all
none_left {X} {Y} {Z} f first second found all xs ys e end =
    sym (append-nil found) ∙ ap (λ (zs : List Z). found ++ zs) (sym (nothing end)) ∙ e
  where
    nothing : (length xs ≡ 0) ⊎ (length ys ≡ 0) → f xs ys ≡ []
    nothing (inl none) = ap (λ (zs : List X). f zs ys) (no_items xs none) ∙ first ys
    nothing (inr none) = ap (λ (zs : List Y). f xs zs) (no_items ys none) ∙ second xs

-- ---- inputs

pub no_nets : (observed : List Bool) (ports : List Port) → pins_by observed ports [] ≡ []
no_nets observed [] = refl
no_nets observed (port ∷ ports) = refl

module _ (k : Comparison) (observed : List Bool) (are : AreObserved k observed) where
  -- the pin of a port
  abbrev input_of : Pin → Option WholePin
  input_of p =
      option_map (λ (s : ℕ). let pin : WholePin = record { net = p.net; signal = s; drive = Soft; observed = is_observed k 0 p.port.net } in pin) (input_signal p.port.role)

  input_is : (port : CellPort) (n : ℕ) → input_pin observed (unnamed port) (net_id n) ≡ input_of (record { port = port; net = net_id n })
  input_is port n =
      ap (λ (b : Bool). option_map (λ (s : ℕ). let pin : WholePin = record { net = net_id n; signal = s; drive = Soft; observed = b } in pin) (input_signal port.role)) (are port.net)

  inputs_are : (ports : List CellPort) (nets : List ℕ) → pins_by observed (map unnamed ports) (map net_id nets) ≡ filter_map input_of (pins_from ports nets)
  inputs_are [] nets = refl
  inputs_are (port ∷ ports) [] = refl
  inputs_are (port ∷ ports) (n ∷ nets) =
      ap₂ (λ (o : Option WholePin) (pins : List WholePin). cons_option o pins) (input_is port n) (inputs_are ports nets)

pub input_pins_are : (k : Comparison) (at : Place) (observed : List Bool) (ports : List Port) (nets : List Net) → IsAtPorts k at ports nets → AreObserved k observed
    → pins_by observed ports nets ≡ input_pins k at
input_pins_are k at observed ports nets is are =
    ap₂ (λ (ps : List Port) (ns : List Net). pins_by observed ps ns) is.ports_are is.nets_are ∙ inputs_are k observed are (ports_of k) at.ports

-- ---- outputs

pub no_driven : (drives : List Drive) (before : ℕ) (ports : List Port) → driven_by drives before ports [] ≡ []
no_driven drives before [] = refl
no_driven drives before (port ∷ ports) = refl

module _ (facts : List CellFacts) (cell : ℕ) (drives : List Drive) (are : AreDrivesOf facts cell drives) where
  outputs_are : (ports : List CellPort) (nets : List ℕ) (j before : ℕ) → before ≡ j
      → driven_by drives before (map unnamed ports) (map net_id nets) ≡ driven_pins_from facts cell j (pins_from ports nets)
  outputs_are [] nets j before e = refl
  outputs_are (port ∷ ports) [] j before e = refl
  outputs_are (port ∷ ports) (n ∷ nets) j before e =
      by_signal (outputs_are ports nets j before e) (outputs_are ports nets (suc j) (before + 1) (omega (arith, e))) (output_signal port.role)
    where
      made : Drive → ℕ → WholePin
      made drive s = record { net = net_id n; signal = s; drive = drive; observed = false }

      same : drive_at drives before ≡ drive_in facts cell j
      same = ap (drive_at drives) e ∙ sym (are j)

      by_signal : driven_by drives before (map unnamed ports) (map net_id nets) ≡ driven_pins_from facts cell j (pins_from ports nets)
          → driven_by drives (before + 1) (map unnamed ports) (map net_id nets) ≡ driven_pins_from facts cell (suc j) (pins_from ports nets)
          → (o : Option ℕ)
          → cons_option (option_map (λ (s : ℕ). made (drive_at drives before) s) o) (driven_by drives (cond (is_some o) (before + 1) before) (map unnamed ports) (map net_id nets))
          ≡ elim o [ None ↦ driven_pins_from facts cell j (pins_from ports nets) | Some s ↦ made (drive_in facts cell j) s ∷ driven_pins_from facts cell (suc j) (pins_from ports nets) ]
      by_signal here later None = here
      by_signal here later (Some s) = ap₂ (λ (d : Drive) (pins : List WholePin). made d s ∷ pins) same later

pub driven_pins_are : (facts : List CellFacts) (k : Comparison) (at : Place) (drives : List Drive) (ports : List Port) (nets : List Net) → IsAtPorts k at ports nets
    → AreDrivesOf facts at.cell drives → driven_by drives 0 ports nets ≡ driven_pins facts k at
driven_pins_are facts k at drives ports nets is are =
    ap₂ (λ (ps : List Port) (ns : List Net). driven_by drives 0 ps ns) is.ports_are is.nets_are ∙ outputs_are facts at.cell drives are (ports_of k) at.ports 0 0 refl
