-- The outputs of the whole instances of a circuit, with their drives in the facts, are all output pins of its whole places.
use Rattle.std.proofs.Common.{◌≡◌, ◌∷◌, ◌++◌, [], ℕ, suc, zero, ◌+◌, ◌≤◌, List, length, map, take, take_all, Option, Some, None, false, arith, refl, ap, ap₂, sym, ◌∙◌}
use Rattle.std.specs.Prelude.{flat_map, slice_get}
use Rattle.std.specs.List.{AllZip, enumerate_from}
use Rattle.std.proofs.lemmas.List.{map-append}
use Rattle.std.proofs.lemmas.List.FromFn.{length-enumerate_from}
use Rattle.std.proofs.lemmas.Option.{none-some, same_Some}
use Rattle.checked_chain.proofs.WholeLaws.{outputs_are, unlinked, whole_beside}
use Rattle.port_drives.specs.Outputs.{told_of, told_pin}
use Rattle.port_drives.specs.declared.outputs.ToldOutput.{ToldOutput}
use Rattle.vrt_model.proofs.Lists.{take_one}
use Rattle.vrt_model.specs.Checked.{IsCircuitWith}
use Rattle.vrt_model.specs.CheckedParts.{checked_devices}
use Rattle.vrt_model.specs.Comparison.{output_signal}
use Rattle.vrt_model.specs.Cut.{Cut, NumberedPlace, whole_places}
use Rattle.vrt_model.specs.Lists.{At}
use Rattle.vrt_model.specs.PairedPorts.{Missing, Model, Paired, Skipped, paired_model}
use Rattle.vrt_model.specs.Unsupported.{comparison_of}
use Rattle.vrt_model.specs.WholeInstances.{IsWholeAt, OutputAt, Pin, all_outputs, drive_in, driven_pins, driven_pins_from, outputs_of_place, pins_of, settled_drive}
use Rattle.vrt_model.specs.declared.blif.Blif.{Blif}
use Rattle.vrt_model.specs.declared.circuit.Circuit.{Circuit}
use Rattle.vrt_model.specs.declared.circuit.Device.{Device}
use Rattle.vrt_model.specs.declared.whole.CellFacts.{CellFacts}
use Rattle.vrt_model.specs.declared.whole.Whole.{Whole}
use Rattle.vrt_model.specs.declared.whole.WholePin.{WholePin}

-- ---- the drives of the output pins of a place

-- the drive of each is that of the facts at its place
drive_is : (facts : List CellFacts) (cell j : ℕ) (pins : List Pin) (l : ℕ) (x : WholePin) → At (driven_pins_from facts cell j pins) l x → x.drive ≡ drive_in facts cell (j + l)
drive_is facts cell j [] l x e = absurd (none-some x e)
drive_is facts cell j (p ∷ pins) l x e = by_signal (output_signal p.port.role) l e (λ n k h. drive_is facts cell n pins k x h)
  where
    by_signal : (o : Option ℕ) → (k : ℕ)
        → slice_get {X = WholePin} (elim o [
          | None ↦ driven_pins_from facts cell j pins
          | Some s ↦ record { net = p.net; signal = s; drive = drive_in facts cell j; observed = false } ∷ driven_pins_from facts cell (suc j) pins
        ]) k ≡ Some x
        → ((n i : ℕ) → At (driven_pins_from facts cell n pins) i x → x.drive ≡ drive_in facts cell (n + i)) → x.drive ≡ drive_in facts cell (j + k)
    by_signal None k h rest = rest j k h
    by_signal (Some s) zero h rest = ap (λ (o : Option WholePin). elim o [ None ↦ x.drive | Some pin ↦ pin.drive ]) (sym h) ∙ ap (λ (n : ℕ). drive_in facts cell n) (omega arith)
    by_signal (Some s) (suc k) h rest = rest (suc j) k h ∙ ap (λ (n : ℕ). drive_in facts cell n) (omega arith)

-- an output pin as it is told
abbrev pub shown : OutputAt → ToldOutput
shown o = record { net = o.pin.net; drive = o.pin.drive }

abbrev one_at : ℕ → ℕ × WholePin → OutputAt
one_at number q = record { instance = number; output = q.0; pin = q.1 }

told_from : (facts : List CellFacts) (cell number : ℕ) (devices : List Device) (outputs : List OutputAt) (n : ℕ) (xs : List WholePin) → ((l : ℕ) (x : WholePin) → At xs l x → x.drive ≡ drive_in facts cell (n + l))
    → map (told_pin facts cell) (enumerate_from n (map (settled_drive devices outputs) (map (one_at number) (enumerate_from n xs)))) ≡ map shown (map (one_at number) (enumerate_from n xs))
told_from facts cell number devices outputs n [] drives = refl
told_from facts cell number devices outputs n (x ∷ xs) drives =
    ap₂ (λ (o : ToldOutput) (os : List ToldOutput). o ∷ os)
    (ap (λ d. let o : ToldOutput = record { net = x.net; drive = d } in o) (ap (λ (m : ℕ). drive_in facts cell m) (omega arith) ∙ sym (drives 0 x refl)))
    (told_from facts cell number devices outputs (n + 1) xs (λ l y e. drives (suc l) y e ∙ ap (λ (m : ℕ). drive_in facts cell m) (omega arith)))

-- ---- one after another

at_numbered : {X : Type 0} (n : ℕ) (xs : List X) (i : ℕ) (x : X) → At xs i x → At (enumerate_from n xs) i (n + i, x)
at_numbered n [] i x e = absurd (none-some x e)
at_numbered {X} n (y ∷ xs) zero x e = ap₂ (λ (m : ℕ) (z : X). Some (m, z)) (omega arith) (same_Some y x e)
at_numbered {X} n (y ∷ xs) (suc i) x e = at_numbered (n + 1) xs i x e ∙ ap (λ (m : ℕ). Some (m, x)) (omega arith)

pub told_more : (facts : List CellFacts) (cell : ℕ) (pins : List WholePin) (i : ℕ) (pin : WholePin) → At pins i pin
    → map (told_pin facts cell) (take (i + 1) (enumerate_from 0 pins)) ≡ map (told_pin facts cell) (take i (enumerate_from 0 pins)) ++ told_pin facts cell (i, pin) ∷ []
told_more facts cell pins i pin at =
    let there : At (enumerate_from 0 pins) i (i, pin) = at_numbered 0 pins i pin at ∙ ap (λ (m : ℕ). Some (m, pin)) (omega arith) in
    ap (λ (qs : List (ℕ × WholePin)). map (told_pin facts cell) qs) (take_one (enumerate_from 0 pins) i (i, pin) there) ∙ map-append (told_pin facts cell) (take i (enumerate_from 0 pins)) ((i, pin) ∷ [])

pub told_all : (facts : List CellFacts) (cell : ℕ) (pins : List WholePin) (i : ℕ) → length pins ≤ i → map (told_pin facts cell) (take i (enumerate_from 0 pins)) ≡ map (told_pin facts cell) (enumerate_from 0 pins)
told_all facts cell pins i past =
    let size = length-enumerate_from 0 pins in
    ap (λ (qs : List (ℕ × WholePin)). map (told_pin facts cell) qs) (take_all i (enumerate_from 0 pins) (omega (arith, size, past)))

-- ---- all places

outputs_by : Cut → Blif → List CellFacts → NumberedPlace → Paired → List OutputAt
outputs_by cut blif facts p paired =
    elim paired [
      | Model m ↦ map (one_at p.number) (enumerate_from 0 (driven_pins facts (comparison_of cut.top.design blif cut.top.rules p.at.cell m) p.at))
      | _ ↦ []
    ]

module _ (cut : Cut) (blif : Blif) (facts : List CellFacts) where
  abbrev outputs_at : NumberedPlace → List OutputAt
  outputs_at p = outputs_of_place cut.top blif facts p

  told_place : (p : NumberedPlace) (w : Whole) → IsWholeAt cut blif facts p w → told_of facts w ≡ map shown (outputs_at p)
  unfolding outputs_by
  told_place p w h = by_paired (paired_model cut.top.design blif cut.top.rules p.at.cell) refl h.whole
    where
      by_paired : (paired : Paired) → paired_model cut.top.design blif cut.top.rules p.at.cell ≡ paired
          → whole_beside cut.top blif facts p (checked_devices cut) (all_outputs cut blif facts) paired ≡ Some (unlinked w) → told_of facts w ≡ map shown (outputs_at p)
      by_paired Skipped same e = absurd (none-some (unlinked w) e)
      by_paired Missing same e = absurd (none-some (unlinked w) e)
      by_paired (Model m) same e =
          let k = comparison_of cut.top.design blif cut.top.rules p.at.cell m in
          let devices = checked_devices cut in
          let all = all_outputs cut blif facts in
          let outs : outputs_at p ≡ map (one_at p.number) (enumerate_from 0 (driven_pins facts k p.at)) = ap (λ (q : Paired). outputs_by cut blif facts p q) same in
          let pins = outputs_are cut.top blif facts p devices devices all all (Model m) w e in
          let cell : w.cell ≡ p.at.cell = sym (ap (λ (o : Option Whole). elim o [ None ↦ 0 | Some x ↦ x.cell ]) e) in
          ap (λ (n : ℕ). map (told_pin facts n) (enumerate_from 0 w.outputs)) cell
          ∙ ap (λ (xs : List WholePin). map (told_pin facts p.at.cell) (enumerate_from 0 xs)) (pins ∙ ap (λ (os : List OutputAt). map (settled_drive devices all) os) outs)
          ∙ told_from facts p.at.cell p.number devices all 0 (driven_pins facts k p.at) (λ l x at. drive_is facts p.at.cell 0 (pins_of k p.at) l x at)
          ∙ sym (ap (λ (os : List OutputAt). map shown os) outs)

  told_places : (places : List NumberedPlace) (wholes : List Whole) → AllZip (IsWholeAt cut blif facts) places wholes → flat_map (told_of facts) wholes ≡ map shown (flat_map outputs_at places)
  told_places [] [] h = refl
  told_places [] (w ∷ wholes) h = absurd h
  told_places (p ∷ places) [] h = absurd h
  told_places (p ∷ places) (w ∷ wholes) h =
      ap₂ (λ (xs ys : List ToldOutput). xs ++ ys) (told_place p w h.0) (told_places places wholes h.1) ∙ sym (map-append shown (outputs_at p) (flat_map outputs_at places))

  pub told_are : (c : Circuit) → IsCircuitWith cut blif facts c → flat_map (told_of facts) c.wholes ≡ map shown (all_outputs cut blif facts)
  told_are c circuit = told_places (whole_places cut) c.wholes circuit.wholes
