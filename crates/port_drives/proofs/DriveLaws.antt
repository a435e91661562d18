-- The drives by what is found of the ports are what the facts of the cell say.
use Rattle.std.proofs.Common.{◌≡◌, ◌∷◌, [], ℕ, suc, List, length, map, arith, ap, refl, sym, subst, ◌∙◌}
use Rattle.std.specs.List.{AllZip}
use Rattle.std.proofs.lemmas.List.{length-map}
use Rattle.drive_levels.proofs.PortLaws.{drives_told}
use Rattle.drive_levels.specs.PhaseLevels.{IsLevelBefore}
use Rattle.lone_outputs.proofs.LoneLaws.{ports_alone}
use Rattle.port_drives.proofs.WholeDriveLaws.{drives_found}
use Rattle.port_drives.specs.Drives.{PortDrivesAreTold, port_drive, told_in}
use Rattle.port_drives.specs.Outputs.{whole_drive}
use Rattle.output_levels.specs.PartLevels.{level_at}
use Rattle.vrt_model.proofs.Lists.{at_map, map_at, one_at}
use Rattle.vrt_model.specs.Comparison.{CellPort}
use Rattle.vrt_model.specs.Facts.{IsDriveOf, output_ports}
use Rattle.vrt_model.specs.Lists.{At, mark_at}
use Rattle.vrt_model.specs.WholeInstances.{all_outputs}
use Rattle.vrt_model.specs.declared.ids.Net.{Net}

-- two lists of one length, place by place
zip_by : {X Y : Type 0} (R : X → Y → Type 0) (xs : List X) (ys : List Y) → length ys ≡ length xs → ((j : ℕ) (x : X) (y : Y) → At xs j x → At ys j y → R x y) → AllZip R xs ys
zip_by R [] [] len each = tt
zip_by R [] (y ∷ ys) len each = absurd (omega (arith, len))
zip_by R (x ∷ xs) [] len each = absurd (omega (arith, len))
zip_by R (x ∷ xs) (y ∷ ys) len each = (each 0 x y refl refl, zip_by R xs ys (omega (arith, len)) (λ j a b e f. each (suc j) a b e f))

pub port_drives_told : PortDrivesAreTold
port_drives_told flat k cut blif facts lone ports drives circuit nets alone levels are =
    let outputs = all_outputs cut blif facts in
    let numbers = length-map ports.nets (λ (n : Net). n.0) in
    let others = length-map (output_ports flat) (λ (p : CellPort). p.net) in
    let same = ap (λ (ns : List ℕ). length ns) nets in
    let count = are.count in
    zip_by (IsDriveOf flat k outputs) (output_ports flat) drives (omega (arith, count, numbers, others, same))
    (λ j port drive here there.
    let net : At (map (λ (n : Net). n.0) ports.nets) j port.net = subst (λ (ns : List ℕ). At ns j port.net) (sym nets) (map_at (λ (p : CellPort). p.net) (output_ports flat) j port here) in
    let n = at_map (λ (m : Net). m.0) ports.nets j port.net net in
    let whole = whole_drive k.circuit (told_in facts k.circuit) port.net in
    let by_marks = alone.each j port.net net in
    let by_ports = ports_alone flat ports.nets nets j port here in
    let told : IsDriveOf flat k outputs port (port_drive k.circuit (told_in facts k.circuit) lone ports j port.net) =
    drives_told flat k outputs port (mark_at lone j) whole (level_at ports.levels.items j)
    (record {
      alone = (λ e. by_ports.0 (by_marks.0 e), λ inside. by_marks.1 (by_ports.1 inside));
      output = drives_found k cut blif facts port circuit;
      joined = λ none. subst (λ (m : ℕ). IsLevelBefore k (length k.rules.phases) m (level_at ports.levels.items j)) n.2 (levels j n.0 n.1 (ap (λ (m : ℕ). whole_drive k.circuit (told_in facts k.circuit) m) n.2 ∙ none));
    }) in
    subst (IsDriveOf flat k outputs port)
    (one_at drives j (port_drive k.circuit (told_in facts k.circuit) lone ports j port.net) drive
    (subst (λ (m : ℕ). At drives j (port_drive k.circuit (told_in facts k.circuit) lone ports j m)) n.2 (are.each j n.0 n.1)) there) told)
