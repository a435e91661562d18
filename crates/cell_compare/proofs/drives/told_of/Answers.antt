-- What is found is the verdict, and the drives are told where all phases are equal.
use Rattle.std.proofs.Common.{List, length, map, subst, sym, ◌∙◌}
use Rattle.cell_compare.proofs.DriveLaws.{drives_with}
use Rattle.cell_compare.proofs.PortLaws.{own_levels}
use Rattle.cell_compare.proofs.WorkspaceLaws.{verdict_of, whole_is}
use Rattle.cell_compare.specs.Workspace.{View, compared_in}
use Rattle.cell_room.specs.Compared.{comparison}
use Rattle.cell_room.specs.Made.{circuit_in}
use Rattle.lone_outputs.specs.Lone.{AreLoneBefore, AreOutputNets}
use Rattle.port_drives.specs.Drives.{AreOwnLevels, ArePortDrives}
use Rattle.vrt_model.specs.Comparison.{Comparison}
use Rattle.vrt_model.specs.declared.ids.Net.{Net}
use Rattle.cell_compare.proofs.drives.told_of.Goals as goal

pub search-requires-clause-outputs : goal.search-requires-clause-outputs
search-requires-clause-outputs c = c.in_ok-ports.ensures.nets

pub returns-clause-verdict : goal.returns-clause-verdict
returns-clause-verdict c =
    let w = c.args.workspace.now in
    let s = c.sound.ensures in
    verdict_of w.design w.blif w.rules w.cell w.made c.args.facts.now s.inputs s.made c.requires.facts c.requires.checked w.budget c.in_ok-verdict.verdict s.budget.1 c.in_ok-verdict.ensures.checked

pub returns-clause-drives : goal.returns-clause-drives
returns-clause-drives c =
    let w = c.args.workspace.now in
    let s = c.sound.ensures in
    let facts = c.args.facts.now in
    let k = comparison w.design w.rules w.cell w.made.flattened in
    let ports = c.search.new.ports in
    let same = c.search.ensures.nets ∙ c.in_ok-ports.ensures.nets in
    let nets = subst (AreOutputNets k) (sym same) s.made.outputs in
    let alone = subst (λ (ns : List Net). AreLoneBefore k (length k.rules.phases) (map (λ (n : Net). n.0) ns) w.made.lone.items) (sym same) s.made.lone in
    let is = subst (λ (v : View). ArePortDrives (circuit_in v.made) facts v.made.lone.items ports c.in_ok-drives.drives) c.search.ensures.rest c.in_ok-drives.ensures in
    let whole = whole_is w.design w.blif w.rules w.cell w.made facts s.inputs s.made c.requires.facts c.requires.checked in
    λ equal.
    drives_with k w.blif facts w.made.lone.items ports c.in_ok-drives.drives nets alone (circuit_in w.made) c.requires.checked is
    (subst (λ (x : Comparison). AreOwnLevels x facts ports.nets ports.levels.items) (sym whole)
    (subst (λ (ns : List Net). AreOwnLevels (compared_in w) facts ns ports.levels.items) (sym c.search.ensures.nets) (own_levels (compared_in w) facts c.in_ok-ports.ports.nets ports.levels.items (c.in_ok-verdict.ensures.ports equal))))
