use Rattle.std.proofs.Common.{◌≡◌, ℕ, List, subst}
use Rattle.std.specs.Prelude.{IfOk}
use Rattle.mode_lines.specs.Lines.{replay_lines}
use Rattle.verity_run.proofs.ReplayLaws.{lines_told}
use Rattle.vrt_model.specs.declared.circuit.Circuit.{Circuit}
use Rattle.verity_run.proofs.replays.lines_at.Goals as goal

pub returns-in-Ok : goal.returns-in-Ok
returns-in-Ok c =
    let made = c.args.made.now in
    lines_told c.point_of-at.result c.args.inputs.now.design c.args.inputs.now.rules c.args.number c.args.place made c.args.vars.now c.point_of-at.ensures c.args.phase.now c.cell_of-cell.result.now
    c.args.bits.now c.meets_at-meets.result c.in-Ok.values.bare c.in-Ok.values.kept c.replay_lines.result c.requires.sources c.requires.phase c.cell_of-cell.ensures
    (c.meets_at-meets.ensures made.pairing made.model) (λ are. (c.in-Ok.ensures made.pairing made.model are).1)
    (subst
    (λ (x : Circuit). IfOk c.replay_lines.result (λ (lines : List (List ℕ)). lines ≡ replay_lines c.cell_of-cell.result.now.name c.args.phase.now.name c.meets_at-meets.result x c.in-Ok.values.bare c.in-Ok.values.kept))
    c.circuit.ensures c.replay_lines.ensures)
