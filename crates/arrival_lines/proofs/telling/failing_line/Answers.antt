use Rattle.std.proofs.Common.{◌≡◌, [], ℕ, List, ap, subst, ◌∙◌}
use Rattle.std.specs.Prelude.{IfOk, slice_get, unwrap_or}
use Rattle.arrival_lines.proofs.SettingLaws.{same_line}
use Rattle.vrt_model.specs.declared.design.Cell.{Cell}
use Rattle.vrt_model.specs.declared.rules.Phase.{Phase}
use Rattle.arrival_lines.proofs.telling.failing_line.Goals as goal

pub returns : goal.returns
returns c =
    subst (λ (line : List ℕ). IfOk c.no_line.result (λ text. text ≡ line))
    (same_line c.as_bytes.result.now _ c.as_bytes-2.result.now _ c.port_name.result.now _ c.as_slice.result.now _ c.args.bits.now (c.as_bytes.ensures ∙ ap (λ (d : Cell). d.name) c.cell_of-own.ensures)
    (c.as_bytes-2.ensures ∙ ap (λ (p : Phase). p.name) c.phase_of.ensures) (c.port_name.ensures ∙ ap (λ (d : Cell). unwrap_or (slice_get d.ports c.args.port) []) c.cell_of-own.ensures)
    (c.as_slice.ensures ∙ c.in_ok-names.ensures c.args.design.now c.args.rules.now c.args.cell)) c.no_line.ensures
