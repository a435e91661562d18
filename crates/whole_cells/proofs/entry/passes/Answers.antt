use Rattle.std.proofs.Common.{◌&&◌, Bool, [], ap₂, refl, sym, ◌∙◌}
use Rattle.vrt_model.specs.Comparison.{cell_at}
use Rattle.vrt_model.specs.Unsupported.{top_before}
use Rattle.whole_cells.proofs.entry.passes.Goals as goal

pub returns : goal.returns
returns c k of ports =
    c.both.ensures
    ∙ ap₂ (λ (a b : Bool). a && b) (c.names_no_global-none.ensures (top_before c.args.design.now c.args.rules.now c.args.cell) refl (c.requires.places []))
    (c.both-inside.ensures
    ∙ ap₂ (λ (a b : Bool). a && b)
    (c.observes_outputs-seen.ensures k of.rules_are (ap₂ cell_at of.design_is of.cell_is ∙ sym c.cell_of.ensures) ports)
    (c.keeps_inputs_free-free.ensures k of.circuit_is ports))
