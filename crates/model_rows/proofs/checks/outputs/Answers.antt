use Rattle.std.proofs.Common.{◌≡◌, ℕ, ◌++◌, List, map, ap₂, ◌∙◌}
use Rattle.vrt_model.specs.declared.flat_model.Cover.{Cover}
use Rattle.vrt_model.specs.declared.flat_model.FlatLatch.{FlatLatch}
use Rattle.model_rows.proofs.checks.outputs.Goals as goal

pub returns : goal.returns
returns c =
    let flat = c.args.flat.now in
    let covers : c.add_outputs.new.list ≡ map (λ (x : Cover). x.output) flat.covers =
    c.in_ok-add_outputs.ensures ∙ ap₂ (λ (a : List ℕ) (b : List Cover). a ++ map (λ (x : Cover). x.output) b) c.new-list.ensures c.as_slice.ensures in
    c.in_ok-add_latch_outputs.ensures ∙ ap₂ (λ (a : List ℕ) (b : List FlatLatch). a ++ map (λ (x : FlatLatch). x.output) b) covers c.as_slice-2.ensures
