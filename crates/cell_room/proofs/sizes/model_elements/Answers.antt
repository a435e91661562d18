use Rattle.std.proofs.Common.{List, ap, ◌∙◌}
use Rattle.std.proofs.lemmas.Result.{IfOk-weaker}
use Rattle.cell_room.proofs.SizeLaws.{elements_are}
use Rattle.cell_room.specs.Sizes.{elements_in}
use Rattle.vrt_model.specs.declared.flat_model.FlatLatch.{FlatLatch}
use Rattle.cell_room.proofs.sizes.model_elements.Goals as goal

pub returns : goal.returns
returns c =
    IfOk-weaker c.elements_of.result _ _ (λ count is. is ∙ (ap (λ (ls : List FlatLatch). elements_in ls) c.as_slice.ensures ∙ elements_are c.args.model.now c.args.model.now.latches)) c.elements_of.ensures
