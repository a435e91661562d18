use Rattle.std.proofs.Common.{List, [], ◌∷◌, ◌++◌, subst, sym}
use Rattle.std.specs.List.{AllZip}
use Rattle.whole_circuits.proofs.ZipLaws.{zip_more}
use Rattle.vrt_model.specs.WholeInstances.{IsWholeAt}
use Rattle.vrt_model.specs.declared.whole.Whole.{Whole}
use Rattle.whole_circuits.proofs.wholes.add_whole.Goals as goal

pub returns : goal.returns
returns c cut blif facts d p before phases has on is placed all =
    subst (λ (ws : List Whole). AllZip (IsWholeAt cut blif facts) (before ++ p ∷ []) ws) (sym c.in_ok-append.ensures)
    (zip_more (IsWholeAt cut blif facts) before c.args.wholes.now p c.in_ok-whole.whole all (c.in_ok-whole.ensures cut blif facts d p phases has on is placed))
