use Rattle.bdd_core.proofs.Results.{if_ok_more}
use Rattle.phase_wishes.proofs.FoundLaws.{found_wishes}
use Rattle.phase_wishes.specs.Missed.{WishesFind, WishesGive}
use Rattle.phase_wishes.proofs.fault.wish_fault.Goals as goal

pub returns-clause-found : goal.returns-clause-found
returns-clause-found c =
    let old = c.args.store.now in
    let new = c.first_missed.new.store in
    if_ok_more (WishesGive c.args.wishes.now c.args.care c.args.bits old new) (WishesFind c.args.wishes.now c.args.care c.args.bits old new) c.first_missed.result
    (λ found given. found_wishes c.args.wishes.now c.args.care c.args.bits old new c.requires.wishes found given) c.first_missed.ensures.gives
