use Rattle.std.proofs.Common.{◌∙◌, ap, List, ℕ}
use Rattle.std.specs.Prelude.{bytes_eq, position, unwrap_or}
use Rattle.blif_flat.proofs.PlaceLaws.{own_is, placed_is}
use Rattle.blif_flat.proofs.places.sub_place.Goals as goal

pub returns-clause-place : goal.returns-clause-place
returns-clause-place c =
    own_is c.args.blif.now c.args.signals.now c.number_of-model.result c.in_ok-tied.tied c.in_ok-inner.inner c.requires.lists c.in_ok-inner.ensures

pub returns-clause-is_placed : goal.returns-clause-is_placed
returns-clause-is_placed c =
    placed_is c.args.blif.now c.args.tables.now c.args.place.now c.args.number c.args.base c.args.sub.now c.number_of-model.result c.in_ok-path_of.field-0 _ c.in_ok-actuals_of.field-0 c.as_slice.result.now c.as_slice-2.result.now
    c.requires.tables c.requires.is_place c.requires.fits
    (c.number_of-model.ensures ∙ ap (λ (b : List ℕ). unwrap_or (position (bytes_eq b) c.args.tables.now.names) 0) c.as_bytes.ensures) c.in_ok-path_of.ensures c.as_slice.ensures c.in_ok-tied.ensures
    c.as_slice-2.ensures c.in_ok-actuals_of.ensures
