use Rattle.std.proofs.Common.{◌∙◌, [], ap, map}
use Rattle.names.specs.Names.{with_names}
use Rattle.blif_flat.specs.Places.{number_in}
use Rattle.blif_flat.proofs.PlaceLaws.{clocks_are}
use Rattle.blif_flat.proofs.flat.interface_of.Goals as goal

pub returns : goal.returns
returns c = record {
  inputs = c.in_ok-numbers_of.ensures ∙ ap (map (number_in c.args.place.now)) c.as_slice-2.ensures;
  clocks =
      clocks_are (number_in c.args.place.now) c.in_ok-inputs.inputs c.args.model.now.inputs c.args.model.now.clocks c.as_slice-3.result.now c.in_ok-clocks_of.field-0 (c.in_ok-inputs.ensures ∙ ap (with_names []) c.as_slice.ensures)
      c.as_slice-3.ensures c.in_ok-clocks_of.ensures;
  outputs = c.in_ok-numbers_of-2.ensures ∙ ap (map (number_in c.args.place.now)) c.as_slice-4.ensures;
}
