use Rattle.std.proofs.Common.{◌∙◌, ap, sym}
use Rattle.flat_sizes.proofs.PlaceLaws.{instances_counted}
use Rattle.vrt_model.specs.Unsupported.{carried, top_before}
use Rattle.flat_sizes.proofs.counts.sizes_by.Goals as goal

pub returns : goal.returns
returns c = record {
  nets = c.all_nets.ensures;
  devices = c.all_devices.ensures;
  instances = c.inner_count.ensures ∙ ap carried (sym (instances_counted (top_before c.args.design.now c.args.rules.now c.args.cell)));
}
