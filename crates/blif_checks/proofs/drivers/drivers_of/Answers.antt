use Rattle.blif_checks.specs.Mentions.{numbered}
use Rattle.blif_checks.specs.Parts.{part_of}
use Rattle.blif_checks.proofs.DriverLaws.{drivers_are}
use Rattle.blif_checks.proofs.drivers.drivers_of.Goals as goal

pub returns : goal.returns
returns c =
    drivers_are c.args.blif.now (part_of c.args.part c.args.model.now) (numbered c.args.names.now) c.covers_of.result.now c.latches_of.result.now c.subs_of.result.now c.new-list.result c.add_heads.new.list c.add_covers.new.list c.add_latches.new.list
    c.add_subs.new.list c.new-list.ensures c.covers_of.ensures c.latches_of.ensures c.subs_of.ensures c.in_ok-add_heads.ensures c.in_ok-add_covers.ensures c.in_ok-add_latches.ensures c.in_ok-add_subs.ensures
