use Rattle.flat_devices.proofs.StrengthNotes.{devices_noted}
use Rattle.flat_devices.proofs.device_tables.DeviceTable.fill.Goals as goal

pub returns : goal.returns
returns c =
    devices_noted c.args.rules.now c.args.lines.now c.args.cell.now c.places-strengths.result.now c.places-keepers.result.now
    (record { usual = c.usual_level-self.result; strengths = c.note_strengths.new.table; keepers = c.add_keepers.new.names })
    c.requires.lines c.usual_level-self.ensures c.places-strengths.ensures c.places-keepers.ensures c.in_ok-note_strengths.ensures c.in_ok-add_keepers.ensures
