use Rattle.flat_devices.proofs.KeeperNotes.{keeper_added}
use Rattle.flat_devices.proofs.device_tables.add_keeper.Goals as goal

pub returns-in_ok-number-in-Some : goal.returns-in_ok-number-in-Some
returns-in_ok-number-in-Some c other =
    keeper_added c.args.rules.now c.args.place c.in-Some.rule.now c.args.names.now c.number.new.self c.as_bytes.result.now other c.in-Some.ensures c.in_ok-number-in-Some.ensures.names c.as_bytes.ensures
