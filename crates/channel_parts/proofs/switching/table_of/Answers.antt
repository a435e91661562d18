use Rattle.known_nets.proofs.WiredLaws.{flat_wired}
use Rattle.channel_parts.proofs.switching.table_of.Goals as goal

pub known_nets-requires : goal.known_nets-requires
known_nets-requires c = flat_wired c.args.circuit.now c.requires
