use Rattle.std.proofs.Common.{rules}
use Rattle.rules_reader.proofs.GroupLaws.{by_group}
use Rattle.rules_reader.proofs.entry_rules.add_entry.Goals as goal

pub returns-in-SupplyLine : goal.returns-in-SupplyLine
returns-in-SupplyLine c = by_group _ _ _ c.args.entry.now _ _ _ _ (search rules) (c.add_on_devices.ensures _ _)

pub returns-in-PairLine : goal.returns-in-PairLine
returns-in-PairLine c = by_group _ _ _ c.args.entry.now _ _ _ _ (search rules) (c.add_on_cells.ensures _ _)

pub returns-in-MatchLine : goal.returns-in-MatchLine
returns-in-MatchLine c = by_group _ _ _ c.args.entry.now _ _ _ _ (search rules) (c.add_on_latches.ensures _ _)

pub returns-in-PhaseLine : goal.returns-in-PhaseLine
returns-in-PhaseLine c = by_group _ _ _ c.args.entry.now _ _ _ _ (search rules) (c.add_on_clocks.ensures _)

pub returns-in-EnterLine : goal.returns-in-EnterLine
returns-in-EnterLine c = by_group _ _ _ c.args.entry.now _ _ _ _ (search rules) (c.add_on_phases.ensures _)
