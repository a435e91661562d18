use Rattle.std.proofs.Common.{◌≡◌, ℕ, List, drop}
use Rattle.std.specs.Option.{option_or}
use Rattle.name_tables.specs.Firsts.{IsEven, value_in}
use Rattle.rule_index.specs.Tables.{declared_supply}
use Rattle.rule_index.proofs.supplies.note_supplies.Given as goal

-- what is noted, and else what the rest says, is what all say
abbrev pub invariant-loop-rule : goal.invariant-loop-rule
invariant-loop-rule l = record {
  even : IsEven l.table;
  so_far : (n : List ℕ) → option_or (value_in l.table n) (declared_supply (drop l.rule-index l.rules) n) ≡ declared_supply l.rules n;
}
