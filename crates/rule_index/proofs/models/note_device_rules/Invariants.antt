use Rattle.std.proofs.Common.{◌≡◌, ℕ, List, drop}
use Rattle.std.specs.Option.{option_or}
use Rattle.name_tables.specs.Firsts.{IsEven, value_in}
use Rattle.rule_index.specs.Tables.{declared_device}
use Rattle.rule_index.proofs.models.note_device_rules.Given as goal

-- what is noted, and else what the rest says, is what all say
abbrev pub invariant-loop-rule : goal.invariant-loop-rule
invariant-loop-rule l = record {
  even : IsEven l.table;
  so_far : (n : List ℕ) → option_or (value_in l.table n) (declared_device (drop l.rule-index l.rules) n) ≡ declared_device l.rules n;
}
