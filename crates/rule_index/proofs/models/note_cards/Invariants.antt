use Rattle.std.proofs.Common.{◌≡◌, ℕ, List, drop}
use Rattle.std.specs.Option.{option_or}
use Rattle.name_tables.specs.Firsts.{IsEven, value_in}
use Rattle.rule_index.specs.Tables.{card_kind}
use Rattle.rule_index.proofs.models.note_cards.Given as goal

-- what is noted, and else what the rest says, is what all say
abbrev pub invariant-loop-card : goal.invariant-loop-card
invariant-loop-card l = record {
  even : IsEven l.table;
  so_far : (n : List ℕ) → option_or (value_in l.table n) (card_kind (drop l.card-index l.cards) n) ≡ card_kind l.cards n;
}
