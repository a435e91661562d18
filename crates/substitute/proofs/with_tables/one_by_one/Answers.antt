use Rattle.std.proofs.Common.{Bool, List, true, ap, sym, ◌∙◌}
use Rattle.std.specs.List.{list_any}
use Rattle.substitute.proofs.WholeLaws.{checked_some, flat_with_none}
use Rattle.substitute.proofs.with_tables.one_by_one.Goals as goal

pub returns-then-not-has_mark : goal.returns-then-not-has_mark
returns-then-not-has_mark c t blif facts are =
    checked_some t blif facts c.args.tables are c.in_ok-chosen.chosen (c.in_ok-chosen.ensures t blif facts are) c.args.tables.flat.now
    (flat_with_none t blif facts c.args.tables are c.in_ok-chosen.chosen.whole.items
    (sym (c.if-not-has_mark.ensures ∙ ap (λ (l : List Bool). list_any (λ (mark : Bool). mark) l) c.as_slice.ensures.value)))

pub returns : goal.returns
returns c t blif facts are = (
  checked_some t blif facts c.args.tables are c.in_ok-chosen.chosen (c.in_ok-chosen.ensures t blif facts are) c.in_ok-circuit.circuit
      (c.in_ok-circuit.ensures true t blif facts are (c.in_ok-chosen.ensures t blif facts are)),
  tt,
)
