use Rattle.worked_rows.proofs.wholes.circuit.Goals as goal

-- what is told is true
pub whole-requires-clause-told : goal.whole-requires-clause-told
whole-requires-clause-told c = c.in_ok-facts.ensures
