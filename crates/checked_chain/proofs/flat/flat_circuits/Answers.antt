use Rattle.checked_chain.proofs.NoWhole.{flat_is_checked, flat_with_none}
use Rattle.checked_chain.proofs.flat.flat_circuits.Goals as goal

pub returns-clause-with : goal.returns-clause-with
returns-clause-with c = flat_with_none

pub returns-clause-checked : goal.returns-clause-checked
returns-clause-checked c = flat_is_checked
