use Rattle.checked_chain.proofs.FindingLaws.{descriptions_move}
use Rattle.checked_chain.proofs.findings.descriptions_move.Goals as goal

pub returns : goal.returns
returns c = descriptions_move
