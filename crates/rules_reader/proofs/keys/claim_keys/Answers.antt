use Rattle.rules_reader.proofs.keys.claim_keys.Goals as goal

pub returns-in-ClockportLine : goal.returns-in-ClockportLine
returns-in-ClockportLine c = rw c.in-ClockportLine.is c.claim_clockport.ensures
