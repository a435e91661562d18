use Rattle.latch_match.proofs.GivenLaws.{gives_fault, gives_pairing}
use Rattle.latch_match.proofs.ports.pair_cell.Goals as goal

pub returns-in-Some : goal.returns-in-Some
returns-in-Some c = λ design number e.
    gives_fault design number c.args.flat.now c.args.rules.now c.args.cell.now c.in-Ok.paired c.as_slice.result.now c.in-Some.fault e c.as_slice.ensures c.in-Ok.ensures c.in-Some.ensures

pub returns : goal.returns
returns c = λ design number e.
    gives_pairing design number c.args.model c.args.flat.now c.args.rules.now c.args.cell.now c.in-Ok.paired c.as_slice.result.now c.pairing_by.result e c.as_slice.ensures c.in-Ok.ensures c.in-None.ensures
    c.pairing_by.ensures
