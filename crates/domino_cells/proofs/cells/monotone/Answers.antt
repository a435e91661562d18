use Rattle.domino_cells.proofs.CellLaws.{made_equal, made_of, tells_of}
use Rattle.domino_cells.proofs.cells.monotone.Goals as goal

pub monotone_made-requires-clause-equal : goal.monotone_made-requires-clause-equal
monotone_made-requires-clause-equal c =
    let design = c.args.design.now in
    let blif = c.args.blif.now in
    let rules = c.args.rules.now in
    let made = made_of design blif rules c.args.cell c.in_ok-found.found.verdict c.in_ok-found.found.flattened c.in-Some.flattened c.in-Some.is c.in_ok-found.ensures.flattened in
    let equal = c.requires.equal in
    made_equal design blif rules c.args.cell c.in-Some.flattened made c.args.phase equal.0 equal.1 (equal.1.equal c.args.phase c.requires.phase)

pub returns : goal.returns
returns c =
    let design = c.args.design.now in
    let blif = c.args.blif.now in
    let rules = c.args.rules.now in
    let made = made_of design blif rules c.args.cell c.in_ok-found.found.verdict c.in_ok-found.found.flattened c.in-Some.flattened c.in-Some.is c.in_ok-found.ensures.flattened in
    record {
      tells = tells_of design blif rules c.args.cell c.in-Some.flattened made c.args.budget c.args.phase c.args.rising.now c.monotone_made.result c.monotone_made.ensures.tells;
    }
