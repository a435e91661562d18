use Rattle.std.proofs.Common.{List, ℕ, subst, sym}
use Rattle.verity_run.proofs.ArrivalLaws.{equal_supported}
use Rattle.written_lines.specs.Told.{IsTold}
use Rattle.verity_run.proofs.writes.equal_lines.Goals as goal

pub written_lines-requires-clause-equal : goal.written_lines-requires-clause-equal
written_lines-requires-clause-equal c =
    let i = c.args.ready.now.inputs in equal_supported i.design i.blif i.rules c.args.budget c.args.ready.now.cells c.args.number c.args.judged.now c.requires.found c.requires.equal

pub returns : goal.returns
returns c =
    let i = c.args.ready.now.inputs in
    let is = equal_supported i.design i.blif i.rules c.args.budget c.args.ready.now.cells c.args.number c.args.judged.now c.requires.found c.requires.equal in
    let told = c.in_ok-told.told in
    record {
      written = told.written;
      told = (
        is.0,
        is.1,
        subst (λ (ls : List (List ℕ)). IsTold i.design i.blif i.rules c.args.budget c.args.number is.0 told.written ls) (sym c.lines_of.ensures.1) (c.in_ok-told.ensures is.0 is.1),
      );
      counts = c.lines_of.ensures.0;
    }
