use Rattle.std.proofs.Common.{refl, arith}
use Rattle.whole_cells.proofs.KeptLaws.{none_forgotten, one_forgotten}
use Rattle.whole_cells.proofs.kept.KeptCells.forget.Goals as goal

pub returns-then-cell-len : goal.returns-then-cell-len
returns-then-cell-len c = λ design blif rules facts now are.
    let lt = c.if-cell-len.true in
    let size = c.len.ensures in one_forgotten design blif rules facts c.args.self.now _ c.args.cell now (omega (arith, lt, size)) refl refl are

pub returns-else-cell-len : goal.returns-else-cell-len
returns-else-cell-len c = λ design blif rules facts now are.
    let past = c.if-cell-len.false in
    let size = c.len.ensures in none_forgotten design blif rules facts c.args.self.now c.args.cell now (omega (arith, past, size)) are
