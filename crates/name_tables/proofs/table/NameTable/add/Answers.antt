use Rattle.name_tables.proofs.TableLaws.{added, kept}
use Rattle.name_tables.proofs.table.NameTable.add.Goals as goal

pub returns-then-has : goal.returns-then-has
returns-then-has g c = λ entries t.
    let self = c.args.self.now in
    kept entries self.firsts.names self.firsts.values self.again _ c.args.name.now c.args.value c.if-has.ensures c.in_ok-number.ensures.names t

pub returns : goal.returns
returns g c = λ entries t.
    let self = c.args.self.now in
    added entries self.firsts.names _ self.firsts.values _ self.again c.args.name.now c.args.value c.if-has.ensures c.in_ok-add.ensures.names c.in_ok-add.ensures.values t
