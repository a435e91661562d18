use Rattle.std.proofs.Common.{◌∙◌, arith}
use Rattle.hold_groups.proofs.TableLaws.{place_same}
use Rattle.hold_groups.proofs.elements.ElementTable.place.Goals as goal

pub returns-then-len : goal.returns-then-len
returns-then-len c =
    c.place.ensures ∙ place_same c.args.self.now.list c.args.self.now.names c.args.name.now c.requires (let same = c.if-len.true in let one = c.len.ensures in let two = c.len-2.ensures in omega (arith, same, one, two))
