use Rattle.std.proofs.Common.{refl}
use Rattle.rule_index.proofs.PairLaws.{place_some}
use Rattle.prepared_tables.proofs.pairs.model_by.Goals as goal

pub returns-in-Some : goal.returns-in-Some
returns-in-Some c = λ blif are. place_some blif c.args.cell.now c.in-Some.rule.now _ blif.models c.named_by.result c.in-Some.ensures refl (c.named_by.ensures blif.models are)
