use Rattle.std.proofs.Common.{sym}
use Rattle.verilog_source.specs.Kept.{seen_known}
use Rattle.verilog_source.proofs.KnownLaws.{values_known}
use Rattle.verilog_source.proofs.reader.learn.Goals as goal

pub returns-in-Assigned-clause-known : goal.returns-in-Assigned-clause-known
returns-in-Assigned-clause-known c = let k = c.args.known.now in rw (c.in-Assigned.is) (sym (values_known (seen_known k) c.in-Assigned.field-0 k.work.name k.work.inputs))
