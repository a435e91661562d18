use Rattle.gate_verilog.proofs.MeansLaws.{says_modules}
use Rattle.gate_verilog.proofs.reader.read_verilog.Goals as goal

pub returns-clause-meaning : goal.returns-clause-meaning
returns-clause-meaning c = says_modules c.args.text.now (record { models = c.take_all-taken.new.models }) c.requires c.in_ok-taken.ensures.fit
