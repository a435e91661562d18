use Rattle.verilog_meaning.proofs.ModuleLaws.{module_covered}
use Rattle.verilog_meaning.proofs.laws.covers_mean.Goals as goal

pub returns : goal.returns
returns c = module_covered
