use Rattle.verilog_meaning.proofs.TextLaws.{text_exact}
use Rattle.verilog_meaning.proofs.laws.texts_mean.Goals as goal

pub returns : goal.returns
returns c = text_exact
