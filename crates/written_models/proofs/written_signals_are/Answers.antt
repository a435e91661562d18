use Rattle.written_models.proofs.WrittenSignals.{written_signals_are}
use Rattle.written_models.proofs.written_signals_are.Goals as goal

pub returns : goal.returns
returns c = written_signals_are
