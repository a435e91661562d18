use Rattle.written_logic.proofs.LogicModels.{written_texts_stand}
use Rattle.written_logic.proofs.written_texts_stand.Goals as goal

pub returns : goal.returns
returns c = written_texts_stand
