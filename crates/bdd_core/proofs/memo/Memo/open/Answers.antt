use Rattle.std.proofs.Common.{◌++◌, replicate, ap, ◌∙◌}
use Rattle.bdd_core.specs.Memo.{no_pair}
use Rattle.bdd_core.proofs.MemoLaws.{none_replicate}
use Rattle.bdd_core.proofs.memo.Memo.open.Goals as goal

pub returns : goal.returns
returns c = none_replicate 512 c.push_empty.new.pairs.items (c.push_empty.ensures.items ∙ ap (λ xs. xs ++ replicate 512 no_pair) c.in_ok-pairs.ensures.items)
