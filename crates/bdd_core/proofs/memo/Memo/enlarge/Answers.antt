use Rattle.std.proofs.Common.{sym, subst}
use Rattle.bdd_core.specs.Memo.{HoldsOnly}
use Rattle.bdd_core.proofs.MemoLaws.{only_append, only_then}
use Rattle.bdd_core.proofs.memo.Memo.enlarge.Goals as goal

pub returns : goal.returns
returns c =
    let old = c.self.inside.pairs.items in
    let more = c.push_empty.new.pairs.items in
    let new = c.place_anew.new.pairs.items in
    let longer : HoldsOnly old more = subst (λ xs. HoldsOnly old xs) (sym c.push_empty.ensures.items) (only_append old _) in
    subst (λ xs. HoldsOnly xs new) c.self.view_is (only_then old more new longer c.place_anew.ensures.only)
