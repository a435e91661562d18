use Rattle.std.proofs.Common.{◌≡◌, ℕ, set, sym, ap, inl, inr}
use Rattle.std.proofs.lemmas.List.{get_or_read}
use Rattle.bdd_core.specs.declared.memo.Pair.{Pair}
use Rattle.bdd_core.specs.Memo.{no_pair, pair_at, Holds}
use Rattle.bdd_core.proofs.MemoLaws.{emptied, only_also}
use Rattle.bdd_core.proofs.memo.put_anew.Goals as goal

pub returns-clause-only : goal.returns-clause-only
returns-clause-only c =
    let old = c.args.pairs.now.items in
    let at : ℕ = c.args.at in
    let pair : Pair = c.index-pair.result.now in
    let here : pair ≡ pair_at old at = get_or_read old at _ c.requires.within c.index-pair.ensures no_pair in
    let newer : Holds old pair.newer = record { at = at; within = c.requires.within; is = inl (ap (λ p. p.newer) (sym here)) } in
    let older : Holds old pair.older = record { at = at; within = c.requires.within; is = inr (ap (λ p. p.older) (sym here)) } in
    let first = only_also old (set old at no_pair) c.put_again.new.pairs.items pair.older older (emptied old at c.requires.within) c.put_again.ensures.only in
    only_also old c.put_again.new.pairs.items c.put_again-2.new.pairs.items pair.newer newer first c.put_again-2.ensures.only
