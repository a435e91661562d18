use Rattle.std.proofs.Common.{sym, subst, ◌∙◌}
use Rattle.std.proofs.lemmas.Bool.{false≢true}
use Rattle.whole_circuits.specs.Acyclic.{AreAcyclic}
use Rattle.substitute.proofs.WholeLaws.{cell_is_wired, checked_cyclic, ground_without}
use Rattle.substitute.proofs.checked.checked_of.Goals as goal

pub are_acyclic-requires : goal.are_acyclic-requires
are_acyclic-requires c = let g = c.requires.ground in cell_is_wired _ _ _ _ g.1

pub returns-then-not-free : goal.returns-then-not-free
returns-then-not-free c roles is =
    checked_cyclic _ _ _ _ is (λ free. false≢true (sym c.if-not-free.true ∙ c.in_ok-free.ensures.1 (subst (AreAcyclic c.args.flat.now) (sym c.as_slice.ensures) free)))

pub whole_with-requires-clause-ground : goal.whole_with-requires-clause-ground
whole_with-requires-clause-ground c =
    let g = c.requires.ground in
    (g.0, ground_without _ _ _ _ g.0 _ _ g.1 (subst (AreAcyclic c.args.flat.now) c.as_slice.ensures (c.in_ok-free.ensures.0 c.if-not-free.false)))

pub returns : goal.returns
returns c roles is =
    c.in_ok-whole.ensures.whole roles (ground_without _ _ _ _ roles _ _ is (subst (AreAcyclic c.args.flat.now) c.as_slice.ensures (c.in_ok-free.ensures.0 c.if-not-free.false)))
