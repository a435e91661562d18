use Rattle.blif_checks.proofs.NestedLaws.{deep_is, given_inside, shallow_is}
use Rattle.blif_checks.proofs.nested.are_shallow.Goals as goal

pub are_shallow-requires-clause-inside : goal.are_shallow-requires-clause-inside
are_shallow-requires-clause-inside c = given_inside c.args.blif.now c.in_ok-inner.inner c.as_slice.result.now c.in_ok-inner.ensures c.as_slice.ensures

pub returns-clause-yes : goal.returns-clause-yes
returns-clause-yes c = λ e. shallow_is c.args.blif.now c.in_ok-inner.inner c.as_slice.result.now c.in_ok-inner.ensures c.as_slice.ensures (c.in_ok-shallow.ensures.yes e)

pub returns-clause-no : goal.returns-clause-no
returns-clause-no c = λ e. deep_is c.args.blif.now 32 c.in_ok-inner.inner c.as_slice.result.now c.in_ok-inner.ensures c.as_slice.ensures (c.in_ok-shallow.ensures.no e)
