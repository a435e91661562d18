use Rattle.hierarchy.proofs.NestedLaws.{chain_is, first_is, inside_is, recursion_told}
use Rattle.hierarchy.proofs.nested.recursion_of.Goals as goal

pub chain_of-requires-clause-inside : goal.chain_of-requires-clause-inside
chain_of-requires-clause-inside c = inside_is c.args.design.now c.args.inner.now c.requires.inner

pub chain_of-requires-clause-first : goal.chain_of-requires-clause-first
chain_of-requires-clause-first c = first_is c.args.design.now c.args.inner.now c.args.number c.requires.inner c.requires.first

pub returns-in-Ok : goal.returns-in-Ok
returns-in-Ok c =
    recursion_told c.args.design.now c.args.number c.line_of.result c.in-Ok.chain c.requires.first (chain_is c.args.design.now c.args.inner.now c.args.number c.in-Ok.chain c.requires.inner c.in-Ok.ensures) c.line_of.ensures
