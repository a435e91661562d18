use Rattle.std.proofs.Common.{None, Option, Some, length, subst}
use Rattle.nesting.specs.Depths.{in_list}
use Rattle.nesting.specs.First.{IsFirstFault}
use Rattle.nesting.specs.declared.first.NestingFault.{NestingFault}
use Rattle.hierarchy.proofs.NestedLaws.{fault_is, few, inside_is, nested}
use Rattle.hierarchy.proofs.nested.check_nesting.Goals as goal

pub first_fault-requires-clause-inside : goal.first_fault-requires-clause-inside
first_fault-requires-clause-inside c = inside_is c.args.design.now c.args.inner.now c.requires.inner

pub first_fault-requires-clause-few : goal.first_fault-requires-clause-few
first_fault-requires-clause-few c = few c.args.design.now c.args.inner.now c.requires.inner c.requires.design.cell_limit

pub fault_of-requires-clause-fault : goal.fault_of-requires-clause-fault
fault_of-requires-clause-fault c =
    fault_is c.args.design.now c.args.inner.now (Some c.in-Ok-Some.fault) c.requires.inner
    (subst (λ (fault : Option NestingFault). IsFirstFault (in_list c.args.inner.now) (length c.args.inner.now) 32 fault) c.in-Ok-Some.field-0-is c.in-Ok-Some.ensures)

pub returns-in-Ok-None : goal.returns-in-Ok-None
returns-in-Ok-None c =
    nested c.args.design.now (fault_is c.args.design.now c.args.inner.now None c.requires.inner
    (subst (λ (fault : Option NestingFault). IsFirstFault (in_list c.args.inner.now) (length c.args.inner.now) 32 fault) c.in-Ok-None.field-0-is c.in-Ok-None.ensures))
