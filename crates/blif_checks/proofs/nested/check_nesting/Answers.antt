use Rattle.std.proofs.Common.{Option, Some, length, subst}
use Rattle.nesting.specs.Depths.{in_list}
use Rattle.nesting.specs.First.{IsFirstFault}
use Rattle.nesting.specs.declared.first.NestingFault.{NestingFault}
use Rattle.blif_checks.proofs.NestedLaws.{fault_is, given_few, given_inside, shallow_is}
use Rattle.blif_checks.proofs.nested.check_nesting.Goals as goal

pub first_fault-requires-clause-inside : goal.first_fault-requires-clause-inside
first_fault-requires-clause-inside c = given_inside c.args.blif.now c.in-Ok.inner c.as_slice.result.now c.in-Ok.ensures c.as_slice.ensures

pub first_fault-requires-clause-few : goal.first_fault-requires-clause-few
first_fault-requires-clause-few c = given_few c.args.blif.now c.in-Ok.inner c.as_slice.result.now c.in-Ok.ensures c.as_slice.ensures c.requires.blif.model_limit

pub fault_of-requires : goal.fault_of-requires
fault_of-requires c =
    fault_is c.args.blif.now c.in-Ok.inner c.as_slice.result.now (Some c.in-Ok-Some.fault) c.in-Ok.ensures c.as_slice.ensures
    (subst (λ (fault : Option NestingFault). IsFirstFault (in_list c.as_slice.result.now) (length c.as_slice.result.now) 32 fault) c.in-Ok-Some.field-0-is c.in-Ok-Some.ensures)

pub returns-in-Ok-None : goal.returns-in-Ok-None
returns-in-Ok-None c =
    shallow_is c.args.blif.now c.in-Ok.inner c.as_slice.result.now c.in-Ok.ensures c.as_slice.ensures
    (subst (λ (fault : Option NestingFault). IsFirstFault (in_list c.as_slice.result.now) (length c.as_slice.result.now) 32 fault) c.in-Ok-None.field-0-is c.in-Ok-None.ensures)
