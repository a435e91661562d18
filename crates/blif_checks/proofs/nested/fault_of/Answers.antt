use Rattle.std.proofs.Common.{length, subst}
use Rattle.std.specs.Prelude.{Some}
use Rattle.nesting.specs.First.{IsFirstFault}
use Rattle.nesting.specs.declared.first.NestingFault.{NestingFault}
use Rattle.vrt_model.specs.Models.{models_within}
use Rattle.blif_checks.proofs.NestedLaws.{depth_told, recursion_told}
use Rattle.blif_checks.proofs.nested.fault_of.Goals as goal

pub returns-in-Recursion : goal.returns-in-Recursion
returns-in-Recursion c =
    recursion_told c.args.blif.now c.in-Recursion.number c.recursion_of.result
    (subst (λ (f : NestingFault). IsFirstFault (models_within c.args.blif.now) (length c.args.blif.now.models) 32 (Some f)) c.in-Recursion.is c.requires) c.recursion_of.ensures

pub returns-in-Depth : goal.returns-in-Depth
returns-in-Depth c =
    depth_told c.args.blif.now c.in-Depth.number c.line_of.result c.in-Depth.depth
    (subst (λ (f : NestingFault). IsFirstFault (models_within c.args.blif.now) (length c.args.blif.now.models) 32 (Some f)) c.in-Depth.is c.requires) c.line_of.ensures
