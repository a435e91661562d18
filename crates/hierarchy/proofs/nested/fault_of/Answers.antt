use Rattle.std.proofs.Common.{length, subst}
use Rattle.std.specs.Prelude.{Some}
use Rattle.nesting.specs.First.{IsFirstFault}
use Rattle.nesting.specs.declared.first.NestingFault.{NestingFault}
use Rattle.vrt_model.specs.Hierarchy.{cells_in}
use Rattle.hierarchy.proofs.NestedLaws.{depth_told}
use Rattle.hierarchy.proofs.nested.fault_of.Goals as goal

pub recursion_of-requires-clause-first : goal.recursion_of-requires-clause-first
recursion_of-requires-clause-first c =
    subst (λ (f : NestingFault). IsFirstFault (cells_in c.args.design.now) (length c.args.design.now.cells) 32 (Some f)) c.in-Recursion.is c.requires.fault

pub returns-in-Depth : goal.returns-in-Depth
returns-in-Depth c =
    depth_told c.args.design.now c.in-Depth.number c.line_of.result c.in-Depth.depth
    (subst (λ (f : NestingFault). IsFirstFault (cells_in c.args.design.now) (length c.args.design.now.cells) 32 (Some f)) c.in-Depth.is c.requires.fault) c.line_of.ensures
