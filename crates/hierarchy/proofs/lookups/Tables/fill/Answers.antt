use Rattle.std.proofs.Common.{subst}
use Rattle.hierarchy.specs.Held.{AreHeld}
use Rattle.hierarchy.specs.declared.lookups.Tables.{Tables}
use Rattle.hierarchy.proofs.LookupLaws.{sets_are}
use Rattle.hierarchy.proofs.lookups.Tables.fill.Goals as goal

pub returns : goal.returns
returns c =
    let tables : Tables = record {
      cells = c.in_ok-self.field-0;
      ports = c.in_ok-self-2.field-0;
      devices = c.in_ok-self-3.field-0;
      instances = c.in_ok-self-4.field-0;
      nets = c.in_ok-self-5.field-0;
      held = c.in_ok-self-6.field-0;
    } in
    record {
      cells = c.in_ok-self.ensures;
      sets =
          sets_are c.args.design.now.cells c.as_slice-cells.result.now tables c.as_slice-cells.ensures c.in_ok-self-2.ensures c.in_ok-self-3.ensures c.in_ok-self-4.ensures
          c.in_ok-self-5.ensures;
      held = subst (λ hs. AreHeld c.in_ok-self.field-0 hs c.in_ok-self-6.field-0.items) c.as_slice.ensures c.in_ok-self-6.ensures;
    }
