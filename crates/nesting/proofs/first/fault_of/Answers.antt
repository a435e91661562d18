use Rattle.std.proofs.Common.{Option, length, subst, ℕ}
use Rattle.std.proofs.lemmas.Result.{IfOk-weaker}
use Rattle.nesting.specs.Depths.{in_list}
use Rattle.nesting.specs.First.{IsFirstItself}
use Rattle.nesting.proofs.FirstLaws.{nesting_told}
use Rattle.nesting.proofs.first.fault_of.Goals as goal

pub returns-in-None : goal.returns-in-None
returns-in-None c =
    let founded = subst (λ (o : Option ℕ). IsFirstItself (in_list c.args.inner.now) (length c.args.inner.now) o) c.in-None.is c.in_ok-first.ensures in
    IfOk-weaker c.depth_fault.result _ _ (λ fault h. nesting_told (in_list c.args.inner.now) (length c.args.inner.now) c.args.limit fault founded h) c.depth_fault.ensures
