use Rattle.std.proofs.Common.{sym, ap, ◌∙◌, arith}
use Rattle.std.proofs.Math.ListN.{drop_of_length-le}
use Rattle.model_writer.proofs.Backslash.{ends_all, ends_from}
use Rattle.model_writer.proofs.refused.ends_with_backslash.Goals as goal

pub returns : goal.returns
returns c =
    let none = drop_of_length-le c.args.name.now {i = c.loop-byte.byte-index} (omega (arith, c.loop-byte-test.false)) in
    sym (ap (ends_from c.loop-byte.ends) none) ∙ c.loop-byte.invariant ∙ ends_all c.args.name.now
