use Rattle.std.proofs.Common.{arith}
use Rattle.channel_parts.proofs.UnionLaws.{shorter_below, shorter_own, shorter_same, shorter_sound}
use Rattle.channel_parts.proofs.unions.flatten.Goals as goal

pub loop-number-preserved : goal.loop-number-preserved
loop-number-preserved c =
    let t = c.loop-number.parents in
    let u = c.shorten.new.parents in
    let at = c.loop-number.number in
    let w = c.shorten.ensures in
    let so = c.loop-number.invariant in
    record {
      below = shorter_below t u at w so.below;
      own = shorter_own t u at w so.below so.own;
      same = λ f r. so.same f (shorter_same t u at w so.below (omega arith) f r);
      sound = λ circuit phase bare of. shorter_sound t u at w circuit phase bare (so.sound circuit phase bare of);
    }
