use Rattle.std.proofs.Common.{◌<◌, length, arith, refl, ◌∙◌}
use Rattle.channel_parts.proofs.UnionLaws.{shorter_below, shorter_same, shorter_smaller, shorter_stay, up_sound}
use Rattle.vrt_model.specs.Known.{itself}
use Rattle.channel_parts.proofs.unions.least_of.Goals as goal

pub up-init : goal.up-init
up-init c = record {
  within = omega arith;
  below = c.requires.below;
  stay = λ n e. e;
  same = λ f r. (r, refl);
  sound = λ circuit phase bare of. (of, λ p. itself p);
}

pub up-preserved : goal.up-preserved
up-preserved c =
    let t = c.up.parents in
    let u = c.shorten.new.parents in
    let at = c.up.at in
    let w = c.shorten.ensures in
    let so = c.up.invariant in
    let inside : at < length t = omega (arith, so.within, c.requires.number, c.up.auto.parents) in
    let less = shorter_smaller t u at w so.below c.up-test.true in
    record {
      within = omega (arith, less, so.within);
      below = shorter_below t u at w so.below;
      stay = λ n e. shorter_stay t u at n w (so.stay n e);
      same = λ f r.
          let before = shorter_same t u at w so.below inside f r in
          let up = so.same f before in
          (up.0, r at (omega (arith, inside, w.size)) ∙ up.1);
      sound = λ circuit phase bare of. up_sound t u c.args.number at w circuit phase bare (so.sound circuit phase bare of);
    }
