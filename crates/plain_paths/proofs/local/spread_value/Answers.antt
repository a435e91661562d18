use Rattle.std.proofs.Common.{◌≡◌, length, arith, subst}
use Rattle.plain_paths.proofs.LocalLaws.{roots_kept, roots_left, unmarked}
use Rattle.vrt_model.specs.Networks.{HasBound}
use Rattle.plain_paths.proofs.local.spread_value.Goals as goal

pub returns : goal.returns
returns c w bound has alone strong reach =
    let levels = c.args.levels.now in
    let s = c.args.strengths.now in
    let v = c.args.value in
    let old = c.args.marks.now in
    let u = c.unmark_all.new.marks in
    let fits = unmarked w c.args.channels.now levels s u has alone strong c.unmark_all.ensures.fits in
    let len : length old ≡ length u = omega (arith, c.unmark_all.auto.marks) in
    c.spread_all.ensures w (subst (HasBound w) len bound) has strong
    (roots_kept w levels s alone strong v old u reach c.unmark_all.ensures.kept)
    (roots_left w levels s alone strong v old u reach (λ n e. (c.unmark_all.ensures.only n e, fits n e)))
