use Rattle.std.proofs.Common.{◌≡◌, ◌-◌, ◌<◌, ◌≤◌, List, length, arith, ap, refl, subst}
use Rattle.std.proofs.lemmas.Bool.{false≢true}
use Rattle.vrt_model.specs.declared.ids.Net.{Net}
use Rattle.path_fixpoint.proofs.RangeLaws.{net_at, never_rises, rises_from}
use Rattle.path_fixpoint.proofs.ranges.rises.Goals as goal

pub returns-then-nets-at : goal.returns-then-nets-at
returns-then-nets-at c =
    let part = c.args.part.now in
    let at = c.loop-at.at in
    let inside : at < length part.nets = subst (λ (xs : List Net). at < length xs) c.as_slice-nets.ensures c.loop-at-test.true in
    let falls : net_at part.nets at ≤ net_at part.nets (at - 1) = subst (λ (xs : List Net). net_at xs at ≤ net_at xs (at - 1)) c.as_slice-nets.ensures c.if-nets-at.true in
    (λ t. absurd (false≢true t), λ r. absurd (never_rises part at c.loop-at.invariant.some inside falls r))

pub returns : goal.returns
returns c =
    let part = c.args.part.now in
    let shown : length c.as_slice-nets.result.now ≡ length part.nets = ap (λ (xs : List Net). length xs) c.as_slice-nets.ensures in
    (λ t. rises_from part (λ j lt. c.loop-at.invariant.next j (omega (arith, lt, shown, c.loop-at-test.false))), λ r. refl)
