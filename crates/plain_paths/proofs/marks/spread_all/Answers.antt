use Rattle.std.proofs.Common.{◌≡◌, ℕ, Bool, List, true, arith, slice_index, subst, sym}
use Rattle.std.specs.Prelude.{◌↔◌}
use Rattle.plain_paths.proofs.Spreads.{channels_spread, reach_closed, reach_within}
use Rattle.plain_paths.specs.Marks.{MarksPass}
use Rattle.plain_paths.specs.declared.channels.Channel.{Channel}
use Rattle.vrt_model.proofs.Clear.{HopFits, RootFits}
use Rattle.vrt_model.proofs.Marks.{marks_more, marks_none}
use Rattle.vrt_model.specs.Lists.{Among, mark_at}
use Rattle.vrt_model.specs.Response.{Reaches}
use Rattle.plain_paths.proofs.marks.spread_all.Goals as goal

pub rounds-init : goal.rounds-init
rounds-init c =
    let s = slice_index c.args.strengths.now in
    record {
      marked = λ w has m. m;
      roots = λ w h. h;
      within = λ w has h. marks_none w (RootFits s c.args.value) (HopFits s) (mark_at c.args.marks.now) h;
    }

pub rounds-preserved : goal.rounds-preserved
rounds-preserved c =
    let s = slice_index c.args.strengths.now in
    let v = c.args.value in
    let t = c.rounds.marks in
    let u = c.spread_round.new.marks in
    record {
      marked = λ w has m. c.spread_round.ensures.marked w v has (c.rounds.invariant.marked w has m);
      roots = λ w h root r k. c.spread_round.ensures.grown root.net (c.rounds.invariant.roots w h root r k);
      within = λ w has h.
          marks_more w (RootFits s v) (HopFits s) c.rounds._count (mark_at t) (mark_at u)
          (λ root r k. c.spread_round.ensures.grown root.net (c.rounds.invariant.roots w h root r k))
          (channels_spread w c.args.channels.now c.args.strengths.now v t u has c.spread_round.ensures.spread) (c.rounds.invariant.within w has h);
    }

pub returns-then-not-spread_round : goal.returns-then-not-spread_round
returns-then-not-spread_round c w bounded has strong roots marked =
    let s = c.args.strengths.now in
    let v = c.args.value in
    let t = c.rounds.marks in
    let same : c.spread_round.new.marks ≡ t = c.spread_round.ensures.same c.if-not-spread_round.true in
    let passed : (ch : Channel) → Among c.args.channels.now ch → MarksPass s ch t t = λ ch m. subst (MarksPass s ch t) same (c.spread_round.ensures.spread ch m) in
    subst (λ (x : List Bool). (n : ℕ) → (mark_at x n ≡ true) ↔ Reaches w n v) (sym same)
    (reach_closed w s v strong t (c.rounds.invariant.roots w roots) (channels_spread w c.args.channels.now s v t t has passed) (c.rounds.invariant.marked w has marked))

pub returns : goal.returns
returns c w bounded has strong roots marked =
    reach_within w c.args.strengths.now c.args.value strong _ c.rounds.marks bounded
    (λ root hops p k le. c.rounds.invariant.within w has roots root hops p k (omega (arith, le))) (c.rounds.invariant.marked w has marked)
