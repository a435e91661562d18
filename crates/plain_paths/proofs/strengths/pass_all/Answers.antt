use Rattle.std.proofs.Common.{◌≡◌, List, ℕ, slice_index, arith, subst, sym}
use Rattle.plain_paths.proofs.Rounds.{roots_grown, strength_closed, strength_within, within_more, within_none}
use Rattle.plain_paths.specs.Tables.{HasPassed}
use Rattle.plain_paths.specs.declared.channels.Channel.{Channel}
use Rattle.vrt_model.specs.Lists.{Among}
use Rattle.vrt_model.specs.Response.{IsStrength}
use Rattle.plain_paths.proofs.strengths.pass_all.Goals as goal

pub rounds-init : goal.rounds-init
rounds-init c = record {
  attained = λ w has a. a;
  roots = λ w h. h;
  within = λ w has h. within_none w c.args.table.now h;
}

pub rounds-preserved : goal.rounds-preserved
rounds-preserved c =
    let t = c.rounds.table in
    let u = c.pass_round.new.table in
    record {
      attained = λ w has a. c.pass_round.ensures.attained w has (c.rounds.invariant.attained w has a);
      roots = λ w h. roots_grown w t u c.pass_round.ensures.grown (c.rounds.invariant.roots w h);
      within = λ w has h.
          within_more w c.args.channels.now c.rounds._count t u has (roots_grown w t u c.pass_round.ensures.grown (c.rounds.invariant.roots w h)) c.pass_round.ensures.passed (c.rounds.invariant.within w has h);
    }

pub returns-then-not-pass_round : goal.returns-then-not-pass_round
returns-then-not-pass_round c w bounded has roots attained =
    let same : c.pass_round.new.table ≡ c.rounds.table = c.pass_round.ensures.same c.if-not-pass_round.true in
    let passed : (ch : Channel) → Among c.args.channels.now ch → HasPassed ch c.rounds.table c.rounds.table =
    λ ch m. subst (HasPassed ch c.rounds.table) same (c.pass_round.ensures.passed ch m) in
    subst (λ (t : List ℕ). (n : ℕ) → IsStrength w n (slice_index t n)) (sym same)
    (strength_closed w c.args.channels.now c.rounds.table has (c.rounds.invariant.roots w roots) passed (c.rounds.invariant.attained w has attained))

pub returns : goal.returns
returns c w bounded has roots attained =
    strength_within w _ c.rounds.table bounded
    (λ root hops p le. c.rounds.invariant.within w has roots root hops p (omega (arith, le))) (c.rounds.invariant.attained w has attained)
