use Rattle.std.proofs.Common.{◌≡◌, ℕ, ◌+◌, ◌*◌, ◌≤◌, List, Err, get_or, length, arith, ap, refl, subst, ◌∙◌}
use Rattle.bdd_core.proofs.Frames.{adds_none, filled_added, nodes_then, span_added}
use Rattle.bdd_core.specs.Store.{function_of}
use Rattle.bdd_ops.proofs.CountingLaws.{counted_more, counted_none, counted_then, counts_more, counts_ok, counts_then}
use Rattle.output_levels.proofs.AlwaysLaws.{kept_care}
use Rattle.output_levels.proofs.JudgeLaws.{judged_first, judged_more, judged_none, net_at, words_within}
use Rattle.output_levels.specs.Always.{strong_at}
use Rattle.output_levels.specs.PartLevels.{AreJudged}
use Rattle.path_fixpoint.specs.Parts.{IsPlace}
use Rattle.vrt_model.specs.Lists.{At}
use Rattle.vrt_model.specs.declared.ids.Net.{Net}
use Rattle.std.proofs.Math.Nat.{mul-add, mul-le-mul_left}
use Rattle.std.proofs.lemmas.Nat.{column_fits}
use Rattle.path_fixpoint.proofs.Places.{place_words}
use Rattle.output_levels.proofs.judge.judge_part.Goals as goal

pub loop-i-init : goal.loop-i-init
loop-i-init c = record {
  adds = adds_none c.args.store.now c.sound.ensures.sound c.sound.ensures.within;
  len = refl;
  judged = judged_none c.args.out.source c.args.part.now c.args.asked.now (function_of c.args.store.now c.args.care) (strong_at c.args.store.now c.args.out) c.args.levels.now.items;
  counted = λ u care out. counted_more u 0 ((c.args.out.source + 1) * 0) c.args.store.now c.args.store.now (omega arith) (counted_none u c.args.store.now);
}

pub judge_place-requires-clause-care : goal.judge_place-requires-clause-care
judge_place-requires-clause-care c = omega (arith, c.requires.care, c.loop-i.invariant.adds.longer)

pub judge_place-requires-clause-out : goal.judge_place-requires-clause-out
judge_place-requires-clause-out c = (
  span_added c.args.out.span c.args.store.now c.loop-i.store c.loop-i.invariant.adds c.requires.out.0,
  filled_added c.args.out.span c.args.store.now c.loop-i.store c.loop-i.invariant.adds c.requires.out.1,
)

pub judge_place-requires-clause-place : goal.judge_place-requires-clause-place
judge_place-requires-clause-place c =
    let shown : length c.as_slice-nets.result.now ≡ length c.args.part.now.nets = ap (λ (xs : List Net). length xs) c.as_slice-nets.ensures in
    (place_words c.args.out (length c.args.part.now.nets) c.loop-i.i c.requires.out.2 (omega (arith, shown, c.loop-i-test.true)), c.requires.out.3)

pub loop-i-preserved : goal.loop-i-preserved
loop-i-preserved c =
    let part = c.args.part.now in
    let asked = c.args.asked.now in
    let care = c.args.care in
    let out = c.args.out in
    let first = c.args.store.now in
    let now = c.loop-i.store in
    let new = c.judge_place.new.store in
    let i = c.loop-i.i in
    let inv = c.loop-i.invariant in
    let none : Net = record { 0 = 0 } in
    let net : Net = get_or c.as_slice-nets.result.now i none in
    let there : At part.nets i net = net_at part.nets c.as_slice-nets.result.now i none c.as_slice-nets.ensures c.loop-i-test.true in
    let place : IsPlace part i net.0 = (net, there, refl) in
    let len = c.requires.out.2 in
    let shown : length c.as_slice-nets.result.now ≡ length part.nets = ap (λ (xs : List Net). length xs) c.as_slice-nets.ensures in
    record {
      adds = nodes_then first now new inv.adds c.judge_place.ensures.adds;
      len = c.judge_place.ensures.len ∙ inv.len;
      judged = judged_more out.source part asked (function_of first care) (strong_at first out) c.requires.once i net.0 place c.args.levels.now.items c.loop-i.levels.items c.judge_place.new.levels.items inv.judged
          (judged_first first now inv.adds care c.requires.care out c.requires.out.1 i (place_words out (length part.nets) i len (omega (arith, shown, c.loop-i-test.true))) asked net.0 c.loop-i.levels.items c.judge_place.new.levels.items c.in-Ok.ensures.gives);
      counted = λ u care_in out_in.
          counted_more u ((c.args.out.source + 1) * i + (c.args.out.source + 1)) ((c.args.out.source + 1) * (i + 1)) first new (omega (arith, mul-add (c.args.out.source + 1) i 1))
          (counted_then u ((c.args.out.source + 1) * i) (c.args.out.source + 1) first now new (inv.counted u care_in out_in)
          (c.in-Ok.ensures.few u (kept_care u first now care inv.adds c.requires.care care_in) (words_within u out.span first now inv.adds c.requires.out.1 out_in)).added);
    }

pub returns-in-Err-clause-adds : goal.returns-in-Err-clause-adds
returns-in-Err-clause-adds c = nodes_then c.args.store.now c.loop-i.store c.judge_place.new.store c.loop-i.invariant.adds c.judge_place.ensures.adds

pub returns-in-Err-clause-few : goal.returns-in-Err-clause-few
returns-in-Err-clause-few c u care_in out_in =
    let part = c.args.part.now in
    let care = c.args.care in
    let out = c.args.out in
    let first = c.args.store.now in
    let now = c.loop-i.store in
    let new = c.judge_place.new.store in
    let i = c.loop-i.i in
    let inv = c.loop-i.invariant in
    let shown : length c.as_slice-nets.result.now ≡ length part.nets = ap (λ (xs : List Net). length xs) c.as_slice-nets.ensures in
    counts_more u ((c.args.out.source + 1) * i + (c.args.out.source + 1)) ((c.args.out.source + 1) * length part.nets) first new (Err c.in-Err.spent)
    (column_fits (c.args.out.source + 1) i (c.args.out.source + 1) (length part.nets) (omega (arith, shown, c.loop-i-test.true)) (omega arith))
    (counts_then u ((c.args.out.source + 1) * i) (c.args.out.source + 1) first now new (Err c.in-Err.spent) (inv.counted u care_in out_in)
    (c.in-Err.ensures.few u (kept_care u first now care inv.adds c.requires.care care_in) (words_within u out.span first now inv.adds c.requires.out.1 out_in)))

pub returns-clause-gives : goal.returns-clause-gives
returns-clause-gives c =
    let part = c.args.part.now in
    let shown : length c.as_slice-nets.result.now ≡ length part.nets = ap (λ (xs : List Net). length xs) c.as_slice-nets.ensures in
    let high : length c.as_slice-nets.result.now ≤ c.loop-i.i = c.loop-i-test.false in
    let low : c.loop-i.i ≤ length c.as_slice-nets.result.now = c.loop-i.auto.i-end in
    let end : c.loop-i.i ≡ length part.nets = omega (arith, shown, high, low) in
    subst (λ (k : ℕ). AreJudged c.args.out.source part c.args.asked.now (function_of c.args.store.now c.args.care) (strong_at c.args.store.now c.args.out) k c.args.levels.now.items c.loop-i.levels.items) end
    c.loop-i.invariant.judged

pub returns-clause-few : goal.returns-clause-few
returns-clause-few c u care_in out_in =
    let part = c.args.part.now in
    let shown : length c.as_slice-nets.result.now ≡ length part.nets = ap (λ (xs : List Net). length xs) c.as_slice-nets.ensures in
    counts_ok u ((c.args.out.source + 1) * length part.nets) c.args.store.now c.loop-i.store _
    (counted_more u ((c.args.out.source + 1) * c.loop-i.i) ((c.args.out.source + 1) * length part.nets) c.args.store.now c.loop-i.store
    (mul-le-mul_left (c.args.out.source + 1) (omega (arith, shown, c.loop-i.auto.i-end))) (c.loop-i.invariant.counted u care_in out_in))
