use Rattle.std.proofs.Common.{◌≤◌, List, length, arith, subst}
use Rattle.std.specs.Prelude.{All}
use Rattle.std.proofs.lemmas.List.Elements.{All-tail}
use Rattle.phase_open.proofs.WordLaws.{most_next}
use Rattle.vrt_model.specs.declared.whole.Whole.{Whole}
use Rattle.phase_open.proofs.words.most_model_words.Goals as goal

pub wholes-preserved-then-words-most : goal.wholes-preserved-then-words-most
wholes-preserved-then-words-most c =
    let w : Whole = c.in-Some.whole.now in
    let is = c.model_words-words.ensures.words in
    let more = c.if-words-most.true in
    record {
      few = c.model_words-words.ensures.few;
      rest = All-tail (λ (x : Whole). length x.model.signals ≤ 20000) w c.in-Some.behind.now (subst (λ (ws : List Whole). All (λ (x : Whole). length x.model.signals ≤ 20000) ws) c.in-Some.ensures.cases.0 c.wholes.invariant.rest);
      most = most_next c.wholes.rest.now c.in-Some.behind.now c.args.wholes.now w c.wholes.most c.model_words-words.result c.in-Some.ensures.cases.0 c.wholes.invariant.most (omega (arith, is, more));
    }

pub wholes-preserved : goal.wholes-preserved
wholes-preserved c =
    let w : Whole = c.in-Some.whole.now in
    let is = c.model_words-words.ensures.words in
    let none = c.if-words-most.false in
    record {
      few = c.wholes.invariant.few;
      rest = All-tail (λ (x : Whole). length x.model.signals ≤ 20000) w c.in-Some.behind.now (subst (λ (ws : List Whole). All (λ (x : Whole). length x.model.signals ≤ 20000) ws) c.in-Some.ensures.cases.0 c.wholes.invariant.rest);
      most = most_next c.wholes.rest.now c.in-Some.behind.now c.args.wholes.now w c.wholes.most c.wholes.most c.in-Some.ensures.cases.0 c.wholes.invariant.most (omega (arith, is, none));
    }
