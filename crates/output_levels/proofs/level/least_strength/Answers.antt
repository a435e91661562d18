use Rattle.std.proofs.Common.{◌≡◌, ℕ, ◌+◌, ◌-◌, Bool, Err, arith, sym, subst, ◌∙◌}
use Rattle.std.proofs.lemmas.Bool.{false≢true}
use Rattle.bdd_core.proofs.Frames.{adds_none, filled_added, nodes_then, span_added}
use Rattle.bdd_core.specs.Store.{function_of}
use Rattle.bdd_ops.proofs.CountingLaws.{counted_more, counted_none, counted_then, counts_err, counts_more, counts_ok, counts_then}
use Rattle.bdd_ops.specs.Counting.{Counts}
use Rattle.output_levels.proofs.AlwaysLaws.{kept_care, word_range}
use Rattle.output_levels.proofs.MarkLaws.{always_back, always_on, mark_within}
use Rattle.output_levels.specs.Always.{IsAlways, strong_at}
use Rattle.output_levels.proofs.level.least_strength.Goals as goal

pub loop-done-init : goal.loop-done-init
loop-done-init c = record {
  adds = adds_none c.args.store.now c.sound.ensures.sound c.sound.ensures.within;
  above = λ some. absurd (omega (arith, some));
  few = λ u care out. counted_none u c.args.store.now;
}

pub strong-mark-requires-clause-out : goal.strong-mark-requires-clause-out
strong-mark-requires-clause-out c = (
  span_added c.args.out.span c.args.store.now c.loop-done.store c.loop-done.invariant.adds c.requires.out.0,
  filled_added c.args.out.span c.args.store.now c.loop-done.store c.loop-done.invariant.adds c.requires.out.1,
)

pub is_always-requires : goal.is_always-requires
is_always-requires c = (let live = c.requires.care in let longer = c.loop-done.invariant.adds.longer in omega (arith, live, longer), c.strong-mark.ensures.live)

pub loop-done-preserved : goal.loop-done-preserved
loop-done-preserved c =
    let first = c.args.store.now in
    let now = c.loop-done.store in
    let new = c.is_always.new.store in
    let done = c.loop-done.done in
    let care = c.args.care in
    let out = c.args.out in
    let place = c.args.place in
    let i = c.loop-done.invariant in
    let level : ℕ = c.args.out.source - done in
    let range = word_range out level place (omega arith) c.requires.place.0 in
    record {
      adds = nodes_then first now new i.adds c.is_always.ensures.adds;
      above = λ some.
          subst (λ (l : ℕ). ¬ IsAlways (function_of first care) (strong_at first out place l)) (omega (arith, c.loop-done-test.true))
          (λ (always : IsAlways (function_of first care) (strong_at first out place level)).
          false≢true (sym c.if-always.false ∙ c.in-Ok.ensures.is.1 (always_on first now i.adds care c.requires.care out c.requires.out.1 place level range c.strong-mark.result c.strong-mark.ensures.is always)));
      few = λ u care_in out_in.
          counted_then u done 1 first now new (i.few u care_in out_in)
          (c.in-Ok.ensures.few u (kept_care u first now care i.adds c.requires.care care_in)
          (mark_within first now i.adds care c.requires.care out c.requires.out.1 place level range c.strong-mark.result c.strong-mark.ensures.is u out_in)).added;
    }

pub returns-in-Err-clause-adds : goal.returns-in-Err-clause-adds
returns-in-Err-clause-adds c = nodes_then c.args.store.now c.loop-done.store c.is_always.new.store c.loop-done.invariant.adds c.is_always.ensures.adds

pub returns-in-Err-clause-few : goal.returns-in-Err-clause-few
returns-in-Err-clause-few c u care_in out_in =
    let first = c.args.store.now in
    let now = c.loop-done.store in
    let new = c.is_always.new.store in
    let done = c.loop-done.done in
    let i = c.loop-done.invariant in
    let level : ℕ = c.args.out.source - done in
    let range = word_range c.args.out level c.args.place (omega arith) c.requires.place.0 in
    let one = c.in-Err.ensures.few u (kept_care u first now c.args.care i.adds c.requires.care care_in)
    (mark_within first now i.adds c.args.care c.requires.care c.args.out c.requires.out.1 c.args.place level range c.strong-mark.result c.strong-mark.ensures.is u out_in) in
    let all : Counts {A = Bool} u c.args.out.source first new (Err c.in-Err.spent) =
    counts_more u (done + 1) c.args.out.source first new (Err c.in-Err.spent) (omega (arith, c.loop-done-test.true)) (counts_then u done 1 first now new (Err c.in-Err.spent) (i.few u care_in out_in) one) in
    counts_err u c.args.out.source first new c.in-Err.spent all

pub returns-then-always-clause-adds : goal.returns-then-always-clause-adds
returns-then-always-clause-adds c = nodes_then c.args.store.now c.loop-done.store c.is_always.new.store c.loop-done.invariant.adds c.is_always.ensures.adds

pub returns-then-always-clause-is : goal.returns-then-always-clause-is
returns-then-always-clause-is c =
    let first = c.args.store.now in
    let now = c.loop-done.store in
    let done = c.loop-done.done in
    let care = c.args.care in
    let out = c.args.out in
    let place = c.args.place in
    let i = c.loop-done.invariant in
    let level : ℕ = c.args.out.source - done in
    let range = word_range out level place (omega arith) c.requires.place.0 in
    record {
      most = omega arith;
      always = λ some. always_back first now i.adds care c.requires.care out c.requires.out.1 place level range c.strong-mark.result c.strong-mark.ensures.is (c.in-Ok.ensures.is.0 c.if-always.true);
      above = λ below.
          subst (λ (l : ℕ). ¬ IsAlways (function_of first care) (strong_at first out place l)) (omega (arith, c.loop-done-test.true))
          (i.above (omega (arith, below)));
    }

pub returns-then-always-clause-few : goal.returns-then-always-clause-few
returns-then-always-clause-few c u care_in out_in =
    let first = c.args.store.now in
    let now = c.loop-done.store in
    let new = c.is_always.new.store in
    let done = c.loop-done.done in
    let i = c.loop-done.invariant in
    let level : ℕ = c.args.out.source - done in
    let range = word_range c.args.out level c.args.place (omega arith) c.requires.place.0 in
    let one = c.in-Ok.ensures.few u (kept_care u first now c.args.care i.adds c.requires.care care_in)
    (mark_within first now i.adds c.args.care c.requires.care c.args.out c.requires.out.1 c.args.place level range c.strong-mark.result c.strong-mark.ensures.is u out_in) in
    counts_ok u c.args.out.source first new _ (counted_more u (done + 1) c.args.out.source first new (omega (arith, c.loop-done-test.true)) (counted_then u done 1 first now new (i.few u care_in out_in) one.added))

pub returns-clause-is : goal.returns-clause-is
returns-clause-is c =
    let i = c.loop-done.invariant in
    let end : c.loop-done.done ≡ c.args.out.source = omega (arith, c.loop-done-test.false, c.loop-done.auto.done-end) in
    record {
      most = omega arith;
      always = λ some. absurd (omega (arith, some));
      above = λ below.
          let last : c.args.out.source + 1 - c.loop-done.done ≡ 1 = omega (arith, end) in
          subst (λ (l : ℕ). ¬ IsAlways (function_of c.args.store.now c.args.care) (strong_at c.args.store.now c.args.out c.args.place l)) last (i.above (omega (arith, end)));
    }

pub returns-clause-few : goal.returns-clause-few
returns-clause-few c u care_in out_in =
    let i = c.loop-done.invariant in
    counts_ok u c.args.out.source c.args.store.now c.loop-done.store _ (counted_more u c.loop-done.done c.args.out.source c.args.store.now c.loop-done.store (omega (arith, c.loop-done.auto.done-end)) (i.few u care_in out_in))
