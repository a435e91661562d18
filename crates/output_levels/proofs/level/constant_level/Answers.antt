use Rattle.std.proofs.Common.{◌≢◌, ℕ, ◌+◌, Bool, Err, arith, sym, ◌∙◌}
use Rattle.std.proofs.lemmas.Bool.{false≢true}
use Rattle.bdd_core.specs.Store.{function_of}
use Rattle.bdd_ops.proofs.CountingLaws.{counted_more, counted_then, counts_err, counts_more, counts_ok, counts_then}
use Rattle.bdd_ops.specs.Counting.{Counts}
use Rattle.output_levels.proofs.AlwaysLaws.{kept_care, word_range}
use Rattle.output_levels.proofs.LevelLaws.{gives_greatest, gives_level, gives_none}
use Rattle.output_levels.proofs.MarkLaws.{mark_within, never_back, never_on}
use Rattle.output_levels.specs.Always.{strong_at}
use Rattle.output_levels.proofs.level.constant_level.Goals as goal

pub returns-in-Err-clause-few : goal.returns-in-Err-clause-few
returns-in-Err-clause-few c u care out =
    let first = c.args.store.now in
    let mid = c.least_strength.new.store in
    let more : Counts {A = ℕ} u (c.args.out.source + 1) first mid (Err c.in-Err.spent) = counts_more u c.args.out.source (c.args.out.source + 1) first mid (Err c.in-Err.spent) (omega arith) (c.in-Err.ensures.few u care out) in
    counts_err u (c.args.out.source + 1) first mid c.in-Err.spent more

pub returns-then-level-out-clause-gives : goal.returns-then-level-out-clause-gives
returns-then-level-out-clause-gives c s are =
    gives_greatest c.args.out.source (function_of c.args.store.now c.args.care) (strong_at c.args.store.now c.args.out c.args.place) s are c.in-Ok.level c.in-Ok.ensures.is c.if-level-out.true

pub returns-then-level-out-clause-few : goal.returns-then-level-out-clause-few
returns-then-level-out-clause-few c u care out =
    counts_ok u (c.args.out.source + 1) c.args.store.now c.least_strength.new.store _ (counted_more u c.args.out.source (c.args.out.source + 1) c.args.store.now c.least_strength.new.store (omega arith) (c.in-Ok.ensures.few u care out).added)

pub returns-in-Ok-true-clause-gives : goal.returns-in-Ok-true-clause-gives
returns-in-Ok-true-clause-gives c s are =
    let first = c.args.store.now in
    let mid = c.least_strength.new.store in
    let out = c.args.out in
    let level = c.in-Ok.level in
    let adds = c.in-Ok.ensures.adds in
    let most = c.in-Ok.ensures.is.most in
    let other : level ≢ c.args.out.source = c.if-level-out.false in
    let range = word_range out (level + 1) c.args.place (omega (arith, most, other)) c.requires.place.0 in
    gives_level c.args.out.source (function_of first c.args.care) (strong_at first out c.args.place) s are level c.in-Ok.ensures.is other
    (never_back first mid adds c.args.care c.requires.care out c.requires.out.1 c.args.place (level + 1) range c.strong-above.result c.strong-above.ensures.is (c.in-Ok-true.ensures.is.0 c.in-Ok-true.field-0-test))

pub returns-in-Ok-true-clause-few : goal.returns-in-Ok-true-clause-few
returns-in-Ok-true-clause-few c u care out_in =
    let first = c.args.store.now in
    let mid = c.least_strength.new.store in
    let new = c.is_never.new.store in
    let out = c.args.out in
    let level = c.in-Ok.level in
    let adds = c.in-Ok.ensures.adds in
    let most = c.in-Ok.ensures.is.most in
    let other : level ≢ c.args.out.source = c.if-level-out.false in
    let range = word_range out (level + 1) c.args.place (omega (arith, most, other)) c.requires.place.0 in
    let one = c.in-Ok-true.ensures.few u (kept_care u first mid c.args.care adds c.requires.care care)
    (mark_within first mid adds c.args.care c.requires.care out c.requires.out.1 c.args.place (level + 1) range c.strong-above.result c.strong-above.ensures.is u out_in) in
    counts_ok u (c.args.out.source + 1) first new _ (counted_then u c.args.out.source 1 first mid new (c.in-Ok.ensures.few u care out_in).added one.added)

pub returns-in-Ok-false-clause-gives : goal.returns-in-Ok-false-clause-gives
returns-in-Ok-false-clause-gives c s are =
    let first = c.args.store.now in
    let mid = c.least_strength.new.store in
    let out = c.args.out in
    let level = c.in-Ok.level in
    let adds = c.in-Ok.ensures.adds in
    let most = c.in-Ok.ensures.is.most in
    let other : level ≢ c.args.out.source = c.if-level-out.false in
    let range = word_range out (level + 1) c.args.place (omega (arith, most, other)) c.requires.place.0 in
    gives_none c.args.out.source (function_of first c.args.care) (strong_at first out c.args.place) s are level c.in-Ok.ensures.is other
    (λ never. false≢true (sym c.in-Ok-false.field-0-test
    ∙ c.in-Ok-false.ensures.is.1 (never_on first mid adds c.args.care c.requires.care out c.requires.out.1 c.args.place (level + 1) range c.strong-above.result c.strong-above.ensures.is never)))

pub returns-in-Ok-false-clause-few : goal.returns-in-Ok-false-clause-few
returns-in-Ok-false-clause-few c u care out_in =
    let first = c.args.store.now in
    let mid = c.least_strength.new.store in
    let new = c.is_never.new.store in
    let out = c.args.out in
    let level = c.in-Ok.level in
    let adds = c.in-Ok.ensures.adds in
    let most = c.in-Ok.ensures.is.most in
    let other : level ≢ c.args.out.source = c.if-level-out.false in
    let range = word_range out (level + 1) c.args.place (omega (arith, most, other)) c.requires.place.0 in
    let one = c.in-Ok-false.ensures.few u (kept_care u first mid c.args.care adds c.requires.care care)
    (mark_within first mid adds c.args.care c.requires.care out c.requires.out.1 c.args.place (level + 1) range c.strong-above.result c.strong-above.ensures.is u out_in) in
    counts_ok u (c.args.out.source + 1) first new _ (counted_then u c.args.out.source 1 first mid new (c.in-Ok.ensures.few u care out_in).added one.added)

pub returns-in-Err-is_never-clause-few : goal.returns-in-Err-is_never-clause-few
returns-in-Err-is_never-clause-few c u care out_in =
    let first = c.args.store.now in
    let mid = c.least_strength.new.store in
    let new = c.is_never.new.store in
    let out = c.args.out in
    let level = c.in-Ok.level in
    let adds = c.in-Ok.ensures.adds in
    let most = c.in-Ok.ensures.is.most in
    let other : level ≢ c.args.out.source = c.if-level-out.false in
    let range = word_range out (level + 1) c.args.place (omega (arith, most, other)) c.requires.place.0 in
    let one = c.in-Err-is_never.ensures.few u (kept_care u first mid c.args.care adds c.requires.care care)
    (mark_within first mid adds c.args.care c.requires.care out c.requires.out.1 c.args.place (level + 1) range c.strong-above.result c.strong-above.ensures.is u out_in) in
    let all : Counts {A = Bool} u (c.args.out.source + 1) first new (Err c.in-Err-is_never.spent) = counts_then u c.args.out.source 1 first mid new (Err c.in-Err-is_never.spent) (c.in-Ok.ensures.few u care out_in).added one in
    counts_err u (c.args.out.source + 1) first new c.in-Err-is_never.spent all
