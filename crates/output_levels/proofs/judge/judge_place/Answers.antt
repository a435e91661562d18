use Rattle.std.proofs.Common.{◌≡◌, true, arith, ap, refl, sym, subst, ◌∙◌, ◌+◌}
use Rattle.std.proofs.lemmas.Bool.{false≢true}
use Rattle.bdd_core.proofs.Frames.{adds_none}
use Rattle.bdd_core.specs.Store.{function_of}
use Rattle.bdd_ops.proofs.CountingLaws.{counted_more, counted_none, counts_err, counts_ok, counts_value}
use Rattle.output_levels.specs.Always.{strong_at}
use Rattle.output_levels.specs.PartLevels.{PlaceTells}
use Rattle.vrt_model.specs.Lists.{mark_at}
use Rattle.output_levels.proofs.judge.judge_place.Goals as goal

pub returns-then-not-wanted-clause-adds : goal.returns-then-not-wanted-clause-adds
returns-then-not-wanted-clause-adds c = adds_none c.args.store.now c.sound.ensures.sound c.sound.ensures.within

pub returns-then-not-wanted-clause-gives : goal.returns-then-not-wanted-clause-gives
returns-then-not-wanted-clause-gives c = record {
  told = λ mark. absurd (false≢true (sym c.if-not-wanted.true ∙ c.is_asked-wanted.ensures ∙ mark));
  others = λ n none. refl;
}

pub returns-then-not-wanted-clause-few : goal.returns-then-not-wanted-clause-few
returns-then-not-wanted-clause-few c u care out = counts_ok u (c.args.out.source + 1) c.args.store.now c.args.store.now _ (counted_more u 0 (c.args.out.source + 1) c.args.store.now c.args.store.now (omega arith) (counted_none u c.args.store.now))

pub returns-in-Err-clause-few : goal.returns-in-Err-clause-few
returns-in-Err-clause-few c u care out = counts_err u (c.args.out.source + 1) c.args.store.now c.constant_level.new.store c.in-Err.spent (c.in-Err.ensures.few u care out)

pub returns-clause-gives : goal.returns-clause-gives
returns-clause-gives c =
    let asked = c.args.asked.now in
    let net = c.args.net.0 in
    let on : mark_at asked net ≡ true = sym c.is_asked-wanted.ensures ∙ c.if-not-wanted.false in
    record {
      told = λ mark.
          subst (PlaceTells c.args.out.source (function_of c.args.store.now c.args.care) (strong_at c.args.store.now c.args.out c.args.place)) (sym c.write_level.ensures.here) c.in-Ok.ensures.gives;
      others = λ n none. c.write_level.ensures.others n (λ e. none e (ap (mark_at asked) e ∙ on));
    }

pub returns-clause-few : goal.returns-clause-few
returns-clause-few c u care out = counts_value u (c.args.out.source + 1) c.args.store.now c.constant_level.new.store c.in-Ok.level _ (c.in-Ok.ensures.few u care out)
