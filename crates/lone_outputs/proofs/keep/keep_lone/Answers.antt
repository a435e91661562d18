use Rattle.std.proofs.Common.{◌≡◌, ◌&&◌, ℕ, Bool, arith, ap, sym, subst, ◌∙◌, inl, inr}
use Rattle.std.proofs.lemmas.Bool.{cases_eq}
use Rattle.vrt_model.specs.Lists.{mark_at}
use Rattle.lone_outputs.proofs.keep.keep_lone.Goals as goal

pub keep_mark-requires : goal.keep_mark-requires
keep_mark-requires c = (let len = c.loop-at.invariant.len in let count = c.requires in omega (arith, len, count, c.loop-at-test.true))

pub loop-at-preserved : goal.loop-at-preserved
loop-at-preserved c =
    let i = c.loop-at.at in
    let old = c.args.all.now.items in
    let now = c.loop-at.all.items in
    let new = c.keep_mark.new.all.items in
    let more = c.args.lone.now in
    let inv = c.loop-at.invariant in
    let step = c.keep_mark.ensures in
    let same : mark_at now i ≡ mark_at old i = inv.later i (omega arith) in
    let here : mark_at new i ≡ (mark_at more i && mark_at old i) =
    step.here ∙ ap (λ (b : Bool). b && mark_at now i) c.is_marked-here.ensures ∙ ap (λ (b : Bool). mark_at more i && b) same in
    record {
      len = step.len ∙ inv.len;
      kept = λ j lt. elim (cases_eq j i) [
        | inl e ↦ subst (λ (k : ℕ). mark_at new k ≡ (mark_at more k && mark_at old k)) (sym e) here
        | inr ne ↦ step.others j ne ∙ inv.kept j (omega (arith, lt, ne))
      ];
      later = λ j le. step.others j (λ e. omega (arith, e, le)) ∙ inv.later j (omega (arith, le));
    }

pub returns : goal.returns
returns c = record {
  len = c.loop-at.invariant.len;
  each = λ j lt. c.loop-at.invariant.kept j (let count = c.requires in omega (arith, lt, count, c.loop-at-test.false));
}
