use Rattle.std.proofs.Common.{◌≡◌, ℕ, ◌≤◌, arith, sym, subst, ◌∙◌, below_more}
use Rattle.std.proofs.lemmas.Option.{same_Some, slice_get_within}
use Rattle.vrt_model.specs.Lists.{At}
use Rattle.vrt_model.specs.Path.{level_of_drive}
use Rattle.vrt_model.specs.declared.whole.WholePin.{WholePin}
use Rattle.path_fixpoint.specs.Openings.{IsPinAt, mark_of}
use Rattle.path_fixpoint.specs.Parts.{IsPlace}
use Rattle.bdd_core.proofs.Frames.{writes_then}
use Rattle.path_fixpoint.proofs.Opened.{one_stays, only_then}
use Rattle.path_fixpoint.proofs.SpendingLaws.{rewrites_then}
use Rattle.path_fixpoint.proofs.opening.mark_outputs.Goals as goal

pub loop-at-preserved : goal.loop-at-preserved
loop-at-preserved c =
    let out = c.args.out in
    let level = c.args.level in
    let outputs = c.args.outputs.now in
    let part = c.args.part.now in
    let at = c.loop-at.at in
    let old = c.loop-at.store in
    let new = c.mark.new.store in
    let i = c.loop-at.invariant in
    let pin : WholePin = c.pin_at-pin.result.now in
    let there : At outputs at pin = c.pin_at-pin.ensures in
    let P : ℕ → Type 0 = λ k. (x : WholePin) → At outputs k x → level ≤ level_of_drive out.source x.drive → (j : ℕ) → IsPlace part j x.net.0 → mark_of new out level j ≡ 1 in
    record {
      writes = writes_then out.span c.args.store.now old new i.writes c.mark.ensures.writes;
      apart = λ k away. c.mark.ensures.apart k away ∙ i.apart k away;
      marked = below_more P at
          (λ k lt x e le j p. one_stays out level _ old new j c.mark.ensures.only (i.marked k lt x e le j p))
          (λ x e le j p.
          let same : x ≡ pin = same_Some x pin (sym e ∙ there) in
          let here : level ≤ level_of_drive out.source pin.drive = subst (λ (y : WholePin). level ≤ level_of_drive out.source y.drive) same le in
          c.mark.ensures.marked (c.has_level-fits.ensures.1 (omega (arith, here, c.drive_level.ensures))) j (subst (λ (y : WholePin). IsPlace part j y.net.0) same p));
      only = only_then out level (IsPinAt out.source part outputs level) _ c.args.store.now old new
          (λ k q. (pin, (at, there), (let le = c.has_level-fits.ensures.0 q.0 in omega (arith, le, c.drive_level.ensures)), q.1)) i.only c.mark.ensures.only;
      few = λ u all. let r = i.few u all in rewrites_then u out.span c.args.store.now old new r (c.mark.ensures.few u r.within);
    }

pub returns-clause-marked : goal.returns-clause-marked
returns-clause-marked c k h =
    let inside = slice_get_within c.args.outputs.now h.1.0 h.0 h.1.1 in
    c.loop-at.invariant.marked h.1.0 (omega (arith, inside, c.loop-at-test.false)) h.0 h.1.1 h.2 k h.3
