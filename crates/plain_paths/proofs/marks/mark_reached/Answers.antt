use Rattle.std.proofs.Common.{◌≡◌, ℕ, Bool, false, length, arith, subst, sym, ap, ◌∙◌}
use Rattle.std.proofs.lemmas.List.{length-replicate}
use Rattle.plain_paths.proofs.Spreads.{none_marked, roots_marked}
use Rattle.plain_paths.specs.Marks.{Marked}
use Rattle.vrt_model.specs.Networks.{HasBound}
use Rattle.plain_paths.proofs.marks.mark_reached.Goals as goal

pub returns : goal.returns
returns c w over given held bounded has strong =
    let circuit = c.args.circuit.now in
    let s = c.args.strengths.now in
    let v = c.args.value in
    let u = c.mark_holds.new.marks in
    let none : Marked w s v c.args.marks.now = subst (Marked w s v) (sym c.requires.none) (none_marked w s v (length circuit.nets)) in
    let marked : Marked w s v u = c.mark_holds.ensures.marked w over held (c.mark_given.ensures.marked w over given none) in
    let roots =
    roots_marked circuit w s v u over
    (λ at net e g l b. c.mark_holds.ensures.grown at (c.mark_given.ensures.given at net e g l (sym (ap (λ (f : ℕ → Bool). f at) given) ∙ b)))
    (λ at hold e l b. c.mark_holds.ensures.holds at hold e l (sym (ap (λ (f : ℕ → Bool). f at) held) ∙ b)) in
    let len : length circuit.nets ≡ length u = omega (arith, length-replicate (length circuit.nets) false, ap {B = ℕ} (length {A = Bool}) c.requires.none, c.mark_given.auto.marks, c.mark_holds.auto.marks) in
    c.spread_all.ensures w (subst (HasBound w) len bounded) has strong roots marked
