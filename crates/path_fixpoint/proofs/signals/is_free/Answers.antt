use Rattle.std.proofs.Common.{◌≡◌, ℕ, arith, ap, sym, ◌∙◌}
use Rattle.std.proofs.lemmas.Bool.{false≢true}
use Rattle.bdd_core.specs.Diagram.{meaning}
use Rattle.bdd_core.proofs.Meaning.{meaning_one, meaning_zero}
use Rattle.path_fixpoint.proofs.signals.is_free.Goals as goal

pub returns-then-signal-eq0 : goal.returns-then-signal-eq0
returns-then-signal-eq0 c e nodes v on here =
    let none : c.args.signal.0 ≡ 0 = omega (arith, c.if-signal-eq0.true) in
    absurd (false≢true (sym (meaning_zero nodes v) ∙ sym (ap (λ (h : ℕ). meaning nodes h v) none) ∙ on))

pub returns-then-here-eq0 : goal.returns-then-here-eq0
returns-then-here-eq0 c e nodes v on here =
    let none : c.args.here.0 ≡ 0 = omega (arith, c.if-here-eq0.true) in
    absurd (false≢true (sym (meaning_zero nodes v) ∙ sym (ap (λ (h : ℕ). meaning nodes h v) none) ∙ here))

pub returns-then-here-other : goal.returns-then-here-other
returns-then-here-other c e nodes v on here =
    let same : c.args.here.0 ≡ c.args.other.0 = omega (arith, c.if-here-other.true) in
    sym (ap (λ (h : ℕ). meaning nodes h v) same) ∙ here

pub returns : goal.returns
returns c e nodes v on here = ap (λ (h : ℕ). meaning nodes h v) (c.is_one.ensures e) ∙ meaning_one nodes v
