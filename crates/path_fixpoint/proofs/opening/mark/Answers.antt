use Rattle.std.proofs.Common.{◌≡◌, ℕ, arith, ap, refl, sym, subst, ◌∙◌, length, inl, inr}
use Rattle.path_fixpoint.specs.Strengths.{word_of}
use Rattle.bdd_core.specs.Words.{word_at}
use Rattle.path_fixpoint.proofs.Places.{place_in, place_words, words_differ}
use Rattle.bdd_ops.proofs.WithinLaws.{within_one}
use Rattle.std.proofs.lemmas.Bool.{cases_eq}
use Rattle.path_fixpoint.specs.Parts.{IsPlace}
use Rattle.path_fixpoint.proofs.opening.mark.Goals as goal

pub returns-in_default-clause-marked : goal.returns-in_default-clause-marked
returns-in_default-clause-marked c fits i p = absurd (c.in_default.ensures.none refl i p)

pub word-requires-clause-fits : goal.word-requires-clause-fits
word-requires-clause-fits c =
    let inside = place_in c.args.part.now c.in-Some.i c.args.net.0 c.in-Some.ensures.some in
    omega (arith, place_words c.args.out (length c.args.part.now.nets) c.in-Some.i c.requires.out.2 inside, c.requires.out.3, c.requires.level.1)

pub set-requires-clause-at : goal.set-requires-clause-at
set-requires-clause-at c =
    let inside = place_in c.args.part.now c.in-Some.i c.args.net.0 c.in-Some.ensures.some in
    omega (arith, place_words c.args.out (length c.args.part.now.nets) c.in-Some.i c.requires.out.2 inside, c.requires.level.0, c.requires.level.1, c.word.ensures)

pub returns-clause-apart : goal.returns-clause-apart
returns-clause-apart c k away = c.set.ensures.apart k (λ e. away c.in-Some.i (e ∙ c.word.ensures))

pub returns-clause-marked : goal.returns-clause-marked
returns-clause-marked c fits i p =
    let same : i ≡ c.in-Some.i = c.requires.part i c.in-Some.i c.args.net.0 p c.in-Some.ensures.some in
    subst (λ (x : ℕ). word_at c.set.new.store c.args.out.span x ≡ 1) (c.word.ensures ∙ ap (λ (x : ℕ). word_of c.args.out c.args.level x) (sym same)) c.set.ensures.here

pub returns-clause-only : goal.returns-clause-only
returns-clause-only c i =
    let out = c.args.out in
    let level = c.args.level in
    let here = c.in-Some.i in
    elim (cases_eq i here) [
      | inl e ↦ inr (
        subst (λ (x : ℕ). word_at c.set.new.store out.span x ≡ 1) (c.word.ensures ∙ ap (λ (x : ℕ). word_of out level x) (sym e)) c.set.ensures.here,
        (c.if-not-fits.false, subst (λ (x : ℕ). IsPlace c.args.part.now x c.args.net.0) (sym e) c.in-Some.ensures.some),
      )
      | inr ne ↦ inl (c.set.ensures.apart (word_of out level i) (λ e. ne (words_differ out level i here (e ∙ c.word.ensures))))
    ]

pub returns-clause-few : goal.returns-clause-few
returns-clause-few c u all = c.set.ensures.few u all (within_one u c.args.store.now)
