use Rattle.std.proofs.Common.{◌≡◌, ℕ, refl, ap, subst, arith}
use Rattle.bdd_core.specs.declared.handle.H.{H}
use Rattle.bdd_core.specs.Diagram.{meaning}
use Rattle.bdd_core.specs.Form.{IsForm}
use Rattle.bdd_core.proofs.Meaning.{meaning_zero, meaning_one}
use Rattle.bdd_core.proofs.Choice.{cond_self, either_way}
use Rattle.bdd_core.proofs.standard.form_of.Goals as goal

pub returns-then-f-eq1 : goal.returns-then-f-eq1
returns-then-f-eq1 c = record {
  live = λ n two f_in g_in h_in. g_in;
  same = λ nodes v. rw (c.if-f-eq1.true, meaning_one nodes v) refl;
}

pub returns-then-f-lt2 : goal.returns-then-f-lt2
returns-then-f-lt2 c =
    let zero : c.args.f.0 ≡ 0 = omega (arith, c.if-f-lt2.true, c.if-f-eq1.false) in
    record {
      live = λ n two f_in g_in h_in. h_in;
      same = λ nodes v. rw (zero, meaning_zero nodes v) refl;
    }

pub returns-then-g-h : goal.returns-then-g-h
returns-then-g-h c = record {
  live = λ n two f_in g_in h_in. g_in;
  same = λ nodes v. rw (c.if-g-h.true) (either_way (meaning nodes c.args.f.0 v) (meaning nodes c.args.h.0 v));
}

pub returns-then-f-g : goal.returns-then-f-g
returns-then-f-g c =
    let build : ℕ → H = λ n. record { 0 = n } in
    subst (λ x. IsForm c.args.f x c.args.h c.disjunction.result) (ap build c.if-f-g.true) c.disjunction.ensures

pub returns-then-f-h : goal.returns-then-f-h
returns-then-f-h c =
    let build : ℕ → H = λ n. record { 0 = n } in
    subst (λ x. IsForm c.args.f c.args.g x c.conjunction.result) (ap build c.if-f-h.true) c.conjunction.ensures

pub returns-then-h-eq0 : goal.returns-then-h-eq0
returns-then-h-eq0 c = record {
  live = λ n two f_in g_in h_in. f_in;
  same = λ nodes v. rw (c.if-g-eq1.true, c.if-h-eq0.true, meaning_one nodes v, meaning_zero nodes v) (cond_self (meaning nodes c.args.f.0 v));
}

pub returns : goal.returns
returns c = record {
  first = omega (arith, c.if-f-lt2.false);
  high = omega arith;
  low = omega arith;
  same = λ nodes v. refl;
}
