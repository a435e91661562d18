use Rattle.std.proofs.Common.{inl, inr, refl}
use Rattle.std.proofs.lemmas.Result.{err_from_is_err_and}
use Rattle.blif_checks.proofs.SubLaws.{sub_first, sub_rest}
use Rattle.blif_checks.proofs.subs.judge_ties.Goals as goal

pub returns-in_err-take_formals : goal.returns-in_err-take_formals
returns-in_err-take_formals c =
    let p = err_from_is_err_and c.from_residual.result c.from_residual.ensures.1 in
    rw (p.1, p.2) (elim c.in_err-take_formals.ensures.fault [
      | inl h ↦ inl h
      | inr h ↦ inr (sub_first c.args.sub.now c.args.model.now _ _ c.as_slice.ensures h)
    ])

pub returns-in_err-take_tied : goal.returns-in_err-take_tied
returns-in_err-take_tied c =
    let p = err_from_is_err_and c.from_residual-in_err-take_tied.result c.from_residual-in_err-take_tied.ensures.1 in
    rw (p.1, p.2) (elim c.in_err-take_tied.ensures [
      | inl h ↦ inl h
      | inr h ↦
          inr (sub_rest c.args.sub.now c.args.model.now c.take_formals.new.seen _ _ c.args.model.now.clocks _ _ c.as_slice.ensures c.as_slice-2.ensures refl c.in_ok-take_formals.ensures.seen
          c.in_ok-take_formals.ensures.fault h refl)
    ])

pub returns-in_err-take_tied-2 : goal.returns-in_err-take_tied-2
returns-in_err-take_tied-2 c =
    let p = err_from_is_err_and c.from_residual-in_err-take_tied-2.result c.from_residual-in_err-take_tied-2.ensures.1 in
    rw (p.1, p.2) (elim c.in_err-take_tied-2.ensures [
      | inl h ↦ inl h
      | inr h ↦
          inr (sub_rest c.args.sub.now c.args.model.now c.take_formals.new.seen _ _ _ _ _ c.as_slice.ensures c.as_slice-2.ensures c.as_slice-3.ensures c.in_ok-take_formals.ensures.seen
          c.in_ok-take_formals.ensures.fault c.in_ok-take_tied.ensures h)
    ])

pub returns : goal.returns
returns c =
    sub_rest c.args.sub.now c.args.model.now c.take_formals.new.seen _ _ _ _ _ c.as_slice.ensures c.as_slice-2.ensures c.as_slice-3.ensures c.in_ok-take_formals.ensures.seen
    c.in_ok-take_formals.ensures.fault c.in_ok-take_tied.ensures c.in_ok-take_tied-2.ensures
