use Rattle.std.proofs.Common.{inl, inr, sym, ◌∙◌}
use Rattle.std.proofs.lemmas.Result.{err_from_is_err_and}
use Rattle.verilog_source.specs.Kept.{seen_known}
use Rattle.verilog_source.proofs.JudgeLaws.{end_fault, sign_first, within_fault}
use Rattle.verilog_source.proofs.reader.take_token.Goals as goal
use Rattle.verilog_tokens.specs.Signs.{token_of}

pub returns-in_err-judge_sign-clause-fault : goal.returns-in_err-judge_sign-clause-fault
returns-in_err-judge_sign-clause-fault c =
    let p = err_from_is_err_and c.from_residual.result c.from_residual.ensures.1 in
    let k = seen_known c.args.known.now in
    let t = token_of c.args.line c.args.kind c.args.bytes.now in
    rw (p.1, p.2) (elim c.in_err-judge_sign.ensures [ inl h ↦ inl h | inr h ↦ inr (sign_first k t _ h) ])

pub returns-in_err-judge_end-clause-fault : goal.returns-in_err-judge_end-clause-fault
returns-in_err-judge_end-clause-fault c =
    let p = err_from_is_err_and c.from_residual-in_err-judge_end.result c.from_residual-in_err-judge_end.ensures.1 in
    let k = seen_known c.args.known.now in
    let t = token_of c.args.line c.args.kind c.args.bytes.now in
    rw (p.1, p.2) (elim (c.in_err-judge_end.ensures c.args.known.now.work c.args.bytes.now) [
      | inl h ↦ inl h
      | inr h ↦ inr (end_fault k t c.in_ok-judge_sign.ensures (sym (c.is_end_kind.ensures c.args.bytes.now) ∙ c.if-is_end_kind.true) ∙ h)
    ])

pub returns-then-is_end_kind-clause-fault : goal.returns-then-is_end_kind-clause-fault
returns-then-is_end_kind-clause-fault c =
    let k = seen_known c.args.known.now in
    let t = token_of c.args.line c.args.kind c.args.bytes.now in
    end_fault k t c.in_ok-judge_sign.ensures (sym (c.is_end_kind.ensures c.args.bytes.now) ∙ c.if-is_end_kind.true)
    ∙ c.in_ok-judge_end.ensures c.args.known.now.work c.args.bytes.now

pub returns-in_err-told-clause-fault : goal.returns-in_err-told-clause-fault
returns-in_err-told-clause-fault c =
    let p = err_from_is_err_and c.from_residual-in_err-told.result c.from_residual-in_err-told.ensures.1 in
    let k = seen_known c.args.known.now in
    let t = token_of c.args.line c.args.kind c.args.bytes.now in
    rw (p.1, p.2) (elim c.in_err-told.ensures.fault [
      | inl h ↦ inl h
      | inr h ↦ inr (within_fault k t c.in_ok-judge_sign.ensures (sym (c.is_end_kind.ensures c.args.bytes.now) ∙ c.if-is_end_kind.false) ∙ h)
    ])

pub returns-clause-fault : goal.returns-clause-fault
returns-clause-fault c =
    let k = seen_known c.args.known.now in
    let t = token_of c.args.line c.args.kind c.args.bytes.now in
    within_fault k t c.in_ok-judge_sign.ensures (sym (c.is_end_kind.ensures c.args.bytes.now) ∙ c.if-is_end_kind.false) ∙ c.in_ok-told.ensures.fault
