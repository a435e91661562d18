use Rattle.std.proofs.Common.{ap, sym, ◌∙◌}
use Rattle.std.proofs.lemmas.Result.{err_from_is_err_and}
use Rattle.verilog_source.specs.Kept.{gathered, seen_known, step_told}
use Rattle.verilog_source.specs.Places.{step}
use Rattle.verilog_source.specs.Positions.{place}
use Rattle.verilog_source.proofs.JudgeLaws.{judged_within}
use Rattle.verilog_source.proofs.reader.take_within.Goals as goal
use Rattle.verilog_tokens.specs.Signs.{sign_of, token_of}

pub returns-in_err-judge_next-clause-fault : goal.returns-in_err-judge_next-clause-fault
returns-in_err-judge_next-clause-fault c =
    let p = err_from_is_err_and c.from_residual.result c.from_residual.ensures.1 in
    let old = c.args.known.now in
    let new = c.take_place.new.known in
    rw (p.1, p.2) (judged_within (seen_known old) (token_of c.args.line c.args.kind c.args.bytes.now)
    (step (place old.position old.work) c.args.line (sign_of c.args.kind c.args.bytes.now)) _ _ new.modules (gathered new.ports) (gathered new.directions)
    c.is_past_limit-has_passed.result (sym c.in-Ok.ensures.step ∙ ap (λ x. step_told x c.args.bytes.now new.position new.work) c.in-Some.is) c.in-Ok.ensures.modules
    (ap gathered c.in-Ok.ensures.ports) (ap gathered c.in-Ok.ensures.directions) (c.is_past_limit-has_passed.ensures c.args.bytes.now)
    (c.in_err-judge_next.ensures old.work))
