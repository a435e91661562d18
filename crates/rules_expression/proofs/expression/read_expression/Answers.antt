use Rattle.std.proofs.Common.{◌≡◌, IfOk, subst}
use Rattle.rules_expression.specs.Kept.{seen_opt}
use Rattle.rules_expression.specs.Pieces.{line_tokens}
use Rattle.rules_expression.specs.Readings.{formula_of}
use Rattle.rules_expression.proofs.ReadLaws.{all_by_grammar, from_start}
use Rattle.rules_expression.proofs.expression.read_expression.Goals as goal

pub returns-clause-formula : goal.returns-clause-formula
returns-clause-formula c =
    subst (λ ts. IfOk c.read_behind.result (λ e. seen_opt e ≡ formula_of ts)) c.as_bytes.ensures
    (from_start (line_tokens c.as_bytes.result.now) _ c.read_behind.result c.begin-progress.ensures c.read_behind.ensures)

pub returns-clause-grammar : goal.returns-clause-grammar
returns-clause-grammar c = all_by_grammar c.args.tokens.now c.read_behind.result (
    subst (λ ts. IfOk c.read_behind.result (λ e. seen_opt e ≡ formula_of ts)) c.as_bytes.ensures
    (from_start (line_tokens c.as_bytes.result.now) _ c.read_behind.result c.begin-progress.ensures c.read_behind.ensures))
