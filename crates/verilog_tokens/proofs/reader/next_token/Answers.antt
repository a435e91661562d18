use Rattle.std.proofs.Common.{arith, ◌∙◌}
use Rattle.verilog_tokens.proofs.StepLaws.{endless_tokens, over_less, over_tokens, stays_tokens}
use Rattle.verilog_tokens.proofs.reader.next_token.Goals as goal

pub passed-smaller : goal.passed-smaller
passed-smaller c = over_less _ _ c.in-Over.ensures.passed

pub passed-preserved : goal.passed-preserved
passed-preserved c = (omega (arith, c.in-Over.ensures.room, c.passed.invariant.0), c.passed.invariant.1 ∙ over_tokens _ _ c.in-Over.ensures.passed)

pub returns-in-Endless-clause-token : goal.returns-in-Endless-clause-token
returns-in-Endless-clause-token c = c.passed.invariant.1 ∙ endless_tokens _ _ c.in-Endless.ensures.passed

pub returns-in-Stays-clause-token : goal.returns-in-Stays-clause-token
returns-in-Stays-clause-token c = c.passed.invariant.1 ∙ stays_tokens _ _ c.in-Stays.ensures.passed ∙ c.take_token.ensures.token
