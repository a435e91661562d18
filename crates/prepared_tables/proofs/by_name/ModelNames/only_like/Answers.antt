use Rattle.std.proofs.Common.{ap, ap₂, None, Option, Bool, cond, ℕ, ◌∙◌}
use Rattle.name_tables.specs.Tables.{first_value}
use Rattle.prepared_tables.proofs.NotedLaws.{only_noted}
use Rattle.prepared_tables.proofs.by_name.ModelNames.only_like.Goals as goal

pub returns-then-has_second : goal.returns-then-has_second
returns-then-has_second c = λ models are.
    ap (λ (b : Bool). cond b None (first_value c.args.self.now.lowered c.args.name.now)) c.if-has_second.ensures ∙ only_noted models c.args.self.now.lowered c.args.name.now are.lowered

pub returns-else-has_second : goal.returns-else-has_second
returns-else-has_second c = λ models are.
    ap₂ (λ (b : Bool) (o : Option ℕ). cond b None o) c.if-has_second.ensures c.first.ensures ∙ only_noted models c.args.self.now.lowered c.args.name.now are.lowered
