use Rattle.std.proofs.Common.{ap, false}
use Rattle.std.specs.Prelude.{codes}
use Rattle.std.proofs.lemmas.Str.Pattern.{ends_text}
use Rattle.verity_run.specs.Models.{language_by}
use Rattle.verity_run.proofs.models.language_of.Goals as goal

pub returns-else-ends_with : goal.returns-else-ends_with
returns-else-ends_with c = ap language_by (ends_text false (codes ".v") c.args.name.now c.if-ends_with.ensures.cases)
