use Rattle.std.proofs.Common.{◌≡◌, ℕ, List, subst}
use Rattle.std.specs.Prelude.{IfOk}
use Rattle.refusal_lines.specs.Lines.{models_line}
use Rattle.verity_run.proofs.RefusalLaws.{unrolling_told}
use Rattle.verity_run.proofs.models.unrolling_refusal.Goals as goal

pub returns-in_default : goal.returns-in_default
returns-in_default c =
    λ blif stands. let a = c.models_refusal.ensures in let b = c.in_default.not-NoMemory in let d = c.told.ensures in let e = c.as_bytes.ensures.value in
    unrolling_told c.args.word.now blif c.args.fault.now c.models_refusal.result c.told.result b stands
    (subst (λ (w : List ℕ). IfOk c.models_refusal.result (λ t. t ≡ models_line w c.args.fault.now)) e a) d
