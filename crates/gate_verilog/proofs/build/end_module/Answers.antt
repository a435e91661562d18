use Rattle.std.proofs.Common.{◌++◌, ◌∷◌, [], ap, subst, sym, ◌∙◌}
use Rattle.verilog_models.specs.Drafts.{IsDraft}
use Rattle.gate_verilog.proofs.build.end_module.Goals as goal

pub returns-clause-models : goal.returns-clause-models
returns-clause-models c m h =
    c.in_ok-append.ensures ∙ ap (λ x. c.args.models.now ++ x ∷ []) (c.in_ok-model.ensures m (subst (IsDraft m) (sym c.replace-whole.ensures.value) h))
