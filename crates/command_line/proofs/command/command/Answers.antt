use Rattle.std.proofs.Common.{◌≡◌, ap, ap₂, ◌∙◌}
use Rattle.std.proofs.lemmas.Result.{IfOk-weaker}
use Rattle.clap.specs.Words.{app_of, with_rule}
use Rattle.clap.specs.Simple.{app_of_fields}
use Rattle.command_line.specs.Command.{bare_command, with_version}
use Rattle.command_line.proofs.command.command.Goals as goal

pub returns : goal.returns
returns c =
    let bare_is : app_of c.version.result ≡ bare_command = ap app_of_fields c.version.ensures ∙ ap with_version c.new.ensures.app in
    let a1 = c.in_ok-arg.ensures.shape c.value_option.ensures.local ∙ ap₂ with_rule bare_is c.value_option.ensures.rule in
    let a2 = c.in_ok-arg-2.ensures.shape c.value_option-2.ensures.local ∙ ap₂ with_rule a1 c.value_option-2.ensures.rule in
    let a3 = c.in_ok-arg-3.ensures.shape c.value_option-3.ensures.local ∙ ap₂ with_rule a2 c.value_option-3.ensures.rule in
    let a4 = c.in_ok-arg-4.ensures.shape c.value_option-4.ensures.local ∙ ap₂ with_rule a3 c.value_option-4.ensures.rule in
    let a5 = c.in_ok-arg-5.ensures.shape c.value_option-5.ensures.local ∙ ap₂ with_rule a4 c.value_option-5.ensures.rule in
    let a6 = c.in_ok-arg-6.ensures.shape c.value_option-6.ensures.local ∙ ap₂ with_rule a5 c.value_option-6.ensures.rule in
    let a7 = c.in_ok-arg-7.ensures.shape c.value_option-7.ensures.local ∙ ap₂ with_rule a6 c.value_option-7.ensures.rule in
    IfOk-weaker c.arg-8.result _ _ (λ m h. h.shape c.files_argument.ensures.local ∙ ap₂ with_rule a7 c.files_argument.ensures.rule) c.arg-8.ensures
