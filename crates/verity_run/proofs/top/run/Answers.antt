use Rattle.std.proofs.Common.{Err, ap, subst}
use Rattle.command_line.specs.Command.{texts}
use Rattle.command_line.specs.Requests.{Asks}
use Rattle.verity_run.proofs.Written.{request_fits, is_wanted, refuses_words, served_read, served_understood, shows_help, shows_version}
use Rattle.verity_run.proofs.top.run.Goals as goal

pub serve-requires : goal.serve-requires
serve-requires g c =
    request_fits (texts c.args.words.now) c.in-Ok-Run.request (subst (Asks (texts c.args.words.now)) c.in-Ok-Run.field-0-is c.in-Ok-Run.ensures.asked)

pub returns-in-Ok-Run-clause-answers : goal.returns-in-Ok-Run-clause-answers
returns-in-Ok-Run-clause-answers g c =
    is_wanted c.in-Ok-Run.request _ _ _ _ _ _ _ _ c.serve.ensures (texts c.args.words.now)
    (subst (Asks (texts c.args.words.now)) c.in-Ok-Run.field-0-is c.in-Ok-Run.ensures.asked)

pub returns-in-Ok-Run-clause-usage : goal.returns-in-Ok-Run-clause-usage
returns-in-Ok-Run-clause-usage g c = λ is. absurd (served_understood c.in-Ok-Run.request _ _ _ _ _ _ _ _ c.serve.ensures is)

pub returns-in-Ok-Run-clause-read : goal.returns-in-Ok-Run-clause-read
returns-in-Ok-Run-clause-read g c = served_read c.in-Ok-Run.request _ _ _ _ _ _ _ _ c.serve.ensures

pub returns-in-Ok-Run-clause-write : goal.returns-in-Ok-Run-clause-write
returns-in-Ok-Run-clause-write g c = λ is. (c.serve.ensures.fault is).0

pub returns-in-Ok-Help-clause-answers : goal.returns-in-Ok-Help-clause-answers
returns-in-Ok-Help-clause-answers g c =
    shows_help (texts c.args.words.now) _ _ _ _ c.help.result.now _ _ _ _ (subst (Asks (texts c.args.words.now)) c.in-Ok-Help.field-0-is c.in-Ok-Help.ensures.asked)
    c.help.ensures c.tell.ensures

pub returns-in-Ok-Version-clause-answers : goal.returns-in-Ok-Version-clause-answers
returns-in-Ok-Version-clause-answers g c =
    shows_version (texts c.args.words.now) _ _ _ _ c.version.result.now _ _ _ _
    (subst (Asks (texts c.args.words.now)) c.in-Ok-Version.field-0-is c.in-Ok-Version.ensures.asked) c.version.ensures c.tell-in-Ok-Version.ensures

pub returns-in-Err-Usage-clause-answers : goal.returns-in-Err-Usage-clause-answers
returns-in-Err-Usage-clause-answers g c =
    refuses_words (texts c.args.words.now) _ _ _ _ c.usage.result.now _ _ _ _ (c.in-Err-Usage.ensures.usage (ap Err c.in-Err-Usage.field-0-is)) c.usage.ensures
    c.tell-in-Err-Usage.ensures
