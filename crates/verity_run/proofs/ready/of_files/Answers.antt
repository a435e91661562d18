use Rattle.std.proofs.Common.{inl}
use Rattle.verity_run.specs.Given.{bytes_in, names_in}
use Rattle.verity_run.proofs.RefusalLaws.{stop_told}
use Rattle.verity_run.proofs.Written.{given_says, given_told, stopped_told}
use Rattle.verity_run.proofs.ready.of_files.Goals as goal

pub returns-in-Ok-clause-says : goal.returns-in-Ok-clause-says
returns-in-Ok-clause-says g c =
    given_says c.args.request.now _ (names_in c.args.words.now) (bytes_in c.in-Ok.texts) _ c.bytes_in.ensures (inl (c.requires, c.in-Ok.ensures.ok)) c.of_texts.result c.of_texts.ensures.says

pub returns-in-Ok-clause-err : goal.returns-in-Ok-clause-err
returns-in-Ok-clause-err g c =
    given_told c.args.request.now _ (names_in c.args.words.now) (bytes_in c.in-Ok.texts) _ c.bytes_in.ensures (inl (c.requires, c.in-Ok.ensures.ok)) c.of_texts.result _ _ c.of_texts.ensures.err

pub returns-in-Err-clause-err : goal.returns-in-Err-clause-err
returns-in-Err-clause-err g c =
    stopped_told c.args.request.now _ (names_in c.args.words.now) _ _ c.requires c.unread.result
    (stop_told _ (names_in c.args.words.now) _ _ c.in-Err.stopped.stop c.in-Err.stopped.name.now c.unread.result c.unread.ensures c.in-Err.ensures.err)
