use Rattle.std.proofs.Common.{◌≢◌, ℕ, List, [], Option, length, unwrap_or, ap, sym, subst, ◌∙◌}
use Rattle.std.proofs.lemmas.Result.{IfErr-weaker, IfOk-weaker}
use Rattle.clap.specs.Words.{found_of}
use Rattle.clap.proofs.WalkLemmas.{raw_values-rows}
use Rattle.command_line.proofs.options.files.Goals as goal

pub returns-in-Some-clause-ok : goal.returns-in-Some-clause-ok
returns-in-Some-clause-ok c =
    let is = ap (λ (o : Option (List (List ℕ))). unwrap_or o []) (c.in-Some.ensures ∙ raw_values-rows (found_of c.args.matches.now) _) in
    IfOk-weaker c.three.result _ _ (λ files h. sym is ∙ h) c.three.ensures.ok

pub returns-in-Some-clause-err : goal.returns-in-Some-clause-err
returns-in-Some-clause-err c =
    let is = ap (λ (o : Option (List (List ℕ))). unwrap_or o []) (c.in-Some.ensures ∙ raw_values-rows (found_of c.args.matches.now) _) in
    IfErr-weaker c.three.result _ _ (λ misfit h. subst (λ (names : List (List ℕ)). (length names ≢ 0) × (length names ≢ 3)) is h) c.three.ensures.err

pub returns-in-None-clause-ok : goal.returns-in-None-clause-ok
returns-in-None-clause-ok c =
    sym (ap (λ (o : Option (List (List ℕ))). unwrap_or o []) (c.in-None.ensures ∙ raw_values-rows (found_of c.args.matches.now) _))
