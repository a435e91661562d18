use Rattle.std.proofs.Common.{◌≡◌, ◌∷◌, [], IfOk, codes, subst, ◌∙◌}
use Rattle.rules_reader.specs.Claimed.{Claims}
use Rattle.rules_reader.specs.Keys.{key}
use Rattle.rules_reader.proofs.keys.claim_defaultclock.Goals as goal

pub returns : goal.returns
returns c =
    let word : c.in_ok-word.word ≡ codes "defaultclock" = c.in_ok-word.ensures ∙ c.as_slice.ensures in
    let table : c.as_slice-2.result.now ≡ [] = c.as_slice-2.ensures in
    subst (λ t. IfOk c.claim_word.result (Claims (key t (codes "defaultclock") ∷ []) c.args.keys.now c.claim_word.new.keys)) table
    (subst (λ w. IfOk c.claim_word.result (Claims (key c.as_slice-2.result.now w ∷ []) c.args.keys.now c.claim_word.new.keys)) word c.claim_word.ensures)
