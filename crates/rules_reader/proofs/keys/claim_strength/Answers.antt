use Rattle.std.proofs.Common.{◌≡◌, ◌++◌, ◌∷◌, [], IfOk, codes, subst}
use Rattle.rules_reader.specs.Claimed.{Claims}
use Rattle.rules_reader.specs.Keys.{key, spaced}
use Rattle.rules_reader.proofs.keys.claim_strength.Goals as goal

pub returns : goal.returns
returns c =
    let table : c.as_slice.result.now ≡ codes "strength " = c.as_slice.ensures in
    subst (λ t. IfOk c.claim_in.result (Claims (key (t ++ spaced c.args.cell.now) c.args.device.now ∷ []) c.args.keys.now c.claim_in.new.keys)) table c.claim_in.ensures
