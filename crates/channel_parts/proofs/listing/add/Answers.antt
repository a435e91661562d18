use Rattle.std.proofs.Common.{◌≡◌, ℕ, ◌+◌, [], ◌∷◌, ◌++◌, ap, subst, sym, ◌∙◌}
use Rattle.std.proofs.lemmas.Result.{on_ok_weaker}
use Rattle.channel_parts.proofs.ListLaws.{pairs_kept, pairs_more}
use Rattle.channel_parts.specs.Listings.{ArePairs, key_of}
use Rattle.channel_parts.proofs.listing.add.Goals as goal

pub returns-then-not-is_plain : goal.returns-then-not-is_plain
returns-then-not-is_plain c are =
    pairs_kept c.args.circuit.now c.args.ranks.now c.args.least.now c.args.net c.args.pairs.now.items (sym c.is_plain.ensures ∙ c.if-not-is_plain.true) are

pub returns : goal.returns
returns c =
    let circuit = c.args.circuit.now in
    let ranks = c.args.ranks.now in
    let least = c.args.least.now in
    let net = c.args.net in
    let old = c.args.pairs.now.items in
    let new = c.append.new.pairs.items in
    let more : new ≡ old ++ (c.key.result, net) ∷ [] → ArePairs circuit ranks least net old → ArePairs circuit ranks least (net + 1) new =
    λ e are.
    let here : new ≡ old ++ (key_of ranks least net, net) ∷ [] = e ∙ ap (λ (key : ℕ × ℕ). old ++ (key, net) ∷ []) c.key.ensures in
    subst (ArePairs circuit ranks least (net + 1)) (sym here) (pairs_more circuit ranks least net old (sym c.is_plain.ensures ∙ c.if-not-is_plain.false) are) in
    on_ok_weaker c.append.result more c.append.ensures
