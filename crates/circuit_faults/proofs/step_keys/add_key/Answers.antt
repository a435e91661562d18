use Rattle.std.proofs.Common.{◌≡◌, ℕ, Bool, cond, [], ◌∷◌, ◌++◌, ap, sym, ◌∙◌}
use Rattle.std.proofs.lemmas.List.{append-nil}
use Rattle.std.proofs.lemmas.Result.{on_ok_weaker}
use Rattle.std.specs.Prelude.{Some, slice_index}
use Rattle.circuit_faults.specs.Keys.{key_of}
use Rattle.constraints.specs.Obliged.{nets_named}
use Rattle.vrt_model.specs.Places.{greatest_rank}
use Rattle.circuit_faults.proofs.step_keys.add_key.Goals as goal

pub returns-then-not-is_constrained : goal.returns-then-not-is_constrained
returns-then-not-is_constrained c =
    let old = c.args.keys.now.items in
    let ranked = c.args.ranked in
    let rank = greatest_rank (slice_index ranked.ranks.now) (nets_named ranked.design.now ranked.rules.now ranked.phase c.args.instance.now) in
    sym (append-nil old)
    ∙ ap (λ (b : Bool). old ++ cond b (((rank, 1), c.args.at) ∷ []) []) (sym (sym c.is_constrained.ensures ∙ c.if-not-is_constrained.true))

pub returns : goal.returns
returns c =
    let old = c.args.keys.now.items in
    let new = c.append.new.keys.items in
    let ranked = c.args.ranked in
    let rank = greatest_rank (slice_index ranked.ranks.now) (nets_named ranked.design.now ranked.rules.now ranked.phase c.args.instance.now) in
    let more : new ≡ old ++ ((c.named_rank-rank.result, 1), c.args.at) ∷ [] → new ≡ old ++ key_of ranked.design.now ranked.rules.now ranked.phase ranked.ranks.now c.args.at (Some c.args.instance.now) =
    λ e.
    e
    ∙ ap (λ (r : ℕ). old ++ ((r, 1), c.args.at) ∷ []) c.named_rank-rank.ensures
    ∙ ap (λ (b : Bool). old ++ cond b (((rank, 1), c.args.at) ∷ []) []) (sym (sym c.is_constrained.ensures ∙ c.if-not-is_constrained.false)) in
    on_ok_weaker c.append.result more c.append.ensures
