use Rattle.std.proofs.Common.{arith, ◌∷◌, ap, inl, inr, refl, subst, sym, ◌∙◌}
use Rattle.std.proofs.lemmas.Result.{err_from_is_err_and}
use Rattle.gate_verilog.specs.Built.{IsBuilding, built_from}
use Rattle.gate_verilog.proofs.ReadLaws.{none_left, reads_end, reads_fault, reads_none, reads_token, some_left}
use Rattle.gate_verilog.proofs.reader.take_all.Goals as goal
use Rattle.verilog_tokens.specs.Signs.{token_of}

pub tokens-init : goal.tokens-init
tokens-init c = (reads_none _ _ _ _ _ refl c.requires.known c.requires.models c.requires.draft, omega arith)

pub add_told-requires : goal.add_told-requires
add_told-requires c = c.tokens.invariant.0.holds.building.drafted.even

pub tokens-preserved : goal.tokens-preserved
tokens-preserved c =
    let found = c.next_token-token.result in
    let t = token_of found.line found.kind found.bytes.now in
    let goes_on = sym (c.is_end_kind.ensures found.bytes.now) ∙ c.if-is_end_kind.false in (
      reads_token _ _ _ _ _ t _ _ _ _ c.tokens.invariant.0 (c.next_token-token.ensures.token ∙ ap (λ ts. t ∷ ts) (some_left t _ goes_on)) c.in_ok-told.ensures.fault c.in_ok-told.ensures.next goes_on
          (λ b h. subst (λ es. IsBuilding (built_from b es) c.add_told.new.models c.add_told.new.draft) c.in_ok-told.ensures.told (c.in-Ok.ensures b h)),
      omega (arith, c.next_token-token.ensures.room, c.tokens.invariant.1),
    )

pub returns-in_err-told-clause-err : goal.returns-in_err-told-clause-err
returns-in_err-told-clause-err c =
    let p = err_from_is_err_and c.from_residual.result c.from_residual.ensures.1 in
    rw (p.1, p.2) (elim c.in_err-told.ensures.fault [
      | inl h ↦ inl h
      | inr h ↦ inr (reads_fault _ _ _ _ _ _ _ _ c.tokens.invariant.0 c.next_token-token.ensures.token h)
    ])

pub returns-then-is_end_kind-clause-clean : goal.returns-then-is_end_kind-clause-clean
returns-then-is_end_kind-clause-clean c =
    let found = c.next_token-token.result in
    let t = token_of found.line found.kind found.bytes.now in
    let ends = sym (c.is_end_kind.ensures found.bytes.now) ∙ c.if-is_end_kind.true in
    (reads_end _ _ _ t _ _ c.tokens.invariant.0 (c.next_token-token.ensures.token ∙ ap (λ ts. t ∷ ts) (none_left t _ ends)) c.in_ok-told.ensures.fault ends).clean

pub returns-then-is_end_kind-clause-models : goal.returns-then-is_end_kind-clause-models
returns-then-is_end_kind-clause-models c =
    let found = c.next_token-token.result in
    let t = token_of found.line found.kind found.bytes.now in
    let ends = sym (c.is_end_kind.ensures found.bytes.now) ∙ c.if-is_end_kind.true in
    (reads_end _ _ _ t _ _ c.tokens.invariant.0 (c.next_token-token.ensures.token ∙ ap (λ ts. t ∷ ts) (none_left t _ ends)) c.in_ok-told.ensures.fault ends).read

pub returns-then-is_end_kind-clause-fit : goal.returns-then-is_end_kind-clause-fit
returns-then-is_end_kind-clause-fit c =
    let found = c.next_token-token.result in
    let t = token_of found.line found.kind found.bytes.now in
    let ends = sym (c.is_end_kind.ensures found.bytes.now) ∙ c.if-is_end_kind.true in
    (reads_end _ _ _ t _ _ c.tokens.invariant.0 (c.next_token-token.ensures.token ∙ ap (λ ts. t ∷ ts) (none_left t _ ends)) c.in_ok-told.ensures.fault ends).fit
