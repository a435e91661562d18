use Rattle.std.proofs.Common.{Bool, ℕ, List, ap, inl, inr, slice_index, subst, sym, ◌∙◌}
use Rattle.std.proofs.lemmas.Bool.{cases_eq}
use Rattle.plain_paths.specs.Local.{AgreeAt}
use Rattle.plain_paths.specs.declared.signals.Signals.{Signals}
use Rattle.vrt_model.specs.Lists.{bit_at}
use Rattle.plain_paths.proofs.local.restore_net.Goals as goal

pub returns-clause-each : goal.returns-clause-each
returns-clause-each c n =
    let roots = c.args.roots.now in
    let net = c.args.net in
    let new : Signals = record { strengths = c.copy_level.new.table; zeros = c.copy_mark.new.table; ones = c.copy_mark-2.new.table } in
    let there : AgreeAt new roots net = (
      c.copy_level.ensures.there ∙ ap (λ (t : List ℕ). slice_index t net) c.as_slice.ensures.value,
      c.copy_mark.ensures.there ∙ ap (λ (t : List Bool). bit_at t net) c.as_slice-2.ensures.value,
      c.copy_mark-2.ensures.there ∙ ap (λ (t : List Bool). bit_at t net) c.as_slice-3.ensures.value,
    ) in
    elim (cases_eq n net) [
      | inl e ↦ inl (subst (AgreeAt new roots) (sym e) there)
      | inr apart ↦ inr (c.copy_level.ensures.each n apart, c.copy_mark.ensures.each n apart, c.copy_mark-2.ensures.each n apart)
    ]
