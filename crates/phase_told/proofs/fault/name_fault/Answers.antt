use Rattle.std.proofs.Common.{◌≡◌, ℕ, List, length, ap, refl, ◌∙◌}
use Rattle.phase_terms.specs.Ready.{comparison_in}
use Rattle.phase_told.proofs.SiteLaws.{site_named}
use Rattle.phase_told.specs.Valuations.{valuation_in}
use Rattle.vrt_model.specs.Held.{sources_of}
use Rattle.vrt_model.specs.declared.groups.Source.{Source}
use Rattle.phase_told.proofs.fault.name_fault.Goals as goal

pub returns : goal.returns
returns c =
    let found = c.args.found in
    let count : c.len.result ≡ length (sources_of (comparison_in found.compared) found.phase) = c.len.ensures ∙ ap (λ (xs : List Source). length xs) c.requires.sources in (
      refl,
      site_named (comparison_in found.compared) found.phase found.fault c.args.store.now c.args.site c.in_ok-place.place c.in_ok-names.names c.in_ok-valuation.valuation c.requires.site
          c.in_ok-place.ensures (c.in_ok-names.ensures ∙ c.as_slice.ensures ∙ c.requires.names)
          (c.in_ok-valuation.ensures ∙ ap (λ (n : ℕ). valuation_in c.args.store.now found.fault.least n) count),
    )
