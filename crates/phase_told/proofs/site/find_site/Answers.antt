use Rattle.std.proofs.Common.{refl}
use Rattle.phase_terms.specs.Ready.{comparison_in}
use Rattle.phase_told.proofs.SiteLaws.{site_found}
use Rattle.phase_told.proofs.site.find_site.Goals as goal

pub returns-clause-site : goal.returns-clause-site
returns-clause-site c =
    let found = c.args.found in
    let least = c.least-stands.ensures in
    site_found (comparison_in found.compared) found.phase found.fault c.args.store.now c.least-stands.new.store _ c.requires.fault c.requires.few
    least.rest (least.least (least.zero.1 c.requires.fault.some)) refl c.number_of-at.ensures c.values_in-circuit.ensures
