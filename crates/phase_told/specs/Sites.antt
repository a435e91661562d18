-- The site of a fault: its place by a number of the circuit, and the bits that are there at the least valuation.
use Rattle.std.specs.Prelude.{◌≡◌, ℕ, List, Bool, length, option_map, slice_get, unwrap_or}
use Rattle.bdd_core.specs.Store.{Diagrams}
use Rattle.fault_places.specs.Searches.{finding_at}
use Rattle.phase_terms.specs.Found.{fault_spot}
use Rattle.phase_terms.specs.declared.found.PhaseFault.{PhaseFault}
use Rattle.phase_told.specs.Valuations.{valuation_in}
use Rattle.phase_told.specs.declared.site.Site.{Site}
use Rattle.vrt_model.specs.Assignment.{Assignment}
use Rattle.vrt_model.specs.Comparison.{CellPort, Comparison, ports_of}
use Rattle.vrt_model.specs.Faults.{Assigns, IsPrintedWith, Solves}
use Rattle.vrt_model.specs.Held.{setting_of, sources_of}
use Rattle.vrt_model.specs.Places.{IsFirstInPhase}
use Rattle.vrt_model.specs.Reading.{Partial}
use Rattle.vrt_model.specs.declared.verdict.FaultKind.{FaultKind}
use Rattle.vrt_model.specs.declared.verdict.FaultKind.TheVariants.{Fight, FightKept, Float, Unsettled, Constraint, Differs, Next, Apart, Enter}

-- the number that tells the place of a fault: that of a net, for Differs of the net of the port, for Constraint of an instance
abbrev pub site_of : Comparison → FaultKind → ℕ → ℕ
site_of k Differs at = unwrap_or (option_map (λ (p : CellPort). p.net) (slice_get (ports_of k) at)) 0
site_of k Constraint at = at
site_of k Fight at = at
site_of k FightKept at = at
site_of k Float at = at
site_of k Unsettled at = at
site_of k Next at = at
site_of k Apart at = at
site_of k Enter at = at

-- the valuation of a phase that stands in the words of a fault
abbrev pub bits_at : Comparison → ℕ → PhaseFault → Diagrams → List Bool
bits_at k phase fault d = valuation_in d fault.least (length (sources_of k phase))

-- The site of the first finding of a phase, which stands at the place of the fault, at the valuation in its words; the two bits are
-- those that it is printed with, if it is printed with any.
pub record IsSite (k : Comparison) (phase : ℕ) (fault : PhaseFault) (d : Diagrams) (site : Site) : Type 0 where
  pub first : IsFirstInPhase k (finding_at phase (fault_spot fault) (bits_at k phase fault d))
  pub kind : site.kind ≡ fault.kind
  pub at : site.at ≡ site_of k fault.kind fault.place
  pub values :
      (a : Partial) (g : Assignment)
      → Solves k phase (setting_of k phase (bits_at k phase fault d)) a → Assigns k phase (setting_of k phase (bits_at k phase fault d)) g
      → IsPrintedWith k phase (setting_of k phase (bits_at k phase fault d)) a g fault.kind fault.place site.circuit site.wanted
