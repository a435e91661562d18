-- The site of the first fault of a phase, and what is told of it.
use Rattle.std.proofs.Common.{◌≡◌, ℕ, ◌≤◌, Bool, List, Option, length, ap, refl, sym, subst}
use Rattle.std.proofs.lemmas.List.FromFn.{length-map-range_with_len}
use Rattle.bdd_core.specs.Diagram.{Function}
use Rattle.bdd_core.specs.Store.{Diagrams, function_of}
use Rattle.bdd_ops.specs.Ops.{IsLeast, bits_in, bits_of}
use Rattle.fault_places.specs.Searches.{IsLeastOf, finding_at}
use Rattle.phase_terms.specs.Found.{IsPhaseFault, at_bits, circuit_bit, fault_spot}
use Rattle.phase_terms.specs.declared.found.PhaseFault.{PhaseFault}
use Rattle.phase_told.proofs.LeastLaws.{bit_read, first_stands, least_of}
use Rattle.phase_told.specs.Sites.{IsSite, bits_at, site_of}
use Rattle.phase_told.specs.Valuations.{HasValues, StandsIn}
use Rattle.phase_told.specs.declared.site.Site.{Site}
use Rattle.vrt_model.specs.Comparison.{Comparison}
use Rattle.vrt_model.specs.Faults.{IsPrintedWith, place_name}
use Rattle.vrt_model.specs.Held.{setting_of, sources_of, variable_names}
use Rattle.vrt_model.specs.Places.{Finding, IsFirstInPhase}
use Rattle.vrt_model.specs.Verdicts.{Describes}
use Rattle.vrt_model.specs.declared.groups.Valuation.{Valuation}
use Rattle.vrt_model.specs.declared.verdict.FaultAt.{FaultAt}

-- the site, where the words of the fault have the least valuation of its function
pub site_found : (k : Comparison) (phase : ℕ) (fault : PhaseFault) (old new : Diagrams) (site : Site) → IsPhaseFault k phase fault old → length (sources_of k phase) ≤ old.vars
    → new ≡ record old { words = new.words } → IsLeast old.vars (function_of old fault.at) (bits_in new.words fault.least.start)
    → site.kind ≡ fault.kind → site.at ≡ site_of k fault.kind fault.place
    → ((bits : List Bool) → StandsIn new fault.least (bits_of bits) → HasValues new fault.values bits (site.circuit, site.wanted))
    → IsSite k phase fault new site
site_found k phase fault old new site is few rest least kind at values =
    let u : ℕ = length (sources_of k phase) in
    let f : Function = function_of old fault.at in
    let bits : List Bool = bits_at k phase fault new in
    let vars : old.vars ≡ new.vars = sym (ap (λ (d : Diagrams). d.vars) rest) in
    let width : length bits ≡ u = length-map-range_with_len (bits_in new.words fault.least.start) 0 u in
    let lowest : IsLeastOf k phase (at_bits old fault.at) bits = least_of k phase old.vars f (bits_in new.words fault.least.start) bits is.reads few least width (λ x lt. bit_read new fault.least u x lt) in
    let stands = first_stands u f new fault.least is.reads (subst (λ (n : ℕ). IsLeast n f (bits_in new.words fault.least.start)) vars least) in
    let has : HasValues old fault.values bits (site.circuit, site.wanted) = subst (λ (d : Diagrams). HasValues d fault.values bits (site.circuit, site.wanted)) rest (values bits stands) in
    record {
      first = is.first bits lowest;
      kind = kind;
      at = at;
      values = λ a g solves assigns.
          subst (λ (v : Option Bool). IsPrintedWith k phase (setting_of k phase bits) a g fault.kind fault.place v site.wanted) (sym has.0)
          (subst (λ (v : Option Bool). IsPrintedWith k phase (setting_of k phase bits) a g fault.kind fault.place (circuit_bit old fault.values bits) v) (sym has.1)
          (is.printed bits a g lowest.holds solves assigns));
    }

-- what is told names the first finding of its phase
abbrev pub HasTold : Comparison → FaultAt → Type 0
HasTold k told = (f : Finding) × Describes k told f × IsFirstInPhase k f

-- a site by names
abbrev pub named : ℕ → Site → List ℕ → List (List ℕ) → Valuation → FaultAt
named phase site place names valuation = record {
  kind = site.kind;
  phase = phase;
  place = place;
  circuit = site.circuit;
  wanted = site.wanted;
  names = names;
  valuation = valuation;
}

pub site_named : (k : Comparison) (phase : ℕ) (fault : PhaseFault) (d : Diagrams) (site : Site) (place : List ℕ) (names : List (List ℕ)) (valuation : Valuation) → IsSite k phase fault d site
    → place ≡ place_name k fault.kind fault.place → names ≡ variable_names k phase → valuation.bits ≡ bits_at k phase fault d → HasTold k (named phase site place names valuation)
site_named k phase fault d site place names valuation is place_is names_are bits_are = (
  finding_at phase (fault_spot fault) (bits_at k phase fault d),
  record { kind = is.kind; phase = refl; place = place_is; values = is.values; names = names_are; bits = bits_are },
  is.first,
)
