-- The instances of an unrolled cell are those of its flat circuit.
use Rattle.std.proofs.Common.{◌≡◌, ◌∷◌, [], List, drop, map, refl, ap, ap₂, sym, subst, ◌∙◌}
use Rattle.net_places.specs.Instances.{AreSmall, instance_by}
use Rattle.net_places.specs.Links.{Bare, IsUnrolled, bare, shown}
use Rattle.net_places.specs.declared.places.Place.{Place}
use Rattle.net_places.specs.declared.whole.Unrolled.{Unrolled}
use Rattle.vrt_model.proofs.Members.{among_later}
use Rattle.vrt_model.specs.FlatCircuit.{flat_instance, flat_instances, net_id}
use Rattle.vrt_model.specs.Lists.{Among}
use Rattle.vrt_model.specs.Unrolled.{Place as FlatPlace, Top, all_places}
use Rattle.vrt_model.specs.declared.circuit.FlatInstance.{FlatInstance}
use Rattle.vrt_model.specs.declared.ids.Net.{Net}

abbrev by_bare : Bare → FlatInstance
by_bare b = record { path = b.path; cell = b.cell; ports = map net_id b.ports }

same_nets : (nets : List Net) → nets ≡ map net_id (map (λ (n : Net). n.0) nets)
same_nets [] = refl
same_nets (n ∷ nets) = ap (λ (ns : List Net). n ∷ ns) (same_nets nets)

shown_are : (places : List Place) → map instance_by places ≡ map by_bare (map shown places)
shown_are [] = refl
shown_are (p ∷ places) =
    ap₂ (λ (ns : List Net) (is : List FlatInstance). let one : FlatInstance = record { path = p.path; cell = p.cell; ports = ns } in one ∷ is) (same_nets p.ports) (shown_are places)

bare_are : (flat : List FlatPlace) → map by_bare (map bare flat) ≡ map flat_instance flat
bare_are [] = refl
bare_are (at ∷ flat) = ap (λ (is : List FlatInstance). flat_instance at ∷ is) (bare_are flat)

behind : (flat : List FlatPlace) → drop 1 (map bare flat) ≡ map bare (drop 1 flat)
behind [] = refl
behind (at ∷ flat) = refl

pub instances_are : (t : Top) (unrolled : Unrolled) (first : Place) (inner : List Place) → IsUnrolled t unrolled → unrolled.places ≡ first ∷ inner → map instance_by inner ≡ flat_instances t
instances_are t unrolled first inner is e =
    shown_are inner ∙ ap (map by_bare) (ap (λ (bs : List Bare). drop 1 bs) (ap (map shown) (sym e) ∙ is.places_are) ∙ behind (all_places t)) ∙ bare_are (drop 1 (all_places t))

none_there : (flat : List FlatPlace) → [] ≡ map bare flat → [] ≡ map flat_instance (drop 1 flat)
none_there [] e = refl
none_there (at ∷ flat) e = cc

pub no_instances : (t : Top) (unrolled : Unrolled) → IsUnrolled t unrolled → unrolled.places ≡ [] → [] ≡ flat_instances t
no_instances t unrolled is e = none_there (all_places t) (ap (map shown) (sym e) ∙ is.places_are)

-- where all cells have small numbers, so have those behind the first
pub small_behind : (places inner : List Place) (first : Place) → places ≡ first ∷ inner → AreSmall places → AreSmall inner
small_behind places inner first e small p m = small p (subst (λ (ps : List Place). Among ps p) (sym e) (among_later first inner p m))
