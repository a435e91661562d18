-- A net with a soft output of a whole instance shows the bit that drives it: it is a source, and no other root of that level is there.
use Rattle.std.proofs.Common.{◌≡◌, ◌≢◌, ℕ, ◌<◌, Bool, true, false, List, [], ◌∷◌, Option, None, Some, length, arith, ap, refl, sym, subst, ◌∙◌, inl, inr}
use Rattle.std.specs.Prelude.{option_and_then}
use Rattle.std.proofs.lemmas.Bool.{cases_Bool, cases_eq, cases_lt, cond-false, cond-true, false≢true}
use Rattle.std.proofs.lemmas.Option.{none-some, same_Some, slice_get_within}
use Rattle.vrt_model.proofs.GivenNets.{clear_from_source, source_strength}
use Rattle.vrt_model.proofs.Laws.{one_strength, shows_from}
use Rattle.vrt_model.proofs.Lists.{at_map, map_at, one_at}
use Rattle.vrt_model.proofs.Members.{all_among}
use Rattle.vrt_model.proofs.Networks.{network_levels}
use Rattle.vrt_model.proofs.Scales.{least_below}
use Rattle.vrt_model.specs.Circuits.{IsHold}
use Rattle.vrt_model.specs.FlatCircuit.{net_id}
use Rattle.vrt_model.specs.Known.{IsPlain}
use Rattle.vrt_model.specs.Levels.{source_level}
use Rattle.vrt_model.specs.Lists.{At}
use Rattle.vrt_model.specs.Networks.{HasLevels, HasRanges, IsSource}
use Rattle.vrt_model.specs.Path.{Hop, IsPath, IsRoot, Network, Root, end_of, level_of_drive}
use Rattle.vrt_model.specs.Reading.{is_given}
use Rattle.vrt_model.specs.Response.{IsClear, IsStrength, Reaches}
use Rattle.vrt_model.specs.State.{OutputPin, State, network_of, output_pins}
use Rattle.vrt_model.specs.declared.circuit.Circuit.{Circuit}
use Rattle.vrt_model.specs.declared.circuit.FlatNet.{FlatNet}
use Rattle.vrt_model.specs.declared.ids.Net.{Net}
use Rattle.vrt_model.specs.declared.whole.Drive.{Drive}
use Rattle.vrt_model.specs.declared.whole.WholePin.{WholePin}
use Rattle.whole_steps.specs.FreeOutputs.{FreeOutputsShow, IsFreeOutput}
use Rattle.whole_steps.specs.Tables.{AreDrivers, IsFirstFree, IsLast, IsOutput, driver_at, free_at, free_one}
use Rattle.whole_steps.specs.declared.table.OutputPlace.{OutputPlace}

-- an output at a plain net that is marked as free is so
pub marked_free : (c : Circuit) (drivers : List (Option OutputPlace)) → AreDrivers c (output_pins c) drivers → (n : ℕ) → IsPlain c n → (place : OutputPlace) → free_at drivers n ≡ Some place
    → (out : OutputPin) × IsOutput c (output_pins c) place out × IsFreeOutput c place.number out × (out.pin.net.0 ≡ n)
marked_free c drivers are n plain place e = by_entry (driver_at drivers n) e (are.last n (slice_get_within c.nets n plain.0 plain.1))
  where
    alone : (p : OutputPlace) (out : OutputPin) → IsOutput c (output_pins c) p out → IsFirstFree c (output_pins c) p.number out → out.pin.net.0 ≡ n
        → ((at : ℕ) (other : OutputPin) → At (output_pins c) at other → p.number < at → at < length (output_pins c) → other.pin.net.0 ≢ n)
        → (k : ℕ) (other : OutputPin) → At (output_pins c) k other → out.pin.net ≡ other.pin.net → p.number ≡ k
    alone p out is free net behind k other there same =
        let number : other.pin.net.0 ≡ out.pin.net.0 = ap (λ (x : Net). x.0) (sym same) in
        elim (cases_lt k p.number) [
          | inl lt ↦ absurd (free.first k other there lt number)
          | inr ge ↦ elim (cases_eq k p.number) [
            | inl e ↦ sym e
            | inr ne ↦ absurd (behind k other there (omega (arith, ge, ne)) (slice_get_within (output_pins c) k other there) (number ∙ net))
          ]
        ]

    of_last : (p : OutputPlace) → p.free ≡ true → IsLast c (output_pins c) n (length (output_pins c)) (Some p)
        → (out : OutputPin) × IsOutput c (output_pins c) p out × IsFreeOutput c p.number out × (out.pin.net.0 ≡ n)
    of_last p on last =
        let free = last.1.free on in (
          last.0,
          last.1,
          record {
            soft = free.soft;
            plain = subst (IsPlain c) (sym last.3) plain;
            channels = free.channels;
            one = alone p last.0 last.1 free last.3 last.4;
          },
          last.3,
        )

    by_mark : (p : OutputPlace) → free_one p ≡ Some place → IsLast c (output_pins c) n (length (output_pins c)) (Some p)
        → (out : OutputPin) × IsOutput c (output_pins c) place out × IsFreeOutput c place.number out × (out.pin.net.0 ≡ n)
    by_mark p e last = elim (cases_Bool p.free) [
      | inl on ↦
          let same : p ≡ place = same_Some p place (sym (cond-true p.free (Some p) None on) ∙ e) in
          subst (λ (q : OutputPlace). (out : OutputPin) × IsOutput c (output_pins c) q out × IsFreeOutput c q.number out × (out.pin.net.0 ≡ n)) same (of_last p on last)
      | inr off ↦ absurd (none-some place (sym (cond-false p.free (Some p) None off) ∙ e))
    ]

    by_entry : (o : Option OutputPlace) → option_and_then free_one o ≡ Some place → IsLast c (output_pins c) n (length (output_pins c)) o
        → (out : OutputPin) × IsOutput c (output_pins c) place out × IsFreeOutput c place.number out × (out.pin.net.0 ≡ n)
    by_entry None e last = absurd (none-some place e)
    by_entry (Some p) e last = by_mark p e last

-- a path without hops is its root
bare_root : (w : Network) (root : Root) (hops : List Hop) → hops ≡ [] → IsPath w root hops → IsClear w root hops → IsRoot w root × (end_of root hops ≡ root.net) × IsStrength w root.net root.level
bare_root w root [] none p c = (p, refl, c)
bare_root w root (hop ∷ hops) none p c = absurd (let more = ap (λ (hs : List Hop). length hs) none in omega (arith, more))

module _ (c : Circuit) (which : Bool) (held : ℕ → Bool) (s : State) (ranges : HasRanges c)
    (at : ℕ) (out : OutputPin) (here : At (output_pins c) at out) (free : IsFreeOutput c at out) where
  abbrev w : Network
  w = network_of c which held s

  abbrev n : ℕ
  n = out.pin.net.0

  levels : HasLevels w
  levels = network_levels c which held s ranges

  pin_here : At w.outputs at out.pin
  pin_here = map_at (λ (o : OutputPin). o.pin) (output_pins c) at out here

  abbrev root_here : Root
  root_here = record { net = n; level = source_level c; value = s.driven at }

  is_root : IsRoot w root_here
  is_root = inr (inr (at, out.pin, pin_here, refl, ap (λ (d : Drive). level_of_drive (source_level c) d) (sym free.soft), refl))

  -- it is a source
  pub output_source : IsSource w n
  output_source = (root_here, is_root, refl, refl)

  -- a root of the source level there is that of the output
  one_value : (root : Root) → IsRoot w root → root.net ≡ n → root.level ≡ source_level c → root.value ≡ s.driven at
  one_value root from same top = elim from [
    | inl g ↦
        let net = free.plain in
        let one : g.0 ≡ net.0 = one_at c.nets n g.0 net.0 (subst (λ (m : ℕ). At c.nets m g.0) same g.1) net.1 in
        let plain : is_given g.0.kind ≡ false = ap (λ (k : FlatNet). is_given k.kind) one ∙ ap is_given net.2 in
        absurd (false≢true (sym plain ∙ g.2))
    | inr other ↦ elim other [
      | inl h ↦
          let fits = all_among (IsHold c) c.holds h.1 ranges.holds (h.0, h.2) in
          let most = fits.size.1 in
          let is = h.4 in
          let below = least_below c in
          absurd (omega (arith, most, is, top, below))
      | inr o ↦
          let from_pin = at_map (λ (q : OutputPin). q.pin) (output_pins c) o.0 o.1 o.2 in
          let net : out.pin.net.0 ≡ from_pin.0.pin.net.0 = sym same ∙ o.3 ∙ ap (λ (p : WholePin). p.net.0) (sym from_pin.2) in
          let one : at ≡ o.0 = free.one o.0 from_pin.0 from_pin.1 (ap net_id net) in
          o.5 ∙ ap s.driven (sym one)
    ]
  ]

  only : (v : Bool) → Reaches w n v → v ≡ s.driven at
  only v r =
      let none = clear_from_source w levels r.0 r.1 r.2 r.3 (subst (IsSource w) (sym r.4) output_source) in
      let bare = bare_root w r.0 r.1 none r.2 r.3 in
      let net : r.0.net ≡ n = sym bare.1 ∙ r.4 in
      let level = one_strength w n r.0.level (source_level c) (subst (λ (m : ℕ). IsStrength w m r.0.level) net bare.2) (source_strength w levels n output_source) in
      sym r.5 ∙ one_value r.0 bare.0 net level

pub free_outputs_show : FreeOutputsShow
free_outputs_show c which held s ranges at out here free =
    shows_from (network_of c which held s) out.pin.net.0 (s.driven at) (
      record { net = out.pin.net.0; level = source_level c; value = s.driven at },
      [],
      is_root c which held s ranges at out here free,
      source_strength (network_of c which held s) (network_levels c which held s ranges) out.pin.net.0 (output_source c which held s ranges at out here free),
      refl,
      refl,
    )
    (λ v r. only c which held s ranges at out here free v r)
