-- In an equal cell without holds and whole instances each observed plain net meets a channel, else it floats; and it always has some
-- strength.
use Rattle.std.proofs.Common.{◌≡◌, ◌<◌, ◌∷◌, [], ℕ, List, Bool, true, false, map, flat_map, length, Option, Some, None, refl, sym, subst, arith, inl, inr}
use Rattle.std.specs.Prelude.{IsSome}
use Rattle.std.proofs.lemmas.Bool.{false≢true}
use Rattle.std.proofs.lemmas.Option.{none-some}
use Rattle.cell_inside.proofs.NetKinds.{plain_not_given}
use Rattle.checked_chain.proofs.DriveLaws.{nothing_in}
use Rattle.replaced_instances.proofs.Exposures.{channel_at_net}
use Rattle.vrt_model.proofs.Filtered.{device_among}
use Rattle.vrt_model.proofs.Members.{all_among}
use Rattle.vrt_model.proofs.Scales.{least_above, least_below}
use Rattle.vrt_model.specs.Circuits.{IsDevice}
use Rattle.vrt_model.specs.Comparison.{Comparison, is_observed, phase_at}
use Rattle.vrt_model.specs.Constraints.{Meets}
use Rattle.vrt_model.specs.Equal.{IsEqual}
use Rattle.vrt_model.specs.Faults.{Solves}
use Rattle.vrt_model.specs.Held.{setting_of}
use Rattle.vrt_model.specs.Known.{IsPlain}
use Rattle.vrt_model.specs.Levels.{source_level}
use Rattle.vrt_model.specs.Lists.{Among, At, is_empty}
use Rattle.vrt_model.specs.Networks.{HasRanges}
use Rattle.vrt_model.specs.Path.{Hop, IsOn, IsPath, IsRoot, Joins, Root, end_of, level_of}
use Rattle.vrt_model.specs.Reading.{Partial, bare}
use Rattle.vrt_model.specs.Response.{IsResponse, IsStrength, Reaches, Shows}
use Rattle.vrt_model.specs.Solution.{Agrees}
use Rattle.vrt_model.specs.State.{IsState, OutputPin, State, network_of}
use Rattle.vrt_model.specs.WholeInstances.{channels_at}
use Rattle.vrt_model.specs.declared.circuit.Circuit.{Circuit}
use Rattle.vrt_model.specs.declared.circuit.Device.{Device}
use Rattle.vrt_model.specs.declared.circuit.Hold.{Hold}
use Rattle.vrt_model.specs.declared.verdict.FaultKind.TheVariants.{Float as FloatFault}
use Rattle.vrt_model.specs.declared.whole.Whole.{Whole}
use Rattle.vrt_model.specs.declared.whole.WholePin.{WholePin}

first_of : {X : Type 0} (xs : List X) → (is_empty xs ≡ true → ⊥) → (x : X) × Among xs x
first_of [] some = absurd (some refl)
first_of (x ∷ xs) some = (x, (0, refl))

abbrev pins_of : List Whole → List WholePin
pins_of ws = map (λ (out : OutputPin). out.pin) (flat_map (λ (w : Whole). map (λ (p : WholePin). let pin : OutputPin = record { whole = w; pin = p } in pin) w.outputs) ws)

module _ (c : Circuit) (n : ℕ) (holds : c.holds ≡ []) (wholes : c.wholes ≡ []) (plain : IsPlain c n) where
  no_root : (which : Bool) (held : ℕ → Bool) (s : State) (root : Root) → IsRoot (network_of c which held s) root → root.net ≡ n → ⊥
  no_root which held s root r same =
      elim r [
        | inl g ↦ plain_not_given c root.net g.0 (subst (λ (x : ℕ). IsPlain c x) (sym same) plain) g.1 g.2
        | inr other ↦ elim other [
          | inl h ↦ none-some h.1 (subst (λ (hs : List Hold). At hs h.0 h.1) holds h.2)
          | inr o ↦ none-some o.1 (subst (λ (ws : List Whole). At (pins_of ws) o.0 o.1) wholes o.2)
        ]
      ]

  not_reached : is_empty (channels_at c.devices n) ≡ true → (which : Bool) (held : ℕ → Bool) (s : State) (v : Bool) → Reaches (network_of c which held s) n v → ⊥
  not_reached none which held s v r = by_hops r.1 r.2 r.4
    where
      met : (d : Device) (m : ℕ) → IsOn (network_of c which held s) d → Joins d m n → ⊥
      met d m on joins =
          let there = (device_among which c d on.0).0 in
          nothing_in (channels_at c.devices n) d none
          (channel_at_net c.devices [] d n there (elim joins [ inl forth ↦ inr forth.1 | inr back ↦ inl back.0 ]))

      by_hops : (hops : List Hop) → IsPath (network_of c which held s) r.0 hops → end_of r.0 hops ≡ n → ⊥
      by_hops [] path end = no_root which held s r.0 path end
      by_hops (hop ∷ hops) path end = met hop.device (end_of r.0 hops) path.1 (subst (λ (x : ℕ). Joins hop.device (end_of r.0 hops) x) end path.2)

pub channel_there : (k : Comparison) (n phase : ℕ) → phase < length k.rules.phases → IsEqual k → k.circuit.holds ≡ [] → k.circuit.wholes ≡ [] → IsPlain k.circuit n
    → is_observed k phase n ≡ true → (d : Device) × Among (channels_at k.circuit.devices n) d
channel_there k n phase lt equal holds wholes plain seen =
    let e = equal phase lt in
    let agree = e.agree e.met.0 e.met.1 in
    first_of (channels_at k.circuit.devices n)
    (λ none.
    agree.no_fault agree.solution.0 agree.assignment.0 agree.solution.1 agree.assignment.1 FloatFault n
    (seen, (λ s is agrees. (not_reached k.circuit n holds wholes plain none bare (setting_of k phase e.met.0).held s true, not_reached k.circuit n holds wholes plain none bare (setting_of k phase e.met.0).held s false))))

-- ---- strengths

module _ (c : Circuit) (ranges : HasRanges c) (holds : c.holds ≡ []) (wholes : c.wholes ≡ []) where
  root_level : (which : Bool) (held : ℕ → Bool) (s : State) (root : Root) → IsRoot (network_of c which held s) root → root.level ≡ source_level c
  root_level which held s root r =
      elim r [
        | inl g ↦ g.3
        | inr other ↦ elim other [
          | inl h ↦ absurd (none-some h.1 (subst (λ (hs : List Hold). At hs h.0 h.1) holds h.2))
          | inr o ↦ absurd (none-some o.1 (subst (λ (ws : List Whole). At (pins_of ws) o.0 o.1) wholes o.2))
        ]
      ]

  path_above : (which : Bool) (held : ℕ → Bool) (s : State) (root : Root) (hops : List Hop) → IsPath (network_of c which held s) root hops → 0 < level_of root hops
  path_above which held s root [] path = let level = root_level which held s root path in let below = least_below c in omega (arith, level, below)
  path_above which held s root (hop ∷ hops) path =
      let before = path_above which held s root hops path.0 in
      let there = (device_among which c hop.device path.1.0).0 in
      let level = (all_among (IsDevice c) c.devices hop.device ranges.devices there).level.0 in
      let some = least_above c in
      omega (arith, before, level, some)

pub shown_above : (k : Comparison) (n phase : ℕ) (bits : List Bool) (a : Partial) (s : State) (level : ℕ) → HasRanges k.circuit → k.circuit.holds ≡ [] → k.circuit.wholes ≡ [] → IsEqual k
    → phase < length k.rules.phases → Meets k phase bits → Solves k phase (setting_of k phase bits) a
    → IsState k.circuit (phase_at k.rules phase) (setting_of k phase bits).inputs s → Agrees (is_observed k phase) a s.reading → is_observed k phase n ≡ true
    → IsStrength (network_of k.circuit bare (setting_of k phase bits).held s) n level → 0 < level
shown_above k n phase bits a s level ranges holds wholes equal lt meets solves state agrees seen strength = by_bit (a n) refl (((equal phase lt).agree bits meets).defined a solves n seen)
  where
    above : (v : Bool) → Reaches (network_of k.circuit bare (setting_of k phase bits).held s) n v → 0 < level
    above v r =
        let some = path_above k.circuit ranges holds wholes bare (setting_of k phase bits).held s r.0 r.1 r.2 in
        let most = strength.0 r.0 r.1 r.2 r.4 in
        omega (arith, some, most)

    by_response : (v : Bool) → IsResponse (network_of k.circuit bare (setting_of k phase bits).held s) n (Shows v) → 0 < level
    by_response true shows = above true shows.0
    by_response false shows = above false shows.0

    by_bit : (o : Option Bool) → a n ≡ o → IsSome o → 0 < level
    by_bit None e h = absurd (false≢true h)
    by_bit (Some v) e h = by_response v ((solves n v seen).0 e s state agrees)
