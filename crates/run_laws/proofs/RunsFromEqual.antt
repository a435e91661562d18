-- The law of runs follows from `equal`, where what holds of a supported comparison holds.
use Rattle.std.proofs.Common.{◌≡◌, ℕ, Bool, true, false, List, [], ◌∷◌, Option, Some, None, refl, sym, ◌∙◌, ap}
use Rattle.std.proofs.lemmas.Option.{same_Some, none-some}
use Rattle.std.specs.Prelude.{option_map}
use Rattle.run_laws.proofs.EqualGives.{enter_match, next_match, outputs_match, stable}
use Rattle.run_laws.specs.Supported.{IsSound}
use Rattle.vrt_model.specs.Assignment.{Assignment}
use Rattle.vrt_model.specs.Comparison.{Comparison}
use Rattle.vrt_model.specs.Constraints.{Meets}
use Rattle.vrt_model.specs.Equal.{IsEqual, IsPhaseEqual}
use Rattle.vrt_model.specs.Faults.{Assigns, HoldAt, Solves, next_phase}
use Rattle.vrt_model.specs.Held.{setting_of}
use Rattle.vrt_model.specs.Lists.{At, Among, differ}
use Rattle.vrt_model.specs.Runs.{Becomes, IsRelated, Memory, RunsMatch}
use Rattle.vrt_model.specs.declared.circuit.Hold.{Hold}
use Rattle.vrt_model.specs.declared.groups.Group.{Group}
use Rattle.vrt_model.specs.declared.groups.Member.{Member}
use Rattle.vrt_model.specs.declared.verdict.FaultKind.TheVariants.{Apart}

both_ways : (m l x : Bool) → differ (differ m l) x ≡ differ m (differ l x)
both_ways true true true = refl
both_ways true true false = refl
both_ways true false true = refl
both_ways true false false = refl
both_ways false true true = refl
both_ways false true false = refl
both_ways false false true = refl
both_ways false false false = refl

module _ (k : Comparison) (sound : IsSound k) (equal : IsEqual k) where
  -- after a step in a phase, at a valuation
  module _ (phase : ℕ) (old new : Memory) (bits : List Bool) (a : ℕ → Option Bool) (g : Assignment)
      (good : IsPhaseEqual k phase) (meets : Meets k phase bits)
      (solves : Solves k phase (setting_of k phase bits) a) (assigns : Assigns k phase (setting_of k phase bits) g) (becomes : Becomes k a g new) where
    held_is : (place : ℕ) (h : Hold) (v : Bool) → At k.circuit.holds place h → a h.net.0 ≡ Some v → new.held place ≡ v
    held_is place h v there e = same_Some (new.held place) v (sym (becomes.holds place h there) ∙ e)

    in_latch : (at : ℕ) (group : Group) (e : ℕ) → At k.groups at group → group.element ≡ Some e → (one : Member) → Among group.members one → new.held one.hold ≡ differ one.inverted (g.next e)
    in_latch at group e there el one among =
        let h = sound.member at group one there among in
        let hold_at : HoldAt k h.0.net.0 one.hold group one = record { stands = (h.0, h.1, refl); grouped = (at, there); joined = (among, refl) } in
        held_is one.hold h.0 (differ one.inverted (g.next e)) h.1
        (next_match k phase bits a g good meets solves assigns h.0.net.0 one.hold e group one hold_at el)

    as_least : (at : ℕ) (group : Group) (least : Member) → At k.groups at group → group.element ≡ None → At group.members 0 least → (one : Member) → Among group.members one
        → new.held one.hold ≡ differ one.inverted (differ least.inverted (new.held least.hold))
    as_least at group least there el first one among =
        let h = sound.member at group one there among in
        let l = sound.member at group least there (0, first) in
        let hold_at : HoldAt k h.0.net.0 one.hold group one = record { stands = (h.0, h.1, refl); grouped = (at, there); joined = (among, refl) } in
        let x = differ (differ one.inverted least.inverted) (new.held least.hold) in
        let wanted : Some x ≡ option_map (λ (v : Bool). differ (differ one.inverted least.inverted) v) (a l.0.net.0) =
        sym (ap (option_map (λ (v : Bool). differ (differ one.inverted least.inverted) v)) (becomes.holds least.hold l.0 l.1)) in
        held_is one.hold h.0 x h.1
        (stable (a h.0.net.0) x
        (λ apart. (good.agree bits meets).no_fault a g solves assigns Apart h.0.net.0
        (h.0.net.0, Some x, (refl, (one.hold, group, one, least, l.0, hold_at, el, first, l.1, wanted)), apart)))
        ∙ both_ways one.inverted least.inverted (new.held least.hold)

    grouped : (at : ℕ) (group : Group) (o : Option ℕ) → group.element ≡ o → At k.groups at group
        → (bit : Bool) × ((one : Member) → Among group.members one → new.held one.hold ≡ differ one.inverted bit) × ((e : ℕ) → group.element ≡ Some e → bit ≡ new.elements e)
    grouped at group None el there =
        let least = sound.least at group there in
        (differ least.0.inverted (new.held least.0.hold), as_least at group least.0 there el least.1, λ e other. absurd (none-some e (sym el ∙ other)))
    grouped at group (Some f) el there =
        (g.next f, in_latch at group f there el, λ e other. ap g.next (same_Some f e (sym el ∙ other)) ∙ sym (becomes.elements e))

    related : IsRelated k (next_phase k.rules phase) new
    related = record {
      groups = λ at group there. grouped at group group.element refl there;
      enters = λ place v e. let h = sound.entered (next_phase k.rules phase) place v e in held_is place h.0 v h.1 (enter_match k phase bits a g good meets solves assigns place h.0 v h.1 e);
    }

  pub runs : RunsMatch k
  runs phase start [] lt before = before
  runs phase start (inputs ∷ later) lt before = (
    before,
    λ a g new is.
        let v = sound.valuation phase start inputs before is.assumes in
        let solves = v.2 a is.solution in
        let assigns = v.3 g is.assignment in (
          outputs_match k phase v.0 a g (equal phase lt) v.1 solves assigns,
          runs (next_phase k.rules phase) new later (sound.follows phase lt) (related phase start new v.0 a g (equal phase lt) v.1 solves assigns is.becomes),
        ),
  )
