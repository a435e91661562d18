-- Bits that nets show stay shown where bits are added, and looks that add none leave exactly the bits that are shown.
use Rattle.std.proofs.Common.{◌≡◌, ℕ, ◌<◌, Bool, true, false, List, None, Option, Some, length, slice_get, arith, ap, refl, sym, subst, ◌∙◌, inl, inr}
use Rattle.std.specs.Prelude.{is_some, option_map, unwrap_or}
use Rattle.std.proofs.lemmas.Option.{none-some, same_Some, slice_get_within}
use Rattle.std.proofs.Math.Path.{fun_ext}
use Rattle.known_nets.specs.KnownTables.{known_at}
use Rattle.vrt_model.proofs.Lists.{at_there}
use Rattle.vrt_model.proofs.Tests.{option_same, some_of, some_or_none}
use Rattle.vrt_model.specs.Circuits.{IsFlat}
use Rattle.vrt_model.specs.Lists.{At}
use Rattle.vrt_model.specs.Path.{Network}
use Rattle.vrt_model.specs.Response.{Fight as FightThere, Float as FloatThere, IsResponse, Response, Shows}
use Rattle.vrt_model.specs.State.{Setting, State, network_of}
use Rattle.vrt_model.specs.declared.circuit.Circuit.{Circuit}
use Rattle.vrt_model.specs.declared.rules.Phase.{Phase}
use Rattle.witness.proofs.LookLaws.{filled_is, filled_state, filled_state_is}
use Rattle.witness.specs.Replays.{AreValues, HasGivenBits, HasKnownNets, HasSeen, Responds, bit_shown, bits_shown}
use Rattle.witness.specs.Settling.{HasNoted, IsSettled, Stands}
use Rattle.witness.specs.declared.seen.Seen.{Seen}
use Rattle.witness.specs.declared.seen.Seen.TheVariants.{Bit, Fight, Float, Blocked}

-- ---- places of lists

pub within_known : (bits : List (Option Bool)) (n : ℕ) (v : Bool) → known_at bits n ≡ Some v → n < length bits
within_known bits n v e = found (slice_get bits n) refl e
  where
    found : (o : Option (Option Bool)) → slice_get bits n ≡ o → unwrap_or o None ≡ Some v → n < length bits
    found None here t = absurd (none-some v t)
    found (Some b) here t = slice_get_within bits n b here

shown_there : (list : List Seen) (n : ℕ) (seen : Seen) → At list n seen → bits_shown list n ≡ bit_shown seen
shown_there list n seen e = ap (λ (o : Option Seen). unwrap_or (option_map bit_shown o) None) e

pub bit_shown_is : (seen : Seen) (v : Bool) → bit_shown seen ≡ Some v → seen ≡ Bit v
bit_shown_is (Bit u) v t = ap Bit (same_Some u v t)
bit_shown_is Fight v t = absurd (none-some v t)
bit_shown_is Float v t = absurd (none-some v t)
bit_shown_is Blocked v t = absurd (none-some v t)

pub bit_there : (list : List Seen) (n : ℕ) (v : Bool) → bits_shown list n ≡ Some v → At list n (Bit v)
bit_there list n v e = found (slice_get list n) refl e
  where
    found : (o : Option Seen) → slice_get list n ≡ o → unwrap_or (option_map bit_shown o) None ≡ Some v → At list n (Bit v)
    found None here t = absurd (none-some v t)
    found (Some seen) here t = here ∙ ap Some (bit_shown_is seen v t)

-- ---- one response

pub one_shown : (w : Network) (n : ℕ) (u v : Bool) → IsResponse w n (Shows u) → IsResponse w n (Shows v) → u ≡ v
one_shown w n true true h k = refl
one_shown w n true false h k = absurd (h.1 k.0)
one_shown w n false true h k = absurd (h.1 k.0)
one_shown w n false false h k = refl

no_fight : (w : Network) (n : ℕ) (v : Bool) → IsResponse w n FightThere → IsResponse w n (Shows v) → ⊥
no_fight w n true h k = k.1 h.1
no_fight w n false h k = k.1 h.0

no_float : (w : Network) (n : ℕ) (v : Bool) → IsResponse w n FloatThere → IsResponse w n (Shows v) → ⊥
no_float w n true h k = h.0 k.0
no_float w n false h k = h.1 k.0

module _ (c : Circuit) (phase : Phase) (flat : IsFlat c) (setting : Setting) where
  -- ---- more bits

  none_before : (old new : ℕ → Option Bool) → ((n : ℕ) (v : Bool) → old n ≡ Some v → new n ≡ Some v) → (n : ℕ) → new n ≡ None → old n ≡ None
  none_before old new grown n e =
      elim (some_or_none (old n)) [
        | inl some ↦ absurd (none-some some.0 (sym e ∙ grown n some.0 some.1))
        | inr none ↦ none
      ]

  pub seen_moves : (old new : ℕ → Option Bool) → ((n : ℕ) (v : Bool) → old n ≡ Some v → new n ≡ Some v) → (n : ℕ) (v : Bool)
      → HasSeen c phase setting old true n (Bit v) → HasSeen c phase setting new true n (Bit v)
  seen_moves old new grown n v h =
      (λ b. h.0 (b.0, b.1, none_before old new grown b.0.gate.0 b.2), λ s is has. h.1 s is (λ m u e. has m u (grown m u e)))

  -- bits that are shown are added to bits that stand
  pub stands_more : (more : Bool) (bound : ℕ) (list : List Seen) (old new : List (Option Bool)) → Stands c phase setting (known_at old) → HasNoted more bound list old new
      → ((n : ℕ) (seen : Seen) → At list n seen → HasSeen c phase setting (known_at old) true n seen) → Stands c phase setting (known_at new)
  stands_more more bound list old new stands noted seen = record {
    given = λ n net v at g h. noted.grown n v (stands.given n net v at g h);
    known = λ n v k. noted.grown n v (stands.known n v k);
    shown = λ n v e. seen_moves (known_at old) (known_at new) noted.grown n v (elim (noted.only n v e) [
      | inl before ↦ stands.shown n v before
      | inr shown ↦ seen n (Bit v) (bit_there list n v shown)
    ]);
  }

  -- ---- a net shows one thing

  module _ (bits : List (Option Bool)) (stands : Stands c phase setting (known_at bits)) where
    abbrev state : State
    state = filled_state c phase flat setting true bits stands.given stands.known (λ m. false)

    responds : (n : ℕ) (r : Response) → Responds c phase setting (known_at bits) true n r → IsResponse (network_of c true setting.held state) n r
    responds n r h =
        h state (filled_state_is c phase flat setting true bits stands.given stands.known (λ m. false)) (filled_is c phase flat setting true bits stands.given stands.known)

    seen_once : (n : ℕ) (v : Bool) (seen : Seen) → HasSeen c phase setting (known_at bits) true n (Bit v) → HasSeen c phase setting (known_at bits) true n seen → bit_shown seen ≡ Some v
    seen_once n v Blocked h k = absurd (h.0 k)
    seen_once n v (Bit u) h k = ap Some (one_shown (network_of c true setting.held state) n u v (responds n (Shows u) k.1) (responds n (Shows v) h.1))
    seen_once n v Fight h k = absurd (no_fight (network_of c true setting.held state) n v (responds n FightThere k.1) (responds n (Shows v) h.1))
    seen_once n v Float h k = absurd (no_float (network_of c true setting.held state) n v (responds n FloatThere k.1) (responds n (Shows v) h.1))

    -- a look that adds no bit leaves the bits that it shows
    module _ (list : List Seen) (size : length list ≡ length bits) (noted : HasNoted false (length list) list bits bits)
        (seen : (n : ℕ) (seen : Seen) → At list n seen → HasSeen c phase setting (known_at bits) true n seen) where
      forth : (n : ℕ) (v : Bool) → known_at bits n ≡ Some v → bits_shown list n ≡ Some v
      forth n v e =
          let inside = within_known bits n v e in
          let there = at_there list n (omega (arith, inside, size)) in
          shown_there list n there.0 there.1 ∙ seen_once n v there.0 (stands.shown n v e) (seen n there.0 there.1)

      back : (n : ℕ) (v : Bool) → bits_shown list n ≡ Some v → known_at bits n ≡ Some v
      back n v e =
          let inside = slice_get_within list n (Bit v) (bit_there list n v e) in
          let some = some_of (known_at bits n) (noted.found n inside (ap is_some e)) in
          some.1 ∙ ap Some (same_Some some.0 v (sym (forth n some.0 some.1) ∙ e))

      pub settled : length list ≡ length c.nets → IsSettled c phase setting (known_at bits) list
      settled count = record {
        count = count;
        stands = stands;
        same = λ n. option_same (known_at bits n) (bits_shown list n) (forth n) (back n);
        seen = seen;
      }

  -- the same where the bits were handed on
  pub settled_new : (more : Bool) (list : List Seen) (old new : List (Option Bool)) → more ≡ false → Stands c phase setting (known_at old) → HasNoted more (length list) list old new → length list ≡ length old
      → ((n : ℕ) (seen : Seen) → At list n seen → HasSeen c phase setting (known_at old) true n seen) → length list ≡ length c.nets → IsSettled c phase setting (known_at new) list
  settled_new more list old new is stands noted size seen count =
      let same = noted.same is in
      let none : HasNoted false (length list) list old old =
      subst (λ (m : Bool). HasNoted m (length list) list old old) is (subst (λ (xs : List (Option Bool)). HasNoted more (length list) list old xs) same noted) in
      subst (λ (xs : List (Option Bool)). IsSettled c phase setting (known_at xs) list) (sym same) (settled old stands list size none seen count)

-- the values at bits that are settled
pub settled_values : (c : Circuit) (phase : Phase) (setting : Setting) (bits : ℕ → Option Bool) (bare kept : List Seen) → IsSettled c phase setting bits bare → length kept ≡ length c.nets
    → ((n : ℕ) (seen : Seen) → At kept n seen → HasSeen c phase setting bits false n seen) → AreValues c phase setting bare kept
settled_values c phase setting bits bare kept settled count seen =
    let same : bits ≡ bits_shown bare = fun_ext settled.same in
    record {
      bare_count = settled.count;
      kept_count = count;
      given = subst (HasGivenBits c phase setting.inputs) same settled.stands.given;
      known = subst (HasKnownNets c phase) same settled.stands.known;
      bare_seen = subst (λ (b : ℕ → Option Bool). (n : ℕ) (seen : Seen) → At bare n seen → HasSeen c phase setting b true n seen) same settled.seen;
      kept_seen = subst (λ (b : ℕ → Option Bool). (n : ℕ) (seen : Seen) → At kept n seen → HasSeen c phase setting b false n seen) same seen;
    }
