-- What all nets show at given bits: those of a part by a look at it, and given nets their own bits.
use Rattle.std.proofs.Common.{◌≡◌, ℕ, ◌<◌, ◌+◌, ◌++◌, Some, slice_get, arith, Bool, true, false, cond, List, [], ◌∷◌, Option, length, ap, refl, sym, subst, ◌∙◌, inl, inr, zero, suc}
use Rattle.std.specs.Prelude.{◌==◌}
use Rattle.std.specs.List.{list_any}
use Rattle.std.proofs.Math.Path.{fun_ext}
use Rattle.std.proofs.lemmas.Bool.{and_from, and_parts, cases_Bool, cases_eq, eq-eqb, eqb-true, false≢true}
use Rattle.channel_parts.specs.PartLists.{IsPartOf, net_numbers}
use Rattle.channel_parts.specs.declared.part.Part.{Part}
use Rattle.known_nets.proofs.NetKinds.{given_or_plain}
use Rattle.known_nets.specs.KnownTables.{known_at}
use Rattle.vrt_model.proofs.GatesGiven.{IsGiven}
use Rattle.vrt_model.proofs.Lists.{at_front, at_last, map_among}
use Rattle.vrt_model.proofs.Members.{among_any, among_map, any_among}
use Rattle.vrt_model.proofs.Ranked.{plain_not_given, together_first}
use Rattle.vrt_model.proofs.Tables.{signal_response}
use Rattle.vrt_model.specs.Circuits.{IsFlat}
use Rattle.vrt_model.specs.Known.{IsPlain}
use Rattle.vrt_model.specs.Lists.{Among, bit_at}
use Rattle.vrt_model.specs.Response.{Fight as FightThere, Float as FloatThere, IsResponse, Response, Shows}
use Rattle.vrt_model.specs.Signals.{AreSignals, response_by}
use Rattle.vrt_model.specs.State.{Setting, network_of}
use Rattle.vrt_model.specs.declared.circuit.Circuit.{Circuit}
use Rattle.vrt_model.specs.declared.ids.Net.{Net}
use Rattle.vrt_model.specs.declared.rules.Phase.{Phase}
use Rattle.witness.proofs.LookLaws.{blocked_is, filled_state, filled_state_is, seen_is}
use Rattle.witness.proofs.PartResponses.{given_response}
use Rattle.witness.specs.Looks.{filled, is_stopped, seen_by}
use Rattle.witness.specs.Replays.{HasGivenBits, HasKnownNets, HasSeen, IsBlocked, Responds}
use Rattle.witness.specs.Views.{filled_list, has_net, stops, view_by}
use Rattle.witness.specs.declared.seen.Seen.TheVariants.{Blocked}

-- ---- lists

-- one item more, which is what its place asks
pub pushed_each : {X : Type 0} (list : List X) (x : X) (f : ℕ → X) (k : ℕ) → length list ≡ k → ((n : ℕ) → n < k → slice_get list n ≡ Some (f n)) → x ≡ f k
    → (n : ℕ) → n < k + 1 → slice_get (list ++ x ∷ []) n ≡ Some (f n)
pushed_each {X} list x f k len each is n lt =
    elim (cases_eq n k) [
      | inl e ↦ subst (λ (m : ℕ). slice_get (list ++ x ∷ []) m ≡ Some (f m)) (sym e) (subst (λ (m : ℕ). slice_get (list ++ x ∷ []) m ≡ Some x) len (at_last list x) ∙ ap Some is)
      | inr ne ↦ at_front list (x ∷ []) n (f n) (each n (omega (arith, lt, ne)))
    ]

pub filled_bits : (bits : List (Option Bool)) (n : ℕ) → bit_at (filled_list bits) n ≡ filled bits n
filled_bits [] n = refl
filled_bits (b ∷ bits) zero = refl
filled_bits (b ∷ bits) (suc n) = filled_bits bits n

net_among : (nets : List Net) (n : ℕ) → has_net nets n ≡ true → Among (net_numbers nets) n
net_among nets n t =
    let some = any_among (λ (net : Net). net.0 == n) nets t in
    subst (Among (net_numbers nets)) (eqb-true some.0.0 n some.2) (map_among (λ (net : Net). net.0) nets some.0 some.1)

among_net : (nets : List Net) (n : ℕ) → Among (net_numbers nets) n → has_net nets n ≡ true
among_net nets n m =
    let from = among_map (λ (net : Net). net.0) nets n m in
    among_any (λ (net : Net). net.0 == n) nets from.0 from.1 (eq-eqb from.0.0 n from.2)

module _ (c : Circuit) (phase : Phase) (flat : IsFlat c) (setting : Setting) (which : Bool) (bits : List (Option Bool)) (given : HasGivenBits c phase setting.inputs (known_at bits))
    (known : HasKnownNets c phase (known_at bits)) (parts : List Part) (rank : ℕ → ℕ) (each : (part : Part) → Among parts part → IsPartOf c phase which rank part)
    (all : (n : ℕ) → IsPlain c n → (part : Part) × Among parts part × Among (net_numbers part.nets) n) (n : ℕ) (driven : ℕ → Bool) where
  -- ---- a net of a part that is stopped

  stopped_part : list_any (stops c bits n) parts ≡ true → (part : Part) × Among parts part × (is_stopped c bits part.devices ≡ true) × Among (net_numbers part.nets) n
  stopped_part t =
      let some = any_among (stops c bits n) parts t in
      let both = and_parts (is_stopped c bits some.0.devices) (has_net some.0.nets n) some.2 in
      (some.0, some.1, both.0, net_among some.0.nets n both.1)

  stopped_is : list_any (stops c bits n) parts ≡ true → IsBlocked c phase (known_at bits) which n
  stopped_is t =
      let part = stopped_part t in
      blocked_is c phase flat setting which bits given known part.0 rank (each part.0 part.1) n part.3 part.2

  -- ---- a plain net of no such part

  part_open : (part : Part) → Among parts part → Among (net_numbers part.nets) n → list_any (stops c bits n) parts ≡ false → is_stopped c bits part.devices ≡ false
  part_open part m there f =
      elim (cases_Bool (is_stopped c bits part.devices)) [
        | inl t ↦ absurd (false≢true (sym f ∙ among_any (stops c bits n) parts part m (and_from (is_stopped c bits part.devices) (has_net part.nets n) t (among_net part.nets n there))))
        | inr shut ↦ shut
      ]

  plain_is : IsPlain c n → list_any (stops c bits n) parts ≡ false → (zero_in one_in : Bool)
      → IsResponse (network_of c which setting.held (filled_state c phase flat setting which bits given known driven)) n (response_by zero_in one_in)
      → HasSeen c phase setting (known_at bits) which n (seen_by zero_in one_in)
  plain_is p f z o h =
      let part = all n p in
      seen_is c phase flat setting which bits given known part.0 rank (each part.0 part.1) n part.2 driven (part_open part.0 part.1 part.2 f) z o h

  -- ---- a net with a given value

  given_open : IsGiven c n → ¬ IsBlocked c phase (known_at bits) which n
  given_open g b = let inside = b.1 in plain_not_given c n (together_first c phase which n inside.0 inside.2) g

  given_responds : IsGiven c n → (r : Response) → IsResponse (network_of c which setting.held (filled_state c phase flat setting which bits given known driven)) n r
      → Responds c phase setting (known_at bits) which n r
  given_responds g r h s state has =
      given_response c phase flat setting which n (filled_state c phase flat setting which bits given known driven) s (filled_state_is c phase flat setting which bits given known driven) state n r g h

  given_is : IsGiven c n → (zero_in one_in : Bool) → IsResponse (network_of c which setting.held (filled_state c phase flat setting which bits given known driven)) n (response_by zero_in one_in)
      → HasSeen c phase setting (known_at bits) which n (seen_by zero_in one_in)
  given_is g true true h = (given_open g, given_responds g FightThere h)
  given_is g true false h = (given_open g, given_responds g (Shows false) h)
  given_is g false true h = (given_open g, given_responds g (Shows true) h)
  given_is g false false h = (given_open g, given_responds g FloatThere h)

  -- ---- each net

  pub view_is : n < length c.nets → (t : List ℕ) (zeros ones : List Bool)
      → AreSignals (network_of c which setting.held (filled_state c phase flat setting which bits given known driven)) t zeros ones
      → HasSeen c phase setting (known_at bits) which n (view_by (list_any (stops c bits n) parts) zeros ones n)
  view_is lt t zeros ones signals = pick (list_any (stops c bits n) parts) refl
    where
      here : IsResponse (network_of c which setting.held (filled_state c phase flat setting which bits given known driven)) n (response_by (bit_at zeros n) (bit_at ones n))
      here = signal_response (network_of c which setting.held (filled_state c phase flat setting which bits given known driven)) t zeros ones signals n

      pick : (b : Bool) → list_any (stops c bits n) parts ≡ b → HasSeen c phase setting (known_at bits) which n (cond b Blocked (seen_by (bit_at zeros n) (bit_at ones n)))
      pick true e = stopped_is e
      pick false e =
          elim (given_or_plain c n lt) [
            | inl g ↦ given_is g (bit_at zeros n) (bit_at ones n) here
            | inr p ↦ plain_is p e (bit_at zeros n) (bit_at ones n) here
          ]

  -- the same at held bits and a reading that are these
  pub view_right : n < length c.nets → (held reading : ℕ → Bool) → setting.held ≡ held → ((m : ℕ) → reading m ≡ filled bits m) → (t : List ℕ) (zeros ones : List Bool)
      → AreSignals (network_of c which held (record { reading = reading; driven = driven })) t zeros ones
      → HasSeen c phase setting (known_at bits) which n (view_by (list_any (stops c bits n) parts) zeros ones n)
  view_right lt held reading same filled_there t zeros ones signals =
      view_is lt t zeros ones
      (subst (λ (r : ℕ → Bool). AreSignals (network_of c which setting.held (record { reading = r; driven = driven })) t zeros ones) (fun_ext filled_there)
      (subst (λ (h : ℕ → Bool). AreSignals (network_of c which h (record { reading = reading; driven = driven })) t zeros ones) (sym same) signals))
