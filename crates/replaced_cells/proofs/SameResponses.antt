-- Responses of nets at which no channel stands, and output pins that states drive alike.
use Rattle.std.proofs.Common.{◌≡◌, ℕ, ◌≤◌, Bool, true, false, List, [], ◌∷◌, Option, Some, None, subst, sym, refl, ◌∙◌, ap, inl, inr}
use Rattle.std.proofs.lemmas.Bool.{false≢true}
use Rattle.std.proofs.lemmas.Option.{none-some, same_Some}
use Rattle.cell_inside.proofs.AssuredLaws.{response_by}
use Rattle.cell_inside.specs.Inside.{Touches}
use Rattle.channel_parts.proofs.DriveLaws.{gives_same}
use Rattle.channel_parts.specs.OneSolution.{AreDetermined}
use Rattle.vrt_model.proofs.Filtered.{device_among}
use Rattle.vrt_model.proofs.GatesGiven.{shown_by, shown_is}
use Rattle.vrt_model.proofs.Laws.{one_response}
use Rattle.vrt_model.specs.Lists.{Among, At}
use Rattle.vrt_model.specs.Path.{Hop, IsPath, IsRoot, Network, Root, end_of, level_of}
use Rattle.vrt_model.specs.Response.{IsClear, IsResponse, IsStrength, Reaches, Response, Shows}
use Rattle.vrt_model.specs.State.{IsState, OutputPin, Setting, State, network_of, output_pins}
use Rattle.vrt_model.specs.declared.circuit.Circuit.{Circuit}
use Rattle.vrt_model.specs.declared.circuit.Device.{Device}
use Rattle.vrt_model.specs.declared.rules.Phase.{Phase}

-- the bit that a net shows reaches it
pub shown_reaches : (w : Network) (n : ℕ) (v : Bool) → IsResponse w n (Shows v) → Reaches w n v
shown_reaches w n true h = h.0
shown_reaches w n false h = h.0

-- no other bit reaches it
pub only_shown : (w : Network) (n : ℕ) (v u : Bool) → IsResponse w n (Shows v) → Reaches w n u → u ≡ v
only_shown w n true true h reached = refl
only_shown w n true false h reached = absurd (h.1 reached)
only_shown w n false true h reached = absurd (h.1 reached)
only_shown w n false false h reached = refl

-- a net that cannot but show a bit shows it
pub shows_surely : (w : Network) (n : ℕ) (v : Bool) (r : Response) → IsResponse w n r → ((IsResponse w n (Shows v) → ⊥) → ⊥) → IsResponse w n (Shows v)
shows_surely w n v r is sure = found (shown_by r) refl
  where
    same : (u x : Bool) → ((u ≡ x → ⊥) → ⊥) → u ≡ x
    same true true h = refl
    same true false h = absurd (h (λ e. false≢true (sym e)))
    same false true h = absurd (h false≢true)
    same false false h = refl

    found : (o : Option Bool) → shown_by r ≡ o → IsResponse w n (Shows v)
    found None e = absurd (sure (λ shows. none-some v (sym e ∙ ap shown_by (one_response w n r (Shows v) is shows))))
    found (Some u) e =
        let bit = same u v (λ other. sure (λ shows. other (same_Some u v (sym e ∙ ap shown_by (one_response w n r (Shows v) is shows))))) in
        subst (λ (x : Bool). IsResponse w n (Shows x)) bit (subst (IsResponse w n) (shown_is r u e) is)

-- ---- a net at which no channel stands

module _ (c : Circuit) (held : ℕ → Bool) (s : State) (n : ℕ) (free : (d : Device) → Among c.devices d → Touches d n → ⊥) where
  -- a path that ends there is a root alone
  pub root_alone : (bare : Bool) (root : Root) (hops : List Hop) → IsPath (network_of c bare held s) root hops → end_of root hops ≡ n → hops ≡ []
  root_alone bare root [] p e = refl
  root_alone bare root (hop ∷ hops) p e =
      absurd (free hop.device (device_among bare c hop.device p.1.0).0 (elim p.2 [ inl j ↦ inr (j.1 ∙ e) | inr j ↦ inl (j.0 ∙ e) ]))

  -- so what reaches it bare reaches it in the kept circuit, and back
  pub reaches_other : (bare other : Bool) (u : Bool) → Reaches (network_of c bare held s) n u → Reaches (network_of c other held s) n u
  reaches_other bare other u (root, hops, p, clear, e, is) =
      let alone = root_alone bare root hops p e in
      let path : IsRoot (network_of c other held s) root = subst (λ (hs : List Hop). IsPath (network_of c bare held s) root hs) alone p in
      let strong : IsStrength (network_of c bare held s) root.net root.level = subst (λ (hs : List Hop). IsClear (network_of c bare held s) root hs) alone clear in
      let ends : root.net ≡ n = subst (λ (hs : List Hop). end_of root hs ≡ n) alone e in
      let bound : (r : Root) (hs : List Hop) → IsPath (network_of c other held s) r hs → end_of r hs ≡ root.net → level_of r hs ≤ root.level
      = λ r hs q t.
      let none = root_alone other r hs q (t ∙ ends) in
      subst (λ (xs : List Hop). level_of r xs ≤ root.level) (sym none)
      (strong.0 r [] (subst (λ (xs : List Hop). IsPath (network_of c other held s) r xs) none q) (subst (λ (xs : List Hop). end_of r xs ≡ root.net) none t)) in
      (root, [], path, (bound, inr (root, [], path, refl, refl)), ends, is)

  pub response_other : (bare other : Bool) (r : Response) → IsResponse (network_of c bare held s) n r → IsResponse (network_of c other held s) n r
  response_other bare other r h = response_by (network_of c bare held s) (network_of c other held s) n n (λ u. (reaches_other bare other u, reaches_other other bare u)) r h

-- ---- output pins

-- states that are the same at observed nets drive determined pins alike
pub driven_same : (c : Circuit) (phase : Phase) (observed : ℕ → Bool) (setting : Setting) → AreDetermined c phase observed
    → (s t : State) → IsState c phase setting.inputs s → IsState c phase setting.inputs t → ((n : ℕ) → observed n ≡ true → s.reading n ≡ t.reading n)
    → (place : ℕ) (out : OutputPin) → At (output_pins c) place out → s.driven place ≡ t.driven place
driven_same c phase observed setting determined s t is it same place out e =
    gives_same c phase observed determined s.reading t.reading out (s.driven place) (t.driven place) (place, e) (is.driven place out e) (it.driven place out e)
    (λ input m linked seen. same input.net.0 seen)
