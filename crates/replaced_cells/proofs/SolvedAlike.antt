-- What one state tells where the bits of all nets are given; and nets of a cell that meet gates alone, with the instance whole.
use Rattle.std.proofs.Common.{◌≡◌, ℕ, Bool, true, false, List, [], subst, sym, refl, ◌∙◌, ap, inl, inr}
use Rattle.std.specs.Prelude.{◌↔◌}
use Rattle.std.proofs.lemmas.Bool.{cases_Bool, false≢true}
use Rattle.std.proofs.lemmas.Option.{none-some, same_Some}
use Rattle.cell_inside.proofs.NetKinds.{plain_not_given}
use Rattle.cell_inside.proofs.OneStateLaws.{one_state_says_all}
use Rattle.cell_inside.proofs.OutputPins.{pin_found}
use Rattle.cell_inside.specs.Inside.{Touches}
use Rattle.cell_inside.specs.OneState.{IsTotal}
use Rattle.cell_inside.specs.Placed.{alone}
use Rattle.channel_parts.specs.OneSolution.{AreDetermined}
use Rattle.known_nets.proofs.WiredLaws.{pin_of_whole}
use Rattle.replaced_cells.proofs.SameResponses.{driven_same, root_alone}
use Rattle.replaced_cells.specs.OneMoreWhole.{IsOneMoreWhole, all_bits}
use Rattle.vrt_model.specs.Comparison.{Comparison, is_observed, phase_at}
use Rattle.vrt_model.specs.Faults.{NeverKeeps, Solves}
use Rattle.vrt_model.specs.Held.{held_bit, setting_of, sources_of}
use Rattle.vrt_model.specs.Levels.{source_level}
use Rattle.vrt_model.specs.Known.{IsPlain}
use Rattle.vrt_model.specs.Lists.{Among, At}
use Rattle.vrt_model.specs.Path.{Hop, IsPath, IsRoot, Root, end_of, level_of_drive}
use Rattle.vrt_model.specs.Reading.{kept}
use Rattle.vrt_model.specs.Response.{IsResponse, Reaches, Response, Shows}
use Rattle.vrt_model.specs.Solution.{AlwaysResponds}
use Rattle.vrt_model.specs.State.{IsState, OutputPin, Setting, State, network_of, output_pins}
use Rattle.vrt_model.specs.declared.circuit.Circuit.{Circuit}
use Rattle.vrt_model.specs.declared.circuit.Device.{Device}
use Rattle.vrt_model.specs.declared.circuit.FlatNet.{FlatNet}
use Rattle.vrt_model.specs.declared.groups.Group.{Group}
use Rattle.vrt_model.specs.declared.whole.Whole.{Whole}
use Rattle.vrt_model.specs.declared.whole.WholePin.{WholePin}
use Rattle.whole_solutions.proofs.ObservedCases.{gate_observed}

-- without whole instances there is no output pin
pub no_pins : (c : Circuit) → c.wholes ≡ [] → (i : ℕ) (out : OutputPin) → At (output_pins c) i out → ⊥
no_pins c none i out e = let from = pin_of_whole c out (i, e) in none-some out.whole (subst (λ (ws : List Whole). At ws from.0.0 out.whole) none from.0.1)

-- ---- one comparison whose bits are all given

module _ (k : Comparison) (phase : ℕ) (setting : Setting) (s : State) (state : IsState k.circuit (phase_at k.rules phase) setting.inputs s)
    (determined : AreDetermined k.circuit (phase_at k.rules phase) (is_observed k phase)) where
  pub total : IsTotal k.circuit (phase_at k.rules phase) (is_observed k phase) setting (all_bits s.reading)
  total = record {
    gates = λ d m. gate_observed k phase d.gate.0 (d, m, refl);
    bits = λ n o. (s.reading n, refl);
    pins = λ t u it iu ok okay place out e.
        driven_same k.circuit (phase_at k.rules phase) (is_observed k phase) setting determined t u it iu
        (λ n o. ok n (s.reading n) o refl ∙ sym (okay n (s.reading n) o refl)) place out e;
  }

  -- one state tells how each net always responds
  pub always : (bare : Bool) (n : ℕ) (r : Response) → AlwaysResponds k.circuit (phase_at k.rules phase) (is_observed k phase) setting (all_bits s.reading) bare n r
      ↔ IsResponse (network_of k.circuit bare setting.held s) n r
  always = (one_state_says_all k.circuit (phase_at k.rules phase) (is_observed k phase) setting (all_bits s.reading) s total state (λ n v o e. same_Some (s.reading n) v e)).0

  -- and whether the bits are a solution
  pub solved_by : ((n : ℕ) → is_observed k phase n ≡ true → IsResponse (network_of k.circuit true setting.held s) n (Shows (s.reading n)))
      → Solves k phase setting (all_bits s.reading)
  solved_by shows =
      (one_state_says_all k.circuit (phase_at k.rules phase) (is_observed k phase) setting (all_bits s.reading) s total state (λ n v o e. same_Some (s.reading n) v e)).1.1
      (λ n v o e. subst (λ (x : Bool). IsResponse (network_of k.circuit true setting.held s) n (Shows x)) (same_Some (s.reading n) v e) (shows n o))

  pub solution_shows : Solves k phase setting (all_bits s.reading)
      → (n : ℕ) → is_observed k phase n ≡ true → IsResponse (network_of k.circuit true setting.held s) n (Shows (s.reading n))
  solution_shows solves n o = (always true n (Shows (s.reading n))).0 ((solves n (s.reading n) o).0 refl)

  -- where the net does not show its bit in the kept circuit, it never does
  pub never_there : (n : ℕ) → (IsResponse (network_of k.circuit kept setting.held s) n (Shows (s.reading n)) → ⊥) → NeverKeeps k phase setting (all_bits s.reading) n
  never_there n h t it ok v e shows =
      let spread = ((one_state_says_all k.circuit (phase_at k.rules phase) (is_observed k phase) setting (all_bits s.reading) t total it ok).0 kept n (Shows v)).1 shows in
      h (subst (λ (x : Bool). IsResponse (network_of k.circuit kept setting.held s) n (Shows x)) (sym (same_Some (s.reading n) v e)) (spread s state (λ m u o x. same_Some (s.reading m) u x)))

  pub never_here : (n : ℕ) → NeverKeeps k phase setting (all_bits s.reading) n → IsResponse (network_of k.circuit kept setting.held s) n (Shows (s.reading n)) → ⊥
  never_here n never = never s state (λ m u o x. same_Some (s.reading m) u x) (s.reading n) refl

-- ---- both circuits

module _ (k q : Comparison) (phase : ℕ) (whole_circuit : Circuit) (at place fresh : ℕ → ℕ) (remaining compared exposed : ℕ → Bool) (drive : ℕ → ℕ)
    (one : IsOneMoreWhole k q phase whole_circuit at place fresh remaining compared exposed drive) where
  -- a plain net of the cell that is not exposed is not compared
  pub not_compared : (n : ℕ) → IsPlain q.circuit n → exposed n ≡ false → compared (at n) ≡ false
  not_compared n p hidden = elim (cases_Bool (compared (at n))) [ inl t ↦ absurd (false≢true (sym hidden ∙ one.whole.inside_compared n p t)) | inr f ↦ f ]

  -- a net that is not compared is that of such a net
  pub hidden_net : (n : ℕ) → compared n ≡ false → (m : ℕ) × (n ≡ at m) × IsPlain q.circuit m × (exposed m ≡ false)
  hidden_net n f =
      let h = one.hides.hidden n f in (
        h.0,
        h.1,
        h.2,
        elim (cases_Bool (exposed h.0)) [ inl t ↦ absurd (false≢true (sym f ∙ subst (λ (x : ℕ). compared x ≡ true) (sym h.1) (one.whole.exposed_compared h.0 t))) | inr g ↦ g ],
      )

  -- two plain nets of the cell, of which one is not exposed, are two nets above
  pub inside_apart : (m n : ℕ) → IsPlain q.circuit m → IsPlain q.circuit n → exposed m ≡ false → at m ≡ at n → m ≡ n
  inside_apart m n p o hidden e = elim (one.placed.apart m n p o e) [ inl same ↦ same | inr both ↦ absurd (false≢true (sym hidden ∙ both.0)) ]

  -- with the instance whole no channel is at such a net
  pub free_inside : (n : ℕ) → IsPlain q.circuit n → exposed n ≡ false → (d : Device) → Among whole_circuit.devices d → Touches d (at n) → ⊥
  free_inside n p hidden d m t =
      let e = one.whole.devices_back d m in
      let touches : Touches e.0 (at n) = elim t [ inl l ↦ inl (sym e.2.image.left ∙ l) | inr l ↦ inr (sym e.2.image.right ∙ l) ] in
      false≢true (sym (not_compared n p hidden) ∙ e.2.channels (at n) touches)

  pub plain_there : (n : ℕ) → IsPlain k.circuit n → IsPlain whole_circuit n
  plain_there n p = (p.0, subst (λ (nets : List FlatNet). At nets n p.0) (sym one.nets) p.1, p.2)

  pub plain_back : (n : ℕ) → IsPlain whole_circuit n → IsPlain k.circuit n
  plain_back n p = (p.0, subst (λ (nets : List FlatNet). At nets n p.0) one.nets p.1, p.2)

  -- and of output pins there is one, the cell's
  pub pin_inside : (n j : ℕ) (out : OutputPin) → IsPlain q.circuit n → exposed n ≡ false → At (output_pins whole_circuit) j out → out.pin.net.0 ≡ at n → fresh n ≡ j
  pin_inside n j out p hidden e net =
      elim (one.whole.pins_back j out e) [
        | inl old ↦ absurd (false≢true (sym hidden ∙ (one.placed.pins old.1 n (old.0, old.2) p (sym old.4.net ∙ net)).0))
        | inr own ↦ ap fresh (inside_apart n own.0 p own.2.plain hidden (sym net ∙ own.2.net)) ∙ own.1
      ]

  -- so a root there is that of the pin
  root_inside : (bare : Bool) (held : ℕ → Bool) (r : State) (n : ℕ) (root : Root) → IsPlain q.circuit n → exposed n ≡ false → root.net ≡ at n → IsRoot (network_of whole_circuit bare held r) root
      → (out : OutputPin) × At (output_pins whole_circuit) (fresh n) out × (out.pin.net.0 ≡ at n) × (root.level ≡ level_of_drive (source_level whole_circuit) out.pin.drive)
      × (root.value ≡ r.driven (fresh n))
  root_inside bare held r n root p hidden ends (inl g) =
      absurd (plain_not_given whole_circuit (at n) g.0 (plain_there (at n) (one.placed.plain n p)) (subst (λ (x : ℕ). At whole_circuit.nets x g.0) ends g.1) g.2)
  root_inside bare held r n root p hidden ends (inr (inl h)) =
      let below = one.whole.holds_back h.0 h.1 h.2 in absurd (one.placed.unheld n p (below.0, (h.0, below.1), sym below.2.net ∙ sym h.3 ∙ ends))
  root_inside bare held r n root p hidden ends (inr (inr o)) =
      let out = pin_found whole_circuit o.0 o.1 o.2 in
      let net : out.0.pin.net.0 ≡ at n = ap (λ (x : WholePin). x.net.0) out.2 ∙ sym o.3 ∙ ends in
      let here : fresh n ≡ o.0 = pin_inside n o.0 out.0 p hidden out.1 net in (
        out.0,
        subst (λ (j : ℕ). At (output_pins whole_circuit) j out.0) (sym here) out.1,
        net,
        o.4 ∙ ap (λ (x : WholePin). level_of_drive (source_level whole_circuit) x.drive) (sym out.2),
        o.5 ∙ ap r.driven (sym here),
      )

  -- and what reaches the net is what the pin drives
  pub reached_inside : (bare : Bool) (held : ℕ → Bool) (r : State) (n : ℕ) (u : Bool) → IsPlain q.circuit n → exposed n ≡ false → Reaches (network_of whole_circuit bare held r) (at n) u
      → (out : OutputPin) × At (output_pins whole_circuit) (fresh n) out × (out.pin.net.0 ≡ at n) × (r.driven (fresh n) ≡ u)
  reached_inside bare held r n u p hidden (root, hops, path, clear, e, is) =
      let alone = root_alone whole_circuit held r (at n) (free_inside n p hidden) bare root hops path e in
      let ends : root.net ≡ at n = subst (λ (hs : List Hop). end_of root hs ≡ at n) alone e in
      let found = root_inside bare held r n root p hidden ends (subst (λ (hs : List Hop). IsPath (network_of whole_circuit bare held r) root hs) alone path) in
      (found.0, found.1, found.2, sym found.4 ∙ is)

  -- ---- the cell alone

  -- without groups of holds each held bit is 0
  pub none_held : (bits : List Bool) → (setting_of q phase bits).held ≡ (λ hold. false)
  unfolding setting_of
  none_held bits =
      let held_with : List Group → ℕ → Bool = λ groups hold. held_bit q.circuit groups phase (sources_of q phase) bits hold in ap held_with one.groups

  -- the bits of a state at the nets of the cell
  abbrev pub own_bits : State → State
  own_bits s = record { reading = λ n. s.reading (at n); driven = λ i. false }

  pub alone_is : (bits : List Bool) (bare : Bool) (s : State) → network_of q.circuit bare (setting_of q phase bits).held (own_bits s) ≡ alone q.circuit bare at s
  alone_is bits bare s = ap (λ (held : ℕ → Bool). network_of q.circuit bare held (own_bits s)) (none_held bits)

  pub none_determined : AreDetermined q.circuit (phase_at q.rules phase) (is_observed q phase)
  none_determined w m = absurd (none-some w (subst (λ (ws : List Whole). At ws m.0 w) one.cell.wholes m.1))
