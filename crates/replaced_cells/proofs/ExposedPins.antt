-- Exposed outputs of a cell that is whole: each has its drive as its strength, so the bit of its pin reaches it.
use Rattle.std.proofs.Common.{◌≡◌, ℕ, ◌≤◌, arith, Bool, true, false, List, [], ◌∷◌, subst, sym, refl, ◌∙◌, ap, inl, inr}
use Rattle.cell_inside.proofs.NetKinds.{plain_not_given}
use Rattle.cell_inside.proofs.OutputPins.{pin_found, pin_there}
use Rattle.cell_inside.specs.Inside.{Touches}
use Rattle.replaced_cells.proofs.SolvedAlike.{plain_there}
use Rattle.replaced_cells.specs.OneMoreWhole.{IsOneMoreWhole}
use Rattle.vrt_model.proofs.Filtered.{device_among}
use Rattle.vrt_model.proofs.Laws.{shows_from}
use Rattle.vrt_model.specs.Comparison.{Comparison}
use Rattle.vrt_model.specs.Levels.{source_level}
use Rattle.vrt_model.specs.Lists.{At}
use Rattle.vrt_model.specs.Path.{Hop, IsPath, IsRoot, Network, Root, end_of, level_of, level_of_drive}
use Rattle.vrt_model.specs.Response.{Fight, IsResponse, Reaches, Shows}
use Rattle.vrt_model.specs.State.{OutputPin, State, network_of, output_pins}
use Rattle.vrt_model.specs.declared.circuit.Circuit.{Circuit}
use Rattle.vrt_model.specs.declared.whole.WholePin.{WholePin}

-- two values that reach a net are the same where it does not fight
pub one_value : (w : Network) (n : ℕ) → (IsResponse w n Fight → ⊥) → (u v : Bool) → Reaches w n u → Reaches w n v → u ≡ v
one_value w n calm true true a b = refl
one_value w n calm true false a b = absurd (calm (a, b))
one_value w n calm false true a b = absurd (calm (b, a))
one_value w n calm false false a b = refl

module _ (k q : Comparison) (phase : ℕ) (whole_circuit : Circuit) (at place fresh : ℕ → ℕ) (remaining compared exposed : ℕ → Bool) (drive : ℕ → ℕ)
    (one : IsOneMoreWhole k q phase whole_circuit at place fresh remaining compared exposed drive) (bare : Bool) (held : ℕ → Bool) (r : State) where
  abbrev view : Network
  view = network_of whole_circuit bare held r

  -- a pin at an exposed net is not above its drive
  pin_below : (n j : ℕ) (out : OutputPin) → exposed n ≡ true → At (output_pins whole_circuit) j out → out.pin.net.0 ≡ at n → level_of_drive (source_level whole_circuit) out.pin.drive ≤ drive n
  pin_below n j out e there net =
      let plain = one.placed.exposed_plain n e in
      elim (one.whole.pins_back j out there) [
        | inl old ↦
            let le = (one.placed.pins old.1 n (old.0, old.2) plain (sym old.4.net ∙ net)).1 in
            let same : level_of_drive (source_level whole_circuit) out.pin.drive ≡ level_of_drive (source_level k.circuit) old.1.pin.drive =
            ap (level_of_drive (source_level whole_circuit)) old.4.drive ∙ ap (λ (x : ℕ). level_of_drive x old.1.pin.drive) (sym one.whole.source) in omega (arith, le, same)
        | inr own ↦ elim (one.placed.apart own.0 n own.2.plain plain (sym own.2.net ∙ net)) [
          | inl same ↦ (let level : level_of_drive (source_level whole_circuit) out.pin.drive ≡ drive n = own.2.level (subst (λ (x : ℕ). exposed x ≡ true) (sym same) e) ∙ ap drive same in omega (arith, level))
          | inr both ↦ (let level : level_of_drive (source_level whole_circuit) out.pin.drive ≡ drive n = own.2.level both.0 ∙ both.2 in omega (arith, level))
        ]
      ]

  -- nor is a root
  root_below : (n : ℕ) (root : Root) → exposed n ≡ true → root.net ≡ at n → IsRoot view root → root.level ≤ drive n
  root_below n root e ends (inl g) =
      absurd (plain_not_given whole_circuit (at n) g.0 (plain_there k q phase whole_circuit at place fresh remaining compared exposed drive one (at n) (one.placed.plain n (one.placed.exposed_plain n e))) (subst (λ (x : ℕ). At whole_circuit.nets x g.0) ends g.1) g.2)
  root_below n root e ends (inr (inl h)) =
      let below = one.whole.holds_back h.0 h.1 h.2 in absurd (one.placed.unheld n (one.placed.exposed_plain n e) (below.0, (h.0, below.1), sym below.2.net ∙ sym h.3 ∙ ends))
  root_below n root e ends (inr (inr o)) =
      let out = pin_found whole_circuit o.0 o.1 o.2 in
      let le = pin_below n o.0 out.0 e out.1 (ap (λ (x : WholePin). x.net.0) out.2 ∙ sym o.3 ∙ ends) in
      let level : root.level ≡ level_of_drive (source_level whole_circuit) out.0.pin.drive = o.4 ∙ ap (λ (x : WholePin). level_of_drive (source_level whole_circuit) x.drive) (sym out.2) in omega (arith, le, level)

  -- nor is a path that ends there
  path_below : (n : ℕ) (root : Root) (hops : List Hop) → exposed n ≡ true → IsPath view root hops → end_of root hops ≡ at n → level_of root hops ≤ drive n
  path_below n root [] e path ends = root_below n root e ends path
  path_below n root (hop ∷ hops) e path ends =
      let touches : Touches hop.device (at n) = elim path.2 [ inl j ↦ inr (j.1 ∙ ends) | inr j ↦ inl (j.0 ∙ ends) ] in
      let le = (one.exposed_outputs n e).below hop.device (device_among bare whole_circuit hop.device path.1.0).0 touches in omega (arith, le)

  -- the root that the pin of an exposed output is
  abbrev pin_root : ℕ → Root
  pin_root n = record { net = at n; level = drive n; value = r.driven (fresh n) }

  pub pin_reaches : (n : ℕ) → exposed n ≡ true → Reaches view (at n) (r.driven (fresh n))
  pin_reaches n e = (pin_root n, [], is, (λ root hops path ends. path_below n root hops e path ends, inr (pin_root n, [], is, refl, refl)), refl, refl)
    where
      is : IsRoot view (pin_root n)
      is = let pin = one.whole.fresh_pins n e in inr (inr (fresh n, pin.0.pin, pin_there whole_circuit (fresh n) pin.0 pin.1, sym pin.2.net, sym (pin.2.level e), refl))

  -- so it shows that where it does not fight
  pub exposed_shows : (n : ℕ) → exposed n ≡ true → (IsResponse view (at n) Fight → ⊥) → IsResponse view (at n) (Shows (r.driven (fresh n)))
  exposed_shows n e calm = shows_from view (at n) (r.driven (fresh n)) (pin_reaches n e) (λ u reached. one_value view (at n) calm u (r.driven (fresh n)) reached (pin_reaches n e))
