-- The links of a whole instance whose `assume` stands at a known plain net, and the rank of its output.
use Rattle.std.proofs.Common.{◌≡◌, ℕ, zero, suc, ◌<◌, Bool, true, false, List, [], ◌∷◌, Some, None, sym, subst, refl, ap, inl, inr, arith, map}
use Rattle.std.specs.Prelude.{codes, slice_get}
use Rattle.std.proofs.lemmas.Bool.{false≢true}
use Rattle.std.proofs.lemmas.Option.{same_Some, none-some}
use Rattle.model_laws.specs.Cells.{instance}
use Rattle.vrt_model.proofs.Cells.{base, cover, design_of, gnd, model_of, p_device, vdd}
use Rattle.vrt_model.specs.Checked.{top_of}
use Rattle.vrt_model.specs.Comparison.{Comparison, output_signal, phase_at}
use Rattle.vrt_model.specs.Cut.{NumberedPlace, whole_places}
use Rattle.vrt_model.specs.FlatBlif.{all_models, flat_model_of, network_names, signals_of, unrolled_of}
use Rattle.vrt_model.specs.FlatCircuit.{flat_circuit_of}
use Rattle.vrt_model.specs.Groups.{groups_of}
use Rattle.vrt_model.specs.Known.{IsPlain, IsRanking, itself}
use Rattle.vrt_model.specs.Lists.{Among, At}
use Rattle.vrt_model.specs.PairedPorts.{pairing_of}
use Rattle.vrt_model.specs.Unrolled.{Top, all_places, global_nets, net_at, own_nets}
use Rattle.vrt_model.specs.Unsupported.{comparison_of}
use Rattle.vrt_model.specs.WholeInstances.{HasLinks, Links, Pin, is_named_port, pins_of}
use Rattle.vrt_model.specs.declared.blif.Blif.{Blif}
use Rattle.vrt_model.specs.declared.circuit.Circuit.{Circuit}
use Rattle.vrt_model.specs.declared.design.Design.{Design}
use Rattle.vrt_model.specs.declared.pairing.PortRole.TheVariants.{Input, Output}
use Rattle.vrt_model.specs.declared.rules.Expr.TheVariants.{Port}
use Rattle.vrt_model.specs.declared.rules.Rules.{Rules}
use Rattle.vrt_model.specs.declared.whole.Drive.TheVariants.{Level}
use Rattle.vrt_model.specs.declared.whole.Link.{Link}
use Rattle.vrt_model.specs.declared.whole.Whole.{Whole}
use Rattle.vrt_model.specs.declared.whole.WholePin.{WholePin}

abbrev design : Design
design = design_of (record { line = 2; name = codes "p"; ports = codes "a" ∷ codes "y" ∷ []; devices = p_device (codes "m1") (codes "y") (codes "a") vdd ∷ []; instances = [] }
    ∷ record { line = 5; name = codes "top"; ports = codes "y" ∷ []; devices = p_device (codes "m1") (codes "k") gnd vdd ∷ p_device (codes "m2") (codes "y") gnd vdd ∷ []; instances = instance (codes "x1") (codes "k" ∷ codes "y" ∷ []) (codes "p") ∷ [] } ∷ [])

abbrev blif : Blif
blif = record {
  models = model_of (codes "p") (codes "a" ∷ []) (codes "y" ∷ []) (cover (codes "a" ∷ []) (codes "y") true (codes "0" ∷ []) ∷ []) [] []
      ∷ model_of (codes "top") [] (codes "y" ∷ []) (cover [] (codes "y") true ([] ∷ []) ∷ []) [] [] ∷ [];
}

abbrev rules : Rules
rules = record base { assumes = record { line = 5; cell = codes "p"; phase = None; expression = Port (codes "a") } ∷ [] }

abbrev inner : Comparison
inner = comparison_of design blif rules 0 0

abbrev top : Top
top = top_of (comparison_of design blif rules 1 1)

abbrev choice : ℕ → Bool
choice zero = true
choice (suc n) = false

abbrev pin_a : Pin
pin_a = record { port = record { place = 0; name = codes "a"; net = 2; role = Input 0 }; net = record { 0 = 3 } }

abbrev pin_y : Pin
pin_y = record { port = record { place = 1; name = codes "y"; net = 3; role = Output 1 }; net = record { 0 = 2 } }

abbrev pins : List Pin
pins = pin_a ∷ pin_y ∷ []

pins_are : map (λ (p : NumberedPlace). pins_of inner p.at) (whole_places (record { top = top; choice = choice })) ≡ pins ∷ []
unfolding flat_circuit_of all_places net_at own_nets global_nets flat_model_of unrolled_of network_names all_models signals_of pairing_of groups_of
pins_are = refl

abbrev out_pin : WholePin
out_pin = record { net = record { 0 = 2 }; signal = 1; drive = Level 6; observed = false }

abbrev outs : List WholePin
outs = out_pin ∷ []

abbrev link : Link
link = record { phase = codes "all"; from = record { 0 = 3 }; output = 0; named = true }

no_place : (to : Pin) → Among pins to → Links inner 0 pin_y.port to.port → ⊥
no_place to inside (inl (s, out, inl (e, o, c))) = none-some _ e
no_place to (zero, here) (inl (s, out, inr (o, p, apart, c))) = none-some _ (subst (λ (x : Pin). output_signal x.port.role ≡ Some out) (sym (same_Some pin_a to here)) p)
no_place to (suc zero, here) (inl (s, out, inr (o, p, apart, c))) = apart (ap (λ (x : Pin). x.port.place) (same_Some pin_y to here))
no_place to (suc (suc n), here) (inl (s, out, inr (o, p, apart, c))) = none-some _ here
no_place to inside (inr (named, o)) = false≢true named

full : (from to : Pin) (pin : WholePin) (at : ℕ) → Among pins from → Among pins to → Links inner 0 from.port to.port → At outs at pin
    → (l : Link) × Among (link ∷ []) l × (l.phase ≡ codes "all") × (l.from ≡ from.net) × (l.output ≡ at) × (is_named_port inner 0 from.port ≡ true → l.named ≡ true)
full from to pin zero (zero, here) inside links there = (link, (0, refl), refl, ap (λ (x : Pin). x.net) (same_Some pin_a from here), refl, λ _. refl)
full from to pin zero (suc zero, here) inside links there = absurd (no_place to inside (subst (λ (x : Pin). Links inner 0 x.port to.port) (sym (same_Some pin_y from here)) links))
full from to pin zero (suc (suc n), here) inside links there = absurd (none-some _ here)
full from to pin (suc at) from_in inside links there = absurd (none-some _ there)

no_more : (p : ℕ) → suc p < 1 → ⊥
no_more p lt = omega (arith, lt)

-- the links of the definition are not empty, and are marked
linked : HasLinks inner pins outs (link ∷ [])
linked = record {
  sound = λ l m. subst (λ (x : Link). (phase : ℕ) × (from : Pin) × (to : Pin) × (pin : WholePin) × (phase < 1) × (x.phase ≡ (phase_at rules phase).name)
      × Among pins from × Among pins to × Links inner phase from.port to.port × (x.from ≡ from.net) × At outs x.output pin
      × (output_signal to.port.role ≡ Some pin.signal) × (x.named ≡ true → is_named_port inner phase from.port ≡ true))
      (only l m) (0, pin_a, pin_y, out_pin, one, refl, (0, refl), (1, refl), inr (refl, (1, refl)), refl, refl, refl, λ _. refl);
  full = all;
}
  where
    one : 0 < 1
    one = omega (arith)

    only : (l : Link) → Among (link ∷ []) l → link ≡ l
    only l (zero, here) = same_Some link l here
    only l (suc n, here) = absurd (none-some _ here)

    all : (phase : ℕ) (from to : Pin) (pin : WholePin) (at : ℕ) → phase < 1 → Among pins from → Among pins to → Links inner phase from.port to.port → At outs at pin
        → output_signal to.port.role ≡ Some pin.signal
        → (l : Link) × Among (link ∷ []) l × (l.phase ≡ (phase_at rules phase).name) × (l.from ≡ from.net) × (l.output ≡ at) × (is_named_port inner phase from.port ≡ true → l.named ≡ true)
    all zero from to pin at lt from_in inside links there sig = full from to pin at from_in inside links there
    all (suc p) from to pin at lt from_in inside links there sig = absurd (no_more p lt)

-- in a circuit with such a whole instance the output stands above the named port, known or not
above_named : (c : Circuit) (w : Whole) (rank : ℕ → ℕ) → Among c.wholes w → w.links ≡ link ∷ [] → w.outputs ≡ outs → IsPlain c 2
    → IsRanking c (phase_at rules 0) rank → rank 3 < rank 2
above_named c w rank is links outputs plain ranks =
    ranks.above 3 2 (inr (w, link, refl, (is, (0, (λ i. slice_get (links i) 0)), refl, refl, (out_pin, (λ i. slice_get (outputs i) 0), itself plain))))
