-- The observed nets of a comparison are those of its five kinds; the outputs among them are at the nets of the wishes.
use Rattle.std.proofs.Common.{◌≡◌, ℕ, Bool, true, ◌||◌, ◌&&◌, List, Option, Some, ap, ap₂, sym, subst, ◌∙◌}
use Rattle.std.specs.Prelude.{◌==◌, is_some}
use Rattle.std.specs.List.{list_any}
use Rattle.std.proofs.lemmas.Bool.{and_parts}
use Rattle.phase_ports.specs.Comparisons.{IsOfCircuit}
use Rattle.phase_ports.specs.Observed.{has_any, has_constrained, has_gate, has_hold, has_whole, has_wish}
use Rattle.phase_wishes.specs.Wishes.{AreOutputWishes, IsSeenOutput}
use Rattle.phase_wishes.specs.declared.wishes.Wish.{Wish}
use Rattle.vrt_model.proofs.Lists.{one_at}
use Rattle.vrt_model.proofs.Members.{among_any, any_among}
use Rattle.vrt_model.proofs.Tests.{same_tests, some_of}
use Rattle.vrt_model.specs.CellRules.{is_observed_port}
use Rattle.vrt_model.specs.Comparison.{CellPort, Comparison, cell_at, is_observed, output_signal, ports_of}
use Rattle.vrt_model.specs.Lists.{Among}
use Rattle.vrt_model.specs.declared.circuit.Circuit.{Circuit}
use Rattle.vrt_model.specs.declared.design.Design.{Design}
use Rattle.vrt_model.specs.declared.rules.Rules.{Rules}

some_is : (o : Option ℕ) (signal : ℕ) → o ≡ Some signal → is_some o ≡ true
some_is o signal e = ap is_some e

all_three : (a b c : Bool) → a ≡ true → b ≡ true → c ≡ true → (a && b && c) ≡ true
all_three a b c p q r = ap₂ (λ (x y : Bool). x && y) (ap₂ (λ (x y : Bool). x && y) p q) r

module _ (k : Comparison) (phase : ℕ) (n : ℕ) (outputs : List Wish) where
  abbrev is_seen_at : CellPort → Bool
  is_seen_at p = p.net == n && is_some (output_signal p.role) && is_observed_port k.rules (cell_at k.design k.cell).name p.name phase

  abbrev is_at : Wish → Bool
  is_at w = w.net.0 == n

  -- an output that is seen has a wish at its net
  wish_there : AreOutputWishes k phase outputs → (at : ℕ) (p : CellPort) (signal : ℕ) → IsSeenOutput k phase at p signal → (w : Wish) × Among outputs w × (w.net.0 ≡ p.net)
  wish_there are at p signal seen =
      let w = are.all at p signal seen in
      let q = are.each w.0 w.1 in
      let here : IsSeenOutput k phase at q.0 q.1 = subst (λ (i : ℕ). IsSeenOutput k phase i q.0 q.1) w.2 q.2 in
      let port : q.0 ≡ p = one_at (ports_of k) at q.0 p here.there seen.there in
      (w.0, w.1, q.3 ∙ ap (λ (x : CellPort). x.net) port)

  -- the output of a port at a net
  seen_at : (m : (p : CellPort) × Among (ports_of k) p × (is_seen_at p ≡ true)) → (signal : ℕ) × IsSeenOutput k phase m.1.0 m.0 signal × ((m.0.net == n) ≡ true)
  seen_at (p, there, test) =
      let three = and_parts (p.net == n && is_some (output_signal p.role)) (is_observed_port k.rules (cell_at k.design k.cell).name p.name phase) test in
      let two = and_parts (p.net == n) (is_some (output_signal p.role)) three.0 in
      let signal = some_of (output_signal p.role) two.1 in
      (signal.0, record { there = there.1; role = signal.1; seen = three.1 }, two.0)

  wish_at_net : AreOutputWishes k phase outputs → list_any is_seen_at (ports_of k) ≡ true → has_wish outputs n ≡ true
  wish_at_net are e =
      let m = any_among is_seen_at (ports_of k) e in
      let seen = seen_at m in
      let w = wish_there are m.1.0 m.0 seen.0 seen.1 in
      among_any is_at outputs w.0 w.1 (ap (λ (x : ℕ). x == n) w.2 ∙ seen.2)

  port_at_net : AreOutputWishes k phase outputs → has_wish outputs n ≡ true → list_any is_seen_at (ports_of k) ≡ true
  port_at_net are e =
      let m = any_among is_at outputs e in
      let p = are.each m.0 m.1 in
      among_any is_seen_at (ports_of k) p.0 (m.0.place, p.2.there)
      (all_three (p.0.net == n) (is_some (output_signal p.0.role)) (is_observed_port k.rules (cell_at k.design k.cell).name p.0.name phase)
      (ap (λ (x : ℕ). x == n) (sym p.3) ∙ m.2) (some_is (output_signal p.0.role) p.1 p.2.role) p.2.seen)

  -- a net is that of an output that is seen exactly where a wish is at it
  ports_seen : AreOutputWishes k phase outputs → list_any is_seen_at (ports_of k) ≡ has_wish outputs n
  ports_seen are = same_tests (list_any is_seen_at (ports_of k)) (has_wish outputs n) (wish_at_net are) (port_at_net are)

  observed_is : AreOutputWishes k phase outputs → has_any k.design k.rules k.circuit outputs n ≡ is_observed k phase n
  unfolding is_observed
  observed_is are =
      ap (λ (b : Bool). has_gate k.circuit.devices n || has_hold k.circuit.holds n || b || has_constrained k.design k.rules k.circuit.instances n || has_whole k.circuit.wholes n)
      (sym (ports_seen are))

  pub observed_of : (design : Design) (rules : Rules) (circuit : Circuit) → IsOfCircuit design rules circuit k → AreOutputWishes k phase outputs
      → has_any design rules circuit outputs n ≡ is_observed k phase n
  observed_of design rules circuit is are =
      ap (λ (d : Design). has_any d rules circuit outputs n) (sym is.design_is)
      ∙ ap (λ (r : Rules). has_any k.design r circuit outputs n) (sym is.rules_are)
      ∙ ap (λ (c : Circuit). has_any k.design k.rules c outputs n) (sym is.circuit_is)
      ∙ observed_is are
