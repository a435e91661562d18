-- The output ports of a cell: their nets rise, each plain net at the ports is that of one, and the output pins of an instance follow them.
use Rattle.std.proofs.Common.{◌≡◌, ◌≤◌, ◌+◌, ◌∷◌, [], ℕ, zero, suc, cond, List, Bool, true, false, map, length, Option, Some, None, refl, ap, ap₂, sym, ◌∙◌, arith}
use Rattle.std.specs.Prelude.{drop, filter, is_some, nat_lt, slice_get}
use Rattle.std.proofs.lemmas.Bool.Decides.{nat_tests}
use Rattle.std.proofs.lemmas.Option.{none-some, same_Some}
use Rattle.vrt_model.proofs.Lists.{filter_among_same, filter_none}
use Rattle.vrt_model.specs.CellRules.{supply_of}
use Rattle.vrt_model.specs.Comparison.{CellPort, output_signal, port_nets_from, ports_from}
use Rattle.vrt_model.specs.FlatCircuit.{kind_by, kind_by_role, net_id, port_nets_of}
use Rattle.vrt_model.specs.Lists.{Among, At}
use Rattle.vrt_model.specs.WholeInstances.{Pin, drive_in, driven_pins_from, pins_from}
use Rattle.vrt_model.specs.declared.circuit.FlatNet.{FlatNet}
use Rattle.vrt_model.specs.declared.pairing.PortRole.{PortRole}
use Rattle.vrt_model.specs.declared.pairing.PortRole.TheVariants.{Supply, Clock, Input, Output}
use Rattle.vrt_model.specs.declared.rules.Rules.{Rules}
use Rattle.vrt_model.specs.declared.whole.CellFacts.{CellFacts}
use Rattle.vrt_model.specs.declared.whole.WholePin.{WholePin}

abbrev pub is_out : CellPort → Bool
is_out port = is_some (output_signal port.role)

-- a port of this role has a net of its own
abbrev pub is_net_role : PortRole → Bool
is_net_role (Supply value) = false
is_net_role (Clock clock) = true
is_net_role (Input signal) = true
is_net_role (Output signal) = true

pub out_is_net : (role : PortRole) → is_some (output_signal role) ≡ true → is_net_role role ≡ true
out_is_net (Supply value) e = e
out_is_net (Clock clock) e = refl
out_is_net (Input signal) e = refl
out_is_net (Output signal) e = refl

-- ---- ports whose nets rise

-- each net is above those before it, and the first is no lower than this
abbrev pub IsRising : ℕ → List CellPort → Type 0
IsRising low [] = Unit {0}
IsRising low (x ∷ xs) = (low ≤ x.net) × IsRising (suc x.net) xs

rising_lower : (low more : ℕ) (xs : List CellPort) → low ≤ more → IsRising more xs → IsRising low xs
rising_lower low more [] le h = tt
rising_lower low more (x ∷ xs) le h = (let first = h.0 in omega (arith, le, first), h.1)

risen : (low : ℕ) (xs : List CellPort) (i : ℕ) (x : CellPort) → IsRising low xs → At xs i x → low ≤ x.net
risen low [] i x h e = absurd (none-some x e)
risen low (y ∷ ys) zero x h e =
    let same = ap (λ (q : CellPort). q.net) (same_Some y x e) in let first = h.0 in omega (arith, same, first)
risen low (y ∷ ys) (suc i) x h e =
    let more = risen (suc y.net) ys i x h.1 e in let first = h.0 in omega (arith, more, first)

-- so many are below the net of one as stand before it
pub count_below_port : (low : ℕ) (xs : List CellPort) (i : ℕ) (x : CellPort) → IsRising low xs → At xs i x → length (filter (λ (port : CellPort). nat_lt port.net x.net) xs) ≡ i
count_below_port low [] i x h e = absurd (none-some x e)
count_below_port low (y ∷ ys) zero x h e =
    let same = ap (λ (q : CellPort). q.net) (same_Some y x e) in
    let test : nat_lt y.net x.net ≡ false = grind (arith, nat_tests, same) in
    let none : filter (λ (port : CellPort). nat_lt port.net x.net) ys ≡ [] =
    filter_among_same (λ (port : CellPort). nat_lt port.net x.net) (λ port. false) ys (λ z m. let more = risen (suc y.net) ys m.0 z h.1 m.1 in grind (arith, nat_tests, same, more))
    ∙ filter_none (λ (port : CellPort). false) ys (λ port. refl) in
    ap (λ (b : Bool). length (cond b (y ∷ filter (λ (port : CellPort). nat_lt port.net x.net) ys) (filter (λ (port : CellPort). nat_lt port.net x.net) ys))) test ∙ ap (λ (zs : List CellPort). length zs) none
count_below_port low (y ∷ ys) (suc i) x h e =
    let more = risen (suc y.net) ys i x h.1 e in
    let test : nat_lt y.net x.net ≡ true = grind (arith, nat_tests, more) in
    ap (λ (b : Bool). length (cond b (y ∷ filter (λ (port : CellPort). nat_lt port.net x.net) ys) (filter (λ (port : CellPort). nat_lt port.net x.net) ys))) test
    ∙ ap suc (count_below_port (suc y.net) ys i x h.1 e)

-- ---- the nets of output ports

module _ (rules : Rules) where
  -- only supplies are at ports that are named as such
  abbrev pub NamedNets : List (List ℕ) → List PortRole → Type 0
  NamedNets names roles = (i : ℕ) (name : List ℕ) (role : PortRole) → At names i name → At roles i role → is_net_role role ≡ true → supply_of rules name ≡ None

  abbrev numbers_by : Option Bool → ℕ → List (List ℕ) → List ℕ
  numbers_by o next names =
      elim o [
        | None ↦ next ∷ port_nets_from rules (suc next) names
        | Some value ↦ cond value 1 0 ∷ port_nets_from rules next names
      ]

  abbrev flats_by : Option Bool → List ℕ → List (List ℕ) → List PortRole → List FlatNet
  flats_by o name names roles =
      elim o [
        | None ↦ (let net : FlatNet = record { name = name; kind = kind_by (slice_get roles 0) } in net) ∷ port_nets_of rules names (drop 1 roles)
        | Some value ↦ port_nets_of rules names (drop 1 roles)
      ]

  pub outputs_rise : (names : List (List ℕ)) (roles : List PortRole) (first next : ℕ) → NamedNets names roles
      → IsRising next (filter is_out (ports_from first names (port_nets_from rules next names) roles))
  outputs_rise [] roles first next named = tt
  outputs_rise (x ∷ xs) [] first next named = by_supply (supply_of rules x)
    where
      by_supply : (o : Option Bool) → IsRising next (filter is_out (ports_from first (x ∷ xs) (numbers_by o next xs) []))
      by_supply None = tt
      by_supply (Some value) = tt
  outputs_rise (x ∷ xs) (r ∷ rs) first next named = by_supply (supply_of rules x) refl (λ n. outputs_rise xs rs (suc first) n (λ i name role a b. named (suc i) name role a b))
    where
      by_out : (port : CellPort) (rest : List CellPort) (b : Bool) → next ≤ port.net → IsRising (suc port.net) rest → IsRising next (cond b (port ∷ rest) rest)
      by_out port rest true le h = (le, h)
      by_out port rest false le h = rising_lower next (suc port.net) rest (omega (arith, le)) h

      no_out : (port : CellPort) (rest : List CellPort) (b : Bool) → (b ≡ true → ⊥) → IsRising next rest → IsRising next (cond b (port ∷ rest) rest)
      no_out port rest true never h = absurd (never refl)
      no_out port rest false never h = h

      by_supply : (o : Option Bool) → supply_of rules x ≡ o → ((n : ℕ) → IsRising n (filter is_out (ports_from (suc first) xs (port_nets_from rules n xs) rs)))
          → IsRising next (filter is_out (ports_from first (x ∷ xs) (numbers_by o next xs) (r ∷ rs)))
      by_supply None e rest =
          let le : next ≤ next = omega arith in
          by_out (record { place = first; name = x; net = next; role = r }) (filter is_out (ports_from (suc first) xs (port_nets_from rules (suc next) xs) rs)) (is_some (output_signal r)) le (rest (suc next))
      by_supply (Some value) e rest =
          no_out (record { place = first; name = x; net = cond value 1 0; role = r }) (filter is_out (ports_from (suc first) xs (port_nets_from rules next xs) rs)) (is_some (output_signal r))
          (λ out. none-some value (sym (named 0 x r refl refl (out_is_net r out)) ∙ e)) (rest next)

  -- a flat net of a port has the port's number, and a kind by its role
  pub port_of_flat : (names : List (List ℕ)) (roles : List PortRole) (first next j : ℕ) (net : FlatNet) → length roles ≡ length names → At (port_nets_of rules names roles) j net
      → (port : CellPort) × Among (ports_from first names (port_nets_from rules next names) roles) port × (port.net ≡ next + j) × (net.kind ≡ kind_by_role port.role)
  port_of_flat [] roles first next j net count e = absurd (none-some net e)
  port_of_flat (x ∷ xs) [] first next j net count e = absurd (omega (arith, count))
  port_of_flat (x ∷ xs) (r ∷ rs) first next j net count e = by_supply (supply_of rules x) j e (λ n k f. port_of_flat xs rs (suc first) n k net (omega (arith, count)) f)
    where
      by_supply : (o : Option Bool) (k : ℕ) → At (flats_by o x xs (r ∷ rs)) k net
          → ((n l : ℕ) → At (port_nets_of rules xs rs) l net
          → (port : CellPort) × Among (ports_from (suc first) xs (port_nets_from rules n xs) rs) port × (port.net ≡ n + l) × (net.kind ≡ kind_by_role port.role))
          → (port : CellPort) × Among (ports_from first (x ∷ xs) (numbers_by o next xs) (r ∷ rs)) port × (port.net ≡ next + k) × (net.kind ≡ kind_by_role port.role)
      by_supply None zero f rest = (
        record { place = first; name = x; net = next; role = r },
        (0, refl),
        (let same : next ≡ next + 0 = omega arith in same),
        sym (ap (λ (n : FlatNet). n.kind) (same_Some _ net f)),
      )
      by_supply None (suc l) f rest =
          let h = rest (suc next) l f in
          let is = h.2 in
          (h.0, (suc h.1.0, h.1.1), omega (arith, is), h.3)
      by_supply (Some value) l f rest =
          let h = rest next l f in
          (h.0, (suc h.1.0, h.1.1), h.2, h.3)

  -- the net of a port that is no supply is listed
  pub flat_of_port : (names : List (List ℕ)) (roles : List PortRole) (first next j : ℕ) (port : CellPort) → NamedNets names roles
      → At (ports_from first names (port_nets_from rules next names) roles) j port → is_net_role port.role ≡ true
      → (l : ℕ) × (port.net ≡ next + l) × (net : FlatNet) × At (port_nets_of rules names roles) l net × (net.kind ≡ kind_by_role port.role)
  flat_of_port [] roles first next j port named e own = absurd (none-some port e)
  flat_of_port (x ∷ xs) [] first next j port named e own = by_supply (supply_of rules x) e
    where
      by_supply : (o : Option Bool) → At (ports_from first (x ∷ xs) (numbers_by o next xs) []) j port
          → (l : ℕ) × (port.net ≡ next + l) × (net : FlatNet) × At (port_nets_of rules (x ∷ xs) []) l net × (net.kind ≡ kind_by_role port.role)
      by_supply None f = absurd (none-some port f)
      by_supply (Some value) f = absurd (none-some port f)
  flat_of_port (x ∷ xs) (r ∷ rs) first next j port named e own =
      by_supply (supply_of rules x) refl j e (λ n i f. flat_of_port xs rs (suc first) n i port (λ k name role a b. named (suc k) name role a b) f own)
    where
      by_supply : (o : Option Bool) → supply_of rules x ≡ o → (i : ℕ) → At (ports_from first (x ∷ xs) (numbers_by o next xs) (r ∷ rs)) i port
          → ((n k : ℕ) → At (ports_from (suc first) xs (port_nets_from rules n xs) rs) k port
          → (l : ℕ) × (port.net ≡ n + l) × (net : FlatNet) × At (port_nets_of rules xs rs) l net × (net.kind ≡ kind_by_role port.role))
          → (l : ℕ) × (port.net ≡ next + l) × (net : FlatNet) × At (flats_by o x xs (r ∷ rs)) l net × (net.kind ≡ kind_by_role port.role)
      by_supply None h zero f rest =
          let same = same_Some _ port f in
          let number : next ≡ port.net = ap (λ (q : CellPort). q.net) same in
          (0, omega (arith, number), record { name = x; kind = kind_by_role r }, refl, ap (λ (q : CellPort). kind_by_role q.role) same)
      by_supply None h (suc k) f rest =
          let more = rest (suc next) k f in
          let is = more.1 in
          (suc more.0, omega (arith, is), more.2, more.3, more.4)
      by_supply (Some value) h zero f rest =
          let same = same_Some _ port f in
          absurd (none-some value (sym (named 0 x r refl refl (ap (λ (q : CellPort). is_net_role q.role) same ∙ own)) ∙ h))
      by_supply (Some value) h (suc k) f rest = rest next k f

-- a port stands at its place
pub port_place : (first : ℕ) (names : List (List ℕ)) (nets : List ℕ) (roles : List PortRole) (j : ℕ) (port : CellPort) → At (ports_from first names nets roles) j port → port.place ≡ first + j
port_place first [] nets roles j port e = absurd (none-some port e)
port_place first (x ∷ xs) [] roles j port e = absurd (none-some port e)
port_place first (x ∷ xs) (n ∷ ns) [] j port e = absurd (none-some port e)
port_place first (x ∷ xs) (n ∷ ns) (r ∷ rs) zero port e = let same : first ≡ port.place = ap (λ (q : CellPort). q.place) (same_Some _ port e) in omega (arith, same)
port_place first (x ∷ xs) (n ∷ ns) (r ∷ rs) (suc j) port e = omega (arith, port_place (suc first) xs ns rs j port e)

-- ---- pins

-- an output pin has the drive that is told of the output at its place
pub driven_drive : (facts : List CellFacts) (cell first : ℕ) (pins : List Pin) (j : ℕ) (w : WholePin) → At (driven_pins_from facts cell first pins) j w → w.drive ≡ drive_in facts cell (first + j)
driven_drive facts cell first [] j w e = absurd (none-some w e)
driven_drive facts cell first (p ∷ pins) j w e = by_role (output_signal p.port.role) (λ k i f. driven_drive facts cell k pins i w f) j e
  where
    by_role : (o : Option ℕ) → ((k i : ℕ) → At (driven_pins_from facts cell k pins) i w → w.drive ≡ drive_in facts cell (k + i)) → (l : ℕ)
        → At {X = WholePin} (elim o [ None ↦ driven_pins_from facts cell first pins | Some s ↦ record { net = p.net; signal = s; drive = drive_in facts cell first; observed = false } ∷ driven_pins_from facts cell (suc first) pins ]) l w
        → w.drive ≡ drive_in facts cell (first + l)
    by_role None rest l f = rest first l f
    by_role (Some s) rest zero f = sym (ap (λ (q : WholePin). q.drive) (same_Some _ w f)) ∙ ap (drive_in facts cell) (let same : first ≡ first + 0 = omega arith in same)
    by_role (Some s) rest (suc l) f = rest (suc first) l f ∙ ap (drive_in facts cell) (let same : suc first + l ≡ first + suc l = omega arith in same)

module _ (at : ℕ → ℕ) where
  abbrev pub pin_at : CellPort → Pin
  pin_at port = record { port = port; net = net_id (at port.net) }

  pub pins_are : (first : ℕ) (names : List (List ℕ)) (nets : List ℕ) (roles : List PortRole)
      → pins_from (ports_from first names nets roles) (map at nets) ≡ map pin_at (ports_from first names nets roles)
  pins_are first [] nets roles = refl
  pins_are first (x ∷ xs) [] roles = refl
  pins_are first (x ∷ xs) (n ∷ ns) [] = refl
  pins_are first (x ∷ xs) (n ∷ ns) (r ∷ rs) =
      ap (λ (pins : List Pin). pin_at (record { place = first; name = x; net = n; role = r }) ∷ pins) (pins_are (suc first) xs ns rs)

  -- the output pins are at the nets of the output ports
  pub driven_nets : (facts : List CellFacts) (cell j : ℕ) (ports : List CellPort)
      → map (λ (w : WholePin). w.net.0) (driven_pins_from facts cell j (map pin_at ports)) ≡ map (λ (port : CellPort). at port.net) (filter is_out ports)
  driven_nets facts cell j [] = refl
  driven_nets facts cell j (x ∷ xs) = by_role (output_signal x.role) (λ k. driven_nets facts cell k xs)
    where
      by_role : (o : Option ℕ)
          → ((k : ℕ) → map (λ (w : WholePin). w.net.0) (driven_pins_from facts cell k (map pin_at xs)) ≡ map (λ (port : CellPort). at port.net) (filter is_out xs))
          → map (λ (w : WholePin). w.net.0)
          (elim o [
            | None ↦ driven_pins_from facts cell j (map pin_at xs)
            | Some s ↦ record { net = net_id (at x.net); signal = s; drive = drive_in facts cell j; observed = false } ∷ driven_pins_from facts cell (suc j) (map pin_at xs)
          ])
          ≡ map (λ (port : CellPort). at port.net) (cond (is_some o) (x ∷ filter is_out xs) (filter is_out xs))
      by_role None rest = rest j
      by_role (Some s) rest = ap (λ (nets : List ℕ). at x.net ∷ nets) (rest (suc j))

  -- and have their signals
  pub driven_signals : (facts : List CellFacts) (cell j : ℕ) (ports : List CellPort)
      → map (λ (w : WholePin). Some w.signal) (driven_pins_from facts cell j (map pin_at ports)) ≡ map (λ (port : CellPort). output_signal port.role) (filter is_out ports)
  driven_signals facts cell j [] = refl
  driven_signals facts cell j (x ∷ xs) = by_role (output_signal x.role) refl (λ k. driven_signals facts cell k xs)
    where
      by_role : (o : Option ℕ) → output_signal x.role ≡ o
          → ((k : ℕ) → map (λ (w : WholePin). Some w.signal) (driven_pins_from facts cell k (map pin_at xs)) ≡ map (λ (port : CellPort). output_signal port.role) (filter is_out xs))
          → map (λ (w : WholePin). Some w.signal)
          (elim o [
            | None ↦ driven_pins_from facts cell j (map pin_at xs)
            | Some s ↦ record { net = net_id (at x.net); signal = s; drive = drive_in facts cell j; observed = false } ∷ driven_pins_from facts cell (suc j) (map pin_at xs)
          ])
          ≡ map (λ (port : CellPort). output_signal port.role) (cond (is_some o) (x ∷ filter is_out xs) (filter is_out xs))
      by_role None e rest = rest j
      by_role (Some s) e rest = ap₂ (λ (one : Option ℕ) (others : List (Option ℕ)). one ∷ others) (sym e) (rest (suc j))
