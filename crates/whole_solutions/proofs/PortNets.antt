-- The nets of the ports of a cell, and the roles from which their kinds come.
use Rattle.std.proofs.Common.{◌≡◌, ◌⊎◌, ℕ, zero, suc, ◌+◌, Bool, false, cond, List, [], ◌∷◌, drop, Option, Some, None, arith, ap, subst, sym, refl, ◌∙◌, inl, inr}
use Rattle.std.specs.Prelude.{filter_map, is_none, slice_get}
use Rattle.std.specs.List.{cons_option}
use Rattle.std.proofs.lemmas.Bool.{false≢true}
use Rattle.std.proofs.lemmas.Option.{none-some, same_Some}
use Rattle.vrt_model.proofs.Members.{among_later}
use Rattle.vrt_model.specs.CellRules.{supply_of}
use Rattle.vrt_model.specs.Comparison.{port_nets_from}
use Rattle.vrt_model.specs.FlatCircuit.{kind_by, port_nets_of}
use Rattle.vrt_model.specs.Lists.{Among, At}
use Rattle.vrt_model.specs.declared.circuit.FlatNet.{FlatNet}
use Rattle.vrt_model.specs.declared.pairing.PortRole.{PortRole}
use Rattle.vrt_model.specs.declared.rules.Rules.{Rules}

-- ---- where each item makes something

-- what is made at a place comes from the item there
pub made_at : {X Y : Type 0} (h : X → Option Y) (xs : List X) → ((x : X) → Among xs x → is_none (h x) ≡ false) → (i : ℕ) (y : Y) → At (filter_map h xs) i y
    → (x : X) × At xs i x × (h x ≡ Some y)
made_at h [] all i y e = absurd (none-some y e)
made_at {X} {Y} h (z ∷ zs) all i y e = by_case (h z) refl (all z (0, refl)) (λ j f. made_at h zs (λ x m. all x (among_later z zs x m)) j y f) i e
  where
    by_case : (o : Option Y) → h z ≡ o → is_none o ≡ false → ((j : ℕ) → At (filter_map h zs) j y → (x : X) × At zs j x × (h x ≡ Some y))
        → (j : ℕ) → At (cons_option o (filter_map h zs)) j y → (x : X) × At (z ∷ zs) j x × (h x ≡ Some y)
    by_case None same some below j f = absurd (false≢true (sym some))
    by_case (Some w) same some below zero f = (z, refl, same ∙ f)
    by_case (Some w) same some below (suc j) f = below j f

-- what an item makes is at its place
pub made_there : {X Y : Type 0} (h : X → Option Y) (xs : List X) → ((x : X) → Among xs x → is_none (h x) ≡ false) → (i : ℕ) (x : X) → At xs i x
    → (y : Y) × At (filter_map h xs) i y × (h x ≡ Some y)
made_there h [] all i x e = absurd (none-some x e)
made_there {X} {Y} h (z ∷ zs) all i x e = by_case (h z) refl (all z (0, refl)) (λ j f. made_there h zs (λ w m. all w (among_later z zs w m)) j x f) i e
  where
    by_case : (o : Option Y) → h z ≡ o → is_none o ≡ false → ((j : ℕ) → At zs j x → (y : Y) × At (filter_map h zs) j y × (h x ≡ Some y))
        → (j : ℕ) → At (z ∷ zs) j x → (y : Y) × At (cons_option o (filter_map h zs)) j y × (h x ≡ Some y)
    by_case None same some below j f = absurd (false≢true (sym some))
    by_case (Some w) same some below zero f = (w, refl, subst (λ (t : X). h t ≡ Some w) (same_Some z x f) same)
    by_case (Some w) same some below (suc j) f = below j f

-- ---- nets of ports

role_after : (roles : List PortRole) (i : ℕ) → slice_get (drop 1 roles) i ≡ slice_get roles (suc i)
role_after [] i = refl
role_after (role ∷ roles) i = refl

-- a flat net of a port: the port, the number of its net, and its kind
pub record IsNetOfPort (names : List (List ℕ)) (nets : List ℕ) (roles : List PortRole) (number : ℕ) (net : FlatNet) : Type 0 where
  pub place : ℕ
  pub name : List ℕ
  pub called : At names place name
  pub tied : At nets place number
  pub kind : net.kind ≡ kind_by (slice_get roles place)

-- the net of a port: a supply, or a flat net at its number
abbrev pub HasFlatNet : List FlatNet → ℕ → ℕ → List ℕ → Option PortRole → Option Bool → Type 0
HasFlatNet flats next n name role supply =
    ((value : Bool) × (supply ≡ Some value) × (n ≡ cond value 1 0))
    ⊎ ((j : ℕ) × (supply ≡ None) × (n ≡ next + j) × At flats j (record { name = name; kind = kind_by role }))

module _ (rules : Rules) where
  abbrev numbers_by : Option Bool → ℕ → List (List ℕ) → List ℕ
  numbers_by o next names =
      elim o [
        | None ↦ next ∷ port_nets_from rules (suc next) names
        | Some value ↦ cond value 1 0 ∷ port_nets_from rules next names
      ]

  abbrev flats_by : Option Bool → List ℕ → List (List ℕ) → List PortRole → List FlatNet
  flats_by o name names roles =
      elim o [
        | None ↦ (let net : FlatNet = record { name = name; kind = kind_by (slice_get roles 0) } in net) ∷ port_nets_of rules names (drop 1 roles)
        | Some value ↦ port_nets_of rules names (drop 1 roles)
      ]

  pub net_of_port : (names : List (List ℕ)) (roles : List PortRole) (next j : ℕ) (net : FlatNet) → At (port_nets_of rules names roles) j net
      → IsNetOfPort names (port_nets_from rules next names) roles (next + j) net
  net_of_port [] roles next j net e = absurd (none-some net e)
  net_of_port (x ∷ xs) roles next j net e = by_test (supply_of rules x) j e (λ n l f. net_of_port xs (drop 1 roles) n l net f)
    where
      by_test : (o : Option Bool) (l : ℕ) → At (flats_by o x xs roles) l net
          → ((n k : ℕ) → At (port_nets_of rules xs (drop 1 roles)) k net → IsNetOfPort xs (port_nets_from rules n xs) (drop 1 roles) (n + k) net)
          → IsNetOfPort (x ∷ xs) (numbers_by o next xs) roles (next + l) net
      by_test None zero f more = record {
        place = 0;
        name = x;
        called = refl;
        tied = ap (λ (n : ℕ). Some n) (let same : next ≡ next + 0 = omega arith in same);
        kind = ap (λ (n : FlatNet). n.kind) (sym (same_Some (record { name = x; kind = kind_by (slice_get roles 0) }) net f));
      }
      by_test None (suc k) f more =
          let m = more (suc next) k f in
          let same : suc next + k ≡ next + suc k = omega arith in
          record {
            place = suc m.place;
            name = m.name;
            called = m.called;
            tied = subst (λ (n : ℕ). At (port_nets_from rules (suc next) xs) m.place n) same m.tied;
            kind = m.kind ∙ ap kind_by (role_after roles m.place);
          }
      by_test (Some value) l f more =
          let m = more next l f in
          record { place = suc m.place; name = m.name; called = m.called; tied = m.tied; kind = m.kind ∙ ap kind_by (role_after roles m.place) }

  pub net_at_port : (names : List (List ℕ)) (roles : List PortRole) (next i : ℕ) (name : List ℕ) → At names i name
      → (n : ℕ) × At (port_nets_from rules next names) i n × HasFlatNet (port_nets_of rules names roles) next n name (slice_get roles i) (supply_of rules name)
  net_at_port [] roles next i name e = absurd (none-some name e)
  net_at_port (x ∷ xs) roles next zero name e =
      subst (λ (y : List ℕ). (n : ℕ) × At (port_nets_from rules next (x ∷ xs)) 0 n × HasFlatNet (port_nets_of rules (x ∷ xs) roles) next n y (slice_get roles 0) (supply_of rules y))
      (same_Some x name e) (first (supply_of rules x) refl)
    where
      first : (o : Option Bool) → supply_of rules x ≡ o → (n : ℕ) × At (numbers_by o next xs) 0 n × HasFlatNet (flats_by o x xs roles) next n x (slice_get roles 0) (supply_of rules x)
      first None h = (next, refl, inr (0, h, (let same : next ≡ next + 0 = omega arith in same), refl))
      first (Some value) h = (cond value 1 0, refl, inl (value, h, refl))
  net_at_port (x ∷ xs) roles next (suc i) name e = later (supply_of rules x) (λ n. net_at_port xs (drop 1 roles) n i name e)
    where
      moved : (flats : List FlatNet) (j : ℕ) → At flats j (record { name = name; kind = kind_by (slice_get (drop 1 roles) i) }) → At flats j (record { name = name; kind = kind_by (slice_get roles (suc i)) })
      moved flats j f = subst (λ (o : Option PortRole). At flats j (record { name = name; kind = kind_by o })) (role_after roles i) f

      later : (o : Option Bool)
          → ((n : ℕ) → (k : ℕ) × At (port_nets_from rules n xs) i k × HasFlatNet (port_nets_of rules xs (drop 1 roles)) n k name (slice_get (drop 1 roles) i) (supply_of rules name))
          → (k : ℕ) × At (numbers_by o next xs) (suc i) k × HasFlatNet (flats_by o x xs roles) next k name (slice_get roles (suc i)) (supply_of rules name)
      later None more =
          let m = more (suc next) in (
            m.0,
            m.1,
            elim m.2 [
              | inl s ↦ inl s
              | inr q ↦
                  let at = q.2 in
                  inr (suc q.0, q.1, omega (arith, at), moved (port_nets_of rules xs (drop 1 roles)) q.0 q.3)
            ],
          )
      later (Some value) more =
          let m = more next in
          (m.0, m.1, elim m.2 [ inl s ↦ inl s | inr q ↦ inr (q.0, q.1, q.2, moved (port_nets_of rules xs (drop 1 roles)) q.0 q.3) ])
