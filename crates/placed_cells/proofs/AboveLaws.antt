-- The nets of a cell alone in a larger netlist: ports where they are tied, own nets at a distance, and apart.
use Rattle.std.proofs.Common.{◌≡◌, ◌<◌, ◌≤◌, ◌+◌, ◌-◌, ◌∷◌, ◌⊎◌, [], ℕ, zero, suc, not, cond, List, Bool, true, false, map, length, Option, Some, None, refl, ap, ap₂, sym, ◌∙◌, subst, arith, inl, inr}
use Rattle.std.specs.Prelude.{filter, is_none, nat_lt, option_map, unwrap_or, ◌==◌}
use Rattle.std.proofs.lemmas.Bool.{cases_eq, cases_lt, eq-eqb, eqb-true, false≢true, ne_eqb}
use Rattle.std.proofs.lemmas.Bool.Decides.{nat_tests}
use Rattle.std.proofs.lemmas.Option.{none-some, same_Some}
use Rattle.cell_inside.proofs.ShiftedPlaces.{among_name}
use Rattle.cell_inside.specs.Shifted.{NamesNoGlobal, top_alone}
use Rattle.placed_cells.proofs.SplitLaws.{port_below}
use Rattle.placed_cells.specs.Above.{InstancesAreShifted, IsTied, NetsAboveAreApart, net_above, place_alone, port_above}
use Rattle.placed_cells.specs.Rows.{size_inside}
use Rattle.placed_cells.specs.Splits.{IsOutsideOf, IsSplit}
use Rattle.vrt_model.proofs.Lists.{filter_among_same, filter_none, map_same}
use Rattle.vrt_model.proofs.Members.{among_later}
use Rattle.vrt_model.specs.CellRules.{supply_of}
use Rattle.vrt_model.specs.Comparison.{cell_at, port_nets_from}
use Rattle.vrt_model.specs.Lists.{Among}
use Rattle.vrt_model.specs.Unrolled.{Place, Top, deepest, global_nets, globals_of, names_global}
use Rattle.vrt_model.specs.Unsupported.{is_tied_apart}
use Rattle.vrt_model.specs.declared.rules.Rules.{Rules}

-- ---- ports

module _ (rules : Rules) where
  -- the net of a port, which is a supply or the next one
  abbrev with_port : Option Bool → ℕ → List ℕ → List ℕ → List ℕ
  with_port o next plain nets = elim o [ None ↦ next ∷ plain | Some value ↦ cond value 1 0 ∷ nets ]

  -- a port and those behind it are tied to their supplies
  abbrev is_apart_at : Option Bool → ℕ → Bool → Bool
  is_apart_at o tie rest = cond (unwrap_or (option_map (λ (value : Bool). not (tie == cond value 1 0)) o) false) true rest

  abbrev ports_from : ℕ → List (List ℕ) → List ℕ
  ports_from next names = port_nets_from rules next names

  low_supply : (value : Bool) → cond value 1 0 < 2
  low_supply true = omega arith
  low_supply false = omega arith

  -- no supply is tied apart
  rest_tied : (o : Option Bool) (tie : ℕ) (rest : Bool) → is_apart_at o tie rest ≡ false → rest ≡ false
  rest_tied None tie rest e = e
  rest_tied (Some value) tie rest e = by_test (tie == cond value 1 0) e
    where
      by_test : (b : Bool) → cond (not b) true rest ≡ false → rest ≡ false
      by_test true e = e
      by_test false e = absurd (false≢true (sym e))

  supply_tied : (value : Bool) (tie : ℕ) (rest : Bool) → is_apart_at (Some value) tie rest ≡ false → tie ≡ cond value 1 0
  supply_tied value tie rest e = by_test (tie == cond value 1 0) refl e
    where
      by_test : (b : Bool) → (tie == cond value 1 0) ≡ b → cond (not b) true rest ≡ false → tie ≡ cond value 1 0
      by_test true same e = eqb-true tie (cond value 1 0) same
      by_test false same e = absurd (false≢true (sym e))

  -- a supply stays
  low_above : (next : ℕ) (names : List (List ℕ)) (ties : List ℕ) (n : ℕ) → 2 ≤ next → n < 2 → is_tied_apart rules names ties ≡ false → port_above (ports_from next names) ties n ≡ n
  low_above next [] ties n large small tied = refl
  low_above next (x ∷ names) [] n large small tied = by_supply (supply_of rules x)
    where
      by_supply : (o : Option Bool) → port_above (with_port o next (ports_from (suc next) names) (ports_from next names)) [] n ≡ n
      by_supply None = refl
      by_supply (Some value) = refl
  low_above next (x ∷ names) (tie ∷ ties) n large small tied =
      by_supply (supply_of rules x) tied (λ k more h. low_above k names ties n more small h)
    where
      by_supply : (o : Option Bool) → is_apart_at o tie (is_tied_apart rules names ties) ≡ false
          → ((k : ℕ) → 2 ≤ k → is_tied_apart rules names ties ≡ false → port_above (ports_from k names) ties n ≡ n)
          → port_above (with_port o next (ports_from (suc next) names) (ports_from next names)) (tie ∷ ties) n ≡ n
      by_supply None h rest =
          ap (λ (b : Bool). cond b tie (port_above (ports_from (suc next) names) ties n)) (ne_eqb n next (λ e. absurd (omega (arith, e, small, large))))
          ∙ rest (suc next) (omega (arith, large)) (rest_tied None tie (is_tied_apart rules names ties) h)
      by_supply (Some value) h rest =
          either (n == cond value 1 0) refl (supply_tied value tie (is_tied_apart rules names ties) h) (rest next large (rest_tied (Some value) tie (is_tied_apart rules names ties) h))
        where
          either : (b : Bool) → (n == cond value 1 0) ≡ b → tie ≡ cond value 1 0 → port_above (ports_from next names) ties n ≡ n
              → cond b tie (port_above (ports_from next names) ties n) ≡ n
          either true same is rest = is ∙ sym (eqb-true n (cond value 1 0) same)
          either false same is rest = rest

  -- the nets of ports are supplies, or behind them
  port_range : (next : ℕ) (names : List (List ℕ)) (n : ℕ) → Among (ports_from next names) n → (n < 2) ⊎ (next ≤ n)
  port_range next [] n m = absurd (none-some n m.1)
  port_range next (x ∷ names) n m = by_supply (supply_of rules x) (λ k on. port_range k names n on) m
    where
      by_supply : (o : Option Bool) → ((k : ℕ) → Among (ports_from k names) n → (n < 2) ⊎ (k ≤ n)) → Among (with_port o next (ports_from (suc next) names) (ports_from next names)) n
          → (n < 2) ⊎ (next ≤ n)
      by_supply None rest (zero, e) = inr (let same = same_Some next n e in omega (arith, same))
      by_supply None rest (suc i, e) = elim (rest (suc next) (i, e)) [ inl lt ↦ inl lt | inr le ↦ inr (omega (arith, le)) ]
      by_supply (Some value) rest (zero, e) = inl (let same = same_Some (cond value 1 0) n e in let low = low_supply value in omega (arith, same, low))
      by_supply (Some value) rest (suc i, e) = rest next (i, e)

  -- the nets of ports are at the nets to which they are tied
  ports_above : (next : ℕ) (names : List (List ℕ)) (ties : List ℕ) → 2 ≤ next → length ties ≡ length names → is_tied_apart rules names ties ≡ false
      → ties ≡ map (port_above (ports_from next names) ties) (ports_from next names)
  ports_above next [] [] large count tied = refl
  ports_above next [] (tie ∷ ties) large count tied = absurd (omega (arith, count))
  ports_above next (x ∷ names) [] large count tied = absurd (omega (arith, count))
  ports_above next (x ∷ names) (tie ∷ ties) large count tied =
      by_supply (supply_of rules x) tied (λ k more h. ports_above k names ties more (omega (arith, count)) h)
    where
      by_supply : (o : Option Bool) → is_apart_at o tie (is_tied_apart rules names ties) ≡ false
          → ((k : ℕ) → 2 ≤ k → is_tied_apart rules names ties ≡ false → ties ≡ map (port_above (ports_from k names) ties) (ports_from k names))
          → (tie ∷ ties) ≡ map (port_above (with_port o next (ports_from (suc next) names) (ports_from next names)) (tie ∷ ties)) (with_port o next (ports_from (suc next) names) (ports_from next names))
      by_supply None h rest =
          let nets = ports_from (suc next) names in
          ap₂ (λ (n : ℕ) (ns : List ℕ). n ∷ ns) (ap (λ (b : Bool). cond b tie (port_above nets ties next)) (sym (eq-eqb next next refl)))
          (rest (suc next) (omega (arith, large)) (rest_tied None tie (is_tied_apart rules names ties) h)
          ∙ map_same (port_above nets ties) (port_above (next ∷ nets) (tie ∷ ties)) nets
          (λ i n e. ap (λ (b : Bool). cond b tie (port_above nets ties n)) (sym (ne_eqb n next (other n (port_range (suc next) names n (i, e)))))))
        where
          other : (n : ℕ) → (n < 2) ⊎ (suc next ≤ n) → n ≡ next → ⊥
          other n (inl lt) same = absurd (omega (arith, lt, same, large))
          other n (inr le) same = absurd (omega (arith, le, same))
      by_supply (Some value) h rest =
          let nets = ports_from next names in
          let more = rest_tied (Some value) tie (is_tied_apart rules names ties) h in
          let is = supply_tied value tie (is_tied_apart rules names ties) h in
          ap₂ (λ (n : ℕ) (ns : List ℕ). n ∷ ns) (ap (λ (b : Bool). cond b tie (port_above nets ties (cond value 1 0))) (sym (eq-eqb (cond value 1 0) (cond value 1 0) refl)))
          (rest next large more
          ∙ map_same (port_above nets ties) (port_above (cond value 1 0 ∷ nets) (tie ∷ ties)) nets (λ i n e. either n (n == cond value 1 0) refl is more))
        where
          either : (n : ℕ) (b : Bool) → (n == cond value 1 0) ≡ b → tie ≡ cond value 1 0 → is_tied_apart rules names ties ≡ false
              → port_above (ports_from next names) ties n ≡ cond b tie (port_above (ports_from next names) ties n)
          either n true same is more =
              let low = low_supply value in
              let net = eqb-true n (cond value 1 0) same in
              low_above next names ties n large (omega (arith, low, net)) more ∙ net ∙ sym is
          either n false same is more = refl

  -- the net of each port that is no supply is at a net to which a port is tied
  above_among : (next : ℕ) (names : List (List ℕ)) (ties : List ℕ) (n : ℕ) → 2 ≤ next → length ties ≡ length names → next ≤ n
      → n < next + length (filter (λ (name : List ℕ). is_none (supply_of rules name)) names) → Among ties (port_above (ports_from next names) ties n)
  above_among next [] ties n large count le lt = absurd (omega (arith, le, lt))
  above_among next (x ∷ names) [] n large count le lt = absurd (omega (arith, count))
  above_among next (x ∷ names) (tie ∷ ties) n large count le lt =
      by_supply (supply_of rules x) lt (λ k more least most. above_among k names ties n more (omega (arith, count)) least most)
    where
      by_supply : (o : Option Bool) → n < next + length (cond (is_none o) (x ∷ filter (λ (name : List ℕ). is_none (supply_of rules name)) names) (filter (λ (name : List ℕ). is_none (supply_of rules name)) names))
          → ((k : ℕ) → 2 ≤ k → k ≤ n → n < k + length (filter (λ (name : List ℕ). is_none (supply_of rules name)) names) → Among ties (port_above (ports_from k names) ties n))
          → Among (tie ∷ ties) (port_above (with_port o next (ports_from (suc next) names) (ports_from next names)) (tie ∷ ties) n)
      by_supply None most rest =
          elim (cases_eq n next) [
            | inl same ↦ (0, ap (λ (b : Bool). Some (cond b tie (port_above (ports_from (suc next) names) ties n))) (sym (eq-eqb n next same)))
            | inr other ↦
                subst (λ (b : Bool). Among (tie ∷ ties) (cond b tie (port_above (ports_from (suc next) names) ties n))) (sym (ne_eqb n next other))
                (among_later tie ties _ (rest (suc next) (omega (arith, large)) (omega (arith, le, other)) (omega (arith, most))))
          ]
      by_supply (Some value) most rest =
          let low = low_supply value in
          subst (λ (b : Bool). Among (tie ∷ ties) (cond b tie (port_above (ports_from next names) ties n))) (sym (ne_eqb n (cond value 1 0) (λ e. absurd (omega (arith, e, low, le, large)))))
          (among_later tie ties _ (rest next large le most))

-- ---- an instance

module _ (t : Top) (p : Place) where
  abbrev pub base : ℕ
  base = (place_alone t p).base

  pub net_low : (n : ℕ) → n < base → net_above t p n ≡ port_above (place_alone t p).ports p.ports n
  net_low n lt = let test : nat_lt n base ≡ true = grind (arith, nat_tests, lt) in ap (λ (b : Bool). cond b (port_above (place_alone t p).ports p.ports n) (p.base + (n - base))) test

  pub net_high : (n : ℕ) → base ≤ n → net_above t p n ≡ p.base + (n - base)
  net_high n le = let test : nat_lt n base ≡ false = grind (arith, nat_tests, le) in ap (λ (b : Bool). cond b (port_above (place_alone t p).ports p.ports n) (p.base + (n - base))) test

  pub supply_above : IsTied t p → (n : ℕ) → n < 2 → net_above t p n ≡ n
  supply_above tied n lt = net_low n (omega (arith, lt)) ∙ low_above t.rules 2 (cell_at t.design p.cell).ports p.ports n (omega arith) lt tied.supplies

  own_above : (n : ℕ) → p.base + n ≡ net_above t p (base + n)
  own_above n = let is : p.base + n ≡ p.base + ((base + n) - base) = omega arith in is ∙ sym (net_high (base + n) (omega arith))

  tied_above : IsTied t p → p.ports ≡ map (net_above t p) (place_alone t p).ports
  tied_above tied =
      ports_above t.rules 2 (cell_at t.design p.cell).ports p.ports (omega arith) tied.each tied.supplies
      ∙ map_same (port_above (place_alone t p).ports p.ports) (net_above t p) (place_alone t p).ports
      (λ i n e. let lt = port_below t.rules 2 (cell_at t.design p.cell).ports n (omega arith) (i, e) in sym (net_low n (omega (arith, lt))))

  -- where the cell names no global net, it has none
  pub no_globals : NamesNoGlobal t deepest p.cell → globals_of (top_alone t p.cell []) ≡ []
  unfolding global_nets
  no_globals none =
      filter_among_same (names_global t.design t.rules deepest (cell_at t.design p.cell)) (λ name. false) t.design.globals (λ name m. none name (among_name t.design.globals name m))
      ∙ filter_none (λ (name : List ℕ). false) t.design.globals (λ name. refl)

  -- its ports and supplies are nets outside
  module _ (number depth : ℕ) (before behind : List Place) (split : IsSplit t number p depth before behind) (tied : IsTied t p) (none : NamesNoGlobal t deepest p.cell) where
    pub port_outside : (n : ℕ) → n < base → IsOutsideOf t depth p (net_above t p n)
    port_outside n lt =
        elim (cases_lt n 2) [
          | inl low ↦ let is = supply_above tied n low in let first = split.first in inl (omega (arith, is, first, low))
          | inr high ↦
              let count = ap (λ (names : List (List ℕ)). length names) (no_globals none) in
              subst (IsOutsideOf t depth p) (sym (net_low n lt))
              (split.ports (port_above (place_alone t p).ports p.ports n) (above_among t.rules 2 (cell_at t.design p.cell).ports p.ports n (omega arith) tied.each high (omega (arith, lt, count))))
        ]

    -- its own nets are not
    own_apart : (m n : ℕ) → base ≤ m → m < base + size_inside t depth p.cell → n < base → net_above t p m ≡ net_above t p n → ⊥
    own_apart m n le most lt same =
        let is = net_high m le in
        elim (port_outside n lt) [
          | inl low ↦ absurd (omega (arith, is, same, low))
          | inr high ↦ absurd (omega (arith, is, same, high, le, most))
        ]

    pub nets_apart : (m n : ℕ) → m < base + size_inside t depth p.cell → n < base + size_inside t depth p.cell → net_above t p m ≡ net_above t p n
        → (m ≡ n) ⊎ ((m < base) × (n < base))
    nets_apart m n most last same =
        elim (cases_lt m base) [
          | inl small ↦ elim (cases_lt n base) [ inl low ↦ inr (small, low) | inr high ↦ absurd (own_apart n m high last small (sym same)) ]
          | inr large ↦ elim (cases_lt n base) [
            | inl low ↦ absurd (own_apart m n large most low same)
            | inr high ↦ let a = net_high m large in let b = net_high n high in inl (omega (arith, a, b, same, large, high))
          ]
        ]

-- ---- the laws

pub instances_are_shifted : InstancesAreShifted
instances_are_shifted t roles p tied = (
  record { cell = refl; path = refl; ports = tied_above t p tied; base = own_above t p },
  supply_above t p tied 0 (omega arith),
  supply_above t p tied 1 (omega arith),
)

pub nets_above_are_apart : NetsAboveAreApart
nets_above_are_apart t number p depth before behind m n split tied none most last same = nets_apart t p number depth before behind split tied none m n most last same
