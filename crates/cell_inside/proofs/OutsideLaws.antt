-- What comes from outside changes nothing in a cell, unless some output fights.
use Rattle.std.proofs.Common.{◌≡◌, ℕ, zero, suc, ◌≤◌, ◌<◌, min, ◌⊎◌, Bool, true, false, List, [], ◌∷◌, arith, subst, sym, refl, ◌∙◌, ap, inl, inr}
use Rattle.std.proofs.lemmas.Bool.{cases_Bool, cases_eq, false≢true}
use Rattle.cell_inside.proofs.Copies.{Joined, copied_or_not, copy_joins, joined, source_arrives, source_level_is, source_only, strength_by, touched, touched_from}
use Rattle.cell_inside.proofs.Valued.{cases_le, is_valued, passed_on}
use Rattle.cell_inside.specs.Inside.{HasFight, IsCopy, IsInside, OutsideChangesNothing, Touches}
use Rattle.vrt_model.proofs.Clear.{HopFits, RootFits, arrives-reaches, reaches-arrives}
use Rattle.vrt_model.proofs.Decidable.{reaches_or_not, strength_at, strength_at_is}
use Rattle.vrt_model.proofs.GivenNets.{level_most}
use Rattle.vrt_model.proofs.Laws.{one_strength}
use Rattle.vrt_model.proofs.PathKinds.{Arrives, Keeps, arrives_on, arrives_root}
use Rattle.vrt_model.proofs.Strength.{AtLeast, HopHas, RootHas, strength-at_least}
use Rattle.vrt_model.specs.Networks.{HasLevels}
use Rattle.vrt_model.specs.Path.{Hop, IsOn, IsPath, Network, Root, end_of, level_of}
use Rattle.vrt_model.specs.Response.{IsStrength, Reaches}
use Rattle.vrt_model.specs.declared.circuit.Device.{Device}

-- ---- the cell

module _ (cell circuit : Network) (at : ℕ → ℕ) (inside exposed : ℕ → Bool) (drive : ℕ → ℕ) (p : IsInside cell circuit at inside exposed drive)
    (levels : HasLevels cell) (all_levels : HasLevels circuit) (s t : ℕ → ℕ)
    (strong : (n : ℕ) → IsStrength cell n (s n)) (all_strong : (n : ℕ) → IsStrength circuit n (t n)) where
  -- two nets of the cell that are one in the circuit have the same strength, and are the same, or exposed
  pub record Merged (m n : ℕ) : Type 0 where
    pub inside_too : inside m ≡ true
    pub same : s m ≡ s n
    pub one : (m ≡ n) ⊎ (exposed n ≡ true)

  pub drive_is : (n : ℕ) → exposed n ≡ true → s n ≡ drive n
  drive_is n m = one_strength cell n (s n) (drive n) (strong n) (p.drives n m).0

  pub merged : (d : Device) (m n : ℕ) → IsOn cell d → Touches d m → inside n ≡ true → at m ≡ at n → Merged m n
  merged d m n on touch ins e =
      elim (p.apart d m n on touch ins e) [
        | inl same ↦ record { inside_too = subst (λ (k : ℕ). inside k ≡ true) (sym same) ins; same = ap s same; one = inl same }
        | inr both ↦ record { inside_too = p.exposed_inside m both.0; same = drive_is m both.0 ∙ both.2 ∙ sym (drive_is n both.1); one = inr both.1 }
      ]

  -- ---- strengths

  -- no path of the circuit is above the strength inside
  pub below : (root : Root) (hops : List Hop) → IsPath circuit root hops → (n : ℕ) → inside n ≡ true → end_of root hops ≡ at n → level_of root hops ≤ s n
  below root [] path n ins e =
      let m = p.roots root n path ins e in
      let is = drive_is n m in
      let le = p.not_above root [] n path tt m e in
      omega (arith, is, le)
  below root (hop ∷ hops) path n ins e =
      elim (copied_or_not cell at hop.device) [
        | inr out ↦
            let m = p.devices hop.device n path.1 out ins (subst (Touches hop.device) e (touched hop.device (end_of root hops) hop.to path.2)) in
            let is = drive_is n m in
            let le = p.not_above root (hop ∷ hops) n path out m e in
            omega (arith, is, le)
        | inl own ↦ through (λ m in_m is. below root hops path.0 m in_m is) own.0 own.1 own.2 (joined at own.0 hop.device (end_of root hops) hop.to own.2 path.2)
      ]
    where
      through : ((m : ℕ) → inside m ≡ true → end_of root hops ≡ at m → level_of root hops ≤ s m)
          → (d : Device) → IsOn cell d → IsCopy at d hop.device → Joined at d (end_of root hops) hop.to → level_of root (hop ∷ hops) ≤ s n
      through before d on c j =
          let one = merged d j.to n on (touched d j.from j.to j.joins) ins (j.to_is ∙ e) in
          let same = one.same in
          let level = c.0 in
          let step = passed_on cell s strong d j.from j.to on j.joins in
          elim (p.bounded d j.from on (touched_from d j.from j.to j.joins)) [
            | inl within ↦ let le = before j.from within (sym j.from_is) in omega (arith, le, step, same, level)
            | inr shared ↦
                let full = source_level_is cell levels s strong j.from shared.value shared.alone in
                let most = level_most circuit all_levels root hops path.0 in
                let source = p.source in
                omega (arith, full, most, source, step, same, level)
          ]

  -- a path inside is in the circuit too
  there_too : (l : ℕ) (root : Root) (hops : List Hop) → IsPath cell root hops → Keeps (RootHas l) (HopHas l) root hops → inside (end_of root hops) ≡ true → AtLeast circuit l (at (end_of root hops))
  there_too l root [] path k ins = absurd (p.no_root root path ins)
  there_too l root (hop ∷ hops) path k ins =
      elim (p.bounded hop.device (end_of root hops) path.1 (touched_from hop.device (end_of root hops) hop.to path.2)) [
        | inl within ↦ on (there_too l root hops path.0 k.0 within)
        | inr shared ↦
            let level = shared.above.level in
            let under = levels.devices hop.device path.1 in
            let high = k.1 in
            let source = p.source in
            let le : l ≤ shared.above.root.level = omega (arith, level, under, high, source) in
            on (subst (AtLeast circuit l) shared.above.net (arrives_root circuit (RootHas l) (HopHas l) shared.above.root shared.above.is le))
      ]
    where
      on : AtLeast circuit l (at (end_of root hops)) → AtLeast circuit l (at hop.to)
      on before =
          let e = p.there hop.device path.1 in
          let joins = copy_joins at hop.device e.0 (end_of root hops) hop.to e.2 path.2 in
          let level = e.2.0 in
          let high = k.1 in
          let fits : l ≤ e.0.level = omega (arith, level, high) in
          arrives_on circuit (RootHas l) (HopHas l) (at (end_of root hops)) (at hop.to) e.0 before e.1 joins fits

  -- a net inside has the same strength in both
  pub strength_there : (n : ℕ) → inside n ≡ true → IsStrength circuit (at n) (s n)
  strength_there n ins = strength_by circuit (at n) (s n) (λ root hops path e. below root hops path n ins e) attained
    where
      attained : (s n ≡ 0) ⊎ AtLeast circuit (s n) (at n)
      attained =
          elim (cases_le (s n) 0) [
            | inl none ↦ inl (omega (arith, none))
            | inr some ↦
                let r = strength-at_least cell n (s n) (s n) some (strong n) (omega arith) in
                inr (subst (λ (k : ℕ). AtLeast circuit (s n) (at k)) r.4 (there_too (s n) r.0 r.1 r.2 r.3 (subst (λ (k : ℕ). inside k ≡ true) (sym r.4) ins)))
          ]

  pub table_is : (n : ℕ) → inside n ≡ true → t (at n) ≡ s n
  table_is n ins = one_strength circuit (at n) (t (at n)) (s n) (all_strong (at n)) (strength_there n ins)

  -- ---- what reaches a net

  -- what reaches a net of the cell alone reaches it in the circuit
  reach_there : (v : Bool) (root : Root) (hops : List Hop) → IsPath cell root hops → Keeps (RootFits s v) (HopFits s) root hops → inside (end_of root hops) ≡ true
      → Arrives circuit (RootFits t v) (HopFits t) (at (end_of root hops))
  reach_there v root [] path k ins = absurd (p.no_root root path ins)
  reach_there v root (hop ∷ hops) path k ins =
      elim (p.bounded hop.device (end_of root hops) path.1 (touched_from hop.device (end_of root hops) hop.to path.2)) [
        | inl within ↦ on (reach_there v root hops path.0 k.0 within) (table_is (end_of root hops) within)
        | inr shared ↦
            let value = source_only cell levels s strong (end_of root hops) shared.value shared.alone v root hops path.0 k.0 refl in
            let full = source_level_is cell levels s strong (end_of root hops) shared.value shared.alone in
            let high = source_level_is circuit all_levels t all_strong (at (end_of root hops)) shared.value shared.above in
            on (subst (λ (u : Bool). Arrives circuit (RootFits t u) (HopFits t) (at (end_of root hops))) (sym value)
            (source_arrives circuit all_levels t all_strong (at (end_of root hops)) shared.value shared.above))
            (high ∙ sym p.source ∙ sym full)
      ]
    where
      on : Arrives circuit (RootFits t v) (HopFits t) (at (end_of root hops)) → t (at (end_of root hops)) ≡ s (end_of root hops) → Arrives circuit (RootFits t v) (HopFits t) (at hop.to)
      on before same =
          let e = p.there hop.device path.1 in
          let joins = copy_joins at hop.device e.0 (end_of root hops) hop.to e.2 path.2 in
          let level = e.2.0 in
          let here = table_is hop.to ins in
          let step = k.1 in
          let fits : min (t (at (end_of root hops))) e.0.level ≡ t (at hop.to) = omega (arith, level, same, here, step) in
          arrives_on circuit (RootFits t v) (HopFits t) (at (end_of root hops)) (at hop.to) e.0 before e.1 joins fits

  pub reaches_there : (v : Bool) (n : ℕ) → inside n ≡ true → Reaches cell n v → Reaches circuit (at n) v
  reaches_there v n ins r =
      let a = reaches-arrives cell s strong v n r in
      arrives-reaches circuit t all_strong v (at n)
      (subst (λ (k : ℕ). Arrives circuit (RootFits t v) (HopFits t) (at k)) a.4 (reach_there v a.0 a.1 a.2 a.3 (subst (λ (k : ℕ). inside k ≡ true) (sym a.4) ins)))

  module _ (top : ℕ) (most : (n : ℕ) → s n ≤ top) (or_not : (n : ℕ) (v : Bool) → Reaches cell n v ⊎ (¬ Reaches cell n v)) where
    -- what reaches an exposed net reaches it in the cell alone too, unless it fights
    settled : (v : Bool) (n : ℕ) → exposed n ≡ true → Reaches circuit (at n) v → Reaches cell n v ⊎ HasFight circuit at exposed
    settled v n m r =
        elim (or_not n v) [
          | inl alone ↦ inl alone
          | inr none ↦
              let is = drive_is n m in
              let pos = (p.drives n m).1 in
              let some = is_valued cell s strong top most n (omega (arith, is, pos)) in
              let other = arrives-reaches cell s strong some.0 n some.1 in
              inr (both v some.0 r (reaches_there some.0 n (p.exposed_inside n m) other) (λ same. none (subst (Reaches cell n) (sym same) other)))
        ]
      where
        both : (u x : Bool) → Reaches circuit (at n) u → Reaches circuit (at n) x → (u ≡ x → ⊥) → HasFight circuit at exposed
        both true false ru rx differ = (n, m, ru, rx)
        both false true ru rx differ = (n, m, rx, ru)
        both true true ru rx differ = absurd (differ refl)
        both false false ru rx differ = absurd (differ refl)

    -- what reaches a net of the cell in the circuit reaches it in the cell alone, unless an output fights
    reach_back : (v : Bool) (root : Root) (hops : List Hop) → IsPath circuit root hops → Keeps (RootFits t v) (HopFits t) root hops
        → (n : ℕ) → inside n ≡ true → end_of root hops ≡ at n → Reaches cell n v ⊎ HasFight circuit at exposed
    reach_back v root [] path k n ins e = settled v n (p.roots root n path ins e) (arrives-reaches circuit t all_strong v (at n) (root, [], path, k, e))
    reach_back v root (hop ∷ hops) path k n ins e =
        elim (copied_or_not cell at hop.device) [
          | inr out ↦
              settled v n (p.devices hop.device n path.1 out ins (subst (Touches hop.device) e (touched hop.device (end_of root hops) hop.to path.2))) here
          | inl own ↦ through (λ m in_m is. reach_back v root hops path.0 k.0 m in_m is) own.0 own.1 own.2 (joined at own.0 hop.device (end_of root hops) hop.to own.2 path.2)
        ]
      where
        here : Reaches circuit (at n) v
        here = arrives-reaches circuit t all_strong v (at n) (root, hop ∷ hops, path, k, e)

        onward : (d : Device) → IsOn cell d → IsCopy at d hop.device → (j : Joined at d (end_of root hops) hop.to) → j.to ≡ n → Arrives cell (RootFits s v) (HopFits s) j.from → s j.from ≡ t (at j.from) → Reaches cell n v
        onward d on c j same before from_same =
            let level = c.0 in
            let to_same : t hop.to ≡ s j.to = ap t (sym j.to_is) ∙ table_is j.to (subst (λ (k : ℕ). inside k ≡ true) (sym same) ins) in
            let start : t (end_of root hops) ≡ s j.from = ap t (sym j.from_is) ∙ sym from_same in
            let step = k.1 in
            let fits : min (s j.from) d.level ≡ s j.to = omega (arith, level, to_same, start, step) in
            arrives-reaches cell s strong v n (subst (Arrives cell (RootFits s v) (HopFits s)) same (arrives_on cell (RootFits s v) (HopFits s) j.from j.to d before on j.joins fits))

        through : ((m : ℕ) → inside m ≡ true → end_of root hops ≡ at m → Reaches cell m v ⊎ HasFight circuit at exposed)
            → (d : Device) → IsOn cell d → IsCopy at d hop.device → Joined at d (end_of root hops) hop.to → Reaches cell n v ⊎ HasFight circuit at exposed
        through before d on c j =
            let one = merged d j.to n on (touched d j.from j.to j.joins) ins (j.to_is ∙ e) in
            elim one.one [
              | inr m ↦ settled v n m here
              | inl same ↦
                  elim (p.bounded d j.from on (touched_from d j.from j.to j.joins)) [
                    | inl within ↦
                        elim (before j.from within (sym j.from_is)) [
                          | inr fight ↦ inr fight
                          | inl r ↦ inl (onward d on c j same (reaches-arrives cell s strong v j.from r) (sym (table_is j.from within)))
                        ]
                    | inr shared ↦
                        let value = source_only circuit all_levels t all_strong (at j.from) shared.value shared.above v root hops path.0 k.0 (sym j.from_is) in
                        let full = source_level_is cell levels s strong j.from shared.value shared.alone in
                        let high = source_level_is circuit all_levels t all_strong (at j.from) shared.value shared.above in
                        inl (onward d on c j same (subst (λ (u : Bool). Arrives cell (RootFits s u) (HopFits s) j.from) (sym value) (source_arrives cell levels s strong j.from shared.value shared.alone))
                        (full ∙ p.source ∙ sym high))
                  ]
            ]

    pub reaches_back : (v : Bool) (n : ℕ) → inside n ≡ true → Reaches circuit (at n) v → Reaches cell n v ⊎ HasFight circuit at exposed
    reaches_back v n ins r =
        let a = reaches-arrives circuit t all_strong v (at n) r in
        reach_back v a.0 a.1 a.2 a.3 n ins a.4

-- ---- the law

-- whether some output fights
pub fights : (circuit : Network) (at : ℕ → ℕ) (exposed : ℕ → Bool) → ((n : ℕ) (v : Bool) → Reaches circuit n v ⊎ (¬ Reaches circuit n v))
    → (count : ℕ) → HasFight circuit at exposed ⊎ ((n : ℕ) → n < count → exposed n ≡ true → Reaches circuit (at n) true → Reaches circuit (at n) false → ⊥)
fights circuit at exposed or_not zero = inr (λ n lt. absurd (omega (arith, lt)))
fights circuit at exposed or_not (suc count) =
    elim (fights circuit at exposed or_not count) [
      | inl fight ↦ inl fight
      | inr none ↦ elim (cases_Bool (exposed count)) [
        | inr out ↦ inr (last none (λ m high low. false≢true (sym out ∙ m)))
        | inl m ↦ elim (or_not (at count) true) [
          | inr dark ↦ inr (last none (λ m high low. dark high))
          | inl high ↦ elim (or_not (at count) false) [ inr light ↦ inr (last none (λ m high low. light low)) | inl low ↦ inl (count, m, high, low) ]
        ]
      ]
    ]
  where
    last : ((n : ℕ) → n < count → exposed n ≡ true → Reaches circuit (at n) true → Reaches circuit (at n) false → ⊥)
        → (exposed count ≡ true → Reaches circuit (at count) true → Reaches circuit (at count) false → ⊥)
        → (n : ℕ) → n < suc count → exposed n ≡ true → Reaches circuit (at n) true → Reaches circuit (at n) false → ⊥
    last below here n lt =
        elim (cases_eq n count) [
          | inl e ↦ subst (λ (k : ℕ). exposed k ≡ true → Reaches circuit (at k) true → Reaches circuit (at k) false → ⊥) (sym e) here
          | inr apart ↦ below n (omega (arith, lt, apart))
        ]

pub outside_changes_nothing : OutsideChangesNothing
outside_changes_nothing cell circuit at inside exposed drive nets all_nets levels all_levels finite all_finite within p = (
  λ n x ins. (
    λ h. subst (IsStrength circuit (at n)) (one_strength cell n (s n) x (strong n) h) (strength_there cell circuit at inside exposed drive p levels all_levels s t strong all_strong n ins),
    λ h. subst (IsStrength cell n) (one_strength circuit (at n) (s n) x (strength_there cell circuit at inside exposed drive p levels all_levels s t strong all_strong n ins) h) (strong n),
  ),
  λ n v ins. reaches_there cell circuit at inside exposed drive p levels all_levels s t strong all_strong v n ins,
  elim (fights circuit at exposed (reaches_or_not circuit all_nets circuit.source all_finite) nets) [
    | inl fight ↦ inl fight
    | inr none ↦ inr (λ n v ins. (
      reaches_there cell circuit at inside exposed drive p levels all_levels s t strong all_strong v n ins,
      λ r. elim (reaches_back cell circuit at inside exposed drive p levels all_levels s t strong all_strong cell.source most (reaches_or_not cell nets cell.source finite) v n ins r) [
        | inl alone ↦ alone
        | inr fight ↦ absurd (none fight.0 (within fight.0 fight.1) fight.1 fight.2 fight.3)
      ],
    ))
  ],
)
  where
    s : ℕ → ℕ
    s = strength_at cell nets cell.source finite

    strong : (n : ℕ) → IsStrength cell n (s n)
    strong = strength_at_is cell nets cell.source finite

    t : ℕ → ℕ
    t = strength_at circuit all_nets circuit.source all_finite

    all_strong : (n : ℕ) → IsStrength circuit n (t n)
    all_strong = strength_at_is circuit all_nets circuit.source all_finite

    most : (n : ℕ) → s n ≤ cell.source
    most n =
        elim (strong n).1 [
          | inl none ↦ omega (arith, none)
          | inr some ↦ let is = some.4 in let le = level_most cell levels some.0 some.1 some.2 in omega (arith, is, le)
        ]
