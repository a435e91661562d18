-- Roots stand for a cell in a circuit: strengths are the same, and values where no exposed output fights or the cell joins no two.
use Rattle.std.proofs.Common.{◌≡◌, ℕ, ◌≤◌, min, ◌⊎◌, Bool, true, false, List, [], ◌∷◌, arith, subst, sym, refl, ◌∙◌, ap, inl, inr}
use Rattle.cell_inside.proofs.Copies.{Joined, copied_or_not, copy_joins, joined, source_arrives, source_level_is, source_only, touched, touched_from}
use Rattle.cell_inside.proofs.OutsideLaws.{below, drive_is, fights, merged, reaches_there, table_is}
use Rattle.cell_inside.proofs.Valued.{passed_on}
use Rattle.cell_inside.specs.Inside.{HasFight, IsCopy, IsInside, IsOutside, IsShared, Touches}
use Rattle.cell_inside.specs.Replaced.{AreUnjoined, FightsBeside, IsReplaced, WholeStandsForCell, WholeStandsForUnjoinedOutputs, drive_root, itself, onward, root_at}
use Rattle.vrt_model.proofs.Clear.{HopFits, RootFits, arrives-reaches, keeps-level_is, reaches-arrives}
use Rattle.vrt_model.proofs.Decidable.{reaches_or_not, strength_at, strength_at_is}
use Rattle.vrt_model.proofs.GivenNets.{level_after, level_most}
use Rattle.vrt_model.proofs.Laws.{one_strength}
use Rattle.vrt_model.proofs.PathKinds.{Arrives, Keeps, arrives_on, arrives_root}
use Rattle.vrt_model.specs.Networks.{HasLevels}
use Rattle.vrt_model.specs.Path.{Hop, IsOn, IsPath, Joins, Network, Root, end_of, level_of}
use Rattle.vrt_model.specs.Response.{IsStrength, Reaches}
use Rattle.vrt_model.specs.declared.circuit.Device.{Device}

module _ (cell circuit whole : Network) (at moved : ℕ → ℕ) (inside exposed compared : ℕ → Bool) (drive : ℕ → ℕ) (value : ℕ → Bool)
    (p : IsInside cell circuit at inside exposed drive) (r : IsReplaced cell circuit whole at moved inside exposed compared drive value)
    (levels : HasLevels cell) (all_levels : HasLevels circuit) (s t u : ℕ → ℕ)
    (strong : (n : ℕ) → IsStrength cell n (s n)) (all_strong : (n : ℕ) → IsStrength circuit n (t n)) (whole_strong : (n : ℕ) → IsStrength whole n (u n)) where
  -- the strengths in the circuit and in the cell are the same
  same_inside : (n : ℕ) → inside n ≡ true → t (at n) ≡ s n
  same_inside n ins = table_is cell circuit at inside exposed drive p levels all_levels s t strong all_strong n ins

  -- an exposed output has at least its drive
  drive_below : (n : ℕ) → exposed n ≡ true → drive n ≤ u (moved (at n))
  drive_below n m = (whole_strong (moved (at n))).0 (drive_root (moved (at n)) (drive n) (value n)) [] (r.drives_there n m) refl

  -- no path of the circuit is above the strength with the cell whole
  under : (root : Root) (hops : List Hop) → IsPath circuit root hops → (k : ℕ) → compared k ≡ true → end_of root hops ≡ k → level_of root hops ≤ u (moved k)
  under root [] path k is e =
      let there = r.roots_there root path (subst (λ (x : ℕ). compared x ≡ true) (sym e) is) in
      subst (λ (x : ℕ). root.level ≤ u (moved x)) e ((whole_strong (moved root.net)).0 (root_at (moved root.net) root) [] there refl)
  under root (hop ∷ hops) path k is e =
      elim (copied_or_not cell at hop.device) [
        | inr out ↦
            let from = r.ends hop.device (end_of root hops) path.1 out (touched_from hop.device (end_of root hops) hop.to path.2) in
            let f = r.devices_there hop.device path.1 out in
            let joins = copy_joins moved hop.device f.0 (end_of root hops) hop.to f.2 path.2 in
            let step = passed_on whole u whole_strong f.0 (moved (end_of root hops)) (moved hop.to) f.1 joins in
            let before = under root hops path.0 (end_of root hops) from refl in
            let level = f.2.0 in
            let here : u (moved hop.to) ≡ u (moved k) = ap (λ (x : ℕ). u (moved x)) e in
            omega (arith, step, before, level, here)
        | inl own ↦ through own.0 own.1 own.2 (joined at own.0 hop.device (end_of root hops) hop.to own.2 path.2)
      ]
    where
      through : (d : Device) → IsOn cell d → IsCopy at d hop.device → Joined at d (end_of root hops) hop.to → level_of root (hop ∷ hops) ≤ u (moved k)
      through d on c j =
          elim (p.bounded d j.to on (touched d j.from j.to j.joins)) [
            | inl ins ↦
                let m = r.inside_compared j.to ins (subst (λ (x : ℕ). compared x ≡ true) (sym (j.to_is ∙ e)) is) in
                let low = below cell circuit at inside exposed drive p levels all_levels s t strong all_strong root (hop ∷ hops) path j.to ins (sym j.to_is) in
                let same = drive_is cell circuit at inside exposed drive p levels all_levels s t strong all_strong j.to m in
                let high = drive_below j.to m in
                let here : u (moved (at j.to)) ≡ u (moved k) = ap (λ (x : ℕ). u (moved x)) (j.to_is ∙ e) in
                omega (arith, low, same, high, here)
            | inr shared ↦
                let net : shared.above.root.net ≡ k = shared.above.net ∙ j.to_is ∙ e in
                let there = r.roots_there shared.above.root shared.above.is (subst (λ (x : ℕ). compared x ≡ true) (sym net) is) in
                let high = (whole_strong (moved shared.above.root.net)).0 (root_at (moved shared.above.root.net) shared.above.root) [] there refl in
                let here : u (moved shared.above.root.net) ≡ u (moved k) = ap (λ (x : ℕ). u (moved x)) net in
                let full = shared.above.level in
                let most = level_most circuit all_levels root (hop ∷ hops) path in
                omega (arith, high, here, full, most)
          ]

  -- a path with the cell whole is no stronger than the strength in the circuit
  over : (root : Root) (hops : List Hop) → IsPath whole root hops → (k : ℕ) → compared k ≡ true → end_of root hops ≡ moved k → level_of root hops ≤ t k
  over root [] path k is e =
      elim (r.roots_back root k path is e) [
        | inl old ↦ (all_strong k).0 (root_at k root) [] old refl
        | inr new ↦
            let same = same_inside new.0 (p.exposed_inside new.0 new.1) in
            let own = drive_is cell circuit at inside exposed drive p levels all_levels s t strong all_strong new.0 new.1 in
            let here : t (at new.0) ≡ t k = ap t new.2 in
            let level = new.3 in
            omega (arith, same, own, here, level)
      ]
  over root (hop ∷ hops) path k is e =
      let old = r.devices_back hop.device path.1 in
      let j = joined moved old.0 hop.device (end_of root hops) hop.to old.2 path.2 in
      let to = old.3 j.to (touched old.0 j.from j.to j.joins) in
      let from = old.3 j.from (touched_from old.0 j.from j.to j.joins) in
      let same : j.to ≡ k = r.moved_apart j.to k to is (j.to_is ∙ e) in
      let before = over root hops path.0 j.from from (sym j.from_is) in
      let step = passed_on circuit t all_strong old.0 j.from j.to old.1 j.joins in
      let level = old.2.0 in
      let here : t j.to ≡ t k = ap t same in
      omega (arith, before, step, level, here)

  strengths_same : (k : ℕ) → compared k ≡ true → t k ≡ u (moved k)
  strengths_same k is =
      let low : t k ≤ u (moved k) =
      elim (all_strong k).1 [
        | inl none ↦ omega (arith, none)
        | inr some ↦ let le = under some.0 some.1 some.2 k is some.3 in let at_level = some.4 in omega (arith, le, at_level)
      ] in
      let high : u (moved k) ≤ t k =
      elim (whole_strong (moved k)).1 [
        | inl none ↦ omega (arith, none)
        | inr some ↦ let le = over some.0 some.1 some.2 k is some.3 in let at_level = some.4 in omega (arith, le, at_level)
      ] in
      omega (arith, low, high)

  pub strength_moved : (k : ℕ) → compared k ≡ true → IsStrength whole (moved k) (t k)
  strength_moved k is = subst (IsStrength whole (moved k)) (sym (strengths_same k is)) (whole_strong (moved k))

  -- what the cell alone gives an output reaches it with the cell whole
  driven : (n : ℕ) → exposed n ≡ true → Arrives whole (RootFits u (value n)) (HopFits u) (moved (at n))
  driven n m =
      let same = same_inside n (p.exposed_inside n m) in
      let own = drive_is cell circuit at inside exposed drive p levels all_levels s t strong all_strong n m in
      let kept_same = strengths_same (at n) (r.exposed_compared n m) in
      let fits : drive n ≡ u (moved (at n)) = omega (arith, same, own, kept_same) in
      arrives_root whole (RootFits u (value n)) (HopFits u) (drive_root (moved (at n)) (drive n) (value n)) (r.drives_there n m) (fits, refl)

  -- what reaches a net with the cell whole reaches it in the circuit
  back : (v : Bool) (root : Root) (hops : List Hop) → IsPath whole root hops → Keeps (RootFits u v) (HopFits u) root hops
      → (k : ℕ) → compared k ≡ true → end_of root hops ≡ moved k → Arrives circuit (RootFits t v) (HopFits t) k
  back v root [] path keeps k is e =
      elim (r.roots_back root k path is e) [
        | inl old ↦
            let fits : root.level ≡ t k = keeps.0 ∙ ap u e ∙ sym (strengths_same k is) in
            arrives_root circuit (RootFits t v) (HopFits t) (root_at k root) old (fits, keeps.1)
        | inr new ↦
            let own = (r.values new.0 new.1).0 in
            let there = reaches_there cell circuit at inside exposed drive p levels all_levels s t strong all_strong (value new.0) new.0 (p.exposed_inside new.0 new.1) own in
            reaches-arrives circuit t all_strong v k (subst (Reaches circuit k) (sym new.4 ∙ keeps.1) (subst (λ (x : ℕ). Reaches circuit x (value new.0)) new.2 there))
      ]
  back v root (hop ∷ hops) path keeps k is e =
      let old = r.devices_back hop.device path.1 in
      let j = joined moved old.0 hop.device (end_of root hops) hop.to old.2 path.2 in
      let to = old.3 j.to (touched old.0 j.from j.to j.joins) in
      let from = old.3 j.from (touched_from old.0 j.from j.to j.joins) in
      let same : j.to ≡ k = r.moved_apart j.to k to is (j.to_is ∙ e) in
      let before = back v root hops path.0 keeps.0 j.from from (sym j.from_is) in
      let level = old.2.0 in
      let first : u (end_of root hops) ≡ t j.from = ap u (sym j.from_is) ∙ sym (strengths_same j.from from) in
      let last : u hop.to ≡ t j.to = ap u (sym j.to_is) ∙ sym (strengths_same j.to to) in
      let step = keeps.1 in
      let fits : min (t j.from) old.0.level ≡ t j.to = omega (arith, level, first, last, step) in
      subst (Arrives circuit (RootFits t v) (HopFits t)) same (arrives_on circuit (RootFits t v) (HopFits t) j.from j.to old.0 before old.1 j.joins fits)

  pub reaches_from_whole : (k : ℕ) (v : Bool) → compared k ≡ true → Reaches whole (moved k) v → Reaches circuit k v
  reaches_from_whole k v is q =
      let a = reaches-arrives whole u whole_strong v (moved k) q in
      arrives-reaches circuit t all_strong v k (back v a.0 a.1 a.2 a.3 k is a.4)

  -- ---- along a path of the circuit

  -- What keeps a value from being the one of the cell alone: `Out` at compared nets, `In n` at a net inside. It comes where both
  -- values reach an exposed output, goes on along conducting devices of the cell, and leaves at exposed outputs.
  pub record IsExcuse (Out : Type 0) (In : ℕ → Type 0) : Type 0 where
    pub enters : (n : ℕ) → exposed n ≡ true → Reaches whole (moved (at n)) true → Reaches whole (moved (at n)) false → In n
    pub spreads : (d : Device) (l n : ℕ) → In l → IsOn cell d → Joins d l n → inside n ≡ true → In n
    pub leaves : (v : Bool) (n : ℕ) → exposed n ≡ true → In n → Reaches whole (moved (at n)) v ⊎ Out
    pub stays : (n : ℕ) → Out → In n

  module _ (Out : Type 0) (In : ℕ → Type 0) (excuse : IsExcuse Out In) where
    -- what a path of the circuit brings: to a compared net, with the cell whole, and to a net inside, in the cell alone
    pub record Brought (v : Bool) (end : ℕ) : Type 0 where
      pub outside : (k : ℕ) → compared k ≡ true → end ≡ k → Reaches whole (moved k) v ⊎ Out
      pub within : (n : ℕ) → inside n ≡ true → end ≡ at n → Reaches cell n v ⊎ In n

    -- what reaches an exposed output with the cell whole is its value in the cell alone, or it fights
    settles : (v : Bool) (n : ℕ) → exposed n ≡ true → Reaches whole (moved (at n)) v → Reaches cell n v ⊎ In n
    settles v n m q = by v (value n) q (arrives-reaches whole u whole_strong (value n) (moved (at n)) (driven n m)) (r.values n m).0
      where
        by : (v x : Bool) → Reaches whole (moved (at n)) v → Reaches whole (moved (at n)) x → Reaches cell n x → Reaches cell n v ⊎ In n
        by true true q own alone = inl alone
        by false false q own alone = inl alone
        by true false q own alone = inr (excuse.enters n m q own)
        by false true q own alone = inr (excuse.enters n m own q)

    -- what is brought to an exposed output outside is brought inside
    settled : (v : Bool) (n : ℕ) → exposed n ≡ true → Reaches whole (moved (at n)) v ⊎ Out → Reaches cell n v ⊎ In n
    settled v n m (inl q) = settles v n m q
    settled v n m (inr out) = inr (excuse.stays n out)

    pub brought : (v : Bool) (root : Root) (hops : List Hop) → IsPath circuit root hops → Keeps (RootFits t v) (HopFits t) root hops → Brought v (end_of root hops)
    brought v root [] path keeps = record {
      outside = there;
      within = λ n ins e. let m = p.roots root n path ins e in settled v n m (there (at n) (r.exposed_compared n m) e);
    }
      where
        there : (k : ℕ) → compared k ≡ true → root.net ≡ k → Reaches whole (moved k) v ⊎ Out
        there k is e =
            let compared_net = subst (λ (x : ℕ). compared x ≡ true) (sym e) is in
            let fits : root.level ≡ u (moved root.net) = keeps.0 ∙ strengths_same root.net compared_net in
            inl (subst (λ (x : ℕ). Reaches whole (moved x) v) e
            (arrives-reaches whole u whole_strong v (moved root.net)
            (arrives_root whole (RootFits u v) (HopFits u) (root_at (moved root.net) root) (r.roots_there root path compared_net) (fits, keeps.1))))
    brought v root (hop ∷ hops) path keeps =
        elim (copied_or_not cell at hop.device) [
          | inr out ↦ from_outside out (brought v root hops path.0 keeps.0)
          | inl own ↦ from_inside own.0 own.1 own.2 (joined at own.0 hop.device (end_of root hops) hop.to own.2 path.2) (brought v root hops path.0 keeps.0)
        ]
      where
        from_outside : IsOutside cell at hop.device → Brought v (end_of root hops) → Brought v hop.to
        from_outside out before = record {
          outside = there;
          within = λ n ins e.
              let m = p.devices hop.device n path.1 out ins (subst (Touches hop.device) e (touched hop.device (end_of root hops) hop.to path.2)) in
              settled v n m (there (at n) (r.exposed_compared n m) e);
        }
          where
            there : (k : ℕ) → compared k ≡ true → hop.to ≡ k → Reaches whole (moved k) v ⊎ Out
            there k is e =
                let from = r.ends hop.device (end_of root hops) path.1 out (touched_from hop.device (end_of root hops) hop.to path.2) in
                let to = subst (λ (x : ℕ). compared x ≡ true) (sym e) is in
                elim (before.outside (end_of root hops) from refl) [
                  | inr out_too ↦ inr out_too
                  | inl q ↦
                      let f = r.devices_there hop.device path.1 out in
                      let joins = copy_joins moved hop.device f.0 (end_of root hops) hop.to f.2 path.2 in
                      let first = strengths_same (end_of root hops) from in
                      let last = strengths_same hop.to to in
                      let level = f.2.0 in
                      let step = keeps.1 in
                      let fits : min (u (moved (end_of root hops))) f.0.level ≡ u (moved hop.to) = omega (arith, first, last, level, step) in
                      inl (subst (λ (x : ℕ). Reaches whole (moved x) v) e
                      (arrives-reaches whole u whole_strong v (moved hop.to)
                      (arrives_on whole (RootFits u v) (HopFits u) (moved (end_of root hops)) (moved hop.to) f.0
                      (reaches-arrives whole u whole_strong v (moved (end_of root hops)) q) f.1 joins fits)))
                ]

        from_inside : (d : Device) → IsOn cell d → IsCopy at d hop.device → Joined at d (end_of root hops) hop.to → Brought v (end_of root hops) → Brought v hop.to
        from_inside d on c j before = record {
          outside = λ k is e.
              elim (p.bounded d j.to on (touched d j.from j.to j.joins)) [
                | inr shared ↦ absurd (no_source shared)
                | inl ins ↦ comes k is (j.to_is ∙ e) ins
              ];
          within = λ n ins e. arrives_within n ins (j.to_is ∙ e);
        }
          where
            -- a source is the end of no such path
            no_source : IsShared cell circuit at j.to → ⊥
            no_source shared =
                let full = source_level_is circuit all_levels t all_strong (at j.to) shared.value shared.above in
                let here : t (at j.to) ≡ t hop.to = ap t j.to_is in
                let level = keeps-level_is circuit t all_strong v root (hop ∷ hops) keeps in
                let after = level_after circuit all_levels root hop hops path in
                omega (arith, full, here, level, after)

            -- the device of the cell brings the value to its own net
            own : inside j.to ≡ true → Reaches cell j.to v ⊎ In j.to
            own ins =
                elim (p.bounded d j.from on (touched_from d j.from j.to j.joins)) [
                  | inl from ↦ elim (before.within j.from from (sym j.from_is)) [
                    | inr in_from ↦ inr (excuse.spreads d j.from j.to in_from on j.joins ins)
                    | inl q ↦ inl (along (reaches-arrives cell s strong v j.from q) (sym (same_inside j.from from)))
                  ]
                  | inr shared ↦
                      let v_is = source_only circuit all_levels t all_strong (at j.from) shared.value shared.above v root hops path.0 keeps.0 (sym j.from_is) in
                      let full = source_level_is cell levels s strong j.from shared.value shared.alone in
                      let high = source_level_is circuit all_levels t all_strong (at j.from) shared.value shared.above in
                      inl (along (subst (λ (x : Bool). Arrives cell (RootFits s x) (HopFits s) j.from) (sym v_is) (source_arrives cell levels s strong j.from shared.value shared.alone)) (full ∙ p.source ∙ sym high))
                ]
              where
                along : Arrives cell (RootFits s v) (HopFits s) j.from → s j.from ≡ t (at j.from) → Reaches cell j.to v
                along start same =
                    let level = c.0 in
                    let last : t hop.to ≡ s j.to = ap t (sym j.to_is) ∙ same_inside j.to ins in
                    let first : t (end_of root hops) ≡ s j.from = ap t (sym j.from_is) ∙ sym same in
                    let step = keeps.1 in
                    let fits : min (s j.from) d.level ≡ s j.to = omega (arith, level, last, first, step) in
                    arrives-reaches cell s strong v j.to (arrives_on cell (RootFits s v) (HopFits s) j.from j.to d start on j.joins fits)

            -- what comes out at an exposed output is its value, or leaves with the excuse
            comes : (k : ℕ) → compared k ≡ true → at j.to ≡ k → inside j.to ≡ true → Reaches whole (moved k) v ⊎ Out
            comes k is e ins =
                let m = r.inside_compared j.to ins (subst (λ (x : ℕ). compared x ≡ true) (sym e) is) in
                subst (λ (x : ℕ). Reaches whole (moved x) v ⊎ Out) e
                (elim (own ins) [
                  | inl q ↦
                      let v_is = (r.values j.to m).1 v q in
                      inl (subst (Reaches whole (moved (at j.to))) (sym v_is) (arrives-reaches whole u whole_strong (value j.to) (moved (at j.to)) (driven j.to m)))
                  | inr in_to ↦ excuse.leaves v j.to m in_to
                ])

            arrives_within : (n : ℕ) → inside n ≡ true → at j.to ≡ at n → Reaches cell n v ⊎ In n
            arrives_within n ins e =
                let one = merged cell circuit at inside exposed drive p levels all_levels s t strong all_strong d j.to n on (touched d j.from j.to j.joins) ins e in
                elim one.one [
                  | inl same ↦ subst (λ (x : ℕ). Reaches cell x v ⊎ In x) same (own one.inside_too)
                  | inr m ↦ settled v n m (comes (at n) (r.exposed_compared n m) e one.inside_too)
                ]

    pub reaches_whole : (k : ℕ) (v : Bool) → compared k ≡ true → Reaches circuit k v → Reaches whole (moved k) v ⊎ Out
    reaches_whole k v is q =
        let a = reaches-arrives circuit t all_strong v k q in
        (brought v a.0 a.1 a.2 a.3).outside k is a.4

    pub reaches_cell : (n : ℕ) (v : Bool) → inside n ≡ true → Reaches circuit (at n) v → Reaches cell n v ⊎ In n
    reaches_cell n v ins q =
        let a = reaches-arrives circuit t all_strong v (at n) q in
        (brought v a.0 a.1 a.2 a.3).within n ins a.4

  -- ---- the two excuses

  -- some exposed output fights with the cell whole
  abbrev pub Fights : Type 0
  Fights = HasFight whole (λ n. moved (at n)) exposed

  pub fight_excuses : IsExcuse Fights (λ n. Fights)
  fight_excuses = record {
    enters = λ n m high low. (n, m, high, low);
    spreads = λ d l n fight on joins ins. fight;
    leaves = λ v n m fight. inr fight;
    stays = λ n fight. fight;
  }

  -- one that conducting devices join to a net does, where they join no two exposed outputs: it never leaves
  abbrev pub Beside : ℕ → Type 0
  Beside n = FightsBeside cell whole (λ m. moved (at m)) inside exposed n

  either : (n : ℕ) (v : Bool) → Reaches whole n true → Reaches whole n false → Reaches whole n v
  either n true high low = high
  either n false high low = low

  pub beside_excuses : AreUnjoined cell at inside exposed → IsExcuse ⊥ Beside
  beside_excuses lone = record {
    enters = λ n m high low. (n, m, itself (p.exposed_inside n m), high, low);
    spreads = λ d l n fight on joins ins. (fight.0, fight.1, onward d fight.2 on joins ins, fight.3, fight.4);
    leaves = λ v n m fight. inl (subst (λ (x : ℕ). Reaches whole (moved x) v) (lone fight.0 n fight.1 m fight.2) (either (moved (at fight.0)) v fight.3 fight.4));
    stays = λ n none. absurd none;
  }

-- ---- the law

pub whole_stands_for_cell : WholeStandsForCell
whole_stands_for_cell cell circuit whole at moved inside exposed compared drive value nets all_nets whole_nets levels all_levels whole_levels finite all_finite whole_finite bounded p r = (
  λ k x is. (
    λ h. subst (IsStrength whole (moved k)) (one_strength circuit k (t k) x (all_strong k) h) (there k is),
    λ h. subst (IsStrength circuit k) (one_strength whole (moved k) (t k) x (there k is) h) (all_strong k),
  ),
  λ k v is q. from_whole k v is q,
  elim (fights whole (λ n. moved (at n)) exposed (reaches_or_not whole whole_nets whole.source whole_finite) nets) [
    | inl fight ↦ inl fight
    | inr none ↦ inr (
      λ k v is. (
        λ q. elim (reaches_whole cell circuit whole at moved inside exposed compared drive value p r levels all_levels s t u strong all_strong whole_strong (HasFight whole (λ x. moved (at x)) exposed) (λ m. (HasFight whole (λ x. moved (at x)) exposed)) excuse k v is q) [
          | inl same ↦ same
          | inr fight ↦ absurd (none fight.0 (bounded fight.0 fight.1) fight.1 fight.2 fight.3)
        ],
        λ q. from_whole k v is q,
      ),
      λ n v ins. (
        λ q. reaches_there cell circuit at inside exposed drive p levels all_levels s t strong all_strong v n ins q,
        λ q. elim (reaches_cell cell circuit whole at moved inside exposed compared drive value p r levels all_levels s t u strong all_strong whole_strong (HasFight whole (λ x. moved (at x)) exposed) (λ m. (HasFight whole (λ x. moved (at x)) exposed)) excuse n v ins q) [
          | inl same ↦ same
          | inr fight ↦ absurd (none fight.0 (bounded fight.0 fight.1) fight.1 fight.2 fight.3)
        ],
      ),
    )
  ],
)
  where
    s : ℕ → ℕ
    s = strength_at cell nets cell.source finite

    strong : (n : ℕ) → IsStrength cell n (s n)
    strong = strength_at_is cell nets cell.source finite

    t : ℕ → ℕ
    t = strength_at circuit all_nets circuit.source all_finite

    all_strong : (n : ℕ) → IsStrength circuit n (t n)
    all_strong = strength_at_is circuit all_nets circuit.source all_finite

    u : ℕ → ℕ
    u = strength_at whole whole_nets whole.source whole_finite

    whole_strong : (n : ℕ) → IsStrength whole n (u n)
    whole_strong = strength_at_is whole whole_nets whole.source whole_finite

    excuse : IsExcuse cell circuit whole at moved inside exposed compared drive value p r levels all_levels s t u strong all_strong whole_strong (HasFight whole (λ x. moved (at x)) exposed) (λ m. HasFight whole (λ x. moved (at x)) exposed)
    excuse = fight_excuses cell circuit whole at moved inside exposed compared drive value p r levels all_levels s t u strong all_strong whole_strong

    there : (k : ℕ) → compared k ≡ true → IsStrength whole (moved k) (t k)
    there k is = strength_moved cell circuit whole at moved inside exposed compared drive value p r levels all_levels s t u strong all_strong whole_strong k is

    from_whole : (k : ℕ) (v : Bool) → compared k ≡ true → Reaches whole (moved k) v → Reaches circuit k v
    from_whole k v is q = reaches_from_whole cell circuit whole at moved inside exposed compared drive value p r levels all_levels s t u strong all_strong whole_strong k v is q

pub whole_stands_for_unjoined_outputs : WholeStandsForUnjoinedOutputs
whole_stands_for_unjoined_outputs cell circuit whole at moved inside exposed compared drive value nets all_nets whole_nets levels all_levels whole_levels finite all_finite whole_finite p r lone = (
  λ k x is. (
    λ h. subst (IsStrength whole (moved k)) (one_strength circuit k (t k) x (all_strong k) h) (there k is),
    λ h. subst (IsStrength circuit k) (one_strength whole (moved k) (t k) x (there k is) h) (all_strong k),
  ),
  λ k v is. (
    λ q. elim (reaches_whole cell circuit whole at moved inside exposed compared drive value p r levels all_levels s t u strong all_strong whole_strong ⊥ (FightsBeside cell whole (λ m. moved (at m)) inside exposed) excuse k v is q) [ inl same ↦ same | inr none ↦ absurd none ],
    λ q. reaches_from_whole cell circuit whole at moved inside exposed compared drive value p r levels all_levels s t u strong all_strong whole_strong k v is q,
  ),
  λ n v ins q. reaches_cell cell circuit whole at moved inside exposed compared drive value p r levels all_levels s t u strong all_strong whole_strong ⊥ (FightsBeside cell whole (λ m. moved (at m)) inside exposed) excuse n v ins q,
)
  where
    s : ℕ → ℕ
    s = strength_at cell nets cell.source finite

    strong : (n : ℕ) → IsStrength cell n (s n)
    strong = strength_at_is cell nets cell.source finite

    t : ℕ → ℕ
    t = strength_at circuit all_nets circuit.source all_finite

    all_strong : (n : ℕ) → IsStrength circuit n (t n)
    all_strong = strength_at_is circuit all_nets circuit.source all_finite

    u : ℕ → ℕ
    u = strength_at whole whole_nets whole.source whole_finite

    whole_strong : (n : ℕ) → IsStrength whole n (u n)
    whole_strong = strength_at_is whole whole_nets whole.source whole_finite

    excuse : IsExcuse cell circuit whole at moved inside exposed compared drive value p r levels all_levels s t u strong all_strong whole_strong ⊥ (FightsBeside cell whole (λ m. moved (at m)) inside exposed)
    excuse = beside_excuses cell circuit whole at moved inside exposed compared drive value p r levels all_levels s t u strong all_strong whole_strong lone

    there : (k : ℕ) → compared k ≡ true → IsStrength whole (moved k) (t k)
    there k is = strength_moved cell circuit whole at moved inside exposed compared drive value p r levels all_levels s t u strong all_strong whole_strong k is
