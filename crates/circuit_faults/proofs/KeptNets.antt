-- The nets of the kept circuit, one after the other: what is found of their functions stays as nodes are added.
use Rattle.std.proofs.Common.{◌≡◌, ◌≢◌, ℕ, ◌+◌, ◌<◌, Bool, true, false, cond, length, Option, Some, None, arith, ap, refl, sym, subst, ◌∙◌, inl, inr}
use Rattle.std.proofs.Math.Path.{fun_ext}
use Rattle.std.proofs.lemmas.Bool.{cases_eq, eq-eqb, false≢true, ne_eqb}
use Rattle.node_pool.specs.declared.region.Span.{Span}
use Rattle.bdd_core.proofs.Frames.{word_added}
use Rattle.bdd_core.specs.Diagram.{Function, IsWithin, meaning}
use Rattle.bdd_core.specs.Store.{AddsNodes, Diagrams, IsLive, Means, function_of}
use Rattle.bdd_core.specs.Words.{word_at}
use Rattle.bdd_core.specs.declared.handle.H.{H}
use Rattle.bdd_ops.proofs.WithinLaws.{within_same}
use Rattle.circuit_faults.proofs.NetLaws.{nowhere}
use Rattle.circuit_faults.specs.KeptScans.{first_kept, IsFaultyAt, IsKeptFaulty, IsSettledAt, IsSettledNet, KeptNetGives, PlainNetGives, ReadWithin, reach_at, reach_span, wanted_at}
use Rattle.circuit_faults.specs.declared.kept_net.KeptFault.{KeptFault}
use Rattle.circuit_faults.specs.declared.spans.KeptSpans.{KeptSpans}
use Rattle.hold_keep.specs.Kept.{fight_of, unsettled_of}
use Rattle.vrt_model.specs.declared.ids.Net.{Net}
use Rattle.vrt_model.specs.declared.verdict.FaultKind.TheVariants.{Unsettled}

-- the handle of a function that is there, as nodes are added
pub means_later : (old new : Diagrams) (h : H) → AddsNodes old new → IsLive old h → Means new h (function_of old h)
means_later old new h adds live = record { live = (let longer = adds.longer in omega (arith, live, longer)); same = adds.kept h.0 live }

-- ---- the first fault of a net

module _ (care wanted nought one : Function) (seen : Bool) (net : Net) (d : Diagrams) (fight lost value : H) (fights : Means d fight (fight_of care nought one))
    (loses : Means d lost (unsettled_of care wanted nought one)) (shows_one : Means d value one) where
  -- none, where the one handle is 0, and where the net is seen the other is
  settled_net : (b : Bool) → seen ≡ b → fight.0 ≡ 0 → cond b lost.0 0 ≡ 0 → IsSettledNet care wanted nought one seen
  settled_net true s e z = record { fight = nowhere d fight (fight_of care nought one) fights e; keeps = λ t. nowhere d lost (unsettled_of care wanted nought one) loses z }
  settled_net false s e z = record { fight = nowhere d fight (fight_of care nought one) fights e; keeps = λ t v. absurd (false≢true (sym s ∙ t)) }

  lost_net : (b : Bool) → seen ≡ b → (at : H) → at.0 ≡ cond b lost.0 0 → at.0 ≢ 0 → fight.0 ≡ 0 → IsKeptFaulty care wanted nought one seen Unsettled at value d
  lost_net true s at is ne e =
      let same : lost ≡ at = ap (λ (k : ℕ). let h : H = record { 0 = k } in h) (sym is) in
      (s, nowhere d fight (fight_of care nought one) fights e, subst (λ (h : H). Means d h (unsettled_of care wanted nought one)) same loses, ne, shows_one)
  lost_net false s at is ne e = absurd (ne is)

  pub first_gives : (at : H) → at.0 ≡ cond seen lost.0 0 → KeptNetGives care wanted nought one seen net d (first_kept net fight at value)
  first_gives at is =
      elim (cases_eq fight.0 0) [
        | inl e ↦ elim (cases_eq at.0 0) [
          | inl z ↦ rw (eq-eqb fight.0 0 e) (rw (eq-eqb at.0 0 z) (settled_net seen refl e (sym is ∙ z)))
          | inr ne ↦ rw (eq-eqb fight.0 0 e) (rw (ne_eqb at.0 0 ne) (refl, lost_net seen refl at is ne e))
        ]
        | inr ne ↦ rw (ne_eqb fight.0 0 ne) (refl, (fights, ne, shows_one))
      ]

-- ---- the functions of a net in two stores

module _ (spans : KeptSpans) (care : H) (n : ℕ) (first now : Diagrams) (adds : AddsNodes first now) (care_live : IsLive first care)
    (wanted_live : word_at first spans.gates n < length first.nodes) (reach_live : (value : Bool) → word_at first (reach_span spans value) n < length first.nodes) where
  shown_same : (span : Span) → word_at first span n < length first.nodes → meaning now.nodes (word_at now span n) ≡ meaning first.nodes (word_at first span n)
  shown_same span live = fun_ext (λ v. ap (λ (h : ℕ). meaning now.nodes h v) (word_added span first now n adds) ∙ adds.kept (word_at first span n) live v)

  care_same : function_of now care ≡ function_of first care
  care_same = fun_ext (adds.kept care.0 care_live)

  -- what holds of them holds of those at first
  pub as_first : (P : Function → Function → Function → Function → Type 0)
      → P (function_of now care) (wanted_at now spans n) (reach_at now spans false n) (reach_at now spans true n)
      → P (function_of first care) (wanted_at first spans n) (reach_at first spans false n) (reach_at first spans true n)
  as_first P x =
      subst (λ (f : Function). P f (wanted_at first spans n) (reach_at first spans false n) (reach_at first spans true n)) care_same
      (subst (λ (f : Function). P (function_of now care) f (reach_at first spans false n) (reach_at first spans true n)) (shown_same spans.gates wanted_live)
      (subst (λ (f : Function). P (function_of now care) (wanted_at now spans n) f (reach_at first spans true n)) (shown_same spans.zeros (reach_live false))
      (subst (λ (f : Function). P (function_of now care) (wanted_at now spans n) (reach_at now spans false n) f) (shown_same spans.ones (reach_live true)) x)))

-- the handles that say where the values reach plain nets
pub read_later : (u : ℕ) (spans : KeptSpans) (Inside : ℕ → Type 0) (first now : Diagrams) → AddsNodes first now
    → ((n : ℕ) → Inside n → (value : Bool) → word_at first (reach_span spans value) n < length first.nodes) → ReadWithin u spans Inside first → ReadWithin u spans Inside now
read_later u spans Inside first now adds live within n value inside =
    subst (λ (h : ℕ). IsWithin u (meaning now.nodes h)) (sym (word_added (reach_span spans value) first now n adds))
    (within_same u (meaning first.nodes (word_at first (reach_span spans value) n)) (meaning now.nodes (word_at first (reach_span spans value) n))
    (adds.kept (word_at first (reach_span spans value) n) (live n inside value)) (within n value inside))

-- ---- one net more

module _ (Loose : ℕ → Type 0) (observed : ℕ → Bool) (care : H) (spans : KeptSpans) (first now : Diagrams) (adds : AddsNodes first now) (care_live : IsLive first care)
    (net : Net) (wanted_live : word_at first spans.gates net.0 < length first.nodes)
    (reach_live : Loose net.0 → (value : Bool) → word_at first (reach_span spans value) net.0 < length first.nodes)
    (before : (n : ℕ) → n < net.0 → Loose n → IsSettledAt observed care spans first n) where
  pub settled_more :
      (Loose net.0 → IsSettledNet (function_of now care) (wanted_at now spans net.0) (reach_at now spans false net.0) (reach_at now spans true net.0) (observed net.0))
      → (n : ℕ) → n < net.0 + 1 → Loose n → IsSettledAt observed care spans first n
  settled_more here n lt p =
      elim (cases_eq n net.0) [
        | inl e ↦
            let loose : Loose net.0 = subst Loose e p in
            let at_net : IsSettledAt observed care spans first net.0 =
            as_first spans care net.0 first now adds care_live wanted_live (reach_live loose) (λ (f g h k : Function). IsSettledNet f g h k (observed net.0)) (here loose) in
            subst (IsSettledAt observed care spans first) (sym e) at_net
        | inr ne ↦ before n (omega (arith, lt, ne)) p
      ]

  pub faulty_here : (new : Diagrams) (fault : KeptFault) → PlainNetGives Loose care spans (observed net.0) net now new (Some fault) → IsFaultyAt Loose observed care spans fault first new
  faulty_here new fault g =
      let is : fault.net ≡ net = g.1 in
      subst (λ (m : Net). IsFaultyAt Loose observed care spans (record { kind = fault.kind; net = m; at = fault.at; value = fault.value }) first new) (sym is) (record {
        loose = g.0;
        before = before;
        is = as_first spans care net.0 first now adds care_live wanted_live (reach_live g.0)
            (λ (f h j k : Function). IsKeptFaulty f h j k (observed net.0) fault.kind fault.at fault.value new) g.2;
      })

-- what is found by handles that were read
pub plain_gives : (Loose : ℕ → Type 0) (care : H) (spans : KeptSpans) (seen : Bool) (net : Net) (old new : Diagrams) (wanted nought one : ℕ) → wanted ≡ word_at old spans.gates net.0
    → nought ≡ word_at old spans.zeros net.0 → one ≡ word_at old spans.ones net.0 → Loose net.0 → (found : Option KeptFault)
    → KeptNetGives (function_of old care) (meaning old.nodes wanted) (meaning old.nodes nought) (meaning old.nodes one) seen net new found
    → PlainNetGives Loose care spans seen net old new found
plain_gives Loose care spans seen net old new wanted nought one w z o loose found g =
    by_found found
    (subst (λ (h : ℕ). KeptNetGives (function_of old care) (wanted_at old spans net.0) (reach_at old spans false net.0) (meaning old.nodes h) seen net new found) o
    (subst (λ (h : ℕ). KeptNetGives (function_of old care) (wanted_at old spans net.0) (meaning old.nodes h) (meaning old.nodes one) seen net new found) z
    (subst (λ (h : ℕ). KeptNetGives (function_of old care) (meaning old.nodes h) (meaning old.nodes nought) (meaning old.nodes one) seen net new found) w g)))
  where
    by_found : (found : Option KeptFault) → KeptNetGives (function_of old care) (wanted_at old spans net.0) (reach_at old spans false net.0) (reach_at old spans true net.0) seen net new found
        → PlainNetGives Loose care spans seen net old new found
    by_found None s = λ p. s
    by_found (Some fault) f = (loose, f.0, f.1)
