-- Nets that are to be looked at: one step after another.
use Rattle.std.proofs.Common.{◌≡◌, ℕ, ◌<◌, ◌⊎◌, ◌||◌, Bool, true, false, List, length, None, Option, Some, arith, inl, inr, refl, subst, sym, ◌∙◌}
use Rattle.std.proofs.lemmas.Bool.{false≢true, or_cases, or_parts}
use Rattle.std.proofs.lemmas.Option.{none-some, slice_get_within}
use Rattle.graphs.specs.Graphs.{ArcIn, sources_at}
use Rattle.known_nets.specs.Incidence.{HasGates}
use Rattle.known_nets.specs.KnownTables.{known_at}
use Rattle.known_nets.specs.Learned.{HasNoted}
use Rattle.known_nets.specs.Regions.{HasMarkedEnds}
use Rattle.known_nets.specs.Waits.{HasWaited}
use Rattle.known_nets.specs.declared.waiting.Waiting.{Waiting}
use Rattle.vrt_model.specs.Lists.{MarksGrow, mark_at, At, Among}
use Rattle.vrt_model.specs.Known.{IsPlain}
use Rattle.vrt_model.specs.Path.{Joins}
use Rattle.vrt_model.specs.declared.circuit.Circuit.{Circuit}
use Rattle.vrt_model.specs.declared.circuit.Device.{Device}

pub waited_none : (c : Circuit) (w : Waiting) → HasWaited c w w
waited_none c w = record { size = refl; grown = λ n e. e; listed = λ n e. inl e; plain = λ n e. inl e; stays = λ n m. m }

pub waited_then : (c : Circuit) (old mid new : Waiting) → HasWaited c old mid → HasWaited c mid new → HasWaited c old new
waited_then c old mid new one two = record {
  size = two.size ∙ one.size;
  grown = λ n e. two.grown n (one.grown n e);
  listed = λ n e. elim (two.listed n e) [
    | inr m ↦ inr m
    | inl earlier ↦ elim (one.listed n earlier) [ inl o ↦ inl o | inr m ↦ inr (two.stays n m) ]
  ];
  plain = λ n e. elim (two.plain n e) [
    | inr p ↦ inr p
    | inl earlier ↦ one.plain n earlier
  ];
  stays = λ n m. two.stays n (one.stays n m);
}

-- ---- the ends of the devices that newly known nets gate

pub ends_none : (c : Circuit) (known : List (Option Bool)) (pending : List Bool) → HasMarkedEnds c known known pending
ends_none c known pending d m n there j plain none v some = absurd (none-some v (sym none ∙ some))

pub ends_then : (c : Circuit) (known more most : List (Option Bool)) (mid new : List Bool) → HasMarkedEnds c known more mid → HasMarkedEnds c more most new → MarksGrow mid new → HasMarkedEnds c known most new
ends_then c known more most mid new one two grown d m n there j plain none v some = by_entry (known_at more d.gate.0) refl
  where
    by_entry : (o : Option Bool) → known_at more d.gate.0 ≡ o → mark_at new m ≡ true
    by_entry None e = two d m n there j plain e v some
    by_entry (Some u) e = grown m (one d m n there j plain none u e)

-- where one net has become known, and the ends of the devices that it gates are marked
pub ends_of_one : (c : Circuit) (known more : List (Option Bool)) (net : ℕ) (bit : Option Bool) (gates : List (List ℕ)) (row : List ℕ) (pending : List Bool)
    → HasGates c (length c.devices) gates → row ≡ sources_at gates net → net < length gates
    → ((n : ℕ) (v : Bool) → known_at more n ≡ Some v → (known_at known n ≡ Some v) ⊎ ((n ≡ net) × (bit ≡ Some v)))
    → ((k : ℕ) (d : Device) → Among row k → At c.devices k d → (m n : ℕ) → Joins d m n → IsPlain c m → mark_at pending m ≡ true)
    → HasMarkedEnds c known more pending
ends_of_one c known more net bit gates row pending gated is inside only marked d m n there j plain none v some =
    elim (only d.gate.0 v some) [
      | inl old ↦ absurd (none-some v (sym none ∙ old))
      | inr new ↦
          let arc : ArcIn gates there.0 d.gate.0 = gated there.0 d (slice_get_within c.devices there.0 d there.1) there.1 (subst (λ (k : ℕ). k < length gates) (sym new.0) inside) in
          let number : Among row there.0 = subst (λ (r : List ℕ). Among r there.0) (sym is) (subst (λ (k : ℕ). Among (sources_at gates k) there.0) new.0 arc) in
          marked there.0 d number there.1 m n j plain
    ]

-- ---- bits are noted

pub noted_none : (c : Circuit) (known : List (Option Bool)) (w : Waiting) → HasNoted c false known known w w
noted_none c known w = record {
  size = refl;
  grown = λ n v e. e;
  waited = waited_none c w;
  ends = ends_none c known w.marks.items;
  same = λ e. (refl, refl);
  falls = omega arith;
  less = λ e. absurd (false≢true e);
}

pub noted_then : (c : Circuit) (some more : Bool) (old mid new : List (Option Bool)) (before between after : Waiting) → HasNoted c some old mid before between → HasNoted c more mid new between after
    → HasNoted c (some || more) old new before after
noted_then c some more old mid new before between after one two = record {
  size = two.size ∙ one.size;
  grown = λ n v e. two.grown n v (one.grown n v e);
  waited = waited_then c before between after one.waited two.waited;
  ends = ends_then c old mid new between.marks.items after.marks.items one.ends two.ends two.waited.grown;
  same = λ e.
      let h = or_parts some more e in
      let here = two.same h.1 in
      let earlier = one.same h.0 in
      (here.0 ∙ earlier.0, here.1 ∙ earlier.1);
  falls = omega (arith, one.falls, two.falls);
  less = λ e. elim (or_cases some more e) [
    | inl h ↦ omega (arith, one.less h, two.falls)
    | inr h ↦ omega (arith, two.less h, one.falls)
  ];
}
