-- A table of known bits that grows cover by cover, until it has all.
use Rattle.std.proofs.Common.{◌≡◌, ℕ, zero, suc, ◌+◌, ◌<◌, ◌++◌, ◌∷◌, [], Bool, true, false, List, Option, Some, None, length, set, arith, ap, subst, sym, refl, ◌∙◌, inl, inr}
use Rattle.std.specs.Prelude.{is_none, is_some, unwrap_or}
use Rattle.std.proofs.lemmas.Bool.{and_from, and_parts, cases_eq, true≢false}
use Rattle.std.proofs.lemmas.List.{get_or-set_other, get_or-set_same, length-set}
use Rattle.std.proofs.lemmas.Option.{none-some, same_Some, unwrap_or-slice_get}
use Rattle.blif_eval.proofs.Drivers.{apart, covered_below, input_below, one_cover}
use Rattle.blif_eval.specs.KnownBits.{AreKnown, IsLearned, IsSpread, all_entries, bit_in, is_entry, teaches}
use Rattle.blif_eval.specs.Plans.{entry_of}
use Rattle.vrt_model.proofs.Assignments.{cover_same}
use Rattle.vrt_model.proofs.Members.{among_later}
use Rattle.vrt_model.specs.Covers.{cover_bit}
use Rattle.vrt_model.specs.FlatModels.{IsFlatModel}
use Rattle.vrt_model.specs.Lists.{Among}
use Rattle.vrt_model.specs.ModelArcs.{IsKnownSignal, carries, covered}
use Rattle.vrt_model.specs.declared.flat_model.Cover.{Cover}
use Rattle.vrt_model.specs.declared.flat_model.FlatModel.{FlatModel}

-- ---- entries

-- a known entry has the bit of the table
pub entry_bit : (bits : List (Option Bool)) (s : ℕ) → is_entry bits s ≡ true → entry_of bits s ≡ Some (bit_in bits s)
entry_bit bits s e = by_entry (entry_of bits s) e
  where
    by_entry : (o : Option Bool) → is_some o ≡ true → o ≡ Some (unwrap_or o false)
    by_entry None e = absurd (true≢false (sym e))
    by_entry (Some v) e = refl

bit_of : (bits : List (Option Bool)) (s : ℕ) (v : Bool) → entry_of bits s ≡ Some v → bit_in bits s ≡ v
bit_of bits s v e = ap (λ (o : Option Bool). unwrap_or o false) e

pub is_entry_of : (bits : List (Option Bool)) (s : ℕ) (v : Bool) → entry_of bits s ≡ Some v → is_entry bits s ≡ true
is_entry_of bits s v e = ap (λ (o : Option Bool). is_some o) e

pub each_entry : (bits : List (Option Bool)) (xs : List ℕ) → all_entries bits xs ≡ true → (i : ℕ) → Among xs i → is_entry bits i ≡ true
each_entry bits [] e i m = absurd (none-some i m.1)
each_entry bits (x ∷ xs) e i (zero, at) = subst (λ (n : ℕ). is_entry bits n ≡ true) (same_Some x i at) (and_parts (is_entry bits x) (all_entries bits xs) e).0
each_entry bits (x ∷ xs) e i (suc k, at) = each_entry bits xs (and_parts (is_entry bits x) (all_entries bits xs) e).1 i (k, at)

pub entries_from : (bits : List (Option Bool)) (xs : List ℕ) → ((i : ℕ) → Among xs i → is_entry bits i ≡ true) → all_entries bits xs ≡ true
entries_from bits [] each = refl
entries_from bits (x ∷ xs) each = and_from (is_entry bits x) (all_entries bits xs) (each x (0, refl)) (entries_from bits xs (λ i m. each i (among_later x xs i m)))

entry_set : (bits : List (Option Bool)) (i : ℕ) (x : Option Bool) → i < length bits → entry_of (set bits i x) i ≡ x
entry_set bits i x lt = unwrap_or-slice_get (set bits i x) i None ∙ get_or-set_same bits i x None lt

entry_other : (bits : List (Option Bool)) (i k : ℕ) (x : Option Bool) → (k ≡ i → ⊥) → entry_of (set bits i x) k ≡ entry_of bits k
entry_other bits i k x ne = unwrap_or-slice_get (set bits i x) k None ∙ (get_or-set_other bits i k x None ne ∙ sym (unwrap_or-slice_get bits k None))

-- ---- the table at first

pub spread_start : (flat : FlatModel) (known bits : List (Option Bool)) → bits ≡ known → length known ≡ length flat.signals + 1 → IsSpread flat known bits
spread_start flat known bits is size = subst (IsSpread flat known) (sym is) (record {
  size = size;
  kept = λ s v e. e;
  sound = λ s v e. carries e;
  right = λ c v m none e. absurd (none-some v (sym none ∙ e));
})

-- ---- one cover more

module _ (flat : FlatModel) (model : IsFlatModel flat) (known bits new : List (Option Bool)) (cover : Cover) (there : Among flat.covers cover) (spread : IsSpread flat known bits)
    (learned : IsLearned cover bits new) where
  bit : Bool
  bit = cover_bit (bit_in bits) cover

  low : cover.output < length bits
  low = let below = covered_below flat model cover there in let size = spread.size in omega (arith, below, size)

  here : entry_of new cover.output ≡ Some bit
  unfolding bit
  here = ap (λ (t : List (Option Bool)). entry_of t cover.output) learned.list ∙ entry_set bits cover.output (Some (cover_bit (bit_in bits) cover)) low

  pub other : (k : ℕ) → (k ≡ cover.output → ⊥) → entry_of new k ≡ entry_of bits k
  other k ne = ap (λ (t : List (Option Bool)). entry_of t k) learned.list ∙ entry_other bits cover.output k (Some (cover_bit (bit_in bits) cover)) ne

  not_before : ¬ (is_entry bits cover.output ≡ true)
  not_before e = true≢false (sym e ∙ learned.open_before)

  stays : (k : ℕ) → is_entry bits k ≡ true → entry_of new k ≡ entry_of bits k
  stays k e = other k (λ is. not_before (subst (λ (n : ℕ). is_entry bits n ≡ true) is e))

  pub stays_entry : (k : ℕ) → is_entry bits k ≡ true → is_entry new k ≡ true
  stays_entry k e = ap (λ (o : Option Bool). is_some o) (stays k e) ∙ e

  stays_bit : (k : ℕ) → is_entry bits k ≡ true → bit_in new k ≡ bit_in bits k
  stays_bit k e = ap (λ (o : Option Bool). unwrap_or o false) (stays k e)

  -- what was learned is known
  pub taught : is_entry new cover.output ≡ true
  taught = is_entry_of new cover.output (cover_bit (bit_in bits) cover) (ap (λ (t : List (Option Bool)). entry_of t cover.output) learned.list ∙ entry_set bits cover.output (Some (cover_bit (bit_in bits) cover)) low)

  -- a cover that was known by what it reads still is
  still : (c : Cover) (v : Bool) → all_entries bits c.inputs ≡ true → v ≡ cover_bit (bit_in bits) c → (all_entries new c.inputs ≡ true) × (v ≡ cover_bit (bit_in new) c)
  still c v all is = (
    entries_from new c.inputs (λ i m. stays_entry i (each_entry bits c.inputs all i m)),
    is ∙ cover_same (bit_in bits) (bit_in new) c (λ i m. sym (stays_bit i (each_entry bits c.inputs all i m))),
  )

  pub spread_more : IsSpread flat known new
  unfolding bit
  spread_more = record {
    size = ap (λ (t : List (Option Bool)). length t) learned.list ∙ (length-set bits cover.output (Some (cover_bit (bit_in bits) cover)) ∙ spread.size);
    kept = λ s v e. let before = spread.kept s v e in stays s (is_entry_of bits s v before) ∙ before;
    sound = λ s v e. elim (cases_eq s cover.output) [
      | inl is ↦
          let same : v ≡ bit = sym (same_Some bit v (sym here ∙ subst (λ (n : ℕ). entry_of new n ≡ Some v) is e)) in
          covered cover (bit_in bits) there (λ i m. spread.sound i (bit_in bits i) (entry_bit bits i (each_entry bits cover.inputs learned.reads i m))) is same
      | inr ne ↦ spread.sound s v (sym (other s ne) ∙ e)
    ];
    right = λ c v m none e. elim (cases_eq c.output cover.output) [
      | inl is ↦
          let same_cover : cover ≡ c = sym (one_cover flat model c cover m there is) in
          let same : v ≡ bit = sym (same_Some bit v (sym here ∙ subst (λ (n : ℕ). entry_of new n ≡ Some v) is e)) in
          subst (λ (x : Cover). (all_entries new x.inputs ≡ true) × (v ≡ cover_bit (bit_in new) x)) same_cover (still cover v learned.reads same)
      | inr ne ↦ let old = spread.right c v m none (sym (other c.output ne) ∙ e) in still c v old.0 old.1
    ];
  }

-- ---- the table at last

-- the default clock's bit is the one that was given
pub default_sound : (flat : FlatModel) → IsFlatModel flat → (known bits : List (Option Bool)) → AreKnown flat known bits → (v : Bool)
    → entry_of bits (length flat.signals) ≡ Some v → entry_of known (length flat.signals) ≡ Some v
default_sound flat model known bits table v e = by_known (length flat.signals) v refl (table.spread.sound (length flat.signals) v e)
  where
    by_known : (s : ℕ) (v : Bool) → s ≡ length flat.signals → IsKnownSignal flat (entry_of known) s v → entry_of known s ≡ Some v
    by_known s v is (carries e) = e
    by_known s v is (covered c f m reads is_output is_bit) = absurd (let low = covered_below flat model c m in omega (arith, low, is, is_output))

module _ (flat : FlatModel) (model : IsFlatModel flat) (known bits : List (Option Bool))
    (all_outside : (s : ℕ) (v : Bool) → s < length flat.signals → entry_of known s ≡ Some v → Among (flat.inputs ++ flat.clocks) s) (table : AreKnown flat known bits) where
  -- what is given is no output of a cover
  not_known : (c : Cover) → Among flat.covers c → entry_of known c.output ≡ None
  not_known c m = by_entry (entry_of known c.output) refl
    where
      by_entry : (o : Option Bool) → entry_of known c.output ≡ o → o ≡ None
      by_entry None e = refl
      by_entry (Some v) e = absurd (apart flat model c m (all_outside c.output v (covered_below flat model c m) e))

  -- a cover that reads known bits has its bit in the table
  cover_known : (c : Cover) (f : ℕ → Bool) → Among flat.covers c → ((i : ℕ) → Among c.inputs i → entry_of bits i ≡ Some (f i)) → entry_of bits c.output ≡ Some (cover_bit f c)
  cover_known c f m reads =
      let all = entries_from bits c.inputs (λ i a. is_entry_of bits i (f i) (reads i a)) in
      let entry = entry_bit bits c.output (table.done c m all) in
      let right = table.spread.right c (bit_in bits c.output) m (not_known c m) entry in
      entry ∙ ap Some (right.1 ∙ cover_same (bit_in bits) f c (λ i a. bit_of bits i (f i) (reads i a)))

  pub known_complete : (s : ℕ) (v : Bool) → IsKnownSignal flat (entry_of known) s v → s < length flat.signals → entry_of bits s ≡ Some v
  known_complete s v (carries e) lt = table.spread.kept s v e
  known_complete s v (covered c f m reads is_output is_bit) lt =
      subst (λ (n : ℕ). entry_of bits n ≡ Some v) (sym is_output)
      (cover_known c f m (λ i a. known_complete i (f i) (reads i a) (input_below flat model c i m a)) ∙ ap Some (sym is_bit))

-- ---- one look at a cover

pub learned_of : (bits new : List (Option Bool)) (cover : Cover) (v : Bool) → teaches bits cover ≡ true → v ≡ cover_bit (bit_in bits) cover → new ≡ set bits cover.output (Some v)
    → IsLearned cover bits new
learned_of bits new cover v e is list =
    let both = and_parts (is_none (entry_of bits cover.output)) (all_entries bits cover.inputs) e in
    record {
      open_before = by_entry (entry_of bits cover.output) both.0;
      reads = both.1;
      list = list ∙ ap (λ (b : Bool). set bits cover.output (Some b)) is;
    }
  where
    by_entry : (o : Option Bool) → is_none o ≡ true → is_some o ≡ false
    by_entry None e = refl
    by_entry (Some v) e = absurd (true≢false (sym e))
