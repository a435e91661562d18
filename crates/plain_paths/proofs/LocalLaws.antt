-- The signals of the roots alone, and what devices that are added to them change.
use Rattle.std.proofs.Common.{◌≡◌, ℕ, ◌<◌, ◌≤◌, ◌⊎◌, ◌||◌, ◌++◌, Bool, true, false, List, [], ◌∷◌, length, map, arith, ap, sym, subst, refl, ◌∙◌, inl, inr, eqb, slice_index}
use Rattle.std.specs.Prelude.{All, ◌↔◌, filter, slice_get}
use Rattle.std.specs.List.{list_any}
use Rattle.std.proofs.lemmas.Bool.{cases_Bool, eq-eqb, eqb-true, false≢true, or_cases, or_left, or_right}
use Rattle.std.proofs.lemmas.List.{map-append}
use Rattle.std.proofs.lemmas.List.Elements.{filter-append, filter_map-append}
use Rattle.std.proofs.lemmas.Option.{slice_get_within}
use Rattle.vrt_model.proofs.Clear.{HopFits, RootFits}
use Rattle.vrt_model.proofs.Filtered.{among_kept, filter_among}
use Rattle.vrt_model.proofs.Laws.{one_strength}
use Rattle.vrt_model.proofs.Lists.{among_filter_map, map_among}
use Rattle.vrt_model.proofs.Marks.{HasRootMarks}
use Rattle.vrt_model.proofs.Members.{all_among, all_by, among_any, among_map, any_among, at_none}
use Rattle.vrt_model.proofs.PathKinds.{Arrives, arrives_root}
use Rattle.vrt_model.proofs.Strength.{AtLeast, at_least-strength}
use Rattle.vrt_model.specs.Circuits.{IsDevice, IsFlat, IsHold}
use Rattle.vrt_model.specs.Lists.{At, Among, bit_at, mark_at}
use Rattle.vrt_model.specs.Networks.{HasBound}
use Rattle.vrt_model.specs.Path.{Hop, IsOn, IsPath, IsRoot, Network, Root, end_of, level_of}
use Rattle.vrt_model.specs.Reading.{conducts}
use Rattle.vrt_model.specs.Response.{IsClear, IsStrength, Reaches}
use Rattle.vrt_model.specs.declared.circuit.Circuit.{Circuit}
use Rattle.vrt_model.specs.declared.circuit.Device.{Device}
use Rattle.vrt_model.specs.declared.ids.Dev.{Dev}
use Rattle.plain_paths.specs.Channels.{HasChannels, IsInRange, channel_of, channels_over}
use Rattle.plain_paths.specs.Local.{AgreeAt, AgreeAtEnds, IsFit, Shows, devices_at, network_with, roots_alone}
use Rattle.plain_paths.specs.Marks.{Marked}
use Rattle.plain_paths.specs.Tables.{HasRoots, IsAttained}
use Rattle.plain_paths.specs.declared.channels.Channel.{Channel}
use Rattle.plain_paths.specs.declared.signals.Signals.{Signals}

-- ---- devices by their numbers

pub device_from : (c : Circuit) (numbers : List Dev) (d : Device) → Among (devices_at c numbers) d → (k : Dev) × Among numbers k × At c.devices k.0 d
device_from c numbers d m = among_filter_map (λ (k : Dev). slice_get c.devices k.0) numbers d m

-- a circuit's devices are in range, so those of some numbers are
pub local_device : (c : Circuit) → IsFlat c → (numbers : List Dev) (d : Device) → Among (devices_at c numbers) d → IsDevice c d
local_device c flat numbers d m = let from = device_from c numbers d m in all_among (IsDevice c) c.devices d flat.devices (from.0.0, from.2)

pub local_within : (c : Circuit) → IsFlat c → (reading : ℕ → Bool) (numbers : List Dev) → All (IsInRange (length c.nets)) (channels_over false reading (devices_at c numbers))
local_within c flat reading numbers =
    all_by (IsInRange (length c.nets)) (channels_over false reading (devices_at c numbers))
    (λ ch m.
    let from = among_map channel_of (filter (conducts reading) (devices_at c numbers)) ch m in
    let is = local_device c flat numbers from.0 (filter_among (conducts reading) (devices_at c numbers) from.0 from.1).0 in
    subst (IsInRange (length c.nets)) from.2 (is.left, is.right))

-- the channels of the device of one number more
pub local_last : (c : Circuit) (reading : ℕ → Bool) (numbers : List Dev) (k : Dev)
    → channels_over false reading (devices_at c numbers) ++ channels_over false reading (devices_at c (k ∷ [])) ≡ channels_over false reading (devices_at c (numbers ++ k ∷ []))
local_last c reading numbers k =
    sym (map-append channel_of (filter (conducts reading) (devices_at c numbers)) (filter (conducts reading) (devices_at c (k ∷ []))))
    ∙ ap (map channel_of) (sym (filter-append (conducts reading) (devices_at c numbers) (devices_at c (k ∷ []))))
    ∙ ap (channels_over false reading) (sym (filter_map-append (λ (n : Dev). slice_get c.devices n.0) numbers (k ∷ [])))

-- ---- the network of some devices

module _ (c : Circuit) (flat : IsFlat c) (reading given held : ℕ → Bool) where
  pub with_channels : (devices : List Device) → HasChannels (network_with c reading given held devices) (channels_over false reading devices)
  with_channels devices = record {
    each = λ ch m.
        let from = among_map channel_of (filter (conducts reading) devices) ch m in
        let kept = filter_among (conducts reading) devices from.0 from.1 in
        (from.0, (kept.0, kept.1), from.2);
    all = λ d on. map_among channel_of (filter (conducts reading) devices) d (among_kept (conducts reading) devices d on.0 on.1);
  }

  pub with_bound : (devices : List Device) → ((d : Device) → Among devices d → IsDevice c d) → HasBound (network_with c reading given held devices) (length c.nets)
  with_bound devices each = record {
    roots = λ root r. elim r [
      | inl g ↦ slice_get_within c.nets root.net g.0 g.1
      | inr other ↦ elim other [
        | inl h ↦ subst (λ (n : ℕ). n < length c.nets) (sym h.3) (all_among (IsHold c) c.holds h.1 flat.holds (h.0, h.2)).net
        | inr o ↦ absurd (at_none o.0 o.1 o.2)
      ]
    ];
    hops = λ m n d on j.
        let is = each d on.0 in
        elim j [ inl q ↦ subst (λ (x : ℕ). x < length c.nets) q.1 is.right | inr q ↦ subst (λ (x : ℕ). x < length c.nets) q.0 is.left ];
  }

-- ---- the roots of a network alone

module _ (w : Network) where
  module _ (t : List ℕ) (strong : (n : ℕ) → IsStrength (roots_alone w) n (slice_index t n)) where
    pub alone_roots : HasRoots w t
    alone_roots root r = (strong root.net).0 root [] r refl

    pub alone_attained : IsAttained w t
    alone_attained n =
        elim (strong n).1 [
          | inl z ↦ inl z
          | inr q ↦ inr (by_root q.0 q.1 q.2 q.3 q.4)
        ]
      where
        by_root : (root : Root) (hops : List Hop) → IsPath (roots_alone w) root hops → end_of root hops ≡ n → level_of root hops ≡ slice_index t n → AtLeast w (slice_index t n) n
        by_root root [] p e l = (root, [], p, (let le : slice_index t n ≤ root.level = omega (arith, l) in le), e)
        by_root root (hop ∷ hops) p e l = absurd (at_none p.1.0.0 hop.device p.1.0.1)

  -- what reaches a net over no device is a root of its strength there
  reached_root : (n : ℕ) (v : Bool) → Reaches (roots_alone w) n v → (root : Root) × IsRoot w root × (root.net ≡ n) × IsStrength (roots_alone w) n root.level × (root.value ≡ v)
  reached_root n v r = found r.0 r.1 r.2 r.3 r.4 r.5
    where
      found : (root : Root) (hops : List Hop) → IsPath (roots_alone w) root hops → IsClear (roots_alone w) root hops → end_of root hops ≡ n → root.value ≡ v
          → (root : Root) × IsRoot w root × (root.net ≡ n) × IsStrength (roots_alone w) n root.level × (root.value ≡ v)
      found root [] p clear e is = (root, p, e, subst (λ (m : ℕ). IsStrength (roots_alone w) m root.level) e clear, is)
      found root (hop ∷ hops) p clear e is = absurd (at_none p.1.0.0 hop.device p.1.0.1)

  -- ---- marks

  module _ (levels strengths : List ℕ) (alone : (n : ℕ) → IsStrength (roots_alone w) n (slice_index levels n)) (strong : (n : ℕ) → IsStrength w n (slice_index strengths n)) (v : Bool)
      (old new : List Bool) (reach : (n : ℕ) → (mark_at old n ≡ true) ↔ Reaches (roots_alone w) n v) where
    -- no strength falls
    risen : (n : ℕ) → slice_index levels n ≤ slice_index strengths n
    risen n =
        elim (alone_attained levels alone n) [
          | inl z ↦ omega (arith, z)
          | inr r ↦ at_least-strength w n (slice_index strengths n) (slice_index levels n) (strong n) r
        ]

    -- the marks at nets that are as strong as before are those of the roots that fit
    pub roots_kept : ((n : ℕ) → mark_at old n ≡ true → slice_index strengths n ≡ slice_index levels n → mark_at new n ≡ true)
        → HasRootMarks w (RootFits (slice_index strengths) v) (HopFits (slice_index strengths)) (mark_at new)
    roots_kept kept root r fits =
        let low : root.level ≤ slice_index levels root.net = alone_roots levels alone root r in
        let high = risen root.net in
        let level : root.level ≡ slice_index levels root.net = omega (arith, low, high, fits.0) in
        let here : IsStrength (roots_alone w) root.net root.level = subst (IsStrength (roots_alone w) root.net) (sym level) (alone root.net) in
        kept root.net ((reach root.net).1 (root, [], r, here, refl, fits.1)) (sym fits.0 ∙ level)

    pub roots_left : ((n : ℕ) → mark_at new n ≡ true → (mark_at old n ≡ true) × (slice_index strengths n ≡ slice_index levels n)) → Marked w strengths v new
    roots_left only n e =
        let was = only n e in
        let root = reached_root n v ((reach n).0 was.0) in
        let level : root.0.level ≡ slice_index strengths root.0.net =
        one_strength (roots_alone w) n root.0.level (slice_index levels n) root.3 (alone n) ∙ sym was.1 ∙ ap (slice_index strengths) (sym root.2) in
        subst (Arrives w (RootFits (slice_index strengths) v) (HopFits (slice_index strengths))) root.2
        (arrives_root w (RootFits (slice_index strengths) v) (HopFits (slice_index strengths)) root.0 root.1 (level, root.4))

  -- ---- nets at no device

  module _ (n : ℕ) (apart : (d : Device) → IsOn w d → ¬ ((d.left.0 ≡ n) ⊎ (d.right.0 ≡ n))) where
    apart_end : {X : Type 0} (root : Root) (hop : Hop) (hops : List Hop) → IsPath w root (hop ∷ hops) → hop.to ≡ n → X
    apart_end root hop hops p e = absurd (apart hop.device p.1 (elim p.2 [ inl q ↦ inr (q.1 ∙ e) | inr q ↦ inl (q.0 ∙ e) ]))

    -- it is as strong as its roots
    pub apart_strength : (s : ℕ) → IsStrength w n s → IsStrength (roots_alone w) n s
    apart_strength s h = (most, elim h.1 [ inl z ↦ inl z | inr q ↦ inr (attained q.0 q.1 q.2 q.3 q.4) ])
      where
        most : (root : Root) (hops : List Hop) → IsPath (roots_alone w) root hops → end_of root hops ≡ n → level_of root hops ≤ s
        most root [] p e = h.0 root [] p e
        most root (hop ∷ hops) p e = absurd (at_none p.1.0.0 hop.device p.1.0.1)

        attained : (root : Root) (hops : List Hop) → IsPath w root hops → end_of root hops ≡ n → level_of root hops ≡ s
            → (root : Root) × (hops : List Hop) × IsPath (roots_alone w) root hops × (end_of root hops ≡ n) × (level_of root hops ≡ s)
        attained root [] p e l = (root, [], p, e, l)
        attained root (hop ∷ hops) p e l = apart_end root hop hops p e

    pub apart_reached : (v : Bool) → Reaches w n v → Reaches (roots_alone w) n v
    apart_reached v r = found r.0 r.1 r.2 r.3 r.4 r.5
      where
        found : (root : Root) (hops : List Hop) → IsPath w root hops → IsClear w root hops → end_of root hops ≡ n → root.value ≡ v → Reaches (roots_alone w) n v
        found root [] p clear e is =
            (root, [], p, subst (λ (m : ℕ). IsStrength (roots_alone w) m root.level) (sym e) (apart_strength root.level (subst (λ (m : ℕ). IsStrength w m root.level) e clear)), e, is)
        found root (hop ∷ hops) p clear e is = apart_end root hop hops p e

    pub apart_reaches : (v : Bool) (s : ℕ) → IsStrength w n s → Reaches (roots_alone w) n v → Reaches w n v
    apart_reaches v s strong r =
        let root = reached_root n v r in
        let level : s ≡ root.0.level = one_strength (roots_alone w) n s root.0.level (apart_strength s strong) root.3 in
        (root.0, [], root.1, subst (λ (m : ℕ). IsStrength w m root.0.level) (sym root.2) (subst (IsStrength w n) level strong), root.2, root.4)

same_marks : (a b : Bool) (P Q : Type 0) → (a ≡ true) ↔ P → (b ≡ true) ↔ Q → (P → Q) → (Q → P) → a ≡ b
same_marks true true P Q p q there back = refl
same_marks true false P Q p q there back = sym (q.1 (there (p.0 refl)))
same_marks false true P Q p q there back = p.1 (back (q.0 refl))
same_marks false false P Q p q there back = refl

-- ---- tables

-- where no device is at a net, its signals are those of the roots
pub apart_agree : (w : Network) (t roots : Signals) → Shows w t → Shows (roots_alone w) roots → (n : ℕ) → ((d : Device) → IsOn w d → ¬ ((d.left.0 ≡ n) ⊎ (d.right.0 ≡ n))) → AgreeAt t roots n
apart_agree w t roots shows alone n apart = (
  one_strength (roots_alone w) n (slice_index t.strengths.items n) (slice_index roots.strengths.items n) (apart_strength w n apart (slice_index t.strengths.items n) (shows.strength n)) (alone.strength n),
  same_marks (bit_at t.zeros.items n) (bit_at roots.zeros.items n) (Reaches w n false) (Reaches (roots_alone w) n false) (shows.reached_by_zero n) (alone.reached_by_zero n)
      (apart_reached w n apart false) (apart_reaches w n apart false (slice_index t.strengths.items n) (shows.strength n)),
  same_marks (bit_at t.ones.items n) (bit_at roots.ones.items n) (Reaches w n true) (Reaches (roots_alone w) n true) (shows.reached_by_one n) (alone.reached_by_one n)
      (apart_reached w n apart true) (apart_reaches w n apart true (slice_index t.strengths.items n) (shows.strength n)),
)

-- tables that say the same have the signals of the same networks
pub agree_shows : (w : Network) (t u : Signals) → ((n : ℕ) → AgreeAt t u n) → Shows w u → Shows w t
agree_shows w t u same shows = record {
  strength = λ n. subst (IsStrength w n) (sym (same n).0) (shows.strength n);
  reached_by_zero = λ n. subst (λ (b : Bool). (b ≡ true) ↔ Reaches w n false) (sym (same n).1) (shows.reached_by_zero n);
  reached_by_one = λ n. subst (λ (b : Bool). (b ≡ true) ↔ Reaches w n true) (sym (same n).2) (shows.reached_by_one n);
}

pub agree_next : (t u x : Signals) (n : ℕ) → AgreeAt t u n → AgreeAt u x n → AgreeAt t x n
agree_next t u x n a b = (a.0 ∙ b.0, a.1 ∙ b.1, a.2 ∙ b.2)

-- what says the same as the roots stays so in tables where each net says what it did or what the roots say
pub agree_kept : (new old roots : Signals) (n : ℕ) → AgreeAt new roots n ⊎ AgreeAt new old n → AgreeAt old roots n → AgreeAt new roots n
agree_kept new old roots n (inl back) a = back
agree_kept new old roots n (inr same) a = agree_next new old roots n same a

pub agree_either : (new mid old roots : Signals) (n : ℕ) → AgreeAt new roots n ⊎ AgreeAt new mid n → AgreeAt mid roots n ⊎ AgreeAt mid old n → AgreeAt new roots n ⊎ AgreeAt new old n
agree_either new mid old roots n (inl back) b = inl back
agree_either new mid old roots n (inr same) (inl back) = inl (agree_next new mid roots n same back)
agree_either new mid old roots n (inr same) (inr before) = inr (agree_next new mid old n same before)

-- ---- nets at some device

abbrev is_end : ℕ → Device → Bool
is_end n d = eqb d.left.0 n || eqb d.right.0 n

end_there : (n : ℕ) (d : Device) → is_end n d ≡ true → (d.left.0 ≡ n) ⊎ (d.right.0 ≡ n)
end_there n d e = elim (or_cases (eqb d.left.0 n) (eqb d.right.0 n) e) [ inl l ↦ inl (eqb-true d.left.0 n l) | inr r ↦ inr (eqb-true d.right.0 n r) ]

there_end : (n : ℕ) (d : Device) → (d.left.0 ≡ n) ⊎ (d.right.0 ≡ n) → is_end n d ≡ true
there_end n d (inl e) = or_left (eqb d.left.0 n) (eqb d.right.0 n) (eq-eqb d.left.0 n e)
there_end n d (inr e) = or_right (eqb d.left.0 n) (eqb d.right.0 n) (eq-eqb d.right.0 n e)

-- a net is at one of these devices, or at none
pub at_device : (devices : List Device) (n : ℕ) → ((d : Device) × Among devices d × ((d.left.0 ≡ n) ⊎ (d.right.0 ≡ n))) ⊎ ((d : Device) → Among devices d → ¬ ((d.left.0 ≡ n) ⊎ (d.right.0 ≡ n)))
at_device devices n =
    elim (cases_Bool (list_any (is_end n) devices)) [
      | inl t ↦ let some = any_among (is_end n) devices t in inl (some.0, some.1, end_there n some.0 some.2)
      | inr f ↦ inr (λ d m e. false≢true (sym f ∙ among_any (is_end n) devices d m (there_end n d e)))
    ]

-- where the ends of all devices have been set back, the tables have the signals of the roots again
pub restored : (w : Network) (roots old new : Signals) → Shows w old → Shows (roots_alone w) roots → ((d : Device) → Among w.devices d → AgreeAtEnds new roots d)
    → ((n : ℕ) → AgreeAt new roots n ⊎ AgreeAt new old n) → (n : ℕ) → AgreeAt new roots n
restored w roots old new shows alone ends each n =
    elim (at_device w.devices n) [
      | inl here ↦ (let both = ends here.0 here.1 in elim here.2 [ inl e ↦ subst (AgreeAt new roots) e both.0 | inr e ↦ subst (AgreeAt new roots) e both.1 ])
      | inr apart ↦ elim (each n) [
        | inl back ↦ back
        | inr same ↦ agree_next new old roots n same (apart_agree w old roots shows alone n (λ d on. apart d on.0))
      ]
    ]

-- where a mark stays only at nets that no channel has raised
pub unmarked : (w : Network) (channels : List Channel) (levels strengths : List ℕ) (marks : List Bool) → HasChannels w channels
    → ((n : ℕ) → IsStrength (roots_alone w) n (slice_index levels n)) → ((n : ℕ) → IsStrength w n (slice_index strengths n))
    → ((ch : Channel) → Among channels ch → IsFit levels strengths marks ch.left × IsFit levels strengths marks ch.right)
    → (n : ℕ) → IsFit levels strengths marks n
unmarked w channels levels strengths marks has alone strong fits n =
    elim (at_device (filter (conducts w.reading) w.devices) n) [
      | inl here ↦
          let on = filter_among (conducts w.reading) w.devices here.0 here.1 in
          let both = fits (channel_of here.0) (has.all here.0 (on.0, on.1)) in
          elim here.2 [ inl e ↦ subst (IsFit levels strengths marks) e both.0 | inr e ↦ subst (IsFit levels strengths marks) e both.1 ]
      | inr apart ↦ λ m.
          one_strength (roots_alone w) n (slice_index strengths n) (slice_index levels n)
          (apart_strength w n (λ d on. apart d (among_kept (conducts w.reading) w.devices d on.0 on.1)) (slice_index strengths n) (strong n)) (alone n)
    ]
