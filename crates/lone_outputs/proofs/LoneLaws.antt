-- The nets that are neither known nor shared, by counts of parts, are those that are alone; in all phases together these
-- are the output ports that are alone inside their cell.
use Rattle.std.proofs.Common.{◌≡◌, ◌≢◌, ◌&&◌, ℕ, ◌<◌, Bool, true, false, not, List, length, map, Option, Some, None, arith, ap, refl, sym, subst, ◌∙◌, inl, inr}
use Rattle.std.specs.Prelude.{◌==◌, filter, is_none, nat_lt, slice_index}
use Rattle.std.proofs.lemmas.Bool.{and_from, and_parts, cases_Bool, cases_eq, eq-eqb, eqb-true, false≢true}
use Rattle.std.proofs.lemmas.Bool.Decides.{nat_tests}
use Rattle.std.proofs.lemmas.List.{length-map}
use Rattle.std.proofs.lemmas.Option.{get_or_from_slice_get, slice_get_within}
use Rattle.channel_parts.proofs.Labels.{together_further}
use Rattle.channel_parts.proofs.PartLaws.{same_least_net}
use Rattle.channel_parts.proofs.RankLaws.{together_back, unknown_entry, unknown_gate}
use Rattle.channel_parts.specs.Labels.{IsLeastTogether}
use Rattle.known_nets.proofs.NetKinds.{is_plain_is, plain_is}
use Rattle.known_nets.specs.KnownTables.{IsKnownTable, known_at}
use Rattle.lone_outputs.proofs.FilterCounts.{PassesBeside, other_passes, two_count}
use Rattle.lone_outputs.proofs.PortPlaces.{outputs_once}
use Rattle.lone_outputs.specs.Lone.{AreLone, AreOutputNets, IsLone, LoneNetsAreKept, LonePortsAreAlone}
use Rattle.lone_outputs.specs.Owners.{AreCounts, is_in_part, is_lone, is_shared}
use Rattle.vrt_model.proofs.Lists.{at_map, map_at, one_at}
use Rattle.vrt_model.proofs.Ranked.{together_first, together_plain}
use Rattle.vrt_model.specs.Comparison.{CellPort, Comparison, phase_at}
use Rattle.vrt_model.specs.Facts.{IsAloneInside, output_ports}
use Rattle.vrt_model.specs.Known.{IsPlain, IsTogether, is_plain_at}
use Rattle.vrt_model.specs.Lists.{At, mark_at}
use Rattle.vrt_model.specs.Reading.{kept}
use Rattle.vrt_model.specs.declared.circuit.Circuit.{Circuit}
use Rattle.vrt_model.specs.declared.ids.Net.{Net}
use Rattle.vrt_model.specs.declared.rules.Phase.{Phase}

not_true : (b : Bool) → not b ≡ true → b ≡ false
not_true true e = absurd (false≢true e)
not_true false e = refl

no_entry : (o : Option Bool) → is_none o ≡ true → o ≡ None
no_entry None e = refl
no_entry (Some v) e = absurd (false≢true e)

-- ---- one phase

module _ (c : Circuit) (phase : Phase) (known : List (Option Bool)) (table : IsKnownTable c phase (known_at known)) (least : List ℕ)
    (labels : (n : ℕ) → IsPlain c n → IsLeastTogether c phase kept n (slice_index least n)) (nets : List Net) (counts : List ℕ) (are : AreCounts c least nets counts)
    (count : length counts ≡ length c.nets) where
  -- the nets of the part of a net
  in_part : (n m : Net) → IsPlain c n.0 → is_in_part c least (slice_index least n.0) m ≡ true → IsTogether c phase kept n.0 m.0
  in_part n m plain e =
      let both = and_parts (is_plain_at c m.0) (slice_index least m.0 == slice_index least n.0) e in
      let other = plain_is c m.0 both.0 in
      together_further c phase kept n.0 (slice_index least n.0) m.0 (labels n.0 plain).together
      (subst (λ (l : ℕ). IsTogether c phase kept l m.0) (eqb-true (slice_index least m.0) (slice_index least n.0) both.1)
      (together_back c phase kept m.0 (slice_index least m.0) (labels m.0 other).together))

  part_in : (n m : Net) → IsTogether c phase kept n.0 m.0 → is_in_part c least (slice_index least n.0) m ≡ true
  part_in n m t =
      and_from (is_plain_at c m.0) (slice_index least m.0 == slice_index least n.0) (is_plain_is c m.0 (together_plain c phase kept n.0 m.0 t))
      (eq-eqb (slice_index least m.0) (slice_index least n.0) (sym (same_least_net c phase known least kept table labels n.0 m.0 t)))

  -- the count at the least net of a plain net
  counted : (n : Net) → IsPlain c n.0 → slice_index counts (slice_index least n.0) ≡ length (filter (is_in_part c least (slice_index least n.0)) nets)
  counted n plain =
      let own = together_plain c phase kept n.0 (slice_index least n.0) (labels n.0 plain).together in
      let inside = slice_get_within c.nets (slice_index least n.0) own.0 own.1 in
      are (slice_index least n.0) (omega (arith, inside, count))

  -- a net is shared where one of another place is in its part
  shared_with : (j : ℕ) (n : Net) → is_shared c least counts n ≡ true → PassesBeside (is_in_part c least (slice_index least n.0)) nets j
  shared_with j n e =
      let both = and_parts (is_plain_at c n.0) (nat_lt 1 (slice_index counts (slice_index least n.0))) e in
      let is = counted n (plain_is c n.0 both.0) in
      let more : 1 < slice_index counts (slice_index least n.0) = grind (arith, nat_tests, both.1) in
      other_passes (is_in_part c least (slice_index least n.0)) nets j (omega (arith, more, is))

  shares : (i j : ℕ) (n m : Net) → At nets j n → At nets i m → i ≢ j → IsTogether c phase kept n.0 m.0 → is_shared c least counts n ≡ true
  shares i j n m own there apart t =
      let plain = together_first c phase kept n.0 m.0 t in
      let two = two_count (is_in_part c least (slice_index least n.0)) nets i j m n there own (part_in n m t) (part_in n n (together_further c phase kept n.0 m.0 n.0 t (together_back c phase kept n.0 m.0 t))) apart in
      let is = counted n plain in
      let more : 1 < slice_index counts (slice_index least n.0) = omega (arith, two, is) in
      and_from (is_plain_at c n.0) (nat_lt 1 (slice_index counts (slice_index least n.0))) (is_plain_is c n.0 plain) (grind (arith, nat_tests, more))

  lone_from : (j : ℕ) (n : Net) → At nets j n → is_lone c known least counts n ≡ true → IsLone c phase (map (λ (x : Net). x.0) nets) j n.0
  lone_from j n own e =
      let both = and_parts (is_none (known_at known n.0)) (not (is_shared c least counts n)) e in
      let none = not_true (is_shared c least counts n) both.1 in
      record {
        unknown = unknown_gate c phase known n.0 table (no_entry (known_at known n.0) both.0);
        alone = λ i m at apart t.
            let from = at_map (λ (x : Net). x.0) nets i m at in
            false≢true (sym none ∙ shares i j n from.0 own from.1 apart (subst (IsTogether c phase kept n.0) (sym from.2) t));
      }

  lone_then : (j : ℕ) (n : Net) → At nets j n → IsLone c phase (map (λ (x : Net). x.0) nets) j n.0 → is_lone c known least counts n ≡ true
  lone_then j n own lone =
      and_from (is_none (known_at known n.0)) (not (is_shared c least counts n)) (ap is_none (unknown_entry c phase known n.0 table (known_at known n.0) refl lone.unknown))
      (elim (cases_Bool (is_shared c least counts n)) [
        | inl e ↦
            let found = shared_with j n e in
            let plain = plain_is c n.0 (and_parts (is_plain_at c n.0) (nat_lt 1 (slice_index counts (slice_index least n.0))) e).0 in
            absurd (lone.alone found.of.place found.of.item.0 (map_at (λ (x : Net). x.0) nets found.of.place found.of.item found.of.there) found.beside (in_part n found.of.item plain found.of.passes))
        | inr e ↦ ap not e
      ])

  -- the bits of the tests say which are alone
  pub are_lone : (lone : List Bool) → lone ≡ map (is_lone c known least counts) nets → AreLone c phase (map (λ (x : Net). x.0) nets) lone
  are_lone lone is = record {
    count = ap (λ (xs : List Bool). length xs) is ∙ length-map nets (is_lone c known least counts) ∙ sym (length-map nets (λ (x : Net). x.0));
    each = λ j n at.
        let from = at_map (λ (x : Net). x.0) nets j n at in
        let bit : mark_at lone j ≡ is_lone c known least counts from.0 =
        ap (λ (xs : List Bool). mark_at xs j) is ∙ get_or_from_slice_get (map (is_lone c known least counts) nets) j (is_lone c known least counts from.0) false (map_at (is_lone c known least counts) nets j from.0 from.1) in (
          λ e. subst (IsLone c phase (map (λ (x : Net). x.0) nets) j) from.2 (lone_from j from.0 from.1 (sym bit ∙ e)),
          λ l. bit ∙ lone_then j from.0 from.1 (subst (IsLone c phase (map (λ (x : Net). x.0) nets) j) (sym from.2) l),
        );
  }

-- ---- all phases

module _ (k : Comparison) (nets : List Net) (are : AreOutputNets k nets) (j : ℕ) (port : CellPort) (here : At (output_ports k) j port) where
  abbrev numbers : List ℕ
  numbers = map (λ (x : Net). x.0) nets

  net_there : (i : ℕ) (x : CellPort) → At (output_ports k) i x → At numbers i x.net
  net_there i x e = subst (λ (ns : List ℕ). At ns i x.net) (sym are) (map_at (λ (p : CellPort). p.net) (output_ports k) i x e)

  port_there : (i m : ℕ) → At numbers i m → (x : CellPort) × At (output_ports k) i x × (x.net ≡ m)
  port_there i m e = at_map (λ (p : CellPort). p.net) (output_ports k) i m (subst (λ (ns : List ℕ). At ns i m) are e)

  -- the port at a place is alone inside its cell where its net is alone in each phase
  pub alone_from : ((phase : ℕ) → phase < length k.rules.phases → IsLone k.circuit (phase_at k.rules phase) numbers j port.net) → IsAloneInside k port
  alone_from each = record {
    unknown = λ phase lt. (each phase lt).unknown;
    alone = λ phase other lt there apart t.
        (each phase lt).alone there.0 other.net (net_there there.0 other there.1)
        (λ e. apart (ap (λ (p : CellPort). p.place) (one_at (output_ports k) j other port (subst (λ (i : ℕ). At (output_ports k) i other) e there.1) here))) t;
  }

  pub alone_then : IsAloneInside k port → (phase : ℕ) → phase < length k.rules.phases → IsLone k.circuit (phase_at k.rules phase) numbers j port.net
  alone_then alone phase lt = record {
    unknown = alone.unknown phase lt;
    alone = λ i m at apart t.
        let x = port_there i m at in
        alone.alone phase x.0 lt (i, x.1) (λ e. apart (outputs_once k i j x.0 port x.1 here e)) (subst (IsTogether k.circuit (phase_at k.rules phase) kept port.net) (sym x.2) t);
  }

-- so they say which ports are alone inside their cell
pub ports_alone : LonePortsAreAlone
ports_alone k nets are j port here = (λ each. alone_from k nets are j port here each, λ alone. alone_then k nets are j port here alone)

-- one phase more
pub lone_kept : LoneNetsAreKept
lone_kept k phase nets more old new before here kept = record {
  count = kept.len ∙ before.count;
  each = λ j n at.
      let within = slice_get_within nets j n at in
      let count = before.count in
      let bit : mark_at new j ≡ (mark_at more j && mark_at old j) = kept.each j (omega (arith, within, count)) in (
        λ e.
            let both = and_parts (mark_at more j) (mark_at old j) (sym bit ∙ e) in
            λ p lt. elim (cases_eq p phase) [
              | inl same ↦ subst (λ (q : ℕ). IsLone k.circuit (phase_at k.rules q) nets j n) (sym same) ((here.each j n at).0 both.0)
              | inr apart ↦ (before.each j n at).0 both.1 p (omega (arith, lt, apart))
            ],
        λ has.
            bit ∙ and_from (mark_at more j) (mark_at old j) ((here.each j n at).1 (has phase (omega arith))) ((before.each j n at).1 (λ p lt. has p (omega (arith, lt)))),
      );
}
