-- A net that nothing drives, in the kept circuit: the constant 0 at both of its words says where the values reach it.
use Rattle.std.proofs.Common.{◌≡◌, ◌≢◌, ℕ, ◌+◌, ◌<◌, ◌≤◌, Bool, true, false, List, [], ◌∷◌, length, length-set, slice_index, arith, ap, subst, sym, ◌∙◌, inl, inr}
use Rattle.std.specs.Prelude.{Ok, slice_set}
use Rattle.std.proofs.lemmas.Bool.{false≢true}
use Rattle.std.proofs.lemmas.Option.{slice_get_within}
use Rattle.bdd_core.proofs.Frames.{adds_rewritten, rest_then, word_apart, word_here, word_other}
use Rattle.bdd_core.proofs.Meaning.{meaning_zero}
use Rattle.bdd_core.specs.Diagram.{IsReduced, IsWithin, meaning}
use Rattle.bdd_core.specs.Store.{Diagrams}
use Rattle.bdd_core.specs.Words.{IsBeside, shows, word_at}
use Rattle.bdd_ops.proofs.CountingLaws.{counted_more, counted_same, counts_ok}
use Rattle.bdd_ops.proofs.WithinLaws.{within_zero}
use Rattle.channel_parts.specs.declared.part.Part.{Part}
use Rattle.circuit_faults.proofs.UndrivenLaws.{here_inside, inside_here, none_reaches}
use Rattle.circuit_faults.specs.KeptResults.{HasKeptSpans, WritesKept}
use Rattle.circuit_faults.specs.KeptScans.{IsPartReached, SpendsReach, reach_span}
use Rattle.circuit_faults.specs.Scans.{IsInside}
use Rattle.circuit_faults.specs.Undriven.{IsUndriven}
use Rattle.circuit_faults.specs.declared.spans.KeptSpans.{KeptSpans}
use Rattle.vrt_model.specs.declared.circuit.Circuit.{Circuit}
use Rattle.vrt_model.specs.declared.ids.Net.{Net}

module _ (c : Circuit) (part : Part) (net : Net) (is : IsUndriven c part net) (spans : KeptSpans) (old mid new : Diagrams) (has : HasKeptSpans c (part ∷ []) spans old)
    (first : mid ≡ record old { words = slice_set old.words (spans.zeros.start + net.0) 0 })
    (second : new ≡ record mid { words = slice_set mid.words (spans.ones.start + net.0) 0 }) where
  in_range : net.0 < length c.nets
  in_range = slice_get_within c.nets net.0 is.rootless.plain.0 is.rootless.plain.1

  in_zeros : net.0 < spans.zeros.len
  in_zeros = omega (arith, in_range, has.zeros_len)

  in_ones : net.0 < spans.ones.len
  in_ones = omega (arith, in_range, has.ones_len)

  len_mid : length mid.words ≡ length old.words
  len_mid = ap (λ (d : Diagrams). length d.words) first ∙ length-set old.words (spans.zeros.start + net.0) 0

  len_new : length new.words ≡ length mid.words
  len_new = ap (λ (d : Diagrams). length d.words) second ∙ length-set mid.words (spans.ones.start + net.0) 0

  pub ones_later : spans.ones.start + spans.ones.len ≤ length mid.words
  ones_later = (let end = has.ones_span.1 in omega (arith, end, len_mid))

  zeros_end : spans.zeros.start + spans.zeros.len ≤ length old.words
  zeros_end = has.zeros_span.1

  -- a word apart from the one that is written
  ones_other : (j : ℕ) → j ≢ spans.ones.start + net.0 → slice_index new.words j ≡ slice_index mid.words j
  ones_other = word_other spans.ones mid new net.0 0 second in_ones ones_later

  zeros_other : (j : ℕ) → j ≢ spans.zeros.start + net.0 → slice_index mid.words j ≡ slice_index old.words j
  zeros_other = word_other spans.zeros old mid net.0 0 first in_zeros zeros_end

  away : (a b : ℕ) → a < length c.nets → b < length c.nets → spans.zeros.start + a ≢ spans.ones.start + b
  away a b a_in b_in e = elim has.zeros_ones [
    | inl low ↦ omega (arith, low, e, a_in, has.zeros_len)
    | inr high ↦ omega (arith, high, e, b_in, has.ones_len)
  ]

  zero_here : (value : Bool) → word_at new (reach_span spans value) net.0 ≡ 0
  zero_here true = word_here spans.ones mid new net.0 0 second in_ones ones_later
  zero_here false = ones_other (spans.zeros.start + net.0) (away net.0 net.0 in_range in_range) ∙ word_here spans.zeros old mid net.0 0 first in_zeros zeros_end

  zero_inside : (n : ℕ) (value : Bool) → IsInside part n → word_at new (reach_span spans value) n ≡ 0
  zero_inside n value inside = ap (λ (k : ℕ). word_at new (reach_span spans value) k) (inside_here c part net is n inside) ∙ zero_here value

  other_word : (value : Bool) (n : ℕ) → n < length c.nets → n ≢ net.0 → word_at new (reach_span spans value) n ≡ word_at old (reach_span spans value) n
  other_word true n lt ne =
      word_apart spans.ones mid new net.0 0 second in_ones ones_later n ne
      ∙ zeros_other (spans.ones.start + n) (λ e. away net.0 n in_range lt (sym e))
  other_word false n lt ne =
      ones_other (spans.zeros.start + n) (away n net.0 lt in_range)
      ∙ word_apart spans.zeros old mid net.0 0 first in_zeros zeros_end n ne

  pub undriven_reached : 2 ≤ length old.nodes → IsPartReached c part spans old new
  undriven_reached two = record {
    nets = λ n inside. record {
      live = λ value.
          let nodes : length new.nodes ≡ length old.nodes = ap (λ (d : Diagrams). length d.nodes) second ∙ ap (λ (d : Diagrams). length d.nodes) first in
          omega (arith, zero_inside n value inside, nodes, two);
      reaches = λ value v.
          let zero : shows new (reach_span spans value) n v ≡ false = ap (λ (h : ℕ). meaning new.nodes h v) (zero_inside n value inside) ∙ meaning_zero new.nodes v in
          (λ e. absurd (false≢true (sym zero ∙ e)), λ r. absurd (none_reaches c part net is old spans.gates spans.roots v n value inside r));
    };
    others = λ n value lt outside. other_word value n lt (λ e. outside (subst (IsInside part) (sym e) (here_inside c part net is)));
  }

  pub undriven_writes : IsReduced old.vars old.nodes → length old.nodes ≤ old.budget → WritesKept spans old new
  undriven_writes sound within = record {
    adds = adds_rewritten old new (rest_then old mid new (slice_set mid.words (spans.ones.start + net.0) 0) zeros_rest second) sound within;
    len = len_new ∙ len_mid;
    others = λ j z o p. ones_other j (beside spans.ones.start spans.ones.len j o in_ones) ∙ zeros_other j (beside spans.zeros.start spans.zeros.len j z in_zeros);
  }
    where
      zeros_rest : mid ≡ record old { words = mid.words }
      zeros_rest = let write : List ℕ → Diagrams = λ ws. record old { words = ws } in first ∙ ap write (sym (ap (λ (d : Diagrams). d.words) first))

      beside : (start len j : ℕ) → IsBeside (record { start = start; len = len }) j → net.0 < len → j ≢ start + net.0
      beside start len j b lt e = elim b [ inl low ↦ omega (arith, low, e) | inr high ↦ omega (arith, high, e, lt) ]

  pub undriven_spends : {A : Type 0} (u operations : ℕ) (x : A) → SpendsReach {A = A} u operations spans (IsInside part) old new (Ok x)
  undriven_spends u operations x =
      let nodes = ap (λ (d : Diagrams). d.nodes) second ∙ ap (λ (d : Diagrams). d.nodes) first in
      let budget = ap (λ (d : Diagrams). d.budget) second ∙ ap (λ (d : Diagrams). d.budget) first in
      record {
        counts = counts_ok u operations old new x (counted_more u 0 operations old new (omega arith) (counted_same u old new budget nodes));
        within = λ n value inside. subst (λ (h : ℕ). IsWithin u (meaning new.nodes h)) (sym (zero_inside n value inside)) (within_zero u new);
      }
