-- The nets of a part, one after the other.
use Rattle.std.proofs.Common.{◌≡◌, ◌≢◌, ℕ, ◌+◌, ◌*◌, ◌<◌, ◌≤◌, Bool, true, false, List, get_or, length, arith, ap, sym, subst, ◌∙◌, inl, inr}
use Rattle.std.proofs.lemmas.Bool.{cases_eq}
use Rattle.std.proofs.lemmas.Option.{slice_get-get_or}
use Rattle.node_pool.specs.declared.region.Span.{Span}
use Rattle.bdd_core.specs.Diagram.{Function, IsSame, Valuation, meaning}
use Rattle.bdd_core.specs.Store.{Diagrams, IsLive, function_of}
use Rattle.bdd_core.specs.Words.{IsFilled, Writes, shows, word_at}
use Rattle.bdd_core.specs.declared.handle.H.{H}
use Rattle.circuit_faults.proofs.NetLaws.{clear_same, faulty_same}
use Rattle.circuit_faults.specs.Scans.{IsClearNet, IsClearPlace, IsFaultyNet, IsFoundIn, IsInside, IsScannedTo, Reach}
use Rattle.circuit_faults.specs.declared.net.CircuitFault.{CircuitFault}
use Rattle.channel_parts.specs.declared.part.Part.{Part}
use Rattle.path_fixpoint.proofs.Places.{place_once}
use Rattle.path_fixpoint.specs.Parts.{IsPlace}
use Rattle.path_fixpoint.specs.Reaching.{slot_of}
use Rattle.path_fixpoint.specs.Strengths.{word_of}
use Rattle.vrt_model.specs.Lists.{At}
use Rattle.vrt_model.specs.declared.ids.Net.{Net}
use Rattle.path_fixpoint.specs.declared.words.NetWords.{NetWords}
use Rattle.path_fixpoint.specs.Strengths.{net_words}

-- the net of a turn stands at its place
pub net_at : (xs ys : List Net) (i : ℕ) (d : Net) → ys ≡ xs → i < length ys → At xs i (get_or ys i d)
net_at xs ys i d same lt = subst (λ (zs : List Net). At zs i (get_or ys i d)) same (slice_get-get_or ys i d lt)

pub slot_word : (out : NetWords) (value : Bool) (i : ℕ) → net_words out.source * i + net_words out.source ≤ out.span.len → word_of out (slot_of out value) i < out.span.len
slot_word out true i fits = omega (arith, fits)
slot_word out false i fits = omega (arith, fits)

module _ (part : Part) (observed : ℕ → Bool) (care : H) (gates : Span) (reach : Reach) (once : (i j n : ℕ) → IsPlace part i n → IsPlace part j n → i ≡ j) where
  module _ (first old : Diagrams) (wr : Writes gates first old) (care_live : IsLive first care) (i : ℕ) (net : Net) (p : IsPlace part i net.0) (s : IsScannedTo part observed care gates reach i first old)
      (zero one : Function) (zero_same : IsSame zero (reach false i)) (one_same : IsSame one (reach true i)) where
    care_same : IsSame (function_of old care) (function_of first care)
    care_same v = wr.adds.kept care.0 care_live v

    -- a net that is clear in the store of its turn is so in the first
    clear_first : (seen : Bool) → IsClearNet (function_of old care) zero one seen → IsClearNet (function_of first care) (reach false i) (reach true i) seen
    clear_first seen c = clear_same (function_of old care) zero one (function_of first care) (reach false i) (reach true i) care_same zero_same one_same seen c

    -- nodes are added, and the words of other nets stay
    pub scanned_more : (new : Diagrams) → Writes gates old new → IsFilled old gates → IsClearNet (function_of old care) zero one (observed net.0)
        → (observed net.0 ≡ true → (v : Valuation) → shows new gates net.0 v ≡ one v)
        → ((k : ℕ) → k ≢ net.0 → word_at new gates k ≡ word_at old gates k)
        → ((n : ℕ) → IsInside part n → n < gates.len)
        → IsScannedTo part observed care gates reach (i + 1) first new
    scanned_more new next live c here away inside = record {
      clear = λ j n lt q. elim (cases_eq j i) [
        | inl e ↦
            let same : net.0 ≡ n = place_once part i net.0 n p (subst (λ (x : ℕ). IsPlace part x n) e q) in
            let at_i : IsClearPlace observed care reach first i n = subst (λ (m : ℕ). IsClearPlace observed care reach first i m) same (clear_first (observed net.0) c) in
            subst (λ (x : ℕ). IsClearPlace observed care reach first x n) (sym e) at_i
        | inr ne ↦ s.clear j n (omega (arith, lt, ne)) q
      ];
      bits = λ j n lt q seen v. elim (cases_eq j i) [
        | inl e ↦
            let same : net.0 ≡ n = place_once part i net.0 n p (subst (λ (x : ℕ). IsPlace part x n) e q) in
            let at_i : shows new gates n v ≡ reach true i v =
            subst (λ (m : ℕ). shows new gates m v ≡ reach true i v) same
            (here (subst (λ (m : ℕ). observed m ≡ true) (sym same) seen) v ∙ one_same v) in
            subst (λ (x : ℕ). shows new gates n v ≡ reach true x v) (sym e) at_i
        | inr ne ↦
            let word : word_at new gates n ≡ word_at old gates n = away n (λ e. ne (once j i n q (subst (λ (m : ℕ). IsPlace part i m) (sym e) p))) in
            ap (λ (h : ℕ). meaning new.nodes h v) word ∙ next.adds.kept (word_at old gates n) (live n (inside n (j, q))) v ∙ s.bits j n (omega (arith, lt, ne)) q seen v
      ];
      others = λ k none.
          away k (λ e. none i (omega arith) (subst (λ (m : ℕ). IsPlace part i m) (sym e) p))
          ∙ s.others k (λ j lt. none j (omega (arith, lt)));
    }

    pub found_at : (new : Diagrams) (fault : CircuitFault) → fault.place ≡ net.0
        → IsFaultyNet (function_of old care) zero one (observed net.0) fault.kind fault.at new
        → IsFoundIn part observed care reach fault first new
    found_at new fault is f = record {
      place = i;
      stands = subst (λ (m : ℕ). IsPlace part i m) (sym is) p;
      before = λ j n lt q. s.clear j n lt q;
      is = subst (λ (m : ℕ). IsFaultyNet (function_of first care) (reach false i) (reach true i) (observed m) fault.kind fault.at new) (sym is)
          (faulty_same (function_of old care) zero one (function_of first care) (reach false i) (reach true i) care_same zero_same one_same (observed net.0) fault.kind fault.at new f);
    }
