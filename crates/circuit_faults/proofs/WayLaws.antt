-- Where the values reach the nets of a part, while words beside those of the part are written.
use Rattle.std.proofs.Common.{◌≡◌, ℕ, ◌+◌, ◌*◌, ◌<◌, ◌≤◌, Bool, Option, Some, None, Result, Ok, Err, IfOk, IfSome, get_or, length, arith, inr, ap, refl, sym, subst, ◌∙◌}
use Rattle.std.proofs.lemmas.Option.{slice_get-get_or}
use Rattle.vrt_model.specs.declared.circuit.Circuit.{Circuit}
use Rattle.vrt_model.specs.declared.ids.Net.{Net}
use Rattle.node_pool.specs.declared.region.Span.{Span}
use Rattle.bdd_core.proofs.Frames.{shows_beside, writes_added}
use Rattle.bdd_core.specs.Diagram.{IsSame, IsWithin, Valuation, meaning}
use Rattle.bdd_core.specs.Store.{AddsNodes, Diagrams, IsLive}
use Rattle.bdd_core.specs.Words.{IsApart, IsFilled, Writes, word_at}
use Rattle.bdd_core.specs.declared.handle.H.{H}
use Rattle.bdd_ops.proofs.WithinLaws.{within_same}
use Rattle.circuit_faults.proofs.ScanLaws.{slot_word}
use Rattle.circuit_faults.specs.Scans.{TellsWhere, reached}
use Rattle.circuit_faults.specs.Small.{AreFewAt, AreReady, IsInner, IsWay, reach_of}
use Rattle.part_functions.proofs.ComposeLaws.{inner_kept, live_kept, within_kept}
use Rattle.part_functions.specs.Inner.{AreLive, inner}
use Rattle.part_functions.specs.Small.{IsSmall}
use Rattle.part_functions.specs.Replaced.{AreInner, TellsInner}
use Rattle.part_functions.specs.declared.few.PartFunctions.{PartFunctions}
use Rattle.channel_parts.specs.declared.part.Part.{Part}
use Rattle.path_fixpoint.specs.Reaching.{slot_of}
use Rattle.path_fixpoint.specs.Solved.{HasRootSpans, TellsReach, network_at}
use Rattle.path_fixpoint.specs.Strengths.{circuit_words, net_words, strong, word_of}
use Rattle.path_fixpoint.proofs.SourceLevels.{words_back}
use Rattle.vrt_model.specs.Levels.{source_level}
use Rattle.path_fixpoint.specs.declared.words.NetWords.{NetWords}

module _ (gates : Span) (out : NetWords) (first old : Diagrams) (wr : Writes gates first old) (apart : IsApart out.span gates) (filled : IsFilled first out.span) where
  words_kept : (value : Bool) (i : ℕ) → net_words out.source * i + net_words out.source ≤ out.span.len → IsSame (reached old out value i) (reached first out value i)
  words_kept value i fits v = shows_beside gates out.span first old (word_of out (slot_of out value) i) v wr apart filled (slot_word out value i fits)

  pub reach_kept : (way : Option PartFunctions) (value : Bool) (i : ℕ) → net_words out.source * i + net_words out.source ≤ out.span.len → AreReady way first out i
      → IsSame (reach_of way old out value i) (reach_of way first out value i)
  reach_kept None value i fits ready v = words_kept value i fits v
  reach_kept (Some f) value i fits ready v =
      words_kept value i fits (inner f old v) ∙ ap (λ (w : Valuation). reached first out value i w) (inner_kept f first old old.words wr.adds ready.1 v)

  pub ready_kept : (way : Option PartFunctions) (i : ℕ) → net_words out.source * i + net_words out.source ≤ out.span.len → AreReady way first out i → AreReady way old out i
  ready_kept None i fits ready = ready
  ready_kept (Some f) i fits ready =
      (ready.0, live_kept f first old old.words wr.adds ready.1, λ value. within_same f.count (reached first out value i) (reached old out value i) (words_kept value i fits) (ready.2 value))

  pub few_kept : (u : ℕ) (way : Option PartFunctions) (i : ℕ) → AreReady way first out i → AreFewAt u way first → AreFewAt u way old
  few_kept u None i ready few = few
  few_kept u (Some f) i ready few = (few.0, within_kept f first old old.words wr.adds ready.1 u few.1)

-- ---- as it was solved

-- the handle in the word of a value is one over the variables that stand for functions
pub inner_of : (f : PartFunctions) (d : Diagrams) (out : NetWords) (place : ℕ) (value : Bool) (h : H) → h.0 ≡ word_at d out.span (word_of out (slot_of out value) place) → IsLive d h
    → AreReady (Some f) d out place → IsInner f d h
inner_of f d out place value h is live ready = record {
  live = live;
  within = subst (λ (k : ℕ). IsWithin f.count (meaning d.nodes k)) (sym is) (ready.2 value);
  few = ready.0;
  there = ready.1;
}

module _ (c : Circuit) (part : Part) (gates roots : Span) (out : NetWords) (old new : Diagrams) (wr : Writes out.span old new) (f : PartFunctions) (live : AreLive f old) where
  -- what the words say over the variables that stand for functions
  pub tells_small : TellsInner f c part gates roots out old new → TellsWhere c part roots gates (reach_of (Some f) new out) old
  tells_small tells v i n value p =
      let says = tells v i n value p in
      let same : strong new out (slot_of out value) i (inner f new v) ≡ strong new out (slot_of out value) i (inner f old v) =
      ap (λ (w : Valuation). strong new out (slot_of out value) i w) (inner_kept f old new new.words wr.adds live v) in
      (λ e. says.0 (sym same ∙ e), λ r. same ∙ says.1 r)

  pub ready_small : f.count ≤ 6 → AreInner f part out new → (i : ℕ) → i < length part.nets → AreReady (Some f) new out i
  ready_small few inside i lt =
      let net : Net = get_or part.nets i (record { 0 = 0 }) in
      (few, live_kept f old new new.words wr.adds live, λ value. inside i net.0 value (net, slice_get-get_or part.nets i (record { 0 = 0 }) lt, refl))

pub tells_plain : (c : Circuit) (part : Part) (gates roots : Span) (out : NetWords) (old new : Diagrams)
    → ((v : Valuation) → TellsReach part out new v (network_at old c part gates roots v)) → TellsWhere c part roots gates (reach_of None new out) old
tells_plain c part gates roots out old new tells v i n value p = tells v i n value p

pub way_is : (o : Option PartFunctions) (c : Circuit) (part : Part) (gates roots : Span) (d : Diagrams) → IfSome o (λ f. IsSmall f c part gates roots d) → IsWay o c part gates roots d
way_is None c part gates roots d s = tt
way_is (Some f) c part gates roots d s = s

-- ---- by the words of the circuit's source level

pub if_ok_both : {A B : Type 0} (P Q R : A → Type 0) (r : Result A B) → ((x : A) → P x → Q x → R x) → IfOk r P → IfOk r Q → IfOk r R
if_ok_both P Q R (Ok x) all p q = all x p q
if_ok_both P Q R (Err e) all p q = tt

module _ (c : Circuit) (part : Part) (gates roots : Span) (out : NetWords) (source : out.source ≡ source_level c) (old : Diagrams) where
  pub spans_words : HasRootSpans c part gates roots out old → HasRootSpans c part gates roots (circuit_words c out.span) old
  spans_words spans = subst (λ (w : NetWords). HasRootSpans c part gates roots w old) (sym (words_back c out source)) spans

  pub inner_words : (f : PartFunctions) (new : Diagrams) → AreInner f part (circuit_words c out.span) new → AreInner f part out new
  inner_words f new inside = subst (λ (w : NetWords). AreInner f part w new) (words_back c out source) inside

  pub small_words : (f : PartFunctions) (new : Diagrams) → TellsInner f c part gates roots (circuit_words c out.span) old new → TellsInner f c part gates roots out old new
  small_words f new tells = subst (λ (w : NetWords). TellsInner f c part gates roots w old new) (words_back c out source) tells

  pub plain_words : (new : Diagrams) → ((v : Valuation) → TellsReach part (circuit_words c out.span) new v (network_at old c part gates roots v))
      → (v : Valuation) → TellsReach part out new v (network_at old c part gates roots v)
  plain_words new tells = subst (λ (w : NetWords). (v : Valuation) → TellsReach part w new v (network_at old c part gates roots v)) (words_back c out source) tells

-- ---- nodes are added and no word is written

abbrev no_words : Span
no_words = record { start = 0; len = 0 }

module _ (out : NetWords) (first old : Diagrams) (adds : AddsNodes first old) (filled : IsFilled first out.span) where
  none_written : Writes no_words first old
  none_written = writes_added no_words first old (λ k lt. absurd (omega (arith, lt))) adds

  none_apart : IsApart out.span no_words
  none_apart = inr (omega arith)

  pub reach_added : (way : Option PartFunctions) (value : Bool) (i : ℕ) → net_words out.source * i + net_words out.source ≤ out.span.len → AreReady way first out i
      → IsSame (reach_of way old out value i) (reach_of way first out value i)
  reach_added way value i fits ready = reach_kept no_words out first old none_written none_apart filled way value i fits ready

  pub ready_added : (way : Option PartFunctions) (i : ℕ) → net_words out.source * i + net_words out.source ≤ out.span.len → AreReady way first out i → AreReady way old out i
  ready_added way i fits ready = ready_kept no_words out first old none_written none_apart filled way i fits ready

  pub few_added : (u : ℕ) (way : Option PartFunctions) (i : ℕ) → AreReady way first out i → AreFewAt u way first → AreFewAt u way old
  few_added u way i ready few = few_kept no_words out first old none_written none_apart filled u way i ready few
