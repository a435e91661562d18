-- One device: what it passes on in one direction, and in both.
use Rattle.std.proofs.Common.{◌≡◌, ◌≢◌, ℕ, ◌+◌, ◌<◌, ◌≤◌, Bool, true, false, cond, not, ◌||◌, ◌&&◌, List, Option, Some, None, Ok, get_or, ap, ap₂, refl, sym, subst, ◌∙◌, inl, inr}
use Rattle.std.proofs.lemmas.Bool.{cases_eq, or_cases, and_parts, or_left, or_right, and_from}
use Rattle.std.proofs.lemmas.Option.{same_Some, none-some}
use Rattle.node_pool.specs.declared.region.Span.{Span}
use Rattle.bdd_core.specs.declared.handle.H.{H}
use Rattle.bdd_core.specs.Diagram.{Valuation, meaning}
use Rattle.bdd_core.specs.Store.{Diagrams, Makes}
use Rattle.vrt_model.proofs.PathKinds.{arrives_on, arrives_root}
use Rattle.vrt_model.proofs.Strength.{AtLeast, HopHas, RootHas}
use Rattle.vrt_model.specs.Lists.{At, Among}
use Rattle.vrt_model.specs.Path.{Joins, Network, Root}
use Rattle.vrt_model.specs.Reading.{conducts, conducts_at}
use Rattle.vrt_model.specs.declared.circuit.Circuit.{Circuit}
use Rattle.vrt_model.specs.declared.circuit.Device.{Device}
use Rattle.vrt_model.specs.declared.circuit.FlatNet.{FlatNet}
use Rattle.vrt_model.specs.declared.design.Kind.{Kind}
use Rattle.channel_parts.specs.declared.part.Part.{Part}
use Rattle.path_fixpoint.specs.Parts.{IsGiven, IsPart, IsPlace}
use Rattle.path_fixpoint.specs.Passed.{IsWider, gated}
use Rattle.path_fixpoint.specs.Strengths.{HasPaths, HasWords, IsStrong, Passes, strong, strong_end, word_of}
use Rattle.bdd_core.specs.Words.{IsFilled, Writes, word_at}
use Rattle.bdd_core.proofs.Frames.{shows_kept, adds_words, writes_added}
use Rattle.path_fixpoint.proofs.Places.{EndIs, place_once, place_word, words_differ}
use Rattle.path_fixpoint.specs.declared.words.NetWords.{NetWords}

-- a p-device conducts where its gate is 0
pub blocked_choice : (a b : Bool) → cond a false b ≡ (not a && b)
blocked_choice true b = refl
blocked_choice false b = refl

-- a word that shows a signal too, and the signal that a device passes on
module _ (out : NetWords) (level : ℕ) (kind : Kind) (gate signal : ℕ) (i : ℕ) (old mid new : Diagrams) (passed : H) (changed : Bool)
    (made : Makes old mid (gated kind (meaning old.nodes gate) (meaning old.nodes signal)) (Ok passed))
    (live : IsFilled old out.span)
    (wider : IsWider out.span (word_of out level i) (meaning mid.nodes passed.0) changed mid new)
    (wrote : Writes out.span mid new)
    (apart : (k : ℕ) → k ≢ word_of out level i → word_at new out.span k ≡ word_at mid out.span k)
    (inside : word_of out level i < out.span.len) where
  made_writes : Writes out.span old mid
  made_writes = writes_added out.span old mid live made.adds

  before : (j : ℕ) → word_of out level j < out.span.len → (v : Valuation) → strong mid out level j v ≡ strong old out level j v
  before j lt v = shows_kept out.span out.span old mid (word_of out level j) v made_writes
      (ap (λ (ws : List ℕ). get_or ws (out.span.start + word_of out level j) 0) (adds_words old mid old.words made.adds)) (live (word_of out level j) lt)

  here : (v : Valuation) → strong new out level i v ≡ (strong old out level i v || (conducts_at kind (meaning old.nodes gate v) && meaning old.nodes signal v))
  here v = wider.here v ∙ ap₂ (λ (a b : Bool). a || b) (before i inside v) (made.ok.same v)

  other : (j : ℕ) → word_of out level j < out.span.len → j ≢ i → (v : Valuation) → strong new out level j v ≡ strong old out level j v
  other j lt ne v = shows_kept out.span out.span mid new (word_of out level j) v wrote (apart (word_of out level j) (λ e. ne (words_differ out level j i e))) (made_writes.live (word_of out level j) lt) ∙ before j lt v

  pub passes_from : Passes out level kind gate signal (Some i) changed old new
  passes_from = record {
    grown = λ j lt v e. elim (cases_eq j i) [
      | inl is ↦ subst (λ (x : ℕ). strong new out level x v ≡ true) (sym is)
          (here v ∙ or_left (strong old out level i v) (conducts_at kind (meaning old.nodes gate v) && meaning old.nodes signal v) (subst (λ (x : ℕ). strong old out level x v ≡ true) is e))
      | inr ne ↦ other j lt ne v ∙ e
    ];
    passed = λ j is v on seen. subst (λ (x : ℕ). strong new out level x v ≡ true) (same_Some i j is)
        (here v ∙ or_right (strong old out level i v) (conducts_at kind (meaning old.nodes gate v) && meaning old.nodes signal v)
        (and_from (conducts_at kind (meaning old.nodes gate v)) (meaning old.nodes signal v) on seen));
    only = λ j lt v e. elim (cases_eq j i) [
      | inl is ↦ elim (or_cases (strong old out level i v) (conducts_at kind (meaning old.nodes gate v) && meaning old.nodes signal v)
          (sym (here v) ∙ subst (λ (x : ℕ). strong new out level x v ≡ true) is e)) [
            | inl was ↦ inl (subst (λ (x : ℕ). strong old out level x v ≡ true) (sym is) was)
            | inr new' ↦ let parts = and_parts (conducts_at kind (meaning old.nodes gate v)) (meaning old.nodes signal v) new' in inr (ap Some (sym is), parts.0, parts.1)
          ]
      | inr ne ↦ inl (sym (other j lt ne v) ∙ e)
    ];
    same = λ e. wider.same e ∙ adds_words old mid old.words made.adds;
  }

-- one direction, from the net m to the net n
module _ (c : Circuit) (part : Part) (is_part : IsPart c part) (gates : Span) (out : NetWords) (level : ℕ) (low : 1 ≤ level) (high : level ≤ out.source)
    (kind : Kind) (gate signal : ℕ) (changed : Bool) (m n : ℕ) where
  pub over : (to : Option ℕ) (old new : Diagrams) → EndIs part to n → Passes out level kind gate signal to changed old new
      → (v : Valuation) → conducts_at kind (meaning old.nodes gate v) ≡ true → meaning old.nodes signal v ≡ true → IsStrong part out level new v n
  over None old new f p v on s = λ j q. absurd (f.none refl j q)
  over (Some i) old new f p v on s = λ j q. subst (λ (x : ℕ). strong new out level x v ≡ true) (is_part.once i j n f.some q) (p.passed i refl v on s)

  placed : (to : Option ℕ) (j : ℕ) → EndIs part to n → to ≡ Some j → IsPlace part j n
  placed (Some i) j f e = subst (λ (x : ℕ). IsPlace part x n) (same_Some i j e) f.some
  placed None j f e = absurd (none-some j e)

  pub over_paths : (to : Option ℕ) (old new : Diagrams) (d : Device) (w : Network) (v : Valuation) → HasWords c part gates out old → EndIs part to n
      → Passes out level kind gate signal to changed old new
      → (meaning old.nodes signal v ≡ true → AtLeast w level m) → Among w.devices d → (conducts_at kind (meaning old.nodes gate v) ≡ true → conducts w.reading d ≡ true) → level ≤ d.level → Joins d m n
      → HasPaths part out level old v w → HasPaths part out level new v w
  over_paths to old new d w v words f p from there on le joins paths j k q s =
      elim (p.only j (place_word c part gates out old level j k words low high q) v s) [
        | inl was ↦ paths j k q was
        | inr added ↦
            subst (AtLeast w level) (place_once part j n k (placed to j f added.0) q)
            (arrives_on w (RootHas level) (HopHas level) m n d (from added.2) (there, on added.1) joins le)
      ]

-- what stands at the end of a channel: at a marked net the mark, and where the mark is seen a path ends
module _ (part : Part) (out : NetWords) (level : ℕ) (d : Diagrams) (v : Valuation) where
  pub end_marked : (place : Option ℕ) (n : ℕ) → EndIs part place n → IsStrong part out level d v n → strong_end d out level place v ≡ true
  end_marked (Some i) n e s = s i e.some
  end_marked None n e s = refl

  pub end_path : (w : Network) (place : Option ℕ) (n : ℕ) → EndIs part place n → (place ≡ None → AtLeast w level n) → HasPaths part out level d v w
      → strong_end d out level place v ≡ true → AtLeast w level n
  end_path w (Some i) n e given paths s = paths i n e.some s
  end_path w None n e given paths s = given refl

-- a net outside the part has a given value, so a path of the source level
pub given_path : (c : Circuit) (w : Network) (level n : ℕ) → w.nets ≡ c.nets → level ≤ w.source → IsGiven c n → AtLeast w level n
given_path c w level n nets high given =
    let root : Root = record { net = n; level = w.source; value = w.given n } in
    let there : At w.nets n given.0 = subst (λ (ns : List FlatNet). At ns n given.0) (sym nets) given.1 in
    arrives_root w (RootHas level) (HopHas level) root (inl (given.0, there, given.2, refl, refl)) high
