-- Held values that are written, one after the other.
use Rattle.std.proofs.Common.{◌≡◌, ◌≢◌, ℕ, zero, suc, ◌+◌, ◌-◌, ◌*◌, ◌<◌, ◌≤◌, Bool, true, false, cond, List, [], ◌∷◌, ◌⊎◌, Option, Some, Result, Ok, Err, drop, get_or, length, length-set, slice_index, arith, ap, ap₂, refl, sym, subst, ◌∙◌, inl, inr}
use Rattle.std.specs.Prelude.{◌==◌, IfOk, find, map, slice_get, slice_set}
use Rattle.std.proofs.Math.Seq.{drop-cons}
use Rattle.std.proofs.lemmas.List.Sums.{sum_by-cons, sum_by-take-drop}
use Rattle.std.proofs.lemmas.Bool.{cases_eq, cases_lt, true≢false}
use Rattle.std.proofs.lemmas.Bool.Decides.{Decides-eqb}
use Rattle.std.proofs.lemmas.Option.{same_Some}
use Rattle.node_pool.specs.declared.region.Node.{Node}
use Rattle.node_pool.specs.declared.region.Span.{Span}
use Rattle.bdd_core.proofs.Meaning.{meaning_zero}
use Rattle.bdd_core.specs.Diagram.{Function, IsReduced, IsWithin, Valuation, meaning}
use Rattle.bdd_core.specs.Store.{Diagrams, IsLive, IsSpan, function_of, Gives}
use Rattle.bdd_core.specs.Words.{word_at}
use Rattle.bdd_core.specs.declared.handle.H.{H}
use Rattle.bdd_core.specs.declared.handle.Spent.{Spent}
use Rattle.bdd_ops.proofs.CountingLaws.{counted_same, counts_err, counts_more, counts_ok, counts_then, counts_value}
use Rattle.bdd_ops.proofs.WithinLaws.{within_same}
use Rattle.bdd_ops.specs.Counting.{Counts}
use Rattle.bdd_core.proofs.Frames.{word_apart, word_here, word_other}
use Rattle.vrt_model.specs.Held.{group_bit, group_bit_at, held_by, held_in, member_of}
use Rattle.vrt_model.specs.Lists.{At, differ}
use Rattle.vrt_model.specs.Variables.{entered_bit, places}
use Rattle.vrt_model.specs.declared.circuit.Circuit.{Circuit}
use Rattle.vrt_model.specs.declared.circuit.Hold.{Hold}
use Rattle.vrt_model.specs.declared.groups.Group.{Group as HoldGroup}
use Rattle.vrt_model.specs.declared.groups.Member.{Member}
use Rattle.vrt_model.specs.declared.groups.Source.{Source}
use Rattle.hold_keep.specs.Rooted.{AreRoots, HaveWords, IsRoot, Rewrites, WritesHolds, bits_at, group_function, held_function, members_in, with_groups, with_hold, with_holds}

-- ---- functions of holds

pub roots_same : (c : Circuit) (roots : Span) (d : Diagrams) (f g : ℕ → Function) → ((p : ℕ) (v : Valuation) → f p v ≡ g p v) → AreRoots c roots d f → AreRoots c roots d g
roots_same c roots d f g same are p h e = let here = are p h e in (here.0, λ v. here.1 v ∙ same p v)

-- ---- frames

pub holds_then : (c : Circuit) (roots : Span) (x y z : Diagrams) → WritesHolds c roots x y → WritesHolds c roots y z → WritesHolds c roots x z
holds_then c roots x y z f s =
    let build : Diagrams → Diagrams = λ d. record d { nodes = z.nodes; words = z.words } in
    record {
      rest = s.rest ∙ ap build f.rest;
      sound = s.sound;
      within = s.within;
      longer = (let one = f.longer in let two = s.longer in omega (arith, one, two));
      kept = λ h lt v. s.kept h (let one = f.longer in omega (arith, lt, one)) v ∙ f.kept h lt v;
      len = s.len ∙ f.len;
      others = λ j apart. s.others j apart ∙ f.others j apart;
    }

-- operations that give a function write no word
pub holds_given : (c : Circuit) (roots : Span) (old new : Diagrams) (f : Function) (r : Result H Spent) → IsReduced old.vars old.nodes → Gives old new f r → WritesHolds c roots old new
holds_given c roots old new f r reduced g =
    let words : new.words ≡ old.words = ap (λ (d : Diagrams). d.words) g.adds.rest in
    let build : List ℕ → Diagrams = λ ws. record old { nodes = new.nodes; words = ws } in
    record {
      rest = g.adds.rest ∙ ap build (sym words);
      sound = g.adds.sound;
      within = g.adds.within;
      longer = g.adds.longer;
      kept = g.adds.kept;
      len = ap (λ (ws : List ℕ). length ws) words;
      others = λ j apart. ap (λ (ws : List ℕ). slice_index ws j) words;
    }

-- functions stay where no word is written
pub roots_kept : (c : Circuit) (roots : Span) (old new : Diagrams) (f : ℕ → Function) → WritesHolds c roots old new → new.words ≡ old.words → AreRoots c roots old f → AreRoots c roots new f
roots_kept c roots old new f w words are p h e =
    let here = are p h e in
    let same : word_at new roots h.net.0 ≡ word_at old roots h.net.0 = ap (λ (ws : List ℕ). slice_index ws (roots.start + h.net.0)) words in
    let live = here.0 in
    let more = w.longer in
    (omega (arith, same, live, more), λ v. ap (λ (k : ℕ). meaning new.nodes k v) same ∙ w.kept (word_at old roots h.net.0) live v ∙ here.1 v)

-- one word is written, of the net of a hold
module _ (c : Circuit) (roots : Span) (old new : Diagrams) (place word : ℕ) (hold : Hold) (there : At c.holds place hold) (own : HaveWords c roots)
    (span : IsSpan old roots) (is : new ≡ record old { words = slice_set old.words (roots.start + hold.net.0) word }) where
  nodes_are : new.nodes ≡ old.nodes
  nodes_are = ap (λ (d : Diagrams). d.nodes) is

  words_are : new.words ≡ slice_set old.words (roots.start + hold.net.0) word
  words_are = ap (λ (d : Diagrams). d.words) is

  pub word_written : word_at new roots hold.net.0 ≡ word
  word_written = word_here roots old new hold.net.0 word is (own.nets place hold there) span.1

  pub word_left : (k : ℕ) → k ≢ hold.net.0 → word_at new roots k ≡ word_at old roots k
  word_left k ne = word_apart roots old new hold.net.0 word is (own.nets place hold there) span.1 k ne

  pub holds_written : IsReduced old.vars old.nodes → length old.nodes ≤ old.budget → WritesHolds c roots old new
  holds_written sound within =
      let build : List Node → List ℕ → Diagrams = λ ns ws. record old { nodes = ns; words = ws } in
      record {
        rest = is ∙ ap (build old.nodes) (sym words_are) ∙ ap (λ (ns : List Node). build ns new.words) (sym nodes_are);
        sound = subst (λ (d : Diagrams). IsReduced d.vars d.nodes) (sym is) sound;
        within = subst (λ (d : Diagrams). length d.nodes ≤ d.budget) (sym is) within;
        longer = (let count : length new.nodes ≡ length old.nodes = ap (λ (ns : List Node). length ns) nodes_are in omega (arith, count));
        kept = λ k lt v. ap (λ (ns : List Node). meaning ns k v) nodes_are;
        len = ap (λ (ws : List ℕ). length ws) words_are ∙ length-set old.words (roots.start + hold.net.0) word;
        others = λ j apart. word_other roots old new hold.net.0 word is (own.nets place hold there) span.1 j (apart place hold there);
      }

  -- the function of this hold, and those of the others as they were
  pub root_written : (f : ℕ → Function) (g : Function) → word < length old.nodes → ((v : Valuation) → meaning old.nodes word v ≡ g v) → AreRoots c roots old f
      → AreRoots c roots new (λ p v. cond (place == p) (g v) (f p v))
  root_written f g live same are p h e = by_test (place == p) refl
    where
      count : length new.nodes ≡ length old.nodes
      count = ap (λ (ns : List Node). length ns) nodes_are

      by_test : (b : Bool) → (place == p) ≡ b → IsRoot new roots h.net.0 (λ v. cond b (g v) (f p v))
      by_test true t =
          let one : hold ≡ h = same_Some hold h (sym there ∙ ap (slice_get c.holds) ((Decides-eqb place p).0 t) ∙ e) in
          let here : word_at new roots h.net.0 ≡ word = ap (λ (x : Hold). word_at new roots x.net.0) (sym one) ∙ word_written in
          (omega (arith, here, live, count), λ v. ap (λ (k : ℕ). meaning new.nodes k v) here ∙ ap (λ (ns : List Node). meaning ns word v) nodes_are ∙ same v)
      by_test false t =
          let here = word_left h.net.0 (λ x. true≢false (sym ((Decides-eqb place p).1 (own.apart place p hold h there e (sym x))) ∙ t)) in
          let before = are p h e in
          let low = before.0 in
          (omega (arith, here, low, count), λ v. ap (λ (k : ℕ). meaning new.nodes k v) here ∙ ap (λ (ns : List Node). meaning ns (word_at old roots h.net.0) v) nodes_are ∙ before.1 v)

-- a held value was made, and its word written
pub member_frame : (c : Circuit) (roots : Span) (x y z : Diagrams) (member : Member) (hold : Hold) (held : H) (f : Function) → At c.holds member.hold hold → HaveWords c roots → IsSpan x roots → IsReduced x.vars x.nodes
    → Gives x y f (Ok held) → z ≡ record y { words = slice_set y.words (roots.start + hold.net.0) held.0 } → WritesHolds c roots x z
member_frame c roots x y z member hold held f there own span sound gives is =
    holds_then c roots x y z (holds_given c roots x y f (Ok held) sound gives)
    (holds_written c roots y z member.hold held.0 hold there own (subst (λ (d : Diagrams). IsSpan d roots) (sym gives.adds.rest) span) is gives.adds.sound gives.adds.within)

-- ---- steps

module _ (c : Circuit) (roots : Span) (vars : ℕ) where
  -- one step behind others
  pub rewrites_then : (a b : ℕ) (one two both : (ℕ → Function) → ℕ → Function) (x y z : Diagrams) (o : Unit {0}) (r : Result (Unit {0}) Spent)
      → Rewrites c roots vars a one x y (Ok o) → Rewrites c roots vars b two y z r → ((f : ℕ → Function) (p : ℕ) (v : Valuation) → two (one f) p v ≡ both f p v)
      → Rewrites c roots vars (a + b) both x z r
  rewrites_then a b one two both x y z o (Ok e) f s same = record {
    writes = holds_then c roots x y z f.writes s.writes;
    rooted = λ g are. roots_same c roots z (two (one g)) (both g) (same g) (s.rooted (one g) (f.rooted g are));
    spent = tt;
    counts = λ u most. counts_then u a b x y z (Ok e) (f.counts u most).added (s.counts u most);
  }
  rewrites_then a b one two both x y z o (Err e) f s same = record {
    writes = holds_then c roots x y z f.writes s.writes;
    rooted = tt;
    spent = s.spent;
    counts = λ u most. counts_then u a b x y z (Err e) (f.counts u most).added (s.counts u most);
  }

  -- more operations, and functions that are the same
  pub rewrites_as : (a b : ℕ) (one both : (ℕ → Function) → ℕ → Function) (x y : Diagrams) (r : Result (Unit {0}) Spent) → Rewrites c roots vars a one x y r → a ≤ b
      → ((f : ℕ → Function) (p : ℕ) (v : Valuation) → one f p v ≡ both f p v) → Rewrites c roots vars b both x y r
  rewrites_as a b one both x y (Ok e) s most same = record {
    writes = s.writes;
    rooted = λ g are. roots_same c roots y (one g) (both g) (same g) (s.rooted g are);
    spent = tt;
    counts = λ u low. counts_more u a b x y (Ok e) most (s.counts u low);
  }
  rewrites_as a b one both x y (Err e) s most same =
      record { writes = s.writes; rooted = tt; spent = s.spent; counts = λ u low. counts_more u a b x y (Err e) most (s.counts u low) }

  -- an operation that writes nothing
  pub rewrites_given : (a : ℕ) (g : Function) (x y : Diagrams) (h : H) (o : Unit {0}) → IsReduced x.vars x.nodes → Gives x y g (Ok h) → ((u : ℕ) → vars ≤ u → Counts {A = H} u a x y (Ok h))
      → Rewrites c roots vars a (λ f. f) x y (Ok o)
  rewrites_given a g x y h o sound gives counts = record {
    writes = holds_given c roots x y g (Ok h) sound gives;
    rooted = λ f are. roots_kept c roots x y f (holds_given c roots x y g (Ok h) sound gives) (ap (λ (d : Diagrams). d.words) gives.adds.rest) are;
    spent = tt;
    counts = λ u most. counts_value u a x y h o (counts u most);
  }

  pub rewrites_refused : (a b : ℕ) (g : Function) (change : (ℕ → Function) → ℕ → Function) (x y : Diagrams) (e : Spent) → IsReduced x.vars x.nodes → Gives x y g (Err e)
      → ((u : ℕ) → vars ≤ u → Counts {A = H} u a x y (Err e)) → a ≤ b → Rewrites c roots vars b change x y (Err e)
  rewrites_refused a b g change x y e sound gives counts most = record {
    writes = holds_given c roots x y g (Err e) sound gives;
    rooted = tt;
    spent = gives.spent;
    counts = λ u low. counts_err u b x y e (counts_more u a b x y (Err e) most (counts u low));
  }

  -- a word that is written
  pub rewrites_word : (x y : Diagrams) (place word : ℕ) (hold : Hold) (g : Function) (o : Unit {0}) → At c.holds place hold → HaveWords c roots → IsSpan x roots
      → y ≡ record x { words = slice_set x.words (roots.start + hold.net.0) word } → IsReduced x.vars x.nodes → length x.nodes ≤ x.budget → word < length x.nodes
      → ((v : Valuation) → meaning x.nodes word v ≡ g v) → Rewrites c roots vars 0 (λ f. λ p. λ v. cond (place == p) (g v) (f p v)) x y (Ok o)
  rewrites_word x y place word hold g o there own span is sound within live same = record {
    writes = holds_written c roots x y place word hold there own span is sound within;
    rooted = λ f are. root_written c roots x y place word hold there own span is f g live same are;
    spent = tt;
    counts = λ u most. counts_ok u 0 x y o (counted_same u x y (ap (λ (d : Diagrams). d.budget) is) (ap (λ (d : Diagrams). d.nodes) is));
  }

  -- a refusal says nothing of functions
  pub rewrites_err : (a b : ℕ) (one both : (ℕ → Function) → ℕ → Function) (x y : Diagrams) (e : Spent) → Rewrites c roots vars a one x y (Err e) → a ≤ b → Rewrites c roots vars b both x y (Err e)
  rewrites_err a b one both x y e s most =
      record { writes = s.writes; rooted = tt; spent = s.spent; counts = λ u low. counts_more u a b x y (Err e) most (s.counts u low) }

  -- the held value of a member is written
  pub member_written : (x y z : Diagrams) (member : Member) (hold : Hold) (bit held : H) (o : Unit {0}) → At c.holds member.hold hold → HaveWords c roots → IsSpan x roots → IsReduced x.vars x.nodes
      → Gives x y (λ v. differ member.inverted (function_of x bit v)) (Ok held) → ((u : ℕ) → vars ≤ u → Counts {A = H} u 1 x y (Ok held))
      → z ≡ record y { words = slice_set y.words (roots.start + hold.net.0) held.0 } → Rewrites c roots vars 1 (with_hold member (function_of x bit)) x z (Ok o)
  member_written x y z member hold bit held o there own span sound gives counts is =
      rewrites_then 1 0 (λ f. f) (λ f. λ p. λ v. cond (member.hold == p) (differ member.inverted (function_of x bit v)) (f p v)) (with_hold member (function_of x bit)) x y z o (Ok o)
      (rewrites_given 1 (λ v. differ member.inverted (function_of x bit v)) x y held o sound gives counts)
      (rewrites_word y z member.hold held.0 hold (λ v. differ member.inverted (function_of x bit v)) o there own (subst (λ (d : Diagrams). IsSpan d roots) (sym gives.adds.rest) span) is gives.adds.sound gives.adds.within
      gives.ok.live gives.ok.same)
      (λ f p v. refl)

  -- ---- members, from the last to the first

  joined : (t : Bool) (m : Member) (o : Option Member) (bit rest : Bool) → cond t (differ m.inverted bit) (held_by o bit rest) ≡ held_by (cond t (Some m) o) bit rest
  joined true m o bit rest = refl
  joined false m o bit rest = refl

  module _ (members : List Member) (before at : ℕ) (m d : Member) (x y z : Diagrams) (bit : H) (o : Unit {0}) (down : before ≡ at + 1) (low : at < length members) (is : m ≡ get_or members at d)
      (live : IsLive x bit) (far : Rewrites c roots vars (length members - before) (with_holds (drop before members) (function_of x bit)) x y (Ok o)) where
    same_change : (f : ℕ → Function) (p : ℕ) (v : Valuation)
        → with_hold m (function_of y bit) (with_holds (drop before members) (function_of x bit) f) p v ≡ with_holds (drop at members) (function_of x bit) f p v
    same_change f p v =
        let next : before ≡ suc at = omega (arith, down) in
        let split : drop at members ≡ m ∷ drop before members = drop-cons members at d low ∙ ap₂ (λ (y : Member) (k : ℕ). y ∷ drop k members) (sym is) (sym next) in
        ap (λ (b : Bool). cond (m.hold == p) (differ m.inverted b) (held_by (find (λ (m : Member). m.hold == p) (drop before members)) (function_of x bit v) (f p v))) (far.writes.kept bit.0 live v)
        ∙ joined (m.hold == p) m (find (λ (m : Member). m.hold == p) (drop before members)) (function_of x bit v) (f p v)
        ∙ ap (λ (ms : List Member). held_by (find (λ (m : Member). m.hold == p) ms) (function_of x bit v) (f p v)) (sym split)

    pub members_next : (r : Result (Unit {0}) Spent) → Rewrites c roots vars 1 (with_hold m (function_of y bit)) y z r
        → Rewrites c roots vars (length members - at) (with_holds (drop at members) (function_of x bit)) x z r
    members_next r step =
        rewrites_as (length members - before + 1) (length members - at) (with_holds (drop at members) (function_of x bit)) (with_holds (drop at members) (function_of x bit)) x z r
        (rewrites_then (length members - before) 1 (with_holds (drop before members) (function_of x bit)) (with_hold m (function_of y bit)) (with_holds (drop at members) (function_of x bit)) x y z o r far step same_change)
        (omega (arith, down, low)) (λ f p v. refl)

  pub members_all : (members : List Member) (at : ℕ) (bit : Function) (x y : Diagrams) (r : Result (Unit {0}) Spent) → at ≡ 0
      → Rewrites c roots vars (length members - at) (with_holds (drop at members) bit) x y r → Rewrites c roots vars (length members) (with_holds members bit) x y r
  members_all members at bit x y r is far =
      rewrites_as (length members - at) (length members) (with_holds (drop at members) bit) (with_holds members bit) x y r far (omega arith)
      (λ f p v. ap (λ (k : ℕ). with_holds (drop k members) bit f p v) is)

  -- ---- groups, from the last to the first

  module _ (phase : ℕ) (sources : List Source) (groups : List HoldGroup) where
    abbrev from : ℕ → (ℕ → Function) → ℕ → Function
    from at = with_groups c phase sources at (drop at groups)

    pub groups_next : (before at : ℕ) (group d : HoldGroup) (x y z : Diagrams) (o : Unit {0}) (r : Result (Unit {0}) Spent) → before ≡ at + 1 → at < length groups → group ≡ get_or groups at d
        → Rewrites c roots vars (2 * members_in (drop before groups)) (from before) x y (Ok o)
        → Rewrites c roots vars (2 * length group.members) (with_holds group.members (group_function c phase sources at group)) y z r
        → Rewrites c roots vars (2 * members_in (drop at groups)) (from at) x z r
    groups_next before at group d x y z o r down low is far step =
        let next : before ≡ suc at = omega (arith, down) in
        let split : drop at groups ≡ group ∷ drop before groups = drop-cons groups at d low ∙ ap₂ (λ (g : HoldGroup) (k : ℕ). g ∷ drop k groups) (sym is) (sym next) in
        let count : members_in (drop at groups) ≡ members_in (group ∷ drop before groups) = ap (λ (gs : List HoldGroup). members_in gs) split in
        let sum = sum_by-cons (λ (g : HoldGroup). length g.members) group (drop before groups) in
        rewrites_as (2 * members_in (drop before groups) + 2 * length group.members) (2 * members_in (drop at groups)) (from at) (from at) x z r
        (rewrites_then (2 * members_in (drop before groups)) (2 * length group.members) (from before) (with_holds group.members (group_function c phase sources at group)) (from at) x y z o r far step
        (λ f p v. ap (λ (k : ℕ). with_holds group.members (group_function c phase sources at group) (with_groups c phase sources k (drop before groups) f) p v) next
        ∙ ap (λ (gs : List HoldGroup). with_groups c phase sources at gs f p v) (sym split)))
        (omega (arith, count, sum)) (λ f p v. refl)

-- ---- the whole

-- after some writing
pub span_after : (c : Circuit) (roots : Span) (x y : Diagrams) → WritesHolds c roots x y → IsSpan x roots → IsSpan y roots
span_after c roots x y w span =
    let own : y.own ≡ x.own = ap (λ (d : Diagrams). d.own) w.rest in
    let len = w.len in
    let low = span.0 in
    let high = span.1 in
    (omega (arith, own, low), omega (arith, len, high))

-- the held values by groups, where each was 0
pub groups_held : (c : Circuit) (phase : ℕ) (sources : List Source) (number : ℕ) (groups : List HoldGroup) (place : ℕ) (v : Valuation)
    → with_groups c phase sources number groups (λ p w. false) place v ≡ held_in c phase sources (bits_at sources v) number groups place
groups_held c phase sources number [] place v = refl
groups_held c phase sources number (group ∷ groups) place v =
    ap (λ (rest : Bool). held_by (member_of place group) (group_bit c phase sources (bits_at sources v) number group) rest) (groups_held c phase sources (suc number) groups place v)

below : (p at : ℕ) → p < at + 1 → (p ≡ at → ⊥) → p < at
below p at lt ne = elim (cases_lt p at) [ inl low ↦ low | inr high ↦ absurd (ne (omega (arith, lt, high))) ]

-- one hold more is 0
pub zero_next : (c : Circuit) (roots : Span) (x y z : Diagrams) (at : ℕ) (hold : Hold) → At c.holds at hold → HaveWords c roots → IsSpan x roots → WritesHolds c roots x y → y.nodes ≡ x.nodes
    → z ≡ record y { words = slice_set y.words (roots.start + hold.net.0) 0 } → ((p : ℕ) (h : Hold) → At c.holds p h → p < at → word_at y roots h.net.0 ≡ 0)
    → (p : ℕ) (h : Hold) → At c.holds p h → p < at + 1 → word_at z roots h.net.0 ≡ 0
zero_next c roots x y z at hold there own span w nodes is none p h e lt = by_order (cases_eq h.net.0 hold.net.0)
  where
    before : (h.net.0 ≡ hold.net.0 → ⊥) → (p ≡ at) ⊎ (p ≡ at → ⊥) → p < at
    before ne (inl one) = absurd (ne (ap (λ (k : Hold). k.net.0) (same_Some h hold (sym e ∙ ap (slice_get c.holds) one ∙ there))))
    before ne (inr other) = below p at lt other

    by_order : (h.net.0 ≡ hold.net.0) ⊎ (h.net.0 ≡ hold.net.0 → ⊥) → word_at z roots h.net.0 ≡ 0
    by_order (inl same) = ap (λ (k : ℕ). word_at z roots k) same ∙ word_written c roots y z at 0 hold there own (span_after c roots x y w span) is
    by_order (inr ne) = word_left c roots y z at 0 hold there own (span_after c roots x y w span) is h.net.0 ne ∙ none p h e (before ne (cases_eq p at))

pub zero_roots : (c : Circuit) (roots : Span) (x y : Diagrams) → IsReduced x.vars x.nodes → WritesHolds c roots x y → ((p : ℕ) (h : Hold) → At c.holds p h → word_at y roots h.net.0 ≡ 0)
    → AreRoots c roots y (λ p v. false)
zero_roots c roots x y sound w none p h e =
    let is = none p h e in
    let ends = sound.ends in
    let more = w.longer in
    (omega (arith, is, ends, more), λ v. ap (λ (k : ℕ). meaning y.nodes k v) is ∙ meaning_zero y.nodes v)

-- the word of a hold more, and all that was kept
pub clear_next : (c : Circuit) (roots : Span) (x y z : Diagrams) (at : ℕ) (hold : Hold) → At c.holds at hold → HaveWords c roots → IsSpan x roots → IsReduced x.vars x.nodes → WritesHolds c roots x y
    → z ≡ record y { words = slice_set y.words (roots.start + hold.net.0) 0 } → WritesHolds c roots x z
clear_next c roots x y z at hold there own span sound w is =
    holds_then c roots x y z w (holds_written c roots y z at 0 hold there own (span_after c roots x y w span) is w.sound w.within)

-- a handle from before reads what it read
pub reads_after : (c : Circuit) (roots : Span) (x y : Diagrams) (h : H) (u : ℕ) → WritesHolds c roots x y → IsLive x h → IsWithin u (function_of x h) → IsWithin u (function_of y h)
reads_after c roots x y h u w live reads = within_same u (function_of x h) (function_of y h) (w.kept h.0 live) reads

-- ---- a group

nonempty : (n : ℕ) → (n == 0) ≡ false → 1 ≤ n
nonempty zero e = absurd (true≢false e)
nonempty (suc n) e = omega arith

bits_same : (sources : List Source) (k : ℕ) (v w : Valuation) → ((y : ℕ) → y < k + length sources → v y ≡ w y) → map v (places k sources) ≡ map w (places k sources)
bits_same [] k v w same = refl
bits_same (s ∷ ss) k v w same = ap₂ (λ (b : Bool) (bs : List Bool). b ∷ bs) (same k (omega arith)) (bits_same ss (suc k) v w (λ y lt. same y (omega (arith, lt))))

-- what is read of the variables alone
pub within_bits : (sources : List Source) (f : Function) (g : List Bool → Bool) → ((v : Valuation) → f v ≡ g (bits_at sources v)) → IsWithin (length sources) f
within_bits sources f g is v w same = is v ∙ ap g (bits_same sources 0 v w (λ y lt. same y (omega (arith, lt)))) ∙ sym (is w)

module _ (c : Circuit) (roots : Span) (phase : ℕ) (sources : List Source) (number : ℕ) (group : HoldGroup) (entered : Option Bool) (is_entered : entered ≡ entered_bit c phase group)
    (x y : Diagrams) (some : (length group.members == 0) ≡ false) (sound : IsReduced x.vars x.nodes) where
  abbrev bit_at : Function
  bit_at v = group_bit_at sources (bits_at sources v) number group.element entered

  pub group_refused : (e : Spent) → Gives x y bit_at (Err e) → ((u : ℕ) → length sources ≤ u → Counts {A = H} u 1 x y (Err e))
      → Rewrites c roots (length sources) (2 * length group.members) (with_holds group.members (group_function c phase sources number group)) x y (Err e)
  group_refused e gives counts =
      let many = nonempty (length group.members) some in
      rewrites_refused c roots (length sources) 1 (2 * length group.members) bit_at (with_holds group.members (group_function c phase sources number group)) x y e sound gives counts (omega (arith, many))

  pub group_written : (z : Diagrams) (bit : H) (members : List Member) (r : Result (Unit {0}) Spent) → members ≡ group.members → Gives x y bit_at (Ok bit)
      → ((u : ℕ) → length sources ≤ u → Counts {A = H} u 1 x y (Ok bit))
      → ((vars : ℕ) → IsWithin vars (function_of y bit) → Rewrites c roots vars (length members) (with_holds members (function_of y bit)) y z r)
      → Rewrites c roots (length sources) (2 * length group.members) (with_holds group.members (group_function c phase sources number group)) x z r
  group_written z bit members r are gives counts step =
      let many = nonempty (length group.members) some in
      let len : length members ≡ length group.members = ap (λ (ms : List Member). length ms) are in
      let reads : IsWithin (length sources) (function_of y bit) = within_bits sources (function_of y bit) (λ bits. group_bit_at sources bits number group.element entered) gives.ok.same in
      rewrites_as c roots (length sources) (1 + length members) (2 * length group.members) (with_holds members (function_of y bit)) (with_holds group.members (group_function c phase sources number group)) x z r
      (rewrites_then c roots (length sources) 1 (length members) (λ f. f) (with_holds members (function_of y bit)) (with_holds members (function_of y bit)) x y z tt r
      (rewrites_given c roots (length sources) 1 bit_at x y bit tt sound gives counts) (step (length sources) reads) (λ f p v. refl))
      (omega (arith, many, len))
      (λ f p v.
      ap (λ (ms : List Member). held_by (find (λ (m : Member). m.hold == p) ms) (function_of y bit v) (f p v)) are
      ∙ ap (λ (b : Bool). held_by (find (λ (m : Member). m.hold == p) group.members) b (f p v))
      (gives.ok.same v ∙ ap (λ (o : Option Bool). group_bit_at sources (bits_at sources v) number group.element o) is_entered))

-- ---- the call

pub members_less : (groups : List HoldGroup) (at : ℕ) → members_in (drop at groups) ≤ members_in groups
members_less groups at = let parts = sum_by-take-drop (λ (g : HoldGroup). length g.members) groups at in omega (arith, parts)

-- a refusal at a group
pub groups_refused : (c : Circuit) (roots : Span) (phase : ℕ) (sources : List Source) (groups : List HoldGroup) (at : ℕ) (x z : Diagrams) (e : Spent)
    → Rewrites c roots (length sources) (2 * members_in (drop at groups)) (with_groups c phase sources at (drop at groups)) x z (Err e)
    → Rewrites c roots (length sources) (2 * members_in groups) (with_groups c phase sources 0 groups) x z (Err e)
groups_refused c roots phase sources groups at x z e far =
    let less = members_less groups at in
    rewrites_err c roots (length sources) (2 * members_in (drop at groups)) (2 * members_in groups) (with_groups c phase sources at (drop at groups)) (with_groups c phase sources 0 groups) x z e far (omega (arith, less))

pub groups_all : (c : Circuit) (roots : Span) (phase : ℕ) (sources : List Source) (groups : List HoldGroup) (at : ℕ) (x z : Diagrams) (o : Unit {0}) → at ≡ 0
    → Rewrites c roots (length sources) (2 * members_in (drop at groups)) (with_groups c phase sources at (drop at groups)) x z (Ok o)
    → Rewrites c roots (length sources) (2 * members_in groups) (with_groups c phase sources 0 groups) x z (Ok o)
groups_all c roots phase sources groups at x z o is =
    subst (λ (k : ℕ). Rewrites c roots (length sources) (2 * members_in (drop k groups)) (with_groups c phase sources k (drop k groups)) x z (Ok o)) is

pub held_given : (c : Circuit) (roots : Span) (phase : ℕ) (sources : List Source) (groups : List HoldGroup) (n : ℕ) (x y : Diagrams) (r : Result (Unit {0}) Spent)
    → Rewrites c roots (length sources) n (with_groups c phase sources 0 groups) x y r → AreRoots c roots x (λ p v. false) → IfOk r (λ _. AreRoots c roots y (held_function c groups phase sources))
held_given c roots phase sources groups n x y (Ok o) far none =
    roots_same c roots y (with_groups c phase sources 0 groups (λ p v. false)) (held_function c groups phase sources) (λ p v. groups_held c phase sources 0 groups p v) (far.rooted (λ p v. false) none)
held_given c roots phase sources groups n x y (Err e) far none = tt

pub held_counts : (c : Circuit) (roots : Span) (vars n count : ℕ) (change : (ℕ → Function) → ℕ → Function) (x y z : Diagrams) (r : Result (Unit {0}) Spent) → y.nodes ≡ x.nodes → WritesHolds c roots x y
    → Rewrites c roots vars n change y z r → n ≤ count → (u : ℕ) → vars ≤ u → Counts u count x z r
held_counts c roots vars n count change x y z r same w far most u low =
    counts_more u (0 + n) count x z r (omega (arith, most)) (counts_then u 0 n x y z r (counted_same u x y (ap (λ (d : Diagrams). d.budget) w.rest) same) (far.counts u low))
