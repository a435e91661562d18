-- What steps over a store leave as it was: steps that add nodes, that write one span or two, and several operations.
use Rattle.std.proofs.Common.{◌≡◌, ◌≢◌, ℕ, ◌+◌, ◌<◌, ◌≤◌, List, Result, Ok, Err, length, length-set, get_or-set_same, get_or-set_other, slice_index, arith, ap, refl, sym, subst, ◌∙◌, inl, inr}
use Rattle.std.specs.Prelude.{slice_set}
use Rattle.std.proofs.lemmas.Bool.{cases_eq}
use Rattle.node_pool.specs.declared.region.Node.{Node}
use Rattle.node_pool.specs.declared.region.Span.{Span}
use Rattle.bdd_core.specs.declared.handle.H.{H}
use Rattle.bdd_core.specs.declared.handle.Spent.{Spent}
use Rattle.bdd_core.specs.Diagram.{Function, Grows, IsReduced, IsSame, Valuation, meaning}
use Rattle.bdd_core.specs.Store.{Adds, AddsNodes, Diagrams, Gives, IsLive, IsSpan, Makes, function_of}
use Rattle.bdd_core.specs.Words.{IsApart, IsBeside, IsFilled, Writes, WritesTwo, shows, word_at}
use Rattle.bdd_core.proofs.Growth.{grows_keeps, grows_length}

-- ---- nodes added

pub adds_none : (d : Diagrams) → IsReduced d.vars d.nodes → length d.nodes ≤ d.budget → AddsNodes d d
adds_none d sound within = record { rest = refl; sound = sound; within = within; longer = omega arith; kept = λ h lt v. refl }

pub adds_then : (a b c : Diagrams) (words more : List ℕ) → Adds a b words → Adds b c more → Adds a c more
adds_then a b c words more f s = record {
  rest = s.rest ∙ ap (λ (d : Diagrams). record d { nodes = c.nodes; words = more }) f.rest;
  sound = s.sound;
  within = s.within;
  longer = omega (arith, f.longer, s.longer);
  kept = λ h lt v. s.kept h (omega (arith, lt, f.longer)) v ∙ f.kept h lt v;
}

-- nodes of one diagram
pub adds_grown : (old new : Diagrams) (f : Function) → new ≡ record old { nodes = new.nodes } → IsReduced new.vars new.nodes → length new.nodes ≤ new.budget
    → Grows old.nodes new.nodes f → AddsNodes old new
adds_grown old new f rest sound within grows = record {
  rest = rest;
  sound = sound;
  within = within;
  longer = grows_length old.nodes new.nodes f grows;
  kept = grows_keeps old.nodes new.nodes f grows;
}

-- words were written, and no node was added
pub adds_rewritten : (old new : Diagrams) → new ≡ record old { words = new.words } → IsReduced old.vars old.nodes → length old.nodes ≤ old.budget → Adds old new new.words
adds_rewritten old new is sound within =
    let nodes : new.nodes ≡ old.nodes = ap (λ (d : Diagrams). d.nodes) is in
    record {
      rest = is ∙ ap (λ (ns : List Node). record old { nodes = ns; words = new.words }) (sym nodes);
      sound = subst (λ (d : Diagrams). IsReduced d.vars d.nodes) (sym is) sound;
      within = subst (λ (d : Diagrams). length d.nodes ≤ d.budget) (sym is) within;
      longer = omega (arith, ap (λ (ns : List Node). length ns) nodes);
      kept = λ h lt v. ap (λ (ns : List Node). meaning ns h v) nodes;
    }

pub adds_words : (old new : Diagrams) (words : List ℕ) → Adds old new words → new.words ≡ words
adds_words old new words a = ap (λ (d : Diagrams). d.words) a.rest

pub nodes_then : (a b c : Diagrams) → AddsNodes a b → AddsNodes b c → AddsNodes a c
nodes_then a b c f s = subst (λ (words : List ℕ). Adds a c words) (adds_words a b a.words f) (adds_then a b c a.words b.words f s)

pub handle_stays : (old new : Diagrams) (words : List ℕ) → Adds old new words → (h : H) → IsLive old h → IsLive new h × IsSame (function_of new h) (function_of old h)
handle_stays old new words a h live = (omega (arith, live, a.longer), a.kept h.0 live)

pub span_stays : (span : Span) (old new : Diagrams) (words : List ℕ) → Adds old new words → length new.words ≡ length old.words → IsSpan old span → IsSpan new span
span_stays span old new words a len is = (subst (λ (d : Diagrams). d.own ≤ span.start) (sym a.rest) is.0, omega (arith, is.1, len))

-- ---- words kept

-- a span that keeps its words keeps live handles in them
filled_same : (span : Span) (old new : Diagrams) (words : List ℕ) → Adds old new words → ((k : ℕ) → k < span.len → word_at new span k ≡ word_at old span k)
    → IsFilled old span → IsFilled new span
filled_same span old new words a same live k lt = omega (arith, same k lt, live k lt, a.longer)

-- a word of a span is beside a span apart from it
pub beside_of : (span other : Span) (k : ℕ) → IsApart span other → k < span.len → IsBeside other (span.start + k)
beside_of span other k apart lt = elim apart [ inl low ↦ inl (omega (arith, low, lt)) | inr high ↦ inr (omega (arith, high)) ]

-- ---- nodes alone

pub word_added : (span : Span) (old new : Diagrams) (k : ℕ) → AddsNodes old new → word_at new span k ≡ word_at old span k
word_added span old new k a = ap (λ (words : List ℕ). slice_index words (span.start + k)) (adds_words old new old.words a)

pub filled_added : (span : Span) (old new : Diagrams) → AddsNodes old new → IsFilled old span → IsFilled new span
filled_added span old new a = filled_same span old new old.words a (λ k lt. word_added span old new k a)

pub span_added : (span : Span) (old new : Diagrams) → AddsNodes old new → IsSpan old span → IsSpan new span
span_added span old new a = span_stays span old new old.words a (ap (λ (words : List ℕ). length words) (adds_words old new old.words a))

-- ---- one span

pub writes_none : (out : Span) (d : Diagrams) → IsReduced d.vars d.nodes → length d.nodes ≤ d.budget → IsFilled d out → Writes out d d
writes_none out d sound within live = record { adds = adds_none d sound within; len = refl; others = λ j o. refl; live = live }

pub writes_then : (out : Span) (a b c : Diagrams) → Writes out a b → Writes out b c → Writes out a c
writes_then out a b c f s = record {
  adds = adds_then a b c b.words c.words f.adds s.adds;
  len = s.len ∙ f.len;
  others = λ j o. s.others j o ∙ f.others j o;
  live = s.live;
}

-- what a step that adds nodes alone says of a span of live handles
pub writes_added : (out : Span) (old new : Diagrams) → IsFilled old out → AddsNodes old new → Writes out old new
writes_added out old new live a =
    let words = adds_words old new old.words a in
    record {
      adds = subst (λ (ws : List ℕ). Adds old new ws) (sym words) a;
      len = ap (λ (ws : List ℕ). length ws) words;
      others = λ j o. ap (λ (ws : List ℕ). slice_index ws j) words;
      live = filled_added out old new a live;
    }

-- live handles were written into words of the span, and no node was added
pub writes_words : (out : Span) (old new : Diagrams) → new ≡ record old { words = new.words } → IsReduced old.vars old.nodes → length old.nodes ≤ old.budget
    → length new.words ≡ length old.words → ((j : ℕ) → IsBeside out j → slice_index new.words j ≡ slice_index old.words j)
    → ((k : ℕ) → k < out.len → word_at new out k < length old.nodes) → Writes out old new
writes_words out old new is sound within len others live =
    let adds = adds_rewritten old new is sound within in
    record { adds = adds; len = len; others = others; live = λ k lt. omega (arith, live k lt, adds.longer) }

-- the constant 0 was written into each word of the span
pub writes_zero : (out : Span) (old new : Diagrams) → new ≡ record old { words = new.words } → IsReduced old.vars old.nodes → length old.nodes ≤ old.budget
    → length new.words ≡ length old.words → ((j : ℕ) → IsBeside out j → slice_index new.words j ≡ slice_index old.words j)
    → ((k : ℕ) → k < out.len → word_at new out k ≡ 0) → Writes out old new
writes_zero out old new is sound within len others zero = writes_words out old new is sound within len others (λ k lt. omega (arith, zero k lt, sound.ends))

-- one word of the span is written
module _ (out : Span) (old new : Diagrams) (at h : ℕ) (is : new ≡ record old { words = slice_set old.words (out.start + at) h })
    (at_in : at < out.len) (span : out.start + out.len ≤ length old.words) where
  written : new.words ≡ slice_set old.words (out.start + at) h
  written = ap (λ (d : Diagrams). d.words) is

  pub word_here : word_at new out at ≡ h
  word_here = ap (λ (ws : List ℕ). slice_index ws (out.start + at)) written ∙ get_or-set_same old.words (out.start + at) h 0 (omega (arith, at_in, span))

  pub word_other : (j : ℕ) → j ≢ out.start + at → slice_index new.words j ≡ slice_index old.words j
  word_other j ne = ap (λ (ws : List ℕ). slice_index ws j) written ∙ get_or-set_other old.words (out.start + at) j h 0 ne

  pub word_apart : (k : ℕ) → k ≢ at → word_at new out k ≡ word_at old out k
  word_apart k ne = word_other (out.start + k) (λ e. ne (omega (arith, e)))

  pub writes_word : h < length old.nodes → IsReduced old.vars old.nodes → length old.nodes ≤ old.budget → IsFilled old out → Writes out old new
  writes_word h_in sound within live =
      writes_words out old new (is ∙ ap (λ (ws : List ℕ). record old { words = ws }) (sym written)) sound within
      (ap (λ (ws : List ℕ). length ws) written ∙ length-set old.words (out.start + at) h)
      (λ j o. word_other j (λ e. elim o [ inl low ↦ omega (arith, low, e) | inr high ↦ omega (arith, high, e, at_in) ]))
      (λ k lt. elim (cases_eq k at) [
        | inl e ↦ (let here : word_at new out k ≡ h = subst (λ (x : ℕ). word_at new out x ≡ h) (sym e) word_here in omega (arith, here, h_in))
        | inr ne ↦ omega (arith, word_apart k ne, live k lt)
      ])

-- a step that writes one word, after others that wrote words alone
pub rest_then : (a b c : Diagrams) (ws : List ℕ) → b ≡ record a { words = b.words } → c ≡ record b { words = ws } → c ≡ record a { words = c.words }
rest_then a b c ws first second =
    let write : List ℕ → Diagrams = λ xs. record a { words = xs } in
    let words : c.words ≡ ws = ap (λ (d : Diagrams). d.words) second in
    second ∙ ap (λ (d : Diagrams). record d { words = ws }) first ∙ ap write (sym words)

-- a word that did not change shows what it showed
pub shows_kept : (out span : Span) (old new : Diagrams) (k : ℕ) (v : Valuation) → Writes out old new → word_at new span k ≡ word_at old span k
    → word_at old span k < length old.nodes → shows new span k v ≡ shows old span k v
shows_kept out span old new k v w same live = ap (λ (h : ℕ). meaning new.nodes h v) same ∙ w.adds.kept (word_at old span k) live v

pub span_written : (out span : Span) (old new : Diagrams) → Writes out old new → IsSpan old span → IsSpan new span
span_written out span old new w = span_stays span old new new.words w.adds w.len

-- the words of another span do not change
pub word_beside : (out span : Span) (old new : Diagrams) (k : ℕ) → Writes out old new → IsApart span out → k < span.len → word_at new span k ≡ word_at old span k
word_beside out span old new k w apart lt = w.others (span.start + k) (beside_of span out k apart lt)

pub filled_beside : (out span : Span) (old new : Diagrams) → Writes out old new → IsApart span out → IsFilled old span → IsFilled new span
filled_beside out span old new w apart = filled_same span old new new.words w.adds (λ k lt. word_beside out span old new k w apart lt)

pub shows_beside : (out span : Span) (old new : Diagrams) (k : ℕ) (v : Valuation) → Writes out old new → IsApart span out → IsFilled old span → k < span.len
    → shows new span k v ≡ shows old span k v
shows_beside out span old new k v w apart live lt = shows_kept out span old new k v w (word_beside out span old new k w apart lt) (live k lt)

-- ---- two spans

-- a span within another
pub record IsWithinSpan (inner outer : Span) : Type 0 where
  pub start : outer.start ≤ inner.start
  pub fits : inner.start + inner.len ≤ outer.start + outer.len

beside_inner : (inner outer : Span) (j : ℕ) → IsWithinSpan inner outer → IsBeside outer j → IsBeside inner j
beside_inner inner outer j w (inl low) = inl (omega (arith, low, w.start))
beside_inner inner outer j w (inr high) = inr (omega (arith, high, w.fits))

pub two_then : (a b : Span) (x y z : Diagrams) → WritesTwo a b x y → WritesTwo a b y z → WritesTwo a b x z
two_then a b x y z f s = record {
  adds = adds_then x y z y.words z.words f.adds s.adds;
  len = s.len ∙ f.len;
  others = λ j p q. s.others j p q ∙ f.others j p q;
}

pub two_first : (a b : Span) (old new : Diagrams) → Writes a old new → WritesTwo a b old new
two_first a b old new w = record { adds = w.adds; len = w.len; others = λ j p q. w.others j p }

pub two_wider : (a inner outer : Span) (old new : Diagrams) → IsWithinSpan inner outer → WritesTwo a inner old new → WritesTwo a outer old new
two_wider a inner outer old new within w = record { adds = w.adds; len = w.len; others = λ j p q. w.others j p (beside_inner inner outer j within q) }

-- a span apart from both keeps its words and their functions
module _ (a b span : Span) (old new : Diagrams) (w : WritesTwo a b old new) (apart_a : IsApart span a) (apart_b : IsApart span b) where
  pub two_word : (k : ℕ) → k < span.len → word_at new span k ≡ word_at old span k
  two_word k lt = w.others (span.start + k) (beside_of span a k apart_a lt) (beside_of span b k apart_b lt)

  pub two_filled : IsFilled old span → IsFilled new span
  two_filled = filled_same span old new new.words w.adds two_word

pub two_span : (a b span : Span) (old new : Diagrams) → WritesTwo a b old new → IsSpan old span → IsSpan new span
two_span a b span old new w = span_stays span old new new.words w.adds w.len

-- ---- several operations

pub gives_made : (old new : Diagrams) (f g : Function) (r : Result H Spent) → IsSame f g → Makes old new f r → Gives old new g r
gives_made old new f g (Ok r) same m = record { adds = m.adds; ok = record { live = m.ok.live; same = λ v. m.ok.same v ∙ same v }; spent = tt }
gives_made old new f g (Err s) same m = record { adds = m.adds; ok = tt; spent = (m.spent.number, m.spent.full) }

pub gives_none : (d : Diagrams) (f : Function) (r : H) → IsReduced d.vars d.nodes → length d.nodes ≤ d.budget → IsLive d r → IsSame (function_of d r) f → Gives d d f (Ok r)
gives_none d f r sound within live same = record { adds = adds_none d sound within; ok = record { live = live; same = same }; spent = tt }

-- the same function in other words
pub gives_same : (a b : Diagrams) (f g : Function) (r : Result H Spent) → IsSame f g → Gives a b f r → Gives a b g r
gives_same a b f g (Ok p) same x = record { adds = x.adds; ok = record { live = x.ok.live; same = λ v. x.ok.same v ∙ same v }; spent = tt }
gives_same a b f g (Err s) same x = record { adds = x.adds; ok = tt; spent = x.spent }

-- a refusal says nothing of the function
pub gives_error : (a b : Diagrams) (f g : Function) (s : Spent) → Gives a b f (Err s) → Gives a b g (Err s)
gives_error a b f g s x = record { adds = x.adds; ok = tt; spent = x.spent }

-- an operation, and then the rest
pub gives_next : (a b c : Diagrams) (f g h : Function) (p : H) (r : Result H Spent) → Gives a b f (Ok p) → Gives b c g r → IsSame g h → Gives a c h r
gives_next a b c f g h p (Ok r) first second same = record {
  adds = nodes_then a b c first.adds second.adds;
  ok = record { live = second.ok.live; same = λ v. second.ok.same v ∙ same v };
  spent = tt;
}
gives_next a b c f g h p (Err s) first second same = record { adds = nodes_then a b c first.adds second.adds; ok = tt; spent = second.spent }

pub gives_refused : (a b c : Diagrams) (f g h : Function) (p : H) (s : Spent) → Gives a b f (Ok p) → Gives b c g (Err s) → Gives a c h (Err s)
gives_refused a b c f g h p s first second = record { adds = nodes_then a b c first.adds second.adds; ok = tt; spent = second.spent }
