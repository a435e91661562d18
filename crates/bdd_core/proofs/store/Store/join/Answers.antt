use Rattle.std.proofs.Common.{◌≡◌, ℕ, Bool, true, false, cond, ◌≤◌, length, refl, ap, ◌∙◌, subst, arith, inl, inr, Ok, Err}
use Rattle.std.proofs.lemmas.List.{get_or_default, length_push}
use Rattle.node_pool.specs.declared.region.Node.{Node}
use Rattle.bdd_core.specs.Diagram.{Function, Grows, top, no_node, node_at, meaning, IsProper, IsReduced, choice, bit_of}
use Rattle.bdd_core.specs.Inside.{diagrams_of}
use Rattle.bdd_core.specs.Store.{Diagrams, Makes}
use Rattle.bdd_core.proofs.Frames.{adds_grown}
use Rattle.bdd_core.proofs.Made.{IsStep, join, mk_sound, mk_grows, mk_means}
use Rattle.bdd_core.proofs.MakesLaws.{canonical_of, makes_none}
use Rattle.bdd_core.proofs.MemoLaws.{remembers_grow}
use Rattle.bdd_core.proofs.Growth.{grows_none}
use Rattle.bdd_core.proofs.Steps.{lacks_node}
use Rattle.bdd_core.proofs.store.Store.join.Goals as goal

cond_same : (b c : Bool) → c ≡ cond b c c
cond_same true c = refl
cond_same false c = refl

pub returns-then-eq : goal.returns-then-eq
returns-then-eq c =
    let d : Diagrams = c.args.self.now in
    let e : c.args.lo.0 ≡ c.args.hi.0 = grind (arith, c.eq.ensures, c.if-eq.true) in
    let sound : IsReduced d.vars d.nodes = subst (λ z. IsReduced z.vars z.nodes) c.self.view_is c.self.invariant.reduced in
    let within : length d.nodes ≤ d.budget = subst (λ z. length z.nodes ≤ z.budget) c.self.view_is c.self.invariant.fits in
    makes_none d (choice (bit_of c.args.var) (meaning d.nodes c.args.hi.0) (meaning d.nodes c.args.lo.0)) c.args.lo sound within
    (record { live = c.requires.lo; same = λ v. rw e (cond_same (v c.args.var) (meaning d.nodes c.args.hi.0 v)) })

pub returns-in_default : goal.returns-in_default
returns-in_default c =
    let vars : ℕ = c.self.inside.vars in
    let ns = c.self.inside.pool.nodes in
    let ms = c.add_node.new.self.nodes in
    let n : Node = record { var = c.args.var; lo = c.args.lo.0; hi = c.args.hi.0 } in
    let same : ns ≡ c.args.self.now.nodes = ap (λ d. d.nodes) c.self.view_is in
    let same_vars : vars ≡ c.args.self.now.vars = ap (λ d. d.vars) c.self.view_is in
    let proper : IsProper vars ns n (length ns) = record {
      lo_below = omega (arith, ap length same, c.requires.lo);
      hi_below = omega (arith, ap length same, c.requires.hi);
      differ = λ e. grind (arith, c.eq.ensures, c.if-eq.false, e);
      lo_later = omega (arith, ap (λ xs. top xs c.args.lo.0) same, c.requires.lo_later);
      hi_later = omega (arith, ap (λ xs. top xs c.args.hi.0) same, c.requires.hi_later);
      var_below = omega (arith, c.requires.var);
    } in
    let none = c.in_default.ensures.none refl in
    let kept : ms ≡ ns = ap (λ d. d.nodes) none.2 in
    let words : c.add_node.new.self.words ≡ c.self.inside.pool.words = ap (λ d. d.words) none.2 in
    let room : c.add_node.new.self.word_room ≡ c.self.inside.pool.word_room = ap (λ d. d.word_room) none.2 in
    let sound : IsReduced vars ms = rw kept c.self.invariant.reduced in
    let after : Diagrams = record { nodes = ms; words = c.add_node.new.self.words; word_room = c.add_node.new.self.word_room; budget = c.self.inside.budget; vars = vars; own = 0 } in
    let whole : Function = choice (bit_of c.args.var) (meaning ns c.args.hi.0) (meaning ns c.args.lo.0) in
    let grows : Grows ns ms whole = rw kept (grows_none ns whole) in
    subst (λ z. Makes z after (choice (bit_of c.args.var) (meaning z.nodes c.args.hi.0) (meaning z.nodes c.args.lo.0)) (Err (record { nodes = c.self.inside.budget }))) c.self.view_is (record {
      adds = adds_grown (diagrams_of c.self.inside) after whole (rw (words, room) refl) sound (rw kept c.self.invariant.fits) grows;
      canonical = canonical_of after sound;
      grows = grows;
      ok = tt;
      spent = record {
        number = refl;
        full = ap length kept ∙ none.1 ∙ c.self.invariant.room;
        lacks = rw kept (lacks_node vars ns n (join ns n) c.self.invariant.reduced proper none.0 (λ v. refl));
      };
    })

pub invariant_of-self-2 : goal.invariant_of-self-2
invariant_of-self-2 c =
    let vars : ℕ = c.self.inside.vars in
    let ns = c.self.inside.pool.nodes in
    let ms = c.add_node.new.self.nodes in
    let n : Node = record { var = c.args.var; lo = c.args.lo.0; hi = c.args.hi.0 } in
    let same : ns ≡ c.args.self.now.nodes = ap (λ d. d.nodes) c.self.view_is in
    let same_vars : vars ≡ c.args.self.now.vars = ap (λ d. d.vars) c.self.view_is in
    let proper : IsProper vars ns n (length ns) = record {
      lo_below = omega (arith, ap length same, c.requires.lo);
      hi_below = omega (arith, ap length same, c.requires.hi);
      differ = λ e. grind (arith, c.eq.ensures, c.if-eq.false, e);
      lo_later = omega (arith, ap (λ xs. top xs c.args.lo.0) same, c.requires.lo_later);
      hi_later = omega (arith, ap (λ xs. top xs c.args.hi.0) same, c.requires.hi_later);
      var_below = omega (arith, c.requires.var);
    } in
    let step : IsStep ns ms n = elim (c.in-Some.ensures.some refl) [ inl there ↦ inl (there.0, ap (λ d. d.nodes) there.1) | inr new ↦ inr (new.0, ap (λ d. d.nodes) new.2) ] in
    record {
      reduced = mk_sound vars ns ms n c.self.invariant.reduced proper step;
      room = elim (c.in-Some.ensures.some refl) [
        | inl there ↦ ap (λ d. d.node_room) there.1 ∙ c.self.invariant.room
        | inr new ↦ ap (λ d. d.node_room) new.2 ∙ c.self.invariant.room
      ];
      fits = elim (c.in-Some.ensures.some refl) [
        | inl there ↦ omega (arith, ap (λ d. length d.nodes) there.1, c.self.invariant.fits)
        | inr new ↦ omega (arith, ap (λ d. length d.nodes) new.2, length_push ns n, new.1, c.self.invariant.room)
      ];
      memo = remembers_grow ns ms (join ns n) c.self.inside.memo (mk_grows vars ns ms n c.self.invariant.reduced proper step) c.self.invariant.memo;
      budget_fits = c.self.invariant.budget_fits;
      vars_fit = c.self.invariant.vars_fit;
    }

pub returns : goal.returns
returns c =
    let vars : ℕ = c.self.inside.vars in
    let ns = c.self.inside.pool.nodes in
    let ms = c.add_node.new.self.nodes in
    let n : Node = record { var = c.args.var; lo = c.args.lo.0; hi = c.args.hi.0 } in
    let same : ns ≡ c.args.self.now.nodes = ap (λ d. d.nodes) c.self.view_is in
    let same_vars : vars ≡ c.args.self.now.vars = ap (λ d. d.vars) c.self.view_is in
    let proper : IsProper vars ns n (length ns) = record {
      lo_below = omega (arith, ap length same, c.requires.lo);
      hi_below = omega (arith, ap length same, c.requires.hi);
      differ = λ e. grind (arith, c.eq.ensures, c.if-eq.false, e);
      lo_later = omega (arith, ap (λ xs. top xs c.args.lo.0) same, c.requires.lo_later);
      hi_later = omega (arith, ap (λ xs. top xs c.args.hi.0) same, c.requires.hi_later);
      var_below = omega (arith, c.requires.var);
    } in
    let some = c.in-Some.ensures.some refl in
    let step : IsStep ns ms n = elim some [ inl there ↦ inl (there.0, ap (λ d. d.nodes) there.1) | inr new ↦ inr (new.0, ap (λ d. d.nodes) new.2) ] in
    let words : c.add_node.new.self.words ≡ c.self.inside.pool.words = elim some [ inl there ↦ ap (λ d. d.words) there.1 | inr new ↦ ap (λ d. d.words) new.2 ] in
    let room : c.add_node.new.self.word_room ≡ c.self.inside.pool.word_room = elim some [ inl there ↦ ap (λ d. d.word_room) there.1 | inr new ↦ ap (λ d. d.word_room) new.2 ] in
    let within : length ms ≤ c.self.inside.budget = elim some [
      | inl there ↦ omega (arith, ap (λ d. length d.nodes) there.1, c.self.invariant.fits)
      | inr new ↦ omega (arith, ap (λ d. length d.nodes) new.2, length_push ns n, new.1, c.self.invariant.room)
    ] in
    let place = c.in-Some.ensures.place in
    let at : node_at ms c.in-Some.at ≡ n = get_or_default ms c.in-Some.at no_node n place.0 ∙ place.1 in
    let sound : IsReduced vars ms = mk_sound vars ns ms n c.self.invariant.reduced proper step in
    let after : Diagrams = record { nodes = ms; words = c.add_node.new.self.words; word_room = c.add_node.new.self.word_room; budget = c.self.inside.budget; vars = vars; own = 0 } in
    let grows = mk_grows vars ns ms n c.self.invariant.reduced proper step in
    subst (λ z. Makes z after (choice (bit_of c.args.var) (meaning z.nodes c.args.hi.0) (meaning z.nodes c.args.lo.0)) (Ok (record { 0 = c.in-Some.at }))) c.self.view_is (record {
      adds = adds_grown (diagrams_of c.self.inside) after (join ns n) (rw (words, room) refl) sound within grows;
      canonical = canonical_of after sound;
      grows = grows;
      ok = record { live = place.0; same = mk_means vars ns ms n c.self.invariant.reduced proper step c.in-Some.at place.0 at };
      spent = tt;
    })
