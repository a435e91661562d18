use Rattle.std.proofs.Common.{◌≡◌, ℕ, ◌<◌, ◌+◌, Bool, List, Option, [], ◌∷◌, length, arith, ap, inl, inr, false, refl, subst, sym, ◌∙◌}
use Rattle.std.proofs.lemmas.Bool.{cases_Bool, false≢true}
use Rattle.std.proofs.lemmas.List.{length-append}
use Rattle.std.proofs.lemmas.Option.{slice_get_within}
use Rattle.known_nets.proofs.SearchLaws.{learned_none, ready_after, ready_without}
use Rattle.known_nets.specs.KnownTables.{AreKnown, HasFixedNets, known_at}
use Rattle.known_nets.specs.Learned.{unknown}
use Rattle.known_nets.specs.Searches.{HasLearned, StaysSettled}
use Rattle.known_nets.specs.Waits.{waits}
use Rattle.known_nets.specs.declared.known.Search.{Search}
use Rattle.vrt_model.specs.declared.circuit.Circuit.{Circuit}
use Rattle.known_nets.proofs.known.Search.learn_next.Goals as goal

pub loop-net-init : goal.loop-net-init
loop-net-init c = record { ready = c.requires.ready; same = refl; settled = λ phase has are settles. settles }

pub learn_around-requires-clause-search : goal.learn_around-requires-clause-search
learn_around-requires-clause-search c =
    let search = c.loop-net.invariant.ready.search in
    record { known = search.known; marks = search.marks; inside = search.inside; tables = search.tables }

-- where nothing had been learned before
settled_same : (circuit : Circuit) (first mid new : Search) → mid.known.items ≡ first.known.items → StaysSettled circuit first mid → StaysSettled circuit mid new → StaysSettled circuit first new
settled_same circuit first mid new same one two phase has are settles =
    two phase (subst (λ (t : List (Option Bool)). HasFixedNets circuit phase (known_at t)) (sym same) has)
    (subst (λ (t : List (Option Bool)). AreKnown circuit phase (known_at t)) (sym same) are) (one phase has are settles)

pub returns-then-more : goal.returns-then-more
returns-then-more c =
    let circuit = c.args.circuit.now in
    let same = c.loop-net.invariant.same in
    let first = c.args.self.now in
    let old = c.loop-net.self in
    let mid : Search = record { known = old.known; waiting = record { marks = old.waiting.marks; list = c.pop.new.self }; inside = old.inside; tables = old.tables } in
    let new = c.learn_around.new.self in
    let looked = c.in_ok-more.ensures in
    record {
      ready = ready_after circuit c.in_ok-more.more old mid new c.in-Some.net c.in-Some.ensures.items refl c.loop-net.invariant.ready looked;
      learned = subst (λ (t : List (Option Bool)). HasLearned circuit t new.known.items) same looked.learned;
      settled = settled_same circuit first mid new same c.loop-net.invariant.settled looked.settled;
      none = λ e. absurd (false≢true (sym e));
      less = λ e. subst (λ (t : List (Option Bool)). unknown new.known.items < unknown t) same (looked.progress.less c.if-more.true);
    }

pub loop-net-preserved-else-more : goal.loop-net-preserved-else-more
loop-net-preserved-else-more c =
    let circuit = c.args.circuit.now in
    let same = c.loop-net.invariant.same in
    let old = c.loop-net.self in
    let mid : Search = record { known = old.known; waiting = record { marks = old.waiting.marks; list = c.pop.new.self }; inside = old.inside; tables = old.tables } in
    let new = c.learn_around.new.self in
    let looked = c.in_ok-more.ensures in
    record {
      ready = ready_after circuit c.in_ok-more.more old mid new c.in-Some.net c.in-Some.ensures.items refl c.loop-net.invariant.ready looked;
      same = looked.progress.known c.if-more.false ∙ same;
      settled = settled_same circuit c.args.self.now mid new same c.loop-net.invariant.settled looked.settled;
    }

pub loop-net-smaller-else-more : goal.loop-net-smaller-else-more
loop-net-smaller-else-more c =
    let rest = c.pop.new.self.items in
    let shorter : length c.loop-net.self.waiting.list.items ≡ length rest + 1 = ap length c.in-Some.ensures.items ∙ length-append rest (c.in-Some.net ∷ []) in
    let same : length c.learn_around.new.self.waiting.list.items ≡ length rest = ap length (c.in_ok-more.ensures.progress.list c.if-more.false) in
    omega (arith, shorter, same)

pub loop-net-preserved : goal.loop-net-preserved
loop-net-preserved c =
    let old = c.loop-net.self in
    let search = c.loop-net.invariant.ready.search in
    let new : Search = record { known = old.known; waiting = record { marks = old.waiting.marks; list = c.pop.new.self }; inside = old.inside; tables = old.tables } in
    record {
      ready = ready_without c.args.circuit.now old new c.in-Some.net c.in-Some.ensures.items refl (c.has_plain.ensures.no c.if-has_plain.false)
          (record { known = search.known; marks = search.marks; inside = search.inside; tables = search.tables }) c.loop-net.invariant.ready;
      same = c.loop-net.invariant.same;
      settled = c.loop-net.invariant.settled;
    }

pub loop-net-smaller : goal.loop-net-smaller
loop-net-smaller c =
    let rest = c.pop.new.self.items in
    let shorter : length c.loop-net.self.waiting.list.items ≡ length rest + 1 = ap length c.in-Some.ensures.items ∙ length-append rest (c.in-Some.net ∷ []) in
    omega (arith, shorter)

pub returns : goal.returns
returns c =
    let circuit = c.args.circuit.now in
    let ready = c.loop-net.invariant.ready in
    let search = ready.search in
    let same = c.loop-net.invariant.same in
    let known = c.loop-net.self.known.items in
    let empty = c.in_default.ensures.cases.0 in
    let none : (n : ℕ) → waits c.loop-net.self.waiting n ≡ false = λ n. elim (cases_Bool (waits c.loop-net.self.waiting n)) [
      | inr f ↦ f
      | inl t ↦
          let there = ready.listed n t in
          let within = slice_get_within c.loop-net.self.waiting.list.items there.0 n there.1 in
          absurd (omega (arith, within, empty))
    ] in
    record {
      ready = record {
        search = record { known = search.known; marks = search.marks; inside = search.inside; tables = search.tables };
        plain = ready.plain;
        listed = λ n e. absurd (false≢true (sym (none n) ∙ e));
      };
      learned = subst (λ (t : List (Option Bool)). HasLearned circuit t known) same (learned_none circuit known);
      settled = c.loop-net.invariant.settled;
      none = λ e. none;
      less = λ e. absurd (false≢true e);
    }
