use Rattle.std.proofs.Common.{ℕ, Bool, List, Option, arith, inl, inr, subst, ◌∙◌}
use Rattle.known_nets.proofs.NetKinds.{is_plain_is}
use Rattle.known_nets.proofs.SettleLaws.{shown_known, shown_settled}
use Rattle.known_nets.proofs.ShutLaws.{has_number_is}
use Rattle.known_nets.proofs.SpreadLaws.{plain_within}
use Rattle.known_nets.specs.KnownTables.{AreKnown, HasFixedNets, known_at}
use Rattle.known_nets.specs.Regions.{AreRegionSignals, AreZero, HasKept}
use Rattle.vrt_model.specs.declared.rules.Phase.{Phase}
use Rattle.known_nets.proofs.known.Search.learn_shut_region.Goals as goal

pub find_signals-requires-clause-plain : goal.find_signals-requires-clause-plain
find_signals-requires-clause-plain c n m = is_plain_is c.args.circuit.now n (c.requires.region.plain n ((has_number_is c.args.nets.now n).1 m))

pub learn-requires-clause-nets : goal.learn-requires-clause-nets
learn-requires-clause-nets c n m =
    let inside = plain_within c.args.circuit.now n (is_plain_is c.args.circuit.now n (c.requires.region.plain n ((has_number_is c.args.nets.now n).1 m))) in
    let known = c.requires.search.known in
    omega (arith, inside, known)

signals : (c : goal.After-clear) → AreRegionSignals c.args.circuit.now c.args.self.now.known.items c.args.nets.now c.find_signals.new.tables
signals c =
    subst (λ (k : List (Option Bool)). AreRegionSignals c.args.circuit.now k c.args.nets.now c.find_signals.new.tables) c.as_slice.ensures.value c.in_ok-find_signals.ensures.signals

sound : (c : goal.After-clear) (phase : Phase) → HasFixedNets c.args.circuit.now phase (known_at c.args.self.now.known.items) → AreKnown c.args.circuit.now phase (known_at c.args.self.now.known.items)
    → AreKnown c.args.circuit.now phase (known_at c.learn.new.known.items)
sound c phase has are n v e =
    let tables = c.find_signals.new.tables in
    elim (c.in_ok-more.ensures.only n v e) [
      | inl old ↦ are n v old
      | inr new ↦
          shown_known c.args.circuit.now phase c.args.self.now.known.items c.requires.wired has are c.args.nets.now tables.levels.table.items tables.zeros.table.items tables.ones.table.items
          c.requires.region c.requires.shut (signals c).strengths (signals c).zeros (signals c).ones n v new.0 new.1
    ]

pub returns : goal.returns
returns c =
    let circuit = c.args.circuit.now in
    let nets = c.args.nets.now in
    let search = c.requires.search in
    let step = c.in_ok-more.ensures.step in
    let tables = c.find_signals.new.tables in
    let marks = c.learn.new.waiting.marks.items in
    record {
      search = record {
        known = step.size ∙ search.known;
        marks = step.waited.size ∙ search.marks;
        inside = search.inside;
        tables = subst (λ (count : ℕ). AreZero count c.clear.new.self) c.in_ok-find_signals.ensures.raised.levels_size c.clear.ensures;
      };
      learned = record { grown = step.grown; known = sound c };
      waited = step.waited;
      settles = λ phase before has are kept settles.
          let all_kept : HasKept nets before marks = λ n e. elim (kept n e) [ inl t ↦ inl (step.waited.grown n t) | inr m ↦ inr m ] in
          shown_settled circuit phase c.args.self.now.known.items c.requires.wired has are nets tables.levels.table.items tables.zeros.table.items tables.ones.table.items
          c.requires.region c.requires.shut (signals c).strengths (signals c).zeros (signals c).ones c.learn.new.known.items before marks
          step.grown (sound c phase has are) c.in_ok-more.ensures.found all_kept step.ends settles;
      progress = record { list = λ e. (step.same e).1; known = λ e. (step.same e).0; less = step.less };
    }
