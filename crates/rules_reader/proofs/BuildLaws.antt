-- The loop that builds the tables.
use Rattle.std.proofs.Common.{◌≡◌, ◌++◌, ◌∷◌, ◌+◌, ◌<◌, ◌≤◌, [], ℕ, List, Some, length, take, ap, sym, subst, ◌∙◌, append-nil}
use Rattle.std.specs.Prelude.{slice_get}
use Rattle.std.proofs.lemmas.Grind.{flat_map-append}
use Rattle.std.proofs.lemmas.List.{take_all, take_more}
use Rattle.std.proofs.lemmas.Option.{get_or_from_slice_get}
use Rattle.rules_reader.specs.Built.{Adds, AreSoFar}
use Rattle.rules_reader.specs.Refused.{known_by}
use Rattle.rules_reader.specs.Tables.{AreRulesOf, all_from, clocks_of, on_card, phases_in, table, supplies_in, devices_in, strengths_in, clockports_in, defaultclocks_in, pairs_in, ports_in, holds_in, keepers_in, matches_in, instance_matches_in, enters_in, observes_in, assumes_in}
use Rattle.rules_reader.specs.declared.cards.Card.{Card}
use Rattle.rules_lines.specs.declared.entry.Entry.{Entry}
use Rattle.rules_reader.specs.declared.known.Known.{Known}
use Rattle.vrt_model.specs.declared.rules.Phase.{Phase}
use Rattle.vrt_model.specs.declared.rules.Rules.{Rules}

-- a table with a line more
row : {X : Type 0} (f : ℕ → Entry → List X) (i : ℕ) (cards : List Card) (card : Card) (old new : List X) → i < length cards → slice_get cards i ≡ Some card
    → old ≡ table f (take i cards) → new ≡ old ++ on_card f card → new ≡ table f (take (i + 1) cards)
row f i cards card old new lt here so_far e =
    e ∙ ap (λ xs. xs ++ on_card f card) so_far ∙ ap (λ xs. table f (take i cards) ++ xs) (sym (append-nil (on_card f card)))
    ∙ sym (flat_map-append (on_card f) (take i cards) (card ∷ []))
    ∙ ap (table f) (ap (λ c. take i cards ++ c ∷ []) (sym (get_or_from_slice_get cards i card card here)) ∙ sym (take_more cards i card lt))

-- a table at the scale of the rules with a line more
row_at : {X : Type 0} (f : ℕ → ℕ → Entry → List X) (scale next : ℕ) (i : ℕ) (cards : List Card) (card : Card) (old new : List X) → next ≡ scale → i < length cards
    → slice_get cards i ≡ Some card → old ≡ table (f scale) (take i cards) → new ≡ old ++ on_card (f scale) card → new ≡ table (f next) (take (i + 1) cards)
row_at f scale next i cards card old new same lt here so_far e = subst (λ s. new ≡ table (f s) (take (i + 1) cards)) (sym same) (row (f scale) i cards card old new lt here so_far e)

pub turn : (clocks phases names : List (List ℕ)) (scale i : ℕ) (cards : List Card) (card : Card) (old new : Rules) → i < length cards → slice_get cards i ≡ Some card
    → AreSoFar clocks phases names scale (take i cards) old → Adds clocks phases card.line card.entry old new → AreSoFar clocks phases names scale (take (i + 1) cards) new
turn clocks phases names scale i cards card old new lt here r a = record {
  scale_is = a.scale_is ∙ r.scale_is;
  clocks_are = a.clocks_are ∙ r.clocks_are;
  phases_are = row (phases_in clocks) i cards card _ _ lt here r.phases_are a.phases_are;
  tables = record {
    supplies = row supplies_in i cards card _ _ lt here r.tables.supplies a.supplies;
    devices = row_at devices_in old.scale new.scale i cards card _ _ a.scale_is lt here r.tables.devices a.devices;
    strengths = row_at strengths_in old.scale new.scale i cards card _ _ a.scale_is lt here r.tables.strengths a.strengths;
    clockports = row (clockports_in clocks) i cards card _ _ lt here r.tables.clockports a.clockports;
    defaultclocks = row (defaultclocks_in clocks) i cards card _ _ lt here r.tables.defaultclocks a.defaultclocks;
    pairs = row pairs_in i cards card _ _ lt here r.tables.pairs a.pairs;
    ports = row ports_in i cards card _ _ lt here r.tables.ports a.ports;
    holds = row_at holds_in old.scale new.scale i cards card _ _ a.scale_is lt here r.tables.holds a.holds;
    keepers = row keepers_in i cards card _ _ lt here r.tables.keepers a.keepers;
    matches = row matches_in i cards card _ _ lt here r.tables.matches a.matches;
    instance_matches = row instance_matches_in i cards card _ _ lt here r.tables.instance_matches a.instance_matches;
    enters = row (enters_in phases) i cards card _ _ lt here r.tables.enters a.enters;
    observes = row (observes_in phases) i cards card _ _ lt here r.tables.observes a.observes;
    assumes = row (assumes_in phases) i cards card _ _ lt here r.tables.assumes a.assumes;
  };
}

pub at_end : (clocks phases names : List (List ℕ)) (scale i : ℕ) (cards : List Card) (rules : Rules) → length cards ≤ i → AreSoFar clocks phases names scale (take i cards) rules
    → AreSoFar clocks phases names scale cards rules
at_end clocks phases names scale i cards rules past r = subst (λ cs. AreSoFar clocks phases names scale cs rules) (take_all i cards past) r

-- other phases leave the other tables as they are
abbrev pub with_phases : Rules → List Phase → Rules
with_phases r phases = record {
  clocks = r.clocks;
  phases = phases;
  supplies = r.supplies;
  devices = r.devices;
  strengths = r.strengths;
  clockports = r.clockports;
  defaultclocks = r.defaultclocks;
  pairs = r.pairs;
  ports = r.ports;
  holds = r.holds;
  keepers = r.keepers;
  matches = r.matches;
  instance_matches = r.instance_matches;
  enters = r.enters;
  observes = r.observes;
  assumes = r.assumes;
  scale = r.scale;
}

pub whole : (cards : List Card) (known : Known) (rules : Rules) (phases : List Phase) → known ≡ known_by cards → AreSoFar known.clocks known.phases known.clocks known.scale cards rules
    → phases ≡ all_from known.clocks rules.phases → AreRulesOf cards (with_phases rules phases)
unfolding known_by
whole cards known rules phases is r e =
    let told = subst (λ (k : Known). AreSoFar k.clocks k.phases k.clocks k.scale cards rules) is r in
    record {
      scale_is = told.scale_is;
      clocks_are = told.clocks_are;
      phases_are = e ∙ ap (λ (k : Known). all_from k.clocks rules.phases) is ∙ ap (all_from (clocks_of cards)) told.phases_are;
      tables = record {
        supplies = told.tables.supplies;
        devices = told.tables.devices;
        strengths = told.tables.strengths;
        clockports = told.tables.clockports;
        defaultclocks = told.tables.defaultclocks;
        pairs = told.tables.pairs;
        ports = told.tables.ports;
        holds = told.tables.holds;
        keepers = told.tables.keepers;
        matches = told.tables.matches;
        instance_matches = told.tables.instance_matches;
        enters = told.tables.enters;
        observes = told.tables.observes;
        assumes = told.tables.assumes;
      };
    }
