-- The known nets of all phases, and what tables of them say of a net.
use Rattle.std.proofs.Common.{◌≡◌, ℕ, ◌+◌, Bool, true, false, List, [], ◌∷◌, ◌++◌, take, None, Option, Some, arith, ap, refl, subst, sym, ◌∙◌, inl, inr}
use Rattle.std.specs.Prelude.{◌&&◌, is_none, not}
use Rattle.std.proofs.lemmas.Bool.{and_from, and_parts, cases_Bool, false≢true, not-true}
use Rattle.std.proofs.lemmas.List.{length_push}
use Rattle.std.proofs.lemmas.Option.{slice_get_within}
use Rattle.known_nets.specs.KnownTables.{IsKnownTable, known_at}
use Rattle.channel_parts.specs.Classes.{IsSwitched}
use Rattle.channel_parts.specs.PhaseTables.{AreTables, has_bit, hides, is_switched, shows}
use Rattle.vrt_model.proofs.Lists.{at_split, at_there, take_one}
use Rattle.vrt_model.proofs.Members.{among_any, any_among}
use Rattle.vrt_model.specs.Known.{IsKnown}
use Rattle.vrt_model.specs.Lists.{At, Among}
use Rattle.vrt_model.specs.declared.circuit.Circuit.{Circuit}
use Rattle.vrt_model.specs.declared.rules.Phase.{Phase}

abbrev Table : Type 0
Table = List (Option Bool)

-- ---- one table more

tables_last : (c : Circuit) (phases : List Phase) (tables : List Table) (phase : Phase) (table : Table) → AreTables c phases tables → IsKnownTable c phase (known_at table)
    → AreTables c (phases ++ phase ∷ []) (tables ++ table ∷ [])
tables_last c phases tables phase table are known = record {
  count = length_push tables table ∙ ap (λ (k : ℕ). k + 1) are.count ∙ sym (length_push phases phase);
  each = λ i p t a b.
      elim (at_split phases phase i p a) [
        | inl early ↦
            elim (at_split tables table i t b) [
              | inl there ↦ are.each i p t early there
              | inr last ↦ (let inside = slice_get_within phases i p early in let place = last.0 in let count = are.count in absurd (omega (arith, inside, place, count)))
            ]
        | inr late ↦
            elim (at_split tables table i t b) [
              | inl there ↦ (let inside = slice_get_within tables i t there in let place = late.0 in let count = are.count in absurd (omega (arith, inside, place, count)))
              | inr last ↦ subst (λ (q : Phase). IsKnownTable c q (known_at t)) (sym late.1) (subst (λ (u : Table). IsKnownTable c phase (known_at u)) (sym last.1) known)
            ]
      ];
}

pub tables_more : (c : Circuit) (phases : List Phase) (tables : List Table) (i : ℕ) (phase : Phase) (table : Table) → At phases i phase → AreTables c (take i phases) tables
    → IsKnownTable c phase (known_at table) → AreTables c (take (i + 1) phases) (tables ++ table ∷ [])
tables_more c phases tables i phase table here are known =
    subst (λ (ps : List Phase). AreTables c ps (tables ++ table ∷ [])) (sym (take_one phases i phase here)) (tables_last c (take i phases) tables phase table are known)

-- ---- bits

bit_had : (v : Bool) (o : Option Bool) → has_bit v o ≡ true → o ≡ Some v
bit_had v None e = absurd (false≢true e)
bit_had true (Some true) e = refl
bit_had true (Some false) e = absurd (false≢true e)
bit_had false (Some true) e = absurd (false≢true e)
bit_had false (Some false) e = refl

has_own_bit : (v : Bool) → has_bit v (Some v) ≡ true
has_own_bit true = refl
has_own_bit false = refl

pub some_there : (o : Option Bool) → is_none o ≡ false → (v : Bool) × (o ≡ Some v)
some_there None e = absurd (false≢true (sym e))
some_there (Some v) e = (v, refl)

-- ---- what the tables say

module _ (c : Circuit) (phases : List Phase) (tables : List Table) (are : AreTables c phases tables) (n : ℕ) where
  abbrev Showing : Bool → Table → Bool
  Showing v table = has_bit v (known_at table n)

  abbrev Hiding : Table → Bool
  Hiding table = is_none (known_at table n)

  table_of : (i : ℕ) (phase : Phase) → At phases i phase → (table : Table) × At tables i table
  table_of i phase a = let inside = slice_get_within phases i phase a in let count = are.count in at_there tables i (omega (arith, inside, count))

  phase_of : (i : ℕ) (table : Table) → At tables i table → (phase : Phase) × At phases i phase
  phase_of i table a = let inside = slice_get_within tables i table a in let count = are.count in at_there phases i (omega (arith, inside, count))

  shown : (v : Bool) → shows tables v n ≡ true → (phase : Phase) × Among phases phase × IsKnown c phase n v
  shown v t =
      let some = any_among (Showing v) tables t in
      let phase = phase_of some.1.0 some.0 some.1.1 in
      (phase.0, (some.1.0, phase.1), (are.each some.1.0 phase.0 some.0 phase.1 some.1.1 n v).0 (bit_had v (known_at some.0 n) some.2))

  shows_known : (v : Bool) (phase : Phase) → Among phases phase → IsKnown c phase n v → shows tables v n ≡ true
  shows_known v phase m known =
      let table = table_of m.0 phase m.1 in
      among_any (Showing v) tables table.0 (m.0, table.1) (ap (has_bit v) ((are.each m.0 phase table.0 m.1 table.1 n v).1 known) ∙ has_own_bit v)

  known_all : hides tables n ≡ false → (phase : Phase) → Among phases phase → (v : Bool) × IsKnown c phase n v
  known_all f phase m =
      let table = table_of m.0 phase m.1 in
      elim (cases_Bool (is_none (known_at table.0 n))) [
        | inl none ↦ absurd (false≢true (sym f ∙ among_any Hiding tables table.0 (m.0, table.1) none))
        | inr there ↦ (let bit = some_there (known_at table.0 n) there in (bit.0, (are.each m.0 phase table.0 m.1 table.1 n bit.0).0 bit.1))
      ]

  hides_none : ((phase : Phase) → Among phases phase → (v : Bool) × IsKnown c phase n v) → hides tables n ≡ false
  hides_none known =
      elim (cases_Bool (hides tables n)) [
        | inl t ↦ (
            let some = any_among Hiding tables t in
            let phase = phase_of some.1.0 some.0 some.1.1 in
            let bit = known phase.0 (some.1.0, phase.1) in
            let there : known_at some.0 n ≡ Some bit.0 = (are.each some.1.0 phase.0 some.0 phase.1 some.1.1 n bit.0).1 bit.1 in
            absurd (false≢true (sym (ap is_none there) ∙ some.2)))
        | inr f ↦ f
      ]

  -- what the tables find switched is, and the other way round
  pub switched_is : is_switched tables n ≡ true → IsSwitched c phases n
  switched_is t =
      let parts = and_parts (not (hides tables n)) (shows tables false n && shows tables true n) t in
      let bits = and_parts (shows tables false n) (shows tables true n) parts.1 in
      record {
        known = known_all (not-true (hides tables n) parts.0);
        low = shown false bits.0;
        high = shown true bits.1;
      }

  pub is_switched_is : IsSwitched c phases n → is_switched tables n ≡ true
  is_switched_is s =
      and_from (not (hides tables n)) (shows tables false n && shows tables true n) (ap not (hides_none s.known))
      (and_from (shows tables false n) (shows tables true n) (let low = s.low in shows_known false low.0 low.1 low.2) (let high = s.high in shows_known true high.0 high.1 high.2))
