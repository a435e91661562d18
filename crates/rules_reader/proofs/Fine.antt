-- Lines without a fault.
use Rattle.std.proofs.Common.{◌≡◌, ◌++◌, ◌∷◌, [], ℕ, List, Bool, true, false, cond, length, map, Option, Some, None, refl, ap, sym, subst, ◌∙◌}
use Rattle.std.proofs.lemmas.Option.{same_Some}
use Rattle.vrt_model.proofs.Tests.{map_none}
use Rattle.vrt_model.specs.Lists.{has_name}
use Rattle.names.specs.Names.{with_name, with_names}
use Rattle.text_lines.proofs.FaultLaws.{CleanFrom, none_at, when_no}
use Rattle.names.proofs.ApartLaws.{NoRepeat}
use Rattle.rules_reader.specs.Keys.{Key, keys_of, repeated, text}
use Rattle.rules_reader.specs.Learned.{learned_by, learned_from}
use Rattle.rules_reader.specs.Refused.{clocks_named, entry_fault, entry_faults, fault_of, first_missing, has_bad_expression, has_bad_number, is_misplaced, key_texts, known_by, known_from, passes_limit, phases_named, saying_fault}
use Rattle.rules_reader.specs.Tables.{told, told_on}
use Rattle.rules_reader.specs.declared.cards.Card.{Card}
use Rattle.rules_lines.specs.declared.entry.Entry.{Entry}
use Rattle.rules_reader.specs.declared.faults.RulesFault.TheVariants.{NotText, Word, Number, Expr, Twice, UnknownPhase, UnknownClock, Limit}
use Rattle.rules_reader.specs.declared.known.Known.{Known}
use Rattle.rules_reader.proofs.KnownLaws.{known_more}
use Rattle.names.proofs.NewLaws.{AreNew, new_append, new_apart}

-- no condition of a fault holds
pub record Fine (count : ℕ) (known : Known) (entry : Entry) : Type 0 where
  pub placed : is_misplaced known entry ≡ false
  pub numbers : has_bad_number known.scale entry ≡ false
  pub expression : has_bad_expression entry ≡ false
  pub keys : repeated known.keys (keys_of entry) ≡ None
  pub phases : first_missing (known_from known.phases) (phases_named entry) ≡ None
  pub clocks : first_missing known.clocks (clocks_named entry) ≡ None
  pub limit : passes_limit count known.clocks known.phases entry ≡ false

fine_by : (count : ℕ) (known : Known) (line : ℕ) (entry : Entry) → entry_fault count known line entry ≡ None → Fine count known entry
unfolding entry_fault
fine_by count known line entry e =
    let none = none_at (entry_faults count known line entry) e in
    record {
      placed = when_no (is_misplaced known entry) (Word line) (none 0);
      numbers = when_no (has_bad_number known.scale entry) (Number line) (none 1);
      expression = when_no (has_bad_expression entry) (Expr line) (none 2);
      keys = map_none (Twice line) (repeated known.keys (keys_of entry)) (none 3);
      phases = map_none (UnknownPhase line) (first_missing (known_from known.phases) (phases_named entry)) (none 4);
      clocks = map_none (UnknownClock line) (first_missing known.clocks (clocks_named entry)) (none 5);
      limit = when_no (passes_limit count known.clocks known.phases entry) (Limit line) (none 6);
    }

-- a line that says something, without a fault
pub record Says (count : ℕ) (known : Known) (card : Card) : Type 0 where
  pub entry : Entry
  pub is : card.entry ≡ Some entry
  pub fine : Fine count known entry

pub says : (before : List Card) (card : Card) → fault_of before card ≡ None → Says (length before) (known_by before) card
says before card e = by_text card.is_all_text card.entry refl e where
  by_text : (b : Bool) (o : Option Entry) → card.entry ≡ o → cond b (saying_fault (length before) (known_by before) card.line o) (Some (NotText card.line)) ≡ None
      → Says (length before) (known_by before) card
  by_text false o is e = cc
  by_text true None is e = cc
  by_text true (Some entry) is e = record { entry = entry; is = is; fine = fine_by (length before) (known_by before) card.line entry e }

-- ---- a fact of each line

abbrev pub AllSay : (Entry → Type 0) → List Card → Type 0
AllSay P [] = Unit {0}
AllSay P (card ∷ cards) = ((entry : Entry) → card.entry ≡ Some entry → P entry) × AllSay P cards

pub here : (P : Entry → Type 0) (count : ℕ) (known : Known) (card : Card) (s : Says count known card) → P s.entry → (entry : Entry) → card.entry ≡ Some entry → P entry
here P count known card s p entry e = subst P (same_Some s.entry entry (sym s.is ∙ e)) p

-- what is known behind a line that says something
pub known_next : (before : List Card) (card : Card) (s : Says (length before) (known_by before) card) → known_by (before ++ card ∷ []) ≡ learned_by (known_by before) s.entry
known_next before card s = known_more before card ∙ ap (learned_from (known_by before)) s.is

pub told_here : {X : Type 0} (f : Entry → List X) (count : ℕ) (known : Known) (card : Card) (s : Says count known card) → told_on f card ≡ f s.entry
told_here f count known card s = by_entry_ card.line card.entry s.is where
  by_entry_ : (line : ℕ) (o : Option Entry) → o ≡ Some s.entry → told_on f (record { line = line; is_all_text = card.is_all_text; entry = o }) ≡ f s.entry
  by_entry_ line None e = cc
  by_entry_ line (Some entry) e = ap f (same_Some entry s.entry e)

-- ---- keys

keys_new : (known : List (List ℕ)) (ks : List Key) → repeated known ks ≡ None → AreNew known (map text ks)
keys_new known [] e = tt
keys_new known (k ∷ ks) e = by_test (has_name known (text k)) refl e (keys_new (with_name known (text k)) ks) where
  by_test : (b : Bool) → has_name known (text k) ≡ b → cond b (Some k.last) (repeated (with_name known (text k)) ks) ≡ None
      → (repeated (with_name known (text k)) ks ≡ None → AreNew (with_name known (text k)) (map text ks))
      → (has_name known (text k) ≡ false) × AreNew (with_name known (text k)) (map text ks)
  by_test true h e rest = cc
  by_test false h e rest = (h, rest e)

all_new : (before cards : List Card) → CleanFrom fault_of before cards → AreNew (known_by before).keys (told key_texts cards)
all_new before [] clean = tt
all_new before (card ∷ cards) clean =
    let s = says before card clean.0 in
    new_append (known_by before).keys (told_on key_texts card) (told key_texts cards)
    (subst (AreNew (known_by before).keys) (sym (told_here key_texts (length before) (known_by before) card s)) (keys_new (known_by before).keys (keys_of s.entry) s.fine.keys))
    (subst (λ ks. AreNew ks (told key_texts cards)) (ap (λ (k : Known). k.keys) (known_next before card s) ∙ ap (with_names (known_by before).keys) (sym (told_here key_texts (length before) (known_by before) card s)))
    (all_new (before ++ card ∷ []) cards clean.1))

-- no key repeats
pub keys_apart : (cards : List Card) → CleanFrom fault_of [] cards → NoRepeat (told key_texts cards)
keys_apart cards clean = new_apart (known_by []).keys (told key_texts cards) (all_new [] cards clean)
