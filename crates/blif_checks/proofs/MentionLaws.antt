-- Lists of mentions that grow card by card.
use Rattle.std.proofs.Common.{Bool, List, None, Some, [], ap, append-nil, append_assoc, arith, cond, false, flat_map, length, map, not, refl, sym, take, true, ℕ, ◌++◌, ◌+◌, ◌<◌, ◌∙◌, ◌∷◌, ◌≡◌, ◌≤◌}
use Rattle.std.proofs.lemmas.Grind.{flat_map-append}
use Rattle.std.proofs.lemmas.List.Elements.{filter-append}
use Rattle.std.specs.Prelude.{filter, nat_lt, position, slice_get}
use Rattle.std.specs.List.{position_or_len}
use Rattle.std.proofs.lemmas.Bool.{ltb-false}
use Rattle.std.proofs.lemmas.List.Sums.{prefix_len-le-length}
use Rattle.vrt_model.specs.FlatBlif.{cover_signals, latch_signals, sub_signals}
use Rattle.vrt_model.specs.declared.blif.BlifModel.{BlifModel}
use Rattle.blif_checks.specs.Signals.{named_beside, named_in}
use Rattle.std.proofs.lemmas.List.{map-append}
use Rattle.vrt_model.proofs.Lists.{take_one}
use Rattle.names.specs.Names.{with_names}
use Rattle.names.proofs.NameLaws.{with_names-append}
use Rattle.vrt_model.specs.Models.{OnLine, on_line}
use Rattle.vrt_model.specs.declared.blif.Tie.{Tie}
use Rattle.blif_checks.specs.declared.mentions.Mention.{Mention}

-- ---- lists

flat_end : {X Y : Type 0} (f : X → List Y) (a : List X) (x : X) → flat_map f (a ++ x ∷ []) ≡ flat_map f a ++ f x
flat_end f a x = flat_map-append f a (x ∷ []) ∙ ap (λ r. flat_map f a ++ r) (append-nil (f x))

-- ---- mentions

pub joined : (g : OnLine → Mention) (xs ys : List OnLine) (old mid new : List Mention) → mid ≡ old ++ map g xs → new ≡ mid ++ map g ys → new ≡ old ++ map g (xs ++ ys)
joined g xs ys old mid new e f = f ∙ ap (λ l. l ++ map g ys) e ∙ append_assoc old (map g xs) (map g ys) ∙ ap (λ l. old ++ l) (sym (map-append g xs ys))

-- signals on one line, and one more
pub joined_line : (g : OnLine → Mention) (line : ℕ) (xs ys : List (List ℕ)) (old mid new : List Mention) → mid ≡ old ++ map g (map (on_line line) xs) → new ≡ mid ++ map g (map (on_line line) ys)
    → new ≡ old ++ map g (map (on_line line) (xs ++ ys))
joined_line g line xs ys old mid new e f =
    joined g (map (on_line line) xs) (map (on_line line) ys) old mid new e f ∙ ap (λ l. old ++ map g l) (sym (map-append (on_line line) xs ys))

-- the mentions of one card more
pub more : {X : Type 0} (g : OnLine → Mention) (f : X → List OnLine) (xs : List X) (i : ℕ) (x : X) (old list new : List Mention) → i < length xs → slice_get xs i ≡ Some x
    → list ≡ old ++ map g (flat_map f (take i xs)) → new ≡ list ++ map g (f x) → new ≡ old ++ map g (flat_map f (take (i + 1) xs))
more g f xs i x old list new lt here e n =
    joined g (flat_map f (take i xs)) (f x) old list new e n
    ∙ ap (λ l. old ++ map g l) (sym (flat_end f (take i xs) x) ∙ ap (flat_map f) (sym (take_one xs i x here)))

-- one mention more
pub more_one : {X : Type 0} (g : OnLine → Mention) (f : X → OnLine) (xs : List X) (i : ℕ) (x : X) (old list new : List Mention) → i < length xs → slice_get xs i ≡ Some x
    → list ≡ old ++ map g (map f (take i xs)) → new ≡ list ++ g (f x) ∷ [] → new ≡ old ++ map g (map f (take (i + 1) xs))
more_one g f xs i x old list new lt here e n =
    joined g (map f (take i xs)) (f x ∷ []) old list new e n
    ∙ ap (λ l. old ++ map g l) (sym (map-append f (take i xs) (x ∷ [])) ∙ ap (map f) (sym (take_one xs i x here)))

-- the actual of one tie more
pub more_actual : (g : OnLine → Mention) (line : ℕ) (ties : List Tie) (i : ℕ) (t : Tie) (old list new : List Mention) → i < length ties → slice_get ties i ≡ Some t
    → list ≡ old ++ map g (map (on_line line) (map (λ (t : Tie). t.actual) (take i ties))) → new ≡ list ++ g (on_line line t.actual) ∷ []
    → new ≡ old ++ map g (map (on_line line) (map (λ (t : Tie). t.actual) (take (i + 1) ties)))
more_actual g line ties i t old list new lt here e n =
    joined_line g line (map (λ (t : Tie). t.actual) (take i ties)) (t.actual ∷ []) old list new e n
    ∙ ap (λ ns. old ++ map g (map (on_line line) ns)) (sym (map-append (λ (t : Tie). t.actual) (take i ties) (t ∷ [])) ∙ ap (map (λ (t : Tie). t.actual)) (sym (take_one ties i t here)))

-- one mention more, if it passes
pub more_kept : {X : Type 0} (g : OnLine → Mention) (f : X → OnLine) (p : X → Bool) (xs : List X) (i : ℕ) (x : X) (old list new : List Mention) → i < length xs → slice_get xs i ≡ Some x
    → list ≡ old ++ map g (map f (filter p (take i xs))) → new ≡ list ++ map g (map f (filter p (x ∷ []))) → new ≡ old ++ map g (map f (filter p (take (i + 1) xs)))
more_kept g f p xs i x old list new lt here e n =
    joined g (map f (filter p (take i xs))) (map f (filter p (x ∷ []))) old list new e n
    ∙ ap (λ l. old ++ map g l)
    (sym (map-append f (filter p (take i xs)) (filter p (x ∷ []))) ∙ ap (map f) (sym (filter-append p (take i xs) (x ∷ [])) ∙ ap (filter p) (sym (take_one xs i x here))))

-- ---- names

pub names_joined : (old mid new xs ys : List (List ℕ)) → mid ≡ with_names old xs → new ≡ with_names mid ys → new ≡ with_names old (xs ++ ys)
names_joined old mid new xs ys e f = f ∙ ap (λ ns. with_names ns ys) e ∙ sym (with_names-append old xs ys)

pub names_more : {X : Type 0} (f : X → List (List ℕ)) (xs : List X) (i : ℕ) (x : X) (old names new : List (List ℕ)) → i < length xs → slice_get xs i ≡ Some x
    → names ≡ with_names old (flat_map f (take i xs)) → new ≡ with_names names (f x) → new ≡ with_names old (flat_map f (take (i + 1) xs))
names_more f xs i x old names new lt here e n =
    names_joined old names new (flat_map f (take i xs)) (f x) e n
    ∙ ap (with_names old) (sym (flat_end f (take i xs) x) ∙ ap (flat_map f) (sym (take_one xs i x here)))

pub names_more_one : {X : Type 0} (f : X → List ℕ) (xs : List X) (i : ℕ) (x : X) (old names new : List (List ℕ)) → i < length xs → slice_get xs i ≡ Some x
    → names ≡ with_names old (map f (take i xs)) → new ≡ with_names names (f x ∷ []) → new ≡ with_names old (map f (take (i + 1) xs))
names_more_one f xs i x old names new lt here e n =
    names_joined old names new (map f (take i xs)) (f x ∷ []) e n
    ∙ ap (with_names old) (sym (map-append f (take i xs) (x ∷ [])) ∙ ap (map f) (sym (take_one xs i x here)))

-- the number of a name that is not there
pub position_none : {X : Type 0} (p : X → Bool) (xs : List X) → position p xs ≡ None → position_or_len p xs ≡ length xs
position_none p xs e = by_test (nat_lt (position_or_len p xs) (length xs)) refl e where
  by_test : (b : Bool) → nat_lt (position_or_len p xs) (length xs) ≡ b → cond b (Some (position_or_len p xs)) None ≡ None → position_or_len p xs ≡ length xs
  by_test true h none = cc
  by_test false h none =
      let past : length xs ≤ position_or_len p xs = ltb-false (position_or_len p xs) (length xs) h in
      let most : position_or_len p xs ≤ length xs = prefix_len-le-length (λ x. not (p x)) xs in
      omega arith

-- the signals beside inputs and clocks, list by list
pub beside_are : (m : BlifModel) (old c d e f : List (List ℕ)) → c ≡ with_names old m.outputs → d ≡ with_names c (flat_map cover_signals m.covers) → e ≡ with_names d (flat_map latch_signals m.latches)
    → f ≡ with_names e (flat_map sub_signals m.subs) → f ≡ with_names old (named_beside m)
beside_are m old c d e f ic id ie if' =
    names_joined old e f (m.outputs ++ flat_map cover_signals m.covers ++ flat_map latch_signals m.latches) (flat_map sub_signals m.subs)
    (names_joined old d e (m.outputs ++ flat_map cover_signals m.covers) (flat_map latch_signals m.latches) (names_joined old c d m.outputs (flat_map cover_signals m.covers) ic id) ie) if'

-- all of them
pub signals_are : (m : BlifModel) (none a b c : List (List ℕ)) → none ≡ [] → a ≡ with_names none m.inputs → b ≡ with_names a m.clocks → c ≡ with_names b (named_beside m) → c ≡ with_names [] (named_in m)
signals_are m none a b c n ia ib ic =
    names_joined [] b c (m.inputs ++ m.clocks) (named_beside m) (names_joined [] a b m.inputs m.clocks (ia ∙ ap (λ ns. with_names ns m.inputs) n) ib) ic
    ∙ ap (with_names [])
    (sym (append_assoc (m.inputs ++ m.clocks) (m.outputs ++ flat_map cover_signals m.covers ++ flat_map latch_signals m.latches) (flat_map sub_signals m.subs))
    ∙ ap (λ ns. ns ++ flat_map sub_signals m.subs)
    (sym (append_assoc (m.inputs ++ m.clocks) (m.outputs ++ flat_map cover_signals m.covers) (flat_map latch_signals m.latches))
    ∙ ap (λ ns. ns ++ flat_map latch_signals m.latches) (sym (append_assoc (m.inputs ++ m.clocks) m.outputs (flat_map cover_signals m.covers)))))
