-- The ties of a sub-model: those of inputs and clocks, and those that the sub-model drives.
use Rattle.std.proofs.Common.{◌≡◌, ◌+◌, ◌++◌, ◌∷◌, ◌&&◌, ◌||◌, [], ℕ, List, Bool, true, false, cond, not, map, refl, ap, ap₂, sym, ◌∙◌, arith}
use Rattle.std.proofs.lemmas.Bool.{and_parts, or_right}
use Rattle.std.specs.Prelude.{◌==◌, bytes_eq, filter}
use Rattle.std.proofs.lemmas.List.{length-map}
use Rattle.std.proofs.lemmas.List.Folds.{list_any-append}
use Rattle.std.proofs.lemmas.Slice.Eq.{bytes_eq-Decides}
use Rattle.vrt_model.proofs.Lists.{map_among}
use Rattle.vrt_model.specs.Lists.{Among, has_name}
use Rattle.names.proofs.ApartLaws.{NoRepeat, kept_apart, once_by}
use Rattle.vrt_model.specs.FlatBlif.{ModelPlace, formals, model_at, model_numbered, signal_at, sub_signals}
use Rattle.vrt_model.specs.Inputs.{IsModel}
use Rattle.vrt_model.specs.Models.{interface_of, is_driving, is_reading}
use Rattle.vrt_model.specs.declared.blif.Blif.{Blif}
use Rattle.vrt_model.specs.declared.blif.BlifModel.{BlifModel}
use Rattle.vrt_model.specs.declared.blif.SubLine.{SubLine}
use Rattle.vrt_model.specs.declared.blif.Tie.{Tie}
use Rattle.vrt_model.proofs.Members.{among_filter, any_among, find_none}
use Rattle.blif_flat.specs.Places.{placed}
use Rattle.blif_flat.proofs.OnceLaws.{formals_apart, interface_among}
use Rattle.names.proofs.PlaceLaws.{at_among}
use Rattle.names.proofs.FilterLaws.{has_name_filter}
use Rattle.blif_flat.proofs.OneDriverCounts.{hits, hits_apart, hits_map, hits_same, hits_split}
use Rattle.blif_flat.proofs.OneDriverPlaces.{IsSubTied, IsTied, formal_known, gives, heads, sub_hits, tie_number, tied_signal}

-- ---- inputs and clocks

joined_apart : (a b : List (List ℕ)) → NoRepeat a → NoRepeat b → ((n : List ℕ) → has_name a n ≡ true → has_name b n ≡ false) → NoRepeat (a ++ b)
joined_apart [] b na nb out = nb
joined_apart (x ∷ a) b na nb out = (
  list_any-append (bytes_eq x) a b ∙ ap₂ (λ p q. p || q) na.0 (out x (ap (λ (c : Bool). c || has_name a x) ((bytes_eq-Decides x x).1 refl))),
  joined_apart a b na.1 nb (λ n e. out n (or_right (bytes_eq n x) (has_name a n) e)),
)

heads_apart : (m : BlifModel) → IsModel m → NoRepeat (heads m)
heads_apart m is =
    joined_apart m.inputs (filter (λ name. not (has_name m.inputs name)) m.clocks) (once_by m.inputs is.inputs) (kept_apart (λ name. not (has_name m.inputs name)) m.clocks (once_by m.clocks is.clocks))
    (λ n e. has_name_filter (λ name. not (has_name m.inputs name)) m.clocks n ∙ ap (λ (b : Bool). not b && has_name m.clocks n) e)

heads_same : (m : BlifModel) (n : List ℕ) → has_name (heads m) n ≡ has_name (m.inputs ++ m.clocks) n
heads_same m n =
    list_any-append (bytes_eq n) m.inputs (filter (λ name. not (has_name m.inputs name)) m.clocks)
    ∙ ap (λ (b : Bool). has_name m.inputs n || b) (has_name_filter (λ name. not (has_name m.inputs name)) m.clocks n) ∙ by_tests (has_name m.inputs n) (has_name m.clocks n)
    ∙ sym (list_any-append (bytes_eq n) m.inputs m.clocks) where
      by_tests : (a c : Bool) → (a || (not a && c)) ≡ (a || c)
      by_tests true c = refl
      by_tests false c = refl

-- ---- formals

-- a formal that is no input or clock is driven by the model
abbrev drives : BlifModel → List ℕ → Bool
drives m n = has_name m.outputs n && not (has_name (m.inputs ++ m.clocks) n)

formals_kept : (r : List ℕ → Bool) (ties : List Tie) → map (λ (t : Tie). t.formal) (filter (λ (t : Tie). r t.formal) ties) ≡ filter r (map (λ (t : Tie). t.formal) ties)
formals_kept r [] = refl
formals_kept r (t ∷ ties) = by_test (r t.formal) (formals_kept r ties) where
  by_test : (b : Bool) → map (λ (t : Tie). t.formal) (filter (λ (t : Tie). r t.formal) ties) ≡ filter r (map (λ (t : Tie). t.formal) ties)
      → map (λ (t : Tie). t.formal) (cond b (t ∷ filter (λ (t : Tie). r t.formal) ties) (filter (λ (t : Tie). r t.formal) ties))
      ≡ cond b (t.formal ∷ filter r (map (λ (t : Tie). t.formal) ties)) (filter r (map (λ (t : Tie). t.formal) ties))
  by_test true e = ap (λ (ns : List (List ℕ)). t.formal ∷ ns) e
  by_test false e = e

known_kind : (m : BlifModel) (n : List ℕ) → has_name (interface_of m) n ≡ true → (has_name (m.inputs ++ m.clocks) n || has_name m.outputs n) ≡ true
known_kind m n e = sym (list_any-append (bytes_eq n) (m.inputs ++ m.clocks) m.outputs) ∙ e

-- the formals that are not driven are the inputs and clocks
read_hits : (blif : Blif) (s : SubLine) (g : List ℕ → Bool) → IsSubTied blif s → IsModel (model_at blif (model_numbered blif s.model))
    → hits g (filter (λ n. not (drives (model_at blif (model_numbered blif s.model)) n)) (formals s)) ≡ hits g (heads (model_at blif (model_numbered blif s.model)))
read_hits blif s g is good =
    let m : BlifModel = model_at blif (model_numbered blif s.model) in
    hits_apart g (heads m) (filter (λ n. not (drives m n)) (formals s)) (heads_apart m good) (kept_apart (λ n. not (drives m n)) (formals s) (formals_apart (interface_of m) [] (formals s) is.fitting))
    (λ n e.
    let read : has_name (m.inputs ++ m.clocks) n ≡ true = sym (heads_same m n) ∙ e in
    has_name_filter (λ n. not (drives m n)) (formals s) n ∙ ap₂ (λ a b. a && b) (ap (λ (b : Bool). not (has_name m.outputs n && not b)) read ∙ and_no (has_name m.outputs n)) (tied n read))
    (λ n e.
    let both = and_parts (not (drives m n)) (has_name (formals s) n) (sym (has_name_filter (λ n. not (drives m n)) (formals s) n) ∙ e) in
    heads_same m n ∙ by_tests (has_name (m.inputs ++ m.clocks) n) (has_name m.outputs n) (known_kind m n (formal_known (interface_of m) [] (formals s) n is.fitting both.1)) both.0) where
      and_no : (b : Bool) → not (b && false) ≡ true
      and_no true = refl
      and_no false = refl

      not_out : (b : Bool) → not b ≡ false → b ≡ true
      not_out true e = refl
      not_out false e = cc

      tied : (n : List ℕ) → has_name ((model_at blif (model_numbered blif s.model)).inputs ++ (model_at blif (model_numbered blif s.model)).clocks) n ≡ true → has_name (formals s) n ≡ true
      tied n e =
          let x = any_among (bytes_eq n) ((model_at blif (model_numbered blif s.model)).inputs ++ (model_at blif (model_numbered blif s.model)).clocks) e in
          ap (has_name (formals s)) ((bytes_eq-Decides n x.0).0 x.2)
          ∙ not_out (has_name (formals s) x.0)
          (find_none (λ name. not (has_name (formals s) name)) ((model_at blif (model_numbered blif s.model)).inputs ++ (model_at blif (model_numbered blif s.model)).clocks) x.0 is.whole x.1)

      by_tests : (i o : Bool) → (i || o) ≡ true → not (o && not i) ≡ true → i ≡ true
      by_tests true o e h = refl
      by_tests false true e h = cc
      by_tests false false e h = cc

-- each tie of a sub-model that fits drives its signal or reads it
pub tie_kind : (blif : Blif) (s : SubLine) (t : Tie) → IsSubTied blif s → Among s.ties t → (is_driving blif s t || is_reading blif s t) ≡ true
tie_kind blif s t is a =
    let m : BlifModel = model_at blif (model_numbered blif s.model) in
    let f = map_among (λ (t : Tie). t.formal) s.ties t a in
    by_tests (has_name (m.inputs ++ m.clocks) t.formal) (has_name m.outputs t.formal)
    (known_kind m t.formal (formal_known (interface_of m) [] (formals s) t.formal is.fitting (at_among (formals s) f.0 t.formal f.1))) where
      by_tests : (i o : Bool) → (i || o) ≡ true → ((o && not i) || i) ≡ true
      by_tests true true e = refl
      by_tests true false e = refl
      by_tests false true e = refl
      by_tests false false e = cc

-- ---- a sub-model at its place

pub sub_tied : (blif : Blif) (p : ModelPlace) (number base : ℕ) (s : SubLine) → IsSubTied blif s → IsTied blif (placed blif p number base s)
sub_tied blif p number base s is =
    let m : BlifModel = model_at blif (model_numbered blif s.model) in record {
      apart = formals_apart (interface_of m) [] (formals s) is.fitting;
      count = length-map (sub_signals s) (signal_at blif p) ∙ length-map s.ties (λ (t : Tie). t.actual) ∙ sym (length-map s.ties (λ (t : Tie). t.formal));
      known = λ n e. interface_among m n (formal_known (interface_of m) [] (formals s) n is.fitting e);
    }

-- the ties to a signal are those of inputs and clocks, and those that are driven
pub sub_ties : (blif : Blif) (p : ModelPlace) (x number base : ℕ) (s : SubLine) → IsSubTied blif s → IsModel (model_at blif (model_numbered blif s.model))
    → hits (λ k. k == x) (map (signal_at blif p) (sub_signals s)) ≡ hits (gives blif (placed blif p number base s) x) (heads (model_at blif (model_numbered blif s.model))) + sub_hits blif p x s
sub_ties blif p x number base s is good =
    let m : BlifModel = model_at blif (model_numbered blif s.model) in
    let q : ModelPlace = placed blif p number base s in
    hits_map (λ k. k == x) (signal_at blif p) (sub_signals s) ∙ hits_map (gives blif p x) (λ (t : Tie). t.actual) s.ties
    ∙ hits_split (λ (t : Tie). gives blif p x t.actual) (is_driving blif s) s.ties
    ∙ swap (sub_hits blif p x s) (hits (λ (t : Tie). gives blif p x t.actual) (filter (λ (t : Tie). not (is_driving blif s t)) s.ties))
    ∙ ap (λ (k : ℕ). k + sub_hits blif p x s)
    (hits_same (λ (t : Tie). gives blif p x t.actual) (λ (t : Tie). gives blif q x t.formal) (filter (λ (t : Tie). not (is_driving blif s t)) s.ties)
    (λ i t e. ap (λ (k : ℕ). k == x) (sym (within t (among_filter (λ (t : Tie). not (is_driving blif s t)) s.ties t (i, e)))))
    ∙ sym (hits_map (gives blif q x) (λ (t : Tie). t.formal) (filter (λ (t : Tie). not (is_driving blif s t)) s.ties))
    ∙ ap (λ (ns : List (List ℕ)). hits (gives blif q x) ns) (formals_kept (λ n. not (drives m n)) s.ties) ∙ read_hits blif s (gives blif q x) is good) where
      swap : (a b : ℕ) → a + b ≡ b + a
      swap a b = omega arith

      within : (t : Tie) → Among s.ties t → signal_at blif (placed blif p number base s) t.formal ≡ signal_at blif p t.actual
      within t a =
          let f = map_among (λ (t : Tie). t.formal) s.ties t a in
          tied_signal blif (placed blif p number base s) t.formal (at_among (formals s) f.0 t.formal f.1)
          ∙ tie_number (signal_at blif p) s.ties (formals_apart (interface_of (model_at blif (model_numbered blif s.model))) [] (formals s) is.fitting) a.0 t a.1
