-- The calls that judge the mentions of a model, and the models.
use Rattle.std.proofs.Common.{◌≡◌, ◌<◌, ◌≤◌, ◌+◌, ◌++◌, ◌∷◌, ◌&&◌, ◌||◌, inl, inr, [], ℕ, zero, suc, List, Bool, true, false, cond, map, take, drop, length, get_or, Option, Some, None, option_map, refl, ap, ap₂, sym, ◌∙◌, subst, arith}
use Rattle.std.specs.Prelude.{◌⊎◌, ◌==◌, filter_map, find, nat_le, nat_lt, slice_get, Result, Ok, Err}
use Rattle.std.specs.List.{cons_option}
use Rattle.std.proofs.lemmas.Bool.{leb-true, leb-false}
use Rattle.std.proofs.lemmas.List.{drop_all, take_more}
use Rattle.std.proofs.lemmas.List.Elements.{All-get_or, All-nil}
use Rattle.std.proofs.lemmas.Option.{get_or_from_slice_get, same_Some, slice_get_within}
use Rattle.vrt_model.proofs.Lists.{at_front, at_last, drop_one}
use Rattle.vrt_model.specs.Lists.{At, has_name}
use Rattle.names.specs.Names.{with_names}
use Rattle.names.proofs.NameLaws.{names_once, once_has_same}
use Rattle.vrt_model.specs.Inputs.{IsBlif, IsCoverLine, IsModel}
use Rattle.vrt_model.specs.Models.{DriverFault, Never, Twice, driver_fault, driver_fault_in, drivers_in, earlier_fault, line_of_fault, network_of, uses_in}
use Rattle.vrt_model.specs.declared.blif.Blif.{Blif}
use Rattle.vrt_model.specs.declared.blif.BlifModel.{BlifModel}
use Rattle.vrt_model.specs.declared.blif.LatchLine.{LatchLine}
use Rattle.blif_checks.specs.Least.{AreNotesOf, IsLeastLine, IsOnLine, earlier_line, is_bad, of_driver, passes_on}
use Rattle.blif_checks.specs.Mentions.{numbered}
use Rattle.blif_checks.specs.Notes.{AreNotes, is_first_use, is_second}
use Rattle.blif_checks.specs.Judged.{Judges}
use Rattle.blif_checks.specs.Parts.{earlier_told, is_line_before, part_of}
use Rattle.blif_checks.specs.Shown.{line_of}
use Rattle.blif_checks.specs.Signals.{named_beside}
use Rattle.blif_checks.proofs.GoodLaws.{quiet_beside}
use Rattle.blif_checks.specs.declared.faults.ModelFault.{ModelFault}
use Rattle.blif_checks.specs.declared.faults.ModelFault.TheVariants.{UnknownModel, Formals, Recursion, Depth, DrivenTwice, Undriven, NoMemory}
use Rattle.blif_checks.specs.declared.mentions.Mention.{Mention}
use Rattle.blif_checks.specs.declared.notes.Note.{Note}
use Rattle.blif_checks.specs.declared.part.Part.{Part}
use Rattle.blif_checks.specs.declared.part.Part.TheVariants.{Own, Network}
use Rattle.blif_checks.proofs.NoteLaws.{eq_yes}

-- ---- the least line

at_end : {X : Type 0} (xs : List X) (y : X) (i : ℕ) (x : X) → At (xs ++ y ∷ []) i x → At xs i x ⊎ (x ≡ y)
at_end [] y zero x e = let same : y ≡ x = cc in inr (sym same)
at_end [] y (suc i) x e = cc
at_end (z ∷ xs) y zero x e = inl e
at_end (z ∷ xs) y (suc i) x e = at_end xs y i x e

line_by : (bad : Mention → Bool) (list : List Mention) (o : Mention) (least : Option ℕ) (b : Bool) → bad o ≡ b → IsLeastLine bad list least → IsLeastLine bad (list ++ o ∷ []) (cond b (earlier_line least o.line) least)
line_by bad list o None false e is =
    λ i p at. elim (at_end list o i p at) [
      | inl there ↦ is i p there
      | inr same ↦ ap bad same ∙ e
    ]
line_by bad list o None true e is = (
  (length list, o, at_last list o, e, refl),
  λ i p at h. elim (at_end list o i p at) [
    | inl there ↦ let both : true ≡ false = sym h ∙ is i p there in cc
    | inr same ↦ let l : p.line ≡ o.line = ap (λ (q : Mention). q.line) same in omega arith
  ],
)
line_by bad list o (Some line) false e is = (
  (is.0.0, is.0.1, at_front list (o ∷ []) is.0.0 is.0.1 is.0.2, is.0.3, is.0.4),
  λ i p at h. elim (at_end list o i p at) [
    | inl there ↦ is.1 i p there h
    | inr same ↦ let both : true ≡ false = sym h ∙ ap bad same ∙ e in cc
  ],
)
line_by bad list o (Some line) true e is = by_order (nat_le line o.line) refl where
  by_order : (b : Bool) → nat_le line o.line ≡ b → IsLeastLine bad (list ++ o ∷ []) (cond b (Some line) (Some o.line))
  by_order true le =
      let low : line ≤ o.line = leb-true line o.line le in (
        (is.0.0, is.0.1, at_front list (o ∷ []) is.0.0 is.0.1 is.0.2, is.0.3, is.0.4),
        λ i p at h. elim (at_end list o i p at) [
          | inl there ↦ is.1 i p there h
          | inr same ↦ let l : p.line ≡ o.line = ap (λ (q : Mention). q.line) same in omega arith
        ],
      )
  by_order false le =
      let low : o.line < line = leb-false line o.line le in (
        (length list, o, at_last list o, e, refl),
        λ i p at h. elim (at_end list o i p at) [
          | inl there ↦ let old : line ≤ p.line = is.1 i p there h in omega arith
          | inr same ↦ let l : p.line ≡ o.line = ap (λ (q : Mention). q.line) same in omega arith
        ],
      )

-- one mention more
pub least_turn : (bad : Mention → Bool) (list : List Mention) (i : ℕ) (least new : Option ℕ) → i < length list → IsLeastLine bad (take i list) least
    → new ≡ cond (bad (get_or list i (record { line = 0; signal = 0 }))) (earlier_line least (get_or list i (record { line = 0; signal = 0 })).line) least → IsLeastLine bad (take (i + 1) list) new
least_turn bad list i least new lt is e =
    let further : take (i + 1) list ≡ take i list ++ get_or list i (record { line = 0; signal = 0 }) ∷ [] = take_more list i (record { line = 0; signal = 0 }) lt in
    subst (λ (n : Option ℕ). IsLeastLine bad (take (i + 1) list) n) (sym e)
    (subst (λ (l : List Mention). IsLeastLine bad l (cond (bad (get_or list i (record { line = 0; signal = 0 }))) (earlier_line least (get_or list i (record { line = 0; signal = 0 })).line) least)) (sym further)
    (line_by bad (take i list) (get_or list i (record { line = 0; signal = 0 })) least (bad (get_or list i (record { line = 0; signal = 0 }))) refl is))

-- ---- the first bad mention of a line

found_none : (test : Mention → Bool) (list : List Mention) → find test list ≡ None → (i : ℕ) (o : Mention) → At list i o → test o ≡ false
found_none test [] none i o at = cc
found_none test (x ∷ list) none i o at = by_test (test x) refl none i at (λ rest j here. found_none test list rest j o here) where
  by_test : (b : Bool) → test x ≡ b → cond b (Some x) (find test list) ≡ None → (i : ℕ) → At (x ∷ list) i o → (find test list ≡ None → (j : ℕ) → At list j o → test o ≡ false) → test o ≡ false
  by_test true h none i at further = cc
  by_test false h none zero at further = let same : x ≡ o = cc in ap test (sym same) ∙ h
  by_test false h none (suc i) at further = further none i at

-- on the least line there is one
pub line_has_one : (notes : List Note) (mentions : List Mention) (line : ℕ) → IsLeastLine (is_bad notes) mentions (Some line) → find (passes_on (is_second notes) line) mentions ≡ None
    → find (passes_on (is_first_use notes) line) mentions ≡ None → ⊥
line_has_one notes mentions line least a b =
    let first = least.0 in
    let none : passes_on (is_second notes) line first.1 ≡ false = found_none (passes_on (is_second notes) line) mentions a first.0 first.1 first.2 in
    let never : passes_on (is_first_use notes) line first.1 ≡ false = found_none (passes_on (is_first_use notes) line) mentions b first.0 first.1 first.2 in
    let here : (first.1.line == line) ≡ true = ap (λ l. l == line) first.4 ∙ eq_yes line line refl in
    let second : is_second notes first.1 ≡ false = sym (ap (λ t. t && is_second notes first.1) here) ∙ none in
    let used : is_first_use notes first.1 ≡ false = sym (ap (λ t. t && is_first_use notes first.1) here) ∙ never in
    let good : is_bad notes first.1 ≡ false = ap₂ (λ p q. p || q) second used in
    let both : true ≡ false = sym first.3 ∙ good in cc

pub told_twice : (notes : List Note) (names : List (List ℕ)) (mentions : List Mention) (line : ℕ) (o : Mention) (f : ModelFault) → IsLeastLine (is_bad notes) mentions (Some line)
    → find (passes_on (is_second notes) line) mentions ≡ Some o → (f ≡ NoMemory) ⊎ (f ≡ DrivenTwice line (get_or names o.signal [])) → (f ≡ NoMemory) ⊎ ((line : ℕ) × IsOnLine notes names mentions line f)
told_twice notes names mentions line o f least found (inl e) = inl e
told_twice notes names mentions line o f least found (inr e) = inr (line, record { least = least; told = inl (o, found, e) })

pub told_never : (notes : List Note) (names : List (List ℕ)) (mentions : List Mention) (line : ℕ) (o : Mention) (f : ModelFault) → IsLeastLine (is_bad notes) mentions (Some line)
    → find (passes_on (is_second notes) line) mentions ≡ None → find (passes_on (is_first_use notes) line) mentions ≡ Some o → (f ≡ NoMemory) ⊎ (f ≡ Undriven line (get_or names o.signal []))
    → (f ≡ NoMemory) ⊎ ((line : ℕ) × IsOnLine notes names mentions line f)
told_never notes names mentions line o f least none found (inl e) = inl e
told_never notes names mentions line o f least none found (inr e) = inr (line, record { least = least; told = inr (o, none, found, e) })

-- ---- all that a model's notes show

-- the notes of a model by its names
pub notes_are_of : (blif : Blif) (m : BlifModel) (names : List (List ℕ)) (notes : List Note) (drivers uses ds us : List Mention) (count : ℕ) → IsModel m → names ≡ with_names [] (named_beside m)
    → drivers ≡ map (numbered names) (drivers_in blif m) → uses ≡ map (numbered names) (uses_in blif m) → ds ≡ drivers → us ≡ uses → count ≡ length names → length notes ≡ count → AreNotes notes ds us → AreNotesOf blif m notes names
notes_are_of blif m names notes drivers uses ds us count is n d u de ue c l are = record {
  others = λ name absent.
      quiet_beside blif m name is (sym (once_has_same (named_beside m) name) ∙ ap (λ (ns : List (List ℕ)). has_name ns name) (sym (n ∙ names_once (named_beside m))) ∙ absent);
  count = l ∙ c;
  notes_are = subst (λ (xs : List Mention). AreNotes notes xs (map (numbered names) (uses_in blif m))) (de ∙ d) (subst (AreNotes notes ds) (ue ∙ u) are);
}

-- ---- the models

-- each model is one
pub model_is : (blif : Blif) (models : List BlifModel) (i : ℕ) (m : BlifModel) → IsBlif blif → models ≡ blif.models → slice_get models i ≡ Some m → IsModel m
model_is blif models i m is same here =
    let there : slice_get blif.models i ≡ Some m = ap (λ (ms : List BlifModel). slice_get ms i) (sym same) ∙ here in
    subst IsModel (get_or_from_slice_get blif.models i m m there) (All-get_or IsModel blif.models i m (slice_get_within blif.models i m there) is.models)

-- a model's network is one
pub part_is : (part : Part) (m : BlifModel) → IsModel m → IsModel (part_of part m)
part_is Own m is = record {
  inputs = is.inputs;
  clocks = is.clocks;
  outputs = is.outputs;
  input_lines = is.input_lines;
  clock_lines = is.clock_lines;
  output_lines = is.output_lines;
  covers = is.covers;
  latches = is.latches;
  exdc = is.exdc;
}
part_is Network m is = record {
  inputs = is.inputs;
  clocks = is.clocks;
  outputs = λ i j x y at. cc;
  input_lines = is.input_lines;
  clock_lines = is.clock_lines;
  output_lines = refl;
  covers = is.exdc;
  latches = All-nil (λ (l : LatchLine). l.init ≤ 3);
  exdc = All-nil IsCoverLine;
}

pub network_is_model : (m : BlifModel) → IsModel m → IsModel (network_of m)
network_is_model m is = part_is Network m is

-- want of memory comes first
memory_first : (f : ModelFault) → cond (is_line_before (line_of f) None) f NoMemory ≡ NoMemory
memory_first (UnknownModel line name) = refl
memory_first (Formals line name) = refl
memory_first (Recursion line name) = refl
memory_first (Depth line depth) = refl
memory_first (DrivenTwice line name) = refl
memory_first (Undriven line name) = refl
memory_first NoMemory = refl

-- faults of drivers are told in the order of their lines
lines_told : (a b : DriverFault) → is_line_before (line_of (of_driver b)) (line_of (of_driver a)) ≡ nat_lt (line_of_fault b) (line_of_fault a)
lines_told (Twice k x) (Twice l y) = refl
lines_told (Twice k x) (Never l y) = refl
lines_told (Never k x) (Twice l y) = refl
lines_told (Never k x) (Never l y) = refl

one_told : (a b : DriverFault) (t : Bool) → option_map of_driver (cond t (Some b) (Some a)) ≡ Some (cond t (of_driver b) (of_driver a))
one_told a b true = refl
one_told a b false = refl

-- the fault of a model and its network
pub told_of : {T : Type 0} (own network : Option DriverFault) (f : ModelFault) (r : Result T ModelFault) → (f ≡ NoMemory) ⊎ (option_map of_driver own ≡ Some f) → Judges r (option_map of_driver network)
    → (earlier_told f r ≡ NoMemory) ⊎ (option_map of_driver (earlier_fault own network) ≡ Some (earlier_told f r))
told_of own network f (Ok x) (inl e) b = inl e
told_of own network f (Err g) (inl e) b = inl (ap (λ (a : ModelFault). cond (is_line_before (line_of g) (line_of a)) g a) e ∙ memory_first g)
told_of None network f r (inr e) b = cc
told_of (Some own) None f (Ok x) (inr e) b = inr e
told_of (Some own) (Some network) f (Ok x) (inr e) b = cc
told_of own network f (Err g) (inr e) (inl h) = inl (ap (λ (a : ModelFault). cond (is_line_before (line_of a) (line_of f)) a f) h)
told_of (Some own) None f (Err g) (inr e) (inr h) = cc
told_of (Some own) (Some network) f (Err g) (inr e) (inr h) =
    let same : of_driver own ≡ f = same_Some (of_driver own) f e in
    let other : of_driver network ≡ g = same_Some (of_driver network) g h in
    inr (one_told own network (nat_lt (line_of_fault network) (line_of_fault own))
    ∙ ap Some
    (ap (λ t. cond t (of_driver network) (of_driver own)) (sym (lines_told own network)) ∙ ap₂ (λ (a b : ModelFault). cond (is_line_before (line_of b) (line_of a)) b a) same other))

-- the first model with a fault
pub model_first : (blif : Blif) (models : List BlifModel) (i : ℕ) (m : BlifModel) (f : ModelFault) → models ≡ blif.models → i < length models → slice_get models i ≡ Some m
    → slice_get (filter_map (driver_fault_in blif) (drop i blif.models)) 0 ≡ driver_fault blif → option_map of_driver (driver_fault_in blif m) ≡ Some f → option_map of_driver (driver_fault blif) ≡ Some f
model_first blif models i m f same lt here so_far e =
    ap (option_map of_driver) (sym so_far ∙ ap (λ (ms : List BlifModel). slice_get (filter_map (driver_fault_in blif) ms) 0) (ap (drop i) (sym same) ∙ drop_one models i m here)) ∙ by_fault (driver_fault_in blif m) e where
      by_fault : (o : Option DriverFault) → option_map of_driver o ≡ Some f → option_map of_driver (slice_get (cons_option o (filter_map (driver_fault_in blif) (drop (i + 1) models))) 0) ≡ Some f
      by_fault None e = cc
      by_fault (Some d) e = e

-- a model without one
pub model_none : (blif : Blif) (models : List BlifModel) (i : ℕ) (m : BlifModel) → models ≡ blif.models → i < length models → slice_get models i ≡ Some m
    → slice_get (filter_map (driver_fault_in blif) (drop i blif.models)) 0 ≡ driver_fault blif → option_map of_driver (driver_fault_in blif m) ≡ None
    → slice_get (filter_map (driver_fault_in blif) (drop (i + 1) blif.models)) 0 ≡ driver_fault blif
model_none blif models i m same lt here so_far e =
    ap (λ (ms : List BlifModel). slice_get (filter_map (driver_fault_in blif) (drop (i + 1) ms)) 0) (sym same) ∙ by_fault (driver_fault_in blif m) refl e
    ∙ sym (ap (λ (ms : List BlifModel). slice_get (filter_map (driver_fault_in blif) ms) 0) (ap (drop i) (sym same) ∙ drop_one models i m here)) ∙ so_far where
      by_fault : (o : Option DriverFault) → driver_fault_in blif m ≡ o → option_map of_driver o ≡ None
          → slice_get (filter_map (driver_fault_in blif) (drop (i + 1) models)) 0 ≡ slice_get (cons_option (driver_fault_in blif m) (filter_map (driver_fault_in blif) (drop (i + 1) models))) 0
      by_fault None is e = sym (ap (λ o. slice_get (cons_option o (filter_map (driver_fault_in blif) (drop (i + 1) models))) 0) is)
      by_fault (Some d) is e = cc

-- no model is left
pub models_done : (blif : Blif) (models : List BlifModel) (i : ℕ) → models ≡ blif.models → length models ≤ i → slice_get (filter_map (driver_fault_in blif) (drop i blif.models)) 0 ≡ driver_fault blif
    → option_map of_driver (driver_fault blif) ≡ None
models_done blif models i same past so_far =
    ap (option_map of_driver)
    (sym so_far ∙ ap (λ (ms : List BlifModel). slice_get (filter_map (driver_fault_in blif) ms) 0) (drop_all i blif.models (omega (arith, past, ap length same))))
