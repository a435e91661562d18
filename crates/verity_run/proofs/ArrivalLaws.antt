-- Arrival orders of a cell: its verdict, and what is told of an equal one.
use Rattle.std.proofs.Common.{◌≡◌, ◌≢◌, ◌<◌, ◌≤◌, ◌+◌, ◌++◌, ◌∷◌, [], ℕ, Bool, true, false, cond, List, Option, Some, None, ap, eqb, get_or, inl, inr, length, refl, subst, sym, take, ◌∙◌}
use Rattle.std.specs.Prelude.{IfSome}
use Rattle.std.proofs.lemmas.Bool.{eqb-true, false≢true}
use Rattle.std.proofs.lemmas.List.{map-append, take_all, take_more}
use Rattle.std.proofs.lemmas.Option.{none-some, same_Some}
use Rattle.arrival_lines.specs.ArrivalLines.{IsArrivalTold}
use Rattle.arrival_lines.specs.RisingNames.{rising_fault}
use Rattle.cell_compare.specs.Cells.{HasLine, IsFlattenedTo}
use Rattle.cell_room.specs.Compared.{IsFlattened, comparison}
use Rattle.cell_room.specs.Flat.{Flattened}
use Rattle.cells_below.specs.Below.{AreBelow}
use Rattle.domino_cells.proofs.CellLaws.{made_equal, made_of}
use Rattle.domino_order.specs.declared.arrival.Arrival.{Arrival}
use Rattle.mode_lines.specs.Lists.{Tells as TellsFault}
use Rattle.mode_lines.specs.declared.valuations.AtFault.{AtFault}
use Rattle.mode_lines.specs.declared.valuations.AtFault.TheVariants.{NoSuchName, Twice, NoMemory as NoAtMemory}
use Rattle.mode_lines.specs.NameLists.{names_in}
use Rattle.verity_run.proofs.ReplayLaws.{supported_with, tells_by}
use Rattle.verity_run.specs.Arrivals.{HasArrivalLine, HasVerdict, IsAnswerOn, IsArrival, IsArrivalOf, IsEqualWith, IsFound, IsFoundSoFar, IsJudgedAs, IsNoRising, OfArrival, counted_arrival, is_equal_verdict}
use Rattle.verity_run.specs.Asked.{AreAsked}
use Rattle.verity_run.specs.Named.{cell_asked, phase_asked}
use Rattle.verity_run.specs.Refusals.{Tells}
use Rattle.verity_run.specs.Replays.{RefusesFault}
use Rattle.verity_run.specs.Reports.{AreVerdicts, IsJudged, no_verdict, nothing_known, one_verdict}
use Rattle.verity_run.specs.declared.refusals.Refusal.{Refusal}
use Rattle.verity_run.specs.declared.refusals.Refusal.TheVariants.{Unread, Told, NoMemory}
use Rattle.verity_run.specs.declared.report.Judged.{Judged}
use Rattle.verity_run.specs.declared.status.Count.{Count}
use Rattle.vrt_model.proofs.Lists.{at_front, at_last, at_split}
use Rattle.vrt_model.specs.CheckedVerdicts.{IsCheckedVerdict}
use Rattle.vrt_model.specs.Comparison.{Comparison}
use Rattle.vrt_model.specs.Equal.{IsPhaseEqual}
use Rattle.vrt_model.specs.Hierarchy.{cell_order}
use Rattle.vrt_model.specs.Lists.{Among, At}
use Rattle.vrt_model.specs.Unsupported.{IsSupported, comparison_of}
use Rattle.vrt_model.specs.Verdicts.{Answer}
use Rattle.vrt_model.specs.declared.blif.Blif.{Blif}
use Rattle.vrt_model.specs.declared.design.Design.{Design}
use Rattle.vrt_model.specs.declared.rules.Rules.{Rules}
use Rattle.vrt_model.specs.declared.verdict.Verdict.{Verdict}
use Rattle.vrt_model.specs.declared.verdict.Verdict.TheVariants.{Equal, Skipped, Fault, Vacuous, Budget, Unsupported}
use Rattle.vrt_model.specs.declared.whole.CellFacts.{CellFacts}

-- ---- the verdict on a cell among those that are checked

module _ (design : Design) (blif : Blif) (rules : Rules) (budget cell : ℕ) where
  -- no cell was looked at yet
  pub found_none : (known : List CellFacts) (found : Option Judged) → known ≡ nothing_known design → found ≡ None → IsFoundSoFar design blif rules budget [] known cell found
  found_none known found nothing none =
      subst (λ (f : Option Judged). IsFoundSoFar design blif rules budget [] known cell f) (sym none)
      (record { answers = []; on = refl; verdicts = subst (λ (k : List CellFacts). AreVerdicts design blif rules budget [] k) (sym nothing) no_verdict; found_is = tt })

  -- what was found stays among the answers
  stays : (answers : List Answer) (a : Answer) (found : Option Judged) → IfSome found (IsAnswerOn design blif rules budget answers cell) → IfSome found (IsAnswerOn design blif rules budget (answers ++ a ∷ []) cell)
  stays answers a None is = tt
  stays answers a (Some j) is =
      let its : Answer = record { cell = cell; verdict = j.verdict } in
      record { its = (is.its.0, at_front answers (a ∷ []) is.its.0 its is.its.1); complete = is.complete; runs = is.runs; line = is.line; made = is.made }

  -- the last answer is of the cell
  pub last_on : (answers : List Answer) (n : ℕ) (known then : List CellFacts) (j : Judged) → n ≡ cell → IsJudged design blif rules budget known n j.verdict then
      → HasLine design blif rules n j.verdict j.flattened → IsFlattenedTo design blif rules n (Some j.verdict) j.flattened
      → IsAnswerOn design blif rules budget (answers ++ record { cell = n; verdict = j.verdict } ∷ []) cell j
  last_on answers n known then j same is line made =
      subst (λ (c : ℕ). IsAnswerOn design blif rules budget (answers ++ record { cell = n; verdict = j.verdict } ∷ []) c j) same
      (record { its = (length answers, at_last answers (record { cell = n; verdict = j.verdict })); complete = is.complete; runs = is.runs; line = line; made = made })

  -- one cell more
  pub found_more : (cells : List ℕ) (i n : ℕ) (known then : List CellFacts) (j : Judged) (found next : Option Judged) → i < length cells → n ≡ get_or cells i 0
      → IsFoundSoFar design blif rules budget (take i cells) known cell found → IsJudged design blif rules budget known n j.verdict then
      → HasLine design blif rules n j.verdict j.flattened → IsFlattenedTo design blif rules n (Some j.verdict) j.flattened
      → next ≡ cond (eqb n cell) (Some j) found → IsFoundSoFar design blif rules budget (take (i + 1) cells) then cell next
  found_more cells i n known then j found next lt number so_far is line made chosen =
      let a : Answer = record { cell = n; verdict = j.verdict } in
      record {
        answers = so_far.answers ++ a ∷ [];
        on =
            map-append (λ (x : Answer). x.cell) so_far.answers (a ∷ []) ∙ ap (λ xs. xs ++ n ∷ []) so_far.on
            ∙ sym (take_more cells i 0 lt ∙ ap (λ k. take i cells ++ k ∷ []) (sym number));
        verdicts = one_verdict a is.facts so_far.verdicts is.is is.is_so refl is.noted;
        found_is = subst (λ (f : Option Judged). IfSome f (IsAnswerOn design blif rules budget (so_far.answers ++ a ∷ []) cell)) (sym chosen) (by_test (eqb n cell) refl);
      }
    where
      by_test : (b : Bool) → eqb n cell ≡ b → IfSome (cond b (Some j) found) (IsAnswerOn design blif rules budget (so_far.answers ++ record { cell = n; verdict = j.verdict } ∷ []) cell)
      by_test true e = last_on so_far.answers n known then j (eqb-true n cell e) is line made
      by_test false e = stays so_far.answers (record { cell = n; verdict = j.verdict }) found so_far.found_is

  -- all of them
  pub found_all : (cells : List ℕ) (i : ℕ) (known : List CellFacts) (found : Option Judged) → length cells ≤ i → IsFoundSoFar design blif rules budget (take i cells) known cell found
      → IfSome found (IsFound design blif rules budget cells cell)
  found_all cells i known None past so_far = tt
  found_all cells i known (Some j) past so_far = record {
    verdict = record {
      answers = so_far.answers;
      on = so_far.on ∙ take_all i cells past;
      verdicts = (known, so_far.verdicts);
      its = so_far.found_is.its;
      complete = so_far.found_is.complete;
      runs = so_far.found_is.runs;
    };
    line = so_far.found_is.line;
    made = so_far.found_is.made;
  }

-- each of the verdicts is one of a cell by what was known before
verdict_there : (design : Design) (blif : Blif) (rules : Rules) (budget : ℕ) (answers : List Answer) (known : List CellFacts) (a : Answer) → AreVerdicts design blif rules budget answers known → Among answers a
    → (facts : List CellFacts) × IsCheckedVerdict design blif rules facts budget a.cell a.verdict
verdict_there design blif rules budget answers known a no_verdict among = absurd (none-some a among.1)
verdict_there design blif rules budget answers known a (one_verdict {answers = before} {known = then} last facts rest is so all noted) among =
    elim (at_split before last among.0 a (subst (λ (xs : List Answer). At xs among.0 a) all among.1)) [
      | inl there ↦ verdict_there design blif rules budget before then a rest (among.0, there)
      | inr same ↦ (then, subst (λ (x : Answer). IsCheckedVerdict design blif rules then budget x.cell x.verdict) (sym same.1) is)
    ]

pub equal_is : (v : Verdict) → true ≡ is_equal_verdict v → v ≡ Equal
equal_is Equal e = refl
equal_is Skipped e = absurd (false≢true (sym e))
equal_is (Fault fault) e = absurd (false≢true (sym e))
equal_is (Vacuous phase) e = absurd (false≢true (sym e))
equal_is (Budget nodes phase) e = absurd (false≢true (sym e))
equal_is (Unsupported why) e = absurd (false≢true (sym e))

-- a verdict that is not equal
pub other_verdict : (v : Verdict) → false ≡ is_equal_verdict v → v ≢ Equal
other_verdict v e same = false≢true (e ∙ ap is_equal_verdict same)

-- ---- an equal cell

-- it is supported, and equal in each phase
pub equal_supported : (design : Design) (blif : Blif) (rules : Rules) (budget : ℕ) (cells : List ℕ) (cell : ℕ) (j : Judged) → IsFound design blif rules budget cells cell j → true ≡ is_equal_verdict j.verdict
    → (m : ℕ) × IsSupported design blif rules cell m × ((phase : ℕ) → phase < length rules.phases → IsPhaseEqual (comparison_of design blif rules cell m) phase)
equal_supported design blif rules budget cells cell j found equal =
    let v = found.verdict in
    let is = verdict_there design blif rules budget v.answers v.verdicts.0 (record { cell = cell; verdict = j.verdict }) v.verdicts.1 v.its in
    subst (λ (w : Verdict). IsCheckedVerdict design blif rules is.0 budget cell w) (equal_is j.verdict equal) is.1

module _ (design : Design) (blif : Blif) (rules : Rules) (budget : ℕ) (cells : List ℕ) (cell : ℕ) (j : Judged) (found : IsFound design blif rules budget cells cell j)
    (equal : true ≡ is_equal_verdict j.verdict) (f : Flattened) (flattened : j.flattened ≡ Some f) where
  pub is_equal : j.verdict ≡ Equal
  is_equal = equal_is j.verdict equal

  supported : (m : ℕ) × IsSupported design blif rules cell m × ((phase : ℕ) → phase < length rules.phases → IsPhaseEqual (comparison_of design blif rules cell m) phase)
  supported = equal_supported design blif rules budget cells cell j found equal

  -- what was made of it
  pub made : (m : ℕ) × IsFlattened design blif rules cell m f
  made = made_of design blif rules cell (Some j.verdict) j.flattened f flattened found.made

  -- it is equal in each phase
  pub equal_made : (phase : ℕ) → phase < length rules.phases → IsPhaseEqual (comparison design rules cell f) phase
  equal_made phase lt = made_equal design blif rules cell f made phase supported.0 (record { supported = supported.1; equal = supported.2 }) (supported.2 phase lt)

  -- what holds of what was made of it holds of its comparison
  pub equal_with : (P : Comparison → Type 0) → P (comparison design rules cell f) → IsEqualWith design blif rules P cell j.verdict
  equal_with P holds = (is_equal, supported_with P design blif rules cell supported.0 made.0 f supported.1 made.1 holds)

  pub equal_refused : (names : List (List ℕ)) (r : Refusal) → Tells (IsNoRising (comparison design rules cell f) names) r
      → Tells (λ line. IsEqualWith design blif rules (λ k. IsNoRising k names line) cell j.verdict) r
  equal_refused names r told =
      tells_by (IsNoRising (comparison design rules cell f) names) (λ line. IsEqualWith design blif rules (λ k. IsNoRising k names line) cell j.verdict) r (λ line is. equal_with (λ k. IsNoRising k names line) is) told

-- ---- names

-- a name that is refused
pub no_rising : (k : Comparison) (names : List (List ℕ)) (fault : AtFault) (r : Refusal) → TellsFault (rising_fault k names) fault → RefusesFault fault r → Tells (IsNoRising k names) r
no_rising k names (NoSuchName name) (Unread line) first told = absurd told
no_rising k names (NoSuchName name) (Told line) first told = record { fault = NoSuchName name; first = first; told = told }
no_rising k names (NoSuchName name) NoMemory first told = tt
no_rising k names (Twice name) (Unread line) first told = absurd told
no_rising k names (Twice name) (Told line) first told = record { fault = Twice name; first = first; told = told }
no_rising k names (Twice name) NoMemory first told = tt
no_rising k names NoAtMemory r first told = subst (Tells (IsNoRising k names)) (sym told) tt

-- ---- the line

-- what was told, as one line
pub told_line : (k : Comparison) (blif : Blif) (budget phase : ℕ) (names : List (List ℕ)) (arrival : Arrival) (own line : List ℕ) (count : Count) → IsArrivalTold k blif budget phase names arrival own
    → count ≡ counted_arrival arrival → line ≡ own → HasArrivalLine k blif budget phase names count line
told_line k blif budget phase names arrival own line count told counts same =
    record { arrival = arrival; told = subst (IsArrivalTold k blif budget phase names arrival) (sym same) told; counts = counts }

-- ---- the cell that is asked for

-- what holds of the cell and of its verdict, among the cells that are asked for
pub judged_as : (design : Design) (blif : Blif) (rules : Rules) (budget : ℕ) (word : List ℕ) (n : ℕ) (cells : List ℕ) (P : ℕ → Verdict → Type 0) → cell_asked design word ≡ Some n → AreAsked design (Some word) cells
    → (verdict : Verdict) → HasVerdict design blif rules budget cells n verdict → P n verdict → IsJudgedAs design blif rules budget word P
judged_as design blif rules budget word n cells P there asked verdict has holds =
    (n, there, (cells, subst (λ (m : ℕ). AreBelow design m (cell_order design) cells) (same_Some asked.0 n (sym asked.1 ∙ there)) asked.2, (verdict, has, holds)))

module _ (design : Design) (blif : Blif) (rules : Rules) (budget : ℕ) (cell phase rise : List ℕ) (place n : ℕ) (names : List (List ℕ)) (cells : List ℕ) (j : Judged)
    (in_phase : phase_asked rules phase ≡ Some place) (names_are : names_in rise ≡ Some names) (there : cell_asked design cell ≡ Some n) (asked : AreAsked design (Some cell) cells)
    (found : IsFound design blif rules budget cells n j) where
  -- the line of the answer
  pub arrival_is : (count : Count) (line : List ℕ) → IsArrivalOf design blif rules budget place names count line n j.verdict → IsArrival design blif rules budget cell phase rise count line
  arrival_is count line is = record {
    place = place;
    in_phase = in_phase;
    names = names;
    names_are = names_are;
    judged = judged_as design blif rules budget cell n cells (IsArrivalOf design blif rules budget place names count line) there asked j.verdict found.verdict is;
  }

  -- the refusal of a name
  pub arrival_refused : (r : Refusal) → Tells (λ line. IsEqualWith design blif rules (λ k. IsNoRising k names line) n j.verdict) r → Tells (OfArrival design blif rules budget cell phase rise) r
  arrival_refused r told =
      tells_by (λ line. IsEqualWith design blif rules (λ k. IsNoRising k names line) n j.verdict) (OfArrival design blif rules budget cell phase rise) r
      (λ line is.
      inr (place, in_phase, inr (names, names_are, judged_as design blif rules budget cell n cells (IsEqualWith design blif rules (λ k. IsNoRising k names line)) there asked j.verdict found.verdict is))) told
