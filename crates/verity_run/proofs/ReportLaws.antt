-- Reports, cell by cell.
use Rattle.std.proofs.Common.{◌≡◌, ◌≤◌, ◌<◌, ◌+◌, arith, take, drop, Option, inl, inr, ◌∷◌, ◌++◌, ◌||◌, [], ℕ, List, Bool, true, false, cond, get_or, length, refl, sym, ap, ap₂, ◌∙◌, append_assoc, append-nil, subst}
use Rattle.std.specs.Io.KnownBytes.{Appends}
use Rattle.std.specs.List.{list_any}
use Rattle.std.proofs.lemmas.List.{map-append, take_all, take_more}
use Rattle.std.proofs.lemmas.List.Elements.{All-append, All-cons, All-nil}
use Rattle.std.proofs.lemmas.List.Folds.{list_any-append}
use Rattle.verity_run.proofs.PutLaws.{appended, front_behind, joined_behind, kept_behind, nothing_put, rose_since, split_at}
use Rattle.cell_compare.specs.Cells.{HasRuns, IsComplete}
use Rattle.verity_run.specs.Asked.{ReportsGenerated}
use Rattle.verity_run.specs.Messages.{joined, last_line}
use Rattle.verity_run.specs.Reports.{AreVerdicts, Begins, IsChecked, IsEnded, PutsCell, PutsReport, Reports, ReportsCells, ReportsFrom, ReportsKnowing, StopsCell, StopsReport, answer_lines, counted, is_fault, is_undecided, more, no_cell, no_verdict, none, nothing_known, one_more, one_verdict, status_by, with_count}
use Rattle.verity_run.specs.Runs.{Ends, PutsLine}
use Rattle.verity_run.specs.declared.status.Count.{Count}
use Rattle.verity_run.specs.declared.status.Count.TheVariants.{Nothing, Pending, Faulty}
use Rattle.verity_run.specs.declared.status.Status.{Status}
use Rattle.verity_run.specs.declared.status.Status.TheVariants.{AllEqual, InputRefused, NoMemory, ReadFault, SomeFault, Undecided, Usage, WriteFault}
use Rattle.vrt_io.specs.Causes.{Rose}
use Rattle.vrt_model.specs.Verdicts.{Answer, answer_line, report}
use Rattle.vrt_model.specs.declared.blif.Blif.{Blif}
use Rattle.vrt_model.specs.declared.design.Design.{Design}
use Rattle.vrt_model.specs.declared.rules.Rules.{Rules}
use Rattle.vrt_model.specs.declared.verdict.Verdict.{Verdict}
use Rattle.vrt_model.specs.declared.verdict.Verdict.TheVariants.{Equal, Skipped, Fault, Vacuous, Budget, Unsupported}
use Rattle.vrt_model.specs.declared.whole.CellFacts.{CellFacts}

-- ---- the status of a report

pub all_equal : IsEnded AllEqual
all_equal = record { written = λ e. cc; had = λ e. cc; read = λ e. cc; understood = λ e. cc }

some_fault : IsEnded SomeFault
some_fault = record { written = λ e. cc; had = λ e. cc; read = λ e. cc; understood = λ e. cc }

undecided : IsEnded Undecided
undecided = record { written = λ e. cc; had = λ e. cc; read = λ e. cc; understood = λ e. cc }

ended_by : (p q : Bool) → IsEnded (cond p SomeFault (cond q Undecided AllEqual))
ended_by true q = some_fault
ended_by false true = undecided
ended_by false false = all_equal

-- it comes with files that were read
pub checked_ends : (design : Design) (blif : Blif) (rules : Rules) (budget : ℕ) (cells : List ℕ) (status : Status) (lines : List (List ℕ))
    → ReportsCells design blif rules budget cells status lines → IsEnded status
checked_ends design blif rules budget cells status lines r =
    subst IsEnded (sym r.ended) (ended_by (list_any (λ (a : Answer). is_fault a.verdict) r.answers) (list_any (λ (a : Answer). is_undecided a.verdict) r.answers))

pub counted_ends : (status : Status) (count : Count) → IsEnded status → IsEnded (with_count status count)
counted_ends status Nothing ended = ended
counted_ends status Faulty ended = some_fault
counted_ends AllEqual Pending ended = undecided
counted_ends SomeFault Pending ended = some_fault
counted_ends Usage Pending ended = undecided
counted_ends InputRefused Pending ended = undecided
counted_ends Undecided Pending ended = undecided
counted_ends ReadFault Pending ended = undecided
counted_ends WriteFault Pending ended = undecided
counted_ends NoMemory Pending ended = undecided

pub reports_end : (IsOf : ℕ → Count → List (List ℕ) → Type 0) (cells : List ℕ) (status : Status) (lines : List (List ℕ)) → Reports IsOf cells status lines → IsEnded status
reports_end IsOf cells status lines none = all_equal
reports_end IsOf cells status lines (more {cells = before} {status = old} {lines = less} n count own rest is on counts all) =
    subst IsEnded (sym counts) (counted_ends old count (reports_end IsOf before old less rest))

-- ---- verdicts

one_more_status : (p q : Bool) (v : Verdict)
    → cond (p || (is_fault v || false)) SomeFault (cond (q || (is_undecided v || false)) Undecided AllEqual)
    ≡ with_count (cond p SomeFault (cond q Undecided AllEqual)) (counted v)
one_more_status true true Equal = refl
one_more_status true false Equal = refl
one_more_status false true Equal = refl
one_more_status false false Equal = refl
one_more_status true true Skipped = refl
one_more_status true false Skipped = refl
one_more_status false true Skipped = refl
one_more_status false false Skipped = refl
one_more_status true true (Fault fault) = refl
one_more_status true false (Fault fault) = refl
one_more_status false true (Fault fault) = refl
one_more_status false false (Fault fault) = refl
one_more_status true true (Vacuous phase) = refl
one_more_status true false (Vacuous phase) = refl
one_more_status false true (Vacuous phase) = refl
one_more_status false false (Vacuous phase) = refl
one_more_status true true (Budget nodes phase) = refl
one_more_status true false (Budget nodes phase) = refl
one_more_status false true (Budget nodes phase) = refl
one_more_status false false (Budget nodes phase) = refl
one_more_status true true (Unsupported why) = refl
one_more_status true false (Unsupported why) = refl
one_more_status false true (Unsupported why) = refl
one_more_status false false (Unsupported why) = refl

status_more : (answers : List Answer) (a : Answer) → status_by (answers ++ a ∷ []) ≡ with_count (status_by answers) (counted a.verdict)
status_more answers a =
    ap₂ (λ p q. cond p SomeFault (cond q Undecided AllEqual))
    (list_any-append (λ (a : Answer). is_fault a.verdict) answers (a ∷ []))
    (list_any-append (λ (a : Answer). is_undecided a.verdict) answers (a ∷ []))
    ∙ one_more_status (list_any (λ (a : Answer). is_fault a.verdict) answers) (list_any (λ (a : Answer). is_undecided a.verdict) answers) a.verdict

text_of : (design : Design) (blif : Blif) (rules : Rules) (answers : List Answer) → joined (answer_lines design blif rules answers) ≡ report design blif rules answers
text_of design blif rules [] = refl
text_of design blif rules (a ∷ answers) =
    append_assoc (answer_line design blif rules a) (10 ∷ []) (joined (answer_lines design blif rules answers))
    ∙ ap (λ t. answer_line design blif rules a ++ 10 ∷ t) (text_of design blif rules answers)

-- the report of cells, after whose verdicts this is known
abbrev ReportsKnown : Design → Blif → Rules → ℕ → List ℕ → Status → List (List ℕ) → List CellFacts → Type 0
ReportsKnown design blif rules budget cells status lines known = (r : ReportsCells design blif rules budget cells status lines) × AreVerdicts design blif rules budget r.answers known

-- the report of no cell, and of one more
verdicts_none : (design : Design) (blif : Blif) (rules : Rules) (budget : ℕ) → ReportsKnown design blif rules budget [] AllEqual [] (nothing_known design)
verdicts_none design blif rules budget = (record { answers = []; on = refl; verdicts = (nothing_known design, no_verdict); complete = All-nil (λ (a : Answer). IsComplete design blif rules budget a.cell a.verdict); runs = All-nil (λ (a : Answer). HasRuns design blif rules a.cell a.verdict); ended = refl; lines_are = refl; text = refl }, no_verdict)

verdicts_more : (design : Design) (blif : Blif) (rules : Rules) (budget n : ℕ) (cells cells' : List ℕ) (status status' : Status) (lines lines' own : List (List ℕ)) (known known' : List CellFacts) (count : Count)
    → ReportsKnown design blif rules budget cells status lines known → IsChecked design blif rules budget known n count own known'
    → cells' ≡ cells ++ n ∷ [] → status' ≡ with_count status count → lines' ≡ lines ++ own
    → ReportsKnown design blif rules budget cells' status' lines' known'
verdicts_more design blif rules budget n cells cells' status status' lines lines' own known known' count (r, are) is on counts all =
    let a : Answer = record { cell = n; verdict = is.verdict } in
    let listed : lines' ≡ answer_lines design blif rules (r.answers ++ a ∷ []) =
    all ∙ ap₂ (λ ls l. ls ++ l) r.lines_are is.line ∙ sym (map-append (λ (a : Answer). answer_line design blif rules a ++ 10 ∷ []) r.answers (a ∷ [])) in
    let now : AreVerdicts design blif rules budget (r.answers ++ a ∷ []) known' = one_verdict a is.judged.facts are is.judged.is is.judged.is_so refl is.judged.noted in (
      record {
        answers = r.answers ++ a ∷ [];
        on = map-append (λ (a : Answer). a.cell) r.answers (a ∷ []) ∙ ap (λ xs. xs ++ n ∷ []) r.on ∙ sym on;
        verdicts = (known', now);
        complete =
            let P : Answer → Type 0 = λ b. IsComplete design blif rules budget b.cell b.verdict in
            All-append P r.answers (a ∷ []) r.complete (All-cons P a [] is.judged.complete (All-nil P));
        runs =
            let P : Answer → Type 0 = λ b. HasRuns design blif rules b.cell b.verdict in
            All-append P r.answers (a ∷ []) r.runs (All-cons P a [] is.judged.runs (All-nil P));
        ended = counts ∙ ap₂ with_count r.ended is.counts ∙ sym (status_more r.answers a);
        lines_are = listed;
        text = ap joined listed ∙ text_of design blif rules (r.answers ++ a ∷ []);
      },
      now,
    )

-- cell by cell, the report is that of the verdicts
all_verdicts : (design : Design) (blif : Blif) (rules : Rules) (budget : ℕ) (cells : List ℕ) (status : Status) (lines : List (List ℕ)) (known : List CellFacts)
    → ReportsKnowing (IsChecked design blif rules budget) (nothing_known design) cells status lines known → ReportsKnown design blif rules budget cells status lines known
all_verdicts design blif rules budget cells status lines known no_cell = verdicts_none design blif rules budget
all_verdicts design blif rules budget cells status lines known (one_more {cells = before} {status = old} {lines = less} {known = then} n count own rest is on counts all) =
    verdicts_more design blif rules budget n before cells old status less lines own then known count (all_verdicts design blif rules budget before old less then rest) is on counts all

pub verdicts_of : (design : Design) (blif : Blif) (rules : Rules) (budget : ℕ) (cells : List ℕ) (status : Status) (lines : List (List ℕ)) (known : List CellFacts)
    → ReportsKnowing (IsChecked design blif rules budget) (nothing_known design) cells status lines known → ReportsCells design blif rules budget cells status lines
verdicts_of design blif rules budget cells status lines known reports = (all_verdicts design blif rules budget cells status lines known reports).0

-- what is written of cells where nothing comes to be known
abbrev pub Alone : (ℕ → Count → List (List ℕ) → Type 0) → List CellFacts → ℕ → Count → List (List ℕ) → List CellFacts → Type 0
Alone IsOf known n count own then = IsOf n count own × (then ≡ known)

pub reports_alone : (IsOf : ℕ → Count → List (List ℕ) → Type 0) (start : List CellFacts) (cells : List ℕ) (status : Status) (lines : List (List ℕ)) (known : List CellFacts)
    → ReportsKnowing (Alone IsOf) start cells status lines known → Reports IsOf cells status lines
reports_alone IsOf start cells status lines known no_cell = none
reports_alone IsOf start cells status lines known (one_more {cells = before} {status = old} {lines = less} {known = then} n count own rest is on counts all) =
    more n count own (reports_alone IsOf start before old less then rest) is.0 on counts all

-- ---- what was put

memory_is_no_fault : (status : Status) → status ≡ NoMemory → status ≡ WriteFault → ⊥
memory_is_no_fault status p q = cc

module _ (IsOf : List CellFacts → ℕ → Count → List (List ℕ) → List CellFacts → Type 0) (start : List CellFacts) where
  -- no cell was reported yet
  pub report_none : (old : Option (List ℕ)) → PutsReport IsOf start [] AllEqual start old old
  report_none old = record { lines = []; reports = no_cell; put = nothing_put old }

  -- nothing of the report was put
  pub nothing_of_report : (cells : List ℕ) (old : Option (List ℕ)) (before now : ℕ) → StopsReport IsOf start cells NoMemory old old before now
  nothing_of_report cells old before now = record {
    stopped = inr refl;
    fault = λ e. absurd (memory_is_no_fault NoMemory refl e);
    memory = λ e. ([], (0, AllEqual, [], (start, no_cell)), nothing_put old);
  }

  -- one cell more
  pub report_more : (cells : List ℕ) (i n : ℕ) (status next : Status) (known then : List CellFacts) (old mid new : Option (List ℕ)) → i < length cells → n ≡ get_or cells i 0
      → PutsReport IsOf start (take i cells) status known old mid → PutsCell IsOf known n status next then mid new → PutsReport IsOf start (take (i + 1) cells) next then old new
  report_more cells i n status next known then old mid new lt is puts one = record {
    lines = puts.lines ++ one.lines;
    reports = one_more n one.count one.lines puts.reports one.is (take_more cells i 0 lt ∙ ap (λ k. take i cells ++ k ∷ []) (sym is)) one.counts refl;
    put = subst (Appends old new) (sym (joined_behind puts.lines one.lines)) (appended old mid new (joined puts.lines) (joined one.lines) puts.put one.put);
  }

  -- lines that begin the report of the cells up to one
  begun_with : (cells : List ℕ) (i n : ℕ) (status : Status) (known then : List CellFacts) (count : Count) (lines own front back : List (List ℕ)) → i < length cells → n ≡ get_or cells i 0
      → ReportsKnowing IsOf start (take i cells) status lines known → IsOf known n count own then → own ≡ front ++ back → Begins (ReportsFrom IsOf start) cells (lines ++ front)
  begun_with cells i n status known then count lines own front back lt is reports of own_is = (
    i + 1,
    with_count status count,
    back,
    (then, one_more n count own reports of (take_more cells i 0 lt ∙ ap (λ k. take i cells ++ k ∷ []) (sym is)) refl (append_assoc lines front back ∙ ap (λ ls. lines ++ ls) (sym own_is))),
  )

  -- the report ends at a cell
  pub report_stops : (cells : List ℕ) (i n : ℕ) (status end : Status) (known : List CellFacts) (old mid new : Option (List ℕ)) (before between now : ℕ) → i < length cells → n ≡ get_or cells i 0
      → PutsReport IsOf start (take i cells) status known old mid → before ≤ between → StopsCell IsOf known n end mid new between now → StopsReport IsOf start cells end old new before now
  report_stops cells i n status end known old mid new before between now lt is puts le stops = record {
    stopped = stops.stopped;
    fault = λ e. cut (stops.fault e);
    memory = λ e. elim (stops.memory e) [
      | inl kept ↦ (puts.lines, so_far, kept_behind old mid new (joined puts.lines) puts.put kept)
      | inr w ↦ first (w.0) (w.1) (w.2) w.3 w.4.0 w.4.1
    ];
  } where
    so_far : Begins (ReportsFrom IsOf start) cells puts.lines
    so_far = (i, status, [], (known, subst (λ (ls : List (List ℕ)). ReportsKnowing IsOf start (take i cells) status ls known) (sym (append-nil puts.lines)) puts.reports))

    cut : (count : Count) × (lines : List (List ℕ)) × (then : List CellFacts) × IsOf known n count lines then × (Rose between now × ((k : ℕ) × Appends mid new (take k (joined lines))))
        → Rose before now × ((lines : List (List ℕ)) × Begins (ReportsFrom IsOf start) cells lines × ((k : ℕ) × Appends old new (take k (joined lines))))
    cut w =
        let lines = puts.lines ++ w.1 in
        let found = front_behind (joined puts.lines) (joined w.1) w.4.1.0 in
        let front : take found.0 (joined lines) ≡ joined puts.lines ++ take w.4.1.0 (joined w.1) = ap (take found.0) (joined_behind puts.lines w.1) ∙ found.1 in (
          rose_since before between now le w.4.0,
          (
            lines,
            begun_with cells i n status known w.2 w.0 puts.lines w.1 w.1 [] lt is puts.reports w.3 (sym (append-nil w.1)),
            (found.0, subst (Appends old new) (sym front) (appended old mid new (joined puts.lines) (take w.4.1.0 (joined w.1)) puts.put w.4.1.1)),
          ),
        )

    first : (count : Count) (lines : List (List ℕ)) (then : List CellFacts) → IsOf known n count lines then → (k : ℕ) → Appends mid new (joined (take k lines))
        → (ls : List (List ℕ)) × Begins (ReportsFrom IsOf start) cells ls × Appends old new (joined ls)
    first count lines then of k put = (
      puts.lines ++ take k lines,
      begun_with cells i n status known then count puts.lines lines (take k lines) (drop k lines) lt is puts.reports of (split_at k lines),
      subst (Appends old new) (sym (joined_behind puts.lines (take k lines))) (appended old mid new (joined puts.lines) (joined (take k lines)) puts.put put),
    )

-- ---- how a report ends

module _ (IsOf : ℕ → Count → List (List ℕ) → Type 0) (start : List CellFacts) (cells : List ℕ) (status : Status) (old new : Option (List ℕ)) (before now : ℕ) where
  alone : (lines : List (List ℕ)) → Begins (ReportsFrom (Alone IsOf) start) cells lines → Begins (Reports IsOf) cells lines
  alone lines b = (b.0, b.1, b.2, reports_alone IsOf start (take b.0 cells) b.1 (lines ++ b.2) b.3.0 b.3.1)

  -- with all its lines
  pub all_ends : (known : List CellFacts) → PutsReport (Alone IsOf) start cells status known old new → Ends (Reports IsOf cells) (Begins (Reports IsOf) cells) status old new before now
  all_ends known puts =
      let reports = reports_alone IsOf start cells status puts.lines known puts.reports in
      let ended = reports_end IsOf cells status puts.lines reports in
      record { whole = λ p q. (puts.lines, reports, puts.put); fault = λ e. absurd (ended.written e); memory = λ e. absurd (ended.had e) }

  -- before its end
  pub front_ends : StopsReport (Alone IsOf) start cells status old new before now → Ends (Reports IsOf cells) (Begins (Reports IsOf) cells) status old new before now
  front_ends stops = record {
    whole = λ p q. absurd (elim stops.stopped [ inl e ↦ p e | inr e ↦ q e ]);
    fault = λ e. let w = stops.fault e in (w.0, (w.1.0, inr (alone w.1.0 w.1.1), w.1.2));
    memory = λ e. let w = stops.memory e in inr (w.0, alone w.0 w.1, w.2);
  }

module _ (design : Design) (blif : Blif) (rules : Rules) (budget : ℕ) (cells : List ℕ) (status : Status) (old new : Option (List ℕ)) (before now : ℕ) where
  begun : (lines : List (List ℕ)) → Begins (ReportsFrom (IsChecked design blif rules budget) (nothing_known design)) cells lines → Begins (ReportsCells design blif rules budget) cells lines
  begun lines b = (b.0, b.1, b.2, verdicts_of design blif rules budget (take b.0 cells) b.1 (lines ++ b.2) b.3.0 b.3.1)

  -- with all its lines
  pub check_ends : (known : List CellFacts) → PutsReport (IsChecked design blif rules budget) (nothing_known design) cells status known old new
      → Ends (ReportsCells design blif rules budget cells) (Begins (ReportsCells design blif rules budget) cells) status old new before now
  check_ends known puts =
      let r = verdicts_of design blif rules budget cells status puts.lines known puts.reports in
      let ended = checked_ends design blif rules budget cells status puts.lines r in
      record { whole = λ p q. (puts.lines, r, puts.put); fault = λ e. absurd (ended.written e); memory = λ e. absurd (ended.had e) }

  -- before its end, whatever the answer would be
  pub stopped_ends : (A : Status → List (List ℕ) → Type 0) → StopsReport (IsChecked design blif rules budget) (nothing_known design) cells status old new before now
      → Ends A (Begins (ReportsCells design blif rules budget) cells) status old new before now
  stopped_ends A stops = record {
    whole = λ p q. absurd (elim stops.stopped [ inl e ↦ p e | inr e ↦ q e ]);
    fault = λ e. let w = stops.fault e in (w.0, (w.1.0, inr (begun w.1.0 w.1.1), w.1.2));
    memory = λ e. let w = stops.memory e in inr (w.0, begun w.0 w.1, w.2);
  }

-- the status of a report that was put is no failure of a put
pub put_ends : (design : Design) (blif : Blif) (rules : Rules) (budget : ℕ) (cells : List ℕ) (status : Status) (known : List CellFacts) (old new : Option (List ℕ))
    → PutsReport (IsChecked design blif rules budget) (nothing_known design) cells status known old new → IsEnded status
put_ends design blif rules budget cells status known old new puts =
    checked_ends design blif rules budget cells status puts.lines (verdicts_of design blif rules budget cells status puts.lines known puts.reports)

-- with one line more
pub generated_ends : (design : Design) (blif : Blif) (rules : Rules) (budget size : ℕ) (cells : List ℕ) (status end : Status) (known : List CellFacts) (old mid new : Option (List ℕ)) (before between now : ℕ)
    → PutsReport (IsChecked design blif rules budget) (nothing_known design) cells status known old mid → before ≤ between → PutsLine status end (last_line size) mid new between now
    → Ends (ReportsGenerated design blif rules budget size cells) (Begins (ReportsCells design blif rules budget) cells) end old new before now
generated_ends design blif rules budget size cells status end known old mid new before between now puts le last = record {
  whole = λ p q.
      let w = last.whole p q in
      (all, subst (λ (s : Status). ReportsGenerated design blif rules budget size cells s all) (sym w.0) answer, subst (Appends old new) (sym text) (appended old mid new (joined puts.lines) line puts.put w.1));
  fault = λ e.
      let w = last.fault e in
      let found = front_behind (joined puts.lines) line w.1.0 in
      let front : take found.0 (joined all) ≡ joined puts.lines ++ take w.1.0 line = ap (take found.0) text ∙ found.1 in
      (rose_since before between now le w.0, (all, inl (status, answer), (found.0, subst (Appends old new) (sym front) (appended old mid new (joined puts.lines) (take w.1.0 line) puts.put w.1.1))));
  memory = λ e. inr (puts.lines, so_far, kept_behind old mid new (joined puts.lines) puts.put (last.memory e));
} where
  line : List ℕ
  line = last_line size

  all : List (List ℕ)
  all = puts.lines ++ line ∷ []

  text : joined all ≡ joined puts.lines ++ line
  text = joined_behind puts.lines (line ∷ []) ∙ ap (λ t. joined puts.lines ++ t) (append-nil line)

  report : ReportsCells design blif rules budget cells status puts.lines
  report = verdicts_of design blif rules budget cells status puts.lines known puts.reports

  answer : ReportsGenerated design blif rules budget size cells status all
  answer = record { report = puts.lines; reported = report; last = refl }

  so_far : Begins (ReportsCells design blif rules budget) cells puts.lines
  so_far =
      let R : List ℕ → List (List ℕ) → Type 0 = λ cs ls. ReportsCells design blif rules budget cs status ls in
      (length cells, status, [], subst (λ (ls : List (List ℕ)). R (take (length cells) cells) ls) (sym (append-nil puts.lines)) (subst (λ (cs : List ℕ). R cs puts.lines) (sym (take_all (length cells) cells (omega arith))) report))
