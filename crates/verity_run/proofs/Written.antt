-- What is written for requests and their files.
use Rattle.std.proofs.Common.{◌≡◌, inl, inr, ◌∷◌, [], ℕ, List, Bool, true, false, ◌&&◌, nat_le, Option, Some, None, refl, ap, sym, subst, arith, unwrap_or, option_map}
use Rattle.std.specs.Prelude.{if◌then◌else◌, Result, IfErr, IfOk}
use Rattle.std.specs.Borrow.{Bor}
use Rattle.std.specs.Str.Parse.{digits_value}
use Rattle.std.proofs.lemmas.Bool.Decides.{nat_tests}
use Rattle.std.proofs.lemmas.Option.{none-some, same_Some}
use Rattle.std.proofs.lemmas.Result.{IfErr-weaker, IfOk-weaker}
use Rattle.command_line.specs.Requests.{Asks, AsksFor, IsUsage, budget_in, file_names, is_numeral, size_in}
use Rattle.command_line.specs.Manual.{help_text, version_line}
use Rattle.command_line.specs.declared.request.Asked.TheVariants.{Help, Version}
use Rattle.command_line.specs.declared.request.FileWords.{FileWords}
use Rattle.command_line.specs.declared.request.Request.{Request}
use Rattle.command_line.specs.declared.request.Request.TheVariants.{Check, Replay, Classes, Generate, Arrive, Blif as AsBlif}
use Rattle.generator.specs.Texts.{IsSize}
use Rattle.vrt_io.specs.Causes.{Rose}
use Rattle.verity_run.specs.Arrivals.{IsArrivalAnswer, OfArrival}
use Rattle.verity_run.specs.Asked.{AreReady, IsAnswer, IsBarred, IsBegun, IsFitting, OfCellWord, OfMode, ReportsGenerated, cell_word, nodes_of}
use Rattle.verity_run.specs.Classes.{IsBudget, IsClassed}
use Rattle.verity_run.specs.Given.{AreRead, ByFile, Given, generated, given}
use Rattle.verity_run.specs.Messages.{usage_line}
use Rattle.verity_run.specs.Reads.{Source}
use Rattle.verity_run.specs.Refusals.{IsRefusal, OfLength, Tells, TellsFiles}
use Rattle.verity_run.specs.Ready.{IsGiven, IsMade, IsReadyBy, IsReadyFor}
use Rattle.verity_run.specs.Replays.{BeginsReplay}
use Rattle.verity_run.specs.Reports.{Begins as BeginsReport, IsEnded, Reports, ReportsCells}
use Rattle.verity_run.specs.Runs.{AnswersArrival, AnswersGenerated, AnswersInputs, AnswersReplay, AnswersTexts, Begins, BeginsGenerated, BeginsInputs, BeginsRequest, BeginsTexts, Ends, PutsLine, RefusalEnds, Refuses, Serves, TellsAnswer, Wants, names_by}
use Rattle.verity_run.specs.Writes.{BeginsBlif, IsBlifAnswer}
use Rattle.verity_run.specs.declared.ready.Ready.{Ready}
use Rattle.verity_run.specs.declared.refusals.Refusal.{Refusal}
use Rattle.verity_run.specs.declared.refusals.Refusal.TheVariants.{Unread, Told, NoMemory as OutOfMemory}
use Rattle.verity_run.specs.declared.status.Status.{Status}
use Rattle.verity_run.specs.declared.status.Status.TheVariants.{AllEqual, InputRefused, NoMemory, ReadFault, Usage, WriteFault}
use Rattle.verity_run.proofs.PutLaws.{ends_by, line_ends, nothing_ends}
use Rattle.verity_run.proofs.ReportLaws.{all_equal, checked_ends, counted_ends, reports_end}
use Rattle.vrt_model.specs.Hierarchy.{IsOrdered}
use Rattle.vrt_model.specs.declared.blif.Blif.{Blif}
use Rattle.vrt_model.specs.declared.design.Design.{Design}
use Rattle.vrt_model.specs.declared.rules.Rules.{Rules}

-- ---- what a refusal tells

-- an answer, which is put
pub refusal_ends : (A : Status → List (List ℕ) → Type 0) (C : List (List ℕ) → Type 0) (r : Refusal) (status : Status) (old new : Option (List ℕ)) (before now : ℕ)
    → TellsAnswer A r → RefusalEnds r status old new before now → Ends A C status old new before now
refusal_ends A C (Unread line) status old new before now is ends = line_ends A C ReadFault status line old new before now is ends
refusal_ends A C (Told line) status old new before now is ends = line_ends A C InputRefused status line old new before now is ends
refusal_ends A C OutOfMemory status old new before now is ends = nothing_ends A C status old new before now ends.0 ends.1

-- a line that may be told is an answer
pub tells_answer : (A : Status → List (List ℕ) → Type 0) (IsLine : List ℕ → Type 0) (r : Refusal)
    → ((line : List ℕ) → IsLine line → A InputRefused (line ∷ [])) → Tells IsLine r → TellsAnswer A r
tells_answer A IsLine (Unread line) answers is = absurd is
tells_answer A IsLine (Told line) answers is = answers line is
tells_answer A IsLine OutOfMemory answers is = tt

-- each answer has another meaning
answer_by : (A B : Status → List (List ℕ) → Type 0) (r : Refusal) → ((s : Status) (lines : List (List ℕ)) → A s lines → B s lines) → TellsAnswer A r → TellsAnswer B r
answer_by A B (Unread line) f is = f ReadFault (line ∷ []) is
answer_by A B (Told line) f is = f InputRefused (line ∷ []) is
answer_by A B OutOfMemory f is = tt

-- the one line of what is refused
pub refusing : (IsLine : List ℕ → Type 0) (line : List ℕ) → IsLine line → Refuses IsLine InputRefused (line ∷ [])
refusing IsLine line is = record { line = line; cause = is; answer = refl; told_is = refl }

-- ---- what was read

-- what is asked for is answered
answered : (request : Request) (words : ByFile) (design : Design) (blif : Blif) (rules : Rules) (status : Status) (old new : Option (List ℕ)) (before now : ℕ) (cells : List ℕ) → AreReady request design rules cells
    → Ends (IsAnswer request design blif rules cells) (IsBegun request design blif rules cells) status old new before now
    → Ends (AnswersInputs request words design blif rules) (BeginsInputs request design blif rules) status old new before now
answered request words design blif rules status old new before now cells ready ends =
    ends_by (IsAnswer request design blif rules cells) (AnswersInputs request words design blif rules) (IsBegun request design blif rules cells) (BeginsInputs request design blif rules)
    status old new before now (λ s lines a. inr (cells, ready, a)) (λ lines b. (cells, ready, b)) ends

-- the cells of a check
pub check_answered : (request : Request) (cell : Option (Bor (List ℕ))) (budget : Option ℕ) (files : FileWords) (words : ByFile) (design : Design) (blif : Blif) (rules : Rules) (nodes : ℕ) (cells : List ℕ)
    (status : Status) (old new : Option (List ℕ)) (before now : ℕ) → request ≡ Check cell budget files → nodes ≡ nodes_of budget → AreReady request design rules cells
    → Ends (ReportsCells design blif rules nodes cells) (BeginsReport (ReportsCells design blif rules nodes) cells) status old new before now
    → Ends (AnswersInputs request words design blif rules) (BeginsInputs request design blif rules) status old new before now
check_answered request cell budget files words design blif rules nodes cells status old new before now is counted ready ends =
    answered request words design blif rules status old new before now cells ready
    (subst (λ (r : Request). Ends (IsAnswer r design blif rules cells) (IsBegun r design blif rules cells) status old new before now) (sym is)
    (subst (λ (n : ℕ). Ends (ReportsCells design blif rules n cells) (BeginsReport (ReportsCells design blif rules n) cells) status old new before now) counted ends))

-- the classes of cells
pub classes_answered : (request : Request) (cell : Option (Bor (List ℕ))) (files : FileWords) (words : ByFile) (design : Design) (blif : Blif) (rules : Rules) (cells : List ℕ)
    (status : Status) (old new : Option (List ℕ)) (before now : ℕ) → request ≡ Classes cell files → AreReady request design rules cells
    → Ends (Reports (IsClassed design blif rules) cells) (BeginsReport (Reports (IsClassed design blif rules)) cells) status old new before now
    → Ends (AnswersInputs request words design blif rules) (BeginsInputs request design blif rules) status old new before now
classes_answered request cell files words design blif rules cells status old new before now is ready ends =
    answered request words design blif rules status old new before now cells ready
    (subst (λ (r : Request). Ends (IsAnswer r design blif rules cells) (IsBegun r design blif rules cells) status old new before now) (sym is) ends)

-- a replay
pub replay_answered : (request : Request) (cell phase : Bor (List ℕ)) (at : Option (Bor (List ℕ))) (files : FileWords) (words : ByFile) (design : Design) (blif : Blif) (rules : Rules) (cells : List ℕ)
    (status : Status) (old new : Option (List ℕ)) (before now : ℕ) → request ≡ Replay cell phase at files → AreReady request design rules cells
    → Ends (AnswersReplay design blif rules cell.now phase.now at) (BeginsReplay design blif rules cell.now phase.now at) status old new before now
    → Ends (AnswersInputs request words design blif rules) (BeginsInputs request design blif rules) status old new before now
replay_answered request cell phase at files words design blif rules cells status old new before now is ready ends =
    ends_by (AnswersReplay design blif rules cell.now phase.now at) (AnswersInputs request words design blif rules) (BeginsReplay design blif rules cell.now phase.now at) (BeginsInputs request design blif rules)
    status old new before now answers (λ lines b. (cells, ready, subst (λ (r : Request). IsBegun r design blif rules cells lines) (sym is) b)) ends where
      answers : (s : Status) (lines : List (List ℕ)) → AnswersReplay design blif rules cell.now phase.now at s lines → AnswersInputs request words design blif rules s lines
      answers s lines (inl refuses) =
          inl (record {
            line = refuses.line;
            cause = inr (ready.ordered, inr ((cells, ready.asked), subst (λ (r : Request). OfMode r design blif rules refuses.line) (sym is) refuses.cause));
            answer = refuses.answer;
            told_is = refuses.told_is;
          })
      answers s lines (inr a) = inr (cells, ready, subst (λ (r : Request). IsAnswer r design blif rules cells s lines) (sym is) a)

-- arrival orders
pub arrival_answered : (request : Request) (cell phase rise : Bor (List ℕ)) (budget : Option ℕ) (files : FileWords) (words : ByFile) (design : Design) (blif : Blif) (rules : Rules) (nodes : ℕ) (cells : List ℕ)
    (status : Status) (old new : Option (List ℕ)) (before now : ℕ) → request ≡ Arrive cell phase rise budget files → nodes ≡ nodes_of budget → AreReady request design rules cells
    → Ends (AnswersArrival design blif rules nodes cell.now phase.now rise.now) (λ lines. ⊥) status old new before now
    → Ends (AnswersInputs request words design blif rules) (BeginsInputs request design blif rules) status old new before now
arrival_answered request cell phase rise budget files words design blif rules nodes cells status old new before now is counted ready ends =
    ends_by (AnswersArrival design blif rules nodes cell.now phase.now rise.now) (AnswersInputs request words design blif rules) (λ lines. ⊥) (BeginsInputs request design blif rules)
    status old new before now answers (λ lines none. absurd none) ends where
      answers : (s : Status) (lines : List (List ℕ)) → AnswersArrival design blif rules nodes cell.now phase.now rise.now s lines → AnswersInputs request words design blif rules s lines
      answers s lines (inl refuses) =
          inl (record {
            line = refuses.line;
            cause =
                inr (
                  ready.ordered,
                  inr (
                    (cells, ready.asked),
                    subst (λ (r : Request). OfMode r design blif rules refuses.line) (sym is)
                        (subst (λ (n : ℕ). OfArrival design blif rules n cell.now phase.now rise.now refuses.line) counted refuses.cause),
                  ),
                );
            answer = refuses.answer;
            told_is = refuses.told_is;
          })
      answers s lines (inr a) =
          inr (
            cells,
            ready,
            subst (λ (r : Request). IsAnswer r design blif rules cells s lines) (sym is)
                (subst (λ (n : ℕ). IsArrivalAnswer design blif rules n cell.now phase.now rise.now s lines) counted a),
          )

-- a cell as a model
pub blif_answered : (request : Request) (cell : Bor (List ℕ)) (budget : Option ℕ) (files : FileWords) (words : ByFile) (design : Design) (blif : Blif) (rules : Rules) (nodes : ℕ) (cells : List ℕ)
    (status : Status) (old new : Option (List ℕ)) (before now : ℕ) → request ≡ AsBlif cell budget files → nodes ≡ nodes_of budget → AreReady request design rules cells
    → Ends (IsBlifAnswer design blif rules nodes cell.now) (BeginsBlif design blif rules nodes cell.now) status old new before now
    → Ends (AnswersInputs request words design blif rules) (BeginsInputs request design blif rules) status old new before now
blif_answered request cell budget files words design blif rules nodes cells status old new before now is counted ready ends =
    answered request words design blif rules status old new before now cells ready
    (subst (λ (r : Request). Ends (IsAnswer r design blif rules cells) (IsBegun r design blif rules cells) status old new before now) (sym is)
    (subst (λ (n : ℕ). Ends (IsBlifAnswer design blif rules n cell.now) (BeginsBlif design blif rules n cell.now) status old new before now) counted ends))

-- those of a size that was generated
pub generated_answered : (request : Request) (size : ℕ) (budget : Option ℕ) (words : ByFile) (design : Design) (blif : Blif) (rules : Rules) (nodes : ℕ) (cells : List ℕ)
    (status : Status) (old new : Option (List ℕ)) (before now : ℕ) → request ≡ Generate size budget → nodes ≡ nodes_of budget → AreReady request design rules cells
    → Ends (ReportsGenerated design blif rules nodes size cells) (BeginsReport (ReportsCells design blif rules nodes) cells) status old new before now
    → Ends (AnswersInputs request words design blif rules) (BeginsInputs request design blif rules) status old new before now
generated_answered request size budget words design blif rules nodes cells status old new before now is counted ready ends =
    answered request words design blif rules status old new before now cells ready
    (subst (λ (r : Request). Ends (IsAnswer r design blif rules cells) (IsBegun r design blif rules cells) status old new before now) (sym is)
    (subst (λ (n : ℕ). Ends (ReportsGenerated design blif rules n size cells) (BeginsReport (ReportsCells design blif rules n) cells) status old new before now) counted ends))

-- ---- three texts

module _ (request : Request) (g : Given) (r : Refusal) where
  module _ (design : Design) (blif : Blif) (rules : Rules) (read : AreRead g design blif rules) where
    -- what they say is barred
    barred : (IsLine : List ℕ → Type 0) → ((line : List ℕ) → IsLine line → IsBarred request g.words design blif rules line) → Tells IsLine r → TellsAnswer (AnswersTexts request g) r
    barred IsLine bars is =
        tells_answer (AnswersTexts request g) IsLine r
        (λ line of. inr (record { design = design; blif = blif; rules = rules; read = read; holds = inl (refusing (IsBarred request g.words design blif rules) line (bars line of)) })) is

    -- a cell is asked for that is not there
    pub unnamed_told : IsOrdered design rules → Tells (OfCellWord design (cell_word request)) r → TellsAnswer (AnswersTexts request g) r
    unnamed_told ordered is = barred (OfCellWord design (cell_word request)) (λ line of. inr (ordered, inl of)) is

-- ---- three files

module _ (request : Request) (source : Source) (words : ByFile) (before now : ℕ) (files : file_names request ≡ names_by words) where
  -- they are not read
  pub stopped_told : (r : Refusal) → TellsFiles source words before now r → TellsAnswer (Serves request source before now) r
  stopped_told (Unread line) is = inr (words, files, inl (record { answer = refl; told = (line, is, refl) }))
  stopped_told (Told line) long = inr (words, files, inr (inl (refusing (OfLength source words) line long)))
  stopped_told OutOfMemory is = tt

-- ---- the texts of a request

made_answered : (request : Request) (g : Given) (s : Status) (lines : List (List ℕ)) → IsMade request g → AnswersTexts request g s lines → AnswersGenerated request s lines
made_answered (Check cell budget files) g s lines made a = absurd made
made_answered (Replay cell phase at files) g s lines made a = absurd made
made_answered (Classes cell files) g s lines made a = absurd made
made_answered (Arrive cell phase rise budget files) g s lines made a = absurd made
made_answered (AsBlif cell budget files) g s lines made a = absurd made
made_answered (Generate size budget) g s lines made a = subst (λ (x : Given). AnswersTexts (Generate size budget) x s lines) made a

made_begun : (request : Request) (g : Given) (lines : List (List ℕ)) → IsMade request g → BeginsTexts request g lines → BeginsGenerated request lines
made_begun (Check cell budget files) g lines made b = absurd made
made_begun (Replay cell phase at files) g lines made b = absurd made
made_begun (Classes cell files) g lines made b = absurd made
made_begun (Arrive cell phase rise budget files) g lines made b = absurd made
made_begun (AsBlif cell budget files) g lines made b = absurd made
made_begun (Generate size budget) g lines made b = subst (λ (x : Given). BeginsTexts (Generate size budget) x lines) made b

module _ (request : Request) (source : Source) (words bytes : ByFile) where
  served : (before now : ℕ) (s : Status) (lines : List (List ℕ)) → IsGiven request source words bytes → AnswersTexts request (given words bytes) s lines → Serves request source before now s lines
  served before now s lines (inl files) a = inr (words, files.0, inr (inr (record { bytes = bytes; loaded = files.1; holds = a })))
  served before now s lines (inr made) a = inl (made_answered request (given words bytes) s lines made a)

  begun : (lines : List (List ℕ)) → IsGiven request source words bytes → BeginsTexts request (given words bytes) lines → BeginsRequest request source lines
  begun lines (inl files) b = inr (words, files.0, record { bytes = bytes; loaded = files.1; holds = b })
  begun lines (inr made) b = inl (made_begun request (given words bytes) lines made b)

  module _ (own : ByFile) (same : own ≡ bytes) (texts : IsGiven request source words bytes) (r : Result Ready Refusal) where
    -- what they say
    pub given_says : IfOk r (IsReadyBy request (given words own)) → IfOk r (IsReadyFor request source)
    given_says says =
        IfOk-weaker r (IsReadyBy request (given words own)) (IsReadyFor request source)
        (λ ready is. record { words = words; bytes = bytes; texts = texts; says = subst (λ (b : ByFile). IsReadyBy request (given words b) ready) same is }) says

    -- what is refused of them
    pub given_told : (before now : ℕ) → IfErr r (TellsAnswer (AnswersTexts request (given words own))) → IfErr r (TellsAnswer (Serves request source before now))
    given_told before now told =
        IfErr-weaker r (TellsAnswer (AnswersTexts request (given words own))) (TellsAnswer (Serves request source before now))
        (λ e is. answer_by (AnswersTexts request (given words bytes)) (Serves request source before now) e (λ s lines a. served before now s lines texts a)
        (subst (λ (b : ByFile). TellsAnswer (AnswersTexts request (given words b)) e) same is)) told

-- those that are generated
pub size_given : (request : Request) (size : ℕ) (budget : Option ℕ) (source : Source) → request ≡ Generate size budget → IsGiven request source (generated size).words (generated size).bytes
size_given request size budget source is = subst (λ (r : Request). IsGiven r source (generated size).words (generated size).bytes) (sym is) (inr refl)

-- what is ready is answered
pub ready_answered : (request : Request) (source : Source) (ready : Ready) (before now : ℕ) (status : Status) (old new : Option (List ℕ)) (faults_before faults_now : ℕ) → IsReadyFor request source ready
    → ((words : ByFile) → Ends (AnswersInputs request words ready.inputs.design ready.inputs.blif ready.inputs.rules) (BeginsInputs request ready.inputs.design ready.inputs.blif ready.inputs.rules)
    status old new faults_before faults_now)
    → Ends (Serves request source before now) (BeginsRequest request source) status old new faults_before faults_now
ready_answered request source ready before now status old new faults_before faults_now is ends =
    let i = ready.inputs in
    ends_by (AnswersInputs request is.words i.design i.blif i.rules) (Serves request source before now) (BeginsInputs request i.design i.blif i.rules) (BeginsRequest request source)
    status old new faults_before faults_now
    (λ s lines a. served request source is.words is.bytes before now s lines is.texts (inr (record { design = i.design; blif = i.blif; rules = i.rules; read = is.says.read; holds = a })))
    (λ lines b. begun request source is.words is.bytes lines is.texts (record { design = i.design; blif = i.blif; rules = i.rules; read = is.says.read; holds = b }))
    (ends is.words)

-- ---- statuses

refused_is_read : (s : Status) → s ≡ InputRefused → s ≡ ReadFault → ⊥
refused_is_read s p q = cc

refused_is_usage : (s : Status) → s ≡ InputRefused → s ≡ Usage → ⊥
refused_is_usage s p q = cc

read_is_usage : (s : Status) → s ≡ ReadFault → s ≡ Usage → ⊥
read_is_usage s p q = cc

read_is_written : (s : Status) → s ≡ ReadFault → s ≡ WriteFault → ⊥
read_is_written s p q = cc

read_is_none : (s : Status) → s ≡ ReadFault → s ≡ NoMemory → ⊥
read_is_none s p q = cc

usage_is_written : (s : Status) → s ≡ Usage → s ≡ WriteFault → ⊥
usage_is_written s p q = cc

usage_is_none : (s : Status) → s ≡ Usage → s ≡ NoMemory → ⊥
usage_is_none s p q = cc

-- what an answer's status is not
abbrev IsCalm : Status → Type 0
IsCalm status = (status ≡ ReadFault → ⊥) × (status ≡ Usage → ⊥)

module _ (status : Status) (lines : List (List ℕ)) where
  refused_calm : (IsLine : List ℕ → Type 0) → Refuses IsLine status lines → IsCalm status
  refused_calm IsLine r = (λ e. refused_is_read status r.answer e, λ e. refused_is_usage status r.answer e)

  ended_calm : IsEnded status → IsCalm status
  ended_calm ended = (λ e. ended.read e, λ e. ended.understood e)

  answer_calm : (request : Request) (design : Design) (blif : Blif) (rules : Rules) (cells : List ℕ) → IsAnswer request design blif rules cells status lines → IsCalm status
  answer_calm (Check cell budget files) design blif rules cells a = ended_calm (checked_ends design blif rules (nodes_of budget) cells status lines a)
  answer_calm (Replay cell phase at files) design blif rules cells a = ended_calm (subst IsEnded (sym a.ended) (counted_ends AllEqual a.count all_equal))
  answer_calm (Classes cell files) design blif rules cells a = ended_calm (reports_end (IsClassed design blif rules) cells status lines a)
  answer_calm (Arrive cell phase rise budget files) design blif rules cells a = ended_calm (subst IsEnded (sym a.ended) (counted_ends AllEqual a.count all_equal))
  answer_calm (AsBlif cell budget files) design blif rules cells a = ended_calm (subst IsEnded (sym a.ended) (counted_ends AllEqual a.count all_equal))
  answer_calm (Generate size budget) design blif rules cells a = ended_calm (checked_ends design blif rules (nodes_of budget) cells status a.report a.reported)

  inputs_calm : (request : Request) (words : ByFile) (design : Design) (blif : Blif) (rules : Rules) → AnswersInputs request words design blif rules status lines → IsCalm status
  inputs_calm request words design blif rules (inl refuses) = refused_calm (IsBarred request words design blif rules) refuses
  inputs_calm request words design blif rules (inr (cells, ready, a)) = answer_calm request design blif rules cells a

  texts_calm : (request : Request) (g : Given) → AnswersTexts request g status lines → IsCalm status
  texts_calm request g (inl refuses) = refused_calm (IsRefusal g) refuses
  texts_calm request g (inr say) = inputs_calm request g.words say.design say.blif say.rules say.holds

  generated_calm : (request : Request) → AnswersGenerated request status lines → IsCalm status
  generated_calm (Check cell budget files) a = absurd a
  generated_calm (Replay cell phase at files) a = absurd a
  generated_calm (Classes cell files) a = absurd a
  generated_calm (Arrive cell phase rise budget files) a = absurd a
  generated_calm (AsBlif cell budget files) a = absurd a
  generated_calm (Generate size budget) a = texts_calm (Generate size budget) (generated size) a

-- a read fault comes only where the count of faults rose, and words that are understood are no cause of Usage
module _ (request : Request) (source : Source) (before now : ℕ) (status : Status) (lines : List (List ℕ)) where
  read_rose : Serves request source before now status lines → status ≡ ReadFault → Rose before now
  read_rose (inl made) is = absurd ((generated_calm status lines request made).0 is)
  read_rose (inr (words, files, inl fails)) is = fails.told.1.rose
  read_rose (inr (words, files, inr (inl refuses))) is = absurd ((refused_calm status lines (OfLength source words) refuses).0 is)
  read_rose (inr (words, files, inr (inr give))) is = absurd ((texts_calm status lines request (given words give.bytes) give.holds).0 is)

  not_usage : Serves request source before now status lines → status ≡ Usage → ⊥
  not_usage (inl made) is = (generated_calm status lines request made).1 is
  not_usage (inr (words, files, inl fails)) is = read_is_usage status fails.answer is
  not_usage (inr (words, files, inr (inl refuses))) is = (refused_calm status lines (OfLength source words) refuses).1 is
  not_usage (inr (words, files, inr (inr give))) is = (texts_calm status lines request (given words give.bytes) give.holds).1 is

-- how a request that is served ends
module _ (request : Request) (source : Source) (before now : ℕ) (status : Status) (old new : Option (List ℕ)) (faults_before faults_now : ℕ)
    (ends : Ends (Serves request source before now) (BeginsRequest request source) status old new faults_before faults_now) where
  pub served_read : status ≡ ReadFault → Rose before now
  served_read is =
      let w = ends.whole (read_is_written status is) (read_is_none status is) in read_rose request source before now status w.0 w.1 is

  pub served_understood : status ≡ Usage → ⊥
  served_understood is =
      let w = ends.whole (usage_is_written status is) (usage_is_none status is) in not_usage request source before now status w.0 w.1 is

  -- it is what the words ask for
  pub is_wanted : (words : List (List ℕ)) → AsksFor words request → Ends (Wants words source before now) (Begins words source) status old new faults_before faults_now
  is_wanted words asks =
      ends_by (Serves request source before now) (Wants words source before now) (BeginsRequest request source) (Begins words source) status old new faults_before faults_now
      (λ s lines served. inr (inr (request, asks, served))) (λ lines begun. (request, asks, begun)) ends

-- ---- words

module _ (words : List (List ℕ)) (source : Source) (before now : ℕ) (status : Status) (line : List ℕ) (old new : Option (List ℕ)) (faults_before faults_now : ℕ) where
  abbrev EndsWords : Type 0
  EndsWords = Ends (Wants words source before now) (Begins words source) status old new faults_before faults_now

  pub shows_help : Asks words Help → line ≡ help_text → PutsLine AllEqual status line old new faults_before faults_now → EndsWords
  shows_help asks is put =
      line_ends (Wants words source before now) (Begins words source) AllEqual status line old new faults_before faults_now
      (inr (inl (record { answer = refl; told = inl (asks, ap (λ l. l ∷ []) is) }))) put

  pub shows_version : Asks words Version → line ≡ version_line → PutsLine AllEqual status line old new faults_before faults_now → EndsWords
  shows_version asks is put =
      line_ends (Wants words source before now) (Begins words source) AllEqual status line old new faults_before faults_now
      (inr (inl (record { answer = refl; told = inr (asks, ap (λ l. l ∷ []) is) }))) put

  pub refuses_words : IsUsage words → line ≡ usage_line → PutsLine Usage status line old new faults_before faults_now → EndsWords
  refuses_words bad is put =
      line_ends (Wants words source before now) (Begins words source) Usage status line old new faults_before faults_now
      (inl (record { bad = bad; answer = refl; told = ap (λ l. l ∷ []) is })) put

-- ---- budgets

within : (n : ℕ) → (nat_le 65536 n && nat_le n 64000000) ≡ true → IsBudget n
within n e = grind (arith, nat_tests)

budget_within : (word : List ℕ) (n : ℕ) → budget_in word ≡ Some n → IsBudget n
budget_within word n e =
    by_test (is_numeral 8 word) (nat_le 65536 (digits_value 10 word) && nat_le (digits_value 10 word) 64000000) (digits_value 10 word) refl e where
      by_test : (p q : Bool) (value : ℕ) → (nat_le 65536 value && nat_le value 64000000) ≡ q → (if p && q then Some value else None) ≡ Some n → IsBudget n
      by_test true true value range found = subst IsBudget (same_Some value n found) (within value range)
      by_test true false value range found = absurd (none-some n found)
      by_test false q value range found = absurd (none-some n found)

budget_read : (word : Option (List ℕ)) (budget : Option ℕ) → option_map budget_in word ≡ option_map (λ n. Some n) budget → IsBudget (unwrap_or budget 4000000)
budget_read word None e = (omega arith, omega arith)
budget_read None (Some n) e = absurd (none-some (Some n) e)
budget_read (Some word) (Some n) e = budget_within word n (same_Some (budget_in word) (Some n) e)

-- a size

size_within : (n : ℕ) → (nat_le 1 n && nat_le n 32) ≡ true → IsSize n
size_within n e = record { least = grind (arith, nat_tests); most = grind (arith, nat_tests) }

size_read : (word : List ℕ) (n : ℕ) → size_in word ≡ Some n → IsSize n
size_read word n e =
    by_test (is_numeral 2 word) (nat_le 1 (digits_value 10 word) && nat_le (digits_value 10 word) 32) (digits_value 10 word) refl e where
      by_test : (p q : Bool) (value : ℕ) → (nat_le 1 value && nat_le value 32) ≡ q → (if p && q then Some value else None) ≡ Some n → IsSize n
      by_test true true value range found = subst IsSize (same_Some value n found) (size_within value range)
      by_test true false value range found = absurd (none-some n found)
      by_test false q value range found = absurd (none-some n found)

size_asked : (word : Option (List ℕ)) (size : ℕ) → option_map size_in word ≡ Some (Some size) → IsSize size
size_asked None size e = absurd (none-some (Some size) e)
size_asked (Some word) size e = size_read word size (same_Some (size_in word) (Some size) e)

-- the numbers of a request that words ask for are in their ranges
pub request_fits : (words : List (List ℕ)) (request : Request) → AsksFor words request → IsFitting request
request_fits words (Check cell budget files) asks = budget_read _ budget asks.1.budget
request_fits words (Replay cell phase at files) asks = tt
request_fits words (Classes cell files) asks = tt
request_fits words (Arrive cell phase rise budget files) asks = budget_read _ budget asks.1.budget
request_fits words (AsBlif cell budget files) asks = budget_read _ budget asks.1.budget
request_fits words (Generate size budget) asks = (budget_read _ budget asks.1.budget, size_asked _ size asks.1.size)
