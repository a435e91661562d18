-- What a run answers and writes, each answer by its cause.
use Rattle.std.specs.Prelude.{◌≡◌, ◌≢◌, ◌⊎◌, ℕ, List, [], ◌∷◌, take}
use Rattle.std.specs.Borrow.{Bor}
use Rattle.std.specs.declared.option.Option.{Option}
use Rattle.std.specs.Io.KnownBytes.{Appends, Keeps}
use Rattle.command_line.specs.Manual.{help_text, version_line}
use Rattle.command_line.specs.Requests.{Asks, AsksFor, IsUsage, file_names}
use Rattle.command_line.specs.declared.request.Asked.TheVariants.{Help, Version}
use Rattle.command_line.specs.declared.request.Request.{Request}
use Rattle.command_line.specs.declared.request.Request.TheVariants.{Check, Replay, Classes, Generate, Arrive, Blif as AsBlif}
use Rattle.vrt_io.specs.Causes.{Rose}
use Rattle.verity_run.specs.Arrivals.{IsArrivalAnswer, OfArrival}
use Rattle.verity_run.specs.Asked.{AreReady, IsAnswer, IsBarred, IsBegun}
use Rattle.verity_run.specs.Given.{AreRead, ByFile, Given, generated, given}
use Rattle.verity_run.specs.Messages.{joined, usage_line}
use Rattle.verity_run.specs.Reads.{AreLoaded, Source}
use Rattle.verity_run.specs.Refusals.{IsRefusal, OfFault, OfLength, TellsEither}
use Rattle.verity_run.specs.Replays.{IsReplay, OfReplay}
use Rattle.verity_run.specs.declared.refusals.Refusal.{Refusal}
use Rattle.verity_run.specs.declared.refusals.Refusal.TheVariants.{Unread, Told, NoMemory as OutOfMemory}
use Rattle.verity_run.specs.declared.status.Status.{Status}
use Rattle.verity_run.specs.declared.status.Status.TheVariants.{AllEqual, InputRefused, NoMemory, ReadFault, Usage, WriteFault}
use Rattle.vrt_model.specs.declared.blif.Blif.{Blif}
use Rattle.vrt_model.specs.declared.design.Design.{Design}
use Rattle.vrt_model.specs.declared.rules.Rules.{Rules}

-- ---- what is written

-- A line was not put as a whole: the output failed, and a front of it was put; or memory was wanting, and nothing of it was.
pub record StopsLine (status : Status) (line : List ℕ) (old new : Option (List ℕ)) (before now : ℕ) : Type 0 where
  pub stopped : (status ≡ WriteFault) ⊎ (status ≡ NoMemory)
  pub fault : status ≡ WriteFault → Rose before now × ((n : ℕ) × Appends old new (take n line))
  pub memory : status ≡ NoMemory → Keeps old new

-- Lines were not put as a whole: the output failed, and a front of them was put; or memory was wanting, and the first of them were.
pub record StopsLines (status : Status) (lines : List (List ℕ)) (old new : Option (List ℕ)) (before now : ℕ) : Type 0 where
  pub stopped : (status ≡ WriteFault) ⊎ (status ≡ NoMemory)
  pub fault : status ≡ WriteFault → Rose before now × ((n : ℕ) × Appends old new (take n (joined lines)))
  pub memory : status ≡ NoMemory → (k : ℕ) × Appends old new (joined (take k lines))

-- What was written and answered, where one line and this status were wanted: the line, or what StopsLine says.
pub record PutsLine (wanted status : Status) (line : List ℕ) (old new : Option (List ℕ)) (before now : ℕ) : Type 0 where
  pub whole : status ≢ WriteFault → status ≢ NoMemory → (status ≡ wanted) × Appends old new line
  pub fault : status ≡ WriteFault → Rose before now × ((n : ℕ) × Appends old new (take n line))
  pub memory : status ≡ NoMemory → Keeps old new

-- lines that the output may fail in: those of an answer, or those that begin a report
abbrev pub MayBeCut : (Status → List (List ℕ) → Type 0) → (List (List ℕ) → Type 0) → List (List ℕ) → Type 0
MayBeCut IsAnswer IsBegun lines = ((wanted : Status) × IsAnswer wanted lines) ⊎ IsBegun lines

-- How a run ends. Each status but two comes with all lines of its answer. Where the output failed, what is written is a front of
-- the lines of an answer, or of a report that was begun. For want of memory it is nothing, or whole lines that begin a report.
pub record Ends (IsAnswer : Status → List (List ℕ) → Type 0) (IsBegun : List (List ℕ) → Type 0) (status : Status) (old new : Option (List ℕ)) (before now : ℕ) : Type 0 where
  pub whole : status ≢ WriteFault → status ≢ NoMemory → (lines : List (List ℕ)) × IsAnswer status lines × Appends old new (joined lines)
  pub fault : status ≡ WriteFault → Rose before now × ((lines : List (List ℕ)) × MayBeCut IsAnswer IsBegun lines × ((n : ℕ) × Appends old new (take n (joined lines))))
  pub memory : status ≡ NoMemory → Keeps old new ⊎ ((lines : List (List ℕ)) × IsBegun lines × Appends old new (joined lines))

-- ---- what was read

-- one line, and the status of what is refused
pub record Refuses (IsLine : List ℕ → Type 0) (status : Status) (lines : List (List ℕ)) : Type 0 where
  pub line : List ℕ
  pub cause : IsLine line
  pub answer : status ≡ InputRefused
  pub told_is : lines ≡ line ∷ []

-- what is to be answered and written for a request on cells, models and rules: the one line of what stands in its way, or what
-- it asks for
abbrev pub AnswersInputs : Request → ByFile → Design → Blif → Rules → Status → List (List ℕ) → Type 0
AnswersInputs request words design blif rules status lines =
    Refuses (IsBarred request words design blif rules) status lines
    ⊎ ((cells : List ℕ) × AreReady request design rules cells × IsAnswer request design blif rules cells status lines)

-- for a replay: the one line of what stands in its way, or its lines
abbrev pub AnswersReplay : Design → Blif → Rules → List ℕ → List ℕ → Option (Bor (List ℕ)) → Status → List (List ℕ) → Type 0
AnswersReplay design blif rules cell phase at status lines = Refuses (OfReplay design blif rules cell phase at) status lines ⊎ IsReplay design blif rules cell phase at status lines

-- for arrival orders: the one line of what stands in its way, or the one line of the answer
abbrev pub AnswersArrival : Design → Blif → Rules → ℕ → List ℕ → List ℕ → List ℕ → Status → List (List ℕ) → Type 0
AnswersArrival design blif rules budget cell phase rise status lines =
    Refuses (OfArrival design blif rules budget cell phase rise) status lines ⊎ IsArrivalAnswer design blif rules budget cell phase rise status lines

-- lines with which that begins
abbrev pub BeginsInputs : Request → Design → Blif → Rules → List (List ℕ) → Type 0
BeginsInputs request design blif rules lines = (cells : List ℕ) × AreReady request design rules cells × IsBegun request design blif rules cells lines

-- three texts say these cells, models and rules, of which this holds
pub record TextsSay (g : Given) (P : Design → Blif → Rules → Type 0) : Type 0 where
  pub design : Design
  pub blif : Blif
  pub rules : Rules
  pub read : AreRead g design blif rules
  pub holds : P design blif rules

-- what is to be answered and written for a request on three texts: the one line of the first refusal, or what is said of what
-- they say
abbrev pub AnswersTexts : Request → Given → Status → List (List ℕ) → Type 0
AnswersTexts request g status lines =
    Refuses (IsRefusal g) status lines ⊎ TextsSay g (λ design blif rules. AnswersInputs request g.words design blif rules status lines)

abbrev pub BeginsTexts : Request → Given → List (List ℕ) → Type 0
BeginsTexts request g lines = TextsSay g (λ design blif rules. BeginsInputs request design blif rules lines)

-- ---- what three files give

-- a file could not be read: the count of faults rose
pub record FailsToRead (source : Source) (words : ByFile) (before now : ℕ) (status : Status) (lines : List (List ℕ)) : Type 0 where
  pub answer : status ≡ ReadFault
  pub told : (line : List ℕ) × OfFault source before now words line × (lines ≡ line ∷ [])

-- the files have these bytes, of which this holds
pub record FilesGive (source : Source) (words : ByFile) (P : Given → Type 0) : Type 0 where
  pub bytes : ByFile
  pub loaded : AreLoaded source words bytes
  pub holds : P (given words bytes)

-- what is to be answered and written for three files, with the count of the files' faults before and now, by the first cause in
-- this order: a file is too long, else what their texts give
abbrev pub AnswersFiles : Request → Source → ByFile → ℕ → ℕ → Status → List (List ℕ) → Type 0
AnswersFiles request source words before now status lines =
    FailsToRead source words before now status lines
    ⊎ (Refuses (OfLength source words) status lines ⊎ FilesGive source words (λ g. AnswersTexts request g status lines))

abbrev pub BeginsFiles : Request → Source → ByFile → List (List ℕ) → Type 0
BeginsFiles request source words lines = FilesGive source words (λ g. BeginsTexts request g lines)

-- ---- what a request gives

-- the three names of files
abbrev pub names_by : ByFile → List (List ℕ)
names_by words = words.spice ∷ words.blif ∷ words.rules ∷ []

-- for texts that are generated
abbrev pub AnswersGenerated : Request → Status → List (List ℕ) → Type 0
AnswersGenerated (Check cell budget files) status lines = ⊥
AnswersGenerated (Replay cell phase at files) status lines = ⊥
AnswersGenerated (Classes cell files) status lines = ⊥
AnswersGenerated (Arrive cell phase rise budget files) status lines = ⊥
AnswersGenerated (AsBlif cell budget files) status lines = ⊥
AnswersGenerated (Generate size budget) status lines = AnswersTexts (Generate size budget) (generated size) status lines

abbrev pub BeginsGenerated : Request → List (List ℕ) → Type 0
BeginsGenerated (Check cell budget files) lines = ⊥
BeginsGenerated (Replay cell phase at files) lines = ⊥
BeginsGenerated (Classes cell files) lines = ⊥
BeginsGenerated (Arrive cell phase rise budget files) lines = ⊥
BeginsGenerated (AsBlif cell budget files) lines = ⊥
BeginsGenerated (Generate size budget) lines = BeginsTexts (Generate size budget) (generated size) lines

-- what is to be answered and written for a request
abbrev pub Serves : Request → Source → ℕ → ℕ → Status → List (List ℕ) → Type 0
Serves request source before now status lines =
    AnswersGenerated request status lines
    ⊎ ((words : ByFile) × (file_names request ≡ names_by words) × AnswersFiles request source words before now status lines)

-- lines with which that begins
abbrev pub BeginsRequest : Request → Source → List (List ℕ) → Type 0
BeginsRequest request source lines =
    BeginsGenerated request lines ⊎ ((words : ByFile) × (file_names request ≡ names_by words) × BeginsFiles request source words lines)

-- ---- what the words give

-- the words are not understood
pub record RefusesWords (words : List (List ℕ)) (status : Status) (lines : List (List ℕ)) : Type 0 where
  pub bad : IsUsage words
  pub answer : status ≡ Usage
  pub told : lines ≡ usage_line ∷ []

-- help or the version is asked for
pub record ShowsManual (words : List (List ℕ)) (status : Status) (lines : List (List ℕ)) : Type 0 where
  pub answer : status ≡ AllEqual
  pub told : (Asks words Help × (lines ≡ help_text ∷ [])) ⊎ (Asks words Version × (lines ≡ version_line ∷ []))

-- what is to be answered and written for these words and files
abbrev pub Wants : List (List ℕ) → Source → ℕ → ℕ → Status → List (List ℕ) → Type 0
Wants words source before now status lines =
    RefusesWords words status lines
    ⊎ (ShowsManual words status lines ⊎ ((request : Request) × AsksFor words request × Serves request source before now status lines))

-- lines that begin the report that the words ask for
abbrev pub Begins : List (List ℕ) → Source → List (List ℕ) → Type 0
Begins words source lines = (request : Request) × AsksFor words request × BeginsRequest request source lines

-- ---- what a refusal gives

-- its line is put with its status; want of memory has no line
abbrev pub RefusalEnds : Refusal → Status → Option (List ℕ) → Option (List ℕ) → ℕ → ℕ → Type 0
RefusalEnds (Unread line) status old new before now = PutsLine ReadFault status line old new before now
RefusalEnds (Told line) status old new before now = PutsLine InputRefused status line old new before now
RefusalEnds OutOfMemory status old new before now = (status ≡ NoMemory) × Keeps old new

-- what it tells is such an answer: one line, with its status
abbrev pub TellsAnswer : (Status → List (List ℕ) → Type 0) → Refusal → Type 0
TellsAnswer IsAnswer refusal = TellsEither (λ line. IsAnswer ReadFault (line ∷ [])) (λ line. IsAnswer InputRefused (line ∷ [])) refusal
