-- What the three loads give, file by file: what is said of a file is said where its bytes are told.
use Rattle.std.specs.Prelude.{◌≡◌, ◌<◌, ◌≤◌, ◌⊎◌, ℕ, List, IfSome, length, vec_len}
use Rattle.std.specs.declared.option.Option.{Option}
use Rattle.vrt_io.specs.Causes.{Rose}
use Rattle.verity_run.specs.Given.{ByFile}
use Rattle.verity_run.specs.declared.reads.Texts.{Texts}
use Rattle.verity_run.specs.declared.reads.Stop.{Stop}
use Rattle.verity_run.specs.declared.reads.Stop.TheVariants.{Failed, TooLong, NoMemory}

-- what a source says of its files by their names: the bytes where they are told, what loads gave, and that a load failed
pub record Source : Type 1 where
  pub told : List ℕ → Option (List ℕ)
  pub gave : List ℕ → List ℕ → Type 0
  pub failed : List ℕ → Type 0

abbrev pub source_of : (List ℕ → Option (List ℕ)) → (List ℕ → List ℕ → Type 0) → (List ℕ → Type 0) → Source
source_of told gave failed = record { told = told; gave = gave; failed = failed }

-- a file has at most as many bytes as a file may have
abbrev pub IsShort : Option (List ℕ) → Type 0
IsShort file = IfSome file (λ bytes. length bytes ≤ 16777216)

-- it has more
abbrev pub IsLong : Option (List ℕ) → Type 0
IsLong file = IfSome file (λ bytes. 16777216 < length bytes)

-- these are the bytes of a file that is not too long
abbrev pub IsTold : Option (List ℕ) → List ℕ → Type 0
IsTold file bytes = IfSome file (λ told. (bytes ≡ told) × (length told ≤ 16777216))

-- these are the bytes of the file of a name: a load gave them, and they are the told ones
abbrev pub IsLoaded : Source → List ℕ → List ℕ → Type 0
IsLoaded source name bytes = IsTold (source.told name) bytes × source.gave name bytes

-- one of the three words
abbrev pub IsFileWord : ByFile → List ℕ → Type 0
IsFileWord words name = (name ≡ words.spice) ⊎ ((name ≡ words.blif) ⊎ (name ≡ words.rules))

-- the first of the three files that is too long has this name
abbrev pub IsFirstLong : Source → ByFile → List ℕ → Type 0
IsFirstLong source words name =
    ((name ≡ words.spice) × IsLong (source.told words.spice))
    ⊎ ((IsShort (source.told words.spice) × ((name ≡ words.blif) × IsLong (source.told words.blif)))
    ⊎ (IsShort (source.told words.spice) × (IsShort (source.told words.blif) × ((name ≡ words.rules) × IsLong (source.told words.rules)))))

-- the bytes are those of the three files, of which none is too long
pub record AreLoaded (source : Source) (words bytes : ByFile) : Type 0 where
  pub spice : IsLoaded source words.spice bytes.spice
  pub blif : IsLoaded source words.blif bytes.blif
  pub rules : IsLoaded source words.rules bytes.rules

-- why one file is not read: its load failed, or it is too long
abbrev pub StopHasCause : Stop → Source → List ℕ → ℕ → ℕ → Type 0
StopHasCause Failed source name before now = Rose before now × source.failed name
StopHasCause TooLong source name before now = IsLong (source.told name)
StopHasCause NoMemory source name before now = Unit {0}

-- why the three are not read, and the name of the file
abbrev pub StopsBy : Stop → List ℕ → Source → ByFile → ℕ → ℕ → Type 0
StopsBy Failed name source words before now = Rose before now × (IsFileWord words name × source.failed name)
StopsBy TooLong name source words before now = IsFirstLong source words name
StopsBy NoMemory name source words before now = Unit {0}

-- none of the three has more bytes than a file may have
pub record AreShort (t : Texts) : Type 0 where
  pub spice : vec_len t.spice ≤ 16777216
  pub blif : vec_len t.blif ≤ 16777216
  pub rules : vec_len t.rules ≤ 16777216
