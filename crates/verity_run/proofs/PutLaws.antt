-- What is written by several puts, and how a run ends.
use Rattle.std.proofs.Common.{◌≡◌, ◌≤◌, ◌<◌, ◌+◌, inl, inr, ◌∷◌, ◌++◌, [], ℕ, zero, suc, List, drop, get_or, length, take, Option, Some, None, refl, sym, ap, ◌∙◌, append-nil, append_assoc, subst, arith}
use Rattle.std.proofs.lemmas.List.{drop_more, take_more}
use Rattle.std.specs.Io.KnownBytes.{Appends, Keeps}
use Rattle.vrt_io.specs.Causes.{Rose}
use Rattle.verity_run.specs.Messages.{joined}
use Rattle.verity_run.specs.Runs.{Ends, MayBeCut, PutsLine, StopsLine, StopsLines}
use Rattle.verity_run.specs.declared.status.Status.{Status}
use Rattle.verity_run.specs.declared.status.Status.TheVariants.{NoMemory, WriteFault}

-- ---- bytes

pub appended : (a b c : Option (List ℕ)) (bs cs : List ℕ) → Appends a b bs → Appends b c cs → Appends a c (bs ++ cs)
appended None b c bs cs p q = tt
appended (Some x) None c bs cs p q = absurd p
appended (Some x) (Some y) None bs cs p q = absurd q
appended (Some x) (Some y) (Some z) bs cs p q = q ∙ ap (λ l. l ++ cs) p ∙ append_assoc x bs cs

pub kept_behind : (a b c : Option (List ℕ)) (bs : List ℕ) → Appends a b bs → Keeps b c → Appends a c bs
kept_behind None b c bs p q = tt
kept_behind (Some x) None c bs p q = absurd p
kept_behind (Some x) (Some y) None bs p q = absurd q
kept_behind (Some x) (Some y) (Some z) bs p q = q ∙ p

-- nothing was put
pub nothing_put : (a : Option (List ℕ)) → Appends a a []
nothing_put None = tt
nothing_put (Some x) = sym (append-nil x)

pub joined_behind : (xs ys : List (List ℕ)) → joined (xs ++ ys) ≡ joined xs ++ joined ys
joined_behind [] ys = refl
joined_behind (x ∷ xs) ys = ap (λ t. x ++ t) (joined_behind xs ys) ∙ sym (append_assoc x (joined xs) (joined ys))

-- one line more
pub joined_more : (lines : List (List ℕ)) (line : List ℕ) → joined (lines ++ line ∷ []) ≡ joined lines ++ line
joined_more lines line = joined_behind lines (line ∷ []) ∙ ap (λ t. joined lines ++ t) (append-nil line)

-- what stands before, and a front of the rest, is a front
pub front_behind : (before rest : List ℕ) (k : ℕ) → (m : ℕ) × (take m (before ++ rest) ≡ before ++ take k rest)
front_behind [] rest k = (k, refl)
front_behind (x ∷ before) rest k = let found = front_behind before rest k in (suc found.0, ap (λ t. x ∷ t) found.1)

pub rose_since : (old mid new : ℕ) → old ≤ mid → Rose mid new → Rose old new
rose_since old mid new le rose = omega (arith, rose)

-- a front of what stands before is a front
front_in : (before rest : List ℕ) (n : ℕ) → (m : ℕ) × (take m (before ++ rest) ≡ take n before)
front_in [] rest zero = (0, refl)
front_in [] rest (suc n) = (0, refl)
front_in (x ∷ before) rest zero = (0, refl)
front_in (x ∷ before) rest (suc n) = let found = front_in before rest n in (suc found.0, ap (λ t. x ∷ t) found.1)

-- a list is its front and the rest
pub split_at : {X : Type 0} (k : ℕ) (xs : List X) → xs ≡ take k xs ++ drop k xs
split_at zero xs = refl
split_at (suc k) [] = refl
split_at (suc k) (x ∷ xs) = ap (λ t. x ∷ t) (split_at k xs)

-- ---- several lines

-- one line more
pub lines_more : (lines : List (List ℕ)) (i : ℕ) (line given : List ℕ) (old mid new : Option (List ℕ)) → i < length lines → line ≡ get_or lines i line → given ≡ line
    → Appends old mid (joined (take i lines)) → Appends mid new given → Appends old new (joined (take (i + 1) lines))
lines_more lines i line given old mid new lt is same before one =
    subst (Appends old new)
    (sym (ap joined (take_more lines i line lt ∙ ap (λ l. take i lines ++ l ∷ []) (sym is)) ∙ joined_more (take i lines) line))
    (appended old mid new (joined (take i lines)) line before (subst (Appends mid new) same one))

-- a line that was not put as a whole
pub lines_stop : (lines : List (List ℕ)) (i : ℕ) (line given : List ℕ) (end : Status) (old mid new : Option (List ℕ)) (before between now : ℕ) → i < length lines → line ≡ get_or lines i line → given ≡ line
    → Appends old mid (joined (take i lines)) → before ≤ between → StopsLine end given mid new between now → StopsLines end lines old new before now
lines_stop lines i line given end old mid new before between now lt is same put le stops = record {
  stopped = stops.stopped;
  fault = λ e.
      let w = stops.fault e in
      let own = front_in line (joined (drop (i + 1) lines)) w.1.0 in
      let found = front_behind (joined (take i lines)) (line ++ joined (drop (i + 1) lines)) own.0 in
      let front : take found.0 (joined lines) ≡ joined (take i lines) ++ take w.1.0 line =
      ap (take found.0) whole ∙ found.1 ∙ ap (λ t. joined (take i lines) ++ t) own.1 in
      (rose_since before between now le w.0, (found.0, subst (Appends old new) (sym front) (appended old mid new (joined (take i lines)) (take w.1.0 line) put (subst (λ (l : List ℕ). Appends mid new (take w.1.0 l)) same w.1.1))));
  memory = λ e. (i, kept_behind old mid new (joined (take i lines)) put (stops.memory e));
} where
  rest : drop i lines ≡ line ∷ drop (i + 1) lines
  rest = drop_more lines i line lt ∙ ap (λ l. l ∷ drop (i + 1) lines) (sym is)

  whole : joined lines ≡ joined (take i lines) ++ (line ++ joined (drop (i + 1) lines))
  whole = ap joined (split_at i lines ∙ ap (λ t. take i lines ++ t) rest) ∙ joined_behind (take i lines) (line ∷ drop (i + 1) lines)

-- ---- ends

-- an end, where each answer and each beginning has another meaning
pub ends_by : (A B : Status → List (List ℕ) → Type 0) (C D : List (List ℕ) → Type 0) (status : Status) (old new : Option (List ℕ)) (before now : ℕ)
    → ((s : Status) (lines : List (List ℕ)) → A s lines → B s lines) → ((lines : List (List ℕ)) → C lines → D lines)
    → Ends A C status old new before now → Ends B D status old new before now
ends_by A B C D status old new before now f g e = record {
  whole = λ p q. let w = e.whole p q in (w.0, f status w.0 w.1, w.2);
  fault = λ is. let w = e.fault is in (w.0, (w.1.0, cut w.1.0 w.1.1, w.1.2));
  memory = λ is. elim (e.memory is) [ inl kept ↦ inl kept | inr w ↦ inr (w.0, g w.0 w.1, w.2) ];
}
  where
    cut : (lines : List (List ℕ)) → MayBeCut A C lines → MayBeCut B D lines
    cut lines (inl a) = inl (a.0, f a.0 lines a.1)
    cut lines (inr b) = inr (g lines b)

-- of one line
pub line_ends : (A : Status → List (List ℕ) → Type 0) (C : List (List ℕ) → Type 0) (wanted status : Status) (line : List ℕ) (old new : Option (List ℕ)) (before now : ℕ)
    → A wanted (line ∷ []) → PutsLine wanted status line old new before now → Ends A C status old new before now
line_ends A C wanted status line old new before now is put =
    let lines : List (List ℕ) = line ∷ [] in
    let same : line ≡ joined lines = sym (append-nil line) in
    record {
      whole = λ p q. let w = put.whole p q in (lines, subst (λ s. A s lines) (sym w.0) is, subst (Appends old new) same w.1);
      fault = λ e. let w = put.fault e in (w.0, (lines, inl (wanted, is), (w.1.0, subst (λ (l : List ℕ). Appends old new (take w.1.0 l)) same w.1.1)));
      memory = λ e. inl (put.memory e);
    }

none_is_no_fault : (status : Status) → status ≡ NoMemory → status ≡ WriteFault → ⊥
none_is_no_fault status p q = cc

-- for want of memory, with nothing put
pub nothing_ends : (A : Status → List (List ℕ) → Type 0) (C : List (List ℕ) → Type 0) (status : Status) (old new : Option (List ℕ)) (before now : ℕ)
    → status ≡ NoMemory → Keeps old new → Ends A C status old new before now
nothing_ends A C status old new before now is kept =
    record { whole = λ p q. absurd (q is); fault = λ e. absurd (none_is_no_fault status is e); memory = λ e. inl kept }
