-- What a line says is what it says as one with a list of words, or as one without.
use Rattle.std.proofs.Common.{◌≡◌, ◌||◌, ℕ, List, Bool, true, false, cond, codes, bytes_eq, Option, None, refl, sym, subst}
use Rattle.std.proofs.lemmas.Slice.Eq.{bytes_eq-Decides}
use Rattle.rules_lines.specs.Lines.{assume_entry, clock_entry, clockport_entry, defaultclock_entry, device_entry, enter_entry, entry_by, hold_entry, keeper_entry, match_entry, observe_entry, pair_entry, phase_entry, port_entry, scale_entry, strength_entry, supply_entry}
use Rattle.rules_lines.specs.Long.{is_long, long_entry, short_entry}
use Rattle.rules_lines.specs.declared.entry.Entry.{Entry}

-- the tests of a first word
abbrev test : List ℕ → List ℕ → Bool
test word name = bytes_eq word name

-- what a line says, where these tests of its first word answer so
abbrev by_tests : List ℕ → List (List ℕ) → Bool → Bool → Bool → Bool → Bool → Bool → Option Entry
by_tests word rest a b c d e f =
    cond (test word (codes "scale")) (scale_entry rest)
    (cond a (supply_entry rest)
    (cond (test word (codes "device")) (device_entry rest)
    (cond (test word (codes "strength")) (strength_entry rest)
    (cond (test word (codes "pair")) (pair_entry rest)
    (cond (test word (codes "port")) (port_entry rest)
    (cond (test word (codes "hold")) (hold_entry rest)
    (cond b (keeper_entry rest)
    (cond (test word (codes "match")) (match_entry rest)
    (cond c (clock_entry rest)
    (cond d (phase_entry rest)
    (cond (test word (codes "clockport")) (clockport_entry rest)
    (cond (test word (codes "defaultclock")) (defaultclock_entry rest)
    (cond (test word (codes "enter")) (enter_entry rest)
    (cond e (observe_entry rest)
    (cond f (assume_entry rest) None)))))))))))))))

without : (word : List ℕ) (rest : List (List ℕ)) (a b c d e f : Bool) → (a || b || c || d || e || f) ≡ false → by_tests word rest a b c d e f ≡ short_entry word rest
without word rest false false false false false false h = refl
without word rest true b c d e f h = cc
without word rest false true c d e f h = cc
without word rest false false true d e f h = cc
without word rest false false false true e f h = cc
without word rest false false false false true f h = cc
without word rest false false false false false true h = cc

-- a line without a list of words
pub short_line : (word : List ℕ) (rest : List (List ℕ)) → is_long word ≡ false → entry_by word rest ≡ short_entry word rest
short_line word rest h =
    without word rest (test word (codes "supply")) (test word (codes "keeper")) (test word (codes "clock")) (test word (codes "phase")) (test word (codes "observe")) (test word (codes "assume")) h

abbrev Same : List (List ℕ) → List ℕ → Type 0
Same rest word = entry_by word rest ≡ long_entry word rest

either : (x y : Bool) {P : Type 0} → (x ≡ true → P) → (y ≡ true → P) → (x || y) ≡ true → P
either true y f g h = f refl
either false y f g h = g h

named : (word name : List ℕ) (rest : List (List ℕ)) → Same rest name → test word name ≡ true → Same rest word
named word name rest same e = subst (Same rest) (sym ((bytes_eq-Decides word name).0 e)) same

-- a line with a list of words
pub long_line : (word : List ℕ) (rest : List (List ℕ)) → is_long word ≡ true → entry_by word rest ≡ long_entry word rest
long_line word rest h =
    either _ _ (
    either _ _ (
    either _ _ (
    either _ _ (
    either _ _ (named word (codes "supply") rest refl) (named word (codes "keeper") rest refl))
    (named word (codes "clock") rest refl))
    (named word (codes "phase") rest refl))
    (named word (codes "observe") rest refl))
    (named word (codes "assume") rest refl) h
