-- Nets that are to be looked at: a mark at each, and a list that has them.
use Rattle.std.specs.Prelude.{◌≡◌, ℕ, ◌⊎◌, Bool, true, false, List, length}
use Rattle.known_nets.specs.Conduction.{is_plain_at}
use Rattle.known_nets.specs.declared.waiting.Waiting.{Waiting}
use Rattle.vrt_model.specs.Lists.{MarksGrow, mark_at, Among}
use Rattle.vrt_model.specs.declared.circuit.Circuit.{Circuit}

-- whether a net waits: it has a mark
abbrev pub waits : Waiting → ℕ → Bool
waits w n = mark_at w.marks.items n

-- more plain nets are marked, and those are on the list, from which none is gone
pub record HasWaited (c : Circuit) (old new : Waiting) : Type 0 where
  pub size : length new.marks.items ≡ length old.marks.items
  pub grown : MarksGrow old.marks.items new.marks.items
  pub listed : (n : ℕ) → waits new n ≡ true → (waits old n ≡ true) ⊎ Among new.list.items n
  pub plain : (n : ℕ) → waits new n ≡ true → (waits old n ≡ true) ⊎ (is_plain_at c n ≡ true)
  pub stays : (n : ℕ) → Among old.list.items n → Among new.list.items n

-- the marks of some nets are gone, and no others
pub record HasForgotten (nets : List ℕ) (old new : Waiting) : Type 0 where
  pub size : length new.marks.items ≡ length old.marks.items
  pub gone : (n : ℕ) → Among nets n → waits new n ≡ false
  pub only : (n : ℕ) → waits new n ≡ true → waits old n ≡ true
  pub kept : (n : ℕ) → waits old n ≡ true → (waits new n ≡ true) ⊎ Among nets n
  pub list : new.list ≡ old.list
