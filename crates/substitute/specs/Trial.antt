-- The marks where an instance that is tried is whole too.
use Rattle.std.specs.Prelude.{◌≡◌, ℕ, ◌==◌, Bool, ◌||◌, List}
use Rattle.net_places.specs.declared.whole.Unrolled.{Unrolled}
use Rattle.whole_circuits.specs.Insides.{IsCutAt}
use Rattle.whole_circuits.specs.Shown.{AreMarks}
use Rattle.whole_circuits.specs.declared.marks.Marks.{Marks}
use Rattle.vrt_model.specs.Cut.{Cut}
use Rattle.vrt_model.specs.Lists.{mark_at}

-- the marks of whole instances with that of one more place, and those of the places inside them
pub record AreMarksBeside (unrolled : Unrolled) (whole : List Bool) (at : ℕ) (own : Marks) : Type 0 where
  pub one_more : (n : ℕ) → mark_at own.whole.items n ≡ (mark_at whole n || (at == n))
  pub are : (cut : Cut) → IsCutAt cut unrolled own.whole.items → AreMarks cut own
