-- How many names the storage elements of latches have.
use Rattle.std.proofs.Common.{◌≡◌, ℕ, List, length, refl}
use Rattle.vrt_model.specs.Elements.{element_count, names_by_kind}
use Rattle.vrt_model.specs.declared.blif.LatchKind.{LatchKind}
use Rattle.vrt_model.specs.declared.blif.LatchKind.TheVariants.{Re, Fe, Ah, Al}

-- each element of a latch has a name
pub names_count : (kind : LatchKind) (name : List ℕ) → length (names_by_kind kind name) ≡ element_count kind
names_count Re name = refl
names_count Fe name = refl
names_count Ah name = refl
names_count Al name = refl
