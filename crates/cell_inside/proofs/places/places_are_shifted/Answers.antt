use Rattle.cell_inside.proofs.ShiftedPlaces.{places_are_shifted}
use Rattle.cell_inside.proofs.places.places_are_shifted.Goals as goal

pub returns : goal.returns
returns c = places_are_shifted
