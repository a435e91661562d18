-- What an answered response says.
use Rattle.vrt_model.specs.Response.{Fight as FightThere, Float as FloatThere, Response as NetResponse, Shows}
use Rattle.plain_paths.specs.declared.signals.Response.{Response}
use Rattle.plain_paths.specs.declared.signals.Response.TheVariants.{Fight, Float, Bit}

abbrev pub meaning_of : Response → NetResponse
meaning_of Fight = FightThere
meaning_of Float = FloatThere
meaning_of (Bit value) = Shows value
