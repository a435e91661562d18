-- What is passed over between tokens: blanks, comments, attributes and the lines of some directives.
use Rattle.std.specs.Prelude.{ℕ, List, [], ◌∷◌, ◌+◌, Bool, true, false, ◌==◌, ◌&&◌, if◌then◌else◌, codes, drop, Option, Some, None}
use Rattle.text_lines.specs.Groups.{up_to}
use Rattle.vrt_model.specs.Lists.{has_name}
use Rattle.verilog_tokens.specs.Words.{behind_run, ends_name, is_feed, is_space, starts_with}

-- A place in a text: the number of its line, whether there are only blanks before it on the line, and what is behind it.
pub record Place : Type 0 where
  pub line : ℕ
  pub is_fresh : Bool
  pub bytes : List ℕ

abbrev pub place_at : ℕ → Bool → List ℕ → Place
place_at line is_fresh bytes = record { line = line; is_fresh = is_fresh; bytes = bytes }

-- What is passed over at a place: something, and this is behind it; a comment that does not end; or nothing.
pub data Passing : Type 0 where
  Over : Place → Passing
  Endless : Place → Passing
  Stays : Place → Passing

-- directives whose line is passed over
abbrev pub passed_directives : List (List ℕ)
passed_directives = codes "timescale" ∷ codes "celldefine" ∷ codes "endcelldefine" ∷ codes "default_nettype" ∷ []

-- the number of the line behind a byte
abbrev pub line_behind : ℕ → ℕ → ℕ
line_behind line b = if is_feed b then line + 1 else line

-- what is behind the first `*` with this byte behind it, and the number of its line
abbrev pub behind_close : ℕ → ℕ → List ℕ → Option (ℕ × List ℕ)
behind_close close line [] = None
behind_close close line (b ∷ bs) =
    if (b == 42) && starts_with close bs then Some (line, drop 1 bs) else behind_close close (line_behind line b) bs

abbrev pub passed_comment : Place → Option (ℕ × List ℕ) → Passing
passed_comment place None = Endless place
passed_comment place (Some behind) = Over (place_at behind.0 false behind.1)

-- a comment that ends with `*` and this byte
abbrev pub comment : ℕ → Place → List ℕ → Passing
comment close place bytes = passed_comment place (behind_close close place.line bytes)

-- the rest of the line
abbrev pub rest_of_line : Place → List ℕ → Passing
rest_of_line place bytes = Over (place_at place.line false (behind_run is_feed bytes))

-- what is passed over where a byte stands before these
abbrev pub passing_by : Place → ℕ → List ℕ → Passing
passing_by place b bs =
    if is_space b then Over (place_at (line_behind place.line b) (if is_feed b then true else place.is_fresh) bs)
    else (if (b == 47) && starts_with 47 bs then rest_of_line place bs
    else (if (b == 47) && starts_with 42 bs then comment 47 place (drop 1 bs)
    else (if (b == 40) && starts_with 42 bs then comment 41 place (drop 1 bs)
    else (if (b == 96) && place.is_fresh && has_name passed_directives (up_to ends_name bs) then rest_of_line place bs
    else Stays place))))

abbrev pub passing_at : Place → List ℕ → Passing
passing_at place [] = Stays place
passing_at place (b ∷ bs) = passing_by place b bs

abbrev pub passing : Place → Passing
passing place = passing_at place place.bytes
