-- What a call that adds keys does.
use Rattle.std.specs.Prelude.{◌≡◌, ℕ, List, true, false, map, Option, Some, None}
use Rattle.vrt_model.specs.Lists.{has_name}
use Rattle.names.specs.Names.{with_name, with_names}
use Rattle.rules_reader.specs.Keys.{Key, repeated, text}

-- one key: it is added, or it was there and its last word is answered
abbrev pub ClaimsOne : Key → List (List ℕ) → List (List ℕ) → Option (List ℕ) → Type 0
ClaimsOne k old new None = (has_name old (text k) ≡ false) × (new ≡ with_name old (text k))
ClaimsOne k old new (Some name) = (has_name old (text k) ≡ true) × (name ≡ k.last)

-- some keys: they are added, or one repeats and its last word is answered
abbrev pub Claims : List Key → List (List ℕ) → List (List ℕ) → Option (List ℕ) → Type 0
Claims ks old new None = (repeated old ks ≡ None) × (new ≡ with_names old (map text ks))
Claims ks old new (Some name) = repeated old ks ≡ Some name
