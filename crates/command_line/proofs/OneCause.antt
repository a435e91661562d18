-- A command without subcommands refuses words for one cause.
use Rattle.std.proofs.Common.{◌≡◌, ◌≤◌, arith, ◌∷◌, [], ℕ, zero, suc, List, Bool, true, false, Option, Some, None, ap, refl, sym, subst, inl, inr}
use Rattle.std.specs.Prelude.{◌==◌, ◌&&◌, drop, encode_utf8, if◌then◌else◌, length, nat_lt, not, slice_get}
use Rattle.std.specs.List.{list_any}
use Rattle.std.specs.Option.{option_map_or}
use Rattle.std.specs.Str.{chars}
use Rattle.clap.specs.Faults.{action_fault, built_fault, bundle_step_fault, check_fault, count_fault, default_fault, defaults_fault, entered_fault, flag_word_fault, flags_fault, level_fault, long_fault, option_fault, other_fault, positional_fault, react_fault, repeat_fault, set_fault, settle_fault, short_fault, step_fault, stray_fault, turn_fault, use_fault, values_fault, walk_fault, word_fault}
use Rattle.clap.specs.Kinds.{IsAmong, Kinds, check_kinds, or_else, range_kinds, request_kinds, value_kinds, values_kinds}
use Rattle.clap.specs.Simple.{Shape}
use Rattle.clap.specs.Walk.{Held, Row, Rule, Step, Text, Waiting, Walk, action_of, arg_by_id, arg_by_index, arg_by_long, arg_by_short, attached_value, finished, idle, most_values, next, option, positional, reacted, settled, subcommand, subcommand_met, trailing, value, values_or_missing, walk, walk_from, walked, with_default, word_met}
use Rattle.clap.specs.Lexer.{long_of, short_of}
use Rattle.clap.specs.declared.builder.ArgAction.{ArgAction}
use Rattle.clap.specs.declared.builder.ArgAction.TheVariants.{Append, Count, Help, HelpLong, HelpShort, Set, SetFalse, SetTrue, Version}
use Rattle.clap.specs.declared.builder.value_parser.ValueParser.{ValueParser}
use Rattle.clap.specs.declared.error.kind.ErrorKind.{ErrorKind}
use Rattle.clap.specs.declared.error.kind.ErrorKind.TheVariants.{InvalidValue, TooFewValues, TooManyValues, WrongNumberOfValues}
use Rattle.clap.specs.Facts.{explicit_source, parser_of_value, unwrap_or_range}
use Rattle.clap.specs.Takes.{is_given}

-- no cause or one
pub record IsOne (causes : Kinds) : Type 0 where
  pub few : length causes ≤ 1

none : IsOne []
none = record { few = omega arith }

single : (cause : ErrorKind) → IsOne (cause ∷ [])
single cause = record { few = omega arith }

pub the_cause : (causes : Kinds) (cause : ErrorKind) → IsOne causes → IsAmong cause causes → causes ≡ cause ∷ []
the_cause [] cause one among = absurd among
the_cause (x ∷ []) cause one (inl e) = ap (λ (k : ErrorKind). k ∷ []) (sym e)
the_cause (x ∷ []) cause one (inr other) = absurd other
the_cause (x ∷ y ∷ causes) cause one among = absurd (omega (arith, one.few))

one_else : (a b : Kinds) → IsOne a → IsOne b → IsOne (or_else a b)
one_else [] b p q = q
one_else (x ∷ xs) b p q = p

one_if : (t : Bool) (a b : Kinds) → IsOne a → IsOne b → IsOne (if t then a else b)
one_if true a b p q = p
one_if false a b p q = q

one_of : {X : Type 0} (f : X → Kinds) (o : Option X) (d : Kinds) → ((x : X) → IsOne (f x)) → IsOne d → IsOne (option_map_or f o d)
one_of f None d each other = other
one_of f (Some x) d each other = each x

-- ---- one use of an argument

one_value : (i : Bool) (p : ValueParser) (text : List ℕ) → IsOne (value_kinds i p text)
one_value i p text = one_if _ _ _ none (single _)

one_values : (i : Bool) (p : ValueParser) (values : List (List ℕ)) → IsOne (values_kinds i p values)
one_values i p [] = none
one_values i p (v ∷ vs) = one_else (value_kinds i p v) (values_kinds i p vs) (one_value i p v) (one_values i p vs)

one_count : (a : Rule) (values : List Text) (rows : List Row) → IsOne (count_fault a values rows)
one_count a [] rows = one_if _ _ _ none (single _)
one_count a (v ∷ vs) rows = one_values _ _ (v ∷ vs)

one_set : (again : Bool) (a : Rule) (values : List Text) (rows : List Row) → IsOne (set_fault again a values rows)
one_set again a values rows = one_else (repeat_fault again _ rows) (values_fault a values) (one_if _ _ _ (single _) none) (one_values _ _ values)

one_request : (x : ArgAction) → IsOne (request_kinds x)
one_request Set = none
one_request Append = none
one_request SetTrue = none
one_request SetFalse = none
one_request Count = none
one_request Help = single _
one_request HelpShort = single _
one_request HelpLong = single _
one_request Version = single _

one_action : (x : ArgAction) (again : Bool) (a : Rule) (values : List Text) (rows : List Row) → IsOne (action_fault x again a values rows)
one_action Set again a values rows = one_set again a values rows
one_action Append again a values rows = one_values _ _ values
one_action SetTrue again a values rows = one_set again a values rows
one_action SetFalse again a values rows = one_set again a values rows
one_action Count again a values rows = one_count a values rows
one_action Help again a values rows = single _
one_action HelpShort again a values rows = single _
one_action HelpLong again a values rows = single _
one_action Version again a values rows = single _

one_counted : (a b c d e : Bool) (v w x y : ErrorKind)
    → IsOne (if a then v ∷ [] else (if b then (if c then [] else w ∷ []) else (if d then x ∷ [] else (if e then y ∷ [] else []))))
one_counted true b c d e v w x y = single v
one_counted false true true d e v w x y = none
one_counted false true false d e v w x y = single w
one_counted false false c true e v w x y = single x
one_counted false false c false true v w x y = single y
one_counted false false c false false v w x y = none

one_range : (least most n : ℕ) → IsOne (range_kinds least most n)
one_range least most n =
    one_counted (nat_lt 0 least && n == 0) (least == most) (least == n) (nat_lt n least) (nat_lt most n) InvalidValue WrongNumberOfValues TooFewValues TooManyValues

one_use : (again : Bool) (a : Rule) (values : List Text) (rows : List Row) → IsOne (use_fault again a values rows)
one_use again a values rows =
    one_else (range_kinds (unwrap_or_range a.range).start_inclusive (most_values a) (length values)) (action_fault (action_of a) again a (values_or_missing a values) rows)
    (one_range (unwrap_or_range a.range).start_inclusive (most_values a) (length values)) (one_action (action_of a) again a (values_or_missing a values) rows)

-- ---- the walk

module _ (c : List Rule) (again : Bool) where
  one_settle : (h : Held) → IsOne (settle_fault c again h)
  one_settle h = one_of _ h.pending [] (λ p. one_of _ (arg_by_id c p.0) [] (λ a. one_use again a p.1 h.rows) none) none

  one_react : (a : Rule) (values : List Text) (h : Held) → IsOne (react_fault c again a values h)
  one_react a values h = one_else (settle_fault c again h) (use_fault again a values _) (one_settle h) (one_use again a values _)

  one_option : (a : Rule) (v : Option Text) (h : Held) → IsOne (option_fault c again a v h)
  one_option a (Some v) h = one_react a (v ∷ []) h
  one_option a None h = one_settle h

  one_long : (a : Option Rule) (v : Option Text) (h : Held) → IsOne (long_fault c again a v h)
  one_long None v h = single _
  one_long (Some a) v h = one_if _ _ _ (one_option a v h) (one_if _ _ _ (single _) (one_react a [] h))

  one_short : (a : Option Rule) (rest : Text) (h : Held) (after : Held → Kinds) → ((k : Held) → IsOne (after k)) → IsOne (short_fault c again a rest h after)
  one_short None rest h after each = single _
  one_short (Some a) rest h after each =
      one_if _ _ _ (one_option a (attached_value rest) h) (one_else (react_fault c again a [] h) (after (reacted c a [] h)) (one_react a [] h) (each (reacted c a [] h)))

  one_step : (x : Option ℕ) (flags : Text) (skip : ℕ) (h : Held) (after : Text → ℕ → Held → Kinds) → ((f : Text) (n : ℕ) (k : Held) → IsOne (after f n k))
      → IsOne (bundle_step_fault c again x flags skip h after)
  one_step None flags skip h after each = none
  one_step (Some x) flags zero h after each =
      let rest = drop (length (encode_utf8 x)) flags in one_short (arg_by_short c x) rest h (after rest 0) (each rest 0)
  one_step (Some x) flags (suc skip) h after each = each (drop (length (encode_utf8 x)) flags) skip h

  one_flags : (k : ℕ) (flags : Text) (skip : ℕ) (h : Held) → IsOne (flags_fault c again k flags skip h)
  unfolding flags_fault
  one_flags zero flags skip h = none
  one_flags (suc k) flags skip h = one_step (slice_get (chars flags) 0) flags skip h (flags_fault c again k) (λ f n x. one_flags k f n x)

  one_word : (o : Option (Text × Option Text)) (word : Text) (h : Held) → IsOne (flag_word_fault c again o word h)
  one_word (Some p) word h = one_long (arg_by_long c p.0) p.1 h
  one_word None word h = one_of _ (short_of word) [] (λ flags. one_flags (length flags) flags h.skip (record h { skip = 0 })) none

  one_positional : (a : Rule) (h : Held) → IsOne (positional_fault c again a h)
  one_positional a h = one_if _ _ _ none (one_settle h)

none_met : (waiting : Waiting) (word : Text) → subcommand_met [] waiting word ≡ None
none_met idle word = refl
none_met (option id) word = refl
none_met positional word = refl

one_checked : (a b c : Bool) → IsOne (check_kinds a b c)
one_checked true b c = single _
one_checked false true c = single _
one_checked false false true = single _
one_checked false false false = none

module _ (s : Shape) (leaf : s.is_leaf ≡ true) where
  one_plain : (word : Text) (h : Held) → IsOne (other_fault s None word h)
  one_plain word h = one_if _ _ _ none (one_word s.rules s.args_override_self (long_of word) word h)

  one_stray : IsOne (stray_fault s)
  one_stray = rw leaf (single _)

  one_stood : (position : ℕ) (h : Held) (step : Step) → IsOne (step_fault s position h step)
  one_stood position h value = one_of _ (arg_by_index s.rules position) (stray_fault s) (λ a. one_positional s.rules s.args_override_self a h) one_stray
  one_stood position h (next waiting) = none
  one_stood position h (trailing n) = none
  one_stood position h (subcommand name) = none

  one_turn : (w : Walk) (word : Text) → IsOne (turn_fault s [] w word)
  one_turn w word =
      let met = word_met s.rules [] w.is_trailing w.waiting w.position word w.held in
      one_if _ _ _ none
      (one_else (word_fault s [] w.is_trailing w.waiting word w.held) (step_fault s w.position met.0 met.1)
      (one_if _ _ _ none (subst (λ (o : Option Text). IsOne (other_fault s o word w.held)) (sym (none_met w.waiting word)) (one_plain word w.held)))
      (one_stood w.position met.0 met.1))

  one_walk : (w : Walk) (words : List Text) → IsOne (walk_fault s [] w words)
  unfolding walk_fault
  one_walk w [] = none
  one_walk w (word ∷ words) = one_else (turn_fault s [] w word) (walk_fault s [] (walked s.rules [] w word) words) (one_turn w word) (one_walk (walked s.rules [] w word) words)

  one_default : (rows : List Row) (a : Rule) → IsOne (default_fault rows a)
  one_default rows a = one_if _ _ _ none (one_else (request_kinds (action_of a)) (values_fault a a.defaults) (one_request (action_of a)) (one_values a.ignore_case (parser_of_value a.parser) a.defaults))

  one_defaults : (rows : List Row) (rules : List Rule) → IsOne (defaults_fault rows rules)
  unfolding defaults_fault
  one_defaults rows [] = none
  one_defaults rows (a ∷ rest) = one_else (default_fault rows a) (defaults_fault (with_default rows a) rest) (one_default rows a) (one_defaults (with_default rows a) rest)

  one_check : (rows : List Row) (has : Bool) → IsOne (check_fault s rows has)
  one_check rows has =
      one_checked (not has && (s.arg_required_else_help && not (list_any (λ r. explicit_source r.source) rows))) (not has && s.subcommand_required)
      (not (s.subcommand_negates_reqs && has) && list_any (λ a. a.required && not (is_given a.id rows)) s.rules)

  one_level : (h : Held) (words : List Text) (has : Bool) (below : Kinds) → IsOne below → IsOne (level_fault s [] h words has below)
  one_level h words has below one =
      let end = (walk s.rules [] h words).held in
      one_else (walk_fault s [] (walk_from h) words) _ (one_walk (walk_from h) words)
      (one_else below _ one
      (one_else (settle_fault s.rules s.args_override_self end) _ (one_settle s.rules s.args_override_self end)
      (one_else (defaults_fault (settled s.rules end).rows s.rules) (check_fault s (finished s.rules end) has)
      (one_defaults (settled s.rules end).rows s.rules) (one_check (finished s.rules end) has))))

none_below : (top : Shape) (stop : Option (Text × List Text)) → IsOne (entered_fault (record { top = top; subs = [] }) stop)
none_below top None = none
none_below top (Some p) = none

pub one_cause : (top : Shape) (h : Held) (words : List Text) → top.is_leaf ≡ true → IsOne (built_fault (record { top = top; subs = [] }) h words)
one_cause top h words leaf = one_level top leaf h words _ _ (none_below top (walk top.rules [] h words).stopped)
