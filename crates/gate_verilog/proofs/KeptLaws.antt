-- What holds of the modules of tokens without a fault.
use Rattle.std.proofs.Common.{◌≡◌, ◌≤◌, ℕ, ◌++◌, ◌∷◌, ◌&&◌, ◌||◌, [], List, true, false, not, nat_le, length, map, All, cond, Option, Some, None, is_none, is_some, refl, ap, ap₂, sym, subst, ◌∙◌, arith, append-nil, append_assoc}
use Rattle.std.specs.Prelude.{option_to_list, unwrap_or}
use Rattle.std.proofs.lemmas.Bool.{or_parts}
use Rattle.std.proofs.lemmas.Bool.Decides.{nat_tests}
use Rattle.std.proofs.lemmas.Grind.{flat_map-append}
use Rattle.std.proofs.lemmas.List.{length-append, length-map}
use Rattle.std.proofs.lemmas.List.Elements.{All-append, All-cons, All-head, All-map, All-nil, All-tail}
use Rattle.names.specs.Names.{with_names}
use Rattle.names.proofs.ApartLaws.{NoRepeat, apart_by, no_repeat_end}
use Rattle.gate_verilog.specs.Built.{Building, blif_with, built, built_from, built_on, with_entries}
use Rattle.gate_verilog.proofs.Kept.{IsFitEvent, IsKept, IsRoomy, name_told, names_told}
use Rattle.gate_verilog.proofs.FineLaws.{Fine, IsFine, fine}
use Rattle.gate_verilog.proofs.ToldLaws.{more_modules, same_place}
use Rattle.text_lines.specs.Faults.{when}
use Rattle.text_lines.proofs.FaultLaws.{none_cons, when_no}
use Rattle.verilog_expression.specs.Limits.{uncounted}
use Rattle.verilog_models.specs.Drafts.{begun}
use Rattle.verilog_models.specs.Fits.{AreFit, IsFitEntry}
use Rattle.verilog_models.specs.Models.{model_of}
use Rattle.verilog_models.proofs.FitLaws.{model_fits}
use Rattle.verilog_source.specs.Known.{Known, counted, learned, learned_by, nothing_known}
use Rattle.verilog_source.specs.Modules.{Entry, Module}
use Rattle.verilog_source.specs.Places.{Event, Step, events_of, step}
use Rattle.verilog_source.specs.Places.Event.{begins, has, ends}
use Rattle.verilog_source.specs.Refused.{ends_module, fault_by, is_end, is_full, is_refused, later_faults, module_name, open_line, passes_limit, port_fault, sign_fault, twice_by, unfinished}
use Rattle.verilog_source.specs.declared.faults.VerilogFault.TheVariants.{Limit, ModuleTwice, Syntax}
use Rattle.verilog_tokens.specs.Signs.{Token}
use Rattle.vrt_model.specs.Inputs.{IsBlif, IsModel}
use Rattle.vrt_model.specs.Lists.{has_name}
use Rattle.vrt_model.specs.declared.blif.BlifModel.{BlifModel}

-- ---- a token without a fault

-- each fault at a token is none
pub record NoFault (k : Known) (t : Token) : Type 0 where
  pub refused : is_refused k t ≡ false
  pub twice : twice_by k.modules t.line (module_name k.place t.sign) ≡ None
  pub ended : unfinished (open_line k.line k.place) t.line t.sign ≡ None
  pub limit : (not (is_end t.sign) && passes_limit k t.sign) ≡ false

pub no_fault : (k : Known) (t : Token) → fault_by k t ≡ None → NoFault k t
unfolding fault_by
no_fault k t e =
    let a = none_cons (sign_fault t.line t.sign) (later_faults k t) e in
    let b = none_cons (when (is_refused k t) (Syntax t.line)) _ a.1 in
    let c = none_cons (twice_by k.modules t.line (module_name k.place t.sign)) _ b.1 in
    let d = none_cons (port_fault k.ports k.directions t.line (ends_module k.place t.sign)) _ c.1 in
    let f = none_cons (unfinished (open_line k.line k.place) t.line t.sign) _ d.1 in
    let g = none_cons (when (not (is_end t.sign) && passes_limit k t.sign) (Limit t.line)) [] f.1 in record {
      refused = when_no (is_refused k t) (Syntax t.line) b.0;
      twice = c.0;
      ended = f.0;
      limit = when_no (not (is_end t.sign) && passes_limit k t.sign) (Limit t.line) g.0;
    }

-- a token that is not the end takes a step
pub takes_step : (k : Known) (t : Token) → NoFault k t → is_end t.sign ≡ false → (s : Step) × (step k.place t.line t.sign ≡ Some s)
takes_step k t clear e = by_step (step k.place t.line t.sign) refl where
  by_step : (o : Option Step) → step k.place t.line t.sign ≡ o → (s : Step) × (step k.place t.line t.sign ≡ Some s)
  by_step None h = let c : true ≡ false = sym (ap₂ (λ b o. not b && is_none o) e h) ∙ clear.refused in cc
  by_step (Some s) h = (s, h)

-- ---- one token more

within_limits : (k : Known) (t : Token) → NoFault k t → is_end t.sign ≡ false → passes_limit k t.sign ≡ false
within_limits k t clear e = ap (λ b. not b && passes_limit k t.sign) (sym e) ∙ clear.limit

kept_names : (ms ns : List (List ℕ)) (o : Option (List ℕ)) (line : ℕ) → ms ≡ ns → NoRepeat ns → length ns ≤ 4096 → twice_by ms line o ≡ None → (is_some o && nat_le 4096 (length ms)) ≡ false
    → (with_names ms (option_to_list o) ≡ ns ++ option_to_list o) × (NoRepeat (ns ++ option_to_list o)) × (length (ns ++ option_to_list o) ≤ 4096)
kept_names ms ns None line e apart le twice limit =
    (e ∙ sym (append-nil ns), subst NoRepeat (sym (append-nil ns)) apart, subst (λ xs. length xs ≤ 4096) (sym (append-nil ns)) le)
kept_names ms ns (Some n) line e apart le twice limit =
    let new : has_name ms n ≡ false = when_no (has_name ms n) (ModuleTwice line n) twice in
    let few = length-append ns (n ∷ []) in
    let below : length ms ≤ 4095 = grind (arith, nat_tests, limit) in (
      ap (λ b. cond b ms (ms ++ n ∷ [])) new ∙ ap (λ xs. xs ++ n ∷ []) e,
      no_repeat_end ns n apart (ap (λ xs. has_name xs n) (sym e) ∙ new),
      omega (arith, few, below, ap length e),
    )

pub kept_more : (k : Known) (t : Token) (s : Step) (es : List Event) → IsKept k es → NoFault k t → is_end t.sign ≡ false → step k.place t.line t.sign ≡ Some s → IsKept (learned k t) (es ++ s.events)
kept_more k t s es kept clear end e =
    let now : Known = record k { place = s.place; counts = unwrap_or (counted k.place k.counts t.sign) uncounted } in
    let f : IsFine k.place t.sign s = subst (Fine k.place t.sign) e (fine k.place t.line t.sign) in
    let limits = or_parts (is_some (module_name k.place t.sign) && nat_le 4096 (length k.modules) || is_none (counted k.place k.counts t.sign)) (is_full k.place) (within_limits k t clear end) in
    let first = or_parts (is_some (module_name k.place t.sign) && nat_le 4096 (length k.modules)) (is_none (counted k.place k.counts t.sign)) limits.0 in
    let named = kept_names k.modules (names_told es) (module_name k.place t.sign) t.line kept.names kept.apart kept.limit clear.twice first.0 in
    let all : names_told (es ++ s.events) ≡ names_told es ++ option_to_list (module_name k.place t.sign)
    = flat_map-append name_told es s.events ∙ ap (λ xs. names_told es ++ xs) f.names in
    subst (λ j. IsKept j (es ++ s.events)) (sym (ap (learned_by k t) e)) (record {
      names = more_modules now s.events ∙ ap (λ xs. with_names k.modules xs) f.names ∙ named.0 ∙ sym all;
      apart = subst NoRepeat (sym all) named.1;
      limit = subst (λ xs. length xs ≤ 4096) (sym all) named.2;
      room = subst IsRoomy (sym (same_place now s.events)) (f.room kept.room limits.1);
      fit = All-append IsFitEvent es s.events kept.fit (f.fit kept.room);
    })

pub kept_none : IsKept nothing_known []
kept_none = record { names = refl; apart = tt; limit = omega arith; room = tt; fit = All-nil IsFitEvent }

-- ---- the events of modules

entries_built : (b : Building) (es : List Entry) (later : List Event) → built_from b (map has es ++ later) ≡ built_from (record { modules = b.modules; open_one = with_entries b.open_one es }) later
entries_built b [] later = ap (λ xs. built_from (record { modules = b.modules; open_one = record { line = b.open_one.line; name = b.open_one.name; entries = xs } }) later) (sym (append-nil b.open_one.entries))
entries_built b (e ∷ es) later =
    entries_built (built_on b (has e)) es later
    ∙ ap (λ xs. built_from (record { modules = b.modules; open_one = record { line = b.open_one.line; name = b.open_one.name; entries = xs } }) later) (append_assoc b.open_one.entries (e ∷ []) es)

built_more : (b : Building) (ms : List Module) → (built_from b (events_of ms)).modules ≡ b.modules ++ ms
built_more b [] = sym (append-nil b.modules)
built_more b (m ∷ ms) =
    ap (λ (x : Building). x.modules) (entries_built (built_on b (begins m.line m.name)) m.entries (ends ∷ events_of ms))
    ∙ built_more (record { modules = b.modules ++ m ∷ []; open_one = begun 0 [] }) ms ∙ append_assoc b.modules (m ∷ []) ms

-- they are built
pub all_built : (ms : List Module) → (built (events_of ms)).modules ≡ ms
all_built ms = built_more (record { modules = []; open_one = begun 0 [] }) ms

entries_unnamed : (es : List Entry) (later : List Event) → names_told (map has es ++ later) ≡ names_told later
entries_unnamed [] later = refl
entries_unnamed (e ∷ es) later = entries_unnamed es later

names_of : (ms : List Module) → names_told (events_of ms) ≡ map (λ (m : Module). m.name) ms
names_of [] = refl
names_of (m ∷ ms) = ap (λ xs. m.name ∷ xs) (entries_unnamed m.entries (ends ∷ events_of ms) ∙ names_of ms)

entries_fit : (es : List Entry) (later : List Event) → All IsFitEvent (map has es ++ later) → AreFit es × All IsFitEvent later
entries_fit [] later h = (All-nil IsFitEntry, h)
entries_fit (e ∷ es) later h =
    let rest = entries_fit es later (All-tail IsFitEvent (has e) (map has es ++ later) h) in
    (All-cons IsFitEntry e es (All-head IsFitEvent (has e) (map has es ++ later) h) rest.0, rest.1)

modules_fit : (ms : List Module) → All IsFitEvent (events_of ms) → All (λ (m : Module). IsModel (model_of m)) ms
modules_fit [] h = All-nil (λ (m : Module). IsModel (model_of m))
modules_fit (m ∷ ms) h =
    let inside = entries_fit m.entries (ends ∷ events_of ms) (All-tail IsFitEvent (begins m.line m.name) (map has m.entries ++ ends ∷ events_of ms) h) in
    All-cons (λ (x : Module). IsModel (model_of x)) m ms (model_fits m inside.0) (modules_fit ms (All-tail IsFitEvent ends (events_of ms) inside.1))

same_names : (ms : List Module) → map (λ (b : BlifModel). b.name) (map model_of ms) ≡ map (λ (m : Module). m.name) ms
same_names [] = refl
same_names (m ∷ ms) = ap (λ xs. m.name ∷ xs) (same_names ms)

-- the models of modules whose events are kept
pub blif_fits : (k : Known) (ms : List Module) → IsKept k (events_of ms) → IsBlif (blif_with (map model_of ms))
blif_fits k ms kept =
    let few = length-map ms (λ (m : Module). m.name) in
    let many = length-map ms model_of in record {
      model_limit = omega (arith, few, many, kept.limit, ap length (names_of ms));
      names = apart_by (λ (b : BlifModel). b.name) (map model_of ms) (subst NoRepeat (names_of ms ∙ sym (same_names ms)) kept.apart);
      models = All-map IsModel model_of ms (modules_fit ms kept.fit);
    }
