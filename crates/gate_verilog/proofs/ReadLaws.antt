-- Tokens that are read one by one, and the models that are made of them.
use Rattle.std.proofs.Common.{◌≡◌, ℕ, ◌++◌, ◌∷◌, [], List, true, false, cond, take, map, Option, Some, None, option_map, refl, ap, sym, subst, ◌∙◌}
use Rattle.std.specs.Option.{option_or}
use Rattle.std.specs.Prelude.{unwrap_or}
use Rattle.gate_verilog.specs.Built.{Building, IsBuilding, blif_with, built, built_from, built_on, nothing_built}
use Rattle.gate_verilog.specs.Texts.{IsReadAs}
use Rattle.gate_verilog.specs.Told.{told_by}
use Rattle.gate_verilog.proofs.Kept.{IsKept}
use Rattle.gate_verilog.proofs.KeptLaws.{all_built, blif_fits, kept_more, kept_none, no_fault, takes_step}
use Rattle.gate_verilog.proofs.ToldLaws.{RunsTo, runs_all, runs_more, runs_none, same_place, told_more}
use Rattle.text_lines.specs.Faults.{IsClean, IsFirst}
use Rattle.text_lines.specs.Reading.{IsReading}
use Rattle.text_lines.proofs.ReadLaws.{all_read, begins as reading_begins, card_fails, card_more}
use Rattle.verilog_expression.specs.Limits.{uncounted}
use Rattle.verilog_models.specs.Drafts.{IsDraft, begun}
use Rattle.verilog_models.specs.Models.{model_of}
use Rattle.verilog_models.specs.declared.draft.Draft.{Draft}
use Rattle.verilog_source.specs.Kept.{told_events}
use Rattle.verilog_source.specs.Known.{Known, counted, known_by, learned, learned_by, nothing_known}
use Rattle.verilog_source.specs.Places.{Event, Place, Step, step}
use Rattle.verilog_source.specs.Places.Place.{Outside, ModuleWord}
use Rattle.verilog_source.specs.Refused.{fault_by, fault_of, is_end, open_line, unfinished}
use Rattle.verilog_source.proofs.KnownLaws.{known_more}
use Rattle.verilog_source.proofs.Sound.{found}
use Rattle.verilog_source.specs.declared.faults.VerilogFault.{VerilogFault}
use Rattle.verilog_source.specs.declared.faults.VerilogFault.TheVariants.{Unfinished}
use Rattle.verilog_tokens.specs.Passed.{Place as TextPlace}
use Rattle.verilog_tokens.specs.Signs.{Sign, Token}
use Rattle.verilog_tokens.specs.Signs.Sign.{End, OpenComment}
use Rattle.verilog_tokens.specs.Tokens.{is_last, tokens_behind, tokens_from}
use Rattle.vrt_model.specs.Inputs.{IsBlif}
use Rattle.vrt_model.specs.declared.blif.BlifModel.{BlifModel}

-- ---- tokens that are left

same_end : (s : Sign) → is_last s ≡ is_end s
same_end End = refl
same_end OpenComment = refl
same_end _ = refl

-- behind a token that is not the end the others are left
pub some_left : (t : Token) (p : TextPlace) → is_end t.sign ≡ false → tokens_behind t p ≡ tokens_from p
some_left t p e = ap (λ b. cond b [] (tokens_from p)) (same_end t.sign ∙ e)

pub none_left : (t : Token) (p : TextPlace) → is_end t.sign ≡ true → tokens_behind t p ≡ []
none_left t p e = ap (λ b. cond b [] (tokens_from p)) (same_end t.sign ∙ e)

-- ---- tokens that are read

-- what is made of the tokens so far is what they tell, they go on, and what is to hold of their modules does
pub record IsSoFar (models : List BlifModel) (draft : Draft) (read : List Token) : Type 0 where
  pub building : IsBuilding (built (told_by read)) models draft
  pub runs : RunsTo read (known_by read).place (told_by read)
  pub kept : IsKept (known_by read) (told_by read)

abbrev pub Reads : List Token → List Token → Known → List BlifModel → Draft → Type 0
Reads tokens left known models draft = IsReading known_by fault_of (IsSoFar models draft) tokens left known

built_join : (b : Building) (es fs : List Event) → built_from b (es ++ fs) ≡ built_from (built_from b es) fs
built_join b [] fs = refl
built_join b (e ∷ es) fs = built_join (built_on b e) es fs

-- the models with what one token more tells
abbrev pub MakesMore : Known → Token → List BlifModel → Draft → List BlifModel → Draft → Type 0
MakesMore k t models draft new_models new_draft =
    (b : Building) → IsBuilding b models draft → IsBuilding (built_from b (told_events (step k.place t.line t.sign))) new_models new_draft

so_far_more : (read : List Token) (t : Token) (models new_models : List BlifModel) (draft new_draft : Draft) → IsSoFar models draft read → fault_by (known_by read) t ≡ None → is_end t.sign ≡ false
    → MakesMore (known_by read) t models draft new_models new_draft → IsSoFar new_models new_draft (read ++ t ∷ [])
so_far_more read t models new_models draft new_draft h none no_end makes =
    let k = known_by read in
    let clear = no_fault k t none in
    let x = takes_step k t clear no_end in
    let s : Step = x.0 in
    let now : Known = record k { place = s.place; counts = unwrap_or (counted k.place k.counts t.sign) uncounted } in
    let told : told_by (read ++ t ∷ []) ≡ told_by read ++ s.events = told_more read t ∙ ap (λ o. told_by read ++ told_events o) x.1 in
    let known : known_by (read ++ t ∷ []) ≡ learned_by k t (Some s) = known_more read t ∙ ap (learned_by k t) x.1 in
    let to_place : (known_by (read ++ t ∷ [])).place ≡ s.place = ap (λ (j : Known). j.place) known ∙ same_place now s.events in record {
      building = subst (λ b. IsBuilding b new_models new_draft)
          (sym (built_join nothing_built (told_by read) (told_events (step k.place t.line t.sign))) ∙ ap built (sym (told_more read t))) (makes (built (told_by read)) h.building);
      runs = subst (λ p. RunsTo (read ++ t ∷ []) p (told_by (read ++ t ∷ []))) (sym to_place)
          (subst (λ es. RunsTo (read ++ t ∷ []) s.place es) (sym told) (runs_more read t k.place s (told_by read) h.runs x.1));
      kept = subst (λ j. IsKept j (told_by (read ++ t ∷ []))) (sym (known_more read t))
          (subst (IsKept (learned k t)) (sym told) (kept_more k t s (told_by read) h.kept clear no_end x.1));
    }

-- nothing is read at first
pub reads_none : (tokens left : List Token) (known : Known) (models : List BlifModel) (draft : Draft) → left ≡ tokens → known ≡ nothing_known → models ≡ [] → IsDraft (begun 0 []) draft
    → Reads tokens left known models draft
unfolding known_by told_by
reads_none tokens left known models draft all e none d =
    reading_begins known_by fault_of (IsSoFar models draft) tokens left known all e (record { building = record { ended = none; drafted = d }; runs = runs_none; kept = kept_none })

-- one token more
pub reads_token : (tokens left rest : List Token) (known next : Known) (t : Token) (models new_models : List BlifModel) (draft new_draft : Draft) → Reads tokens left known models draft
    → left ≡ t ∷ rest → fault_by known t ≡ None → next ≡ learned known t → is_end t.sign ≡ false → MakesMore known t models draft new_models new_draft
    → Reads tokens rest next new_models new_draft
reads_token tokens left rest known next t models new_models draft new_draft r is none e no_end makes =
    let read = take r.place tokens in
    let good : fault_by (known_by read) t ≡ None = ap (λ k. fault_by k t) (sym r.tells) ∙ none in
    card_more known_by fault_of (IsSoFar models draft) (IsSoFar new_models new_draft) tokens left rest known next t r is good (e ∙ ap (λ k. learned k t) r.tells ∙ sym (known_more read t))
    (so_far_more read t models new_models draft new_draft r.holds good no_end (subst (λ k. MakesMore k t models draft new_models new_draft) r.tells makes))

-- a token with a fault
pub reads_fault : (tokens left rest : List Token) (known : Known) (t : Token) (models : List BlifModel) (draft : Draft) (f : VerilogFault) → Reads tokens left known models draft → left ≡ t ∷ rest
    → fault_by known t ≡ Some f → IsFirst fault_of tokens f
reads_fault tokens left rest known t models draft f r is e =
    card_fails known_by fault_of (IsSoFar models draft) tokens left rest known t f r is (ap (λ k. fault_by k t) (sym r.tells) ∙ e)

-- ---- the end of the text

outside : (line : ℕ) (p : Place) → option_map Unfinished (open_line line p) ≡ None → p ≡ Outside
outside line Outside e = refl
outside line (ModuleWord l) e = cc
outside line _ e = cc

some_or : (o : Option VerilogFault) (f : VerilogFault) → option_or o (Some f) ≡ None → ⊥
some_or None f e = cc
some_or (Some g) f e = cc

-- it comes outside of all modules, and in no comment
ends_outside : (line l : ℕ) (p : Place) (s : Sign) → is_end s ≡ true → unfinished (open_line line p) l s ≡ None → (p ≡ Outside) × (s ≡ End)
ends_outside line l p End h e = (outside line p e, refl)
ends_outside line l p OpenComment h e = absurd (some_or _ _ e)
ends_outside line l p _ h e = cc

-- what is known at the end
pub record IsWhole (tokens : List Token) (models : List BlifModel) : Type 0 where
  pub clean : IsClean fault_of tokens
  pub read : IsReadAs tokens (blif_with models)
  pub fit : IsBlif (blif_with models)

pub reads_end : (tokens left : List Token) (known : Known) (t : Token) (models : List BlifModel) (draft : Draft) → Reads tokens left known models draft → left ≡ t ∷ [] → fault_by known t ≡ None
    → is_end t.sign ≡ true → IsWhole tokens models
reads_end tokens left known t models draft r is none end =
    let read = take r.place tokens in
    let k = known_by read in
    let good : fault_by k t ≡ None = ap (λ j. fault_by j t) (sym r.tells) ∙ none in
    let all = all_read known_by fault_of (λ ts. ts ≡ read ++ t ∷ []) tokens (known_by (read ++ t ∷ []))
    (card_more known_by fault_of (IsSoFar models draft) (λ ts. ts ≡ read ++ t ∷ []) tokens left [] known (known_by (read ++ t ∷ [])) t r is good refl refl) in
    let clear = no_fault k t good in
    let at_end = ends_outside k.line t.line k.place t.sign end clear.ended in
    let tells = found read (told_by read) (runs_all read k.place (told_by read) r.holds.runs at_end.0) in
    let same : models ≡ map model_of tells.modules
    = r.holds.building.ended ∙ ap (λ es. map model_of (built es).modules) tells.is ∙ ap (map model_of) (all_built tells.modules) in record {
      clean = all.0;
      read = record { front = read; last = t; modules = tells.modules; are = all.2; ends = at_end.1; source = tells.are; models = ap blif_with same };
      fit = subst (λ ms. IsBlif (blif_with ms)) (sym same) (blif_fits k tells.modules (subst (IsKept k) tells.is r.holds.kept));
    }
