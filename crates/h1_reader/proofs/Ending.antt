-- A reader that goes past a response ends with its last octet.
use Rattle.std.proofs.Common.{◌≡◌, ℕ, ◌+◌, ◌-◌, suc, zero, Bool, false, List, [], ◌∷◌, ◌++◌, length, take, drop, refl, sym, ap, ◌∙◌, subst, append_assoc, length-append, inl, inr, arith}
use Rattle.std.specs.Prelude.{◌≢◌, ◌⊎◌, Result, Ok, Err, IfOk, OnOk}
use Rattle.std.specs.List.{concat}
use Rattle.std.proofs.lemmas.List.{append-nil, take_all, take-append-drop}
use Rattle.std.proofs.lemmas.Bool.{cases_lt}
use Rattle.std.proofs.Math.Seq.{take-append_seam}
use Rattle.model.specs.Messages.{Field}
use Rattle.model.specs.ResponseHeads as model
use Rattle.model.specs.ResponseHeads.Framing.{Bodiless as IsBodiless, Chunks as IsChunks, Sized as IsSized, UntilEnd as IsUntilEnd}
use Rattle.model.specs.Responses.{HasBody, Chunked, IsComplete}
use Rattle.model.proofs.PastLaws.{IsJustBody, no_shorter, complete_past}
use Rattle.response_texts.specs.Trailers.{ArePassed}
use Rattle.response_texts.specs.Framings.{framing_view}
use Rattle.response_texts.specs.declared.fault.ResponseFault.{ResponseFault}
use Rattle.response_texts.specs.declared.framing.Framing.{Framing}
use Rattle.response_texts.specs.declared.framing.Framing.TheVariants as ways
use Rattle.h1_reader.specs.Parts.{Part}
use Rattle.h1_reader.specs.Parts.Part.{Body, Final}
use Rattle.h1_reader.specs.Standing.{Held, names_held, State, InBody, StandsAt, Stands, Hears}
use Rattle.h1_reader.specs.Begins.{place_behind}
use Rattle.h1_reader.specs.GoesOn.{GoesOn}
use Rattle.h1_reader.specs.Faults.{FaultStands, Fails}
use Rattle.h1_reader.specs.Uses.{NoneShorter, Uses, Ends, IsUsed}
use Rattle.h1_reader.specs.Keeps.{Knows, Learns}
use Rattle.h1_reader.specs.declared.reader.Place.{Place}
use Rattle.h1_reader.specs.declared.reader.Place.TheVariants.{Head, Sized, UntilEnd, Line, Chunk, ChunkEnd, ChunkReturn, Trailers, Past, Broken}
use Rattle.h1_reader.proofs.Steps.{at, body_step, final_step, hears_then, hears_past}
use Rattle.h1_reader.proofs.ChunkSteps.{chunked_on}
use Rattle.h1_reader.proofs.ChunkEnds.{line_short, chunk_short, end_short, trailers_short, no_octets, one_octet}
use Rattle.h1_reader.proofs.Ends.{head_short, sized_short, past_complete}
use Rattle.h1_reader.proofs.Telling.{rest_short}
use Rattle.h1_reader.proofs.KeepSteps.{learns_none, learns_then, learns_past}
use Rattle.h1_reader.proofs.Joining.{goes_nowhere, goes_then}

-- ---- the last octet of a response

-- behind its head just the text of a body
just_none : (to_head : Bool) (framing : model.Framing) (text rest octets : List ℕ) (trailers : List Field) (parts ends : List Part)
    → InBody to_head framing text rest octets parts ends → HasBody framing false rest octets trailers → IsJustBody framing rest octets trailers → NoneShorter text to_head
just_none to_head framing text rest octets trailers parts ends b w just front strict c =
    no_shorter text front to_head (record { interims = b.interims; head = b.head; body = octets; trailers = trailers })
    (record { front = b.front; head_text = b.head_text; rest = rest; framing = framing; is = b.is; are_interims = b.are_interims; few_interims = b.few; is_final = b.is_final; body = w })
    just strict c

pub ends_sized : (old new : State) (left : ℕ) (xs : List ℕ) → old.place ≡ Sized left → length xs ≡ left → Ends old xs new
ends_sized old new left xs e all past text before s =
    let b = at (Sized left) old text before e s in
    let sum : length b.octets + left ≡ b.count = b.has_count in
    let longer : length (b.octets ++ xs) ≡ length b.octets + length xs = length-append b.octets xs in
    let counted : length (b.octets ++ xs) ≡ b.count = omega arith in
    just_none old.to_head (IsSized b.count) (text ++ xs) (b.octets ++ xs) (b.octets ++ xs) [] (before ++ Body xs ∷ []) []
    (body_step old.to_head (IsSized b.count) text b.octets b.octets xs before b.body)
    (record { past = []; is = sym (append-nil (b.octets ++ xs)); has_count = counted }, refl) counted

pub ends_trailers : (old new : State) (xs : List ℕ) (trailers : List Field) → old.place ≡ Trailers → ArePassed (names_held old.held) (old.held.octets ++ xs) trailers → Ends old xs new
ends_trailers old new xs trailers e are past text before s =
    let b = at Trailers old text before e s in
    let on = chunked_on old.to_head (b.line ++ old.held.octets) [] text xs before b.chunked in
    let whole : Chunked (names_held old.held) (on.front ++ ((b.line ++ old.held.octets) ++ xs)) (concat on.chunks ++ []) trailers = record {
      chunks = on.chunks;
      front = on.front;
      line = b.line;
      section = old.held.octets ++ xs;
      past = [];
      is = regrouped on.front b.line old.held.octets xs;
      are_chunks = on.are_chunks;
      is_last = b.is_last;
      are_trailers = are.are;
      is_body = append-nil (concat on.chunks);
      passes = are.is;
    } in
    just_none old.to_head (IsChunks (names_held old.held)) (text ++ xs) (on.front ++ ((b.line ++ old.held.octets) ++ xs)) (concat on.chunks ++ []) trailers before [] on.body whole (whole, refl)
  where
    regrouped : (front line held xs : List ℕ) → front ++ ((line ++ held) ++ xs) ≡ front ++ line ++ (held ++ xs) ++ []
    regrouped front line held xs = simp (append_assoc, append-nil)

none_behind : (framing : Framing) (named : List (List ℕ)) (to_head : Bool) (text : List ℕ) (parts : List Part) → InBody to_head (framing_view named framing) text [] [] parts [] → place_behind framing ≡ Past → NoneShorter text to_head
none_behind ways.Bodiless named to_head text parts b e = just_none to_head IsBodiless text [] [] [] parts [] b (refl, refl) refl
none_behind ways.Chunks named to_head text parts b e = absurd cc
none_behind (ways.Sized zero) named to_head text parts b e = just_none to_head (IsSized 0) text [] [] [] parts [] b (record { past = []; is = refl; has_count = refl }, refl) refl
none_behind (ways.Sized (suc count)) named to_head text parts b e = absurd cc
none_behind ways.UntilEnd named to_head text parts b e = absurd cc

pub ends_final : (old new : State) (count : ℕ) (xs : List ℕ) (head : model.Head) (framing : Framing) (named : List (List ℕ)) → old.place ≡ Head count
    → model.Final old.to_head (old.held.octets ++ xs) head (framing_view named framing) → new.place ≡ place_behind framing → Ends old xs new
ends_final old new count xs head framing named e p there past text before s =
    none_behind framing named old.to_head (text ++ xs) (before ++ Final head ∷ [])
    (final_step old count xs text before head (framing_view named framing) p (at (Head count) old text before e s)) (sym there ∙ past)

-- ---- one step after another

pub ends_not : (old new : State) (xs : List ℕ) → new.place ≢ Past → Ends old xs new
ends_not old new xs never past = absurd (never past)

-- where one octet is taken
pub first_ends : (old new : State) (octets : List ℕ) (result : Result ℕ ResponseFault) → OnOk result (new.place ≢ Past) → IfOk result (λ used. Ends old (take used octets) new)
first_ends old new octets (Ok used) never = ends_not old new (take used octets) never
first_ends old new octets (Err f) never = tt

pub ends_then : (a b c : State) (p q : List Part) (xs ys : List ℕ) → p ≡ [] → GoesOn a p xs b q → Ends b ys c → Ends a (xs ++ ys) c
ends_then a b c p q xs ys nothing h k past text before s =
    let from : before ≡ before ++ p = sym (append-nil before) ∙ ap (λ (o : List Part). before ++ o) (sym nothing) in
    let there : NoneShorter ((text ++ xs) ++ ys) b.to_head = k past (text ++ xs) (before ++ q) (h.stands text before (subst (λ (o : List Part). Stands text o a) from s)) in
    subst (λ (o : List ℕ). NoneShorter o a.to_head) (append_assoc text xs ys) (subst (λ (t : Bool). NoneShorter ((text ++ xs) ++ ys) t) h.same there)

-- ---- all that is used

-- no response is whole but behind its end
short_at : (place : Place) (to_head : Bool) (held : Held) (text : List ℕ) (parts : List Part) → place ≢ Past → StandsAt place to_head held text parts → IsComplete text false to_head → ⊥
short_at (Head count) to_head held text parts never b w = head_short false to_head count held.octets text parts b w
short_at (Sized left) to_head held text parts never b w = sized_short false to_head left text parts b w
short_at (Line line) to_head held text parts never b w = line_short false to_head line text parts b w
short_at (Chunk left) to_head held text parts never b w = chunk_short false to_head left text parts b w
short_at ChunkEnd to_head held text parts never b w = end_short false to_head [] text parts no_octets b w
short_at ChunkReturn to_head held text parts never b w = end_short false to_head (13 ∷ []) text parts one_octet b w
short_at Trailers to_head held text parts never b w = trailers_short false to_head held.octets text parts b w
short_at UntilEnd to_head held text parts never b w = rest_short to_head text parts b w
short_at Past to_head held text parts never b w = never refl
short_at (Broken fault) to_head held text parts never b w = b

-- where the text is no whole response, none of its fronts is one
short_none : (text : List ℕ) (to_head : Bool) → (IsComplete text false to_head → ⊥) → NoneShorter text to_head
short_none text to_head short front strict w =
    short (subst (λ (o : List ℕ). IsComplete o false to_head) (sym strict.is) (complete_past front (strict.next ∷ strict.rest) false to_head w))

none_at : (place : Place) (to_head : Bool) (held : Held) (text : List ℕ) (parts : List Part) → (place ≡ Past → NoneShorter text to_head) → StandsAt place to_head held text parts → NoneShorter text to_head
none_at (Head count) to_head held text parts ends b = short_none text to_head (short_at (Head count) to_head held text parts (λ e. cc) b)
none_at (Sized left) to_head held text parts ends b = short_none text to_head (short_at (Sized left) to_head held text parts (λ e. cc) b)
none_at (Line line) to_head held text parts ends b = short_none text to_head (short_at (Line line) to_head held text parts (λ e. cc) b)
none_at (Chunk left) to_head held text parts ends b = short_none text to_head (short_at (Chunk left) to_head held text parts (λ e. cc) b)
none_at ChunkEnd to_head held text parts ends b = short_none text to_head (short_at ChunkEnd to_head held text parts (λ e. cc) b)
none_at ChunkReturn to_head held text parts ends b = short_none text to_head (short_at ChunkReturn to_head held text parts (λ e. cc) b)
none_at Trailers to_head held text parts ends b = short_none text to_head (short_at Trailers to_head held text parts (λ e. cc) b)
none_at UntilEnd to_head held text parts ends b = short_none text to_head (short_at UntilEnd to_head held text parts (λ e. cc) b)
none_at Past to_head held text parts ends b = ends refl
none_at (Broken fault) to_head held text parts ends b = absurd b

-- a reader that wasn't past a response used so many octets
pub uses : (old new : State) (octets : List ℕ) (used : ℕ) (added : List Part) → old.place ≢ Past → Hears old (take used octets) added new → IsUsed old octets used new → Uses old octets used
uses old new octets used added never h u = record {
  within = u.within;
  whole = λ less text before s. record {
    not_before = short_at old.place old.to_head old.held text before never s;
    is_whole = subst (λ (t : Bool). IsComplete (text ++ take used octets) false t) h.same
        (past_complete false new.to_head (text ++ take used octets) (before ++ added) (at Past new (text ++ take used octets) (before ++ added) (u.past less) (h.stands text before s)));
  };
  no_shorter = λ text before s short.
      let there : Stands (text ++ take used octets) (before ++ added) new = h.stands text before s in
      let ends : new.place ≡ Past → NoneShorter (text ++ take used octets) new.to_head = λ past. subst (λ (t : Bool). NoneShorter (text ++ take used octets) t) (sym h.same) (u.ends past text before s) in
      subst (λ (t : Bool). NoneShorter (text ++ take used octets) t) h.same
      (none_at new.place new.to_head new.held (text ++ take used octets) (before ++ added) ends there);
}

-- so where it answers
pub uses_told : (old new : State) (octets : List ℕ) (before after : List Part) (result : Result ℕ ResponseFault) → old.place ≢ Past
    → IfOk result (λ used. (added : List Part) × (after ≡ before ++ added) × Hears old (take used octets) added new) → IfOk result (λ used. IsUsed old octets used new) → IfOk result (λ used. Uses old octets used)
uses_told old new octets before after (Ok used) never h u = uses old new octets used h.0 never h.2 u
uses_told old new octets before after (Err f) never h u = tt

-- a reader past a response uses all
pub uses_past : (old : State) (octets : List ℕ) → old.place ≡ Past → Uses old octets (length octets)
uses_past old octets e = record {
  within = omega arith;
  whole = λ less. absurd (omega arith);
  no_shorter = λ text before s short. absurd (short (past_complete false old.to_head text before (at Past old text before e s)));
}

-- ---- the loop

-- so many octets were taken of all, and the response ends with none but the last of them
pub record GoneTo (old : State) (said : List Part) (octets rest : List ℕ) (new : State) (says : List Part) : Type 0 where
  pub taken : List ℕ
  pub is : octets ≡ taken ++ rest
  pub goes : GoesOn old said taken new says
  pub ends : Ends old taken new
  pub learns : Learns old taken new

pub to_none : (a : State) (said : List Part) (octets : List ℕ) → a.place ≢ Past → GoneTo a said octets octets a said
to_none a said octets never = record { taken = []; is = refl; goes = goes_nowhere a said; ends = ends_not a a [] never; learns = learns_none a }

pub to_more : (a b c : State) (p q r : List Part) (octets rest : List ℕ) (used : ℕ) → p ≡ [] → GoneTo a p octets rest b q → GoesOn b q (take used rest) c r → Ends b (take used rest) c → Learns b (take used rest) c → GoneTo a p octets (drop used rest) c r
to_more a b c p q r octets rest used nothing g h k l = record {
  taken = g.taken ++ take used rest;
  is = g.is ∙ ap (λ (o : List ℕ). g.taken ++ o) (sym (take-append-drop used rest)) ∙ sym (append_assoc g.taken (take used rest) (drop used rest));
  goes = goes_then a b c p q r g.taken (take used rest) g.goes h;
  ends = ends_then a b c p q g.taken (take used rest) nothing g.goes k;
  learns = learns_then a b c p q g.taken (take used rest) nothing g.goes g.learns l;
}

pub to_fails : (a b : State) (p q : List Part) (f : ResponseFault) (octets rest : List ℕ) → p ≡ [] → GoneTo a p octets rest b q → Fails b rest f → Fails a octets f
to_fails a b p q f octets rest nothing g h text before s =
    let from : before ≡ before ++ p = sym (append-nil before) ∙ ap (λ (o : List Part). before ++ o) (sym nothing) in
    let there : FaultStands f ((text ++ g.taken) ++ rest) b.to_head = h (text ++ g.taken) (before ++ q) (g.goes.stands text before (subst (λ (o : List Part). Stands text o a) from s)) in
    let whole : (text ++ g.taken) ++ rest ≡ text ++ octets = append_assoc text g.taken rest ∙ ap (λ (o : List ℕ). text ++ o) (sym g.is) in
    subst (λ (o : List ℕ). FaultStands f o a.to_head) whole (subst (λ (t : Bool). FaultStands f ((text ++ g.taken) ++ rest) t) g.goes.same there)

-- the octets that were taken are those in front
taken_is : (octets taken rest : List ℕ) → octets ≡ taken ++ rest → taken ≡ take (length octets - length rest) octets
taken_is octets taken rest e =
    let lengths : length octets ≡ length taken + length rest = ap length e ∙ length-append taken rest in
    let count : length octets - length rest ≡ length taken = omega arith in
    sym (ap (λ n. take n octets) count ∙ ap (λ (o : List ℕ). take (length taken) o) e ∙ take-append_seam taken rest)

pub to_goes : (a b : State) (p q : List Part) (octets rest : List ℕ) → GoneTo a p octets rest b q → GoesOn a p (take (length octets - length rest) octets) b q
to_goes a b p q octets rest g = subst (λ (o : List ℕ). GoesOn a p o b q) (taken_is octets g.taken rest g.is) g.goes

pub to_learns : (a b : State) (p q : List Part) (octets rest : List ℕ) → GoneTo a p octets rest b q → Learns a (take (length octets - length rest) octets) b
to_learns a b p q octets rest g = subst (λ (o : List ℕ). Learns a o b) (taken_is octets g.taken rest g.is) g.learns

pub to_used : (a b : State) (p q : List Part) (octets rest : List ℕ) → GoneTo a p octets rest b q → (b.place ≡ Past) ⊎ (length rest ≡ 0) → IsUsed a octets (length octets - length rest) b
to_used a b p q octets rest g (inl past) = record {
  within = omega arith;
  past = λ less. past;
  ends = subst (λ (o : List ℕ). Ends a o b) (taken_is octets g.taken rest g.is) g.ends;
}
to_used a b p q octets rest g (inr none) = record {
  within = omega arith;
  past = λ less. absurd (omega arith);
  ends = subst (λ (o : List ℕ). Ends a o b) (taken_is octets g.taken rest g.is) g.ends;
}

-- ---- all octets

-- what isn't used stands behind the whole response
pub hears_all : (old new : State) (octets : List ℕ) (added : List Part) (used : ℕ) → IsUsed old octets used new → Hears old (take used octets) added new → Hears old octets added new
hears_all old new octets added used u h = elim (cases_lt used (length octets)) [
  | inl less ↦ subst (λ (o : List ℕ). Hears old o added new) (take-append-drop used octets)
      (subst (λ (p : List Part). Hears old (take used octets ++ drop used octets) p new) (append-nil added)
      (hears_then old new new (take used octets) (drop used octets) added [] h (hears_past new (drop used octets) (u.past less))))
  | inr all ↦ subst (λ (o : List ℕ). Hears old o added new) (take_all used octets all) h
]

learns_all : (old new : State) (octets : List ℕ) (added : List Part) (used : ℕ) → IsUsed old octets used new → Hears old (take used octets) added new → Learns old (take used octets) new → Learns old octets new
learns_all old new octets added used u h l = elim (cases_lt used (length octets)) [
  | inl less ↦ λ text before s k.
      subst (λ (o : List ℕ). Knows o new) (append_assoc text (take used octets) (drop used octets) ∙ ap (λ (o : List ℕ). text ++ o) (take-append-drop used octets))
      (learns_past new (drop used octets) (u.past less) (text ++ take used octets) (before ++ added) (h.stands text before s) (l text before s k))
  | inr all ↦ subst (λ (o : List ℕ). Learns old o new) (take_all used octets all) l
]

pub all_told : (old new : State) (octets : List ℕ) (was is : List Part) (result : Result ℕ ResponseFault) → IfOk result (λ used. (added : List Part) × (is ≡ was ++ added) × Hears old (take used octets) added new)
    → IfOk result (λ used. IsUsed old octets used new) → IfOk result (λ used. (added : List Part) × (is ≡ was ++ added) × Hears old octets added new × Hears old (take used octets) added new)
all_told old new octets was is (Ok used) told u = (told.0, told.1, hears_all old new octets told.0 used u told.2, told.2)
all_told old new octets was is (Err f) told u = tt

pub all_learnt : (old new : State) (octets : List ℕ) (was is : List Part) (result : Result ℕ ResponseFault) → IfOk result (λ used. (added : List Part) × (is ≡ was ++ added) × Hears old (take used octets) added new)
    → IfOk result (λ used. IsUsed old octets used new) → IfOk result (λ used. Learns old (take used octets) new) → IfOk result (λ used. Learns old octets new × Learns old (take used octets) new)
all_learnt old new octets was is (Ok used) told u learns = (learns_all old new octets told.0 used u told.2 learns, learns)
all_learnt old new octets was is (Err f) told u learns = tt
