-- What a reader knows of the final head.
use Rattle.std.proofs.Common.{◌≡◌, ℕ, ◌<◌, ◌≤◌, Bool, true, false, List, [], ◌∷◌, ◌++◌, length, take, refl, sym, ap, ◌∙◌, subst, append_assoc, arith}
use Rattle.std.specs.Prelude.{◌≢◌, ◌&&◌, not, ◌==◌, Result, Ok, Err, IfOk, OnOk}
use Rattle.std.proofs.lemmas.List.{append-nil}
use Rattle.std.proofs.lemmas.Bool.{eqb-true, eq-eqb}
use Rattle.httparse.specs.Grammar as grammar
use Rattle.httparse.specs.Grammar.{HasNoResponse, ReadsResponse}
use Rattle.model.specs.ResponseHeads as model
use Rattle.model.specs.ResponseHeads.Framing.{Bodiless as IsBodiless, Chunks as IsChunks, Sized as IsSized, UntilEnd as IsUntilEnd}
use Rattle.model.specs.Responses.{Response, H1Response, HasBody}
use Rattle.model.specs.Messages.{Field}
use Rattle.model.specs.Idle.{LeavesOpen}
use Rattle.model.proofs.Http1Runs.{same_rest, one_joined}
use Rattle.model.proofs.ResponseHeadReadings.{one_interim, one_front, one_spelled, none_at_final, none_without_head, spelled_reads}
use Rattle.response_texts.specs.Heads.{says_close}
use Rattle.response_texts.proofs.FrontLemmas.{none_in_nothing, nothing_may_become, nothing_is_short}
use Rattle.response_texts.specs.declared.fault.ResponseFault.{ResponseFault}
use Rattle.h1_reader.specs.Parts.{Part}
use Rattle.h1_reader.specs.Standing.{Held, State, BeforeHead, InBody, StandsAt, Stands, Hears, is_done}
use Rattle.h1_reader.specs.GoesOn.{GoesOn}
use Rattle.h1_reader.specs.Uses.{NoneShorter}
use Rattle.h1_reader.specs.Keeps.{ends_itself, stays_open, HasFinal, Knows, Learns}
use Rattle.h1_reader.specs.declared.reader.Place.{Place}
use Rattle.h1_reader.specs.declared.reader.Place.TheVariants.{Head, Sized, UntilEnd, Line, Chunk, ChunkEnd, ChunkReturn, Trailers, Past, Broken}
use Rattle.h1_reader.proofs.Steps.{at}
use Rattle.h1_reader.proofs.Telling.{whole}

-- ---- one final head

pub record SameHead (text : List ℕ) (to_head : Bool) (more : List ℕ) (h : HasFinal text to_head) (k : HasFinal (text ++ more) to_head) : Type 0 where
  pub spelled : h.is_final.spelled ≡ k.is_final.spelled
  pub framing : h.framing ≡ k.framing

-- what follows brings no other final head
pub one_head : (text : List ℕ) (to_head : Bool) (more : List ℕ) (h : HasFinal text to_head) (k : HasFinal (text ++ more) to_head) → SameHead text to_head more h k
one_head text to_head more h k =
    let whole : (h.front ++ h.head_text) ++ (h.rest ++ more) ≡ (k.front ++ k.head_text) ++ k.rest = sym (append_assoc (h.front ++ h.head_text) h.rest more) ∙ ap (λ (o : List ℕ). o ++ more) (sym h.is) ∙ k.is in
    let same = one_front to_head h.front k.front h.head_text k.head_text (h.rest ++ more) k.rest h.interims k.interims h.head k.head h.framing k.framing h.are_interims k.are_interims h.is_final k.is_final whole in
    let texts : h.head_text ++ [] ≡ k.head_text ++ [] = ap (λ (o : List ℕ). o ++ []) same.final.text in
    record {
      spelled = (one_spelled h.head_text k.head_text [] [] h.is_final.spelled k.is_final.spelled h.is_final.taken.reads k.is_final.taken.reads texts).1;
      framing = same.final.framing;
    }

same_open : (s t : grammar.ResponseHead) (f g : model.Framing) → s ≡ t → f ≡ g → stays_open s f ≡ stays_open t g
same_open s t f g e i = ap (λ (x : grammar.ResponseHead). stays_open x f) e ∙ ap (stays_open t) i

-- ---- where a reader stands

in_body : (to_head : Bool) (framing : model.Framing) (text rest octets : List ℕ) (parts ends : List Part) → InBody to_head framing text rest octets parts ends → HasFinal text to_head
in_body to_head framing text rest octets parts ends b =
    record { interims = b.interims; head = b.head; front = b.front; head_text = b.head_text; rest = rest; framing = framing; is = b.is; are_interims = b.are_interims; is_final = b.is_final }

-- behind a final head one stands in the text
final_at : (place : Place) (to_head : Bool) (held : Held) (text : List ℕ) (parts : List Part) → ((count : ℕ) → place ≢ Head count) → StandsAt place to_head held text parts → HasFinal text to_head
final_at (Head count) to_head held text parts behind b = absurd (behind count refl)
final_at (Sized left) to_head held text parts behind b = in_body to_head (IsSized b.count) text b.octets b.octets parts [] b.body
final_at UntilEnd to_head held text parts behind b = in_body to_head IsUntilEnd text b.octets b.octets parts [] b.body
final_at (Line line) to_head held text parts behind b = in_body to_head _ text _ _ parts [] b.chunked.body
final_at (Chunk left) to_head held text parts behind b = in_body to_head _ text _ _ parts [] b.chunked.body
final_at ChunkEnd to_head held text parts behind b = in_body to_head _ text _ _ parts [] b.chunked.body
final_at ChunkReturn to_head held text parts behind b = in_body to_head _ text _ _ parts [] b.chunked.body
final_at Trailers to_head held text parts behind b = in_body to_head _ text _ _ parts [] b.chunked.body
final_at Past to_head held text parts behind b = in_body to_head b.framing text b.rest b.octets parts _ b.body
final_at (Broken fault) to_head held text parts behind b = absurd b

-- before a head ends there is no final one
no_final : (to_head : Bool) (count : ℕ) (held text : List ℕ) (parts : List Part) → BeforeHead count held text parts → HasFinal text to_head → ⊥
no_final to_head count held text parts b p =
    let same : b.front ++ held ≡ p.front ++ (p.head_text ++ p.rest) = sym b.is ∙ p.is ∙ append_assoc p.front p.head_text p.rest in
    let fronts = one_joined model.Interim one_interim b.front p.front held (p.head_text ++ p.rest) b.interims p.interims b.are_interims p.are_interims
    (none_without_head held b.no_head) (none_at_final to_head p.head_text p.rest p.head p.framing p.is_final) same in
    let rests = same_rest b.front p.front held (p.head_text ++ p.rest) fronts.0 same in
    b.no_head p.is_final.spelled p.rest
    (subst (λ (o : List ℕ). ReadsResponse o p.is_final.spelled p.rest) (sym rests) (spelled_reads p.head_text p.rest p.is_final.spelled p.is_final.taken.reads))

-- ---- steps

abbrev final_on : (text more : List ℕ) (to_head : Bool) → HasFinal text to_head → HasFinal (text ++ more) to_head
final_on text more to_head h = record {
  interims = h.interims;
  head = h.head;
  front = h.front;
  head_text = h.head_text;
  rest = h.rest ++ more;
  framing = h.framing;
  is = ap (λ (o : List ℕ). o ++ more) h.is ∙ append_assoc (h.front ++ h.head_text) h.rest more;
  are_interims = h.are_interims;
  is_final = h.is_final;
}

-- a head is the same for the same kind of request
moved : (text : List ℕ) (a b : Bool) (h : HasFinal text a) → a ≡ b → (m : HasFinal text b) × (stays_open m.is_final.spelled m.framing ≡ stays_open h.is_final.spelled h.framing)
moved text a b h e = subst (λ (t : Bool). (m : HasFinal text t) × (stays_open m.is_final.spelled m.framing ≡ stays_open h.is_final.spelled h.framing)) e (h, refl)

-- a state knows where its flag is that of a head
knows_of : (text : List ℕ) (state : State) (to_head : Bool) (h : HasFinal text to_head) → state.to_head ≡ to_head → state.held.keeps ≡ stays_open h.is_final.spelled h.framing → Knows text state
knows_of text state to_head h e is =
    let mine = moved text to_head state.to_head h (sym e) in
    record {
      final = λ k.
          let same = one_head text state.to_head [] mine.0 (final_on text [] state.to_head k) in
          is ∙ sym mine.1 ∙ same_open mine.0.is_final.spelled k.is_final.spelled mine.0.framing k.framing same.spelled same.framing;
      none = λ never. absurd (never mine.0);
    }

-- behind a final head no octets change what is known
pub learns_behind : (old new : State) (xs : List ℕ) → ((count : ℕ) → old.place ≢ Head count) → new.to_head ≡ old.to_head → new.held.keeps ≡ old.held.keeps → Learns old xs new
learns_behind old new xs behind same kept text before s k =
    let h = final_at old.place old.to_head old.held text before behind s in
    knows_of (text ++ xs) new old.to_head (final_on text xs old.to_head h) same (kept ∙ k.final h)

-- as behind a whole response
pub learns_past : (state : State) (xs : List ℕ) → state.place ≡ Past → Learns state xs state
learns_past state xs past = learns_behind state state xs (λ count head. let clash : Past ≡ Head count = sym past ∙ head in cc) refl refl

-- where no final head is there behind them either
pub learns_before : (old new : State) (count next : ℕ) (xs : List ℕ) (added : List Part) → old.place ≡ Head count → new.place ≡ Head next → Hears old xs added new → new.held.keeps ≡ old.held.keeps → Learns old xs new
learns_before old new count next xs added e there h kept text before s k =
    let never : HasFinal (text ++ xs) new.to_head → ⊥ = no_final new.to_head next new.held.octets (text ++ xs) (before ++ added) (at (Head next) new (text ++ xs) (before ++ added) there (h.stands text before s)) in
    record {
      final = λ f. absurd (never f);
      none = λ _. kept ∙ k.none (no_final old.to_head count old.held.octets text before (at (Head count) old text before e s));
    }

-- with the final head
pub learns_final : (old new : State) (count : ℕ) (xs : List ℕ) (head : model.Head) (framing : model.Framing) → old.place ≡ Head count → (p : model.Final old.to_head (old.held.octets ++ xs) head framing)
    → new.to_head ≡ old.to_head → new.held.keeps ≡ stays_open p.spelled framing → Learns old xs new
learns_final old new count xs head framing e p same is text before s k =
    let b = at (Head count) old text before e s in
    let h : HasFinal (text ++ xs) old.to_head = record {
      interims = b.interims;
      head = head;
      front = b.front;
      head_text = old.held.octets ++ xs;
      rest = [];
      framing = framing;
      is = ap (λ (o : List ℕ). o ++ xs) b.is ∙ append_assoc b.front old.held.octets xs ∙ sym (append-nil (b.front ++ (old.held.octets ++ xs)));
      are_interims = b.are_interims;
      is_final = p;
    } in
    knows_of (text ++ xs) new old.to_head h same is

pub learns_then : (a b c : State) (p q : List Part) (xs ys : List ℕ) → p ≡ [] → GoesOn a p xs b q → Learns a xs b → Learns b ys c → Learns a (xs ++ ys) c
learns_then a b c p q xs ys nothing h l m text before s k =
    let from : before ≡ before ++ p = sym (append-nil before) ∙ ap (λ (o : List Part). before ++ o) (sym nothing) in
    let there = h.stands text before (subst (λ (o : List Part). Stands text o a) from s) in
    subst (λ (o : List ℕ). Knows o c) (append_assoc text xs ys) (m (text ++ xs) (before ++ q) there (l text before s k))

pub learns_none : (a : State) → Learns a [] a
learns_none a text before s k = subst (λ (o : List ℕ). Knows o a) (sym (append-nil text)) k

-- so where a step tells how it goes on
pub steps_learn : (old new : State) (said says : List Part) (octets : List ℕ) (result : Result ℕ ResponseFault) → ((count : ℕ) → old.place ≢ Head count)
    → IfOk result (λ used. (0 < used) × (used ≤ length octets) × GoesOn old said (take used octets) new says) → OnOk result (new.held.keeps ≡ old.held.keeps) → IfOk result (λ used. Learns old (take used octets) new)
steps_learn old new said says octets (Ok used) behind goes kept = learns_behind old new (take used octets) behind goes.2.same kept
steps_learn old new said says octets (Err f) behind goes kept = tt

pub octet_learns : (old new : State) (octet : ℕ) (octets : List ℕ) (result : Result ℕ ResponseFault) → ((count : ℕ) → old.place ≢ Head count)
    → IfOk result (λ used. (used ≡ 1) × Hears old (octet ∷ []) [] new) → OnOk result (new.held.keeps ≡ old.held.keeps) → IfOk result (λ used. Learns old (take used octets) new)
octet_learns old new octet octets (Ok used) behind hears kept = learns_behind old new (take used octets) behind hears.1.same kept
octet_learns old new octet octets (Err f) behind hears kept = tt

-- ---- a new reader

pub knows_new : (to_head : Bool) (held : Held) → held.keeps ≡ false → Knows [] (record { to_head = to_head; place = Head 0; held = held })
knows_new to_head held e =
    let b : BeforeHead 0 [] [] [] = record { interims = []; front = []; is = refl; are_interims = refl; has_count = refl; few = omega arith; no_head = none_in_nothing; may_become = nothing_may_become; short = nothing_is_short; told = refl } in
    record { final = λ h. absurd (no_final to_head 0 [] [] [] b h); none = λ _. e }

-- ---- what is kept

no_truth : ◌≡◌ {A = Bool} false true → ⊥
no_truth e = cc

and_true : (a b c : Bool) → ((a && b) && c) ≡ true → (a ≡ true) × (b ≡ true) × (c ≡ true)
and_true false b c e = absurd (no_truth e)
and_true true false c e = absurd (no_truth e)
and_true true true false e = absurd (no_truth e)
and_true true true true e = (refl, refl, refl)

not_true : (b : Bool) → not b ≡ true → b ≡ false
not_true false e = refl
not_true true e = absurd (no_truth e)

all_true : (a b c : Bool) → a ≡ true → b ≡ false → c ≡ true → ((a && not b) && c) ≡ true
all_true false b c p q r = absurd (no_truth p)
all_true true true c p q r = absurd (no_truth (sym q))
all_true true false c p q r = r

abbrev whole_final : (text : List ℕ) (to_head : Bool) (r : Response) → H1Response text false to_head r → HasFinal text to_head
whole_final text to_head r p =
    record { interims = r.interims; head = r.head; front = p.front; head_text = p.head_text; rest = p.rest; framing = p.framing; is = p.is; are_interims = p.are_interims; is_final = p.is_final }

whole_ends : (framing : model.Framing) (rest body : List ℕ) (trailers : List Field) → HasBody framing false rest body trailers → ends_itself framing ≡ true
whole_ends IsBodiless rest body trailers w = refl
whole_ends (IsChunks named) rest body trailers w = refl
whole_ends (IsSized count) rest body trailers w = refl
whole_ends IsUntilEnd rest body trailers w = w.0

pub kept_open : (text : List ℕ) (parts : List Part) (state : State) → Stands text parts state → Knows text state → is_done parts ≡ true → NoneShorter text state.to_head → state.held.keeps ≡ true → LeavesOpen text state.to_head
kept_open text parts state s k d none keeps =
    let w = whole text parts state s d in
    let p = w.is_whole in
    let h = whole_final text state.to_head w.response p in
    let all = and_true (p.is_final.spelled.minor == 1) (not (says_close p.is_final.spelled)) (ends_itself p.framing) (sym (k.final h) ∙ keeps) in
    record { response = w.response; reads = p; version = eqb-true p.is_final.spelled.minor 1 all.0; no_close = not_true (says_close p.is_final.spelled) all.1; no_more = none }

pub kept_closed : (text : List ℕ) (state : State) → Knows text state → LeavesOpen text state.to_head → state.held.keeps ≡ true
kept_closed text state k l =
    let p = l.reads in
    k.final (whole_final text state.to_head l.response p)
    ∙ all_true (p.is_final.spelled.minor == 1) (says_close p.is_final.spelled) (ends_itself p.framing) (eq-eqb p.is_final.spelled.minor 1 l.version) l.no_close (whole_ends p.framing p.rest l.response.body l.response.trailers p.body)
