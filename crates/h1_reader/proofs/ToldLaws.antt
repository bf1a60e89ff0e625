-- What was told, put together, is what is seen in the octets.
use Rattle.std.proofs.Common.{◌≡◌, ℕ, Bool, true, false, List, [], ◌∷◌, ◌++◌, map, refl, sym, ap, ◌∙◌, subst, append_assoc, inl, inr}
use Rattle.std.specs.Prelude.{Option, Some, None, is_some, ◌⊎◌}
use Rattle.std.specs.List.{concat}
use Rattle.std.proofs.lemmas.List.{append-nil}
use Rattle.model.specs.ResponseHeads.{Head as Meaning}
use Rattle.model.specs.ResponseHeads as model
use Rattle.model.specs.ResponseHeads.Framing.{Bodiless as IsBodiless, Chunks as IsChunks, Sized as IsSized, UntilEnd as IsUntilEnd}
use Rattle.model.specs.Responses.{HasBody, H1Response, IsComplete, Seen}
use Rattle.model.specs.Messages.{Field}
use Rattle.h1_reader.specs.Parts.{Part, ends_with}
use Rattle.h1_reader.specs.Parts.Part.{Interim, Final, Body, Trailing, Done}
use Rattle.h1_reader.specs.Told.{interims_of, head_of, body_of, trailers_of, IsWholeOf}
use Rattle.h1_reader.specs.Standing.{Held, State, InBody, StandsAt, Stands, is_done}
use Rattle.h1_reader.specs.declared.reader.Place.{Place}
use Rattle.h1_reader.specs.declared.reader.Place.TheVariants.{Head, Sized, UntilEnd, Line, Chunk, ChunkEnd, ChunkReturn, Trailers, Past, Broken}
use Rattle.h1_reader.proofs.ChunkEnds.{line_short, chunk_short, end_short, trailers_short, no_octets, one_octet}
use Rattle.h1_reader.proofs.Ends.{head_short, sized_short}
use Rattle.h1_reader.proofs.Telling.{tells, whole}

-- ---- the parts in the form in which they are told

pub interims_more : (before parts : List Part) → interims_of (before ++ parts) ≡ interims_of before ++ interims_of parts
interims_more [] parts = refl
interims_more (Interim head ∷ before) parts = ap (λ (o : List Meaning). head ∷ o) (interims_more before parts)
interims_more (Final head ∷ before) parts = interims_more before parts
interims_more (Body octets ∷ before) parts = interims_more before parts
interims_more (Trailing fields ∷ before) parts = interims_more before parts
interims_more (Done ∷ before) parts = interims_more before parts

pub body_more : (before parts : List Part) → body_of (before ++ parts) ≡ body_of before ++ body_of parts
body_more [] parts = refl
body_more (Interim head ∷ before) parts = body_more before parts
body_more (Final head ∷ before) parts = body_more before parts
body_more (Body octets ∷ before) parts = ap (λ (o : List ℕ). octets ++ o) (body_more before parts) ∙ sym (append_assoc octets (body_of before) (body_of parts))
body_more (Trailing fields ∷ before) parts = body_more before parts
body_more (Done ∷ before) parts = body_more before parts

interims_first : (heads : List Meaning) (parts : List Part) → interims_of (map Interim heads ++ parts) ≡ heads ++ interims_of parts
interims_first [] parts = refl
interims_first (head ∷ heads) parts = ap (λ (o : List Meaning). head ∷ o) (interims_first heads parts)

head_behind : (heads : List Meaning) (parts : List Part) → head_of (map Interim heads ++ parts) ≡ head_of parts
head_behind [] parts = refl
head_behind (head ∷ heads) parts = head_behind heads parts

body_behind : (heads : List Meaning) (parts : List Part) → body_of (map Interim heads ++ parts) ≡ body_of parts
body_behind [] parts = refl
body_behind (head ∷ heads) parts = body_behind heads parts

trailers_behind : (heads : List Meaning) (parts : List Part) → trailers_of (map Interim heads ++ parts) ≡ trailers_of parts
trailers_behind [] parts = refl
trailers_behind (head ∷ heads) parts = trailers_behind heads parts

-- behind the octets of a body stands nothing, or the end with trailers, if there are some
abbrev AreEnds : List Part → Type 0
AreEnds ends = (ends ≡ []) ⊎ ((trailers : List Field) × (ends ≡ ends_with trailers))

none_in_end : (trailers : List Field) → interims_of (ends_with trailers) ≡ []
none_in_end [] = refl
none_in_end (field ∷ fields) = refl

no_octets_in_end : (trailers : List Field) → body_of (ends_with trailers) ≡ []
no_octets_in_end [] = refl
no_octets_in_end (field ∷ fields) = refl

trailers_in_end : (trailers : List Field) → trailers_of (ends_with trailers) ≡ trailers
trailers_in_end [] = refl
trailers_in_end (field ∷ fields) = refl

no_interims : (bodies : List (List ℕ)) (ends : List Part) → AreEnds ends → interims_of (map Body bodies ++ ends) ≡ []
no_interims [] ends (inl e) = ap interims_of e
no_interims [] ends (inr e) = ap interims_of e.1 ∙ none_in_end e.0
no_interims (body ∷ bodies) ends e = no_interims bodies ends e

all_bodies : (bodies : List (List ℕ)) (ends : List Part) → AreEnds ends → body_of (map Body bodies ++ ends) ≡ concat bodies
all_bodies [] ends (inl e) = ap body_of e
all_bodies [] ends (inr e) = ap body_of e.1 ∙ no_octets_in_end e.0
all_bodies (body ∷ bodies) ends e = ap (λ (o : List ℕ). body ++ o) (all_bodies bodies ends e)

all_trailers : (bodies : List (List ℕ)) (ends : List Part) → trailers_of (map Body bodies ++ ends) ≡ trailers_of ends
all_trailers [] ends = refl
all_trailers (body ∷ bodies) ends = all_trailers bodies ends

-- These are the interim heads, the final head, the octets and the trailers that were told.
pub record ToldAre (parts : List Part) (interims : List Meaning) (head : Option Meaning) (octets : List ℕ) (trailers : List Field) : Type 0 where
  pub interims_are : interims_of parts ≡ interims
  pub head_is : head_of parts ≡ head
  pub body_is : body_of parts ≡ octets
  pub trailers_are : trailers_of parts ≡ trailers

told_behind : (parts ends : List Part) (interims : List Meaning) (head : Meaning) (bodies : List (List ℕ)) → AreEnds ends → parts ≡ map Interim interims ++ (Final head ∷ map Body bodies ++ ends)
    → ToldAre parts interims (Some head) (concat bodies) (trailers_of ends)
told_behind parts ends interims head bodies e is =
    let last = Final head ∷ (map Body bodies ++ ends) in
    record {
      interims_are = ap interims_of is ∙ interims_first interims last ∙ ap (λ (o : List Meaning). interims ++ o) (no_interims bodies ends e) ∙ append-nil interims;
      head_is = ap head_of is ∙ head_behind interims last;
      body_is = ap body_of is ∙ body_behind interims last ∙ all_bodies bodies ends e;
      trailers_are = ap trailers_of is ∙ trailers_behind interims last ∙ all_trailers bodies ends;
    }

told_before : (parts : List Part) (interims : List Meaning) → parts ≡ map Interim interims → ToldAre parts interims None [] []
told_before parts interims is =
    let all : parts ≡ map Interim interims ++ [] = is ∙ sym (append-nil (map Interim interims)) in
    record {
      interims_are = ap interims_of all ∙ interims_first interims [] ∙ append-nil interims;
      head_is = ap head_of all ∙ head_behind interims [];
      body_is = ap body_of all ∙ body_behind interims [];
      trailers_are = ap trailers_of all ∙ trailers_behind interims [];
    }

-- ---- what is seen

by_told : (text : List ℕ) (to_head : Bool) (parts : List Part) (interims : List Meaning) (head : Option Meaning) (octets : List ℕ) (trailers : List Field) → ToldAre parts interims head octets trailers → Seen text to_head interims head octets
    → Seen text to_head (interims_of parts) (head_of parts) (body_of parts)
by_told text to_head parts interims head octets trailers are seen =
    subst (λ (o : List ℕ). Seen text to_head (interims_of parts) (head_of parts) o) (sym are.body_is)
    (subst (λ (h : Option Meaning). Seen text to_head (interims_of parts) h octets) (sym are.head_is)
    (subst (λ (hs : List Meaning). Seen text to_head hs head octets) (sym are.interims_are) seen))

pub seen : (text : List ℕ) (parts : List Part) (state : State) → Stands text parts state → Seen text state.to_head (interims_of parts) (head_of parts) (body_of parts)
seen text parts state s = elim (tells text parts state s) [
  | inl b ↦ by_told text state.to_head parts b.interims None [] [] (told_before parts b.interims b.told) b.seen
  | inr b ↦ by_told text state.to_head parts b.interims (Some b.head) (concat b.bodies) (trailers_of b.ends) (told_behind parts b.ends b.interims b.head b.bodies b.ends_are b.told) b.seen
]

-- ---- whole responses

whole_of : (text : List ℕ) (ended to_head : Bool) (parts : List Part) (interims : List Meaning) (head : Meaning) (octets : List ℕ) (trailers : List Field) → ToldAre parts interims (Some head) octets trailers
    → H1Response text ended to_head (record { interims = interims; head = head; body = octets; trailers = trailers }) → IsWholeOf text ended to_head parts
whole_of text ended to_head parts interims head octets trailers are w = record {
  head = head;
  has_head = are.head_is;
  is_whole = subst (λ (l : List Field). H1Response text ended to_head (record { interims = interims_of parts; head = head; body = body_of parts; trailers = l })) (sym are.trailers_are)
      (subst (λ (o : List ℕ). H1Response text ended to_head (record { interims = interims_of parts; head = head; body = o; trailers = trailers })) (sym are.body_is)
      (subst (λ (hs : List Meaning). H1Response text ended to_head (record { interims = hs; head = head; body = octets; trailers = trailers })) (sym are.interims_are) w));
}

pub told_whole : (text : List ℕ) (parts : List Part) (state : State) → Stands text parts state → is_done parts ≡ true → IsWholeOf text false state.to_head parts
told_whole text parts state s done =
    let w = whole text parts state s done in
    whole_of text false state.to_head parts w.response.interims w.response.head w.response.body w.response.trailers
    (let are = told_behind parts (ends_with w.response.trailers) w.response.interims w.response.head w.bodies (inr (w.response.trailers, refl)) w.told in
    record { interims_are = are.interims_are; head_is = are.head_is; body_is = are.body_is ∙ sym w.has_body; trailers_are = are.trailers_are ∙ trailers_in_end w.response.trailers }) w.is_whole

false_true : ◌≡◌ {A = Bool} false true → ⊥
false_true e = cc

-- a body that is whole stays so where the connection ends
ended_too : (framing : model.Framing) (rest octets : List ℕ) (trailers : List Field) → HasBody framing false rest octets trailers → HasBody framing true rest octets trailers
ended_too IsBodiless rest octets trailers w = w
ended_too (IsChunks named) rest octets trailers w = w
ended_too (IsSized count) rest octets trailers w = w
ended_too IsUntilEnd rest octets trailers w = absurd (false_true w.0)

behind_ended : (to_head : Bool) (framing : model.Framing) (text rest octets : List ℕ) (trailers : List Field) (parts ends : List Part) → InBody to_head framing text rest octets parts ends → AreEnds ends → trailers_of ends ≡ trailers → HasBody framing true rest octets trailers
    → IsWholeOf text true to_head parts
behind_ended to_head framing text rest octets trailers parts ends b e t w =
    let are = told_behind parts ends b.interims b.head b.bodies e b.told in
    whole_of text true to_head parts b.interims b.head octets trailers (record { interims_are = are.interims_are; head_is = are.head_is; body_is = are.body_is ∙ sym b.has_octets; trailers_are = are.trailers_are ∙ t })
    (record { front = b.front; head_text = b.head_text; rest = rest; framing = framing; is = b.is; are_interims = b.are_interims; few_interims = b.few; is_final = b.is_final; body = w })

ended_at : (place : Place) (to_head : Bool) (held : Held) (text : List ℕ) (parts : List Part) → StandsAt place to_head held text parts → IsComplete text true to_head → IsWholeOf text true to_head parts
ended_at (Head count) to_head held text parts b w = absurd (head_short true to_head count held.octets text parts b w)
ended_at (Sized left) to_head held text parts b w = absurd (sized_short true to_head left text parts b w)
ended_at UntilEnd to_head held text parts b w = behind_ended to_head IsUntilEnd text b.octets b.octets [] parts [] b.body (inl refl) refl (refl, refl, refl)
ended_at (Line line) to_head held text parts b w = absurd (line_short true to_head line text parts b w)
ended_at (Chunk left) to_head held text parts b w = absurd (chunk_short true to_head left text parts b w)
ended_at ChunkEnd to_head held text parts b w = absurd (end_short true to_head [] text parts no_octets b w)
ended_at ChunkReturn to_head held text parts b w = absurd (end_short true to_head (13 ∷ []) text parts one_octet b w)
ended_at Trailers to_head held text parts b w = absurd (trailers_short true to_head held.octets text parts b w)
ended_at Past to_head held text parts b w = behind_ended to_head b.framing text b.rest b.octets b.trailers parts (ends_with b.trailers) b.body (inr (b.trailers, refl)) (trailers_in_end b.trailers) (ended_too b.framing b.rest b.octets b.trailers b.whole)
ended_at (Broken fault) to_head held text parts b w = absurd b

pub told_ended : (text : List ℕ) (parts : List Part) (state : State) → Stands text parts state → IsComplete text true state.to_head → IsWholeOf text true state.to_head parts
told_ended text parts state s w = ended_at state.place state.to_head state.held text parts s w

-- ---- no interim head is told behind a final one

heads_same : (hs ks : List Meaning) (h k : Meaning) (x y : List Part) → map Interim hs ++ (Final h ∷ x) ≡ map Interim ks ++ (Final k ∷ y) → hs ≡ ks
heads_same [] [] h k x y e = refl
heads_same [] (i ∷ ks) h k x y e = absurd (let first : Final h ≡ Interim i = cc in cc)
heads_same (i ∷ hs) [] h k x y e = absurd (let first : Interim i ≡ Final k = cc in cc)
heads_same (i ∷ hs) (j ∷ ks) h k x y e =
    let first : Interim i ≡ Interim j = cc in
    let heads : i ≡ j = cc in
    let rest : map Interim hs ++ (Final h ∷ x) ≡ map Interim ks ++ (Final k ∷ y) = cc in
    ap (λ (n : Meaning). n ∷ hs) heads ∙ ap (λ (o : List Meaning). j ∷ o) (heads_same hs ks h k x y rest)

none_more : (before more : List Meaning) → before ++ more ≡ before → more ≡ []
none_more [] more e = e
none_more (head ∷ before) more e = let rest : before ++ more ≡ before = cc in none_more before more rest

pub none_late : (text longer : List ℕ) (parts added : List Part) (old new : State) → Stands text parts old → Stands longer (parts ++ added) new → is_some (head_of parts) ≡ true → interims_of added ≡ []
none_late text longer parts added old new s s' some = elim (tells text parts old s) [
  | inl b ↦ let clash : false ≡ true = sym (ap (λ (h : Option Meaning). is_some h) (told_before parts b.interims b.told).head_is) ∙ some in cc
  | inr b ↦ (
      let are = told_behind parts b.ends b.interims b.head b.bodies b.ends_are b.told in
      let all : parts ++ added ≡ map Interim b.interims ++ (Final b.head ∷ (map Body b.bodies ++ b.ends ++ added)) =
      ap (λ (o : List Part). o ++ added) b.told ∙ append_assoc (map Interim b.interims) (Final b.head ∷ (map Body b.bodies ++ b.ends)) added in
      elim (tells longer (parts ++ added) new s') [
        | inl c ↦ (
            let head : head_of (parts ++ added) ≡ Some b.head = ap head_of all ∙ head_behind b.interims _ in
            let clash : ◌≡◌ {A = Option Meaning} (Some b.head) None = sym head ∙ (told_before (parts ++ added) c.interims c.told).head_is in
            cc
            )
        | inr c ↦ (
            let now = told_behind (parts ++ added) c.ends c.interims c.head c.bodies c.ends_are c.told in
            let same : b.interims ≡ c.interims = heads_same b.interims c.interims b.head c.head _ _ (sym all ∙ c.told) in
            none_more (interims_of parts) (interims_of added) (sym (interims_more parts added) ∙ now.interims_are ∙ sym same ∙ sym are.interims_are)
            )
      ]
      )
]
