-- A reader that stands for all that was heard knows what is on offer, and what it tells next is news.
use Rattle.std.proofs.Common.{◌≡◌, ℕ, Bool, true, false, List, [], ◌∷◌, ◌++◌, map, refl, sym, ap, ◌∙◌, subst, append_assoc, inl, inr, if◌then◌else◌}
use Rattle.std.specs.Prelude.{Option, Some, None, is_some, ◌⊎◌, ◌||◌}
use Rattle.std.specs.List.{concat}
use Rattle.std.proofs.lemmas.List.{append-nil}
use Rattle.std.proofs.lemmas.List.Folds.{list_any-append}
use Rattle.std.proofs.lemmas.Bool.{cases_Bool}
use Rattle.model.specs.Messages.{Field}
use Rattle.model.specs.ResponseHeads.{Head}
use Rattle.model.specs.Responses.{Seen}
use Rattle.model.specs.Setup.{Passing}
use Rattle.model.specs.Setup.Passing.{Whole, Streaming}
use Rattle.model.specs.Deliveries.{End, Delivery}
use Rattle.model.specs.Available.{shown, IsAnswered, IsBegun, IsShown}
use Rattle.h1_reader.specs.Parts.{Part, ends_with}
use Rattle.h1_reader.specs.Parts.Part.{Interim, Final, Body, Trailing, Done}
use Rattle.h1_reader.specs.Standing.{State, Stands, Hears, is_done, is_end}
use Rattle.h1_reader.proofs.Telling as telling
use Rattle.theory_responses.specs.Outbox.{trailers_at, first_head, first_end, with_news}
use Rattle.theory_responses.specs.Shown.{Tells}
use Rattle.theory_responses.proofs.Parts.{same_delivery, none_more}
use Rattle.model.proofs.OfferLaws.{one_shown}
use Rattle.upstream_response.specs.Telling.{interims_of, head_of, body_of, trailers_of, end_of, all_told, begun, shown_of, news_of}

-- ---- parts in the form in which a reader tells them

interims_first : (heads : List Head) (parts : List Part) → interims_of (map Interim heads ++ parts) ≡ heads ++ interims_of parts
interims_first [] parts = refl
interims_first (head ∷ heads) parts = ap (λ x. head ∷ x) (interims_first heads parts)

head_behind : (heads : List Head) (parts : List Part) → head_of (map Interim heads ++ parts) ≡ head_of parts
head_behind [] parts = refl
head_behind (head ∷ heads) parts = head_behind heads parts

body_behind : (heads : List Head) (parts : List Part) → body_of (map Interim heads ++ parts) ≡ body_of parts
body_behind [] parts = refl
body_behind (head ∷ heads) parts = body_behind heads parts

-- parts behind the final head
abbrev Ends : List Part → Type 0
Ends ends = (ends ≡ []) ⊎ ((trailers : List Field) × (ends ≡ ends_with trailers))

-- of which none is an interim head, and none has octets of a body
no_interims_at_end : (trailers : List Field) → interims_of (ends_with trailers) ≡ []
no_interims_at_end [] = refl
no_interims_at_end (field ∷ fields) = refl

no_octets_at_end : (trailers : List Field) → body_of (ends_with trailers) ≡ []
no_octets_at_end [] = refl
no_octets_at_end (field ∷ fields) = refl

no_interims : (bodies : List (List ℕ)) (ends : List Part) → Ends ends → interims_of (map Body bodies ++ ends) ≡ []
no_interims [] ends (inl e) = ap interims_of e
no_interims [] ends (inr e) = ap interims_of e.1 ∙ no_interims_at_end e.0
no_interims (body ∷ bodies) ends e = no_interims bodies ends e

all_bodies : (bodies : List (List ℕ)) (ends : List Part) → Ends ends → body_of (map Body bodies ++ ends) ≡ concat bodies
all_bodies [] ends (inl e) = ap body_of e
all_bodies [] ends (inr e) = ap body_of e.1 ∙ no_octets_at_end e.0
all_bodies (body ∷ bodies) ends e = ap (λ x. body ++ x) (all_bodies bodies ends e)

-- what was told behind a final head
pub told_behind : (parts ends : List Part) (interims : List Head) (head : Head) (bodies : List (List ℕ)) → Ends ends → parts ≡ map Interim interims ++ (Final head ∷ map Body bodies ++ ends)
    → (interims_of parts ≡ interims) × (head_of parts ≡ Some head) × (body_of parts ≡ concat bodies)
told_behind parts ends interims head bodies e is = (
  ap interims_of is ∙ interims_first interims (Final head ∷ (map Body bodies ++ ends)) ∙ ap (λ x. interims ++ x) (no_interims bodies ends e) ∙ append-nil interims,
  ap head_of is ∙ head_behind interims (Final head ∷ (map Body bodies ++ ends)),
  ap body_of is ∙ body_behind interims (Final head ∷ (map Body bodies ++ ends)) ∙ all_bodies bodies ends e,
)

-- and of trailers
trailers_behind_heads : (heads : List Head) (parts : List Part) → trailers_of (map Interim heads ++ parts) ≡ trailers_of parts
trailers_behind_heads [] parts = refl
trailers_behind_heads (head ∷ heads) parts = trailers_behind_heads heads parts

trailers_behind_bodies : (bodies : List (List ℕ)) (parts : List Part) → trailers_of (map Body bodies ++ parts) ≡ trailers_of parts
trailers_behind_bodies [] parts = refl
trailers_behind_bodies (body ∷ bodies) parts = trailers_behind_bodies bodies parts

last_trailers : (parts ends : List Part) (interims : List Head) (head : Head) (bodies : List (List ℕ)) → parts ≡ map Interim interims ++ (Final head ∷ map Body bodies ++ ends) → trailers_of parts ≡ trailers_of ends
last_trailers parts ends interims head bodies is = ap trailers_of is ∙ trailers_behind_heads interims (Final head ∷ map Body bodies ++ ends) ∙ trailers_behind_bodies bodies ends

-- no trailers were told
pub none_told : (parts : List Part) (interims : List Head) (head : Head) (bodies : List (List ℕ)) → parts ≡ map Interim interims ++ (Final head ∷ map Body bodies ++ []) → trailers_of parts ≡ None
none_told parts interims head bodies is = last_trailers parts [] interims head bodies is

-- all of them were
trailers_told : (parts : List Part) (interims : List Head) (head : Head) (bodies : List (List ℕ)) (trailers : List Field) → parts ≡ map Interim interims ++ (Final head ∷ map Body bodies ++ ends_with trailers) → trailers_at (trailers_of parts) ≡ trailers
trailers_told parts interims head bodies trailers is = ap trailers_at (last_trailers parts (ends_with trailers) interims head bodies is) ∙ at trailers
  where
    at : (ts : List Field) → trailers_at (trailers_of (ends_with ts)) ≡ ts
    at [] = refl
    at (field ∷ fields) = refl

told_before : (parts : List Part) (interims : List Head) → parts ≡ map Interim interims → (interims_of parts ≡ interims) × (head_of parts ≡ None) × (body_of parts ≡ [])
told_before parts interims is =
    let all : parts ≡ map Interim interims ++ [] = is ∙ sym (append-nil (map Interim interims)) in
    (ap interims_of all ∙ interims_first interims [] ∙ append-nil interims, ap head_of all ∙ head_behind interims [], ap body_of all ∙ body_behind interims [])

-- ---- what is on offer

-- a whole response
answered : (text : List ℕ) (parts : List Part) (state : State) → Stands text parts state → is_done parts ≡ true → IsAnswered text false state.to_head (all_told parts)
answered text parts state s done =
    let w = telling.whole text parts state s done in
    let is = told_behind parts (ends_with w.response.trailers) w.response.interims w.response.head w.bodies (inr (w.response.trailers, refl)) w.told in
    let trailers = trailers_told parts w.response.interims w.response.head w.bodies w.response.trailers w.told in
    record { response = w.response; is_whole = w.is_whole; says = same_delivery is.0 is.1 (is.2 ∙ sym w.has_body) (ap (λ b. end_of b (trailers_of parts)) done ∙ ap (λ ts. Some ts) trailers) }

-- a beginning of one
half : (passing : Passing) (text : List ℕ) (parts : List Part) (state : State) → Stands text parts state → is_done parts ≡ false → IsBegun passing text false state.to_head (shown passing (interims_of parts) (head_of parts) (body_of parts))
half passing text parts state s more = elim (telling.tells text parts state s) [
  | inl b ↦ (let is = told_before parts b.interims b.told in by b.interims None [] is b.seen)
  | inr b ↦ (let is = told_behind parts b.ends b.interims b.head b.bodies b.ends_are b.told in by b.interims (Some b.head) (concat b.bodies) is b.seen)
]
  where
    by : (interims : List Head) (head : Option Head) (octets : List ℕ) → (interims_of parts ≡ interims) × (head_of parts ≡ head) × (body_of parts ≡ octets) → Seen text state.to_head interims head octets
        → IsBegun passing text false state.to_head (shown passing (interims_of parts) (head_of parts) (body_of parts))
    by interims head octets is seen = record {
      interims = interims;
      head = head;
      octets = octets;
      not_whole = telling.not_done text parts state s more;
      seen = seen;
      says = ap (λ x. shown passing x (head_of parts) (body_of parts)) is.0 ∙ ap (λ x. shown passing interims x (body_of parts)) is.1 ∙ ap (λ x. shown passing interims head x) is.2;
    }

-- Where a reader stands for a text, what it told is what is on offer.
pub told_shown : (passing : Passing) (text : List ℕ) (parts : List Part) (state : State) → Stands text parts state → IsShown passing text false state.to_head (shown_of passing parts)
told_shown passing text parts state s = elim (cases_Bool (is_done parts)) [ inl done ↦ inl (whole passing done) | inr more ↦ inr (beginning passing more) ]
  where
    whole : (p : Passing) → is_done parts ≡ true → IsAnswered text false state.to_head (shown_of p parts)
    whole Whole done = subst (IsAnswered text false state.to_head) (sym (ap (λ b. if b then all_told parts else begun parts) done)) (answered text parts state s done)
    whole Streaming done = answered text parts state s done

    beginning : (p : Passing) → is_done parts ≡ false → IsBegun p text false state.to_head (shown_of p parts)
    beginning Whole more = subst (IsBegun Whole text false state.to_head) (sym (ap (λ b. if b then all_told parts else begun parts) more)) (half Whole text parts state s more)
    beginning Streaming more = subst (IsBegun Streaming text false state.to_head) (same_delivery refl refl refl (sym (ap (λ b. end_of b (trailers_of parts)) more))) (half Streaming text parts state s more)

-- ---- news

pub interims_more : (a b : List Part) → interims_of (a ++ b) ≡ interims_of a ++ interims_of b
interims_more [] b = refl
interims_more (Interim head ∷ a) b = ap (λ x. head ∷ x) (interims_more a b)
interims_more (Final head ∷ a) b = interims_more a b
interims_more (Body octets ∷ a) b = interims_more a b
interims_more (Trailing fields ∷ a) b = interims_more a b
interims_more (Done ∷ a) b = interims_more a b

pub head_more : (a b : List Part) → head_of (a ++ b) ≡ first_head (head_of a) (head_of b)
head_more [] b = refl
head_more (Interim head ∷ a) b = head_more a b
head_more (Final head ∷ a) b = refl
head_more (Body octets ∷ a) b = head_more a b
head_more (Trailing fields ∷ a) b = head_more a b
head_more (Done ∷ a) b = head_more a b

pub body_more : (a b : List Part) → body_of (a ++ b) ≡ body_of a ++ body_of b
body_more [] b = refl
body_more (Interim head ∷ a) b = body_more a b
body_more (Final head ∷ a) b = body_more a b
body_more (Body octets ∷ a) b = ap (λ x. octets ++ x) (body_more a b) ∙ sym (append_assoc octets (body_of a) (body_of b))
body_more (Trailing fields ∷ a) b = body_more a b
body_more (Done ∷ a) b = body_more a b

pub trailers_more : (a b : List Part) → trailers_of (a ++ b) ≡ first_end (trailers_of a) (trailers_of b)
trailers_more [] b = refl
trailers_more (Interim head ∷ a) b = trailers_more a b
trailers_more (Final head ∷ a) b = trailers_more a b
trailers_more (Body octets ∷ a) b = trailers_more a b
trailers_more (Trailing fields ∷ a) b = refl
trailers_more (Done ∷ a) b = trailers_more a b

-- what is on offer with the news, where the response wasn't whole
with_more : (passing : Passing) (parts added : List Part) → is_done parts ≡ false → with_news (shown_of passing parts) (news_of passing parts added) ≡ shown_of passing (parts ++ added)
with_more Streaming parts added more =
    let all : is_done (parts ++ added) ≡ is_done added = list_any-append is_end parts added ∙ ap (λ b. b || is_done added) more in
    let told : End = trailers_of (parts ++ added) in
    same_delivery (sym (interims_more parts added)) (sym (head_more parts added)) (sym (body_more parts added))
    (ap (λ b. first_end (end_of b (trailers_of parts)) (end_of (is_done added) told)) more ∙ sym (ap (λ b. end_of b told) all))
with_more Whole parts added more =
    ap (λ b. with_news (if b then all_told parts else begun parts) (news_of Whole parts added)) more ∙ by (is_done added) refl
  where
    by : (b : Bool) → is_done added ≡ b → with_news (begun parts) (if b then record { interims = interims_of added; head = head_of (parts ++ added); body = body_of (parts ++ added); ends = Some (trailers_at (trailers_of (parts ++ added))) } else record { interims = interims_of added; head = None; body = []; ends = None }) ≡ shown_of Whole (parts ++ added)
    by true e =
        let done : is_done (parts ++ added) ≡ true = list_any-append is_end parts added ∙ ap (λ b. b || is_done added) more ∙ e in
        same_delivery (sym (interims_more parts added)) refl refl (sym (ap (λ b. end_of b (trailers_of (parts ++ added))) done)) ∙ sym (ap (λ b. if b then all_told (parts ++ added) else begun (parts ++ added)) done)
    by false e =
        let still : is_done (parts ++ added) ≡ false = list_any-append is_end parts added ∙ ap (λ b. b || is_done added) more ∙ e in
        same_delivery (sym (interims_more parts added)) refl refl refl ∙ sym (ap (λ b. if b then all_told (parts ++ added) else begun (parts ++ added)) still)

-- what is on offer isn't whole before the end was told
pub not_whole : (passing : Passing) (parts : List Part) → is_done parts ≡ false → (shown_of passing parts).ends ≡ None
not_whole Whole parts more = ap (λ b. (if b then all_told parts else begun parts).ends) more
not_whole Streaming parts more = ap (λ b. end_of b (trailers_of parts)) more

-- ---- no interim head comes behind a final one

heads_same : (hs ks : List Head) (h k : Head) (x y : List Part) → map Interim hs ++ (Final h ∷ x) ≡ map Interim ks ++ (Final k ∷ y) → hs ≡ ks
heads_same [] [] h k x y e = refl
heads_same [] (i ∷ ks) h k x y e = absurd (let first : Final h ≡ Interim i = cc in cc)
heads_same (i ∷ hs) [] h k x y e = absurd (let first : Interim i ≡ Final k = cc in cc)
heads_same (i ∷ hs) (j ∷ ks) h k x y e =
    let first : Interim i ≡ Interim j = cc in
    let heads : i ≡ j = cc in
    let rest : map Interim hs ++ (Final h ∷ x) ≡ map Interim ks ++ (Final k ∷ y) = cc in
    ap (λ n. n ∷ hs) heads ∙ ap (λ l. j ∷ l) (heads_same hs ks h k x y rest)

none_behind : (text longer : List ℕ) (parts added : List Part) (old new : State) → Stands text parts old → Stands longer (parts ++ added) new → is_some (head_of parts) ≡ true → interims_of added ≡ []
none_behind text longer parts added old new s s' some = elim (telling.tells text parts old s) [
  | inl b ↦ let clash : false ≡ true = sym (ap (λ h. is_some h) (told_before parts b.interims b.told).1) ∙ some in cc
  | inr b ↦ (
      let is = told_behind parts b.ends b.interims b.head b.bodies b.ends_are b.told in
      let all : parts ++ added ≡ map Interim b.interims ++ (Final b.head ∷ (map Body b.bodies ++ b.ends ++ added)) =
      ap (λ x. x ++ added) b.told ∙ append_assoc (map Interim b.interims) (Final b.head ∷ (map Body b.bodies ++ b.ends)) added in
      elim (telling.tells longer (parts ++ added) new s') [
        | inl c ↦ (
            let head : head_of (parts ++ added) ≡ Some b.head = ap head_of all ∙ head_behind b.interims _ in
            let clash : ◌≡◌ {A = Option Head} (Some b.head) None = sym head ∙ (told_before (parts ++ added) c.interims c.told).1 in cc
            )
        | inr c ↦ (
            let now = told_behind (parts ++ added) c.ends c.interims c.head c.bodies c.ends_are c.told in
            let same : b.interims ≡ c.interims = heads_same b.interims c.interims b.head c.head _ _ (sym all ∙ c.told) in
            let sum : interims_of parts ++ interims_of added ≡ interims_of parts = sym (interims_more parts added) ∙ now.0 ∙ sym same ∙ sym is.0 in
            none_more (interims_of parts) (interims_of added) sum
            )
      ]
      )
]

none_late : (passing : Passing) (text longer : List ℕ) (parts added : List Part) (old new : State) → Stands text parts old → Stands longer (parts ++ added) new → is_done parts ≡ false → is_some (shown_of passing parts).head ≡ true → (news_of passing parts added).interims ≡ []
none_late Whole text longer parts added old new s s' more some = let clash : false ≡ true = sym (ap (λ b. is_some (if b then all_told parts else begun parts).head) more) ∙ some in cc
none_late Streaming text longer parts added old new s s' more some = none_behind text longer parts added old new s s' some

-- What a reader tells of further octets is news of the offer.
pub hears_news : (passing : Passing) (text octets : List ℕ) (parts added : List Part) (old new : State) → Stands text parts old → Hears old octets added new → is_done parts ≡ false
    → Tells passing text false (text ++ octets) false old.to_head (news_of passing parts added)
hears_news passing text octets parts added old new s hears more =
    let was : IsShown passing text false old.to_head (shown_of passing parts) = told_shown passing text parts old s in
    let s' : Stands (text ++ octets) (parts ++ added) new = hears.stands text parts s in
    let now : IsShown passing (text ++ octets) false new.to_head (shown_of passing (parts ++ added)) = told_shown passing (text ++ octets) (parts ++ added) new s' in
    let same : (d : Delivery) → IsShown passing text false old.to_head d → d ≡ shown_of passing parts = λ d p. one_shown passing text false old.to_head d (shown_of passing parts) p was in
    record {
      not_whole = λ d p. ap (λ (x : Delivery). x.ends) (same d p) ∙ not_whole passing parts more;
      none_late = λ d p some. none_late passing text (text ++ octets) parts added old new s s' more (sym (ap (λ (x : Delivery). is_some x.head) (same d p)) ∙ some);
      shows = λ d p. subst (λ b. IsShown passing (text ++ octets) false b (with_news d (news_of passing parts added))) hears.same
          (subst (IsShown passing (text ++ octets) false new.to_head) (sym (ap (λ x. with_news x (news_of passing parts added)) (same d p) ∙ with_more passing parts added more)) now);
    }
