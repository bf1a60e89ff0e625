-- What the end of the connection makes of where a reader stands.
use Rattle.std.proofs.Common.{◌≡◌, ℕ, ◌+◌, ◌<◌, ◌≤◌, Bool, true, false, List, [], ◌++◌, length, refl, sym, ap, ◌∙◌, subst, append_assoc, length-append, arith}
use Rattle.httparse.specs.Grammar.{ReadsResponse}
use Rattle.model.specs.Messages.{Field}
use Rattle.model.specs.ResponseHeads as model
use Rattle.model.specs.ResponseHeads.Framing.{Bodiless as IsBodiless, Chunks as IsChunks, Sized as IsSized, UntilEnd as IsUntilEnd}
use Rattle.model.specs.Responses.{HasBody, IsComplete}
use Rattle.model.proofs.Http1Runs.{same_rest, one_joined}
use Rattle.model.proofs.ResponseHeadReadings.{one_interim, none_at_final, none_without_head, one_front, spelled_reads}
use Rattle.h1_reader.specs.Parts.{Part}
use Rattle.h1_reader.specs.Standing.{State, BeforeHead, InBody, InSized, InRest, IsPast, StandsAt, Stands}
use Rattle.h1_reader.specs.declared.reader.Place.{Place}

false_true : ◌≡◌ {A = Bool} false true → ⊥
false_true e = cc

-- a body that is whole before the end is whole at it
whole_at_end : (framing : model.Framing) (rest octets : List ℕ) (trailers : List Field) → HasBody framing false rest octets trailers → HasBody framing true rest octets trailers
whole_at_end IsBodiless rest octets trailers w = w
whole_at_end (IsChunks named) rest octets trailers w = w
whole_at_end (IsSized count) rest octets trailers w = w
whole_at_end IsUntilEnd rest octets trailers w = absurd (false_true w.0)

pub whole_response : (to_head ended : Bool) (framing : model.Framing) (text rest octets : List ℕ) (trailers : List Field) (parts ends : List Part)
    → InBody to_head framing text rest octets parts ends → HasBody framing ended rest octets trailers → IsComplete text ended to_head
whole_response to_head ended framing text rest octets trailers parts ends b w = (
  record { interims = b.interims; head = b.head; body = octets; trailers = trailers },
  record { front = b.front; head_text = b.head_text; rest = rest; framing = framing; is = b.is; are_interims = b.are_interims; few_interims = b.few; is_final = b.is_final; body = w },
)

pub past_complete : (ended : Bool) (to_head : Bool) (text : List ℕ) (parts : List Part) → IsPast to_head text parts → IsComplete text ended to_head
past_complete true to_head text parts b = whole_response to_head true b.framing text b.rest b.octets b.trailers parts _ b.body (whole_at_end b.framing b.rest b.octets b.trailers b.whole)
past_complete false to_head text parts b = whole_response to_head false b.framing text b.rest b.octets b.trailers parts _ b.body b.whole

pub rest_complete : (to_head : Bool) (text : List ℕ) (parts : List Part) → InRest to_head text parts → IsComplete text true to_head
rest_complete to_head text parts b = whole_response to_head true IsUntilEnd text b.octets b.octets [] parts _ b.body (refl, refl, refl)

-- before its head ends no response is whole
pub head_short : (ended to_head : Bool) (count : ℕ) (held text : List ℕ) (parts : List Part) → BeforeHead count held text parts → IsComplete text ended to_head → ⊥
head_short ended to_head count held text parts b whole =
    let p = whole.1 in
    let same : b.front ++ held ≡ p.front ++ (p.head_text ++ p.rest) = sym b.is ∙ p.is ∙ append_assoc p.front p.head_text p.rest in
    let fronts = one_joined model.Interim one_interim b.front p.front held (p.head_text ++ p.rest) b.interims whole.0.interims b.are_interims p.are_interims
    (none_without_head held b.no_head) (none_at_final to_head p.head_text p.rest whole.0.head p.framing p.is_final) same in
    let rests = same_rest b.front p.front held (p.head_text ++ p.rest) fronts.0 same in
    b.no_head p.is_final.spelled p.rest
    (subst (λ (o : List ℕ). ReadsResponse o p.is_final.spelled p.rest) (sym rests) (spelled_reads p.head_text p.rest p.is_final.spelled p.is_final.taken.reads))

sized_least : (framing : model.Framing) (ended : Bool) (count : ℕ) (rest body : List ℕ) (trailers : List Field) → IsSized count ≡ framing → HasBody framing ended rest body trailers → count ≤ length rest
sized_least framing ended count rest body trailers e w =
    let sized : HasBody (IsSized count) ended rest body trailers = subst (λ (f : model.Framing). HasBody f ended rest body trailers) (sym e) w in
    let lengths : length rest ≡ length body + length sized.0.past = ap length sized.0.is ∙ length-append body sized.0.past in
    let counted : length body ≡ count = sized.0.has_count in
    omega arith

-- before all its octets are there no response of a known length is whole
pub sized_short : (ended to_head : Bool) (left : ℕ) (text : List ℕ) (parts : List Part) → InSized to_head left text parts → IsComplete text ended to_head → ⊥
sized_short ended to_head left text parts b whole =
    let p = whole.1 in
    let same = one_front to_head b.body.front p.front b.body.head_text p.head_text b.octets p.rest b.body.interims whole.0.interims b.body.head whole.0.head (IsSized b.count) p.framing
    b.body.are_interims p.are_interims b.body.is_final p.is_final (sym b.body.is ∙ p.is) in
    let least : b.count ≤ length p.rest = sized_least p.framing ended b.count p.rest whole.0.body whole.0.trailers same.final.framing p.body in
    let rests : length b.octets ≡ length p.rest = ap length same.final.rest in
    let sum : length b.octets + left ≡ b.count = b.has_count in
    let some : 0 < left = b.some in
    omega arith

pub at : (place : Place) (state : State) (text : List ℕ) (parts : List Part) → state.place ≡ place → Stands text parts state → StandsAt place state.to_head state.held text parts
at place state text parts e s = subst (λ (p : Place). StandsAt p state.to_head state.held text parts) e s
