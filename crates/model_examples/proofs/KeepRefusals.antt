-- Gateways that keep connections and go wrong with them.
use Rattle.std.proofs.Common.{◌≡◌, ℕ, ◌≤◌, length, Bool, true, false, ◌||◌, ◌==◌, List, [], ◌∷◌, ◌++◌, append_assoc, refl, sym, ap, ◌∙◌, subst, inl, inr, arith, if◌then◌else◌}
use Rattle.std.specs.Prelude.{codes, get_or, slice_get, Option, Some, None, ◌⊎◌}
use Rattle.std.specs.List.{list_any}
use Rattle.std.proofs.lemmas.Bool.Decides.{eqb_tells}
use Rattle.model.specs.Tables.{total_size, first_table}
use Rattle.model.specs.Decoding.{Decodes}
use Rattle.model.specs.Octets.{lower, IsStrictFront, Joined}
use Rattle.model.specs.Messages.{Field, Request, Item}
use Rattle.model.specs.Messages.Item.{Block, Content}
use Rattle.model.specs.Http1 as H1
use Rattle.model.specs.Http1.{H1Open}
use Rattle.model.specs.Logs.Event.{Up}
use Rattle.model.specs.Logs.Act.{Open, ToUp, Close}
use Rattle.model.specs.Setup.{Route, IsFirstMatch}
use Rattle.model.specs.Setup.Passing.{Whole}
use Rattle.model.specs.Tapes.{Entry, sent}
use Rattle.model.specs.Tapes.Entry.{Happened, Did}
use Rattle.model.specs.Http2.{authority_of, path_of}
use Rattle.model.specs.ResponseHeads.{Head}
use Rattle.model.specs.Openings.{Opened, exchanges}
use Rattle.model.specs.Deliveries.{Delivery, nothing, ReadsAs, IsPartOf}
use Rattle.model.specs.Responses.{Response}
use Rattle.model.specs.Available.{heard_by, ended_by, items_on, IsIn, IsShown}
use Rattle.model.specs.Causes.{Cause}
use Rattle.model.specs.Courses.{course, items}
use Rattle.model.specs.Offers.{is_to_head, IsPassedOn, IsOffered, IsDelivered}
use Rattle.model.proofs.ResponseReadings.{one_response}
use Rattle.model.proofs.DeliveryReadings.{one_delivery}
use Rattle.model.proofs.OfferLemmas.{OffersNothing, nothing_begun, nothing_offered}
use Rattle.model.proofs.AnswerTexts as answer
use Rattle.model.proofs.FirstLog as first
use Rattle.model.proofs.Http1Readings.{one_head}
use Rattle.model_examples.proofs.ResponseRefusals.{cause_earlier, opened_earlier, no_head_of_nothing}
use Rattle.model.specs.Known.{Known}
use Rattle.model.specs.Idle.{AreIdle}
use Rattle.model.specs.RequestClause.{IsServed, BeginInTime, StayOpen, AreMeant, IsSent, forwarded}
use Rattle.model.specs.ProgressClause.{IsDoneWith}
use Rattle.model.specs.ResponseClause.{ResponsesHold}
use Rattle.model_examples.proofs.RowTapes.{frame, plain, headed, out, out_headed, field, begun, get, get_block, next_get_block, ok_two, ok_block, answer_text, reset}
use Rattle.model_examples.proofs.RowBlocks.{begun_decodes, ok_spelled}
use Rattle.model_examples.proofs.KeepExamples.{keeping, by_keeping, getk, exchange, first_heard, first_answered, second_came, kept_on, idle, heard_too_much, not_left}

-- ---- it uses a connection again though an octet stood behind the response before

abbrev pub used_behind_more : List Entry
used_behind_more = Did (ToUp 1 getk) ∷ headed (frame 1 5 3 next_get_block) get ∷ heard_too_much

pub uses_behind_more : BeginInTime by_keeping used_behind_more → ⊥
unfolding total_size
uses_behind_more c = not_left false refl c.0.idle.kept.answered

-- ---- it uses a connection of another route

abbrev pub two_routes : Known
two_routes = record {
  setup = record keeping { routes = record { authority = codes "www.example.com"; path = codes "/" } ∷ record { authority = codes "b"; path = codes "/" } ∷ [] };
  failures = [];
}

abbrev pub get_b : List Field
get_b = field (codes ":method") (codes "GET") ∷ field (codes ":scheme") (codes "http") ∷ field (codes ":path") (codes "/") ∷ field (codes ":authority") (codes "b") ∷ []

abbrev pub get_b_block : List ℕ
get_b_block = 130 ∷ 134 ∷ 132 ∷ 1 ∷ 1 ∷ 98 ∷ []

abbrev pub getk_b : List ℕ
getk_b = codes "GET / HTTP/1.1\r\nhost: b\r\nvia: 2.0 h2gw\r\n\r\n"

abbrev pub used_elsewhere : List Entry
used_elsewhere = Did (ToUp 1 getk_b) ∷ headed (frame 1 5 3 get_b_block) get_b ∷ first_answered

-- its exchange has the route that the connection was opened by
pub by_first_route : exchanges used_elsewhere ≡ exchange 1 3 ∷ exchange 1 1 ∷ []
by_first_route = refl

some_same : (a b : Route) → ◌≡◌ {A = Option Route} (Some a) (Some b) → a ≡ b
some_same a b e = cc

abbrev first_route : Route
first_route = record { authority = codes "www.example.com"; path = codes "/" }

not_first : (route : Route) → slice_get two_routes.setup.routes 0 ≡ Some route → (route.authority ≡ []) ⊎ (lower route.authority ≡ lower (codes "b")) → ⊥
not_first route found (inl none) = let clash : 15 ≡ 0 = ap length (ap (λ (r : Route). r.authority) (some_same first_route route found) ∙ none) in omega (arith, clash)
not_first route found (inr same) = let clash : 15 ≡ 1 = ap length (ap (λ (r : Route). lower r.authority) (some_same first_route route found) ∙ same) in omega (arith, clash)

pub uses_another_route : IsServed two_routes used_elsewhere (exchange 1 3) → ⊥
unfolding total_size
uses_another_route s =
    let route = subst (λ (h : List Field). IsFirstMatch two_routes.setup.routes (authority_of h) (path_of h) 0) (sym s.has_head) s.by_route in
    not_first route.route route.found route.matches.0

-- ---- it gives the first stream the second response

abbrev pub yo_text : List ℕ
yo_text = codes "HTTP/1.1 200 OK\r\nContent-Length: 2\r\n\r\nyo"

-- the first response waits, and the second, which comes on the same connection, goes out on the first stream
abbrev pub both_heard : List Entry
both_heard =
    Happened (Up 1 yo_text)
    ∷ Did (ToUp 1 getk)
    ∷ headed (frame 1 5 3 next_get_block) get
    ∷ Happened (Up 1 answer_text)
    ∷ Did (ToUp 1 getk)
    ∷ Did (Open 1 0)
    ∷ headed (frame 1 5 1 get_block) get
    ∷ begun

abbrev pub paired_wrongly : List Entry
paired_wrongly = out (frame 0 1 1 (codes "yo")) ∷ out_headed (frame 1 4 1 ok_block) ok_two ∷ both_heard

pub wrongly_decodes : Decodes (sent paired_wrongly) first_table
wrongly_decodes = (first_table, (first_table, begun_decodes, ok_spelled, refl), (refl, refl), refl)

-- each exchange has its own response
pub first_has_own : heard_by (exchange 1 1) paired_wrongly ≡ answer_text
first_has_own = refl

pub second_has_own : heard_by (exchange 1 3) paired_wrongly ≡ yo_text
second_has_own = refl

-- what holds of a tape and of each that it goes back to
abbrev AtEach : (List Entry → Type 0) → List Entry → Type 0
AtEach P [] = P []
AtEach P (e ∷ t) = P (e ∷ t) × AtEach P t

at_here : (P : List Entry → Type 0) (t : List Entry) → AtEach P t → P t
at_here P [] a = a
at_here P (e ∷ t) a = a.0

at_earlier : (P : List Entry → Type 0) (later earlier : List Entry) → AtEach P (later ++ earlier) → P earlier
at_earlier P [] earlier a = at_here P earlier a
at_earlier P (e ∷ later) earlier a = at_earlier P later earlier a.1

-- of the first exchange nothing was heard, or its own response
abbrev HeardOwn : List Entry → Type 0
HeardOwn t =
    (heard_by (exchange 1 1) t ≡ [])
    ⊎ ((heard_by (exchange 1 1) t ≡ answer_text) × (ended_by (exchange 1 1) t ≡ false) × (is_to_head (items by_keeping 1 t) ≡ false))

heard_own_all : AtEach HeardOwn paired_wrongly
unfolding total_size
heard_own_all = (
  inr (refl, refl, refl),
  (inr (refl, refl, refl), (inr (refl, refl, refl), (inr (refl, refl, refl), (inr (refl, refl, refl), (inr (refl, refl, refl), (inl refl, (inl refl, (inl refl, (inl refl, (inl refl, (inl refl, inl refl))))))))))),
)

abbrev yo : Delivery
yo = record { interims = []; head = Some answer.head; body = codes "yo"; ends = Some [] }

reads_yo : ReadsAs (items_on 1 (sent paired_wrongly)) yo
reads_yo = record {
  interim_items = [];
  rest = items_on 1 (sent paired_wrongly);
  is = refl;
  interims = tt;
  answer = (record { digits = codes "200"; is = refl; three = refl; are_digits = refl; status = refl; no_other = refl }, omega arith, (refl, refl, refl));
}

-- the first stream has one exchange
is_first : (o : Opened) → IsIn o (exchanges paired_wrongly) → o.stream ≡ 1 → o ≡ exchange 1 1
is_first o (inl same) given = let clash : 3 ≡ 1 = sym (ap (λ (p : Opened). p.stream) same) ∙ given in absurd (omega (arith, clash))
is_first o (inr (inl same)) given = same
is_first o (inr (inr none)) given = absurd none

not_yo : (source : Delivery) → OffersNothing source → IsPartOf yo source → ⊥
not_yo source none part = let clash : ◌≡◌ {A = Option Head} (Some answer.head) None = no_head_of_nothing yo source none part in cc

shown_yo : (source : Delivery) → IsShown Whole answer_text false false source → IsPartOf yo source → ⊥
shown_yo source (inl a) part =
    let same = one_response answer_text false false a.response answer.response a.is_whole answer.answered in
    let body : source.body ≡ codes "hi" = ap (λ (d : Delivery). d.body) a.says ∙ ap (λ (r : Response). r.body) same in
    let clash : 104 ≡ 121 = ap (λ (l : List ℕ). get_or l 0 0) (sym body ∙ part.body.is) in
    omega (arith, clash)
shown_yo source (inr b) part = b.not_whole (answer.response, answer.answered)

shown_nothing : (ended to_head : Bool) (source : Delivery) → IsShown Whole [] ended to_head source → OffersNothing source
shown_nothing ended to_head source (inl a) = nothing_offered ended to_head source a
shown_nothing ended to_head source (inr b) = nothing_begun Whole ended to_head source b

passed_yo : (earlier : List Entry) (source : Delivery) (p : IsPassedOn by_keeping earlier 1 source) → p.o ≡ exchange 1 1 → HeardOwn earlier → IsPartOf yo source → ⊥
passed_yo earlier source p first own part = elim own [
  | inl none ↦ not_yo source (shown_nothing (ended_by p.o earlier) (is_to_head (items by_keeping 1 earlier)) source (subst (λ (x : List ℕ). IsShown Whole x (ended_by p.o earlier) (is_to_head (items by_keeping 1 earlier)) source) (ap (λ (o : Opened). heard_by o earlier) first ∙ none) p.shows)) part
  | inr all ↦ shown_yo source
      (subst (λ (b : Bool). IsShown Whole answer_text false b source) all.2
      (subst (λ (b : Bool). IsShown Whole answer_text b (is_to_head (items by_keeping 1 earlier)) source) (ap (λ (o : Opened). ended_by o earlier) first ∙ all.1)
      (subst (λ (x : List ℕ). IsShown Whole x (ended_by p.o earlier) (is_to_head (items by_keeping 1 earlier)) source) (ap (λ (o : Opened). heard_by o earlier) first ∙ all.0) p.shows)))
      part
]

no_cause : (course by_keeping 1 paired_wrongly).cause ≡ None
unfolding total_size
no_cause = refl

offered_yo : (later earlier : List Entry) (source : Delivery) → paired_wrongly ≡ later ++ earlier → IsOffered by_keeping earlier 1 source → IsPartOf yo source → ⊥
offered_yo later earlier source is (inl replied) part =
    let none : (course by_keeping 1 earlier).cause ≡ None = cause_earlier by_keeping 1 later earlier (subst (λ (t : List Entry). (course by_keeping 1 t).cause ≡ None) is no_cause) in
    let clash : ◌≡◌ {A = Option Cause} None (Some replied.cause) = sym none ∙ replied.has_cause in cc
offered_yo later earlier source is (inr passed) part =
    let there : IsIn passed.o (exchanges paired_wrongly) = subst (λ (t : List Entry). IsIn passed.o (exchanges t)) (sym is) (opened_earlier passed.o later earlier passed.given.is_opened) in
    passed_yo earlier source passed (is_first passed.o there passed.given.is_given) (at_earlier HeardOwn later earlier (subst (AtEach HeardOwn) is heard_own_all)) part

pub pairs_wrongly : ResponsesHold by_keeping paired_wrongly → ⊥
pairs_wrongly c =
    let d = c.delivered 1 in
    let same : d.delivery ≡ yo = one_delivery (items_on 1 (sent paired_wrongly)) d.delivery yo d.reads reads_yo in
    elim d.offered [
      | inl none ↦ (let clash : ◌≡◌ {A = Option Head} (Some answer.head) None = ap (λ (x : Delivery). x.head) (sym same ∙ none) in cc)
      | inr was ↦ offered_yo was.later was.earlier was.source was.is was.offered (subst (λ (x : Delivery). IsPartOf x was.source) same was.part)
    ]

-- The gateway that sends the first stream its own response keeps the clause.
abbrev pub paired_rightly : List Entry
paired_rightly = out (frame 0 1 1 (codes "hi")) ∷ out_headed (frame 1 4 1 ok_block) ok_two ∷ both_heard

abbrev hi : Delivery
hi = record yo { body = codes "hi" }

reads_hi : ReadsAs (items_on 1 (sent paired_rightly)) hi
reads_hi = record {
  interim_items = [];
  rest = items_on 1 (sent paired_rightly);
  is = refl;
  interims = tt;
  answer = (record { digits = codes "200"; is = refl; three = refl; are_digits = refl; status = refl; no_other = refl }, omega arith, (refl, refl, refl));
}

offered_hi : IsOffered by_keeping paired_rightly 1 hi
unfolding total_size
offered_hi = inr (record {
  no_reply = inl refl;
  o = exchange 1 1;
  given = record { is_opened = inr (inl refl); is_given = refl };
  shows = inl (record { response = answer.response; is_whole = answer.answered; says = refl });
})

delivered_hi : IsDelivered by_keeping paired_rightly 1
delivered_hi = record {
  delivery = hi;
  reads = reads_hi;
  offered = inr (record {
    later = [];
    earlier = paired_rightly;
    is = refl;
    no_more = refl;
    source = hi;
    offered = offered_hi;
    part = record { interims = refl; head_is = refl; body = record { rest = []; is = refl }; ended = λ trailers e. (e, refl) };
  });
}

-- what the frames bring a stream, by whether it is stream 0 and whether it is stream 1
abbrev brought : Bool → Bool → List Item
brought of_all of_first =
    ((([] ++ (if of_all then [] else [])) ++ (if of_all then [] else [])) ++ (if of_first then Block ok_two false ∷ [] else []))
    ++ (if of_first then Content (codes "hi") true ∷ [] else [])

none_beside : (of_all : Bool) → brought of_all false ≡ []
none_beside true = refl
none_beside false = refl

unread : (stream : ℕ) → items_on stream (sent paired_rightly) ≡ [] → IsDelivered by_keeping paired_rightly stream
unread stream none = record {
  delivery = nothing;
  reads = subst (λ (x : List Item). ReadsAs x nothing) (sym none) reads_nothing;
  offered = inl refl;
}
  where
    reads_nothing : ReadsAs [] nothing
    reads_nothing = record { interim_items = []; rest = []; is = refl; interims = tt; answer = (refl, refl, refl) }

pub pairs_rightly : ResponsesHold by_keeping paired_rightly
pairs_rightly = record {
  table = first_table;
  decodes = (first_table, (first_table, begun_decodes, ok_spelled, refl), (refl, refl), refl);
  decoded = refl;
  together = (refl, (refl, (refl, (refl, tt))));
  none_begun = refl;
  limits = (
    tt,
    (
      record {
        table = first_table;
        decodes = begun_decodes;
        maxima = [];
        fields = ok_two;
        next = first_table;
        is_block = answer.is_block;
        within = record {
          come_down = λ k d lt. absurd (omega (arith, lt));
          named = λ k d lt. absurd (omega (arith, lt));
          stands = omega arith;
          few = omega arith;
        };
      },
      (tt, (tt, tt)),
    ),
  );
  delivered = λ stream. elim (eqb_tells 1 stream) [
    | inl same ↦ subst (λ (s : ℕ). IsDelivered by_keeping paired_rightly s) same.1 delivered_hi
    | inr apart ↦ unread stream (ap (λ (b : Bool). brought (0 == stream) b) apart.0 ∙ none_beside (0 == stream))
  ];
}

-- ---- it opens another connection while one of the route is idle

pub opens_beside_idle : BeginInTime by_keeping (Did (Open 2 0) ∷ second_came) → ⊥
opens_beside_idle c = c.1 1 idle refl

-- ---- it closes a connection that may be kept

-- Others would have to be idle, and no other is open.
none_others : (ks : List ℕ) → list_any (λ j. j == 1) ks ≡ false → AreIdle by_keeping first_heard ks → 8 ≤ length ks → ⊥
none_others [] apart are many = omega (arith, many)
none_others (k ∷ ks) apart are many = elim (eqb_tells k 1) [
  | inl same ↦ (let clash : true ≡ false = sym (ap (λ b. b || list_any (λ j. j == 1) ks) same.0) ∙ apart in cc)
  | inr other ↦ (let clash : false ≡ true = sym (ap (λ b. if b then true else false) other.0) ∙ are.0.is_open in cc)
]

-- as its response comes,
pub closes_kept : IsDoneWith by_keeping (Did (Close 1) ∷ first_heard) 1 first_heard → ⊥
unfolding total_size
closes_kept c =
    let many = c.not_kept (kept_on Whole (Did (Close 1) ∷ first_heard) (exchange 1 1) refl refl refl refl refl) in
    none_others many.others many.distinct.0 many.are_idle many.many

-- or later, as its stream is reset that is over
abbrev pub reset_later : List Entry
reset_later = plain (reset 1 8) ∷ first_answered

pub closes_behind_reset : IsDoneWith by_keeping (Did (Close 1) ∷ reset_later) 1 reset_later → ⊥
unfolding total_size
closes_behind_reset c =
    let many = c.not_kept (kept_on Whole (Did (Close 1) ∷ reset_later) (exchange 1 1) refl refl refl refl refl) in
    let clash : 0 ≡ 1 = many.is_new in omega (arith, clash)

-- ---- it keeps a connection, and says that it closes it

closing_head : (more : List ℕ) (r : Request) → Joined H1Open (first.text ++ more) (r ∷ []) → ⊥
closing_head more r (front, rest, one, is, none) =
    let q = one.reads in
    let whole : first.text ++ more ≡ q.head_text ++ (q.content ++ rest) = is ∙ ap (λ (x : List ℕ). x ++ rest) q.is ∙ append_assoc q.head_text q.content rest in
    let heads = one_head first.text q.head_text more (q.content ++ rest) first.read_head q.head first.has_read_head q.has_head whole in
    let clash : true ≡ false = ap (λ (h : H1.Head). H1.asks_to_close h) heads.1 ∙ one.stays_open in
    cc

stays_open_not : (known : Known) (more : List ℕ) (r : Request) → known.setup.keep ≡ true → StayOpen known (first.text ++ more) (H1.forward r ∷ []) → ⊥
stays_open_not known more r keep stays = closing_head more (H1.forward r) (stays keep)

-- Whatever the tape, a text that says `connection: close` isn't what an exchange on a kept connection is sent, nor does one begin so.
pub says_close : (known : Known) (t : List Entry) (o : Opened) → known.setup.keep ≡ true → IsSent known t (o ∷ []) first.text → ⊥
says_close known t o keep (inl whole) = at whole.requests whole.mean whole.all.stay_open
  where
    at : (rs : List Request) → AreMeant known t (o ∷ []) rs → StayOpen known first.text (forwarded rs) → ⊥
    at [] mean stays = mean
    at (r ∷ []) mean stays = stays_open_not known [] r keep stays
    at (r ∷ s ∷ rs) mean stays = mean.1
says_close known t o keep (inr part) =
    let on = part.goes_on part.some.0 part.some.1 in
    at part.earlier part.mean on.whole on.is_front on.all.stay_open
  where
    next : Request
    next = part.some.0

    at : (rs : List Request) → AreMeant known t [] rs → (whole : List ℕ) → IsStrictFront first.text whole
        → StayOpen known whole (forwarded (next ∷ rs)) → ⊥
    at [] mean whole front stays =
        let more : List ℕ = front.next ∷ front.rest in
        stays_open_not known more next keep (subst (λ (x : List ℕ). StayOpen known x (H1.forward next ∷ [])) front.is stays)
    at (r ∷ rs) mean whole front stays = mean
