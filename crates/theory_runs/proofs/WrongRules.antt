-- Rules that would be wrong: for each the move that the rule refuses, by the field that fails, in any state where that is so; and a
-- tape that the wrong rule would lead to, with the clause that it breaks.
use Rattle.std.proofs.Common.{◌≡◌, ℕ, ◌<◌, Bool, true, false, List, [], ◌∷◌, ◌++◌, length, Option, Some, None, refl, sym, ap, ◌∙◌, subst, inl, inr, arith, pos}
use Rattle.std.specs.Prelude.{codes, nat_abs, ◌≤ℤ◌}
use Rattle.std.specs.List.{list_any}
use Rattle.std.specs.Str.Parse.{digits_value}
use Rattle.model.specs.Messages.{Field, Item}
use Rattle.model.specs.Messages.Item.{Block, Content}
use Rattle.model.specs.Tables.{Table, total_size}
use Rattle.model.specs.Frames.{Frame, data_kind, goaway, protocol_error}
use Rattle.model.specs.Setup.{Setup}
use Rattle.model.specs.Tapes.Note.{NoBlock}
use Rattle.model.specs.Decoding.{Partial}
use Rattle.model.specs.FrameErrors.{is_between}
use Rattle.model.specs.WindowsOnTape.{increment}
use Rattle.model.specs.ResponseHeads.{Head}
use Rattle.model.specs.Deliveries.{End, Delivery, ReadsAs, IsSection, AreInterims, IsAnsweredBy, IsAnswer, IsPart, IsPartOf}
use Rattle.model.specs.Openings.{Opened, exchanges}
use Rattle.model.specs.Available.{heard_by, ended_by, items_on, IsIn, IsShown}
use Rattle.model.specs.Causes.{Cause, reply_head}
use Rattle.model.specs.Causes.Cause.{BadAnswer}
use Rattle.model.specs.Courses.{items}
use Rattle.model.specs.Http2.{pseudo_fields}
use Rattle.model.specs.Offers.{is_to_head, IsOffered, WasOffered, IsDelivered}
use Rattle.model.proofs.OfferLemmas.{OffersNothing, nothing_begun, nothing_offered}
use Rattle.model.specs.ResponseClause.{ResponsesHold}
use Rattle.model.specs.ErrorClause.{ErrorsHold}
use Rattle.model.specs.ProgressClause.{AreClosed}
use Rattle.model.specs.ProgressClause.Reason.{Over}
use Rattle.model.specs.WindowClause.{WindowsHold}
use Rattle.model.specs.Setup.Passing.{Whole, Streaming}
use Rattle.model.specs.Logs.Act.{Open, ToUp}
use Rattle.model.specs.Tapes.{Noted, Entry, sent}
use Rattle.model.specs.Tapes.Note.{Fields}
use Rattle.model.specs.Tapes.Entry.{Came, Breached, Happened, Sent, Did}
use Rattle.model.specs.Known.{Known}
use Rattle.theory_errors.specs.Summary.{Summary}
use Rattle.theory_errors.specs.Judging.{is_crowded_in}
use Rattle.theory_errors.specs.Rule.{IsInTurn}
use Rattle.theory_errors.specs.Book.{as_point, summary_in}
use Rattle.theory_responses.specs.Outbox.{Outbox, Part, IsNext, silent}
use Rattle.theory_responses.specs.Outbox.Outbox.{Before, Behind}
use Rattle.theory_responses.specs.Outbox.Part.{Final, Octets}
use Rattle.theory_responses.specs.Sight.{sight_in}
use Rattle.theory_responses.specs.State.{Kept, find}
use Rattle.theory_requests.specs.Rule.{is_done}
use Rattle.theory.specs.Moves.{Decision, entry_of, comes_in, told_in}
use Rattle.theory.specs.Moves.Decision.{Sends, Goes}
use Rattle.theory.specs.State.{State, tape_of}
use Rattle.theory.specs.Rule.{MayDo}
use Rattle.theory.specs.Steps.{told_by}
use Rattle.theory_runs.proofs.Greeting.{setup as one_route, frame, plain, greeted}
use Rattle.theory_runs.proofs.Request.{forwarded}
use Rattle.theory_runs.proofs.Answer.{ok, sized, encoded, begun, at_forwarded, at_begun, half_out}
use Rattle.theory_runs.proofs.Failure.{bad, empty, with_both, reply_out}
use Rattle.theory_runs.proofs.Window as window

module _ (setup : Setup) (s u : Summary) (x : State) where
  -- the decision may be done here
  abbrev May : Decision → Type 0
  May d = MayDo setup s u x d

  -- A part that goes out is the next of what is kept of its stream, and within its window.
  record Fits (noted : Noted) (part : Part) (k : Kept) : Type 0 where
    next : IsNext k.box part
    own : noted.frame.kind ≡ data_kind → 0 < length noted.frame.payload → pos (length noted.frame.payload) ≤ℤ (sight_in s).own noted.frame.id

  fits : (noted : Noted) (item : Item) (part : Part) (table : Table) (k : Kept) → find noted.frame.id x.offers.kept ≡ Some k → May (Goes noted item part table) → Fits noted part k
  fits noted item part table k found may =
      let go = may.offer.0 in
      let same : go.kept ≡ k = one go.kept (sym go.found ∙ found) in
      record { next = subst (λ (j : Kept). IsNext j.box part) same go.next; own = go.own }
    where
      one : (j : Kept) → ◌≡◌ {A = Option Kept} (Some j) (Some k) → j ≡ k
      one j e = cc

  -- ---- an end too early

  -- Octets don't end a stream whose response isn't whole.
  pub no_early_end : (noted : Noted) (item : Item) (octets body : List ℕ) (table : Table) (k : Kept) → find noted.frame.id x.offers.kept ≡ Some k → k.box ≡ Behind body None → May (Goes noted item (Octets octets true) table) → ⊥
  no_early_end noted item octets body table k found box may =
      let next = subst (λ (b : Outbox). IsNext b (Octets octets true)) box (fits noted item (Octets octets true) table k found may).next in
      let clash : ◌≡◌ {A = End} None (Some []) = next.2.1 in cc

  -- Nor does a head, nor does one go of which nothing came.
  pub no_early_head : (noted : Noted) (item : Item) (head : Head) (ends : Bool) (body : List ℕ) (all : End) (table : Table) (k : Kept) → find noted.frame.id x.offers.kept ≡ Some k → k.box ≡ Before [] None body all → May (Goes noted item (Final head ends) table) → ⊥
  no_early_head noted item head ends body all table k found box may =
      let next = subst (λ (b : Outbox). IsNext b (Final head ends)) box (fits noted item (Final head ends) table k found may).next in
      let clash : ◌≡◌ {A = Option Head} None (Some head) = next.0 in cc

  -- ---- a window ignored

  -- More octets of DATA than its window takes don't go out on a stream.
  pub no_overrun : (noted : Noted) (item : Item) (part : Part) (table : Table) (k : Kept) → find noted.frame.id x.offers.kept ≡ Some k → noted.frame.kind ≡ data_kind → 0 < length noted.frame.payload → (pos (length noted.frame.payload) ≤ℤ (sight_in s).own noted.frame.id → ⊥) → May (Goes noted item part table) → ⊥
  no_overrun noted item part table k found is_data some past may = past ((fits noted item part table k found may).own is_data some)

  -- ---- a reply behind a head

  -- No head goes behind the final one: the stream is reset.
  pub no_second_head : (noted : Noted) (item : Item) (head : Head) (ends : Bool) (body : List ℕ) (all : End) (table : Table) (k : Kept) → find noted.frame.id x.offers.kept ≡ Some k → k.box ≡ Behind body all → May (Goes noted item (Final head ends) table) → ⊥
  no_second_head noted item head ends body all table k found box may = subst (λ (b : Outbox). IsNext b (Final head ends)) box (fits noted item (Final head ends) table k found may).next

  -- ---- a block dropped

  -- Where a block is begun nothing goes out but its rest.
  pub no_block_left : (noted : Noted) (item : Item) (part : Part) (table : Table) → is_between s.block_out noted.frame ≡ true → May (Goes noted item part table) → ⊥
  no_block_left noted item part table between may = let clash : true ≡ false = sym between ∙ may.table.together in cc

  -- Nor does the gateway rest there, so that nothing comes in.
  pub no_rest_in_block : (d : Decision) (block : Partial) → comes_in (entry_of d) ≡ true → x.ledger.book.block_out ≡ Some block → May d → ⊥
  no_rest_in_block d block incoming begun_one may = let clash : ◌≡◌ {A = Option Partial} (Some block) None = sym begun_one ∙ (may.rests incoming).conduct.none_begun in cc

  -- ---- an octet given back early

  -- What goes back on the connection is what is owed: no octet that waits yet.
  pub no_early_octet : (payload : List ℕ) (table : Table) → (increment (frame 8 0 0 payload) ≡ x.windows.debt → ⊥) → May (Sends (record { frame = frame 8 0 0 payload; note = NoBlock }) table) → ⊥
  no_early_octet payload table other may = other may.window.owed

  -- ---- a connection left open

  -- Nothing comes in while a connection that is done with is open.
  pub none_left_open : (d : Decision) → comes_in (entry_of d) ≡ true → list_any (is_done (told_in s)) x.requests.live ≡ true → May d → ⊥
  none_left_open d incoming done may = let clash : true ≡ false = sym done ∙ (may.rests incoming).served.none_done in cc

  -- ---- a GOAWAY twice

  -- No GOAWAY goes out that isn't owed, while few octets are untaken.
  pub no_second_goaway : (last code : ℕ) (table : Table) → is_crowded_in (summary_in x.ledger.book) ≡ false → x.ledger.queue ≡ [] → May (Sends (record { frame = goaway last code; note = NoBlock }) table) → ⊥
  no_second_goaway last code table few none may = by may.conduct.allowed.turn
    where
      by : IsInTurn (as_point x.ledger) (Sent (record { frame = goaway last code; note = NoBlock })) → ⊥
      by (inl due) = let clash : ◌≡◌ {A = List Frame} [] (goaway last code ∷ _) = sym none ∙ due.front in cc
      by (inr (inl pass)) = let clash : false ≡ true = pass.passing in cc
      by (inr (inr stand)) = let clash : false ≡ true = sym few ∙ stand.crowded_so in cc

-- ---- the tapes: those of allowed runs, with what the wrong rule lets stand behind them

abbrev by_whole : Known
by_whole = record { setup = one_route; failures = [] }

abbrev by_streaming : Known
by_streaming = record { setup = record one_route { passing = Streaming }; failures = [] }

-- It ends a response of which nothing came yet: no head is on offer at any place where the client has read what it reads.
unsaid_before : (e : Entry) (t : List Entry) → items_on 1 (sent (e ∷ t)) ≡ [] → items_on 1 (sent t) ≡ []
unsaid_before (Sent noted) t none = front (items_on 1 (sent t)) _ none
  where
    front : (xs ys : List Item) → xs ++ ys ≡ [] → xs ≡ []
    front [] ys e = refl
    front (x ∷ xs) ys e = cc
unsaid_before (Came noted) t none = none
unsaid_before (Breached breach) t none = none
unsaid_before (Happened event) t none = none
unsaid_before (Did act) t none = none

unsaid_earlier : (later earlier : List Entry) → items_on 1 (sent (later ++ earlier)) ≡ [] → items_on 1 (sent earlier) ≡ []
unsaid_earlier [] earlier none = none
unsaid_earlier (e ∷ later) earlier none = unsaid_earlier later earlier (unsaid_before e (later ++ earlier) none)

abbrev early : List Entry
early = Sent reply_out ∷ tape_of forwarded

-- nothing is on offer behind it
none_offered : (source : Delivery) → IsOffered by_whole early 1 source → OffersNothing source
unfolding total_size
none_offered source (inl replied) = absurd (let clash : ◌≡◌ {A = Option Cause} None (Some replied.cause) = replied.has_cause in cc)
none_offered source (inr passed) = of passed.o passed.given.is_opened passed.shows
  where
    answers : (ended to_head : Bool) → IsShown Whole [] ended to_head source → OffersNothing source
    answers ended to_head (inl all) = nothing_offered ended to_head source all
    answers ended to_head (inr part) = nothing_begun Whole ended to_head source part

    of : (o : Opened) → IsIn o (exchanges early) → IsShown Whole (heard_by o early) (ended_by o early) (is_to_head (items by_whole 1 early)) source → OffersNothing source
    of o (inl same) shows = answers false false (subst (λ (p : Opened). IsShown Whole (heard_by p early) (ended_by p early) false source) same shows)
    of o (inr none) shows = absurd none

-- it says a head
one_head : (delivery : Delivery) → ReadsAs (Block (bad ∷ empty ∷ []) true ∷ []) delivery → delivery.head ≡ None → ⊥
one_head delivery r none = at r.interim_items r.rest delivery.interims r.is r.interims (subst (λ h. IsAnsweredBy r.rest h delivery.body delivery.ends) none r.answer)
  where
    at : (front rest : List Item) (heads : List Head) → Block (bad ∷ empty ∷ []) true ∷ [] ≡ front ++ rest → AreInterims front heads → IsAnsweredBy rest None delivery.body delivery.ends → ⊥
    at [] rest heads e i a = let clash : Block (bad ∷ empty ∷ []) true ∷ [] ≡ (let none : List Item = [] in none) = e ∙ a.0 in cc
    at (Content octets ends ∷ front) rest heads e i a = cc
    at (Block fields true ∷ front) rest [] e i a = i
    at (Block fields true ∷ front) rest (head ∷ heads) e i a = i
    at (Block fields false ∷ front) rest heads e i a = cc

no_head_of : (part all : Delivery) → OffersNothing all → IsPartOf part all → part.head ≡ None
no_head_of part all none is = at part.head is
  where
    at : (head : Option Head) → IsPart head part all → head ≡ None
    at None is = refl
    at (Some head) is = let clash : ◌≡◌ {A = Option Head} None (Some head) = sym none.1 ∙ is.head_is in cc

pub ends_too_early : IsDelivered by_whole early 1 → ⊥
ends_too_early d = one_head d.delivery d.reads (elim d.offered [
  | inl none ↦ ap (λ (x : Delivery). x.head) none
  | inr was ↦ at was.later was was.is
])
  where
    at : (later : List Entry) → (was : WasOffered by_whole early 1 d.delivery) → early ≡ later ++ was.earlier → d.delivery.head ≡ None
    at [] was is = no_head_of d.delivery was.source (none_offered was.source (subst (λ (x : List Entry). IsOffered by_whole x 1 was.source) (sym is) was.offered)) was.part
    at (e ∷ later) was is =
        let rest : tape_of forwarded ≡ later ++ was.earlier = cc in
        let none = unsaid_earlier later was.earlier (ap (λ (x : List Entry). items_on 1 (sent x)) (sym rest)) in
        absurd (let clash : Block (bad ∷ empty ∷ []) true ∷ [] ≡ (let none_at_all : List Item = [] in none_at_all) = was.no_more ∙ none in cc)

-- It sends two octets of DATA where settings left a window of one.
pub ignores_window : WindowsHold by_whole (Sent (plain (frame 0 1 1 (codes "hi"))) ∷ tape_of window.begun) → ⊥
unfolding total_size
ignores_window c = let within = c.keeps.0 refl (omega arith) in let clash : pos 2 ≤ℤ pos 1 = within.own in omega (arith, clash)

-- It replies itself behind the head of a response: no client reads two final heads.
two_heads : (delivery : Delivery) → ReadsAs (Block (ok ∷ sized ∷ []) false ∷ Block (bad ∷ empty ∷ []) true ∷ []) delivery → ⊥
two_heads delivery r = at r.interim_items r.rest delivery.interims delivery.head r.is r.interims r.answer
  where
    first_value : List Field → List ℕ
    first_value [] = []
    first_value (field ∷ fields) = field.value

    late : (fields : List Field) (head : Head) → ok ∷ sized ∷ [] ≡ fields → IsSection fields head → head.status < 200 → ⊥
    late fields head e section low =
        let both : ok ∷ sized ∷ [] ≡ record { name = codes ":status"; value = section.digits } ∷ head.fields = e ∙ section.is in
        let digits : codes "200" ≡ section.digits = ap first_value both in
        let status : head.status ≡ 200 = section.status ∙ ap (digits_value 10) (sym digits) in
        omega (arith, status, low)

    at : (front rest : List Item) (heads : List Head) (head : Option Head) → Block (ok ∷ sized ∷ []) false ∷ Block (bad ∷ empty ∷ []) true ∷ [] ≡ front ++ rest → AreInterims front heads → IsAnsweredBy rest head delivery.body delivery.ends → ⊥
    at [] rest heads None e i a = let clash : Block (ok ∷ sized ∷ []) false ∷ Block (bad ∷ empty ∷ []) true ∷ [] ≡ (let none : List Item = [] in none) = e ∙ a.0 in cc
    at [] rest heads (Some head) e i a = let both = subst (λ (items : List Item). IsAnswer items head delivery.body delivery.ends) (sym e) a in let plain : pseudo_fields (bad ∷ empty ∷ []) ≡ [] = both.2.4 in cc
    at (Content octets ends ∷ front) rest heads head e i a = cc
    at (Block fields true ∷ front) rest heads head e i a = cc
    at (Block fields false ∷ front) rest [] head e i a = i
    at (Block fields false ∷ front) rest (first ∷ heads) head e i a = let same : ok ∷ sized ∷ [] ≡ fields = cc in late fields first same i.0 i.1

pub replies_behind_head : IsDelivered by_whole (Sent reply_out ∷ tape_of begun) 1 → ⊥
unfolding total_size
replies_behind_head d = two_heads d.delivery d.reads

-- It drops the rest of a block, and goes on with DATA.
pub drops_block : ResponsesHold by_whole (Sent (plain (frame 0 1 1 (codes "hi"))) ∷ Sent (plain (frame 1 0 1 (136 ∷ []))) ∷ tape_of forwarded) → ⊥
unfolding total_size
drops_block c = let clash : true ≡ false = c.together.0 in cc

-- It gives five octets back of which the upstream's side has taken none.
abbrev streamed : List Entry
streamed =
    Did (ToUp 1 (codes "hell"))
    ∷ Came (plain (frame 0 0 1 (codes "hello")))
    ∷ Did (ToUp 1 (codes "HEAD"))
    ∷ Did (Open 1 0)
    ∷ Came (record { frame = frame 1 4 1 []; note = Fields [] })
    ∷ tape_of greeted

pub gives_early : WindowsHold by_streaming (Sent (plain (frame 8 0 0 (0 ∷ 0 ∷ 0 ∷ 5 ∷ []))) ∷ streamed) → ⊥
unfolding total_size
gives_early c = let back = c.gives_back refl in let clash : 65535 ≡ 65530 = ap nat_abs back.shared in omega (arith, clash)

-- It leaves a connection open though the client reset its stream.
pub leaves_open : AreClosed by_whole (Came (plain (frame 3 0 1 (0 ∷ 0 ∷ 0 ∷ 8 ∷ []))) ∷ tape_of forwarded) → ⊥
unfolding total_size
leaves_open all = let kept = all 1 refl (Over refl) in let clash : false ≡ true = kept.keeps in cc

-- It says GOAWAY twice: DATA came on a stream that wasn't opened.
pub bids_goaway_twice : ErrorsHold by_whole (Sent (plain (goaway 0 protocol_error)) ∷ Sent (plain (goaway 0 protocol_error)) ∷ Came (plain (frame 0 0 3 (120 ∷ []))) ∷ tape_of greeted) → ⊥
unfolding total_size
bids_goaway_twice c = let clash : 4 ≡ 3 = ap length c.just_owed in omega (arith, clash)

-- ---- and the rule refuses them where these runs stand

-- the early end
pub early_refused : (u : Summary) → MayDo one_route (told_by at_forwarded) u at_forwarded (Goes reply_out (Block (bad ∷ empty ∷ []) true) (Final (reply_head BadAnswer) true) with_both) → ⊥
early_refused u may = no_early_head one_route (told_by at_forwarded) u at_forwarded reply_out (Block (bad ∷ empty ∷ []) true) (reply_head BadAnswer) true [] None with_both (record { id = 1; box = silent; cut = false }) refl refl may

-- DATA past the window
pub overrun_refused : (u : Summary) → MayDo one_route (told_by window.at_begun) u window.at_begun (Goes (plain (frame 0 1 1 (codes "hi"))) (Content (codes "hi") true) (Octets (codes "hi") true) encoded) → ⊥
overrun_refused u may = no_overrun one_route (told_by window.at_begun) u window.at_begun (plain (frame 0 1 1 (codes "hi"))) (Content (codes "hi") true) (Octets (codes "hi") true) encoded window.behind_head refl refl (omega arith) (λ within. let clash : pos 2 ≤ℤ pos 1 = within in omega (arith, clash)) may

-- the reply behind a head
pub second_head_refused : (u : Summary) → MayDo one_route (told_by at_begun) u at_begun (Goes reply_out (Block (bad ∷ empty ∷ []) true) (Final (reply_head BadAnswer) true) with_both) → ⊥
second_head_refused u may = no_second_head one_route (told_by at_begun) u at_begun reply_out (Block (bad ∷ empty ∷ []) true) (reply_head BadAnswer) true (codes "hi") (Some []) with_both half_out refl refl may

-- a GOAWAY that isn't owed
pub goaway_refused : (u : Summary) → MayDo one_route (told_by at_forwarded) u at_forwarded (Sends (plain (goaway 0 protocol_error)) encoded) → ⊥
goaway_refused u may = no_second_goaway one_route (told_by at_forwarded) u at_forwarded 0 protocol_error encoded refl refl may

-- octets that aren't owed
pub octets_refused : (u : Summary) → MayDo one_route (told_by at_forwarded) u at_forwarded (Sends (plain (frame 8 0 0 (0 ∷ 0 ∷ 0 ∷ 5 ∷ []))) encoded) → ⊥
octets_refused u may = no_early_octet one_route (told_by at_forwarded) u at_forwarded (0 ∷ 0 ∷ 0 ∷ 5 ∷ []) encoded (λ is. let clash : 5 ≡ 0 = is in omega (arith, clash)) may
