-- Kept connections where messages end with trailers, and where the gateway leaves for a flood.
use Rattle.std.proofs.Common.{◌≡◌, ℕ, Bool, true, false, ◌||◌, List, [], ◌∷◌, ◌++◌, refl, sym, ap, ◌∙◌}
use Rattle.std.specs.Prelude.{codes}
use Rattle.model.specs.Octets.{IsStrictFront}
use Rattle.model.specs.Messages.{Field, Request}
use Rattle.model.specs.Http1.{Line, Chunked, H1Open, AreRequests, forward}
use Rattle.model.specs.Responses.{IsComplete}
use Rattle.model.specs.Tapes.{Noted, Entry, is_closed}
use Rattle.model.specs.Tapes.Entry.{Sent}
use Rattle.model.specs.Admission.{is_open}
use Rattle.model.specs.Lifetimes.{is_exhausted}
use Rattle.model.specs.Known.{Known}
use Rattle.model.specs.Idle.{LeavesOpen}
use Rattle.model.specs.ErrorClause.{is_calming, calls_for_end, must_end}
use Rattle.model.specs.RequestClause.{MayBeServed}
use Rattle.model.specs.ProgressClause.{AreClosed, IsDoneWith}
use Rattle.model.specs.ProgressClause.Reason.{ClientClosed}
use Rattle.model.proofs.FirstLog.{field}
use Rattle.model.proofs.Http1Texts.{Frames, IsSendable, text_open}
use Rattle.model.proofs.OpenLaws.{behind_open}
use Rattle.model.proofs.TrailerTexts as answer
use Rattle.model_examples.proofs.KeepExamples.{getk, request, opens_for_more}

-- ---- a response with trailers

abbrev pub answered : List ℕ
answered = answer.answer_head ++ answer.answer_rest

-- Behind its trailers the connection may be kept,
pub may_be_kept : LeavesOpen answered false
may_be_kept = answer.leaves_open

-- within them the response isn't whole,
pub not_within : (front : List ℕ) → IsStrictFront front answered → IsComplete front false false → ⊥
not_within front strict = answer.leaves_open.no_more front strict

-- and with an octet behind them the connection is closed.
pub not_behind_more : LeavesOpen (answered ++ codes "X") false → ⊥
not_behind_more l = l.no_more answered (record { next = 88; rest = []; is = refl }) (answer.response, answer.answered)

-- ---- a request with trailers

abbrev x_a : Field
x_a = field (codes "x-a") (codes "1")

abbrev chunked : List Field
chunked = field (codes "transfer-encoding") (codes "chunked") ∷ []

abbrev pub posted : Request
posted = record { method = codes "POST"; target = codes "/"; authority = codes "h"; fields = []; body = []; trailers = x_a ∷ [] }

abbrev pub posted_text : List ℕ
posted_text = codes "POST / HTTP/1.1\r\nhost: h\r\nvia: 2.0 h2gw\r\ntransfer-encoding: chunked\r\n\r\n0\r\nx-a: 1\r\n\r\n"

line_a : Line (codes "x-a: 1\r\n") x_a
line_a = record { name = codes "x-a"; before = codes " "; after = []; is = refl; is_token = refl; space_before = refl; is_value = refl; space_after = refl; is_named = refl }

last : Chunked (codes "0\r\nx-a: 1\r\n\r\n") [] (x_a ∷ [])
last = record {
  chunks = [];
  front = [];
  last_size = codes "0";
  lines = codes "x-a: 1\r\n";
  is = refl;
  are_chunks = refl;
  is_size = refl;
  is_last = refl;
  is_body = refl;
  are_lines = (codes "x-a: 1\r\n", [], line_a, refl, refl);
}

frames : Frames chunked (codes "0\r\nx-a: 1\r\n\r\n") [] (x_a ∷ [])
frames = record { lines = refl; no_host = refl; no_option = refl; not_kept = refl; framed = (refl, last) }

sendable : IsSendable posted
sendable = record { method = refl; target = refl; authority = refl; fields = refl }

-- another may stand behind the last of its trailers,
pub opens_for_more_behind : H1Open posted_text (forward posted)
opens_for_more_behind = text_open posted chunked (codes "0\r\nx-a: 1\r\n\r\n") sendable frames

-- and both are read of the connection's text
pub both_read : AreRequests (posted_text ++ getk) (forward posted ∷ forward request ∷ [])
both_read =
    behind_open posted_text getk (forward posted ∷ []) (forward request ∷ [])
    (posted_text, [], opens_for_more_behind, refl, refl) opens_for_more.reads

-- ---- a GOAWAY in place of another frame

absurd_both : (b : Bool) → b ≡ true → b ≡ false → ⊥
absurd_both b so isnt = let clash : true ≡ false = sym so ∙ isnt in cc

-- behind it no exchange begins, on a connection that is idle as on a new one,
pub begins_none : (known : Known) (t : List Entry) (noted : Noted) (stream : ℕ) → is_calming noted.frame ≡ true → MayBeServed known (Sent noted ∷ t) stream → ⊥
begins_none known t noted stream calming may = absurd_both (must_end known (Sent noted ∷ t)) (ap (λ b. (b || calls_for_end known t) || is_exhausted (Sent noted ∷ t)) calming) may.goes_on

-- no connection stays open, idle or not, once it has led to the client's close,
pub none_stays : (known : Known) (t : List Entry) → is_closed t ≡ true → AreClosed known t → (k : ℕ) → is_open k t ≡ true → ⊥
none_stays known t shut closed k on = absurd_both (is_closed t) shut (closed k on (ClientClosed shut)).goes_on

-- and each may be closed before that, idle or not.
pub closes_all : (known : Known) (t earlier : List Entry) → is_closed t ≡ true → (k : ℕ) → is_open k earlier ≡ true → IsDoneWith known t k earlier
closes_all known t earlier shut k on = record { was_open = on; reason = ClientClosed shut; not_kept = λ kept. absurd (absurd_both (is_closed t) shut kept.goes_on) }
