-- Gateways that open connections where none is to be opened, leave a whole request unsent, or send what a server reads otherwise.
use Rattle.std.proofs.Common.{◌≡◌, ℕ, true, false, List, [], ◌∷◌, ◌++◌, refl, sym, ap, ◌∙◌, subst, append_assoc, inl, inr}
use Rattle.std.specs.Prelude.{Option, Some, None, codes}
use Rattle.std.specs.List.{list_all}
use Rattle.std.proofs.lemmas.Bool.{false≢true}
use Rattle.model.specs.Tables.{total_size}
use Rattle.model.specs.Messages.{Request}
use Rattle.model.specs.Octets.{some_of, is_token_octet, is_value, lower}
use Rattle.model.specs.Http1.{Line, crlf, Head, is_target, H1Head, values_of, is_close, asks_to_close, AreRequests, BeginsNoRequest, forward}
use Rattle.model.specs.Http2.{H2Request}
use Rattle.model.specs.Logs.Event.{UpEnd, UpFailed}
use Rattle.model.specs.Logs.Act.{Open, ToUp, Close}
use Rattle.model.specs.Tapes.{Entry}
use Rattle.model.specs.Tapes.Entry.{Happened, Did}
use Rattle.model.specs.Openings.{Opened, exchanges, sent_for}
use Rattle.model.proofs.OpenLaws.{whole_alone}
use Rattle.model.specs.Available.{IsIn}
use Rattle.model.specs.Causes.{Cause}
use Rattle.model.specs.Causes.Cause.{Expects}
use Rattle.model.specs.Courses.{items}
use Rattle.model.specs.RequestClause.{RequestsHold}
use Rattle.model.specs.ProgressClause.{was_cut, AllForwarded}
use Rattle.model.specs.Headline.{ClausesHold, HoldsInTurn}
use Rattle.model.specs.Known.{Known}
use Rattle.model.proofs.Http1Readings.{one_head}
use Rattle.model_examples.proofs.RowTapes.{by_whole, by_streaming, frame, plain, headed, field, get, get_block, post, post_block, begun, got, reset}
use Rattle.model_examples.proofs.RequestRefusals.{five, five_block, five_text, invents}
use Rattle.model_examples.proofs.Refusals.{closes_at_once}
use Rattle.model_examples.proofs.CauseExamples.{expect_octets}
use Rattle.model.proofs.FirstLog as first
use Rattle.model_examples.proofs.BeginningExamples.{known}
use Rattle.model_examples.proofs.HeadlineExamples as example

-- ---- connections for streams that want none

-- It opens one for a stream that the client reset.
pub opens_for_reset : RequestsHold by_whole (Did (Open 1 0) ∷ plain (reset 1 8) ∷ headed (frame 1 5 1 get_block) get ∷ begun) → ⊥
unfolding total_size
opens_for_reset c = let may = c.in_time.0 in let clash : false ≡ true = may.active in cc

-- It opens one for a stream that it answers itself.
abbrev expecting : Entry
expecting = headed (frame 1 5 1 (get_block ++ expect_octets)) (get ++ field (codes "expect") (codes "100-continue") ∷ [])

pub opens_for_answered : RequestsHold by_whole (Did (Open 1 0) ∷ expecting ∷ begun) → ⊥
unfolding total_size
opens_for_answered c = let may = c.in_time.0 in let clash : ◌≡◌ {A = Option Cause} (Some Expects) None = may.no_cause in cc

-- It opens another for a request whose connection failed, and sends it again, however it is set up.
pub sends_again : (setup : Known) → RequestsHold setup (Did (ToUp 2 first.text) ∷ Did (Open 2 0) ∷ Happened (UpFailed 1) ∷ Did (ToUp 1 first.text) ∷ Did (Open 1 0) ∷ headed (frame 1 5 1 get_block) get ∷ begun) → ⊥
unfolding total_size
sends_again setup c = c.apart.0.0 refl

-- It opens one though the frame ends the connection: CONTINUATION outside a header block.
pub opens_at_the_end : RequestsHold by_whole (Did (Open 1 0) ∷ plain (frame 9 4 1 []) ∷ headed (frame 1 5 1 get_block) get ∷ begun) → ⊥
unfolding total_size
opens_at_the_end c = let may = c.in_time.0 in let clash : true ≡ false = may.goes_on in cc

-- ---- a whole request that is never sent

-- A connection was opened for a whole request, and closed when the upstream ended it, before anything was sent. Then the client ends the
-- stream a second time.
abbrev unsent : List Entry
unsent = plain (frame 0 1 1 (codes "x")) ∷ Did (Close 1) ∷ Happened (UpEnd 1) ∷ Did (Open 1 0) ∷ headed (frame 1 5 1 first.block) first.head ∷ begun

-- the second end doesn't count
pub not_cut : was_cut 1 unsent ≡ false
not_cut = refl

means : H2Request (items known 1 unsent) first.request
unfolding total_size
means = record { head = first.head; has_head = refl; well_formed = first.well_formed; no_connect = refl; contents = tt; ends = refl; length_holds = tt; is = refl }

pub never_sent : AllForwarded known unsent → ⊥
never_sent all = let f = all 1 first.request 0 means example.by_route refl in none f.o f.given.is_opened (λ empty. first.nothing_begins_none f.reads.front [] (forward first.request) f.reads.are_requests (sym empty ∙ f.reads.is))
  where
    none : (o : Opened) → IsIn o (exchanges unsent) → (sent_for o unsent ≡ [] → ⊥) → ⊥
    none o (inl same) not_empty = not_empty (subst (λ (p : Opened). sent_for p unsent ≡ []) (sym same) refl)
    none o (inr other) not_empty = other

-- ---- what a server reads otherwise

line : (name value : List ℕ) → some_of is_token_octet name ≡ true → is_value value ≡ true → Line (name ++ 58 ∷ (32 ∷ []) ++ value ++ [] ++ crlf) (record { name = lower name; value = value })
line name value token good = record { name = name; before = 32 ∷ []; after = []; is = refl; is_token = token; space_before = refl; is_value = good; space_after = refl; is_named = refl }

-- It names a field as an option of the connection: a server drops that field before it passes the request on.
abbrev naming_text : List ℕ
naming_text = codes "GET / HTTP/1.1\r\nhost: a\r\nauthorization: b\r\nconnection: authorization, close\r\n\r\n"

abbrev naming_head : Head
naming_head = record {
  method = codes "GET";
  target = codes "/";
  fields = field (codes "host") (codes "a") ∷ field (codes "authorization") (codes "b") ∷ field (codes "connection") (codes "authorization, close") ∷ [];
}

has_naming_head : H1Head naming_text naming_head
has_naming_head = record {
  lines = codes "host: a\r\nauthorization: b\r\nconnection: authorization, close\r\n";
  is = refl;
  method = refl;
  target = refl;
  are_lines = (
    codes "host: a\r\n",
    codes "authorization: b\r\nconnection: authorization, close\r\n",
    line (codes "host") (codes "a") refl refl,
    refl,
    (
      codes "authorization: b\r\n",
      codes "connection: authorization, close\r\n",
      line (codes "authorization") (codes "b") refl refl,
      refl,
      (codes "connection: authorization, close\r\n", [], line (codes "connection") (codes "authorization, close") refl refl, refl, refl),
    ),
  );
}

pub names_a_field : (rest : List ℕ) → BeginsNoRequest (naming_text ++ rest)
names_a_field rest front more request q e =
    let whole : naming_text ++ rest ≡ q.head_text ++ (q.content ++ more) = e ∙ ap (λ (o : List ℕ). o ++ more) q.is ∙ append_assoc q.head_text q.content more in
    let heads = one_head naming_text q.head_text rest (q.content ++ more) naming_head q.head has_naming_head q.has_head whole in
    let clash : false ≡ true = ap (λ (h : Head). list_all is_close (values_of (codes "connection") h.fields)) heads.1 ∙ q.options in
    false≢true clash

-- It sends a second request behind one that asks to close the connection.
pub goes_on_behind_close : (r s : Request) → AreRequests (first.text ++ first.text) (r ∷ s ∷ []) → ⊥
goes_on_behind_close r s p =
    let open_one = p.3 in
    let q = open_one.reads in
    let whole : first.text ++ first.text ≡ q.head_text ++ (q.content ++ p.1) = p.2 ∙ ap (λ (o : List ℕ). o ++ p.1) q.is ∙ append_assoc q.head_text q.content p.1 in
    let heads = one_head first.text q.head_text first.text (q.content ++ p.1) first.read_head q.head first.has_read_head q.has_head whole in
    let clash : true ≡ false = ap (λ (h : Head). asks_to_close h) heads.1 ∙ open_one.stays_open in
    cc

-- A target of another form is none that is read: the whole resource's name, as a proxy is sent it.
pub proxy_form : (lines rest : List ℕ) (head : Head) → H1Head (codes "GET http://a/ HTTP/1.1\r\n" ++ lines) head → head.target ≡ codes "http://a/" → ⊥
proxy_form lines rest head h e = let clash : false ≡ true = ap is_target (sym e) ∙ h.target in false≢true clash

-- ---- what a frame causes, told at another place of its step

-- It opens a connection where requests are passed on whole, though the client may still send more of this one.
pub opens_before_whole : RequestsHold by_whole (Did (Open 1 0) ∷ headed (frame 1 4 1 post_block) post ∷ begun) → ⊥
unfolding total_size
opens_before_whole c = let may = c.in_time.0 in let clash : false ≡ true = may.whole refl in cc

-- It closes a connection before the frame of the client that it closes it for.
pub closes_before_reset : HoldsInTurn (ClausesHold by_whole) (plain (reset 1 8) ∷ Did (Close 1) ∷ got) → ⊥
closes_before_reset c = let holds = c.0 in closes_at_once holds.progress

-- A whole request comes, and something else behind it, before it is put out.
abbrev waiting : List Entry
waiting = headed (frame 1 5 1 first.block) first.head ∷ begun

waiting_means : H2Request (items known 1 waiting) first.request
unfolding total_size
waiting_means = record { head = first.head; has_head = refl; well_formed = first.well_formed; no_connect = refl; contents = tt; ends = refl; length_holds = tt; is = refl }

pub forwards_late : HoldsInTurn (ClausesHold known) (plain (frame 6 0 0 (codes "hellohoy")) ∷ waiting) → ⊥
forwards_late c = let holds = c.0 in let f = holds.progress.forwarded 1 first.request 0 waiting_means example.by_route refl in f.given.is_opened

-- It puts out octets of a body before they came.
abbrev put_before : List Entry
put_before = Did (ToUp 1 (five_text ++ codes "z")) ∷ Did (Open 1 0) ∷ headed (frame 1 4 1 five_block) five ∷ begun

pub sends_before : HoldsInTurn (ClausesHold by_streaming) (plain (frame 0 0 1 (codes "z")) ∷ put_before) → ⊥
unfolding total_size
sends_before c =
    let holds = c.0 in
    let s = holds.requests.sent (record { k = 1; route = 0; stream = 1 }) (inl refl) in elim s [
      | inl whole ↦ (let ends = (whole_alone by_streaming put_before (record { k = 1; route = 0; stream = 1 }) _ whole).means.ends in let clash : false ≡ true = ends in cc)
      | inr part ↦ invents by_streaming put_before (record { k = 1; route = 0; stream = 1 }) refl part
    ]
