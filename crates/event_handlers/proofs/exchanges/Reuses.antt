-- An idle connection is given to a stream, and its text goes out there: what the calls come to.
use Rattle.std.proofs.Common.{◌≡◌, ℕ, ◌+◌, ◌<◌, ◌≤◌, ◌^◌, Bool, true, false, not, ◌==◌, ◌||◌, nat_lt, List, [], ◌∷◌, ◌++◌, map, length, Option, Some, None, codes, refl, sym, ◌∙◌, ap, subst, if◌then◌else◌}
use Rattle.std.specs.Prelude.{option_map}
use Rattle.std.specs.List.{list_any}
use Rattle.std.proofs.lemmas.Bool.{and_parts, and_from}
use Rattle.model.specs.Causes.{is_front_of}
use Rattle.model.specs.Courses.{items}
use Rattle.model.specs.Logs.{Output}
use Rattle.model.specs.Logs.Act.{ToUp}
use Rattle.model.specs.Logs.Output.{Does as Puts}
use Rattle.model.specs.Setup.{Setup, Passing as Way}
use Rattle.model.specs.Setup.Passing.{Whole as WholePassing, Streaming}
use Rattle.model.specs.Tapes.{put}
use Rattle.h1_reader.specs.Standing.{Stands as Reads}
use Rattle.h1_writer.specs.Sending.{Stage}
use Rattle.upstream_response.specs.Waiting.{passing_in}
use Rattle.upstream_response.specs.declared.answer.ResponsePassing.{ResponsePassing}
use Rattle.window_credit.specs.Sides.{Side, is_above_all, change, passing as passed, opened as opened_side}
use Rattle.window_credit.specs.Sides.{find as find_side}
use Rattle.window_credit.proofs.Looking.{above_all}
use Rattle.streams.specs.Asked as asked
use Rattle.theory_requests.specs.Lines.{Line, find, lines_given, given_to}
use Rattle.theory_requests.specs.Lines.Answer.{Pending}
use Rattle.theory_requests.specs.State as theory_requests
use Rattle.theory_requests.specs.State.Due.{ToUse}
use Rattle.theory_requests.specs.Rule.{is_done, is_done_by}
use Rattle.theory_requests.proofs.Lists.{find_map}
use Rattle.upstream_connections.specs.Kept as upstreams
use Rattle.upstream_connections.specs.Kept.{given_for}
use Rattle.upstream_connections.specs.Connections.{Connection, number_of, lives, fresh, given_at, put_at, HasRoom}
use Rattle.theory.specs.Moves.{Move}
use Rattle.theory.specs.State.{State, tape_of}
use Rattle.refinement.specs.View.{View, balanced, Leads}
use Rattle.refinement.specs.Rest.{told_view}
use Rattle.refinement.specs.Bringing.{OwnSegment, PerformsOwn}
use Rattle.refinement.proofs.Lives.{lives_given, lives_same}
use Rattle.refinement.proofs.Newest.{used_newest}
use Rattle.refinement.proofs.Used as used
use Rattle.refinement.proofs.Where.{live_here, windows_here}
use Rattle.event_handlers.specs.Closings.{told_but, NoneDoneBut}
use Rattle.event_handlers.specs.Resting.{IsPassedBy}
use Rattle.event_handlers.specs.exchanges.Opening.{with_side_over}
use Rattle.event_handlers.proofs.Closings.{or_both, or_none}
use Rattle.event_handlers.proofs.exchanges.Opens.{asks_as_text, set_up_by}

-- ---- what is kept of DATA that waits

-- a stream is above all still, where the connection of one of them went over to another
pub above_passed : (id from : ℕ) (sides : List Side) → is_above_all id sides ≡ true → is_above_all id (change from passed sides) ≡ true
above_passed id from [] above = refl
above_passed id from (side ∷ sides) above = by (side.id == from) (above_passed id from sides parts.1)
  where
    parts : (nat_lt side.id id ≡ true) × (is_above_all id sides ≡ true)
    parts = and_parts (nat_lt side.id id) (is_above_all id sides) above

    by : (b : Bool) → is_above_all id (change from passed sides) ≡ true → is_above_all id (if b then passed side ∷ sides else side ∷ change from passed sides) ≡ true
    by true rest = above
    by false rest = and_from (nat_lt side.id id) (is_above_all id (change from passed sides)) parts.0 rest

-- ---- where moves led

module _ (setup : Setup) (kept : View) (fresh_octets back k stream : ℕ) (text : List ℕ) (stage : Stage) (run : List Move) (s : State) (leads : Leads setup run kept (used.due_before setup kept fresh_octets back k stream text stage) s) where
  -- the connection is open
  pub open_there : (c : Connection) × (find number_of k kept.upstreams.live ≡ Some c)
  open_there = let it = used.open_there setup kept fresh_octets back k stream text stage run s leads in (it.0, it.1)

  -- the stream is above all of which something is kept
  pub above_them : setup.passing ≡ Streaming → is_above_all stream kept.marks ≡ true
  above_them streaming = above_all stream kept.marks (λ other side found.
      let on : asked.is_active s.ledger.book.rows other ≡ true = sym (live_here setup run s leads.stands leads.so other) ∙ leads.marked.stand.live other side found in
      used_newest setup run s leads.stands leads.so streaming k stream text stage (ap (λ (r : theory_requests.State). r.due) leads.keeps.requests) other (and_parts (asked.has s.ledger.book.rows other) _ on).0
      (λ own. let no : ◌≡◌ {A = Option Side} None (Some side) = sym (used.none_marked setup kept fresh_octets back k stream text stage run s leads) ∙ ap (λ n. find_side n kept.marks) (sym own) ∙ found in let clash : ◌≡◌ {A = Option Side} None (Some side) = no in cc))

  -- and served
  pub served_here : (told_view kept).served stream ≡ true
  served_here = used.stream_served setup kept fresh_octets back k stream text stage run s leads

  -- no more was taken than was put out
  pub within_them : (c : Connection) → find number_of k kept.upstreams.live ≡ Some c → c.took ≤ c.out
  within_them c found =
      let counted = leads.keeps.counted k c found in
      subst (λ n. n ≤ c.out) counted.1 (subst (λ n. s.windows.took k ≤ n) counted.0 ((windows_here setup run s leads.stands leads.so).counting.within k))

-- ---- in the words of the calls

-- a connection that was given to a stream has the room that it had
pub room_then : (k stream count : ℕ) (to_head : Bool) (way : ResponsePassing) (stage : Stage) (old new : upstreams.State) (c : Connection) → find number_of k old.live ≡ Some c → new ≡ given_for k stream to_head way stage old → c.out + count < 2 ^ 64 → HasRoom count (find number_of k new.live)
room_then k stream count to_head way stage old new c found is fits =
    subst (HasRoom count) (sym (ap (λ (u : upstreams.State). find number_of k u.live) is ∙ find_map number_of (given_at k stream (fresh to_head way)) (λ x. refl) k old.live ∙ ap (option_map (given_at k stream (fresh to_head way))) found)) fits

module _ (kept : View) (k stream from out took : ℕ) (text : List ℕ) (stage : Stage) (to_head : Bool) (way : ResponsePassing) (middle behind : upstreams.State) (sides : List Side) (count : ℕ) (before after : List Output) (c : Connection) (found : find number_of k kept.upstreams.live ≡ Some c)
    (from_is : from ≡ c.live.stream) (out_is : out ≡ c.out + count) (took_is : took ≡ c.took)
    (asks : to_head ≡ is_front_of (codes "HEAD ") text) (reads : Reads [] [] (fresh to_head way).reader) (is_count : count ≡ length text)
    (given_is : middle ≡ given_for k stream to_head way stage kept.upstreams) (put_is : behind ≡ record middle { live = map (put_at k count) middle.live })
    (sides_are : sides ≡ with_side_over (passing_in way) from stream k out took kept.marks) (puts_out : after ≡ put before (Puts (ToUp k text))) where
  upstreams_are : (let u : upstreams.State = given_for k stream to_head way stage kept.upstreams in record u { live = map (put_at k (length text)) u.live }) ≡ behind
  upstreams_are =
      ap (λ n. let u : upstreams.State = given_for k stream to_head way stage kept.upstreams in record u { live = map (put_at k n) u.live }) (sym is_count)
      ∙ ap (λ (u : upstreams.State). record u { live = map (put_at k count) u.live }) (sym given_is)
      ∙ sym put_is

  beside : passing_in way ≡ WholePassing → sides ≡ kept.marks
  beside whole = sides_are ∙ ap (λ (p : Way). with_side_over p from stream k out took kept.marks) whole

  over : passing_in way ≡ Streaming → (x : Connection) → find number_of k kept.upstreams.live ≡ Some x → sides ≡ change x.live.stream passed kept.marks ++ opened_side stream k (x.out + length text) x.took ∷ []
  over streaming x there =
      let own : ◌≡◌ {A = Option Connection} (Some c) (Some x) = sym found ∙ there in
      let this : c ≡ x = cc in
      sides_are ∙ ap (λ (p : Way). with_side_over p from stream k out took kept.marks) streaming
      ∙ ap (λ n. change n passed kept.marks ++ opened_side stream k out took ∷ []) (from_is ∙ ap (λ (y : Connection). y.live.stream) this)
      ∙ ap (λ n. change x.live.stream passed kept.marks ++ opened_side stream k n took ∷ []) (out_is ∙ ap (λ n. c.out + n) is_count ∙ ap (λ (y : Connection). y.out + length text) this)
      ∙ ap (λ n. change x.live.stream passed kept.marks ++ opened_side stream k (x.out + length text) n ∷ []) (took_is ∙ ap (λ (y : Connection). y.took) this)

  -- The calls perform.
  pub calls_use : (setup : Setup) (fresh_octets back : ℕ) → IsPassedBy setup way
      → PerformsOwn setup kept (record balanced { due = ToUse k stream text stage; fresh = fresh_octets; shared = back }) before (record kept { upstreams = behind; marks = sides }) (record balanced { fresh = fresh_octets; shared = back }) after
  calls_use setup fresh_octets back set run s leads =
      let there = used.open_there setup kept fresh_octets back k stream text stage run s leads in
      subst (λ (u : upstreams.State). OwnSegment setup run s before (record kept { upstreams = u; marks = sides }) (record balanced { fresh = fresh_octets; shared = back }) after) upstreams_are
      (subst (λ (o : List Output). OwnSegment setup run s before (record kept { upstreams = (let u : upstreams.State = given_for k stream to_head way stage kept.upstreams in record u { live = map (put_at k (length text)) u.live }); marks = sides }) (record balanced { fresh = fresh_octets; shared = back }) o) (sym puts_out)
      (used.used_performs setup kept fresh_octets back k stream text stage run s leads sides (λ whole. beside (set.passing ∙ whole)) (λ streaming. over (set.passing ∙ streaming) there.0 there.1)
      to_head way reads (set_up_by setup to_head way set)
      (λ known same knows. asks ∙ asks_as_text known.setup.keep (items known stream (tape_of run)) text stage (used.due_for setup kept fresh_octets back k stream text stage run s leads known same knows).1.written)
      before))

-- A connection that is given to a stream that is served isn't done with, and no other is that wasn't.
pub uses_but : (kept : View) (k stream count : ℕ) (to_head : Bool) (way : ResponsePassing) (stage : Stage) (middle behind : upstreams.State) (sides : List Side) → (told_view kept).served stream ≡ true
    → middle ≡ given_for k stream to_head way stage kept.upstreams → behind ≡ record middle { live = map (put_at k count) middle.live } → (id : ℕ) → NoneDoneBut id kept → NoneDoneBut id (record kept { upstreams = behind; marks = sides })
uses_but kept k stream count to_head way stage middle behind sides served given_is put_is id none =
    ap (λ (ls : List Line). list_any (is_done (told_but id kept)) ls)
    (ap (λ (u : upstreams.State). lives u.live) put_is ∙ lives_same (put_at k count) (λ x. refl) middle.live ∙ ap (λ (u : upstreams.State). lives u.live) given_is ∙ lives_given k stream (fresh to_head way) kept.upstreams.live)
    ∙ given_none (lives kept.upstreams.live) none
  where
    on : (told_but id kept).served stream ≡ true
    on = by (id == stream)
      where
        by : (b : Bool) → (b || (told_view kept).served stream) ≡ true
        by true = refl
        by false = served

    one : (l : Line) (b : Bool) → is_done (told_but id kept) l ≡ false → is_done_by (if b then Pending else l.answer) ((told_but id kept).served (if b then stream else l.stream)) ≡ false
    one l true was = ap not on
    one l false was = was

    given_none : (ls : List Line) → list_any (is_done (told_but id kept)) ls ≡ false → list_any (is_done (told_but id kept)) (lines_given k stream ls) ≡ false
    given_none [] none = refl
    given_none (l ∷ ls) none =
        let parts = or_both (is_done (told_but id kept) l) (list_any (is_done (told_but id kept)) ls) none in
        or_none (is_done (told_but id kept) (given_to k stream l)) (list_any (is_done (told_but id kept)) (lines_given k stream ls)) (one l (l.k == k) parts.0) (given_none ls parts.1)
