-- Behind each decision with which the connection goes on something is held of each stream whose items go on, or a connection is due for it.
use Rattle.std.proofs.Common.{◌≡◌, ℕ, Bool, true, false, ◌||◌, ◌==◌, if◌then◌else◌, ◌⊎◌, List, [], ◌∷◌, ◌++◌, map, Option, Some, None, suc, refl, sym, ◌∙◌, ap, subst, inl, inr}
use Rattle.std.specs.Prelude.{option_map}
use Rattle.std.specs.List.{list_any}
use Rattle.std.proofs.lemmas.Bool.{or_parts, eq-eqb}
use Rattle.std.proofs.lemmas.Bool.Decides.{eqb_tells}
use Rattle.model.specs.Messages.{Item, ends_with}
use Rattle.model.specs.Messages.Item.{Block}
use Rattle.model.specs.Malformed.{is_begun}
use Rattle.model.specs.Setup.{Setup}
use Rattle.model.specs.Logs.{Act}
use Rattle.model.specs.Logs.Event.{Client, ClientEnd, ClientTook, Up, UpEnd, UpFailed, UpTook, Drain}
use Rattle.model.specs.Logs.Act.{Open, ToUp, Close, CloseClient}
use Rattle.model.specs.Tapes.{Noted, Entry}
use Rattle.model.specs.Tapes.Entry.{Came, Breached, Happened, Sent, Did}
use Rattle.model.specs.Streams.{frame_items}
use Rattle.model.specs.Courses.{interrupts}
use Rattle.theory_errors.specs.Summary.{Stream as Kept, Outline, Summary}
use Rattle.theory_errors.specs.Judging.{completed_in, fault_for}
use Rattle.theory_errors.specs.Owing.{items_in, new_cause_in}
use Rattle.theory_errors.specs.After.{kept_behind}
use Rattle.theory_errors.specs.Rows.{Row, find, rows_after}
use Rattle.theory_errors.specs.Book.{Book, summary_in}
use Rattle.h1_writer.specs.Sending.{Stage}
use Rattle.theory_requests.specs.Told.{Told}
use Rattle.theory_requests.specs.State as theory_requests
use Rattle.theory_requests.specs.Written.{octets_of, trailers_in}
use Rattle.theory_requests.specs.Lines.{Line, least_idle}
use Rattle.theory_requests.specs.State.{Way, Held, id_of, held_of, held_with, held_at, held_opened, held_used, kept, drop_from, Due, is_whole, goes_now, with_way}
use Rattle.theory_requests.specs.State.Way.{Waiting, Going, Dropped}
use Rattle.theory_requests.specs.State.Due.{Nothing, ToOpen, ToUse, ToSend}
use Rattle.theory_requests.specs.Rule as requests
use Rattle.theory_requests.proofs.Lists.{find_first, find_map, held_now, held_beside}
use Rattle.theory_requests.proofs.Framing.{held_kept}
use Rattle.theory.specs.Moves.{Addition, Decision, entry_of, fails_in, request_of, gained}
use Rattle.theory.specs.Moves.Decision.{Takes, Breaks, Notes, Hears, Fails, Idles, Sends, Goes, Acts}
use Rattle.theory.specs.Rule.{added_in, Additions, AdditionsIf}
use Rattle.refinement.specs.Ways.{IsDuePart}
use Rattle.refinement.proofs.Courses.{GoOn, behind_rows, goes_on}

-- ---- what is held

-- The request isn't whole, on whatever way it is.
abbrev pub IsPart : Way → Type 0
IsPart (Waiting route text stage body) = is_whole stage ≡ false
IsPart (Going k stage) = is_whole stage ≡ false
IsPart Dropped = Unit {0}

-- Something is held of a stream.
abbrev pub IsHeld : ℕ → List Held → Type 0
IsHeld id hs = (h : Held) × (held_of id hs ≡ Some h)

-- Something is held of a stream, or a connection is due for it.
abbrev pub IsAwaited : ℕ → theory_requests.State → Type 0
IsAwaited id r = IsHeld id r.held ⊎ IsDuePart r.due id

-- A connection that is due for a whole request is due for a stream whose items don't go on.
abbrev pub IsEnded : List Row → ℕ → Stage → Type 0
IsEnded rows stream stage = is_whole stage ≡ true → (find rows stream).outline.begun ≡ true → (find rows stream).outline.over ≡ false → ⊥

abbrev pub DueEnded : List Row → Due → Type 0
DueEnded rows Nothing = Unit {0}
DueEnded rows (ToOpen stream route text stage) = IsEnded rows stream stage
DueEnded rows (ToUse k stream text stage) = IsEnded rows stream stage
DueEnded rows (ToSend k text) = Unit {0}

-- Each stream whose items go on is held, or a connection is due for it, and it isn't replied to; nothing that is held is whole.
pub record AllGoOn (rows : List Row) (r : theory_requests.State) : Type 0 where
  pub awaited : (id : ℕ) → (find rows id).outline.begun ≡ true → (find rows id).outline.over ≡ false → IsAwaited id r
  pub no_cause : (id : ℕ) → (find rows id).outline.over ≡ false → (find rows id).outline.cause ≡ None
  pub parts : (id : ℕ) (h : Held) → held_of id r.held ≡ Some h → IsPart h.way
  pub due : DueEnded rows r.due

-- those of streams that are served stay held
stays_held : (told : Told) (id : ℕ) → told.served id ≡ true → (hs : List Held) (h : Held) → held_of id hs ≡ Some h → held_of id (kept told hs) ≡ Some h
stays_held told id on [] h found = cc
stays_held told id on (x ∷ hs) h found = elim (eqb_tells x.id id) [
  | inl same ↦
      ap (λ b. held_of id (if b then x ∷ kept told hs else kept told hs)) (ap told.served same.1 ∙ on)
      ∙ ap (λ b. if b then Some x else held_of id (kept told hs)) same.0
      ∙ sym (ap (λ b. if b then Some x else held_of id hs) same.0) ∙ found
  | inr apart ↦ by (told.served x.id) (stays_held told id on hs h (sym (ap (λ b. if b then Some x else held_of id hs) apart.0) ∙ found)) apart.0
]
  where
    by : (b : Bool) → held_of id (kept told hs) ≡ Some h → (x.id == id) ≡ false → held_of id (if b then x ∷ kept told hs else kept told hs) ≡ Some h
    by false later apart = later
    by true later apart = ap (λ b. if b then Some x else held_of id (kept told hs)) apart ∙ later

-- what is held with a way
held_so : (id : ℕ) (way : Way) (hs : List Held) → IsHeld id (held_with id (Some way) hs)
held_so id way hs = by (held_of id hs) refl
  where
    by : (o : Option Held) → held_of id hs ≡ o → IsHeld id (held_at id way o hs)
    by None none = (record { id = id; way = way }, find_first id_of id (record { id = id; way = way }) hs refl)
    by (Some h) was = (with_way id way h, find_map id_of (with_way id way) (λ y. refl) id hs ∙ ap (option_map (with_way id way)) was)

held_if : (id : ℕ) (b : Bool) (way : Way) (hs : List Held) → b ≡ false → IsHeld id (held_with id (if b then None else Some way) hs)
held_if id b way hs none = subst (λ c. IsHeld id (held_with id (if c then None else Some way) hs)) (sym none) (held_so id way hs)

same_held : (id : ℕ) (hs us : List Held) → held_of id us ≡ held_of id hs → IsHeld id hs → IsHeld id us
same_held id hs us same h = (h.0, same ∙ h.1)

part_if : (b : Bool) (way x : Way) → (if b then None else Some way) ≡ Some x → (b ≡ false → IsPart way) → IsPart x
part_if true way x is so = cc
part_if false way x is so = subst IsPart (let same : way ≡ x = cc in same) (so refl)

or_none : (b : Bool) → (b || false) ≡ true → b ≡ true
or_none true e = refl
or_none false e = e

or_false : (b : Bool) → (b || false) ≡ false → b ≡ false
or_false true e = e
or_false false e = refl

none_due : (due : Due) → due ≡ Nothing → (id : ℕ) → IsDuePart due id → ⊥
none_due due nothing id part = subst (λ (d : Due). IsDuePart d id) nothing part

ended_sent : (rows : List Row) (k : ℕ) (written : List ℕ) → DueEnded rows (theory_requests.to_send k written)
ended_sent rows k [] = tt
ended_sent rows k (octet ∷ octets) = tt

ended_open : (rows : List Row) (stream route : ℕ) (text : List ℕ) (stage : Stage) → IsEnded rows stream stage → (b : Bool) (idle : Option ℕ) → DueEnded rows (theory_requests.to_open b idle stream route text stage)
ended_open rows stream route text stage ended true None = ended
ended_open rows stream route text stage ended true (Some k) = ended
ended_open rows stream route text stage ended false idle = tt

-- ---- what a connection that is closed leaves

still_part : (k : ℕ) (way : Way) → IsPart way → IsPart (theory_requests.dropped k way)
still_part k (Waiting route text stage body) part = part
still_part k (Going j stage) part = by (j == k)
  where
    by : (b : Bool) → IsPart (if b then Dropped else Going j stage)
    by true = tt
    by false = part
still_part k Dropped part = tt

dropped_parts : (k id : ℕ) (hs : List Held) → ((h : Held) → held_of id hs ≡ Some h → IsPart h.way) → (h : Held) → held_of id (map (drop_from k) hs) ≡ Some h → IsPart h.way
dropped_parts k id hs all h found = by (held_of id hs) refl (sym (find_map id_of (drop_from k) (λ y. refl) id hs) ∙ found)
  where
    by : (o : Option Held) → held_of id hs ≡ o → option_map (drop_from k) o ≡ Some h → IsPart h.way
    by None none is = cc
    by (Some x) was is = subst (λ (y : Held). IsPart y.way) (let same : drop_from k x ≡ h = cc in same) (still_part k x.way (all x was))

dropped_held : (k id : ℕ) (hs : List Held) → IsHeld id hs → IsHeld id (map (drop_from k) hs)
dropped_held k id hs h = (drop_from k h.0, find_map id_of (drop_from k) (λ y. refl) id hs ∙ ap (option_map (drop_from k)) h.1)

-- ---- one decision

module _ (setup : Setup) (book : Book) (r : theory_requests.State) (before : AllGoOn book.rows r) (told : Told) (behind : Told) where
  abbrev s : Summary
  s = summary_in book

  module _ (fails : Bool) (e : Entry) where
    abbrev after : List Row
    after = rows_after setup fails s e book.rows

    -- a stream whose items go on behind the entry
    back : (id : ℕ) → (find after id).outline.begun ≡ true → (find after id).outline.over ≡ false → GoOn setup fails s e id (find book.rows id) (find after id).outline
    back id begun over = elim (behind_rows setup fails s e book.rows refl id) [
      | inl same ↦ subst (λ (k : Kept). GoOn setup fails s e id (find book.rows id) k.outline) (sym same) (goes_on setup fails s e id (find book.rows id) (ap (λ (k : Kept). k.outline.over) (sym same) ∙ over))
      | inr none ↦ absurd (let no : true ≡ false = sym begun ∙ ap (λ (b : Outline). b.begun) none.outline in cc)
    ]

    none_caused : (id : ℕ) → (find after id).outline.over ≡ false → (find after id).outline.cause ≡ None
    none_caused id over = elim (behind_rows setup fails s e book.rows refl id) [
      | inl same ↦ (
          let go : GoOn setup fails s e id (find book.rows id) (kept_behind setup fails s e id (find book.rows id)).outline = goes_on setup fails s e id (find book.rows id) (ap (λ (k : Kept). k.outline.over) (sym same) ∙ over) in
          ap (λ (k : Kept). k.outline.cause) same ∙ go.cause ∙ before.no_cause id go.not_over
          )
      | inr none ↦ ap (λ (b : Outline). b.cause) none.outline
    ]

    -- one that the entry brings nothing was awaited
    was_awaited : (id : ℕ) → (find after id).outline.begun ≡ true → (find after id).outline.over ≡ false → items_in id s e ≡ [] → IsAwaited id r
    was_awaited id begun over none =
        let go = back id begun over in
        before.awaited id (or_none (find book.rows id).outline.begun (ap (λ (xs : List Item). (find book.rows id).outline.begun || is_begun xs) (sym none) ∙ sym go.begun ∙ begun)) go.not_over

    -- and was held, where no connection was due for it
    was_held : (id : ℕ) → (IsDuePart r.due id → ⊥) → (find after id).outline.begun ≡ true → (find after id).outline.over ≡ false → items_in id s e ≡ [] → IsHeld id r.held
    was_held id not_due begun over none = elim (was_awaited id begun over none) [ inl held ↦ held | inr part ↦ absurd (not_due part) ]

    -- it is served, so it stays held
    module _ (served : (id : ℕ) → (find after id).outline.begun ≡ true → (find after id).outline.cause ≡ None → behind.served id ≡ true) where
      still_held : (id : ℕ) → (find after id).outline.begun ≡ true → (find after id).outline.over ≡ false → (hs : List Held) → IsHeld id hs → IsHeld id (kept behind hs)
      still_held id begun over hs h = (h.0, stays_held behind id (served id begun (none_caused id over)) hs h.0 h.1)

      -- what is due is not whole behind it where its stream's items go on
      stays_ended : ((id : ℕ) → items_in id s e ≡ []) → (stream : ℕ) (stage : Stage) → IsEnded book.rows stream stage → IsEnded after stream stage
      stays_ended none stream stage ended is begun over =
          let go = back stream begun over in
          ended is (or_none (find book.rows stream).outline.begun (ap (λ (xs : List Item). (find book.rows stream).outline.begun || is_begun xs) (sym (none stream)) ∙ sym go.begun ∙ begun)) go.not_over

      still_ended : ((id : ℕ) → items_in id s e ≡ []) → (due : Due) → DueEnded book.rows due → DueEnded after due
      still_ended none Nothing ended = tt
      still_ended none (ToSend k text) ended = tt
      still_ended none (ToOpen stream route text stage) ended = stays_ended none stream stage ended
      still_ended none (ToUse k stream text stage) ended = stays_ended none stream stage ended

      -- an entry that brings nothing, with which nothing is held anew, and what is due stays
      kept_all : ((id : ℕ) → items_in id s e ≡ []) → (live : List Line) (count : ℕ) → AllGoOn after (record { held = kept behind r.held; live = live; due = r.due; count = count })
      kept_all none live count = record {
        awaited = λ id begun over. elim (was_awaited id begun over (none id)) [ inl held ↦ inl (still_held id begun over r.held held) | inr part ↦ inr part ];
        no_cause = none_caused;
        parts = λ id h found. before.parts id h (held_kept behind id r.held h found).0;
        due = still_ended none r.due before.due;
      }

      kept_dropped : ((id : ℕ) → items_in id s e ≡ []) → r.due ≡ Nothing → (k : ℕ) (live : List Line) (count : ℕ) → AllGoOn after (record { held = kept behind (map (drop_from k) r.held); live = live; due = r.due; count = count })
      kept_dropped none nothing k live count = record {
        awaited = λ id begun over. inl (still_held id begun over (map (drop_from k) r.held) (dropped_held k id r.held (was_held id (none_due r.due nothing id) begun over (none id))));
        no_cause = none_caused;
        parts = λ id h found. dropped_parts k id r.held (before.parts id) h (held_kept behind id (map (drop_from k) r.held) h found).0;
        due = subst (DueEnded after) (sym nothing) tt;
      }

  -- ---- a frame of the client

  module _ (noted : Noted) where
    abbrev n : ℕ
    n = noted.frame.id

    abbrev then_rows : List Row
    then_rows = rows_after setup false s (Came noted) book.rows

    -- it brings only its own stream something
    brings_others : (id : ℕ) → (noted.frame.id == id) ≡ false → items_in id s (Came noted) ≡ []
    brings_others id apart = ap (λ b. if b then frame_items (completed_in s.block noted.frame) noted else []) apart

    -- what it brings that is what it adds
    adds_it : (k : Outline) → GoOn setup false s (Came noted) n (find book.rows n) k → added_in setup s noted ≡ items_in n s (Came noted)
    adds_it k go =
        ap (λ b. if b || interrupts n (Came noted) (fault_for (find book.rows n).outline s (Came noted)) (new_cause_in setup false n s (Came noted) (find book.rows n).outline (fault_for (find book.rows n).outline s (Came noted))) then [] else frame_items (completed_in s.block noted.frame) noted) go.not_over
        ∙ ap (λ b. if b then [] else frame_items (completed_in s.block noted.frame) noted) go.uninterrupted
        ∙ sym (ap (λ b. if b then frame_items (completed_in s.block noted.frame) noted else []) (eq-eqb n n refl))

    -- it doesn't end the items where they go on
    ends_not : (item : Item) → added_in setup s noted ≡ item ∷ [] → (find then_rows n).outline.begun ≡ true → (find then_rows n).outline.over ≡ false → ends_with item ≡ false
    ends_not item adds begun over =
        let go = back false (Came noted) n begun over in
        or_false (ends_with item) (ap (λ (xs : List Item). list_any ends_with xs) (sym adds ∙ adds_it (find then_rows n).outline go) ∙ go.none_end)

    -- what holds of its own stream and of all others holds of all
    of_all : (P : ℕ → Type 0) → P n → ((id : ℕ) → (noted.frame.id == id) ≡ false → (noted.frame.id ≡ id → ⊥) → P id) → (id : ℕ) → P id
    of_all P own others id = elim (eqb_tells n id) [ inl same ↦ subst P same.1 own | inr apart ↦ others id apart.0 apart.1 ]

    -- nothing was due, so the others were held
    module _ (nothing : r.due ≡ Nothing) where
      other_held : (id : ℕ) → (noted.frame.id == id) ≡ false → (find then_rows id).outline.begun ≡ true → (find then_rows id).outline.over ≡ false → IsHeld id r.held
      other_held id apart begun over = was_held false (Came noted) id (none_due r.due nothing id) begun over (brings_others id apart)

      -- its stream is held by this way now, or isn't any more
      module _ (b : Bool) (way : Way) (part : b ≡ false → IsPart way) where
        abbrev now_held : List Held
        now_held = held_with n (if b then None else Some way) r.held

        with_own : (live : List Line) (count : ℕ) (due : Due) → ((find then_rows n).outline.begun ≡ true → (find then_rows n).outline.over ≡ false → IsHeld n now_held ⊎ IsDuePart due n) → DueEnded then_rows due
            → AllGoOn then_rows (record { held = now_held; live = live; due = due; count = count })
        with_own live count due own ended = record {
          awaited = of_all (λ id. (find then_rows id).outline.begun ≡ true → (find then_rows id).outline.over ≡ false → IsHeld id now_held ⊎ IsDuePart due id)
              own
              (λ id apart other begun over. inl (same_held id r.held now_held (held_beside n id (if b then None else Some way) r.held other) (other_held id apart begun over)));
          no_cause = none_caused false (Came noted);
          parts = of_all (λ id. (h : Held) → held_of id now_held ≡ Some h → IsPart h.way)
              (λ h found. part_if b way h.way (held_now n (if b then None else Some way) r.held h found) part)
              (λ id apart other h found. before.parts id h (sym (held_beside n id (if b then None else Some way) r.held other) ∙ found));
          due = ended;
        }

    module _ (served : (id : ℕ) → (find then_rows id).outline.begun ≡ true → (find then_rows id).outline.cause ≡ None → behind.served id ≡ true) where
      taken : (addition : Addition) → Additions setup s noted addition → requests.MayMove setup told behind r (gained noted addition) → AllGoOn then_rows (theory_requests.after setup behind r (gained noted addition))
      taken Addition.Nothing adds may = record {
        awaited = of_all (λ id. (find then_rows id).outline.begun ≡ true → (find then_rows id).outline.over ≡ false → IsHeld id (kept behind r.held) ⊎ IsDuePart r.due id)
            (λ begun over. inl (still_held false (Came noted) served n begun over r.held (was_held false (Came noted) n (none_due r.due may.nothing n) begun over (sym (adds_it (find then_rows n).outline (back false (Came noted) n begun over)) ∙ adds))))
            (λ id apart other begun over. inl (still_held false (Came noted) served id begun over r.held (other_held may.nothing id apart begun over)));
        no_cause = none_caused false (Came noted);
        parts = λ id h found. before.parts id h (held_kept behind id r.held h found).0;
        due = subst (DueEnded then_rows) (sym may.nothing) tt;
      }
      taken (Addition.Begins head ended route text stage) adds may =
          with_own may.0.nothing (goes_now setup stage) way (λ waits. (or_parts (theory_requests.is_streaming setup.passing) (is_whole stage) waits).1) r.live r.count _ (own (goes_now setup stage) (least_idle route r.live)) (ended_due (goes_now setup stage) (least_idle route r.live))
        where
          way : Way
          way = Waiting route text stage []

          not_ended : (find then_rows n).outline.begun ≡ true → (find then_rows n).outline.over ≡ false → is_whole stage ≡ false
          not_ended begun over = may.1.whole ∙ ends_not (Block head ended) adds.adds.adds begun over

          own : (b : Bool) (idle : Option ℕ) → (find then_rows n).outline.begun ≡ true → (find then_rows n).outline.over ≡ false → IsHeld n (held_with n (if b then None else Some way) r.held) ⊎ IsDuePart (theory_requests.to_open b idle n route text stage) n
          own true None begun over = inr (refl, not_ended begun over)
          own true (Some k) begun over = inr (refl, not_ended begun over)
          own false idle begun over = inl (held_so n way r.held)

          ended_due : (b : Bool) (idle : Option ℕ) → DueEnded then_rows (theory_requests.to_open b idle n route text stage)
          ended_due b idle = ended_open then_rows n route text stage (λ is begun over. let no : true ≡ false = sym is ∙ not_ended begun over in cc) b idle
      taken (Addition.Gathers item route text old body written stage) adds may =
          with_own may.0.nothing (is_whole stage) way (λ part. part) r.live r.count _ (λ begun over. inl (held_if n (is_whole stage) way r.held (not_ended begun over))) (ended_due (is_whole stage) (least_idle route r.live))
        where
          way : Way
          way = Waiting route text stage (body ++ octets_of item)

          same_stage : (b : Bool) → b ≡ false → requests.IsGathered b old (body ++ octets_of item) (trailers_in item) written stage → stage ≡ old
          same_stage false e g = g.1
          same_stage true e g = cc

          not_ended : (find then_rows n).outline.begun ≡ true → (find then_rows n).outline.over ≡ false → is_whole stage ≡ false
          not_ended begun over = ap is_whole (same_stage (ends_with item) (ends_not item adds.adds begun over) may.1.gathered) ∙ before.parts n _ may.1.found

          ended_due : (b : Bool) (idle : Option ℕ) → DueEnded then_rows (theory_requests.to_open b idle n route (text ++ written) stage)
          ended_due b idle = ended_open then_rows n route (text ++ written) stage (λ is begun over. let no : true ≡ false = sym is ∙ not_ended begun over in cc) b idle
      taken (Addition.Passes item k old written stage) adds may =
          with_own may.0.nothing (is_whole stage) (Going k stage) (λ part. part) r.live r.count _
          (λ begun over. inl (held_if n (is_whole stage) (Going k stage) r.held (may.1.whole ∙ ends_not item adds.adds begun over)))
          (ended_sent then_rows k written)
      taken (Addition.Drops item) adds may = record {
        awaited = of_all (λ id. (find then_rows id).outline.begun ≡ true → (find then_rows id).outline.over ≡ false → IsAwaited id r)
            (λ begun over. inl (record { id = n; way = Dropped }, may.1.found))
            (λ id apart other begun over. inl (other_held may.0.nothing id apart begun over));
        no_cause = none_caused false (Came noted);
        parts = before.parts;
        due = subst (DueEnded then_rows) (sym may.0.nothing) tt;
      }

  -- ---- any other decision

  -- an act or an event that leaves what is held
  left_held : (fails : Bool) (e : Entry) → ((id : ℕ) → items_in id s e ≡ []) → ((id : ℕ) → IsDuePart r.due id → ⊥) → (live : List Line) (count : ℕ) (due : Due) → DueEnded (rows_after setup fails s e book.rows) due
      → AllGoOn (rows_after setup fails s e book.rows) (record { held = r.held; live = live; due = due; count = count })
  left_held fails e none not_due live count due ended = record {
    awaited = λ id begun over. inl (was_held fails e id (not_due id) begun over (none id));
    no_cause = none_caused fails e;
    parts = before.parts;
    due = ended;
  }

  same_left : (e : Entry) → ((id : ℕ) → items_in id s e ≡ []) → r.due ≡ Nothing → AllGoOn (rows_after setup false s e book.rows) r
  same_left e none nothing = left_held false e none (none_due r.due nothing) r.live r.count r.due (subst (DueEnded (rows_after setup false s e book.rows)) (sym nothing) tt)

  -- a connection is opened for a stream, or given to it: a request that isn't whole goes out on it
  module _ (act : Act) (stream k : ℕ) (stage : Stage) (of_stream : (id : ℕ) → IsDuePart r.due id → stream ≡ id) (ended : IsEnded book.rows stream stage) where
    abbrev rows_now : List Row
    rows_now = rows_after setup false s (Did act) book.rows

    abbrev goes_out : List Held
    goes_out = held_with stream (if is_whole stage then None else Some (Going k stage)) r.held

    -- the stream for which it was due is held now, if its items go on
    own_out : (id : ℕ) → stream ≡ id → (find rows_now id).outline.begun ≡ true → (find rows_now id).outline.over ≡ false → IsHeld id goes_out
    own_out id same begun over = by (is_whole stage) refl
      where
        by : (b : Bool) → is_whole stage ≡ b → IsHeld id (held_with stream (if b then None else Some (Going k stage)) r.held)
        by true is =
            let go = back false (Did act) id begun over in
            absurd (ended is (ap (λ n. (find book.rows n).outline.begun) same ∙ or_none (find book.rows id).outline.begun (sym go.begun ∙ begun)) (ap (λ n. (find book.rows n).outline.over) same ∙ go.not_over))
        by false is = subst (λ n. IsHeld n (held_with stream (Some (Going k stage)) r.held)) same (held_so stream (Going k stage) r.held)

    other_out : (id : ℕ) → (stream ≡ id → ⊥) → (find rows_now id).outline.begun ≡ true → (find rows_now id).outline.over ≡ false → IsHeld id goes_out
    other_out id apart begun over =
        same_held id r.held goes_out (held_beside stream id (if is_whole stage then None else Some (Going k stage)) r.held apart)
        (was_held false (Did act) id (λ part. apart (of_stream id part)) begun over refl)

    parts_out : (id : ℕ) (h : Held) → held_of id goes_out ≡ Some h → IsPart h.way
    parts_out id h found = elim (eqb_tells stream id) [
      | inl same ↦ part_if (is_whole stage) (Going k stage) h.way (held_now stream (if is_whole stage then None else Some (Going k stage)) r.held h (ap (λ n. held_of n goes_out) same.1 ∙ found)) (λ part. part)
      | inr apart ↦ before.parts id h (sym (held_beside stream id (if is_whole stage then None else Some (Going k stage)) r.held apart.1) ∙ found)
    ]

    started : (live : List Line) (due : Due) (count : ℕ) → DueEnded rows_now due → AllGoOn rows_now (record { held = goes_out; live = live; due = due; count = count })
    started live due count ended_now = record {
      awaited = λ id begun over. elim (eqb_tells stream id) [ inl same ↦ inl (own_out id same.1 begun over) | inr apart ↦ inl (other_out id apart.1 begun over) ];
      no_cause = none_caused false (Did act);
      parts = parts_out;
      due = ended_now;
    }

  -- one is opened
  opened_one : (k route : ℕ) → requests.MayOpen r k route → AllGoOn (rows_after setup false s (Did (Open k route)) book.rows) (theory_requests.after setup behind r (theory_requests.Move.Acts (Open k route)))
  opened_one k route may =
      subst (λ (due : Due). AllGoOn (rows_after setup false s (Did (Open k route)) book.rows) (record { held = held_opened due k r.held; live = theory_requests.live_acted r.live due (Open k route); due = theory_requests.due_opened due k; count = suc r.count })) (sym may.due)
      (started (Open k route) may.stream k may.stage (λ id part. (subst (λ (due : Due). IsDuePart due id) may.due part).0) (subst (DueEnded book.rows) may.due before.due) _ (ToSend k may.text) (suc r.count) tt)

  -- octets go out, with which an idle one may be given to a stream
  put_one : (k : ℕ) (octets : List ℕ) → requests.MayAct told r (ToUp k octets) → AllGoOn (rows_after setup false s (Did (ToUp k octets)) book.rows) (theory_requests.after setup behind r (theory_requests.Move.Acts (ToUp k octets)))
  put_one k octets (inl send) =
      subst (λ (due : Due). AllGoOn (rows_after setup false s (Did (ToUp k octets)) book.rows) (record { held = held_used due r.held; live = theory_requests.lines_used due r.live; due = Nothing; count = r.count })) (sym send)
      (left_held false (Did (ToUp k octets)) (λ id. refl) (λ id part. subst (λ (due : Due). IsDuePart due id) send part) r.live r.count Nothing tt)
  put_one k octets (inr may) =
      subst (λ (due : Due). AllGoOn (rows_after setup false s (Did (ToUp k octets)) book.rows) (record { held = held_used due r.held; live = theory_requests.lines_used due r.live; due = Nothing; count = r.count })) (sym may.due)
      (started (ToUp k octets) may.stream k may.stage (λ id part. (subst (λ (due : Due). IsDuePart due id) may.due part).0) (subst (DueEnded book.rows) may.due before.due) _ Nothing r.count tt)

  -- a connection is closed
  closed_one : (k : ℕ) → r.due ≡ Nothing → AllGoOn (rows_after setup false s (Did (Close k)) book.rows) (theory_requests.after setup behind r (theory_requests.Move.Acts (Close k)))
  closed_one k nothing = record {
    awaited = λ id begun over. inl (dropped_held k id r.held (was_held false (Did (Close k)) id (none_due r.due nothing id) begun over refl));
    no_cause = none_caused false (Did (Close k));
    parts = λ id h found. dropped_parts k id r.held (before.parts id) h found;
    due = subst (DueEnded (rows_after setup false s (Did (Close k)) book.rows)) (sym nothing) tt;
  }

  abbrev Served : Decision → Type 0
  Served d = (id : ℕ) → (find (rows_after setup (fails_in d) s (entry_of d) book.rows) id).outline.begun ≡ true → (find (rows_after setup (fails_in d) s (entry_of d) book.rows) id).outline.cause ≡ None → behind.served id ≡ true

  -- So it is behind any decision with which the connection goes on.
  pub done : (d : Decision) → Served d → AdditionsIf setup s d → requests.MayMove setup told behind r (request_of d) → (d ≡ Acts CloseClient → ⊥)
      → AllGoOn (rows_after setup (fails_in d) s (entry_of d) book.rows) (theory_requests.after setup behind r (request_of d))
  done (Takes noted next addition) served additions may open_yet = taken noted served addition additions may
  done (Breaks breach) served additions may open_yet = same_left (Breached breach) (λ id. refl) may.nothing
  done (Notes event) served additions may open_yet = same_left (Happened event) (λ id. refl) may.0.nothing
  done (Hears event stream news heard) served additions may open_yet = kept_all false (Happened event) served (λ id. refl) _ r.count
  done (Fails (UpFailed k) stream heard) served additions may open_yet = kept_dropped true (Happened (UpFailed k)) served (λ id. refl) may.0.nothing k _ r.count
  done (Fails (Client piece) stream heard) served additions may open_yet = kept_all true (Happened (Client piece)) served (λ id. refl) _ r.count
  done (Fails ClientEnd stream heard) served additions may open_yet = kept_all true (Happened ClientEnd) served (λ id. refl) _ r.count
  done (Fails (ClientTook count) stream heard) served additions may open_yet = kept_all true (Happened (ClientTook count)) served (λ id. refl) _ r.count
  done (Fails (Up k piece) stream heard) served additions may open_yet = kept_all true (Happened (Up k piece)) served (λ id. refl) _ r.count
  done (Fails (UpEnd k) stream heard) served additions may open_yet = kept_all true (Happened (UpEnd k)) served (λ id. refl) _ r.count
  done (Fails (UpTook k count) stream heard) served additions may open_yet = kept_all true (Happened (UpTook k count)) served (λ id. refl) _ r.count
  done (Fails Drain stream heard) served additions may open_yet = kept_all true (Happened Drain) served (λ id. refl) _ r.count
  done (Idles (Client piece)) served additions may open_yet = same_left (Happened (Client piece)) (λ id. refl) may.0.nothing
  done (Idles ClientEnd) served additions may open_yet = same_left (Happened ClientEnd) (λ id. refl) may.0.nothing
  done (Idles (ClientTook count)) served additions may open_yet = same_left (Happened (ClientTook count)) (λ id. refl) may.0.nothing
  done (Idles (Up k [])) served additions may open_yet = kept_all false (Happened (Up k [])) served (λ id. refl) _ r.count
  done (Idles (Up k (octet ∷ octets))) served additions may open_yet = kept_all false (Happened (Up k (octet ∷ octets))) served (λ id. refl) _ r.count
  done (Idles (UpEnd k)) served additions may open_yet = kept_all false (Happened (UpEnd k)) served (λ id. refl) _ r.count
  done (Idles (UpFailed k)) served additions may open_yet = kept_dropped false (Happened (UpFailed k)) served (λ id. refl) may.0.nothing k _ r.count
  done (Idles (UpTook k count)) served additions may open_yet = same_left (Happened (UpTook k count)) (λ id. refl) may.0.nothing
  done (Idles Drain) served additions may open_yet = same_left (Happened Drain) (λ id. refl) may.0.nothing
  done (Sends noted next) served additions may open_yet = kept_all false (Sent noted) served (λ id. refl) r.live r.count
  done (Goes noted item part next) served additions may open_yet = kept_all false (Sent noted) served (λ id. refl) r.live r.count
  done (Acts (Open k route)) served additions may open_yet = opened_one k route may
  done (Acts (ToUp k octets)) served additions may open_yet = put_one k octets may
  done (Acts (Close k)) served additions may open_yet = closed_one k may.nothing
  done (Acts CloseClient) served additions may open_yet = absurd (open_yet refl)
