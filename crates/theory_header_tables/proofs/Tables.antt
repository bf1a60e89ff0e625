-- The invariant of the tables of both directions, and that each move keeps it.
use Rattle.std.proofs.Common.{◌≡◌, ℕ, ◌≤◌, Bool, true, false, not, ◌&&◌, if◌then◌else◌, List, [], ◌∷◌, ◌++◌, Option, Some, None, refl, sym, ◌∙◌, ap, subst, arith}
use Rattle.std.specs.Prelude.{is_some, is_none}
use Rattle.std.proofs.lemmas.Bool.{or_parts, and_parts, and_from}
use Rattle.model.specs.Tables.{Table}
use Rattle.model.specs.Limits.{first_maximum}
use Rattle.model.specs.Blocks.{IsBlock}
use Rattle.model.specs.Setup.{Policy}
use Rattle.model.specs.Tapes.{Note, Noted, Entry, came, sent}
use Rattle.model.specs.Tapes.Note.{NoBlock, Fields, Undecodable, Unread}
use Rattle.model.specs.Tapes.Entry.{Came, Breached, Happened, Sent, Did}
use Rattle.model.specs.Decoding.{Partial, begun, completed, Decodes, IsNoteOf, is_read, are_read}
use Rattle.model.specs.FrameErrors.{frame_fault, is_between}
use Rattle.model.specs.SettingValues.{settings_in, header_table_size, values_of}
use Rattle.model.specs.WindowsOnTape.{client_settings, are_taken, table_limit}
use Rattle.model.specs.Available.{is_decoded, are_decoded}
use Rattle.model.specs.Known.{Known}
use Rattle.model.specs.ResponseClause.{limits_since, AreWithin, KeepsLimits, KeepsIfBlock, EachKeeps, AreTogether, ResponsesHold}
use Rattle.model.specs.Headline.{OthersAreRead, HoldsInTurn}
use Rattle.model.specs.Synchrony.{IsInStep, IsInStepIfBlock, EachInStep}
use Rattle.header_blocks.specs.Encoding.{StandsFor}
use Rattle.header_blocks.specs.Chosen.{AreChosen}
use Rattle.theory_errors.specs.Judging.{completed_in}
use Rattle.theory_header_tables.specs.State.{State, Verdict, Move, entry_of, named_by, limit_and, table_after, encoding_after, taken, given, after, inserts, start, state_of, tape_of}
use Rattle.theory_header_tables.specs.State.Move.{Takes, Sends, Breaks, Hears, Acts}
use Rattle.theory_header_tables.specs.Rule.{IsNoted, MayTake, IsEncoded, IsGiven, MayGive, MayCome, AllCame}
use Rattle.theory_header_tables.specs.Kept.{IsJudged, IsJudgedIf, AllJudged, KeepTables, IsOffered}
use Rattle.theory_header_tables.proofs.Limits.{to_reach, stands_behind, reach_behind, keeps_within, same_maximum, last_maximum}
use Rattle.theory_header_tables.proofs.Settings.{limit_behind, named_behind}
use Rattle.theory_header_tables.proofs.Written.{written_by}

-- What is kept is what the tape leaves.
pub record Tables (policy : Policy) (t : List Entry) (s : State) : Type 0 where
  pub of_came : Decodes (came t) s.decoding
  pub read : s.unread ≡ false → are_read (came t) ≡ true
  pub others : s.lost ≡ false → OthersAreRead t
  pub of_sent : Decodes (sent t) s.encoding.table
  pub decoded : are_decoded (sent t) ≡ true
  pub together : AreTogether (sent t)
  pub limits : EachKeeps t
  pub written : EachInStep policy t
  pub stands : StandsFor (limits_since t) s.encoding.limits
  pub limit : table_limit t ≡ s.limit
  pub within : to_reach s.encoding.table.maximum s.encoding.limits ≤ s.limit
  pub indexing : s.encoding.indexing ≡ inserts policy

pub start_holds : (policy : Policy) → Tables policy [] (start policy)
start_holds policy = record {
  of_came = refl;
  read = λ e. refl;
  others = λ e. tt;
  of_sent = refl;
  decoded = refl;
  together = tt;
  limits = tt;
  written = tt;
  stands = refl;
  limit = refl;
  within = omega arith;
  indexing = refl;
}

-- ---- nothing of it happens

-- The entry is no frame.
abbrev pub IsNoFrame : Entry → Type 0
IsNoFrame (Came noted) = ⊥
IsNoFrame (Sent noted) = ⊥
IsNoFrame e = Unit {0}

pub tables_same : (policy : Policy) (t : List Entry) (e : Entry) (s : State) → IsNoFrame e → Tables policy t s → Tables policy (e ∷ t) s
tables_same policy t (Came noted) s frame h = absurd frame
tables_same policy t (Sent noted) s frame h = absurd frame
tables_same policy t (Breached breach) s frame h = record { of_came = h.of_came; read = h.read; others = h.others; of_sent = h.of_sent; decoded = h.decoded; together = h.together; limits = h.limits; written = h.written; stands = h.stands; limit = h.limit; within = h.within; indexing = h.indexing }
tables_same policy t (Happened event) s frame h = record { of_came = h.of_came; read = h.read; others = h.others; of_sent = h.of_sent; decoded = h.decoded; together = h.together; limits = h.limits; written = h.written; stands = h.stands; limit = h.limit; within = h.within; indexing = h.indexing }
tables_same policy t (Did act) s frame h = record { of_came = h.of_came; read = h.read; others = h.others; of_sent = h.of_sent; decoded = h.decoded; together = h.together; limits = h.limits; written = h.written; stands = h.stands; limit = h.limit; within = h.within; indexing = h.indexing }

-- ---- frames of the client

-- what is noted is right
note_right : (block : Option Partial) (is_error : Bool) (table : Table) (note : Note) (next : Table) → IsNoted block is_error table note next → IsNoteOf block table note (table_after block next table)
note_right None is_error table note next p = (p, refl)
note_right (Some block) true table note next p = subst (λ n. IsNoteOf (Some block) table n next) (sym p.0) p.1
note_right (Some block) false table note next p = p

only_read : (b : Bool) → (not b && not false) ≡ false → b ≡ true
only_read true e = refl
only_read false e = let clash : true ≡ false = e in cc

-- a block is left unread just where its frame is an error
read_right : (block : Option Partial) (is_error : Bool) (table : Table) (note : Note) (next : Table) → IsNoted block is_error table note next → (not (is_read note) && not is_error) ≡ false → is_read note ≡ not (is_some block && is_error)
read_right None is_error table note next p e = ap is_read p
read_right (Some block) true table note next p e = ap is_read p.0
read_right (Some block) false table note next p e = only_read (is_read note) e

not_unread : (b : Bool) → not b ≡ false → b ≡ true
not_unread true e = refl
not_unread false e = let clash : true ≡ false = e in cc

pub takes_keep : (policy : Policy) (t : List Entry) (s : State) (noted : Noted) (verdict : Verdict) (next : Table) → IsJudged t noted verdict → Tables policy t s → MayTake s noted verdict next → Tables policy (Came noted ∷ t) (taken s noted verdict next)
takes_keep policy t s noted verdict next j h may =
    let block : Option Partial = verdict.block in
    let same : block ≡ completed (came t) noted.frame = j.block in
    let values : List ℕ = values_of header_table_size (settings_in noted.frame.payload) in
    let is_taken : Bool = is_none (frame_fault t (Came noted)) && are_taken t (client_settings t) noted.frame in record {
      of_came = (
        s.decoding,
        h.of_came,
        subst (λ b. IsNoteOf b s.decoding noted.note (table_after block next s.decoding)) same (note_right block verdict.is_error s.decoding noted.note next may.is_taken.is_noted),
        h.read may.all_read,
      );
      read = λ e. let parts = or_parts s.unread (not (is_read noted.note)) e in and_from (is_read noted.note) (are_read (came t)) (not_unread (is_read noted.note) parts.1) (h.read parts.0);
      others = λ e. let parts = or_parts s.lost (not (is_read noted.note) && not verdict.is_error) e in (
        read_right block verdict.is_error s.decoding noted.note next may.is_taken.is_noted parts.1
            ∙ ap (λ b. not (is_some b && verdict.is_error)) same
            ∙ ap (λ b. not (is_some (completed (came t) noted.frame) && b)) j.error,
        h.others parts.0,
      );
      of_sent = h.of_sent;
      decoded = h.decoded;
      together = h.together;
      limits = h.limits;
      written = h.written;
      stands =
          subst (λ l. StandsFor l (taken s noted verdict next).encoding.limits)
          (ap (λ b. limits_since t ++ (if b then values else [])) j.taken ∙ named_behind is_taken (limits_since t) values)
          (stands_behind (named_by verdict noted.frame) (limits_since t) s.encoding.limits h.stands);
      limit =
          limit_behind is_taken header_table_size first_maximum (client_settings t) (settings_in noted.frame.payload)
          ∙ ap (λ b. limit_and (table_limit t) (if b then values else [])) (sym j.taken)
          ∙ ap (λ n. limit_and n (named_by verdict noted.frame)) h.limit;
      within = reach_behind s.encoding.table.maximum s.limit (named_by verdict noted.frame) None s.encoding.limits h.within;
      indexing = h.indexing;
    }

-- ---- frames to the client

-- what is decoded is read
decoded_read : (ns : List Noted) → are_decoded ns ≡ true → are_read ns ≡ true
decoded_read [] e = refl
decoded_read (noted ∷ ns) e = let parts = and_parts (is_decoded noted.note) (are_decoded ns) e in and_from (is_read noted.note) (are_read ns) (one noted.note parts.0) (decoded_read ns parts.1)
  where
    one : (note : Note) → is_decoded note ≡ true → is_read note ≡ true
    one NoBlock d = refl
    one (Fields fields) d = refl
    one Undecodable d = refl
    one Unread d = d

module _ (policy : Policy) (t : List Entry) (s : State) (noted : Noted) (before : Option Partial) (next : Table) (j : before ≡ begun (sent t)) (h : Tables policy t s) where
  -- the state, where the frame completes this block or none
  abbrev pub given_by : Option Partial → State
  given_by block = record s { encoding = encoding_after block next s.encoding }

  -- what holds of any frame
  any_given : (block : Option Partial) → completed (sent t) noted.frame ≡ block → is_between before noted.frame ≡ false → is_decoded noted.note ≡ true → IsNoteOf block s.encoding.table noted.note (given_by block).encoding.table
      → KeepsIfBlock t block → IsInStepIfBlock policy t block → StandsFor (if is_some block then [] else limits_since t) (given_by block).encoding.limits → to_reach (given_by block).encoding.table.maximum (given_by block).encoding.limits ≤ s.limit → (given_by block).encoding.indexing ≡ s.encoding.indexing
      → Tables policy (Sent noted ∷ t) (given_by block)
  any_given block whole together decoded note keeps step stands within same = record {
    of_came = h.of_came;
    read = h.read;
    others = h.others;
    of_sent = (s.encoding.table, h.of_sent, subst (λ b. IsNoteOf b s.encoding.table noted.note (given_by block).encoding.table) (sym whole) note, decoded_read (sent t) h.decoded);
    decoded = and_from (is_decoded noted.note) (are_decoded (sent t)) decoded h.decoded;
    together = (ap (λ b. is_between b noted.frame) (sym j) ∙ together, h.together);
    limits = (subst (KeepsIfBlock t) (sym whole) keeps, h.limits);
    written = (subst (IsInStepIfBlock policy t) (sym whole) step, h.written);
    stands = subst (λ b. StandsFor (if is_some b then [] else limits_since t) (given_by block).encoding.limits) (sym whole) stands;
    limit = h.limit;
    within = within;
    indexing = same ∙ h.indexing;
  }

  -- a frame that completes no block
  none_whole : completed (sent t) noted.frame ≡ None → is_between before noted.frame ≡ false → noted.note ≡ NoBlock → Tables policy (Sent noted ∷ t) (given_by None)
  none_whole none together note = any_given None none together (ap is_decoded note) (note, refl) tt tt h.stands h.within refl

  -- a frame that completes one
  module _ (block : Partial) (w : IsEncoded s.encoding block noted.note next) where
    -- the block with its maxima and fields
    abbrev spelled : IsBlock s.encoding.table block.fragments w.encodes.maxima w.fields next
    spelled = w.encodes.is_block

    within_now : AreWithin s.encoding.table.maximum (limits_since t) s.limit w.encodes.maxima
    within_now = keeps_within s.encoding.table.maximum (limits_since t) s.encoding.limits s.limit w.encodes.maxima h.stands h.within (w.encodes.due (limits_since t) h.stands)

    kept : KeepsLimits t block
    kept = record { table = s.encoding.table; decodes = h.of_sent; maxima = w.encodes.maxima; fields = w.fields; next = next; is_block = spelled; within = subst (λ n. AreWithin s.encoding.table.maximum (limits_since t) n w.encodes.maxima) (sym h.limit) within_now }

    in_step : IsInStep policy t block
    in_step = record {
      table = s.encoding.table;
      decodes = h.of_sent;
      front = spelled.front;
      rest = spelled.rest;
      is = spelled.is;
      maxima = w.encodes.maxima;
      between = spelled.between;
      are_maxima = spelled.are_maxima;
      called_for = w.encodes.due (limits_since t) h.stands;
      fields = w.fields;
      next = next;
      written = written_by policy spelled.between next spelled.rest w.fields (subst (λ b. AreChosen b spelled.between spelled.rest w.fields next) h.indexing w.encodes.chosen);
    }

    note_given : IsNoteOf (Some block) s.encoding.table noted.note next
    note_given = subst (λ n. IsNoteOf (Some block) s.encoding.table n next) (sym w.is_noted) (record { maxima = w.encodes.maxima; is_block = spelled })

    one_whole : completed (sent t) noted.frame ≡ Some block → is_between before noted.frame ≡ false → Tables policy (Sent noted ∷ t) (given_by (Some block))
    one_whole whole together =
        let reached = same_maximum spelled.between next spelled.rest w.fields spelled.are_fields in
        let announced = last_maximum s.encoding.table.maximum None s.encoding.table spelled.between spelled.front w.encodes.maxima refl spelled.are_maxima in
        let stands = within_now.stands in
        any_given (Some block) whole together (ap is_decoded w.is_noted) note_given kept in_step refl (omega (arith, reached, announced, stands)) refl

  gives_by : (block : Option Partial) → completed (sent t) noted.frame ≡ block → is_between before noted.frame ≡ false → IsGiven block s.encoding noted.note next → Tables policy (Sent noted ∷ t) (given_by block)
  gives_by None whole together g = none_whole whole together g
  gives_by (Some block) whole together g = one_whole block g whole together

  pub gives_keep : MayGive s noted before next → Tables policy (Sent noted ∷ t) (given s noted before next)
  gives_keep may = gives_by (completed_in before noted.frame) (ap (λ b. completed_in b noted.frame) (sym j)) may.together may.is_given

-- ---- any move

pub moves_keep : (policy : Policy) (t : List Entry) (s : State) (m : Move) → IsJudgedIf t m → Tables policy t s → MayCome s m → Tables policy (entry_of m ∷ t) (after s m)
moves_keep policy t s (Takes noted verdict next) j h may = takes_keep policy t s noted verdict next j h may
moves_keep policy t s (Sends noted before next) j h may = gives_keep policy t s noted before next j h may
moves_keep policy t s (Breaks breach) j h may = tables_same policy t (Breached breach) s tt h
moves_keep policy t s (Hears event) j h may = tables_same policy t (Happened event) s tt h
moves_keep policy t s (Acts act) j h may = tables_same policy t (Did act) s tt h

pub run_holds : (policy : Policy) (moves : List Move) → AllJudged moves → AllCame policy moves → Tables policy (tape_of moves) (state_of policy moves)
run_holds policy [] j a = start_holds policy
run_holds policy (m ∷ moves) j a = moves_keep policy (tape_of moves) (state_of policy moves) m j.1 (run_holds policy moves j.0 a.0) a.1

-- What the rule keeps.
pub tables_kept : (policy : Policy) (t : List Entry) (s : State) → Tables policy t s → KeepTables policy t s
tables_kept policy t s h = record { of_came = h.of_came; of_sent = h.of_sent; others_are_read = h.others; decoded = h.decoded; together = h.together; limits = h.limits; written = h.written }

-- ---- the clause on responses

-- What the rule keeps of blocks, where each is whole and what was delivered was on offer, is the clause.
pub responses_by : (policy : Policy) (known : Known) (t : List Entry) (s : State) → Tables policy t s → IsOffered known t → ResponsesHold known t
responses_by policy known t s h offered = record { table = s.encoding.table; decodes = h.of_sent; decoded = h.decoded; together = h.together; none_begun = offered.none_begun; limits = h.limits; delivered = offered.delivered }

-- the same in turn, one entry more
one_in_turn : (known : Known) (t : List Entry) (e : Entry) → (IsOffered known t → ResponsesHold known t) → (HoldsInTurn (IsOffered known) t → HoldsInTurn (ResponsesHold known) t) → HoldsInTurn (IsOffered known) (e ∷ t) → HoldsInTurn (ResponsesHold known) (e ∷ t)
one_in_turn known t (Came noted) at before h = (at h.0, before h.1)
one_in_turn known t (Breached breach) at before h = (at h.0, before h.1)
one_in_turn known t (Happened event) at before h = (at h.0, before h.1)
one_in_turn known t (Sent noted) at before h = before h
one_in_turn known t (Did act) at before h = before h

pub responses_in_turn : (policy : Policy) (known : Known) (moves : List Move) → AllJudged moves → AllCame policy moves → HoldsInTurn (IsOffered known) (tape_of moves) → HoldsInTurn (ResponsesHold known) (tape_of moves)
responses_in_turn policy known [] j a h = tt
responses_in_turn policy known (m ∷ moves) j a h =
    one_in_turn known (tape_of moves) (entry_of m) (responses_by policy known (tape_of moves) (state_of policy moves) (run_holds policy moves j.0 a.0)) (responses_in_turn policy known moves j.0 a.0) h
