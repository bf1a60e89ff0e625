-- What the rule keeps, and what is asked of others for it.
use Rattle.std.specs.Prelude.{◌≡◌, ℕ, true, false, ◌&&◌, List, [], ◌∷◌, None, is_some, is_none}
use Rattle.model.specs.Setup.{Policy}
use Rattle.model.specs.Tapes.{Noted, Entry, came, sent}
use Rattle.model.specs.Tapes.Entry.{Came}
use Rattle.model.specs.Decoding.{begun, completed, Decodes}
use Rattle.model.specs.Known.{Known}
use Rattle.model.specs.Offers.{IsDelivered}
use Rattle.model.specs.Errors.{first_of}
use Rattle.model.specs.ErrorTable.{rows_before_block}
use Rattle.model.specs.FrameErrors.{frame_fault}
use Rattle.model.specs.WindowsOnTape.{client_settings, are_taken}
use Rattle.model.specs.Available.{are_decoded}
use Rattle.model.specs.ResponseClause.{EachKeeps, AreTogether}
use Rattle.model.specs.Headline.{OthersAreRead}
use Rattle.model.specs.Synchrony.{EachInStep}
use Rattle.theory_header_tables.specs.State.{State, Verdict, Move, tape_of}
use Rattle.theory_header_tables.specs.State.Move.{Takes, Sends}

-- The verdict on a frame behind a tape is the one of the error table, and the block that it completes is the tape's.
pub record IsJudged (t : List Entry) (noted : Noted) (verdict : Verdict) : Type 0 where
  pub error : verdict.is_error ≡ is_some (first_of (rows_before_block t (Came noted)))
  pub taken : verdict.is_taken ≡ (is_none (frame_fault t (Came noted)) && are_taken t (client_settings t) noted.frame)
  pub block : verdict.block ≡ completed (came t) noted.frame

-- What is said of a move's frame is so: the verdict, or the block that was begun before it.
abbrev pub IsJudgedIf : List Entry → Move → Type 0
IsJudgedIf t (Takes noted verdict next) = IsJudged t noted verdict
IsJudgedIf t (Sends noted before next) = before ≡ begun (sent t)
IsJudgedIf t _ = Unit {0}

-- It is so of each move.
abbrev pub AllJudged : List Move → Type 0
AllJudged [] = Unit {0}
AllJudged (m ∷ moves) = AllJudged moves × IsJudgedIf (tape_of moves) m

-- The tables that are kept are those behind the tape, as the other side has them; and what was sent keeps the client's limits,
-- stands together and is written as the policy says.
pub record KeepTables (policy : Policy) (t : List Entry) (s : State) : Type 0 where
  pub of_came : Decodes (came t) s.decoding
  pub of_sent : Decodes (sent t) s.encoding.table
  pub others_are_read : s.lost ≡ false → OthersAreRead t
  pub decoded : are_decoded (sent t) ≡ true
  pub together : AreTogether (sent t)
  pub limits : EachKeeps t
  pub written : EachInStep policy t

-- What the others keep of responses: no header block to the client is begun (`theory_errors`), and what was delivered was on offer (`theory_responses`).
pub record IsOffered (known : Known) (t : List Entry) : Type 0 where
  pub none_begun : begun (sent t) ≡ None
  pub delivered : (stream : ℕ) → IsDelivered known t stream
