-- A run by the rule with a stream: it is opened, granted octets and sent some; a response ends it before its request, which
-- calls for its reset; what comes on it behind that is discarded, and nothing is kept of it but that the gateway reset it.
use Rattle.std.proofs.Common.{◌≡◌, ℕ, true, false, List, [], ◌∷◌, drop, refl, inl, inr}
use Rattle.std.specs.Prelude.{codes}
use Rattle.model.specs.Messages.{Field}
use Rattle.model.specs.Tables.{total_size}
use Rattle.model.specs.Frames.{Frame, data_kind, headers_kind, settings_kind, window_update_kind, settings_frame, settings_ack, no_error, spell_number}
use Rattle.model.specs.Setup.{Setup}
use Rattle.model.specs.Setup.Policy.{Plain}
use Rattle.model.specs.Setup.Passing.{Whole}
use Rattle.model.specs.Tapes.{Noted}
use Rattle.model.specs.Tapes.Note.{NoBlock, Fields}
use Rattle.model.specs.Tapes.Entry.{Came, Sent}
use Rattle.model.specs.ErrorClause.{rst_stream, ErrorsHold}
use Rattle.theory_errors.specs.Rows.Slot.{Over}
use Rattle.theory_errors.specs.Rule.{Move, tape_of, known_of}
use Rattle.theory_errors.specs.Summary.{Summary}
use Rattle.theory_errors.specs.Owing.{is_rightly_sent_in}
use Rattle.theory_errors.specs.Book.{summary_in, Rests, ledger_of, AllMoved}
use Rattle.theory_errors.proofs.Knowing.{known_so}
use Rattle.theory_errors.proofs.Book.{errors_hold_by_book}

-- one route for all, and bodies of a megabyte
abbrev setup : Setup
setup = record { routes = record { authority = []; path = codes "/" } ∷ []; policy = Plain; passing = Whole; max_body = 1048576; max_response = 1048576; keep = false; most_idle = 8; more_room = 0 }

abbrev frame : ℕ → ℕ → ℕ → List ℕ → Frame
frame kind flags id payload = record { kind = kind; flags = flags; id = id; payload = payload }

abbrev plain : Frame → Noted
plain f = record { frame = f; note = NoBlock }

abbrev comes : Noted → Move
comes noted = record { entry = Came noted; fails = false }

abbrev sends : Noted → Move
sends noted = record { entry = Sent noted; fails = false }

abbrev field : List ℕ → List ℕ → Field
field name value = record { name = name; value = value }

abbrev post : List Field
post = field (codes ":method") (codes "POST") ∷ field (codes ":scheme") (codes "http") ∷ field (codes ":path") (codes "/") ∷ field (codes ":authority") (codes "www.example.com") ∷ []

-- the moves, the newest first
abbrev run : List Move
run =
    comes (plain (frame data_kind 1 1 (4 ∷ [])))
    ∷ sends (plain (rst_stream 1 no_error))
    ∷ sends (record { frame = frame headers_kind 5 1 (136 ∷ []); note = Fields (field (codes ":status") (codes "200") ∷ []) })
    ∷ sends (plain (frame window_update_kind 0 1 (spell_number 3)))
    ∷ comes (plain (frame data_kind 0 1 (1 ∷ 2 ∷ 3 ∷ [])))
    ∷ comes (plain (frame window_update_kind 0 1 (spell_number 1000)))
    ∷ comes (record { frame = frame headers_kind 4 1 []; note = Fields post })
    ∷ sends (plain settings_ack)
    ∷ comes (plain (frame settings_kind 0 0 []))
    ∷ sends (plain (settings_frame 0))
    ∷ []

-- a frame without a header block has its note, and so has one with it
no_block : {A : Type 0} → A → false ≡ true → false ≡ true
no_block a x = x

has_block : {A : Type 0} → A → true ≡ true → true ≡ true
has_block a x = x

-- each might come where it came
run_moved : AllMoved setup run
unfolding total_size
run_moved = (
  (
    (
      (
        (
          (
            (
              (
                (
                  (
                    tt,
                    record { allowed = record { open_yet = refl; turn = inl (record { front = refl; control = refl; owing = refl; calm = refl }) }; fit = refl },
                  ),
                  record { allowed = record { open_yet = refl; turn = record { nothing = refl; none_begun = refl; goes_on = refl } }; fit = no_block },
                ),
                record { allowed = record { open_yet = refl; turn = inl (record { front = refl; control = refl; owing = refl; calm = refl }) }; fit = refl },
              ),
              record { allowed = record { open_yet = refl; turn = record { nothing = refl; none_begun = refl; goes_on = refl } }; fit = has_block },
            ),
            record { allowed = record { open_yet = refl; turn = record { nothing = refl; none_begun = refl; goes_on = refl } }; fit = no_block },
          ),
          record { allowed = record { open_yet = refl; turn = record { nothing = refl; none_begun = refl; goes_on = refl } }; fit = no_block },
        ),
        record { allowed = record { open_yet = refl; turn = inr (inl (record { nothing = refl; goes_on = refl; passing = refl; rightly = refl })) }; fit = refl },
      ),
      record { allowed = record { open_yet = refl; turn = inr (inl (record { nothing = refl; goes_on = refl; passing = refl; rightly = refl })) }; fit = refl },
    ),
    record { allowed = record { open_yet = refl; turn = inl (record { front = refl; control = refl; owing = refl; calm = refl }) }; fit = refl },
  ),
  record { allowed = record { open_yet = refl; turn = record { nothing = refl; none_begun = refl; goes_on = refl } }; fit = no_block },
)

-- what is left of the stream
row_left : (ledger_of setup run).book.rows ≡ record { id = 1; slot = Over true } ∷ []
unfolding total_size
row_left = refl

-- ---- what might not be sent in place of the response's head: one without octets, one that is padded, and any while as many octets are
-- untaken as the high water

-- what is kept before the head
abbrev before_head : Summary
before_head = summary_in (ledger_of setup (drop 3 run)).book

head_goes : is_rightly_sent_in before_head (frame headers_kind 5 1 (136 ∷ [])) ≡ true
unfolding total_size
head_goes = refl

no_empty_head : is_rightly_sent_in before_head (frame headers_kind 5 1 []) ≡ false
unfolding total_size
no_empty_head = refl

no_padded_head : is_rightly_sent_in before_head (frame headers_kind 13 1 (0 ∷ 136 ∷ [])) ≡ false
unfolding total_size
no_padded_head = refl

no_head_at_high_water : is_rightly_sent_in (record before_head { untaken = 65536 }) (frame headers_kind 5 1 (136 ∷ [])) ≡ false
unfolding total_size
no_head_at_high_water = refl

run_rests : Rests (ledger_of setup run)
unfolding total_size
run_rests = record { nothing = refl; none_begun = refl; ended = λ ends. absurd (let no : false ≡ true = ends in cc) }

-- The clause on errors holds behind them.
pub run_holds : ErrorsHold (known_of setup run) (tape_of run)
run_holds = errors_hold_by_book (known_of setup run) run (known_so setup run) run_moved run_rests
