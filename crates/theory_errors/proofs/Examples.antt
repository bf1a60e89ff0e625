-- A run by the rule: settings, a PING, and DATA on a stream that wasn't opened, which ends the connection.
use Rattle.std.proofs.Common.{◌≡◌, ℕ, true, false, List, [], ◌∷◌, refl, inl}
use Rattle.model.specs.Frames.{Frame, data_kind, settings_kind, ping_kind, settings_frame, settings_ack, goaway, protocol_error}
use Rattle.model.specs.Setup.{Setup}
use Rattle.model.specs.Logs.Act.{CloseClient}
use Rattle.model.specs.Tapes.{Noted}
use Rattle.model.specs.Tapes.Note.{NoBlock}
use Rattle.model.specs.Tapes.Entry.{Came, Sent, Did}
use Rattle.model.specs.ErrorClause.{ping_ack, ErrorsHold}
use Rattle.theory_errors.specs.Rule.{Move, tape_of, known_of}
use Rattle.theory_errors.specs.Book.{Rests, ledger_of, AllMoved}
use Rattle.theory_errors.proofs.Knowing.{known_so}
use Rattle.theory_errors.proofs.Book.{errors_hold_by_book}

-- a frame without a header block
abbrev plain : ℕ → ℕ → List ℕ → Noted
plain kind id payload = record { frame = record { kind = kind; flags = 0; id = id; payload = payload }; note = NoBlock }

abbrev sends : Frame → Move
sends frame = record { entry = Sent (record { frame = frame; note = NoBlock }); fails = false }

abbrev comes : Noted → Move
comes noted = record { entry = Came noted; fails = false }

abbrev eight : List ℕ
eight = 1 ∷ 2 ∷ 3 ∷ 4 ∷ 5 ∷ 6 ∷ 7 ∷ 8 ∷ []

-- windows are as at first
abbrev usual : Setup → Setup
usual setup = record setup { more_room = 0 }

-- the moves, the newest first
abbrev run : List Move
run =
    record { entry = Did CloseClient; fails = false }
    ∷ sends (goaway 0 protocol_error)
    ∷ comes (plain data_kind 1 [])
    ∷ sends (ping_ack eight)
    ∷ comes (plain ping_kind 0 eight)
    ∷ sends settings_ack
    ∷ comes (plain settings_kind 0 [])
    ∷ sends (settings_frame 0)
    ∷ []

-- a frame without a header block has its note
no_block : {A : Type 0} → A → false ≡ true → false ≡ true
no_block a x = x

-- each might come where it came
run_moved : (setup : Setup) → AllMoved (usual setup) run
run_moved setup = (
  (
    (
      (
        (
          (
            (
              (
                tt,
                record { allowed = record { open_yet = refl; turn = inl (record { front = refl; control = refl; owing = refl; calm = refl }) }; fit = refl },
              ),
              record { allowed = record { open_yet = refl; turn = record { nothing = refl; none_begun = refl; goes_on = refl } }; fit = no_block },
            ),
            record { allowed = record { open_yet = refl; turn = inl (record { front = refl; control = refl; owing = refl; calm = refl }) }; fit = refl },
          ),
          record { allowed = record { open_yet = refl; turn = record { nothing = refl; none_begun = refl; goes_on = refl } }; fit = no_block },
        ),
        record { allowed = record { open_yet = refl; turn = inl (record { front = refl; control = refl; owing = refl; calm = refl }) }; fit = refl },
      ),
      record { allowed = record { open_yet = refl; turn = record { nothing = refl; none_begun = refl; goes_on = refl } }; fit = no_block },
    ),
    record { allowed = record { open_yet = refl; turn = inl (record { front = refl; control = refl; owing = refl; calm = refl }) }; fit = refl },
  ),
  record { allowed = record { open_yet = refl; turn = record { nothing = refl; to_end = refl } }; fit = tt },
)

run_rests : (setup : Setup) → Rests (ledger_of (usual setup) run)
run_rests setup = record { nothing = refl; none_begun = refl; ended = λ ends. refl }

-- The clause on errors holds behind them.
pub run_holds : (setup : Setup) → ErrorsHold (known_of (usual setup) run) (tape_of run)
run_holds setup = errors_hold_by_book (known_of (usual setup) run) run (known_so (usual setup) run) (run_moved setup) (run_rests setup)
