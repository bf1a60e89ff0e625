-- A worked run by the whole rule begins: the settings of both sides, and their acknowledgement.
use Rattle.std.proofs.Common.{◌≡◌, ℕ, true, false, List, [], ◌∷◌, Option, Some, None, refl, inl}
use Rattle.std.specs.Prelude.{codes}
use Rattle.model.specs.Frames.{Frame, settings_frame, settings_ack}
use Rattle.model.specs.Tables.{first_table}
use Rattle.model.specs.Setup.{Setup}
use Rattle.model.specs.Setup.Policy.{Indexing}
use Rattle.model.specs.Setup.Passing.{Whole}
use Rattle.model.specs.Tapes.{Noted}
use Rattle.model.specs.Tapes.Note.{NoBlock}
use Rattle.model.specs.Tapes.Entry.{Came, Sent}
use Rattle.theory_responses.specs.State.{Kept}
use Rattle.theory.specs.Moves.{Decision, Move}
use Rattle.theory.specs.Moves.Addition.{Nothing}
use Rattle.theory.specs.Moves.Decision.{Takes, Sends}
use Rattle.theory.specs.Moves.Move.{Does, Settles}
use Rattle.theory.specs.State.{tape_of, summary_at, state_of}
use Rattle.theory.specs.Rule.{MayDo, AllAllowed, RestsBehind}

-- one route for every authority and path; requests and responses are passed on whole
abbrev pub setup : Setup
setup = record { routes = record { authority = []; path = codes "/" } ∷ []; policy = Indexing; passing = Whole; max_body = 1048576; max_response = 1048576; keep = false; most_idle = 8; more_room = 0 }

-- a frame by its parts
abbrev pub frame : ℕ → ℕ → ℕ → List ℕ → Frame
frame kind flags id payload = record { kind = kind; flags = flags; id = id; payload = payload }

-- a frame that completes no header block
abbrev pub plain : Frame → Noted
plain f = record { frame = f; note = NoBlock }

-- the decision may be done behind a run
abbrev pub May : List Move → Decision → Type 0
May run d = MayDo setup (summary_at setup run) (summary_at setup (Does d ∷ run)) (state_of setup run) d

-- a Bool that is false isn't true
pub never : {A : Type 0} → false ≡ true → A
never e = absurd (let clash : false ≡ true = e in cc)

-- ---- the moves

-- the gateway's settings
abbrev pub ours : Decision
ours = Sends (plain (settings_frame 0)) first_table

-- the client's settings
abbrev pub theirs : Decision
theirs = Takes (plain (frame 4 0 0 [])) first_table Nothing

-- and their acknowledgement
abbrev pub acked : Decision
acked = Sends (plain settings_ack) first_table

abbrev pub settings_sent : List Move
settings_sent = Does ours ∷ []

abbrev pub settings_came : List Move
settings_came = Does theirs ∷ settings_sent

abbrev pub greeted : List Move
greeted = Settles ∷ Does acked ∷ settings_came

-- the tape
pub greeted_tape : tape_of greeted ≡ Sent (plain settings_ack) ∷ Came (plain (frame 4 0 0 [])) ∷ Sent (plain (settings_frame 0)) ∷ []
greeted_tape = refl

-- ---- each may come

ours_may : May [] ours
ours_may = record {
  rests = λ e. never e;
  conduct = record { allowed = record { open_yet = refl; turn = inl (record { front = refl; control = refl; owing = refl; calm = refl }) }; fit = refl };
  offer = record { no_block = refl; no_data = refl };
  in_turn = λ e. never e;
  request = record { open_yet = refl; may = inl refl };
  additions = tt;
  calls = λ so. absurd (let no : false ≡ true = so in cc);
  table = record { together = refl; is_given = refl };
  window = record { kind = refl; over_with_it = refl };
}

-- no stream is kept
pub none_kept : {A : Type 0} {k : Kept} → ◌≡◌ {A = Option Kept} None (Some k) → A
none_kept found = absurd (let clash : ◌≡◌ {A = Option Kept} None (Some _) = found in cc)

sent_rests : RestsBehind setup settings_sent
sent_rests = record {
  conduct = record { nothing = refl; none_begun = refl; ended = λ e. never e };
  flushed = record { none_cut = λ low stream kept found. none_kept found; none_ready = λ low. refl };
  served = record { nothing = refl; none_done = refl; ended = λ e. never e };
  read = refl;
  given_back = λ open_yet. record { settled = refl; shared = refl; own = λ stream active goes_on. refl };
}

theirs_may : May settings_sent theirs
theirs_may = record {
  rests = λ e. sent_rests;
  conduct = record { allowed = record { open_yet = refl; turn = record { nothing = refl; none_begun = refl; goes_on = refl } }; fit = λ fine completes. never completes };
  offer = (sent_rests.flushed, refl, refl);
  in_turn = tt;
  request = record { open_yet = refl; may = record { nothing = refl; none_done = refl; goes_on = refl } };
  additions = refl;
  calls = λ so. absurd (let no : false ≡ true = so in cc);
  table = record { is_noted = refl };
  window = record { nothing = sent_rests.given_back refl; goes_on = refl; opens_it = refl; lives = λ e. never e; over_with_it = refl };
}

acked_may : May settings_came acked
acked_may = record {
  rests = λ e. never e;
  conduct = record { allowed = record { open_yet = refl; turn = inl (record { front = refl; control = refl; owing = refl; calm = refl }) }; fit = refl };
  offer = record { no_block = refl; no_data = refl };
  in_turn = λ e. never e;
  request = record { open_yet = refl; may = inl refl };
  additions = tt;
  calls = λ so. absurd (let no : false ≡ true = so in cc);
  table = record { together = refl; is_given = refl };
  window = record { kind = refl; over_with_it = refl };
}

-- ---- so the run is allowed, and rests

pub greeted_allowed : AllAllowed setup greeted
greeted_allowed = (((tt, ours_may), theirs_may), acked_may)

pub greeted_rests : RestsBehind setup greeted
greeted_rests = record {
  conduct = record { nothing = refl; none_begun = refl; ended = λ e. never e };
  flushed = record { none_cut = λ low stream kept found. none_kept found; none_ready = λ low. refl };
  served = record { nothing = refl; none_done = refl; ended = λ e. never e };
  read = refl;
  given_back = λ open_yet. record { settled = refl; shared = refl; own = λ stream active goes_on. never active };
}
