-- The clause on errors, where each connection carries one exchange.
use Rattle.std.specs.Prelude.{◌≡◌, ℕ, Bool, true, false, not, ◌&&◌, ◌||◌, if◌then◌else◌, List, [], ◌∷◌, ◌++◌, map, reverse, Option, Some}
use Rattle.model.specs.Frames.{Frame, settings_frame, goaway}
use Rattle.model.specs.Logs.Event.{ClientEnd}
use Rattle.model.specs.Tapes.{Noted, Entry, sent, is_closed}
use Rattle.model.specs.Tapes.Entry.{Came, Breached, Happened, Sent, Did}
use Rattle.model.specs.Admission.{is_crowded}
use Rattle.model.specs.Errors.{Fault}
use Rattle.model.specs.Errors.Fault.{Connection, Stream}
use Rattle.model.specs.Known.{Known}
use Rattle.model.specs.Lifetimes.{highest, is_exhausted}
use Rattle.model.specs.ErrorClause.{rst_stream, last_goaway, code_of_goaway, acks, reset_for, reset_behind, is_fatal}
use Rattle.model.specs.ErrorClause.{is_calming, is_passing, controls, IsFollowed, GoawaysComeFirst, AreRightlySent}
use Rattle.model.specs.ErrorClause.{StandsInPlace}
use Rattle.one_exchange.specs.Courses.{about_once, course_once, fault_once}

-- what an entry calls for before all else
abbrev pub owed_first_once : List Entry → Entry → Option Fault → List Frame
owed_first_once t e (Some (Connection code)) = goaway (highest (e ∷ t)) (code_of_goaway t code) ∷ []
owed_first_once t e (Some (Stream code)) = last_goaway t e ++ rst_stream (about_once t e) code ∷ []
owed_first_once t e _ = last_goaway t e

-- the reset of a stream by a cause of a reply of the gateway's own, where a response's final head is out
abbrev pub resets_once : Known → ℕ → List Entry → Entry → List Frame
resets_once known stream t e =
    let now = course_once known stream (e ∷ t) in reset_for stream now.head_out (course_once known stream t).cause now.cause

-- what an entry calls for, the oldest first
abbrev pub owed_by_once : Known → List Entry → Entry → List Frame
owed_by_once known t e =
    let found = fault_once known t e in
    owed_first_once t e found ++ (acks e found ++ (resets_once known (about_once t e) t e ++ reset_behind t e))

-- the last that came in calls for the end, or a GOAWAY that asks the client to be calm
abbrev pub calls_for_end_once : Known → List Entry → Bool
calls_for_end_once known [] = false
calls_for_end_once known (Came noted ∷ t) = is_fatal (fault_once known t (Came noted))
calls_for_end_once known (Breached breach ∷ t) = true
calls_for_end_once known (Happened ClientEnd ∷ t) = true
calls_for_end_once known (Happened event ∷ t) = false
calls_for_end_once known (Sent noted ∷ t) = is_calming noted.frame || calls_for_end_once known t
calls_for_end_once known (Did act ∷ t) = calls_for_end_once known t

-- such a GOAWAY stands in place of another frame
abbrev pub stands_in_once : Known → List Entry → Noted → Bool
stands_in_once known t noted = is_calming noted.frame && not (calls_for_end_once known t)

-- what all entries call for, the newest first
abbrev pub owed_once : Known → List Entry → List Frame
owed_once known [] = settings_frame known.setup.more_room ∷ []
owed_once known (Came noted ∷ t) = reverse (owed_by_once known t (Came noted)) ++ owed_once known t
owed_once known (Breached breach ∷ t) = reverse (owed_by_once known t (Breached breach)) ++ owed_once known t
owed_once known (Happened event ∷ t) = reverse (owed_by_once known t (Happened event)) ++ owed_once known t
owed_once known (Sent noted ∷ t) =
    if stands_in_once known t noted
    then noted.frame ∷ controls (sent t)
    else reverse (owed_by_once known t (Sent noted)) ++ owed_once known t
owed_once known (Did act ∷ t) = reverse (owed_by_once known t (Did act)) ++ owed_once known t

-- Each entry of the tape is followed by what it calls for before all else, where these frames were sent behind the tape.
abbrev pub AreFollowedOnce : Known → List Frame → List Entry → Type 0
AreFollowedOnce known frames [] = Unit {0}
AreFollowedOnce known frames (Sent noted ∷ t) = AreFollowedOnce known (frames ++ noted.frame ∷ []) t
AreFollowedOnce known frames (e ∷ t) =
    IsFollowed frames (owed_first_once t e (fault_once known t e)) (fault_once known t e) × AreFollowedOnce known frames t

-- While too many octets are untaken just parts of responses go out, and such GOAWAYs, which stand in place of another frame there alone.
pub record IsCalmOnce (known : Known) (t : List Entry) (noted : Noted) : Type 0 where
  pub uncrowded : is_crowded t ≡ true → (is_passing noted || is_calming noted.frame) ≡ true
  pub in_place : stands_in_once known t noted ≡ true → StandsInPlace t noted.frame

abbrev pub AreCalmOnce : Known → List Entry → Type 0
AreCalmOnce known [] = Unit {0}
AreCalmOnce known (Sent noted ∷ t) = IsCalmOnce known t noted × AreCalmOnce known t
AreCalmOnce known (_ ∷ t) = AreCalmOnce known t

-- the connection with the client is to end
abbrev pub must_end_once : Known → List Entry → Bool
must_end_once known t = calls_for_end_once known t || is_exhausted t

-- Nothing comes in where it is to end.
abbrev pub EndsInTimeOnce : Known → List Entry → Type 0
EndsInTimeOnce known [] = Unit {0}
EndsInTimeOnce known (Sent noted ∷ t) = EndsInTimeOnce known t
EndsInTimeOnce known (Did act ∷ t) = EndsInTimeOnce known t
EndsInTimeOnce known (e ∷ t) = (must_end_once known t ≡ false) × EndsInTimeOnce known t

-- The clause: just what is owed was sent, in its order, and the client is closed just where the connection is to end.
pub record ErrorsHoldOnce (known : Known) (t : List Entry) : Type 0 where
  pub begins : (newer : List Frame) × (map (λ noted. noted.frame) (sent t) ≡ newer ++ settings_frame known.setup.more_room ∷ [])
  pub just_owed : controls (sent t) ≡ owed_once known t
  pub followed : AreFollowedOnce known [] t
  pub goaway_first : GoawaysComeFirst t
  pub rightly_sent : AreRightlySent t
  pub calm : AreCalmOnce known t
  pub closed : is_closed t ≡ must_end_once known t
  pub in_time : EndsInTimeOnce known t
