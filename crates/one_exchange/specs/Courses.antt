-- What becomes of a stream, where an event of an upstream is about the stream that its connection was opened for.
use Rattle.std.specs.Prelude.{ℕ, false, ◌&&◌, ◌==◌, nat_lt, if◌then◌else◌, List, [], ◌∷◌, Option, None}
use Rattle.model.specs.Messages.{Item}
use Rattle.model.specs.Tapes.{Entry, sent}
use Rattle.model.specs.Tapes.Entry.{Came, Happened}
use Rattle.model.specs.Errors.{Fault}
use Rattle.model.specs.Streams.{items_of}
use Rattle.model.specs.Openings.{opens, given}
use Rattle.model.specs.Available.{items_on}
use Rattle.model.specs.Setup.{own_window}
use Rattle.model.specs.Known.{Known}
use Rattle.model.specs.Causes.{Cause}
use Rattle.model.specs.ErrorTable.{fault_with}
use Rattle.model.specs.Courses.{Course, upstream_of, carried, cause_at, interrupts, course_behind}

-- the stream that an entry is about, or 0
abbrev pub about_once : List Entry → Entry → ℕ
about_once t (Came noted) = noted.frame.id
about_once t (Happened event) = given (upstream_of event) (opens t)
about_once t _ = 0

-- the cause that an entry is for a stream
abbrev pub new_cause_once : Known → ℕ → List Entry → Entry → Course → Option Fault → Option Cause
new_cause_once known stream t e course found =
    if about_once t e == stream && nat_lt 0 stream then cause_at known course t e found else None

abbrev pub next_course_once : Known → ℕ → List Entry → Entry → Course → Course
next_course_once known stream t e course =
    let found = fault_with (own_window known.setup) (carried course) t e in
    let cause = new_cause_once known stream t e course found in
    course_behind course (interrupts stream e found cause) (items_of stream t e) cause (items_on stream (sent t))

-- what has become of a stream
abbrev pub course_once : Known → ℕ → List Entry → Course
course_once known stream [] = record { items = []; over = false; cause = None; head_out = false; heads_out = [] }
course_once known stream (e ∷ t) = next_course_once known stream t e (course_once known stream t)

-- the items of a stream
abbrev pub items_once : Known → ℕ → List Entry → List Item
items_once known stream t = (course_once known stream t).items

-- why the gateway answers a stream itself, if it does
abbrev pub cause_once : Known → ℕ → List Entry → Option Cause
cause_once known stream t = (course_once known stream t).cause

-- the fault of an entry behind a tape
abbrev pub fault_once : Known → List Entry → Entry → Option Fault
fault_once known t e = fault_with (own_window known.setup) (carried (course_once known (about_once t e) t)) t e
