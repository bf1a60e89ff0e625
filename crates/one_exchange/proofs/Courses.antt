-- What becomes of streams is the same, and so is all that is owed.
use Rattle.std.proofs.Common.{◌≡◌, ℕ, not, ◌&&◌, ◌||◌, ◌==◌, List, [], ◌∷◌, ◌++◌, refl, sym, ap, ◌∙◌, subst, if◌then◌else◌}
use Rattle.std.specs.Prelude.{Option, Some, None, nat_lt, reverse}
use Rattle.model.specs.Frames.{Frame}
use Rattle.model.specs.Logs.Event.{Client, ClientEnd, ClientTook, Up, UpEnd, UpFailed, UpTook, Drain}
use Rattle.model.specs.Tapes.{Noted, Entry, sent}
use Rattle.model.specs.Tapes.Entry.{Came, Breached, Happened, Sent, Did}
use Rattle.model.specs.Errors.{Fault}
use Rattle.model.specs.Errors.Fault.{Connection, Stream, Discarded}
use Rattle.model.specs.Streams.{items_of}
use Rattle.model.specs.Openings.{given}
use Rattle.model.specs.Available.{items_on}
use Rattle.model.specs.Setup.{own_window}
use Rattle.model.specs.Known.{Known}
use Rattle.model.specs.Causes.{Cause}
use Rattle.model.specs.ErrorTable.{fault_with}
use Rattle.model.specs.Courses.{Course, upstream_of, carried, cause_at, interrupts, course_behind, about, new_cause, next_course, course, fault}
use Rattle.model.specs.ErrorClause.{rst_stream, last_goaway, acks, reset_for, reset_behind, resets, is_fatal, is_calming, controls, owed_first, owed_by, owed, calls_for_end, stands_in, must_end, IsFollowed, AreFollowed, IsCalm, AreCalm, EndsInTime, ErrorsHold}
use Rattle.model.specs.Lifetimes.{is_exhausted}
use Rattle.one_exchange.specs.Courses.{about_once, new_cause_once, next_course_once, course_once, fault_once}
use Rattle.one_exchange.specs.Errors.{owed_first_once, resets_once, owed_by_once, calls_for_end_once, stands_in_once, owed_once, must_end_once, AreFollowedOnce, IsCalmOnce, AreCalmOnce, EndsInTimeOnce, ErrorsHoldOnce}
use Rattle.one_exchange.proofs.Alone.{Stands, before, one_each}

module _ (known : Known) where
  -- ---- the course of a stream

  pub about_is : (t : List Entry) (e : Entry) → Stands known t → about_once t e ≡ about t e
  about_is t (Came noted) s = refl
  about_is t (Breached breach) s = refl
  about_is t (Happened event) s = ap (given (upstream_of event)) (sym (one_each known t s))
  about_is t (Sent noted) s = refl
  about_is t (Did act) s = refl

  next_is : (stream : ℕ) (t : List Entry) (e : Entry) (c : Course) → about_once t e ≡ about t e → next_course_once known stream t e c ≡ next_course known stream t e c
  next_is stream t e c same =
      let found = fault_with (own_window known.setup) (carried c) t e in
      let causes : new_cause_once known stream t e c found ≡ new_cause known stream t e c found =
      ap (λ (id : ℕ). if id == stream && nat_lt 0 stream then cause_at known c t e found else None) same in
      ap (λ (x : Option Cause). course_behind c (interrupts stream e found x) (items_of stream t e) x (items_on stream (sent t))) causes

  pub course_is : (stream : ℕ) (t : List Entry) → Stands known t → course_once known stream t ≡ course known stream t
  course_is stream [] s = refl
  course_is stream (e ∷ t) s =
      ap (next_course_once known stream t e) (course_is stream t (before known e t s))
      ∙ next_is stream t e (course known stream t) (about_is t e (before known e t s))

  pub fault_is : (t : List Entry) (e : Entry) → Stands known t → fault_once known t e ≡ fault known t e
  fault_is t e s =
      ap (λ (id : ℕ). fault_with (own_window known.setup) (carried (course_once known id t)) t e) (about_is t e s)
      ∙ ap (λ (c : Course). fault_with (own_window known.setup) (carried c) t e) (course_is (about t e) t s)

  -- ---- what is owed

  first_is : (t : List Entry) (e : Entry) (found : Option Fault) → Stands known t → owed_first_once t e found ≡ owed_first t e found
  first_is t e (Some (Connection code)) s = refl
  first_is t e (Some (Stream code)) s = ap (λ (id : ℕ). last_goaway t e ++ rst_stream id code ∷ []) (about_is t e s)
  first_is t e (Some Discarded) s = refl
  first_is t e None s = refl

  resets_is : (stream : ℕ) (t : List Entry) (e : Entry) → Stands known (e ∷ t) → resets_once known stream t e ≡ resets known stream t e
  resets_is stream t e s =
      ap (λ (c : Course). reset_for stream c.head_out (course_once known stream t).cause c.cause) (course_is stream (e ∷ t) s)
      ∙ (let now = course known stream (e ∷ t) in ap (λ (c : Course). reset_for stream now.head_out c.cause now.cause) (course_is stream t (before known e t s)))

  owed_by_is : (t : List Entry) (e : Entry) → Stands known (e ∷ t) → owed_by_once known t e ≡ owed_by known t e
  owed_by_is t e s =
      let was = before known e t s in
      let found = fault known t e in
      let behind : List Frame = reset_behind t e in
      ap (λ (x : Option Fault). owed_first_once t e x ++ (acks e x ++ (resets_once known (about_once t e) t e ++ behind))) (fault_is t e was)
      ∙ ap (λ (id : ℕ). owed_first_once t e found ++ (acks e found ++ (resets_once known id t e ++ behind))) (about_is t e was)
      ∙ ap (λ (frames : List Frame). owed_first_once t e found ++ (acks e found ++ (frames ++ behind))) (resets_is (about t e) t e s)
      ∙ ap (λ (frames : List Frame). frames ++ (acks e found ++ (resets known (about t e) t e ++ behind))) (first_is t e found was)

  pub calls_is : (t : List Entry) → Stands known t → calls_for_end_once known t ≡ calls_for_end known t
  calls_is [] s = refl
  calls_is (Came noted ∷ t) s = ap is_fatal (fault_is t (Came noted) (before known (Came noted) t s))
  calls_is (Breached breach ∷ t) s = refl
  calls_is (Happened (Client piece) ∷ t) s = refl
  calls_is (Happened ClientEnd ∷ t) s = refl
  calls_is (Happened (ClientTook count) ∷ t) s = refl
  calls_is (Happened (Up k piece) ∷ t) s = refl
  calls_is (Happened (UpEnd k) ∷ t) s = refl
  calls_is (Happened (UpFailed k) ∷ t) s = refl
  calls_is (Happened (UpTook k count) ∷ t) s = refl
  calls_is (Happened Drain ∷ t) s = refl
  calls_is (Sent noted ∷ t) s = ap (λ b. is_calming noted.frame || b) (calls_is t (before known (Sent noted) t s))
  calls_is (Did act ∷ t) s = calls_is t (before known (Did act) t s)

  pub stands_in_is : (t : List Entry) (noted : Noted) → Stands known t → stands_in_once known t noted ≡ stands_in known t noted
  stands_in_is t noted s = ap (λ b. is_calming noted.frame && not b) (calls_is t s)

  pub must_end_is : (t : List Entry) → Stands known t → must_end_once known t ≡ must_end known t
  must_end_is t s = ap (λ b. b || is_exhausted t) (calls_is t s)

  -- what an entry calls for, behind what all before it do
  more_is : (t : List Entry) (e : Entry) → Stands known (e ∷ t) → owed_once known t ≡ owed known t → reverse (owed_by_once known t e) ++ owed_once known t ≡ reverse (owed_by known t e) ++ owed known t
  more_is t e s same = λ i. reverse (owed_by_is t e s i) ++ same i

  pub owed_is : (t : List Entry) → Stands known t → owed_once known t ≡ owed known t
  owed_is [] s = refl
  owed_is (Came noted ∷ t) s = more_is t (Came noted) s (owed_is t (before known (Came noted) t s))
  owed_is (Breached breach ∷ t) s = more_is t (Breached breach) s (owed_is t (before known (Breached breach) t s))
  owed_is (Happened event ∷ t) s = more_is t (Happened event) s (owed_is t (before known (Happened event) t s))
  owed_is (Sent noted ∷ t) s =
      let was = before known (Sent noted) t s in
      let same = more_is t (Sent noted) s (owed_is t was) in
      λ i. if stands_in_is t noted was i then noted.frame ∷ controls (sent t) else same i
  owed_is (Did act ∷ t) s = more_is t (Did act) s (owed_is t (before known (Did act) t s))

  -- ---- the clause on errors

  followed_by : (frames : List Frame) (t : List Entry) (e : Entry) → Stands known t → IsFollowed frames (owed_first t e (fault known t e)) (fault known t e) → IsFollowed frames (owed_first_once t e (fault_once known t e)) (fault_once known t e)
  followed_by frames t e s f =
      subst (λ (found : Option Fault). IsFollowed frames (owed_first_once t e found) found) (sym (fault_is t e s))
      (subst (λ (first : List Frame). IsFollowed frames first (fault known t e)) (sym (first_is t e (fault known t e) s)) f)

  pub are_followed : (frames : List Frame) (t : List Entry) → Stands known t → AreFollowed known frames t → AreFollowedOnce known frames t
  are_followed frames [] s f = tt
  are_followed frames (Came noted ∷ t) s f =
      let was = before known (Came noted) t s in (followed_by frames t (Came noted) was f.0, are_followed frames t was f.1)
  are_followed frames (Breached breach ∷ t) s f =
      let was = before known (Breached breach) t s in (followed_by frames t (Breached breach) was f.0, are_followed frames t was f.1)
  are_followed frames (Happened event ∷ t) s f =
      let was = before known (Happened event) t s in (followed_by frames t (Happened event) was f.0, are_followed frames t was f.1)
  are_followed frames (Sent noted ∷ t) s f = are_followed (frames ++ noted.frame ∷ []) t (before known (Sent noted) t s) f
  are_followed frames (Did act ∷ t) s f =
      let was = before known (Did act) t s in (followed_by frames t (Did act) was f.0, are_followed frames t was f.1)

  is_calm : (t : List Entry) (noted : Noted) → Stands known t → IsCalm known t noted → IsCalmOnce known t noted
  is_calm t noted s c = record { uncrowded = c.uncrowded; in_place = λ e. c.in_place (sym (stands_in_is t noted s) ∙ e) }

  pub are_calm : (t : List Entry) → Stands known t → AreCalm known t → AreCalmOnce known t
  are_calm [] s c = tt
  are_calm (Came noted ∷ t) s c = are_calm t (before known (Came noted) t s) c
  are_calm (Breached breach ∷ t) s c = are_calm t (before known (Breached breach) t s) c
  are_calm (Happened event ∷ t) s c = are_calm t (before known (Happened event) t s) c
  are_calm (Sent noted ∷ t) s c = let was = before known (Sent noted) t s in (is_calm t noted was c.0, are_calm t was c.1)
  are_calm (Did act ∷ t) s c = are_calm t (before known (Did act) t s) c

  pub ends_in_time : (t : List Entry) → Stands known t → EndsInTime known t → EndsInTimeOnce known t
  ends_in_time [] s c = tt
  ends_in_time (Came noted ∷ t) s c = let was = before known (Came noted) t s in (must_end_is t was ∙ c.0, ends_in_time t was c.1)
  ends_in_time (Breached breach ∷ t) s c = let was = before known (Breached breach) t s in (must_end_is t was ∙ c.0, ends_in_time t was c.1)
  ends_in_time (Happened event ∷ t) s c = let was = before known (Happened event) t s in (must_end_is t was ∙ c.0, ends_in_time t was c.1)
  ends_in_time (Sent noted ∷ t) s c = ends_in_time t (before known (Sent noted) t s) c
  ends_in_time (Did act ∷ t) s c = ends_in_time t (before known (Did act) t s) c

  pub errors_hold : (t : List Entry) → Stands known t → ErrorsHold known t → ErrorsHoldOnce known t
  errors_hold t s h = record {
    begins = h.begins;
    just_owed = h.just_owed ∙ sym (owed_is t s);
    followed = are_followed [] t s h.followed;
    goaway_first = h.goaway_first;
    rightly_sent = h.rightly_sent;
    calm = are_calm t s h.calm;
    closed = h.closed ∙ sym (must_end_is t s);
    in_time = ends_in_time t s h.in_time;
  }
